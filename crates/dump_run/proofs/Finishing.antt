-- What is left of a dump, done step by step.
use Rattle.std.proofs.Common.{◌≡◌, ℕ, zero, suc, ◌+◌, ◌-◌, ◌^◌, ◌<◌, ◌≤◌, List, [], ◌∷◌, ◌++◌, length, drop, Bool, true, false, refl, sym, ap, ◌∙◌, subst, append_assoc, append-nil, Option, Some, None, Result, Ok, Err, inl, inr, arith}
use Rattle.std.specs.Prelude.{◌⊎◌, min, nat_le, slice_get, if◌then◌else◌}
use Rattle.std.proofs.lemmas.Bool.{leb-false}
use Rattle.bson_value.specs.declared.value.Ts.{Ts}
use Rattle.capped_oplog.specs.Ring.{Entry}
use Rattle.dump_run.specs.Rings.{until}
use Rattle.std.specs.FinMap as map
use Rattle.bson_value.specs.declared.namespace.NsName.{NsName}
use Rattle.tool_io.specs.Causes.{Rose}
use Rattle.tool_io.specs.Ends.{End}
use Rattle.tool_io.proofs.Writes.{appends_none, appends_two, front_whole, front_first, front_next}
use Rattle.schedule_model.specs.declared.line.Line.{Line}
use Rattle.schedule_model.specs.declared.line.Line.TheVariants as lines
use Rattle.history_model.specs.Stages.{Caps, Stage, not_later}
use Rattle.history_model.specs.Invariants.{RunOk}
use Rattle.history_model.specs.Laws.{Whole}
use Rattle.history_model.specs.Runs.{Run, DumpState, Outcome, Done, Renamed, Rolled, Refusal, NotNow, NoCursor, on_line, repeated, last_step, names_in, copied_out, marked_out, tailed_out, begun, finished}
use Rattle.history_model.proofs.Finished.{finish_whole}
use Rattle.store_core.specs.Stores.{Stored, StandsAt}
use Rattle.dump_run.specs.declared.fault.DumpFault.{DumpFault}
use Rattle.dump_run.specs.declared.fault.DumpFault.TheVariants as faults
use Rattle.dump_run.specs.Dumps.{Dumping, Meets}
use Rattle.dump_run.specs.Calls.{steps_text, Writes, WritesFront, ComesTo, Fails, Does}
use Rattle.dump_run.specs.Faults.{is_refusal}
use Rattle.dump_run.proofs.Repeating.{Grows, Later, IsTurn, later_refl, later_trans, taken, stays, goes, repeated_later, copied_later, copy_stops, tail_stops}
use Rattle.dump_run.proofs.Reading.{some_is, none_some}

-- ---- what is written

pub writes_none : (r : Run) (a : Option (List ℕ)) → Writes r r a a
writes_none r a = ([], sym (append-nil (steps_text r.steps)), appends_none a)

writes_same : (r s : Run) (a : Option (List ℕ)) → s.steps ≡ r.steps → Writes r s a a
writes_same r s a e = ([], ap steps_text e ∙ sym (append-nil (steps_text r.steps)), appends_none a)

joined : (r s t : Run) (xs ys : List ℕ) → steps_text s.steps ≡ steps_text r.steps ++ xs → steps_text t.steps ≡ steps_text s.steps ++ ys → steps_text t.steps ≡ steps_text r.steps ++ (xs ++ ys)
joined r s t xs ys e f = f ∙ (ap (λ (z : List ℕ). z ++ ys) e ∙ append_assoc (steps_text r.steps) xs ys)

pub writes_two : (r s t : Run) (a b c : Option (List ℕ)) → Writes r s a b → Writes s t b c → Writes r t a c
writes_two r s t a b c v w = (v.0 ++ w.0, joined r s t v.0 w.0 v.1 w.1, appends_two a b c v.0 w.0 v.2 w.2)

front_two : (r s t : Run) (a b c : Option (List ℕ)) → Writes r s a b → WritesFront s t b c → WritesFront r t a c
front_two r s t a b c v w = (v.0 ++ w.0, joined r s t v.0 w.0 v.1 w.1, front_next a b c v.0 w.0 v.2 w.2)

front_of : (r s : Run) (a b : Option (List ℕ)) → Writes r s a b → WritesFront r s a b
front_of r s a b v = (v.0, v.1, front_whole a b v.0 v.2)

front_on : (r s t : Run) (a b : Option (List ℕ)) → WritesFront r s a b → Grows s t → WritesFront r t a b
front_on r s t a b v g = (v.0 ++ g.0, joined r s t v.0 g.0 v.1 g.1, front_first a b v.0 g.0 v.2)

-- ---- faults

renamed_done : (ts : _) → Renamed ts ≡ Done → ⊥
renamed_done ts e = cc

rolled_done : (a b : _) → Rolled a b ≡ Done → ⊥
rolled_done a b e = cc

-- all that was to come behind a fault does nothing, or wasn't written
pub fails_on : (c : Caps) (f : DumpFault) (r s t : Run) (new : Dumping) (a b : End) → Fails f r s new a b → Later c s t → Fails f r t new a b
fails_on c (faults.Renamed ts) r s t new a b h l = by l.same
  where
    by : (s.outcome ≡ Done) ⊎ (t ≡ s) → Fails (faults.Renamed ts) r t new a b
    by (inl x) = absurd (renamed_done ts (sym h.0 ∙ x))
    by (inr x) = subst (λ (z : Run). Fails (faults.Renamed ts) r z new a b) (sym x) h
fails_on c (faults.Rolled p q) r s t new a b h l = by l.same
  where
    by : (s.outcome ≡ Done) ⊎ (t ≡ s) → Fails (faults.Rolled p q) r t new a b
    by (inl x) = absurd (rolled_done p q (sym h.0 ∙ x))
    by (inr x) = subst (λ (z : Run). Fails (faults.Rolled p q) r z new a b) (sym x) h
fails_on c faults.WriteFault r s t new a b h l = (front_on r s t a.bytes b.bytes h.0 l.grows, h.1)
fails_on c faults.NoMemory r s t new a b h l = (front_on r s t a.bytes b.bytes h.0 l.grows, h.1)
fails_on c faults.NotNow r s t new a b h l = h
fails_on c faults.NoCursor r s t new a b h l = h

-- what was written before is written too
pub fails_behind : (f : DumpFault) (r s t : Run) (new : Dumping) (a b e : End) → Writes r s a.bytes b.bytes → Fails f s t new b e → Fails f r t new a e
fails_behind (faults.Renamed ts) r s t new a b e w h = (h.0, writes_two r s t a.bytes b.bytes e.bytes w h.1, h.2)
fails_behind (faults.Rolled p q) r s t new a b e w h = (h.0, writes_two r s t a.bytes b.bytes e.bytes w h.1, h.2)
fails_behind faults.WriteFault r s t new a b e w h = (front_two r s t a.bytes b.bytes e.bytes w h.0, h.1)
fails_behind faults.NoMemory r s t new a b e w h = (front_two r s t a.bytes b.bytes e.bytes w h.0, h.1)
fails_behind faults.NotNow r s t new a b e w h = h
fails_behind faults.NoCursor r s t new a b e w h = h

-- ---- steps that are repeated

-- where a dump stands that repeats steps up to a goal
pub record Turning (c : Caps) (l : Line) (goal r : Run) (d : Dumping) (before after : Option (List ℕ)) : Type 0 where
  pub at : Run
  pub left : ℕ
  pub meets : Meets d at
  pub later : Later c r at
  pub writes : Writes r at before after
  pub rest : repeated left (on_line l) at ≡ goal

pub turning : (c : Caps) (l : Line) (m : ℕ) (r : Run) (d : Dumping) (a : Option (List ℕ)) → Meets d r → Turning c l (repeated m (on_line l) r) r d a a
turning c l m r d a h = record { at = r; left = m; meets = h; later = later_refl c r; writes = writes_none r a; rest = refl }

module _ (c : Caps) (l : Line) (goal r : Run) (old : Dumping) (first before after : End) (turn : IsTurn l) (t : Turning c l goal r old first.bytes before.bytes) (ends : goal.outcome ≡ Done → (s : Run) → on_line l goal ≡ Ok s → ⊥) where
  -- a step that is taken is one of those that are left
  one_left : (s : Run) → on_line l t.at ≡ Ok s → (k : ℕ) × (repeated k (on_line l) s ≡ goal)
  one_left s e = by t.left t.rest
    where
      by : (m : ℕ) → repeated m (on_line l) t.at ≡ goal → (k : ℕ) × (repeated k (on_line l) s ≡ goal)
      by zero g = absurd (ends (ap (λ (z : Run). z.outcome) (sym g) ∙ t.meets.done) s (ap (on_line l) (sym g) ∙ e))
      by (suc k) g = (k, sym (goes k (on_line l) t.at s e) ∙ g)

  pub turn_on : (new : Dumping) → (s : Run) × (on_line l t.at ≡ Ok s) × Meets new s × Writes t.at s before.bytes after.bytes → Turning c l goal r new first.bytes after.bytes
  turn_on new x =
      (let k = one_left x.0 x.1 in
      record { at = x.0; left = k.0; meets = x.2; later = later_trans c r t.at x.0 t.later (taken c l t.at x.0 turn x.1).later; writes = writes_two r t.at x.0 first.bytes before.bytes after.bytes t.writes x.3; rest = k.1 })

  ended : (x : Refusal) (new : Dumping) → (on_line l t.at ≡ Err x) × (new ≡ old) × (after ≡ before) → Meets new goal × Writes r goal first.bytes after.bytes
  ended x new h =
      (let is : t.at ≡ goal = sym (stays t.left (on_line l) t.at x h.0) ∙ t.rest in
      (subst (λ (z : Run). Meets new z) is (subst (λ (z : Dumping). Meets z t.at) (sym h.1) t.meets), subst (λ (z : End). Writes r goal first.bytes z.bytes) (sym h.2) (subst (λ (z : Run). Writes r z first.bytes before.bytes) is t.writes)))

  -- a step that has no place any more
  pub turn_ends : (f : DumpFault) (new : Dumping) → is_refusal f ≡ true → ComesTo (Err f) (on_line l t.at) t.at old new before after → Meets new goal × Writes r goal first.bytes after.bytes
  turn_ends faults.NotNow new e x = ended NotNow new x
  turn_ends faults.NoCursor new e x = ended NoCursor new x
  turn_ends (faults.Renamed ts) new e x = cc
  turn_ends (faults.Rolled a b) new e x = cc
  turn_ends faults.WriteFault new e x = cc
  turn_ends faults.NoMemory new e x = cc

  -- a step that fails
  behind_step : (f : DumpFault) (new : Dumping) (s : Run) → on_line l t.at ≡ Ok s → Fails f t.at s new before after → Fails f r goal new first after
  behind_step f new s e h =
      (let k = one_left s e in
      subst (λ (z : Run). Fails f r z new first after) k.1
      (fails_on c f r s (repeated k.0 (on_line l) s) new first after (fails_behind f r t.at s new first before after t.writes h) (repeated_later c l k.0 s turn)))

  failed_run : (s : Run) (o : Outcome) → (o ≡ Done → ⊥) → on_line l t.at ≡ Ok s → s.outcome ≡ o → after ≡ before → Writes t.at s before.bytes after.bytes
  failed_run s o fault e f same = subst (λ (z : End). Writes t.at s before.bytes z.bytes) (sym same) (by (taken c l t.at s turn e).quiet)
    where
      by : (s.outcome ≡ Done) ⊎ (s.steps ≡ t.at.steps) → Writes t.at s before.bytes before.bytes
      by (inl x) = absurd (fault (sym f ∙ x))
      by (inr x) = writes_same t.at s before.bytes x

  pub turn_fails : (f : DumpFault) (new : Dumping) → is_refusal f ≡ false → ComesTo (Err f) (on_line l t.at) t.at old new before after → Fails f r goal new first after
  turn_fails (faults.Renamed ts) new e x = behind_step (faults.Renamed ts) new x.0 x.1 (x.2, failed_run x.0 (Renamed ts) (renamed_done ts) x.1 x.2 x.4, ap (λ (z : Dumping). z.failed) x.3)
  turn_fails (faults.Rolled a b) new e x = behind_step (faults.Rolled a b) new x.0 x.1 (x.2, failed_run x.0 (Rolled a b) (rolled_done a b) x.1 x.2 x.4, ap (λ (z : Dumping). z.failed) x.3)
  turn_fails faults.WriteFault new e x = behind_step faults.WriteFault new x.0 x.1 (x.3, x.4)
  turn_fails faults.NoMemory new e x = behind_step faults.NoMemory new x.0 x.1 (x.3, x.4)
  turn_fails faults.NotNow new e x = cc
  turn_fails faults.NoCursor new e x = cc

-- ---- copy steps, and tail steps

pub rose_on : (a b c : ℕ) → a ≤ b → Rose b c → Rose a c
rose_on a b c h r = omega (arith, h, r)

module _ (c : Caps) (n : NsName) (r : Run) (st : Stored) (start old new : Dumping) (first before after : End) (ok : RunOk c r) (stands : StandsAt st r.stage) (m : Meets start r)
    (t : Turning c (lines.Copy n last_step) (copied_out (n ∷ []) r) r old first.bytes before.bytes) where
  abbrev Copies : Result (Unit {0}) DumpFault → Type 0
  Copies o = (s : Run) → StandsAt st s.stage → Meets old s → ComesTo o (on_line (lines.Copy n last_step) s) s old new before after

  copy_at : (o : Result (Unit {0}) DumpFault) → Copies o → ComesTo o (on_line (lines.Copy n last_step) t.at) t.at old new before after
  copy_at o h = h t.at (subst (λ (z : Stage). StandsAt st z) (sym t.later.stage) stands) t.meets

  stops : (copied_out (n ∷ []) r).outcome ≡ Done → (s : Run) → on_line (lines.Copy n last_step) (copied_out (n ∷ []) r) ≡ Ok s → ⊥
  stops e s g = copy_stops c r n start.state ok m.there m.done s g

  pub copy_goes : (u : Unit {0}) → ((s : Run) → StandsAt st s.stage → Meets old s → ComesTo (Ok u) (on_line (lines.Copy n last_step) s) s old new before after) → Turning c (lines.Copy n last_step) (copied_out (n ∷ []) r) r new first.bytes after.bytes
  copy_goes u h = turn_on c (lines.Copy n last_step) (copied_out (n ∷ []) r) r old first before after tt t stops new (copy_at (Ok u) h)

  pub copy_ends : (f : DumpFault) → is_refusal f ≡ true → ((s : Run) → StandsAt st s.stage → Meets old s → ComesTo (Err f) (on_line (lines.Copy n last_step) s) s old new before after) → Meets new (copied_out (n ∷ []) r) × Writes r (copied_out (n ∷ []) r) first.bytes after.bytes
  copy_ends f e h = turn_ends c (lines.Copy n last_step) (copied_out (n ∷ []) r) r old first before after tt t stops f new e (copy_at (Err f) h)

  pub copy_fails : (f : DumpFault) → is_refusal f ≡ false → ((s : Run) → StandsAt st s.stage → Meets old s → ComesTo (Err f) (on_line (lines.Copy n last_step) s) s old new before after) → Fails f r (copied_out (n ∷ []) r) new first after
  copy_fails f e h = turn_fails c (lines.Copy n last_step) (copied_out (n ∷ []) r) r old first before after tt t stops f new e (copy_at (Err f) h)

module _ (c : Caps) (r : Run) (st : Stored) (start old new : Dumping) (first before after : End) (ok : RunOk c r) (stands : StandsAt st r.stage) (m : Meets start r) (whole : (tailed_out r).outcome ≡ Done → Whole (tailed_out r))
    (t : Turning c (lines.Tail last_step) (tailed_out r) r old first.bytes before.bytes) where
  abbrev Tails : Result (Unit {0}) DumpFault → Type 0
  Tails o = (k : Caps) (s : Run) → RunOk k s → StandsAt st s.stage → Meets old s → ComesTo o (on_line (lines.Tail last_step) s) s old new before after

  tail_at : (o : Result (Unit {0}) DumpFault) → Tails o → ComesTo o (on_line (lines.Tail last_step) t.at) t.at old new before after
  tail_at o h = h c t.at (t.later.good ok) (subst (λ (z : Stage). StandsAt st z) (sym t.later.stage) stands) t.meets

  tails_stop : (tailed_out r).outcome ≡ Done → (s : Run) → on_line (lines.Tail last_step) (tailed_out r) ≡ Ok s → ⊥
  tails_stop e s g = tail_stops (tailed_out r) (whole e) e s g

  pub tail_goes : (u : Unit {0}) → ((k : Caps) (s : Run) → RunOk k s → StandsAt st s.stage → Meets old s → ComesTo (Ok u) (on_line (lines.Tail last_step) s) s old new before after) → Turning c (lines.Tail last_step) (tailed_out r) r new first.bytes after.bytes
  tail_goes u h = turn_on c (lines.Tail last_step) (tailed_out r) r old first before after tt t tails_stop new (tail_at (Ok u) h)

  pub tail_ends : (f : DumpFault) → is_refusal f ≡ true → ((k : Caps) (s : Run) → RunOk k s → StandsAt st s.stage → Meets old s → ComesTo (Err f) (on_line (lines.Tail last_step) s) s old new before after) → Meets new (tailed_out r) × Writes r (tailed_out r) first.bytes after.bytes
  tail_ends f e h = turn_ends c (lines.Tail last_step) (tailed_out r) r old first before after tt t tails_stop f new e (tail_at (Err f) h)

  pub tail_fails : (f : DumpFault) → is_refusal f ≡ false → ((k : Caps) (s : Run) → RunOk k s → StandsAt st s.stage → Meets old s → ComesTo (Err f) (on_line (lines.Tail last_step) s) s old new before after) → Fails f r (tailed_out r) new first after
  tail_fails f e h = turn_fails c (lines.Tail last_step) (tailed_out r) r old first before after tt t tails_stop f new e (tail_at (Err f) h)

-- ---- the names, one by one

pub record Naming (c : Caps) (names rest : List NsName) (r : Run) (d : Dumping) (before after : Option (List ℕ)) : Type 0 where
  pub at : Run
  pub meets : Meets d at
  pub later : Later c r at
  pub writes : Writes r at before after
  pub rest_is : copied_out rest at ≡ copied_out names r

pub naming : (c : Caps) (names : List NsName) (r : Run) (d : Dumping) (a : Option (List ℕ)) → Meets d r → Naming c names names r d a a
naming c names r d a h = record { at = r; meets = h; later = later_refl c r; writes = writes_none r a; rest_is = refl }

pub name_there : (ks : List NsName) (i : ℕ) (n : NsName) → Some n ≡ slice_get ks i → (drop i ks ≡ n ∷ drop (i + 1) ks) × (i < length ks)
name_there [] i n e = cc
name_there (k ∷ ks) zero n e = (let f : n ≡ k = cc in (ap (λ (z : NsName). z ∷ ks) (sym f), omega arith))
name_there (k ∷ ks) (suc i) n e = (let w = name_there ks i n e in let j : suc i + 1 ≡ suc (i + 1) = omega arith in (w.0 ∙ ap (λ (m : ℕ). n ∷ drop m (k ∷ ks)) (sym j), omega (arith, w.1)))

pub no_name : (ks : List NsName) (i : ℕ) → None ≡ slice_get ks i → drop i ks ≡ []
no_name [] zero e = refl
no_name [] (suc i) e = refl
no_name (k ∷ ks) zero e = cc
no_name (k ∷ ks) (suc i) e = no_name ks i e

module _ (c : Caps) (names : List NsName) (r : Run) (old new : Dumping) (first before after : End) where
  module _ (n : NsName) (ns : List NsName) (t : Naming c names (n ∷ ns) r old first.bytes before.bytes) where
    abbrev one : Run
    one = copied_out (n ∷ []) t.at

    pub name_on : Meets new (copied_out (n ∷ []) t.at) × Writes t.at (copied_out (n ∷ []) t.at) before.bytes after.bytes → Naming c names ns r new first.bytes after.bytes
    name_on x = record {
      at = one;
      meets = x.0;
      later = later_trans c r t.at one t.later (copied_later c (n ∷ []) t.at);
      writes = writes_two r t.at one first.bytes before.bytes after.bytes t.writes x.1;
      rest_is = t.rest_is;
    }

    pub name_fails : (f : DumpFault) → Fails f t.at (copied_out (n ∷ []) t.at) new before after → Fails f r (copied_out names r) new first after
    name_fails f x = subst (λ (z : Run). Fails f r z new first after) t.rest_is (fails_on c f r one (copied_out ns one) new first after (fails_behind f r t.at one new first before after t.writes x) (copied_later c ns one))

  pub name_starves : (rest : List NsName) → Naming c names rest r old first.bytes before.bytes → new.failed ≡ Some faults.NoMemory → Fails faults.NoMemory r (copied_out names r) new first before
  name_starves rest t e = (
    subst (λ (z : Run). WritesFront r z first.bytes before.bytes) t.rest_is (front_on r t.at (copied_out rest t.at) first.bytes before.bytes (front_of r t.at first.bytes before.bytes t.writes) (copied_later c rest t.at).grows),
    e,
  )

  pub names_end : Naming c names [] r old first.bytes before.bytes → Meets old (copied_out names r) × Writes r (copied_out names r) first.bytes before.bytes
  names_end t = (subst (λ (z : Run). Meets old z) t.rest_is t.meets, subst (λ (z : Run). Writes r z first.bytes before.bytes) t.rest_is t.writes)

-- ---- all of it

finished_is : (r : Run) (d : DumpState) → r.dump ≡ Some d → finished r ≡ tailed_out (marked_out (copied_out (map.keys d.cursors) r))
finished_is r d e = ap (λ (o : Option DumpState). tailed_out (marked_out (copied_out (names_in (begun o r).dump) (begun o r)))) e ∙ ap (λ (o : Option DumpState). tailed_out (marked_out (copied_out (names_in o) r))) e

module _ (c : Caps) (r : Run) (st : Stored) (d : Dumping) (ok : RunOk c r) (stands : StandsAt st r.stage) (m : Meets d r) where
  abbrev pub copied_run : Run
  copied_run = copied_out (map.keys d.state.cursors) r

  abbrev pub marked_run : Run
  marked_run = marked_out (copied_out (map.keys d.state.cursors) r)

  is : finished r ≡ tailed_out (marked_out (copied_out (map.keys d.state.cursors) r))
  is = finished_is r d.state m.there

  first_later : Later c r copied_run
  first_later = copied_later c (map.keys d.state.cursors) r

  mark_later : Later c copied_run marked_run
  mark_later = repeated_later c lines.Mark 1 copied_run tt

  tail_later : Later c marked_run (tailed_out marked_run)
  tail_later = repeated_later c (lines.Tail last_step) (suc (length marked_run.made)) marked_run tt

  pub copied_stands : StandsAt st (copied_out (map.keys d.state.cursors) r).stage
  copied_stands = subst (λ (z : Stage). StandsAt st z) (sym first_later.stage) stands

  pub marked_stands : StandsAt st (marked_out (copied_out (map.keys d.state.cursors) r)).stage
  marked_stands = subst (λ (z : Stage). StandsAt st z) (sym mark_later.stage) copied_stands

  pub marked_good : RunOk c (marked_out (copied_out (map.keys d.state.cursors) r))
  marked_good = mark_later.good (first_later.good ok)

  pub marked_whole : (tailed_out (marked_out (copied_out (map.keys d.state.cursors) r))).outcome ≡ Done → Whole (tailed_out (marked_out (copied_out (map.keys d.state.cursors) r)))
  marked_whole e = subst (λ (z : Run). Whole z) is (finish_whole c r ok (ap (λ (z : Run). z.outcome) is ∙ e))

  module _ (new : Dumping) (a b e : End) where
    pub copy_failed : (f : DumpFault) → Fails f r (copied_out (map.keys d.state.cursors) r) new a b → Fails f r (finished r) new a b
    copy_failed f h = subst (λ (z : Run). Fails f r z new a b) (sym is) (fails_on c f r copied_run (tailed_out marked_run) new a b h (later_trans c copied_run marked_run (tailed_out marked_run) mark_later tail_later))

    pub mark_failed : (f : DumpFault) → Writes r (copied_out (map.keys d.state.cursors) r) a.bytes b.bytes → Fails f (copied_out (map.keys d.state.cursors) r) (marked_out (copied_out (map.keys d.state.cursors) r)) new b b → Fails f r (finished r) new a b
    mark_failed f w h = subst (λ (z : Run). Fails f r z new a b) (sym is) (fails_on c f r marked_run (tailed_out marked_run) new a b (fails_behind f r copied_run marked_run new a b b w h) tail_later)

    pub tail_does : (o : Result (Unit {0}) DumpFault) → Writes r (copied_out (map.keys d.state.cursors) r) a.bytes b.bytes → Writes (copied_out (map.keys d.state.cursors) r) (marked_out (copied_out (map.keys d.state.cursors) r)) b.bytes b.bytes →
        Does o (marked_out (copied_out (map.keys d.state.cursors) r)) (tailed_out (marked_out (copied_out (map.keys d.state.cursors) r))) new b e → Does o r (finished r) new a e
    tail_does o v w h = subst (λ (z : Run). Does o r z new a e) (sym is) (by o h)
      where
        two : Writes r marked_run a.bytes b.bytes
        two = writes_two r copied_run marked_run a.bytes b.bytes b.bytes v w

        by : (o : Result (Unit {0}) DumpFault) → Does o marked_run (tailed_out marked_run) new b e → Does o r (tailed_out marked_run) new a e
        by (Ok u) h = (h.0, writes_two r marked_run (tailed_out marked_run) a.bytes b.bytes e.bytes two h.1)
        by (Err f) h = fails_behind f r marked_run (tailed_out marked_run) new a b e two h

  -- a dump that has come to its end is marked
  pub is_marked : (new : Dumping) → Meets new (finished r) → new.state.mark ≡ None → ⊥
  is_marked new h e =
      (let w = finish_whole c r ok h.done in
      let same : w.copy ≡ new.state = some_is w.copy new.state (sym w.there ∙ h.there) in
      none_some w.last (sym e ∙ (ap (λ (z : DumpState). z.mark) (sym same) ∙ w.marked)))

-- ---- a tail step that isn't the last

pub until_few : (b : Ts) (es : List Entry) → length (until b es) ≤ length es
until_few b [] = omega arith
until_few b (x ∷ es) = by (not_later x.0 b) (until_few b es)
  where
    by : (t : Bool) → length (until b es) ≤ length es → length (if t then x ∷ until b es else []) ≤ suc (length es)
    by true h = omega (arith, h)
    by false h = omega arith

drop_few : (i : ℕ) (es : List Entry) → (0 < length (drop i es)) → length (drop i es) + i ≤ length es
drop_few zero es h = omega arith
drop_few (suc i) [] h = absurd (omega (arith, h))
drop_few (suc i) (x ∷ es) h = (let k = drop_few i es h in omega (arith, k))

pub sends : (ring : List Entry) (b : Ts) (p first sent n more : ℕ) (closing : Bool) → length ring ≤ 1000000 → first ≡ min (p + sent) (2 ^ 64 - 1) → closing ≡ nat_le (length (until b (drop first ring))) n → more ≡ min (sent + n) (2 ^ 64 - 1) → closing ≡ false →
    (more ≡ sent + n) × (more ≤ 1000000)
sends ring b p first sent n more closing few is_first is_closing is_more e =
    (let u = leb-false (length (until b (drop first ring))) n (sym is_closing ∙ e) in
    let v = until_few b (drop first ring) in
    let w = drop_few first ring (omega (arith, u, v)) in
    (omega (arith, u, v, w, few, is_first, is_more), omega (arith, u, v, w, few, is_first, is_more)))
