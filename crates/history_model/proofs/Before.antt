-- A dump that came to its end, restored up to a limit.
use Rattle.std.proofs.Common.{◌≡◌, ℕ, List, [], ◌∷◌, ◌++◌, Bool, true, false, not, refl, sym, ap, ◌∙◌, subst, append_assoc, Option, Some, None, Result, Ok, Err, inl, inr}
use Rattle.std.specs.Prelude.{◌⊎◌, ◌&&◌, ◌||◌, is_some, filter, map as each}
use Rattle.std.proofs.lemmas.Bool.{and_left, and_right, and_from}
use Rattle.bson_value.specs.declared.value.Ts.{Ts}
use Rattle.state_model.specs.States.{State}
use Rattle.state_model.specs.Moves.{Move}
use Rattle.state_model.specs.Replay.{replay_all}
use Rattle.state_model.specs.Agreement.{SameStates}
use Rattle.coll_state.specs.Rows.{Rows, AreSound, state_of}
use Rattle.coll_state.specs.Changes.{no_rows}
use Rattle.schedule_model.specs.declared.line.Line.{Line}
use Rattle.schedule_model.specs.declared.line.Line.TheVariants.{Mark}
use Rattle.copy_model.specs.Cursors.{Read}
use Rattle.copy_model.specs.Copies.{copy_of}
use Rattle.history_model.specs.Entries.{OplogEntry}
use Rattle.history_model.specs.Stages.{Write, rows_by, earlier, not_later, first_ts, Caps, Stage, Made, entry_of}
use Rattle.history_model.specs.Runs.{Refusal, NotNow, DumpState, Outcome, Done, Renamed, Rolled, Run, first_entry, entries_from, window, is_gone, oldest, started, all_ended, renamed_since, rolled, marked_by, marked, still, in_dump, on_line, or_refused, after_line, after_lines}
use Rattle.history_model.specs.Histories.{history_of, state_from, state, moments_of}
use Rattle.history_model.specs.Recordings.{AllMade, rows_of_made, moves_made, moves_recorded, EachMade, OfRename, NoRenames, made_by_line, made_by, reads_in}
use Rattle.history_model.specs.Invariants.{RisesTo, RunOk, CopiedOut}
use Rattle.update_records.specs.Laws.{UpdatesRecord}
use Rattle.history_model.specs.WellFormed.{AreWellFormedLines}
use Rattle.history_model.proofs.WellFormed.{lines_front}
use Rattle.copy_model.specs.Laws.{CopyHeals}
use Rattle.history_model.specs.Histories.{is_before}
use Rattle.history_model.specs.Laws.{IsLate}
use Rattle.history_model.proofs.Tables.{write_sound, write_link}
use Rattle.history_model.proofs.Inductive.{nothing_sound, empty_state, each_map, each_both, each_join, rises_on, not_above, none_above, all_above}
use Rattle.history_model.proofs.Modelled.{SameBase, line_same, each_first}
use Rattle.history_model.proofs.Mirrored.{lines_stay}
use Rattle.history_model.proofs.Runs.{lines_good}
use Rattle.history_model.proofs.Torn.{made_parted, rows_parted}
use Rattle.history_model.proofs.AtTheMark.{all_have_ended, found, StartIs, lines_start, lines_made, lines_rise, rises_join, last_made, last_parted, no_renames, not_done, not_failed, same_run}
use Rattle.history_model.proofs.WholeRun.{lines_append}
use Rattle.history_model.proofs.WindowMoves.{inside, each_append, window_moves}
use Rattle.history_model.proofs.Ended.{same_copy, AllRead, all_read, HasMark, mark_stays, ends_at, just_started}
use Rattle.history_model.proofs.Limited.{Earlier, Late, cut_at, before_limit, history_front, EachOf, of_made, entries_front}
use Rattle.history_model.proofs.TornMore.{torn_more}

-- what a mark that succeeds makes of a run
pub record MadeMark (r s : Run) : Type 0 where
  pub copy : DumpState
  pub there : r.dump ≡ Some copy
  pub becomes : record r { dump = Some (record copy { mark = Some r.stage.newest }) } ≡ s

pub made_mark : (r s : Run) → in_dump marked r.dump r ≡ Ok s → s.outcome ≡ Done → MadeMark r s
made_mark r s h done = by r.dump refl h
  where
    wrong : {A : Type 0} (x : Outcome) (z : Run) → z ≡ s → z.outcome ≡ x → (x ≡ Done → ⊥) → A
    wrong x z g k nope = absurd (nope (sym k ∙ (ap (λ (y : Run). y.outcome) g ∙ done)))

    rolls : (d : DumpState) → r.dump ≡ Some d → (b : Bool) → elim b as (λ b. Run) [ true ↦ rolled d.start r | false ↦ record r { dump = Some (record d { mark = Some r.stage.newest }) } ] ≡ s → MadeMark r s
    rolls d e true g = wrong (Rolled d.start (oldest d.start r.stage.oplog)) (rolled d.start r) g refl (not_failed d.start (oldest d.start r.stage.oplog))
    rolls d e false g = record { copy = d; there = e; becomes = g }

    last : (d : DumpState) → r.dump ≡ Some d → (o : Option Ts) → marked_by o d r ≡ s → MadeMark r s
    last d e (Some ts) g = wrong (Renamed ts) (record r { outcome = Renamed ts }) g refl (not_done ts)
    last d e None g = rolls d e (is_gone d.start r.stage.oplog) g

    at : (d : DumpState) → r.dump ≡ Some d → (b : Bool) → elim b as (λ b. Result Run Refusal) [ true ↦ Err NotNow | false ↦ Ok (marked_by (renamed_since d.start r.stage.renamed) d r) ] ≡ Ok s → MadeMark r s
    at d e true g = cc
    at d e false g = last d e (renamed_since d.start r.stage.renamed) (same_run (marked_by (renamed_since d.start r.stage.renamed) d r) s g)

    on : (d : DumpState) → r.dump ≡ Some d → (x : Outcome) → r.outcome ≡ x → still x marked d r ≡ Ok s → MadeMark r s
    on d e Done f g = at d e (is_some d.mark || not (all_ended d.cursors)) g
    on d e (Renamed ts) f g = wrong (Renamed ts) r (same_run r s g) f (not_done ts)
    on d e (Rolled a b) f g = wrong (Rolled a b) r (same_run r s g) f (not_failed a b)

    by : (o : Option DumpState) → r.dump ≡ o → in_dump marked o r ≡ Ok s → MadeMark r s
    by None e g = cc
    by (Some d) e g = on d e r.outcome refl g

made_append : (xs ys : List (ℕ × Line)) (r : Run) → made_by (xs ++ ys) r ≡ made_by xs r ++ made_by ys (after_lines xs r)
made_append [] ys r = refl
made_append (x ∷ xs) ys r = ap (λ (z : List Made). made_by_line x.1 r ++ z) (made_append xs ys (after_line x r)) ∙ sym (append_assoc (made_by_line x.1 r) (made_by xs (after_line x r)) (made_by ys (after_lines xs (after_line x r))))

-- a history that rises, cut in two
pub record Halves (low high : Ts) (xs ys : List Made) : Type 0 where
  pub mid : Ts
  pub front : RisesTo low xs mid
  pub back : RisesTo mid ys high

halves : (xs ys : List Made) (low high : Ts) → RisesTo low (xs ++ ys) high → Halves low high xs ys
halves [] ys low high h = record { mid = low; front = refl; back = h }
halves (m ∷ xs) ys low high h = (let g = halves xs ys m.ts high h.1 in record { mid = g.mid; front = (h.0, g.front); back = g.back })

-- the state of rows after writes
made_state : (ms : List Made) (r : Rows) → AreSound r → state_of (rows_of_made ms r) ≡ state_from (state_of r) (history_of ms)
made_state [] r ok = refl
made_state (m ∷ ms) r ok = made_state ms (rows_by m.write r) (write_sound m.write r ok) ∙ ap (λ (z : State). state_from z (history_of ms)) (write_link m.write r ok)

pub history_state : (ms : List Made) → state_of (rows_of_made ms no_rows) ≡ state (history_of ms)
history_state ms = made_state ms no_rows nothing_sound ∙ ap (λ (z : State). state_from z (history_of ms)) empty_state

-- the parts of a run whose dump came to its end: up to the last read, from there to the mark, and behind it
pub record Parted (c : Caps) (r s t : Run) : Type 0 where
  pub front : List (ℕ × Line)
  pub at_last : Run
  pub is_last : at_last ≡ after_lines front (started r)
  pub copied : CopiedOut at_last
  pub live : at_last.outcome ≡ Done
  pub formed : AreWellFormedLines front
  pub ok : RunOk c at_last
  pub between : List Made
  pub behind : List Made
  pub made_last : at_last.made ≡ r.made ++ made_by front (started r)
  pub made_mark : s.made ≡ at_last.made ++ between
  pub made_all : t.made ≡ s.made ++ behind
  pub ok_mark : RunOk c s
  pub rises_front : RisesTo r.stage.newest (made_by front (started r)) at_last.stage.newest
  pub rises : RisesTo at_last.stage.newest between s.stage.newest
  pub later : RisesTo s.stage.newest behind t.stage.newest
  pub first_free : NoRenames (last_made r.made)
  pub front_free : NoRenames (made_by front (started r))
  pub between_free : NoRenames between
  pub moments : moments_of t.dump ≡ record { start = Some r.stage.newest; last_read = Some at_last.stage.newest; end_ts = Some s.stage.newest }
  pub reads : reads_in t.steps [] ≡ reads_in at_last.steps []

three_moments : (d : DumpState) (a b e : Ts) → d.start ≡ a → d.last_read ≡ b → d.mark ≡ Some e → moments_of (Some d) ≡ record { start = Some a; last_read = Some b; end_ts = Some e }
three_moments d a b e f g h = λ i. record { start = Some (f i); last_read = Some (g i); end_ts = h i }

start_in : (ts : Ts) (o : Option DumpState) (d : DumpState) → o ≡ Some d → StartIs ts o → d.start ≡ ts
start_in ts o d e h = subst (StartIs ts) e h

pub parted : UpdatesRecord → (c : Caps) (r s t : Run) (ls back : List (ℕ × Line)) → AreWellFormedLines ls → RunOk c r → on_line Mark (after_lines ls (started r)) ≡ Ok s → s.outcome ≡ Done → t ≡ after_lines back s → Parted c r s t
parted sound c r s t ls back w h e done g =
    (let ok : RunOk c (started r) = (h.0, tt) in
    let end = after_lines ls (started r) in
    let f = found end s e done in
    let cut = ends_at ls (started r) (just_started r) f.copy f.there f.all in
    let last = after_lines cut.front (started r) in
    let to_end : after_lines cut.back last ≡ end = sym (ap (λ (z : List (ℕ × Line)). after_lines z (started r)) cut.whole ∙ lines_append cut.front cut.back (started r)) in
    let marking : after_line (0, Mark) end ≡ s = ap (λ (x : Result Run Refusal). or_refused 0 x end) e in
    let base : (s.stage ≡ end.stage) × (s.made ≡ end.made) = subst (λ (x : Result Run Refusal). SameBase end x) e (line_same Mark end tt) in
    let rest = cut.back ++ ((0, Mark) ∷ back) in
    let to_t : after_lines rest last ≡ t = lines_append cut.back ((0, Mark) ∷ back) last ∙ (ap (λ (z : Run). after_lines back (after_line (0, Mark) z)) to_end ∙ (ap (after_lines back) marking ∙ sym g)) in
    let ended : AllRead last.stage.newest (reads_in last.steps []) t = subst (AllRead last.stage.newest (reads_in last.steps [])) to_t
    (all_read last.stage.newest (reads_in last.steps []) rest last (record { copy = cut.copy; there = cut.there; last = cut.last; all = cut.all; same = refl })) in
    let mm = made_mark end s e done in
    let has : HasMark end.stage.newest s = subst (HasMark end.stage.newest) mm.becomes (record { copy = _; there = refl; marked = refl }) in
    let marked_t : HasMark end.stage.newest t = subst (HasMark end.stage.newest) (sym g) (mark_stays end.stage.newest back s has) in
    let started_t : StartIs r.stage.newest t.dump = subst (λ (z : Run). StartIs r.stage.newest z.dump) to_t (lines_start r.stage.newest rest last (lines_start r.stage.newest cut.front (started r) refl)) in
    let free = no_renames sound c r s ls w h e done in
    let front_formed = lines_front cut.front cut.back (subst AreWellFormedLines cut.whole w) in
    let split = made_append cut.front cut.back (started r) in
    let frees = each_first (λ (m : Made). OfRename m.write ⊥) (made_by cut.front (started r)) (made_by cut.back last) (subst NoRenames (ap (λ (z : List (ℕ × Line)). made_by z (started r)) cut.whole ∙ split) free.1) in
    let newest : (after_lines cut.back last).stage.newest ≡ s.stage.newest = ap (λ (z : Run). z.stage.newest) to_end ∙ sym (ap (λ (z : Stage). z.newest) base.0) in
    record {
      front = cut.front;
      at_last = last;
      is_last = refl;
      copied = λ d k n x y. all_have_ended d.cursors (subst (λ (z : DumpState). all_ended z.cursors ≡ true) (same_copy cut.copy d (sym cut.there ∙ k)) cut.all) n x y;
      live = lines_stay cut.back last (ap (λ (z : Run). z.outcome) to_end ∙ f.live);
      formed = front_formed;
      ok = lines_good sound c cut.front (started r) front_formed ok;
      between = made_by cut.back last;
      behind = made_by back s;
      made_last = lines_made cut.front (started r);
      made_mark = base.1 ∙ (sym (ap (λ (z : Run). z.made) to_end) ∙ lines_made cut.back last);
      made_all = ap (λ (z : Run). z.made) g ∙ lines_made back s;
      ok_mark = subst (RunOk c) marking (lines_good sound c ((0, Mark) ∷ []) end (tt, tt) (lines_good sound c ls (started r) w ok));
      rises_front = lines_rise cut.front (started r);
      rises = subst (λ (z : Ts). RisesTo last.stage.newest (made_by cut.back last) z) newest (lines_rise cut.back last);
      later = subst (λ (z : Run). RisesTo s.stage.newest (made_by back s) z.stage.newest) (sym g) (lines_rise back s);
      first_free = free.0;
      front_free = frees.0;
      between_free = frees.1;
      moments = moments_at t ended.copy marked_t.copy r.stage.newest last.stage.newest end.stage.newest s.stage.newest ended.there marked_t.there started_t ended.last marked_t.marked (sym (ap (λ (z : Stage). z.newest) base.0));
      reads = ended.same;
    })
  where
    moments_at : (t : Run) (d m : DumpState) (a b e f : Ts) → t.dump ≡ Some d → t.dump ≡ Some m → StartIs a t.dump → d.last_read ≡ b → m.mark ≡ Some e → e ≡ f → moments_of t.dump ≡ record { start = Some a; last_read = Some b; end_ts = Some f }
    moments_at t d m a b e f x y z u v w =
        ap moments_of x ∙ three_moments d a b f (start_in a t.dump d x z) u (ap (λ (k : DumpState). k.mark) (same_copy d m (sym x ∙ y)) ∙ (v ∙ ap Some w))

-- ---- up to a limit that is later than the last read

abbrev pub is_told : Option Ts → Ts → Ts → Bool
is_told l end ts = is_before l ts && not_later ts end

-- what was made up to the last read, and from there on up to the limit, is before the limit and not behind the end
front_told : (l : Option Ts) (last end : Ts) (ms xs : List Made) → IsLate l last → EachMade (λ (m : Made). earlier last m.ts ≡ false) ms → EachMade (Earlier l) xs → EachMade (λ (m : Made). earlier end m.ts ≡ false) (ms ++ xs) →
    EachMade (λ (m : Made). (is_before l m.ts ≡ true) × (earlier end m.ts ≡ false)) (ms ++ xs)
front_told l last end ms xs late a b e =
    each_both (Earlier l) (λ (m : Made). earlier end m.ts ≡ false) (λ (m : Made). (is_before l m.ts ≡ true) × (earlier end m.ts ≡ false)) (λ m f g. (f, g)) (ms ++ xs)
    (each_join (Earlier l) ms xs (each_map (λ (m : Made). earlier last m.ts ≡ false) (Earlier l) (λ m f. before_limit l last m.ts late f) ms a) b) e

-- late ones, and those behind the end, aren't told
back_told : (l : Option Ts) (end : Ts) (ys zs : List Made) → EachMade (Late l) ys → EachMade (λ (m : Made). earlier end m.ts ≡ true) zs → EachMade (λ (m : Made). (is_before l m.ts ≡ false) ⊎ (earlier end m.ts ≡ true)) (ys ++ zs)
back_told l end ys zs a b =
    each_join (λ (m : Made). (is_before l m.ts ≡ false) ⊎ (earlier end m.ts ≡ true)) ys zs
    (each_map (Late l) (λ (m : Made). (is_before l m.ts ≡ false) ⊎ (earlier end m.ts ≡ true)) (λ m f. inl f) ys a)
    (each_map (λ (m : Made). earlier end m.ts ≡ true) (λ (m : Made). (is_before l m.ts ≡ false) ⊎ (earlier end m.ts ≡ true)) (λ m f. inr f) zs b)

told_false : (l : Option Ts) (end ts : Ts) → (is_before l ts ≡ false) ⊎ (earlier end ts ≡ true) → is_told l end ts ≡ false
told_false l end ts (inl f) = and_left (is_before l ts) (not_later ts end) f
told_false l end ts (inr f) = and_right (is_before l ts) (not_later ts end) (ap not f)

window_false : (l : Option Ts) (start end ts : Ts) → (is_before l ts ≡ false) ⊎ (earlier end ts ≡ true) → ((not_later start ts && not_later ts end) ≡ false) ⊎ (is_before l ts ≡ false)
window_false l start end ts (inl f) = inr f
window_false l start end ts (inr f) = inl (and_right (not_later start ts) (not_later ts end) (ap not f))

-- what was made, by its parts: up to the last read, up to the limit, and the rest
module _ (l : Option Ts) (start last mid end : Ts) (before front xs ys zs : List Made) where
  abbrev pub front_list : List Made
  front_list = before ++ front

  abbrev pub whole_list : List Made
  whole_list = (front_list ++ (xs ++ ys)) ++ zs

  turned : whole_list ≡ (front_list ++ xs) ++ (ys ++ zs)
  turned = append_assoc front_list (xs ++ ys) zs ∙ (ap (λ (z : List Made). front_list ++ z) (append_assoc xs ys zs) ∙ sym (append_assoc front_list xs (ys ++ zs)))

  module _ (late : IsLate l last) (upto : EachMade (λ (m : Made). earlier last m.ts ≡ false) front_list) (early : EachMade (Earlier l) xs) (lates : EachMade (Late l) ys) (behind : EachMade (λ (m : Made). earlier end m.ts ≡ true) zs)
      (not_behind : EachMade (λ (m : Made). earlier end m.ts ≡ false) (front_list ++ xs)) where
    told : EachMade (λ (m : Made). (is_before l m.ts ≡ true) × (earlier end m.ts ≡ false)) (front_list ++ xs)
    told = front_told l last end front_list xs late upto early not_behind

    untold : EachMade (λ (m : Made). (is_before l m.ts ≡ false) ⊎ (earlier end m.ts ≡ true)) (ys ++ zs)
    untold = back_told l end ys zs lates behind

    pub told_history : filter (λ (e : Ts × Write). is_told l end e.0) (history_of whole_list) ≡ history_of (front_list ++ xs)
    told_history =
        ap (λ (z : List Made). filter (λ (e : Ts × Write). is_told l end e.0) (history_of z)) turned
        ∙ history_front (is_told l end) (front_list ++ xs) (ys ++ zs)
        (each_map (λ (m : Made). (is_before l m.ts ≡ true) × (earlier end m.ts ≡ false)) (λ (m : Made). is_told l end m.ts ≡ true) (λ m f. and_from (is_before l m.ts) (not_later m.ts end) f.0 (ap not f.1)) (front_list ++ xs) told)
        (each_map (λ (m : Made). (is_before l m.ts ≡ false) ⊎ (earlier end m.ts ≡ true)) (λ (m : Made). is_told l end m.ts ≡ false) (λ m f. told_false l end m.ts f) (ys ++ zs) untold)

    module _ (rises_before : RisesTo first_ts before start) (rises_more : RisesTo start (front ++ xs) mid) (first_end : earlier end first_ts ≡ false) (first_last : earlier last first_ts ≡ false) where
      all_rise : RisesTo first_ts (before ++ (front ++ xs)) mid
      all_rise = rises_join before (front ++ xs) first_ts start mid rises_before rises_more

      not_mid : EachMade (λ (m : Made). earlier mid m.ts ≡ false) (front_list ++ xs)
      not_mid = subst (λ (z : List Made). EachMade (λ (m : Made). earlier mid m.ts ≡ false) z) (sym (append_assoc before front xs)) (none_above (before ++ (front ++ xs)) first_ts mid all_rise)

      alike : (ts : Ts) → earlier end ts ≡ false → earlier mid ts ≡ false → (not_later start ts && not_later ts end) ≡ (not_later start ts && not_later ts mid)
      alike ts f g = ap (λ (b : Bool). not_later start ts && not b) (f ∙ sym g)

      fronts : EachOf (λ (e : OplogEntry). (is_before l e.ts ≡ true) × ((not_later start e.ts && not_later e.ts end) ≡ (not_later start e.ts && not_later e.ts mid))) (first_entry ∷ each entry_of (front_list ++ xs))
      fronts = (
        (before_limit l last first_ts late first_last, alike first_ts first_end (not_above first_ts mid (rises_on (before ++ (front ++ xs)) first_ts mid all_rise))),
        of_made (λ (e : OplogEntry). (is_before l e.ts ≡ true) × ((not_later start e.ts && not_later e.ts end) ≡ (not_later start e.ts && not_later e.ts mid))) (front_list ++ xs)
            (each_both (λ (m : Made). (is_before l m.ts ≡ true) × (earlier end m.ts ≡ false)) (λ (m : Made). earlier mid m.ts ≡ false) (λ (m : Made). (is_before l m.ts ≡ true) × ((not_later start m.ts && not_later m.ts end) ≡ (not_later start m.ts && not_later m.ts mid)))
            (λ m f g. (f.0, alike m.ts f.1 g)) (front_list ++ xs) told not_mid),
      )

      pub told_moves : moves_recorded (filter (λ (e : OplogEntry). is_before l e.ts) (window start end (first_entry ∷ each entry_of whole_list))) ≡ moves_made (last_made before ++ (front ++ xs))
      told_moves =
          ap (λ (z : List OplogEntry). moves_recorded (filter (λ (e : OplogEntry). is_before l e.ts) (window start end (first_entry ∷ z)))) (ap (each entry_of) turned ∙ each_append (front_list ++ xs) (ys ++ zs))
          ∙ (ap moves_recorded (entries_front (is_before l) (λ (ts : Ts). not_later start ts && not_later ts end) (λ (ts : Ts). not_later start ts && not_later ts mid) (first_entry ∷ each entry_of (front_list ++ xs)) (ys ++ zs) fronts
          (each_map (λ (m : Made). (is_before l m.ts ≡ false) ⊎ (earlier end m.ts ≡ true)) (λ (m : Made). ((not_later start m.ts && not_later m.ts end) ≡ false) ⊎ (is_before l m.ts ≡ false)) (λ m f. window_false l start end m.ts f) (ys ++ zs) untold))
          ∙ (ap (λ (z : List Made). moves_recorded (filter (inside start mid) (first_entry ∷ each entry_of z))) (append_assoc before front xs)
          ∙ window_moves before (front ++ xs) start mid rises_before rises_more))

same_append : (a b c d : List Made) → a ≡ b → c ≡ d → a ++ c ≡ b ++ d
same_append a b c d e f = ap (λ (z : List Made). z ++ c) e ∙ ap (λ (z : List Made). b ++ z) f

pub healed_before : CopyHeals → UpdatesRecord → (c : Caps) (r s t : Run) → RunOk c r → r.steps ≡ [] → (p : Parted c r s t) → (l : Option Ts) → IsLate l p.at_last.stage.newest →
    SameStates (replay_all (moves_recorded (filter (λ (e : OplogEntry). is_before l e.ts) (window r.stage.newest s.stage.newest (entries_from t)))) (copy_of r.stage.rows (reads_in t.steps [])))
    (state (filter (λ (e : Ts × Write). is_told l s.stage.newest e.0) (history_of t.made)))
healed_before heals sound c r s t h none p l late =
    (let last = p.at_last in
    let made_front = made_by p.front (started r) in
    let cut = cut_at l p.between last.stage.newest s.stage.newest p.rises in
    let half = halves cut.front cut.back last.stage.newest s.stage.newest (subst (λ (z : List Made). RisesTo last.stage.newest z s.stage.newest) cut.whole p.rises) in
    let whole : t.made ≡ ((r.made ++ made_front) ++ (cut.front ++ cut.back)) ++ p.behind =
    p.made_all ∙ ap (λ (z : List Made). z ++ p.behind) (p.made_mark ∙ same_append last.made (r.made ++ made_front) p.between (cut.front ++ cut.back) p.made_last cut.whole) in
    let all_made : AllMade (cut.front ++ cut.back) last.stage.rows = subst (λ (z : Rows). AllMade (cut.front ++ cut.back) z) p.ok.0.rows
    (made_parted last.made (cut.front ++ cut.back) no_rows (subst (λ (z : List Made). AllMade z no_rows) (p.made_mark ∙ ap (λ (z : List Made). last.made ++ z) cut.whole) p.ok_mark.0.recorded)).1 in
    let frees = each_first (λ (m : Made). OfRename m.write ⊥) cut.front cut.back (subst NoRenames cut.whole p.between_free) in
    let one = last_parted r.made in
    let torn = torn_more heals sound c r one.0 (last_made r.made) p.front cut.front p.formed h none one.1 p.first_free p.front_free
    (subst (λ (z : Run). z.outcome ≡ Done) p.is_last p.live) (subst CopiedOut p.is_last p.copied) (subst (λ (z : Run). AllMade cut.front z.stage.rows) p.is_last (made_parted cut.front cut.back last.stage.rows all_made).0) frees.0 in
    let torn_last : SameStates (replay_all (moves_made (last_made r.made ++ (made_front ++ cut.front))) (copy_of r.stage.rows (reads_in last.steps []))) (state_of (rows_of_made cut.front last.stage.rows)) =
    subst (λ (z : Run). SameStates (replay_all (moves_made (last_made r.made ++ (made_front ++ cut.front))) (copy_of r.stage.rows (reads_in z.steps []))) (state_of (rows_of_made cut.front z.stage.rows))) (sym p.is_last) torn in
    let upto = subst (λ (z : List Made). EachMade (λ (m : Made). earlier last.stage.newest m.ts ≡ false) z) p.made_last (none_above last.made first_ts last.stage.newest p.ok.0.rises) in
    let not_behind = (each_first (λ (m : Made). earlier s.stage.newest m.ts ≡ false) ((r.made ++ made_front) ++ cut.front) cut.back
    (subst (λ (z : List Made). EachMade (λ (m : Made). earlier s.stage.newest m.ts ≡ false) z)
    (p.made_mark ∙ (same_append last.made (r.made ++ made_front) p.between (cut.front ++ cut.back) p.made_last cut.whole ∙ sym (append_assoc (r.made ++ made_front) cut.front cut.back)))
    (none_above s.made first_ts s.stage.newest p.ok_mark.0.rises))).0 in
    let behind = all_above p.behind s.stage.newest t.stage.newest p.later in
    let rises_more = rises_join made_front cut.front r.stage.newest last.stage.newest half.mid p.rises_front half.front in
    let moves = told_moves l r.stage.newest last.stage.newest half.mid s.stage.newest r.made made_front cut.front cut.back p.behind late upto cut.earlier cut.late behind not_behind h.0.rises rises_more
    (not_above first_ts s.stage.newest (rises_on s.made first_ts s.stage.newest p.ok_mark.0.rises)) (not_above first_ts last.stage.newest (rises_on last.made first_ts last.stage.newest p.ok.0.rises)) in
    let told = told_history l r.stage.newest last.stage.newest half.mid s.stage.newest r.made made_front cut.front cut.back p.behind late upto cut.earlier cut.late behind not_behind in
    let way : moves_recorded (filter (λ (e : OplogEntry). is_before l e.ts) (window r.stage.newest s.stage.newest (entries_from t))) ≡ moves_made (last_made r.made ++ (made_front ++ cut.front)) =
    ap (λ (z : List Made). moves_recorded (filter (λ (e : OplogEntry). is_before l e.ts) (window r.stage.newest s.stage.newest (first_entry ∷ each entry_of z)))) whole ∙ moves in
    let rows : rows_of_made cut.front last.stage.rows ≡ rows_of_made ((r.made ++ made_front) ++ cut.front) no_rows =
    ap (rows_of_made cut.front) (sym p.ok.0.rows) ∙ (sym (rows_parted last.made cut.front no_rows) ∙ ap (λ (z : List Made). rows_of_made (z ++ cut.front) no_rows) p.made_last) in
    let now : state_of (rows_of_made cut.front last.stage.rows) ≡ state (filter (λ (e : Ts × Write). is_told l s.stage.newest e.0) (history_of t.made)) =
    ap state_of rows ∙ (history_state ((r.made ++ made_front) ++ cut.front) ∙ ap state (sym (ap (λ (z : List Made). filter (λ (e : Ts × Write). is_told l s.stage.newest e.0) (history_of z)) whole ∙ told))) in
    subst (λ (z : State). SameStates (replay_all (moves_recorded (filter (λ (e : OplogEntry). is_before l e.ts) (window r.stage.newest s.stage.newest (entries_from t)))) (copy_of r.stage.rows (reads_in t.steps []))) z) now
    (subst (λ (z : List Read). SameStates (replay_all (moves_recorded (filter (λ (e : OplogEntry). is_before l e.ts) (window r.stage.newest s.stage.newest (entries_from t)))) (copy_of r.stage.rows z)) (state_of (rows_of_made cut.front last.stage.rows))) (sym p.reads)
    (subst (λ (z : List Move). SameStates (replay_all z (copy_of r.stage.rows (reads_in last.steps []))) (state_of (rows_of_made cut.front last.stage.rows))) (sym way) torn_last)))
