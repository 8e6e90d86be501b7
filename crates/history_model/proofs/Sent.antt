-- The entries that a dump sent are those of its window.
use Rattle.std.proofs.Common.{◌≡◌, ℕ, zero, suc, List, [], ◌∷◌, ◌++◌, Bool, true, false, cond, not, refl, sym, ap, ◌∙◌, subst, append_assoc, Option, Some, None, inl, inr}
use Rattle.std.specs.Prelude.{◌⊎◌, ◌&&◌, is_some, map as each}
use Rattle.std.proofs.lemmas.Bool.{and_right}
use Rattle.bson_value.specs.declared.namespace.NsName.{NsName}
use Rattle.bson_value.specs.declared.value.Ts.{Ts}
use Rattle.coll_state.specs.Rows.{Row}
use Rattle.schedule_model.specs.declared.line.Line.{Line}
use Rattle.copy_model.specs.Cursors.{Cursor}
use Rattle.history_model.specs.Entries.{OplogEntry}
use Rattle.history_model.specs.Stages.{earlier, not_later, Stage, Made, entry_of}
use Rattle.history_model.specs.Runs.{DumpState, Step, Documents, Entries, Run, first_entry, entries_from, window, first_dump_state, started, read_on, sent_on, after_lines}
use Rattle.history_model.specs.Histories.{moments_of}
use Rattle.history_model.specs.Invariants.{RisesTo}
use Rattle.history_model.specs.Laws.{Whole}
use Rattle.std.specs.Prelude.{take, drop, length, ◌+◌, ◌≤◌, nat_le}
use Rattle.std.proofs.Common.{arith}
use Rattle.std.proofs.lemmas.Bool.{leb-true}
use Rattle.history_model.specs.Histories.{sent_in, Moments}
use Rattle.history_model.proofs.Order.{earlier_turn, earlier_not, earlier_below}
use Rattle.history_model.proofs.Inductive.{rises_on}
use Rattle.history_model.proofs.WindowMoves.{each_append, filter_join}
use Rattle.history_model.proofs.Steps.{Steps, after_all}
use Rattle.history_model.proofs.Ended.{same_copy, no_dump as no_start, marked_not as not_some}
use Rattle.history_model.proofs.Runs.{not_before as still_upto}

take_none : (k : ℕ) → ◌≡◌ {A = List OplogEntry} (take k []) []
take_none zero = refl
take_none (suc k) = refl

take_more : (n k : ℕ) (w : List OplogEntry) → take n w ++ take k (drop n w) ≡ take (n + k) w
take_more zero k w = (let e : 0 + k ≡ k = omega arith in ap (λ (i : ℕ). take i w) (sym e))
take_more (suc n) k [] = take_none k ∙ sym (take_none (suc n + k))
take_more (suc n) k (x ∷ w) = (let e : suc n + k ≡ suc (n + k) = omega arith in ap (λ (z : List OplogEntry). x ∷ z) (take_more n k w) ∙ ap (λ (i : ℕ). take i (x ∷ w)) (sym e))

take_all : (n : ℕ) (w : List OplogEntry) → length w ≤ n → take n w ≡ w
take_all zero [] h = refl
take_all zero (x ∷ w) h = absurd (omega arith)
take_all (suc n) [] h = refl
take_all (suc n) (x ∷ w) h = ap (λ (z : List OplogEntry). x ∷ z) (take_all n w (omega arith))

sent_join : (xs ys : List Step) → sent_in (xs ++ ys) ≡ sent_in xs ++ sent_in ys
sent_join [] ys = refl
sent_join (Documents n rs b ∷ xs) ys = sent_join xs ys
sent_join (Entries es b ∷ xs) ys = ap (λ (z : List OplogEntry). es ++ z) (sent_join xs ys) ∙ sym (append_assoc es (sent_in xs) (sent_in ys))

sent_nil : (xs : List OplogEntry) → xs ++ [] ≡ xs
sent_nil [] = refl
sent_nil (x ∷ xs) = ap (λ (z : List OplogEntry). x ∷ z) (sent_nil xs)

-- ---- before the mark nothing is sent

pub record NothingSent (r : Run) : Type 0 where
  pub copy : DumpState
  pub there : r.dump ≡ Some copy
  pub unmarked : copy.mark ≡ None
  pub none : copy.sent ≡ 0
  pub open_yet : copy.closed ≡ false
  pub steps : sent_in r.steps ≡ []

-- ---- behind it the front of the window was sent, and all of it where that is closed

pub record FrontSent (a e : Ts) (w : List OplogEntry) (r : Run) : Type 0 where
  pub copy : DumpState
  pub there : r.dump ≡ Some copy
  pub start : copy.start ≡ a
  pub marked : copy.mark ≡ Some e
  pub upto : earlier r.stage.newest e ≡ false
  pub window_is : window a e (entries_from r) ≡ w
  pub steps : sent_in r.steps ≡ take copy.sent w
  pub all : copy.closed ≡ true → sent_in r.steps ≡ w

pub not_marked : (ts : Ts) → None ≡ Some ts → ⊥
not_marked ts e = cc

false_true : {A : Type 0} (b : Bool) → b ≡ false → b ≡ true → A
false_true b e f = cc

-- what is made later than e isn't in its window
later_not : (a e low high : Ts) (more : List Made) → RisesTo low more high → earlier low e ≡ false → window a e (each entry_of more) ≡ []
later_not a e low high [] h f = refl
later_not a e low high (m ∷ more) h f =
    ap (λ (b : Bool). cond b (entry_of m ∷ window a e (each entry_of more)) (window a e (each entry_of more))) (and_right (not_later a m.ts) (not_later m.ts e) (ap not (earlier_below low e m.ts f h.0)))
    ∙ later_not a e m.ts high more h.1 (earlier_turn e m.ts (earlier_below low e m.ts f h.0))

window_same : (a e low high : Ts) (ms more : List Made) → RisesTo low more high → earlier low e ≡ false → window a e (first_entry ∷ each entry_of (ms ++ more)) ≡ window a e (first_entry ∷ each entry_of ms)
window_same a e low high ms more h f =
    ap (λ (z : List OplogEntry). window a e (first_entry ∷ z)) (each_append ms more)
    ∙ (filter_join (λ (x : OplogEntry). not_later a x.ts && not_later x.ts e) (first_entry ∷ each entry_of ms) (each entry_of more)
    ∙ (ap (λ (z : List OplogEntry). window a e (first_entry ∷ each entry_of ms) ++ z) (later_not a e low high more h f) ∙ sent_nil (window a e (first_entry ∷ each entry_of ms))))

abbrev pub EitherSent : Run → Type 0
EitherSent r = NothingSent r ⊎ ((e : Ts) × (a : Ts) × (w : List OplogEntry) × FrontSent a e w r)

same_of : (P : DumpState → Type 0) (a b : DumpState) (o : Option DumpState) → o ≡ Some a → o ≡ Some b → P a → P b
same_of P a b o e f h = subst P (same_copy a b (sym e ∙ f)) h

nothing_more : (r s : Run) → s.dump ≡ r.dump → s.steps ≡ r.steps → NothingSent r → NothingSent s
nothing_more r s e f p = record { copy = p.copy; there = e ∙ p.there; unmarked = p.unmarked; none = p.none; open_yet = p.open_yet; steps = ap sent_in f ∙ p.steps }

front_more : (a e : Ts) (w : List OplogEntry) (r s : Run) → s.dump ≡ r.dump → s.steps ≡ r.steps → s.stage ≡ r.stage → s.made ≡ r.made → FrontSent a e w r → FrontSent a e w s
front_more a e w r s x y z m p = record {
  copy = p.copy;
  there = x ∙ p.there;
  start = p.start;
  marked = p.marked;
  upto = subst (λ (k : Stage). earlier k.newest e ≡ false) (sym z) p.upto;
  window_is = ap (λ (k : List Made). window a e (first_entry ∷ each entry_of k)) m ∙ p.window_is;
  steps = ap sent_in y ∙ p.steps;
  all = λ k. ap sent_in y ∙ p.all k;
}

either_more : (r s : Run) → s.dump ≡ r.dump → s.steps ≡ r.steps → s.stage ≡ r.stage → s.made ≡ r.made → EitherSent r → EitherSent s
either_more r s x y z m (inl p) = inl (nothing_more r s x y p)
either_more r s x y z m (inr p) = inr (p.0, p.1, p.2, front_more p.1 p.0 p.2 r s x y z m p.3)

command_sent : (r : Run) (st : Stage) (more : List Made) → EitherSent r → RisesTo r.stage.newest more st.newest → EitherSent (record r { stage = st; made = r.made ++ more })
command_sent r st more (inl p) h = inl (record { copy = p.copy; there = p.there; unmarked = p.unmarked; none = p.none; open_yet = p.open_yet; steps = p.steps })
command_sent r st more (inr p) h = inr (
  p.0,
  p.1,
  p.2,
  record {
    copy = p.3.copy;
    there = p.3.there;
    start = p.3.start;
    marked = p.3.marked;
    upto = still_upto r.stage.newest st.newest p.0 (rises_on more r.stage.newest st.newest h) p.3.upto;
    window_is = window_same p.1 p.0 r.stage.newest st.newest r.made more h p.3.upto ∙ p.3.window_is;
    steps = p.3.steps;
    all = p.3.all;
  },
)

read_sent : (r : Run) (d : DumpState) → EitherSent r → r.dump ≡ Some d → (n : NsName) (x : List Row × Cursor) → EitherSent (read_on n x d r)
read_sent r d (inl p) e n x = inl (record {
  copy = _;
  there = refl;
  unmarked = same_of (λ (z : DumpState). z.mark ≡ None) p.copy d r.dump p.there e p.unmarked;
  none = same_of (λ (z : DumpState). z.sent ≡ 0) p.copy d r.dump p.there e p.none;
  open_yet = same_of (λ (z : DumpState). z.closed ≡ false) p.copy d r.dump p.there e p.open_yet;
  steps = sent_join r.steps (Documents n x.0 x.1.ended ∷ []) ∙ (sent_nil (sent_in r.steps) ∙ p.steps);
})
read_sent r d (inr p) e n x = inr (
  p.0,
  p.1,
  p.2,
  record {
    copy = _;
    there = refl;
    start = same_of (λ (z : DumpState). z.start ≡ p.1) p.3.copy d r.dump p.3.there e p.3.start;
    marked = same_of (λ (z : DumpState). z.mark ≡ Some p.0) p.3.copy d r.dump p.3.there e p.3.marked;
    upto = p.3.upto;
    window_is = p.3.window_is;
    steps = sent_join r.steps (Documents n x.0 x.1.ended ∷ []) ∙ (sent_nil (sent_in r.steps) ∙ same_of (λ (z : DumpState). sent_in r.steps ≡ take z.sent p.2) p.3.copy d r.dump p.3.there e p.3.steps);
    all = λ k. sent_join r.steps (Documents n x.0 x.1.ended ∷ []) ∙ (sent_nil (sent_in r.steps) ∙ p.3.all (same_of (λ (z : DumpState). z.closed ≡ true) d p.3.copy r.dump e p.3.there k));
  },
)

mark_sent : (r : Run) (d : DumpState) → EitherSent r → r.dump ≡ Some d → is_some d.mark ≡ false → EitherSent (record r { dump = Some (record d { mark = Some r.stage.newest }) })
mark_sent r d (inl p) e f = inr (
  r.stage.newest,
  d.start,
  window d.start r.stage.newest (entries_from r),
  record {
    copy = record d { mark = Some r.stage.newest };
    there = refl;
    start = refl;
    marked = refl;
    upto = earlier_not r.stage.newest;
    window_is = refl;
    steps = p.steps ∙ sym (ap (λ (i : ℕ). take i (window d.start r.stage.newest (entries_from r))) (same_of (λ (z : DumpState). z.sent ≡ 0) p.copy d r.dump p.there e p.none));
    all = λ k. false_true d.closed (same_of (λ (z : DumpState). z.closed ≡ false) p.copy d r.dump p.there e p.open_yet) k;
  },
)
mark_sent r d (inr p) e f = absurd (not_some d.mark p.0 (same_of (λ (z : DumpState). z.mark ≡ Some p.0) p.3.copy d r.dump p.3.there e p.3.marked) f)

same_mark : (o : Option Ts) (a b : Ts) → o ≡ Some a → o ≡ Some b → a ≡ b
same_mark o a b e f = (let g : Some a ≡ Some b = sym e ∙ f in cc)

tail_sent : (r : Run) (d : DumpState) → EitherSent r → r.dump ≡ Some d → (n : ℕ) (e : Ts) → d.mark ≡ Some e → EitherSent (sent_on n (window d.start e (entries_from r)) d r)
tail_sent r d (inl p) x n e f = absurd (not_marked e (sym (same_of (λ (z : DumpState). z.mark ≡ None) p.copy d r.dump p.there x p.unmarked) ∙ f))
tail_sent r d (inr p) x n e f =
    (let marked = same_of (λ (z : DumpState). z.mark ≡ Some p.0) p.3.copy d r.dump p.3.there x p.3.marked in
    let start = same_of (λ (z : DumpState). z.start ≡ p.1) p.3.copy d r.dump p.3.there x p.3.start in
    let w = window d.start e (entries_from r) in
    let is : w ≡ p.2 = ap (λ (t : Ts). window d.start t (entries_from r)) (same_mark d.mark e p.0 f marked) ∙ (ap (λ (t : Ts). window t p.0 (entries_from r)) start ∙ p.3.window_is) in
    let before : sent_in r.steps ≡ take d.sent p.2 = same_of (λ (z : DumpState). sent_in r.steps ≡ take z.sent p.2) p.3.copy d r.dump p.3.there x p.3.steps in
    let now : sent_in (r.steps ++ (Entries (take n (drop d.sent w)) (nat_le (length w) (d.sent + n)) ∷ [])) ≡ take (d.sent + n) p.2 =
    sent_join r.steps (Entries (take n (drop d.sent w)) (nat_le (length w) (d.sent + n)) ∷ [])
    ∙ (ap (λ (z : List OplogEntry). z ++ (take n (drop d.sent w) ++ [])) before
    ∙ (ap (λ (z : List OplogEntry). take d.sent p.2 ++ z) (sent_nil (take n (drop d.sent w)) ∙ ap (λ (z : List OplogEntry). take n (drop d.sent z)) is)
    ∙ take_more d.sent n p.2)) in
    inr (
      p.0,
      p.1,
      p.2,
      record {
        copy = _;
        there = refl;
        start = start;
        marked = marked;
        upto = p.3.upto;
        window_is = p.3.window_is;
        steps = now;
        all = λ k. now ∙ take_all (d.sent + n) p.2 (leb-true (length p.2) (d.sent + n) (subst (λ (z : List OplogEntry). nat_le (length z) (d.sent + n) ≡ true) is k));
      },
    ))

sent_steps : Steps EitherSent EitherSent
sent_steps = record {
  same = λ r p. p;
  refused = λ r xs p. either_more r (record r { refused = xs }) refl refl refl refl p;
  command = command_sent;
  starts = λ r p e. by r p e;
  reads = λ r d p e n c f g x. read_sent r d p e n x;
  fails = λ r o p. either_more r (record r { outcome = o }) refl refl refl refl p;
  marks = λ r d p e f g. mark_sent r d p e f;
  sends = λ r d p e n m f g. tail_sent r d p e n m f;
}
  where
    by : (r : Run) → EitherSent r → r.dump ≡ None → EitherSent (started r)
    by r (inl p) e = no_start p.copy (sym e ∙ p.there)
    by r (inr p) e = no_start p.3.copy (sym e ∙ p.3.there)

started_sent : (r : Run) → r.steps ≡ [] → EitherSent (started r)
started_sent r none = inl (record { copy = first_dump_state r.stage; there = refl; unmarked = refl; none = refl; open_yet = refl; steps = ap sent_in none })

-- a dump that came to its end sent its window
pub window_sent : (r t : Run) (ls : List (ℕ × Line)) → r.steps ≡ [] → t ≡ after_lines ls (started r) → Whole t → (a e : Ts) → moments_of t.dump ≡ record { start = Some a; last_read = (moments_of t.dump).last_read; end_ts = Some e } → sent_in t.steps ≡ window a e (entries_from t)
window_sent r t ls none g w a e m = by (subst EitherSent (sym g) (after_all sent_steps ls (started r) (started_sent r none)))
  where
    start_is : (d : DumpState) → t.dump ≡ Some d → d.start ≡ a
    start_is d k = (let x : Some d.start ≡ Some a = ap (λ (o : Option DumpState). (moments_of o).start) (sym k) ∙ ap (λ (z : Moments). z.start) m in cc)

    end_is : (d : DumpState) → t.dump ≡ Some d → d.mark ≡ Some e
    end_is d k = ap (λ (o : Option DumpState). (moments_of o).end_ts) (sym k) ∙ ap (λ (z : Moments). z.end_ts) m

    by : EitherSent t → sent_in t.steps ≡ window a e (entries_from t)
    by (inl p) = absurd (not_marked w.last (sym p.unmarked ∙ same_of (λ (z : DumpState). z.mark ≡ Some w.last) w.copy p.copy t.dump w.there p.there w.marked))
    by (inr p) =
        p.3.all (same_of (λ (z : DumpState). z.closed ≡ true) w.copy p.3.copy t.dump w.there p.3.there w.closed)
        ∙ (sym p.3.window_is ∙ (ap (λ (z : Ts). window z p.0 (entries_from t)) (sym p.3.start ∙ start_is p.3.copy p.3.there) ∙ ap (λ (z : Ts). window a z (entries_from t)) (same_mark p.3.copy.mark p.0 e p.3.marked (end_is p.3.copy p.3.there))))
