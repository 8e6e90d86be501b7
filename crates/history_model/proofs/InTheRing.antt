-- While the entry at Start isn't gone, no entry of the window is.
use Rattle.std.proofs.Common.{◌≡◌, ℕ, zero, suc, ◌-◌, ◌+◌, List, [], ◌∷◌, ◌++◌, Bool, true, false, cond, not, refl, sym, ap, ◌∙◌, subst, Option, Some, None, inl, inr, filter, take, drop, Result, Ok, Err}
use Rattle.std.specs.Prelude.{⊤, ◌⊎◌, ◌&&◌, ◌||◌, ◌==◌, map as each}
use Rattle.std.specs.List.{list_any}
use Rattle.std.proofs.lemmas.Bool.{cases_Bool, eqb-true}
use Rattle.bson_value.specs.declared.value.Ts.{Ts}
use Rattle.history_model.specs.Entries.{OplogEntry, size_of}
use Rattle.history_model.specs.Stages.{earlier, not_later, first_ts, Caps, Oplog, within, kept_behind, kept, Made, entry_of}
use Rattle.history_model.specs.Runs.{Refusal, NotNow, DumpState, Outcome, Done, Renamed, Rolled, Run, first_entry, newest_first, entries_from, window, is_same, is_gone, oldest, rolled_or, rolled, sent_on, tailed_to, tailed, still, in_dump}
use Rattle.history_model.specs.Invariants.{RisesTo, Holds, Has}
use Rattle.history_model.specs.Laws.{SendsKept}
use Rattle.history_model.specs.Stages.{kept_if}
use Rattle.history_model.proofs.Order.{earlier_trans}
use Rattle.history_model.proofs.AtTheMark.{both, not_done as renamed_not, not_failed as failed_not, same_run}

abbrev pub EachKept : (OplogEntry → Type 0) → List OplogEntry → Type 0
EachKept P [] = ⊤
EachKept P (e ∷ es) = P e × EachKept P es

kept_at : (P : OplogEntry → Type 0) (es : List OplogEntry) (k : OplogEntry) → EachKept P es → Has es k → P k
kept_at P [] k h g = absurd g
kept_at P (e ∷ es) k h (inl g) = subst P g h.0
kept_at P (e ∷ es) k h (inr g) = kept_at P es k h.1 g

kept_map : (P Q : OplogEntry → Type 0) → ((k : OplogEntry) → P k → Q k) → (es : List OplogEntry) → EachKept P es → EachKept Q es
kept_map P Q f [] h = tt
kept_map P Q f (e ∷ es) h = (f e h.0, kept_map P Q f es h.1)

-- an entry that passes
passing : (t : OplogEntry → Bool) (es : List OplogEntry) (k : OplogEntry) → Has (filter t es) k → Has es k × (t k ≡ true)
passing t [] k h = absurd h
passing t (e ∷ es) k h = by (cases_Bool (t e)) (λ g. passing t es k g)
  where
    by : (t e ≡ true) ⊎ (t e ≡ false) → (Has (filter t es) k → Has es k × (t k ≡ true)) → Has (e ∷ es) k × (t k ≡ true)
    by (inl s) rest = first (subst (λ (b : Bool). Has (cond b (e ∷ filter t es) (filter t es)) k) s h)
      where
        first : (e ≡ k) ⊎ Has (filter t es) k → Has (e ∷ es) k × (t k ≡ true)
        first (inl g) = (inl g, subst (λ (z : OplogEntry). t z ≡ true) g s)
        first (inr g) = (let u = rest g in (inr u.0, u.1))
    by (inr s) rest = (let u = rest (subst (λ (b : Bool). Has (cond b (e ∷ filter t es) (filter t es)) k) s h) in (inr u.0, u.1))

-- oldest first and newest first are the same entries
turned : (ms : List Made) (es : Oplog) (k : OplogEntry) → Has (each entry_of ms) k ⊎ Has es k → Has (newest_first ms es) k
turned [] es k (inl h) = absurd h
turned [] es k (inr h) = h
turned (m ∷ ms) es k (inl (inl h)) = turned ms (entry_of m ∷ es) k (inr (inl h))
turned (m ∷ ms) es k (inl (inr h)) = turned ms (entry_of m ∷ es) k (inl h)
turned (m ∷ ms) es k (inr h) = turned ms (entry_of m ∷ es) k (inr (inr h))

all_there : (ms : List Made) (k : OplogEntry) → Has (first_entry ∷ each entry_of ms) k → Has (newest_first ms (first_entry ∷ [])) k
all_there ms k (inl h) = turned ms (first_entry ∷ []) k (inr (inl h))
all_there ms k (inr h) = turned ms (first_entry ∷ []) k (inl h)

-- each is later than those behind it
abbrev pub Falls : Oplog → Type 0
Falls [] = ⊤
Falls (e ∷ es) = EachKept (λ (x : OplogEntry). earlier x.ts e.ts ≡ true) es × Falls es

falling : (ms : List Made) (es : Oplog) (low high : Ts) → RisesTo low ms high → EachKept (λ (x : OplogEntry). (x.ts ≡ low) ⊎ (earlier x.ts low ≡ true)) es → Falls es → Falls (newest_first ms es)
falling [] es low high r h f = f
falling (m ∷ ms) es low high r h f =
    (let under = kept_map (λ (x : OplogEntry). (x.ts ≡ low) ⊎ (earlier x.ts low ≡ true)) (λ (x : OplogEntry). earlier x.ts m.ts ≡ true) (λ x g. below x g) es h in
    falling ms (entry_of m ∷ es) m.ts high r.1 (inl refl, kept_map (λ (x : OplogEntry). earlier x.ts m.ts ≡ true) (λ (x : OplogEntry). (x.ts ≡ m.ts) ⊎ (earlier x.ts m.ts ≡ true)) (λ x g. inr g) es under) (under, f))
  where
    below : (x : OplogEntry) → (x.ts ≡ low) ⊎ (earlier x.ts low ≡ true) → earlier x.ts m.ts ≡ true
    below x (inl g) = subst (λ (z : Ts). earlier z m.ts ≡ true) (sym g) r.0
    below x (inr g) = earlier_trans x.ts low m.ts g r.0

-- what is kept is a front
front_behind : (n : ℕ) (b : Option ℕ) (s : ℕ) (es : Oplog) → (rest : Oplog) × (es ≡ kept_behind n b s es ++ rest)
front_behind zero b s es = (es, refl)
front_behind (suc n) b s [] = ([], refl)
front_behind (suc n) b s (e ∷ es) = by (within b (s + size_of e)) (front_behind n b (s + size_of e) es)
  where
    by : (x : Bool) → ((rest : Oplog) × (es ≡ kept_behind n b (s + size_of e) es ++ rest)) → (rest : Oplog) × (e ∷ es ≡ kept_if x e (kept_behind n b (s + size_of e) es) ++ rest)
    by true h = (h.0, ap (λ (z : Oplog). e ∷ z) h.1)
    by false h = (e ∷ es, refl)

pub front : (c : Caps) (es : Oplog) → (rest : Oplog) × (es ≡ kept c es ++ rest)
front c [] = ([], refl)
front c (e ∷ es) = (let h = front_behind (c.entries - 1) c.bytes (size_of e) es in (h.0, ap (λ (z : Oplog). e ∷ z) h.1))

parted : (xs ys : Oplog) (k : OplogEntry) → Has (xs ++ ys) k → Has xs k ⊎ Has ys k
parted [] ys k h = inr h
parted (x ∷ xs) ys k (inl h) = inl (inl h)
parted (x ∷ xs) ys k (inr h) = by (parted xs ys k h)
  where
    by : Has xs k ⊎ Has ys k → Has (x ∷ xs) k ⊎ Has ys k
    by (inl g) = inl (inr g)
    by (inr g) = inr g

has_right : (xs ys : Oplog) (k : OplogEntry) → Has ys k → Has (xs ++ ys) k
has_right [] ys k h = h
has_right (x ∷ xs) ys k h = inr (has_right xs ys k h)

apart : (xs ys : Oplog) (u v : OplogEntry) → Falls (xs ++ ys) → Has xs u → Has ys v → earlier v.ts u.ts ≡ true
apart [] ys u v f g h = absurd g
apart (x ∷ xs) ys u v f (inl g) h = subst (λ (z : OplogEntry). earlier v.ts z.ts ≡ true) g (kept_at (λ (k : OplogEntry). earlier k.ts x.ts ≡ true) (xs ++ ys) v f.0 (has_right xs ys v h))
apart (x ∷ xs) ys u v f (inr g) h = apart xs ys u v f.1 g h

pub same_ts : (a b : Ts) → is_same a b ≡ true → a ≡ b
same_ts a b h = (let g = both (a.secs == b.secs) (a.inc == b.inc) h in let x = eqb-true a.secs b.secs g.0 in let y = eqb-true a.inc b.inc g.1 in λ i. record { secs = x i; inc = y i })

found : (ts : Ts) (es : Oplog) → list_any (λ (e : OplogEntry). is_same ts e.ts) es ≡ true → (u : OplogEntry) × Has es u × (ts ≡ u.ts)
found ts [] h = cc
found ts (e ∷ es) h = by (cases_Bool (is_same ts e.ts)) (λ g. found ts es g)
  where
    by : (is_same ts e.ts ≡ true) ⊎ (is_same ts e.ts ≡ false) → (list_any (λ (e : OplogEntry). is_same ts e.ts) es ≡ true → (u : OplogEntry) × Has es u × (ts ≡ u.ts)) → (u : OplogEntry) × Has (e ∷ es) u × (ts ≡ u.ts)
    by (inl s) rest = (e, inl refl, same_ts ts e.ts s)
    by (inr s) rest = (let u = rest (subst (λ (b : Bool). (b || list_any (λ (e : OplogEntry). is_same ts e.ts) es) ≡ true) s h) in (u.0, inr u.1, u.2))

not_gone : (ts : Ts) (es : Oplog) → is_gone ts es ≡ false → list_any (λ (e : OplogEntry). is_same ts e.ts) es ≡ true
not_gone ts es h = by (list_any (λ (e : OplogEntry). is_same ts e.ts) es) h
  where
    by : (b : Bool) → not b ≡ false → b ≡ true
    by true g = refl
    by false g = cc

pub window_kept : (c : Caps) (r : Run) (start end : Ts) (k : OplogEntry) → Holds c r.stage r.made → is_gone start r.stage.oplog ≡ false → Has (window start end (entries_from r)) k → Has r.stage.oplog k
window_kept c r start end k h live g =
    (let pass = passing (λ (e : OplogEntry). not_later start e.ts && not_later e.ts end) (entries_from r) k g in
    let all = newest_first r.made (first_entry ∷ []) in
    let there = all_there r.made k pass.0 in
    let falls = falling r.made (first_entry ∷ []) first_ts r.stage.newest h.rises (inl refl, tt) (tt, tt) in
    let f = front c all in
    let u = found start r.stage.oplog (not_gone start r.stage.oplog live) in
    by f.0 f.1 u.0 (subst (λ (z : Oplog). Has z u.0) h.oplog u.1) u.2 falls (both (not_later start k.ts) (not_later k.ts end) pass.1).0
    (parted (kept c all) f.0 k (subst (λ (z : Oplog). Has z k) f.1 there)))
  where
    by : (rest : Oplog) → newest_first r.made (first_entry ∷ []) ≡ kept c (newest_first r.made (first_entry ∷ [])) ++ rest → (u : OplogEntry) → Has (kept c (newest_first r.made (first_entry ∷ []))) u → start ≡ u.ts →
        Falls (newest_first r.made (first_entry ∷ [])) → not_later start k.ts ≡ true → Has (kept c (newest_first r.made (first_entry ∷ []))) k ⊎ Has rest k → Has r.stage.oplog k
    by rest e u m s falls late (inl x) = subst (λ (z : Oplog). Has z k) (sym h.oplog) x
    by rest e u m s falls late (inr x) =
        (let y = apart (kept c (newest_first r.made (first_entry ∷ []))) rest u k (subst Falls e falls) m x in
        let z : earlier k.ts start ≡ true = subst (λ (t : Ts). earlier k.ts t ≡ true) (sym s) y in
        let w : not_later start k.ts ≡ false = ap not z in cc)

has_drop : (n : ℕ) (xs : List OplogEntry) (k : OplogEntry) → Has (drop n xs) k → Has xs k
has_drop zero xs k h = h
has_drop (suc n) [] k h = h
has_drop (suc n) (x ∷ xs) k h = inr (has_drop n xs k h)

has_take : (n : ℕ) (xs : List OplogEntry) (k : OplogEntry) → Has (take n xs) k → Has xs k
has_take zero xs k h = absurd h
has_take (suc n) [] k h = h
has_take (suc n) (x ∷ xs) k (inl h) = inl h
has_take (suc n) (x ∷ xs) k (inr h) = inr (has_take n xs k h)

-- a tail step that doesn't fail sends entries that are still in the ring
pub tail_kept : (c : Caps) (r s : Run) (n : ℕ) → Holds c r.stage r.made → in_dump (tailed n) r.dump r ≡ Ok s → s.outcome ≡ Done → SendsKept r s
tail_kept c r s n h e done = by r.dump e
  where
    fails : {A : Type 0} (x : Outcome) (z : Run) → z ≡ s → z.outcome ≡ x → (x ≡ Done → ⊥) → A
    fails x z g k nope = absurd (nope (sym k ∙ (ap (λ (y : Run). y.outcome) g ∙ done)))

    sent : (d : DumpState) (e : Ts) → is_gone d.start r.stage.oplog ≡ false → sent_on n (window d.start e (entries_from r)) d r ≡ s → SendsKept r s
    sent d e live g = subst (λ (z : Run). SendsKept r z) g
        (record {
          entries = take n (drop d.sent (window d.start e (entries_from r)));
          last = _;
          sent = refl;
          kept = λ k m. window_kept c r d.start e k h live (has_drop d.sent (window d.start e (entries_from r)) k (has_take n (drop d.sent (window d.start e (entries_from r))) k m));
        })

    rolls : (d : DumpState) (e : Ts) (b : Bool) → is_gone d.start r.stage.oplog ≡ b → elim b as (λ b. Run) [ true ↦ rolled d.start r | false ↦ sent_on n (window d.start e (entries_from r)) d r ] ≡ s → SendsKept r s
    rolls d e true live g = fails (Rolled d.start (oldest d.start r.stage.oplog)) (rolled d.start r) g refl (failed_not d.start (oldest d.start r.stage.oplog))
    rolls d e false live g = sent d e live g

    closes : (d : DumpState) (e : Ts) (b : Bool) → elim b as (λ b. Result Run Refusal) [ true ↦ Err NotNow | false ↦ Ok (rolled_or d.start r.stage.oplog (rolled d.start r) (sent_on n (window d.start e (entries_from r)) d r)) ] ≡ Ok s → SendsKept r s
    closes d e true g = cc
    closes d e false g = rolls d e (is_gone d.start r.stage.oplog) refl (same_run (rolled_or d.start r.stage.oplog (rolled d.start r) (sent_on n (window d.start e (entries_from r)) d r)) s g)

    marks : (d : DumpState) (o : Option Ts) → tailed_to n o d r ≡ Ok s → SendsKept r s
    marks d None g = cc
    marks d (Some e) g = closes d e d.closed g

    live : (d : DumpState) (x : Outcome) → r.outcome ≡ x → still x (tailed n) d r ≡ Ok s → SendsKept r s
    live d Done f g = marks d d.mark g
    live d (Renamed ts) f g = fails (Renamed ts) r (same_run r s g) f (renamed_not ts)
    live d (Rolled a b) f g = fails (Rolled a b) r (same_run r s g) f (failed_not a b)

    by : (o : Option DumpState) → in_dump (tailed n) o r ≡ Ok s → SendsKept r s
    by None g = cc
    by (Some d) g = live d r.outcome refl g
