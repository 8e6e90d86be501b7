-- Where the oplog has room for all, effects without a rename leave all that stands in it.
use Rattle.std.proofs.Common.{◌≡◌, ℕ, zero, suc, ◌+◌, ◌-◌, ◌≤◌, List, [], ◌∷◌, length, true, refl, sym, ap, ◌∙◌, subst, arith, Option, None}
use Rattle.std.specs.Prelude.{⊤, Bool, ◌==◌}
use Rattle.std.specs.List.{list_any}
use Rattle.std.proofs.lemmas.Bool.{and_from, or_left, or_right, eq-eqb}
use Rattle.bson_value.specs.declared.value.Ts.{Ts}
use Rattle.history_model.specs.Entries.{OplogEntry, size_of}
use Rattle.history_model.specs.Stages.{Write, Single, Rename, Txn, Caps, Oplog, kept_behind, kept, Stage, entry_of, next_ts, renamed_by, Effect, made_of, stage_by, stage_after}
use Rattle.history_model.specs.Runs.{is_same}
use Rattle.history_model.specs.Recordings.{OfRename}

-- ---- what is kept where there is room

behind_all : (n sum : ℕ) (es : Oplog) → length es ≤ n → kept_behind n None sum es ≡ es
behind_all zero sum [] h = refl
behind_all zero sum (e ∷ es) h = absurd (omega arith)
behind_all (suc n) sum [] h = refl
behind_all (suc n) sum (e ∷ es) h = ap (λ (z : Oplog). e ∷ z) (behind_all n (sum + size_of e) es (omega arith))

all_kept : (c : Caps) (e : OplogEntry) (es : Oplog) → c.bytes ≡ None → suc (length es) ≤ c.entries → kept c (e ∷ es) ≡ e ∷ es
all_kept c e es b h = ap (λ (z : Oplog). e ∷ z) (ap (λ (o : Option ℕ). kept_behind (c.entries - 1) o (size_of e) es) b ∙ behind_all (c.entries - 1) (size_of e) es (omega arith))

-- ---- what stands

-- an entry of this moment
abbrev pub stands : Ts → Oplog → Bool
stands ts es = list_any (λ (e : OplogEntry). is_same ts e.ts) es

pub same_self : (ts : Ts) → is_same ts ts ≡ true
same_self ts = and_from (ts.secs == ts.secs) (ts.inc == ts.inc) (eq-eqb ts.secs ts.secs refl) (eq-eqb ts.inc ts.inc refl)

-- the newest entry stands, no rename was noted, and the caps are these
pub record Steady (c : Caps) (st : Stage) : Type 0 where
  pub caps : st.caps ≡ c
  pub renamed : st.renamed ≡ None
  pub newest : stands st.newest st.oplog ≡ true

none_noted : (w : Write) (ts : Ts) (o : Option Ts) → OfRename w ⊥ → o ≡ None → renamed_by w ts o ≡ None
none_noted (Single w) ts o h e = e
none_noted (Rename a b) ts o h e = absurd h
none_noted (Txn ws) ts o h e = e

one_on : (c : Caps) (d : Effect) (st : Stage) → c.bytes ≡ None → st.caps ≡ c → suc (length st.oplog) ≤ c.entries → (stage_by d st).oplog ≡ entry_of (made_of d st) ∷ st.oplog
one_on c d st b e h = ap (λ (z : Caps). kept z (entry_of (made_of d st) ∷ st.oplog)) e ∙ all_kept c (entry_of (made_of d st)) st.oplog b h

one_steady : (c : Caps) (d : Effect) (st : Stage) → OfRename d.0 ⊥ → Steady c st → (stage_by d st).oplog ≡ entry_of (made_of d st) ∷ st.oplog → Steady c (stage_by d st)
one_steady c d st n h e = record {
  caps = h.caps;
  renamed = none_noted d.0 (next_ts st) st.renamed n h.renamed;
  newest = subst (λ (z : Oplog). stands (next_ts st) z ≡ true) (sym e) (or_left (is_same (next_ts st) (next_ts st)) (stands (next_ts st) st.oplog) (same_self (next_ts st)));
}

-- effects without a rename
abbrev pub NoneRenames : List Effect → Type 0
NoneRenames [] = ⊤
NoneRenames (d ∷ ds) = OfRename d.0 ⊥ × NoneRenames ds

pub record StandsOn (c : Caps) (n : ℕ) (before after : Stage) : Type 0 where
  pub steady : Steady c after
  pub more : length after.oplog ≤ length before.oplog + n
  pub stay : (ts : Ts) → stands ts before.oplog ≡ true → stands ts after.oplog ≡ true

pub all_stand : (c : Caps) → c.bytes ≡ None → (ds : List Effect) (st : Stage) → NoneRenames ds → Steady c st → length st.oplog + length ds ≤ c.entries → StandsOn c (length ds) st (stage_after ds st)
all_stand c b [] st n h room = record { steady = h; more = omega arith; stay = λ ts s. s }
all_stand c b (d ∷ ds) st n h room =
    let e = one_on c d st b h.caps (omega arith) in
    let long = ap length e in
    let rest = all_stand c b ds (stage_by d st) n.1 (one_steady c d st n.0 h e) (omega (arith, long)) in
    record {
      steady = rest.steady;
      more = omega (arith, rest.more, long);
      stay = λ ts s. rest.stay ts (subst (λ (z : Oplog). stands ts z ≡ true) (sym e) (or_right (is_same ts (next_ts st)) (stands ts st.oplog) s));
    }
