-- The entries of a ring from a place on, one after the other.
use Rattle.std.proofs.Common.{rules, ◌≡◌, ℕ, zero, suc, ◌+◌, ◌-◌, ◌<◌, List, [], ◌∷◌, ◌++◌, length, take, drop, Bool, true, false, Some, None, refl, sym, ap, ◌∙◌, append_assoc, append-nil, arith}
use Rattle.std.specs.Prelude.{nat_le, not, slice_get, if◌then◌else◌}
use Rattle.std.specs.Ordering.{is_lt}
use Rattle.std.proofs.lemmas.Bool.{leb-true, leb-false, le-leb}
use Rattle.bson_value.specs.declared.value.Ts.{Ts}
use Rattle.bson_value.specs.Timestamp.{stamp_cmp}
use Rattle.capped_oplog.specs.Ring.{Entry}
use Rattle.history_model.specs.Stages.{earlier}
use Rattle.dump_run.specs.Rings.{until, bytes_of}

pub lt_is : (a b : Ts) → is_lt (stamp_cmp a b) ≡ earlier a b
lt_is a b = search rules

there : (es : List Entry) (at : ℕ) (x : Entry) → Some x ≡ slice_get es at → (drop at es ≡ x ∷ drop (at + 1) es) × (at < length es)
there [] at x e = cc
there (y ∷ es) zero x e = (let f : x ≡ y = cc in (ap (λ (z : Entry). z ∷ es) (sym f), omega arith))
there (y ∷ es) (suc at) x e = (let w = there es at x e in let i : suc at + 1 ≡ suc (at + 1) = omega arith in (w.0 ∙ ap (λ (k : ℕ). x ∷ drop k (y ∷ es)) (sym i), omega (arith, w.1)))

pub is_within : (es : List Entry) (at : ℕ) (x : Entry) → Some x ≡ slice_get es at → at < length es
is_within es at x e = (there es at x e).1

nothing_from : (es : List Entry) (at : ℕ) → None ≡ slice_get es at → drop at es ≡ []
nothing_from [] zero e = refl
nothing_from [] (suc at) e = refl
nothing_from (y ∷ es) zero e = cc
nothing_from (y ∷ es) (suc at) e = nothing_from es at e

pub until_past : (b : Ts) (es : List Entry) (at : ℕ) → None ≡ slice_get es at → until b (drop at es) ≡ []
until_past b es at e = ap (until b) (nothing_from es at e)

pub until_later : (b : Ts) (es : List Entry) (at : ℕ) (x : Entry) → Some x ≡ slice_get es at → earlier b x.0 ≡ true → until b (drop at es) ≡ []
until_later b es at x e f = ap (until b) (there es at x e).0 ∙ ap (λ (t : Bool). if not t then x ∷ until b (drop (at + 1) es) else []) f

pub until_next : (b : Ts) (es : List Entry) (at : ℕ) (x : Entry) → Some x ≡ slice_get es at → earlier b x.0 ≡ false → until b (drop at es) ≡ x ∷ until b (drop (at + 1) es)
until_next b es at x e f = ap (until b) (there es at x e).0 ∙ ap (λ (t : Bool). if not t then x ∷ until b (drop (at + 1) es) else []) f

take_none : (k : ℕ) → ◌≡◌ {A = List Entry} (take k []) []
take_none zero = refl
take_none (suc k) = refl

pub end_entries : (out whole : List (List ℕ)) (left : ℕ) (us : List Entry) → us ≡ [] → out ++ bytes_of (take left us) ≡ whole → out ≡ whole
end_entries out whole left us e w = sym (ap (λ (z : List Entry). out ++ bytes_of (take left z)) e ∙ (ap (λ (z : List Entry). out ++ bytes_of z) (take_none left) ∙ append-nil out)) ∙ w

pub end_last : (left : ℕ) (us : List Entry) (r : Bool) → us ≡ [] → nat_le (length us) left ≡ r → true ≡ r
end_last left us r e w = sym (le-leb 0 left (omega arith)) ∙ (ap (λ (z : List Entry). nat_le (length z) left) (sym e) ∙ w)

pub more_follow : (left : ℕ) (x : Entry) (us rest : List Entry) (r : Bool) → left ≡ 0 → us ≡ x ∷ rest → nat_le (length us) left ≡ r → false ≡ r
more_follow left x us rest r z e w = sym (no (nat_le (length us) left) refl) ∙ w
  where
    no : (b : Bool) → nat_le (length us) left ≡ b → nat_le (length us) left ≡ false
    no true h = (let k = leb-true (length us) left h in let l = ap length e in absurd (omega (arith, k, l, z)))
    no false h = h

pub next_entries : (out next whole : List (List ℕ)) (left : ℕ) (x : Entry) (us rest : List Entry) (bytes : List ℕ) → (left ≡ 0 → ⊥) → us ≡ x ∷ rest → bytes ≡ x.1 → next ≡ out ++ (bytes ∷ []) → out ++ bytes_of (take left us) ≡ whole → next ++ bytes_of (take (left - 1) rest) ≡ whole
next_entries out next whole left x us rest bytes n e b p w =
    ap (λ (z : List (List ℕ)). z ++ bytes_of (take (left - 1) rest)) p
    ∙ (append_assoc out (bytes ∷ []) (bytes_of (take (left - 1) rest))
    ∙ (ap (λ (z : List ℕ). out ++ (z ∷ bytes_of (take (left - 1) rest))) b
    ∙ (ap (λ (z : List (List ℕ)). out ++ z) (sym (first left n)) ∙ (ap (λ (z : List Entry). out ++ bytes_of (take left z)) (sym e) ∙ w))))
  where
    first : (k : ℕ) → (k ≡ 0 → ⊥) → bytes_of (take k (x ∷ rest)) ≡ x.1 ∷ bytes_of (take (k - 1) rest)
    first zero h = absurd (h refl)
    first (suc k) h = (let i : suc k - 1 ≡ k = omega arith in ap (λ (j : ℕ). x.1 ∷ bytes_of (take j rest)) (sym i))

pub next_last : (left : ℕ) (x : Entry) (us rest : List Entry) (r : Bool) → (left ≡ 0 → ⊥) → us ≡ x ∷ rest → nat_le (length us) left ≡ r → nat_le (length rest) (left - 1) ≡ r
next_last left x us rest r n e w = by (nat_le (length rest) (left - 1)) (nat_le (length us) left) refl refl ∙ w
  where
    by : (a b : Bool) → nat_le (length rest) (left - 1) ≡ a → nat_le (length us) left ≡ b → nat_le (length rest) (left - 1) ≡ nat_le (length us) left
    by true true g h = g ∙ sym h
    by false false g h = g ∙ sym h
    by true false g h = (let i = leb-true (length rest) (left - 1) g in let j = leb-false (length us) left h in let l = ap length e in absurd (n (omega (arith, i, j, l))))
    by false true g h = (let i = leb-false (length rest) (left - 1) g in let j = leb-true (length us) left h in let l = ap length e in absurd (omega (arith, i, j, l)))
