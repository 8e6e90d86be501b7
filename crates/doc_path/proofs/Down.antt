-- What a part leads to.
use Rattle.std.proofs.Common.{◌≡◌, ℕ, List, [], ◌∷◌, refl, sym, subst, None}
use Rattle.std.specs.Prelude.{slice_get}
use Rattle.bson_value.specs.declared.value.Value.{Value}
use Rattle.bson_value.specs.declared.value.Value.TheVariants.{Object, Array, outs-Object}
use Rattle.containers.specs.Entries.{lookup}
use Rattle.bson_value.specs.Digits.{digits}
use Rattle.bson_value.proofs.Digits.{index_of-digits}
use Rattle.doc_path.specs.declared.parts.Rule.TheVariants.{Plain}
use Rattle.doc_path.specs.Touch.{Part, name, index}
use Rattle.doc_path.specs.Ways.{under, value_from, HasRoom}
use Rattle.doc_path.proofs.Places.{child-object, child-array}
use Rattle.doc_path.proofs.Steps.{shape-object, shape-array, other_takes, nth-slice_get}

pub under-name : (fs : List (List ℕ × Value)) (p : Part) (k : List ℕ) → p ≡ name k → under p (Object fs) ≡ lookup k fs
under-name fs p k e = subst (λ (z : Part). under z (Object fs) ≡ lookup k fs) (sym e) (rw (shape-object fs) (child-object fs k))

pub under-no_name : (fs : List (List ℕ × Value)) (p : Part) (n : ℕ) → p ≡ index n → under p (Object fs) ≡ None
under-no_name fs p n e = subst (λ (z : Part). under z (Object fs) ≡ None) (sym e) (rw (shape-object fs) refl)

pub under-index : (vs : List Value) (p : Part) (n : ℕ) → p ≡ index n → under p (Array vs) ≡ slice_get vs n
under-index vs p n e = subst (λ (z : Part). under z (Array vs) ≡ slice_get vs n) (sym e) (rw (shape-array vs, child-array vs (digits n), index_of-digits n) (nth-slice_get vs n))

pub under-no_index : (vs : List Value) (p : Part) (k : List ℕ) → p ≡ name k → under p (Array vs) ≡ None
under-no_index vs p k e = subst (λ (z : Part). under z (Array vs) ≡ None) (sym e) (rw (shape-array vs) refl)

pub under-other : (v : Value) (p : Part) → ((fs : List (List ℕ × Value)) → v ≡ Object fs → ⊥) → ((vs : List Value) → v ≡ Array vs → ⊥) → under p v ≡ None
under-other v p a b = rw (other_takes v Plain p a b) refl

pub in_none : (ps : List Part) → value_from None ps ≡ None
in_none [] = refl
in_none (p ∷ ps) = refl

-- a document has room for each field
pub field_has_room : (k : List ℕ) (fs : List (List ℕ × Value)) → HasRoom (name k ∷ []) (Object fs)
field_has_room k fs = (Object fs, refl, (rw (shape-object fs) refl, rw (outs-Object fs) tt))
