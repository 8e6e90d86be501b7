-- What covers a place covers all that is below it.
use Rattle.std.proofs.Common.{◌≡◌, ℕ, List, [], ◌∷◌, ◌++◌, Bool, true, false, refl, sym, ◌∙◌, arith, inl, inr}
use Rattle.std.proofs.lemmas.Bool.{cases_Bool}
use Rattle.bson_value.specs.Place.{Place}
use Rattle.doc_path.specs.Touch.{Part, key_of, Touch, Set, Unset, Resize, below, from_key, from_index, covers}
use Rattle.doc_path.specs.Laws.{Hereditary, CoversAllBelow, CoversNoRoot}

pub mono-from_key : (k : List ℕ) → Hereditary (from_key k)
mono-from_key k [] r n = refl
mono-from_key k (j ∷ q) r n = n

pub mono-from_index : (m : ℕ) → Hereditary (from_index m)
mono-from_index m [] r n = refl
mono-from_index m (j ∷ q) r n = n

pub mono-below : (ps : List Part) (c : Place → Bool) → Hereditary c → Hereditary (below ps c)
mono-below [] c h q r n = h q r n
mono-below (p ∷ ps) c h [] r n = refl
mono-below (p ∷ ps) c h (k ∷ q) r n = grind (arith, mono-below ps c h q r)

pub mono-covers : (t : Touch) → Hereditary (covers t)
mono-covers (Set ps p a) = mono-below ps (from_key (key_of p)) (mono-from_key (key_of p))
mono-covers (Unset ps p) = mono-below ps (from_key (key_of p)) (mono-from_key (key_of p))
mono-covers (Resize ps n) = mono-below ps (from_index n) (mono-from_index n)

pub covers_all_below : CoversAllBelow
covers_all_below t q r e =
    elim (cases_Bool (covers t (q ++ r))) [
      | inl h ↦ h
      | inr h ↦ let f : true ≡ false = sym e ∙ mono-covers t q r h in cc
    ]

pub root_below : (ps : List Part) (c : Place → Bool) → c [] ≡ false → below ps c [] ≡ false
root_below [] c r = r
root_below (p ∷ ps) c r = refl

pub covers_no_root : CoversNoRoot
covers_no_root (Set ps p a) = root_below ps (from_key (key_of p)) refl
covers_no_root (Unset ps p) = root_below ps (from_key (key_of p)) refl
covers_no_root (Resize ps n) = root_below ps (from_index n) refl
