-- A touch as an edit, by the last part of its place.
use Rattle.std.proofs.Common.{◌≡◌, ℕ, List, [], ◌∷◌, ◌++◌, refl, ap, ◌∙◌}
use Rattle.doc_path.specs.declared.parts.Part.{Part}
use Rattle.doc_path.specs.Played.{way_and_last}
use Rattle.entry_model.specs.Edits.{Step, Resizes}
use Rattle.entry_model.specs.Touches.{at_end, resized}

parted : (p : Part) (ws : List Part) (l : Part) → way_and_last p (ws ++ (l ∷ [])) ≡ (p ∷ ws, l)
parted p [] l = refl
parted p (w ∷ ws) l = ap (λ (x : List Part × Part). (p ∷ x.0, x.1)) (parted w ws l)

ends : (ws : List Part) (l : Part) (s : Part → Step) → at_end (ws ++ (l ∷ [])) s ≡ (ws, s l)
ends [] l s = refl
ends (w ∷ ws) l s = ap (λ (x : List Part × Part). (x.0, s x.1)) (parted w ws l)

pub at_end_is : (place ws : List Part) (l : Part) (s : Part → Step) → place ≡ ws ++ (l ∷ []) → at_end place s ≡ (ws, s l)
at_end_is place ws l s e = ap (λ (ps : List Part). at_end ps s) e ∙ ends ws l s

pub resized_is : (place : List Part) (n : ℕ) → (place ≡ [] → ⊥) → resized place n ≡ (place, Resizes n)
resized_is [] n h = absurd (h refl)
resized_is (p ∷ ps) n h = refl
