-- A block, part by part.
use Rattle.std.proofs.Common.{◌≡◌, ℕ, List, [], ◌∷◌, ◌++◌, false, refl, sym, ap, subst, ◌∙◌}
use Rattle.std.specs.Prelude.{Option, pos}
use Rattle.std.specs.Io.KnownBytes.{Appends}
use Rattle.tool_io.specs.Causes.{AppendsFront}
use Rattle.tool_io.proofs.Writes.{appends_two, front_first, front_next}
use Rattle.bson_value.specs.declared.namespace.NsName.{NsName}
use Rattle.archive_format.specs.Archive.{stop_bytes}
use Rattle.archive_format.specs.Written.{joined, head_text, block_text}

block_is : (ns : NsName) (ds : List (List ℕ)) → (ds ≡ [] → ⊥) → block_text ns ds ≡ head_text ns false (pos 0) ++ joined ds ++ stop_bytes
block_is ns [] h = absurd (h refl)
block_is ns (d ∷ ds) h = refl

module _ (a b c e : Option (List ℕ)) (ns : NsName) (ds : List (List ℕ)) (some : ds ≡ [] → ⊥) (head : List ℕ) (is : head ≡ head_text ns false (pos 0)) where
  in_block : head ++ joined ds ++ stop_bytes ≡ block_text ns ds
  in_block = ap (λ z. z ++ joined ds ++ stop_bytes) is ∙ sym (block_is ns ds some)

  pub head_front : AppendsFront a b head → AppendsFront a b (block_text ns ds)
  head_front p = subst (λ (z : List ℕ). AppendsFront a b z) in_block (front_first a b (head ++ joined ds) stop_bytes (front_first a b head (joined ds) p))

  pub documents_front : Appends a b head → AppendsFront b c (joined ds) → AppendsFront a c (block_text ns ds)
  documents_front p q = subst (λ (z : List ℕ). AppendsFront a c z) in_block (front_first a c (head ++ joined ds) stop_bytes (front_next a b c head (joined ds) p q))

  pub stop_front : Appends a b head → Appends b c (joined ds) → AppendsFront c e stop_bytes → AppendsFront a e (block_text ns ds)
  stop_front p q r = subst (λ (z : List ℕ). AppendsFront a e z) in_block (front_next a c e (head ++ joined ds) stop_bytes (appends_two a b c head (joined ds) p q) r)

  pub whole_block : Appends a b head → Appends b c (joined ds) → Appends c e stop_bytes → Appends a e (block_text ns ds)
  whole_block p q r = subst (λ (z : List ℕ). Appends a e z) in_block (appends_two a c e (head ++ joined ds) stop_bytes (appends_two a b c head (joined ds) p q) r)
