-- A prelude, part by part.
use Rattle.std.proofs.Common.{◌≡◌, ℕ, List, [], ◌∷◌, ◌++◌, map, refl, ap, subst, ◌∙◌}
use Rattle.std.specs.Prelude.{Option, Result, Ok, Err, IfOk, flat_map}
use Rattle.std.specs.Io.KnownBytes.{Appends}
use Rattle.tool_io.specs.Causes.{AppendsFront}
use Rattle.tool_io.proofs.Writes.{appends_two, front_first, front_next}
use Rattle.bson_value.specs.declared.value.Value.{Value}
use Rattle.bson_value.specs.Spelling.{document_text}
use Rattle.archive_format.specs.Shapes.{Header}
use Rattle.archive_format.specs.Archive.{magic_bytes, stop_bytes}
use Rattle.archive_format.specs.Written.{header_text, meta_text, metas_text, prelude_text}
use Rattle.archive_prelude.specs.declared.prelude.Meta.{Meta}
use Rattle.archive_prelude.specs.Parts.{metadata_of}

pub spelled_as : {E : Type 0} (r : Result (List ℕ) E) (d fs : List (List ℕ × Value)) → d ≡ fs → IfOk r (λ b. b ≡ document_text d) → IfOk r (λ b. b ≡ document_text fs)
spelled_as (Ok b) d fs e k = k ∙ ap document_text e
spelled_as (Err e) d fs is k = tt

abbrev pub meta_bytes : Meta → List ℕ
meta_bytes m = meta_text (metadata_of m)

all_metas : (ms : List Meta) → flat_map meta_bytes ms ≡ metas_text (map metadata_of ms)
all_metas [] = refl
all_metas (m ∷ ms) = ap (λ z. meta_bytes m ++ z) (all_metas ms)

module _ (a b c e : Option (List ℕ)) (h : Header) (ms : List Meta) (front : List ℕ) (is : front ≡ magic_bytes ++ header_text h) where
  in_prelude : front ++ flat_map meta_bytes ms ++ stop_bytes ≡ prelude_text h (map metadata_of ms)
  in_prelude = ap (λ z. z ++ flat_map meta_bytes ms ++ stop_bytes) is ∙ ap (λ z. magic_bytes ++ header_text h ++ z ++ stop_bytes) (all_metas ms)

  pub header_front : AppendsFront a b front → AppendsFront a b (prelude_text h (map metadata_of ms))
  header_front p = subst (λ (z : List ℕ). AppendsFront a b z) in_prelude (front_first a b (front ++ flat_map meta_bytes ms) stop_bytes (front_first a b front (flat_map meta_bytes ms) p))

  pub metas_front : Appends a b front → AppendsFront b c (flat_map meta_bytes ms) → AppendsFront a c (prelude_text h (map metadata_of ms))
  metas_front p q = subst (λ (z : List ℕ). AppendsFront a c z) in_prelude (front_first a c (front ++ flat_map meta_bytes ms) stop_bytes (front_next a b c front (flat_map meta_bytes ms) p q))

  pub stop_front : Appends a b front → Appends b c (flat_map meta_bytes ms) → AppendsFront c e stop_bytes → AppendsFront a e (prelude_text h (map metadata_of ms))
  stop_front p q r = subst (λ (z : List ℕ). AppendsFront a e z) in_prelude (front_next a c e (front ++ flat_map meta_bytes ms) stop_bytes (appends_two a b c front (flat_map meta_bytes ms) p q) r)

  pub whole_prelude : Appends a b front → Appends b c (flat_map meta_bytes ms) → Appends c e stop_bytes → Appends a e (prelude_text h (map metadata_of ms))
  whole_prelude p q r = subst (λ (z : List ℕ). Appends a e z) in_prelude (appends_two a c e (front ++ flat_map meta_bytes ms) stop_bytes (appends_two a b c front (flat_map meta_bytes ms) p q) r)
