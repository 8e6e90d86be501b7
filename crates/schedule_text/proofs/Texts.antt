-- Lines that are UTF-8, and lines that aren't.
use Rattle.std.proofs.Common.{◌≡◌, ℕ, List, refl, inl, inr}
use Rattle.std.specs.Prelude.{Ok, Err}
use Rattle.std.specs.Str.{IsUtf8, is_utf8}
use Rattle.std.proofs.lemmas.Bool.{cases_Bool}
use Rattle.std.proofs.lemmas.Str.{IsUtf8-from_is_utf8, is_utf8-from_IsUtf8}
use Rattle.schedule_text.specs.declared.fault.LineKind.TheVariants as kinds
use Rattle.schedule_text.specs.Reading.{text_in}

pub is_text : (line : List ℕ) → IsUtf8 line → text_in line ≡ Ok line
unfolding text_in
is_text line u = rw (is_utf8-from_IsUtf8 line u) refl

pub no_text : (line : List ℕ) → (IsUtf8 line → ⊥) → text_in line ≡ Err kinds.Utf8
unfolding text_in
no_text line n =
    elim (cases_Bool (is_utf8 line)) [
      | inl t ↦ absurd (n (IsUtf8-from_is_utf8 line t))
      | inr f ↦ rw f refl
    ]
