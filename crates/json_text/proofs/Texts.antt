-- Texts as tests.
use Rattle.std.proofs.Common.{◌≡◌, ℕ, suc, ◌-◌, Bool, true, false, List, [], length, Ok, Err, refl}
use Rattle.std.specs.Str.{IsUtf8, is_utf8}
use Rattle.std.proofs.lemmas.Str.{IsUtf8-from_is_utf8}
use Rattle.json_text.specs.Reading.{place, steps_at, piece_at, string_at}

no_text : (bs : List ℕ) (b : Bool) → is_utf8 bs ≡ b → (IsUtf8 bs → ⊥) → is_utf8 bs ≡ false
no_text bs true e h = absurd (h (IsUtf8-from_is_utf8 bs e))
no_text bs false e h = e

pub not_utf8 : (bs : List ℕ) → (IsUtf8 bs → ⊥) → is_utf8 bs ≡ false
not_utf8 bs h = no_text bs (is_utf8 bs) refl h

-- a string whose bytes are a text, and one whose bytes are none
module _ (end : ℕ) (bytes text rest : List ℕ) (e : steps_at (piece_at (place end bytes - 1) end) (suc (length bytes)) end [] bytes ≡ Ok (text, rest)) where
  pub string_is : is_utf8 text ≡ true → string_at end bytes ≡ Ok (text, rest)
  unfolding string_at
  string_is h = rw (e, h) refl

  pub string_not : (IsUtf8 text → ⊥) → string_at end bytes ≡ Err (place end bytes - 1)
  unfolding string_at
  string_not h = let n : is_utf8 text ≡ false = not_utf8 text h in rw (e, n) refl
