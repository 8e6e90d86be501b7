-- What a piece of a string adds to it.
use Rattle.std.specs.Prelude.{ℕ, Bool, true, false, not, ◌||◌, ◌==◌, nat_lt, List, [], ◌∷◌}
use Rattle.std.specs.Char.{encode_utf8}
use Rattle.json_text.specs.declared.tokens.Piece.{Piece}
use Rattle.json_text.specs.declared.tokens.Piece.TheVariants as pieces

abbrev pub bytes_of : Piece → List ℕ
bytes_of (pieces.Byte b) = b ∷ []
bytes_of (pieces.Char c) = encode_utf8 c
bytes_of pieces.End = []

-- whether another piece follows
abbrev pub goes_on : Piece → Bool
goes_on pieces.End = false
goes_on _ = true

-- whether this byte stands for itself in a string
abbrev pub is_plain : ℕ → Bool
is_plain b = not (b == 34 || b == 92 || nat_lt b 32)
