-- The token that begins at a place of a text, whether it is spelled as it must be or not.
use Rattle.std.specs.Prelude.{ℕ, ◌&&◌, ◌||◌, Bool, true, false, List, [], ◌∷◌, ◌++◌, take, drop, nat_lt, ◌==◌, if◌then◌else◌}
use Rattle.json_tree.specs.Numbers.{is_digit}

-- a digit, a letter, a sign or a point: what numbers and the three words are made of
abbrev pub is_part : ℕ → Bool
is_part b = is_digit b || b == 43 || b == 45 || b == 46 || (nat_lt 64 b && nat_lt b 91) || (nat_lt 96 b && nat_lt b 123)

-- the rest of a number or a word, and the byte behind it, with which it has ended
unfoldable pub word_from : List ℕ → List ℕ
word_from [] = []
word_from (b ∷ bytes) = if is_part b then b ∷ word_from bytes else b ∷ []

-- the rest of a string up to its closing quote, where a backslash stands before it or not
unfoldable pub string_from : Bool → List ℕ → List ℕ
string_from escaped [] = []
string_from true (b ∷ bytes) = b ∷ string_from false bytes
string_from false (b ∷ bytes) = if b == 34 then b ∷ [] else b ∷ string_from (b == 92) bytes

-- the token that begins here: a string, a number or a word with the byte behind it, or one byte
unfoldable pub token_from : List ℕ → List ℕ
token_from [] = []
token_from (b ∷ bytes) = if b == 34 then b ∷ string_from false bytes else (if is_part b then b ∷ word_from bytes else b ∷ [])

-- the text up to the end of the token at this place
abbrev pub up_to_token : ℕ → List ℕ → List ℕ
up_to_token at text = take at text ++ token_from (drop at text)
