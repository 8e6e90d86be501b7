-- The laws of the place at which a text is refused, in the words of the grammar.
use Rattle.std.specs.Prelude.{◌≡◌, ◌≢◌, ◌↔◌, ℕ, ◌≤◌, true, List, ◌++◌, length, take, Err}
use Rattle.std.specs.Str.{is_utf8}
use Rattle.json_tree.specs.declared.tree.Tree.{Tree}
use Rattle.json_text.specs.Grammar.{Json}
use Rattle.json_text.specs.Reading.{tree_of_text}
use Rattle.json_faults.specs.Tokens.{up_to_token}

-- something that begins with these bytes is a JSON text
abbrev pub Continues : List ℕ → Type 0
Continues front = (more : List ℕ) × (t : Tree) × Json (front ++ more) t

-- the law that the place at which a text is refused is one of its places, or its end
abbrev pub RefusedWithin : Type 0
RefusedWithin = (text : List ℕ) (at : ℕ) → tree_of_text text ≡ Err at → at ≤ length text

-- the law that the bytes of a text before the place at which it is refused continue
abbrev pub ContinuesToItsFault : Type 0
ContinuesToItsFault = (text : List ℕ) (at : ℕ) → is_utf8 text ≡ true → tree_of_text text ≡ Err at → Continues (take at text)

-- the law that a text that is refused before its end is refused by the token at that place
abbrev pub RefusedAtItsToken : Type 0
RefusedAtItsToken = (text : List ℕ) (at : ℕ) → tree_of_text text ≡ Err at → at ≢ length text → Continues (up_to_token at text) → ⊥

-- the law that a refused text is refused at its end exactly where it continues
abbrev pub RefusedAtItsEnd : Type 0
RefusedAtItsEnd = (text : List ℕ) (at : ℕ) → is_utf8 text ≡ true → tree_of_text text ≡ Err at → Continues text ↔ (at ≡ length text)
