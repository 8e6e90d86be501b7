-- The grammar of JSON texts: which text spells which value.
use Rattle.std.specs.Prelude.{◌≡◌, ◌≢◌, ◌⊎◌, ℕ, zero, suc, ◌+◌, ◌-◌, ◌*◌, ◌<◌, ◌≤◌, true, List, [], ◌∷◌, ◌++◌, Some, Ok, codes, if◌then◌else◌}
use Rattle.std.specs.Char.{encode_utf8}
use Rattle.std.specs.List.{list_all}
use Rattle.std.specs.Str.{is_utf8}
use Rattle.containers.specs.Entries.{AreDistinct, names_of}
use Rattle.json_tree.specs.declared.tree.Tree.{Tree, out-Tree}
use Rattle.json_tree.specs.declared.tree.Tree.TheOpen.{Tree-F}
use Rattle.json_tree.specs.Numbers.{IsNumber}
use Rattle.json_text.specs.Reading.{is_space, hex_value, meant, tree_of_text}

-- ---- white space

abbrev pub IsSpace : List ℕ → Type 0
IsSpace w = list_all is_space w ≡ true

-- ---- strings

-- the number of four hexadecimal digits
abbrev pub IsUnit : ℕ → ℕ → ℕ → ℕ → ℕ → Type 0
IsUnit a b c d u = (p q r s : ℕ) × (hex_value a ≡ Some p) × (hex_value b ≡ Some q) × (hex_value c ≡ Some r) × (hex_value d ≡ Some s) × (u ≡ 256 * (16 * p + q) + 16 * r + s)

-- what stands between the quotes, and the bytes that it means
pub data AreChars : List ℕ → List ℕ → Type 0 where
  none : AreChars [] []
  plain : {b : ℕ} {s t : List ℕ} → 32 ≤ b → b ≢ 34 → b ≢ 92 → AreChars s t → AreChars (b ∷ s) (b ∷ t)
  letter : {b m : ℕ} {s t : List ℕ} → b ≢ 117 → meant b ≡ Some m → AreChars s t → AreChars (92 ∷ b ∷ s) (m ∷ t)
  unit : {a b c d u : ℕ} {s t m : List ℕ} → IsUnit a b c d u → (u < 55296) ⊎ (57343 < u) → AreChars s t → m ≡ encode_utf8 u ++ t → AreChars (92 ∷ 117 ∷ a ∷ b ∷ c ∷ d ∷ s) m
  surrogates : {a b c d e f g h high low : ℕ} {s t m : List ℕ} → IsUnit a b c d high → 55296 ≤ high → high < 56320 → IsUnit e f g h low → 56320 ≤ low → low < 57344 → AreChars s t
      → m ≡ encode_utf8 (65536 + 1024 * (high - 55296) + (low - 56320)) ++ t → AreChars (92 ∷ 117 ∷ a ∷ b ∷ c ∷ d ∷ 92 ∷ 117 ∷ e ∷ f ∷ g ∷ h ∷ s) m

abbrev pub IsString : List ℕ → List ℕ → Type 0
IsString b t = (chars : List ℕ) × AreChars chars t × (is_utf8 t ≡ true) × (b ≡ 34 ∷ (chars ++ 34 ∷ []))

-- ---- arrays and objects

-- things with white space around each and commas between them; V says which bytes are which thing
abbrev pub AreMore : {A : Type 0} → (List ℕ → A → Type 0) → List ℕ → List A → Type 0
AreMore V b [] = b ≡ []
AreMore V b (x ∷ xs) = (before value after others : List ℕ) × IsSpace before × V value x × IsSpace after × AreMore V others xs × (b ≡ 44 ∷ (before ++ (value ++ (after ++ others))))

abbrev pub AreListed : {A : Type 0} → (List ℕ → A → Type 0) → List ℕ → List A → Type 0
AreListed V b [] = IsSpace b
AreListed V b (x ∷ xs) = (before value after others : List ℕ) × IsSpace before × V value x × IsSpace after × AreMore V others xs × (b ≡ before ++ (value ++ (after ++ others)))

-- a name, a colon and a value
abbrev pub IsMember : (List ℕ → Tree → Type 0) → List ℕ → List ℕ × Tree → Type 0
IsMember V b e = (name before after value : List ℕ) × IsString name e.0 × IsSpace before × IsSpace after × V value e.1 × (b ≡ name ++ (before ++ (58 ∷ (after ++ value))))

-- these bytes are this value; A says which bytes are an array in it, and O which are an object
abbrev pub IsOne : (List ℕ → List Tree → Type 0) → (List ℕ → List (List ℕ × Tree) → Type 0) → List ℕ → Tree-F Tree → Type 0
IsOne A O b Tree-F.Null = b ≡ codes "null"
IsOne A O b (Tree-F.Bool v) = b ≡ (if v then codes "true" else codes "false")
IsOne A O b (Tree-F.Number t) = IsNumber t × (b ≡ t)
IsOne A O b (Tree-F.Str t) = IsString b t
IsOne A O b (Tree-F.Items ts) = A b ts
IsOne A O b (Tree-F.Object es) = O b es

-- arrays and objects of so many levels at most, with distinct names
unfoldable mutual
  pub IsArray : ℕ → List ℕ → List Tree → Type 0
  IsArray zero b ts = ⊥
  IsArray (suc levels) b ts = (inner : List ℕ) × AreListed (λ c t. IsOne (IsArray levels) (IsObject levels) c (out-Tree t)) inner ts × (b ≡ 91 ∷ (inner ++ 93 ∷ []))

  pub IsObject : ℕ → List ℕ → List (List ℕ × Tree) → Type 0
  IsObject zero b es = ⊥
  IsObject (suc levels) b es = (inner : List ℕ) × AreListed (IsMember (λ c t. IsOne (IsArray levels) (IsObject levels) c (out-Tree t))) inner es × AreDistinct (names_of es) × (b ≡ 123 ∷ (inner ++ 125 ∷ []))

-- a value of at most so many levels
abbrev pub IsValue : ℕ → List ℕ → Tree → Type 0
IsValue levels b t = IsOne (IsArray levels) (IsObject levels) b (out-Tree t)

-- the text spells the value
unfoldable pub Json : List ℕ → Tree → Type 0
Json text t = (before value after : List ℕ) × IsSpace before × IsValue 256 value t × IsSpace after × (text ≡ before ++ (value ++ after))

-- the law that what the grammar has is read
abbrev pub JsonIsRead : Type 0
JsonIsRead = (text : List ℕ) (t : Tree) → Json text t → tree_of_text text ≡ Ok t

-- the law that what is read is in the grammar
abbrev pub ReadIsJson : Type 0
ReadIsJson = (text : List ℕ) (t : Tree) → tree_of_text text ≡ Ok t → Json text t
