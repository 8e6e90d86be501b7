-- Bytes of a document, an array or a code with a scope, which are their spelling exactly where what they hold is.
use Rattle.std.proofs.Common.{◌≡◌, ℕ, suc, ◌+◌, ◌-◌, ◌<◌, ◌≤◌, ◌^◌, List, [], ◌∷◌, ◌++◌, length, take, drop, map, refl, sym, ap, subst, ◌∙◌, append_assoc, ◌⊎◌, inl, inr, arith}
use Rattle.std.specs.Prelude.{◌↔◌}
use Rattle.std.proofs.lemmas.List.{take_all, drop_at, length-append, length-drop, append_cancel_left, append_cancel_right}
use Rattle.bson_value.specs.Levels.{largest, levels_in, levels_of}
use Rattle.bson_value.specs.Spelling.{Typed, count_bytes, framed, counted, text_bytes, document_text, elements_of, items_of, spelled, spelling, spelling_step}
use Rattle.bson_value.specs.declared.value.Value.{Value, out-Value, roll-Value, out-roll-Value, map-Value}
use Rattle.bson_value.specs.declared.value.Value.TheOpen.{Value-F}
use Rattle.bson_value.specs.WellFormed.{AreBytes}
use Rattle.bson_value.proofs.Runs.{front_bytes, back_bytes}
use Rattle.bson_check.specs.Spells.{IsFrame, AreBytesOf, IsDocument, IsArray, type_byte, Spells}
use Rattle.bson_check.proofs.Height.{levels_at, levels_out, object_levels, code_levels}
use Rattle.bson_encode.proofs.Grammar.{spelling_out}
use Rattle.bson_view.specs.Meaning.{AreValue, IsLeaf, value_in}
use Rattle.bson_view.specs.Parts.{Part, bytes_of, fields_of, values_of, AreElementsOf, AreScopedParts, AreNames}
use Rattle.bson_view.proofs.Meanings.{value_is}
use Rattle.bson_view.proofs.Sizes.{frame_size}
use Rattle.bson_spelling.specs.Spelled.{AreSpelledFields, AreSpelledItems}
use Rattle.bson_encode.proofs.Numbered.{string_back, count_back}

module _ (b elements text : List ℕ) (h : AreBytes b) (f : IsFrame b elements) where
  whole : b ≡ f.0 ++ (elements ++ 0 ∷ [])
  whole = f.2 ∙ append_assoc f.0 elements (0 ∷ [])

  -- a frame is the spelling of what it holds
  pub frame_to : elements ≡ text → b ≡ framed text
  frame_to e =
      let long : length b ≡ length text + 5 = omega (arith, frame_size b elements f, ap length e) in
      let total : f.0 ≡ count_bytes (length text + 5) = count_back f.0 (length b) (front_bytes f.0 (elements ++ 0 ∷ []) (subst AreBytes whole h)) f.1 ∙ ap count_bytes long in
      f.2 ∙ ap (λ (c : List ℕ). c ++ elements ++ 0 ∷ []) total ∙ ap (λ (z : List ℕ). count_bytes (length text + 5) ++ z ++ 0 ∷ []) e

  pub frame_from : b ≡ framed text → elements ≡ text
  frame_from e =
      let inner : elements ++ 0 ∷ [] ≡ text ++ 0 ∷ [] =
      sym (drop_at f.0 (elements ++ 0 ∷ []) 4 f.1.four) ∙ ap (drop 4) (sym whole ∙ e ∙ append_assoc (count_bytes (length text + 5)) text (0 ∷ [])) ∙ drop_at (count_bytes (length text + 5)) (text ++ 0 ∷ []) 4 refl in
      append_cancel_right elements text (0 ∷ []) inner

-- ---- values

-- the spelling and the levels of one level
abbrev bytes_at : Value-F Value → List ℕ
bytes_at x = (spelling_step (map-Value Value Typed spelling x)).1

abbrev At : ℕ → List ℕ → Value-F Value → Type 0
At n b x = (b ≡ bytes_at x) × (levels_at x ≤ n)

abbrev pub Within : ℕ → List ℕ → Value → Type 0
Within n b v = (b ≡ spelled v) × (levels_in v ≤ n)

at_out : (n : ℕ) (b : List ℕ) (v : Value) → Within n b v → At n b (out-Value v)
at_out n b v h = (h.0 ∙ ap (λ (t : Typed). t.1) (spelling_out v), omega (arith, h.1, levels_out v))

of_out : (n : ℕ) (b : List ℕ) (v : Value) → At n b (out-Value v) → Within n b v
of_out n b v h = (h.0 ∙ sym (ap (λ (t : Typed). t.1) (spelling_out v)), omega (arith, h.1, levels_out v))

by_level : (n : ℕ) (b : List ℕ) (v : Value) (P : Type 0) → At n b (out-Value v) ↔ P → Within n b v ↔ P
by_level n b v P h = (λ w. h.0 (at_out n b v w), λ p. of_out n b v (h.1 p))

abbrev field_levels : List (List ℕ × Value) → ℕ
field_levels fs = largest (map (λ e. levels_in e.1) fs)

object_at : (b : List ℕ) (x : Value-F Value) (ps : List Part) (n : ℕ) → AreBytes b → type_byte x ≡ 3 → AreElementsOf x b ps → At (suc n) b x ↔ AreSpelledFields n ps
object_at b (Value-F.Object fs) ps n h k e =
    let levels = object_levels fs in
    let same = ap field_levels e.1 in (
      λ a. (frame_from b (bytes_of ps) (elements_of (fields_of ps)) h e.0 (a.0 ∙ ap document_text (sym e.1)), omega (arith, a.1, levels, same)),
      λ a. (frame_to b (bytes_of ps) (elements_of (fields_of ps)) h e.0 a.0 ∙ ap document_text e.1, omega (arith, a.1, levels, same)),
    )
object_at b _ ps n h k e = absurd (omega (arith, k))

array_at : (b : List ℕ) (x : Value-F Value) (ps : List Part) (n : ℕ) → AreBytes b → type_byte x ≡ 4 → AreElementsOf x b ps → (At (suc n) b x ↔ AreSpelledItems n 0 ps) × AreNames ps
array_at b (Value-F.Array vs) ps n h k e =
    let same = ap (λ ws. largest (map levels_in ws)) e.1 in (
      (
        λ a. (frame_from b (bytes_of ps) (items_of (values_of ps)) h e.0 (a.0 ∙ ap (λ ws. framed (items_of ws)) (sym e.1)), omega (arith, a.1, same)),
        λ a. (frame_to b (bytes_of ps) (items_of (values_of ps)) h e.0 a.0 ∙ ap (λ ws. framed (items_of ws)) e.1, omega (arith, a.1, same)),
      ),
      e.2,
    )
array_at b _ ps n h k e = absurd (omega (arith, k))

-- the scope of a code, behind its text
pub record ScopeOf (b text : List ℕ) (x : Value-F Value) : Type 0 where
  pub document : Value
  pub long : 4 + length text ≤ length b
  pub value : AreValue 3 (drop (4 + length text) b) document
  pub same : (n : ℕ) → At n b x ↔ Within n (drop (4 + length text) b) document

module _ (l : ℕ) (b text t : List ℕ) (fs : List (List ℕ × Value)) (h : AreBytes b) (k : AreBytesOf (IsDocument l) (IsArray l) b (Value-F.ScopedCode t fs)) (e : text ≡ text_bytes t) where
  parts : AreBytes (k.0 ++ (k.1 ++ k.2))
  parts = subst AreBytes k.6 h

  inner : AreBytes (k.1 ++ k.2)
  inner = back_bytes k.0 (k.1 ++ k.2) parts

  string : k.1 ≡ text_bytes t
  string = string_back k.1 t (front_bytes k.1 k.2 inner) k.4

  front : length (k.0 ++ k.1) ≡ 4 + length text
  front = omega (arith, length-append k.0 k.1, k.3.four, ap length string, ap length e)

  scope : drop (4 + length text) b ≡ k.2
  scope = ap (drop (4 + length text)) (k.6 ∙ sym (append_assoc k.0 k.1 k.2)) ∙ drop_at (k.0 ++ k.1) k.2 (4 + length text) front

  scope_from : b ≡ counted (text_bytes t ++ document_text fs) → k.2 ≡ document_text fs
  scope_from w =
      let both : k.1 ++ k.2 ≡ text_bytes t ++ document_text fs =
      sym (drop_at k.0 (k.1 ++ k.2) 4 k.3.four) ∙ ap (drop 4) (sym k.6 ∙ w) ∙ drop_at (count_bytes (length (text_bytes t ++ document_text fs) + 4)) (text_bytes t ++ document_text fs) 4 refl in
      append_cancel_left (text_bytes t) k.2 (document_text fs) (ap (λ z. z ++ k.2) (sym string) ∙ both)

  scope_to : k.2 ≡ document_text fs → b ≡ counted (text_bytes t ++ document_text fs)
  scope_to w =
      let both : k.1 ++ k.2 ≡ text_bytes t ++ document_text fs = ap (λ (c : List ℕ). c ++ k.2) string ∙ ap (λ (c : List ℕ). text_bytes t ++ c) w in
      let total = count_back k.0 (length b) (front_bytes k.0 (k.1 ++ k.2) parts) k.3 in
      let long : length b ≡ length (text_bytes t ++ document_text fs) + 4 = omega (arith, ap length k.6, length-append k.0 (k.1 ++ k.2), k.3.four, ap length both) in
      k.6 ∙ ap (λ (c : List ℕ). c ++ (k.1 ++ k.2)) (total ∙ ap count_bytes long) ∙ ap (λ (c : List ℕ). count_bytes (length (text_bytes t ++ document_text fs) + 4) ++ c) both

  scope_of : ScopeOf b text (Value-F.ScopedCode t fs)
  scope_of =
      let levels = code_levels t fs in
      let v = roll-Value (Value-F.Object fs) in
      let out : out-Value v ≡ Value-F.Object fs = out-roll-Value (Value-F.Object fs) in
      let inside : levels_at (out-Value v) ≡ levels_of fs = ap levels_at out ∙ object_levels fs in
      record {
        document = v;
        long = omega (arith, front, ap length (k.6 ∙ sym (append_assoc k.0 k.1 k.2)), length-append (k.0 ++ k.1) k.2);
        value = record {
          levels = l;
          kind = ap type_byte (sym out);
          spells = subst (λ (x : Value-F Value). AreBytesOf (IsDocument l) (IsArray l) (drop (4 + length text) b) x) (sym out) (subst (λ (z : List ℕ). IsDocument l z fs) (sym scope) k.5);
        };
        same = λ n. (
          λ a. of_out n (drop (4 + length text) b) v (scope ∙ scope_from a.0 ∙ ap bytes_at (sym out), omega (arith, a.1, levels, inside)),
          λ w. let o = at_out n (drop (4 + length text) b) v w in (scope_to (sym scope ∙ o.0 ∙ ap bytes_at out), omega (arith, o.1, levels, inside)),
        );
      }

scoped_at : (l : ℕ) (b text : List ℕ) (x : Value-F Value) (ps : List Part) → AreBytes b → AreBytesOf (IsDocument l) (IsArray l) b x → AreScopedParts x b text ps → ScopeOf b text x
scoped_at l b text (Value-F.ScopedCode t fs) ps h k e = scope_of l b text t fs h k e.0
scoped_at l b text _ ps h k e = absurd e

module _ (tag : ℕ) (b : List ℕ) (v : Value) (value : AreValue tag b v) (h : AreBytes b) where
  pub document_is : (ps : List Part) (n : ℕ) → tag ≡ 3 → AreElementsOf (out-Value v) b ps → Within (suc n) b v ↔ AreSpelledFields n ps
  document_is ps n k e = by_level (suc n) b v (AreSpelledFields n ps) (object_at b (out-Value v) ps n h (sym value.kind ∙ k) e)

  pub array_is : (ps : List Part) (n : ℕ) → tag ≡ 4 → AreElementsOf (out-Value v) b ps → Within (suc n) b v ↔ AreSpelledItems n 0 ps
  array_is ps n k e = by_level (suc n) b v (AreSpelledItems n 0 ps) (array_at b (out-Value v) ps n h (sym value.kind ∙ k) e).0

  pub array_names : (ps : List Part) → tag ≡ 4 → AreElementsOf (out-Value v) b ps → AreNames ps
  array_names ps k e = (array_at b (out-Value v) ps 0 h (sym value.kind ∙ k) e).1

  pub scope_there : (text : List ℕ) (ps : List Part) → AreScopedParts (out-Value v) b text ps → ScopeOf b text (out-Value v)
  scope_there text ps e = scoped_at value.levels b text (out-Value v) ps h value.spells e

  -- what the scope is, the code is
  pub scope_is : (text : List ℕ) (n : ℕ) → (s : ScopeOf b text (out-Value v)) → Within n b v ↔ Within n (drop (4 + length text) b) (value_in 3 (drop (4 + length text) b))
  scope_is text n s =
      let c = drop (4 + length text) b in
      subst (λ (w : Value). Within n b v ↔ Within n c w) (sym (value_is 3 c s.document s.value)) (by_level n b v (Within n c s.document) (s.same n))

-- documents and arrays have a level
pub no_level : (b : List ℕ) (tag : ℕ) (v : Value) → AreValue tag b v → (tag ≡ 3) ⊎ (tag ≡ 4) → Within 0 b v → ⊥
no_level b tag v value is w = go (out-Value v) (by_tag is) (at_out 0 b v w).1 where
  by_tag : (tag ≡ 3) ⊎ (tag ≡ 4) → (type_byte (out-Value v) ≡ 3) ⊎ (type_byte (out-Value v) ≡ 4)
  by_tag (inl e) = inl (sym value.kind ∙ e)
  by_tag (inr e) = inr (sym value.kind ∙ e)

  go : (x : Value-F Value) → (type_byte x ≡ 3) ⊎ (type_byte x ≡ 4) → levels_at x ≤ 0 → ⊥
  go (Value-F.Object fs) k le = omega (arith, le)
  go (Value-F.Array vs) k le = omega (arith, le)
  go _ (inl k) le = omega (arith, k)
  go _ (inr k) le = omega (arith, k)

-- a leaf's bytes are its spelling, and it has no levels
pub leaf_is : (tag : ℕ) (b : List ℕ) (v : Value) (n : ℕ) → AreValue tag b v → (IsLeaf (out-Value v) → b ≡ spelled v) → (tag ≡ 3 → ⊥) → (tag ≡ 4 → ⊥) → (tag ≡ 15 → ⊥) → Within n b v
leaf_is tag b v n value leaf o a c = (leaf (there (out-Value v) value.kind), omega (arith, levels_out v, none (out-Value v) value.kind)) where
  there : (x : Value-F Value) → tag ≡ type_byte x → IsLeaf x
  there (Value-F.Object fs) k = absurd (o k)
  there (Value-F.Array vs) k = absurd (a k)
  there (Value-F.ScopedCode t fs) k = absurd (c k)
  there _ k = tt

  none : (x : Value-F Value) → tag ≡ type_byte x → levels_at x ≡ 0
  none (Value-F.Object fs) k = absurd (o k)
  none (Value-F.Array vs) k = absurd (a k)
  none (Value-F.ScopedCode t fs) k = absurd (c k)
  none _ k = refl

-- ---- a whole document

pub whole_is : (b : List ℕ) (fs : List (List ℕ × Value)) (ps : List Part) (n : ℕ) → AreBytes b → IsFrame b (bytes_of ps) → fields_of ps ≡ fs → ((b ≡ document_text fs) × (levels_of fs ≤ suc n)) ↔ AreSpelledFields n ps
whole_is b fs ps n h f e =
    let same = ap field_levels e in (
      λ a. (frame_from b (bytes_of ps) (elements_of (fields_of ps)) h f (a.0 ∙ ap document_text (sym e)), omega (arith, a.1, same)),
      λ a. (frame_to b (bytes_of ps) (elements_of (fields_of ps)) h f a.0 ∙ ap document_text e, omega (arith, a.1, same)),
    )

pub short_of : (b : List ℕ) (fs : List (List ℕ × Value)) (ps : List Part) → Spells b fs → IsFrame b (bytes_of ps) → length (bytes_of ps) < 2 ^ 31
unfolding Spells
short_of b fs ps s f = omega (arith, s.0, frame_size b (bytes_of ps) f)

pub behind_all : (b : List ℕ) (k : ℕ) → take (length b - k) (drop k b) ≡ drop k b
behind_all b k = take_all (length b - k) (drop k b) (omega (arith, length-drop k b))

pub through : {A B C : Type 0} → A ↔ B → C ↔ B → C ↔ A
through f g = (λ c. f.1 (g.0 c), λ a. g.1 (f.0 a))
