-- Objects and arrays as canonical Extended JSON, piece by piece.
use Rattle.std.proofs.Common.{◌≡◌, ℕ, suc, ◌+◌, ◌-◌, ◌<◌, ◌≤◌, Bool, true, false, List, [], ◌∷◌, ◌++◌, length, map, take, drop, get_or, refl, sym, ap, subst, ◌∙◌, append_assoc, arith}
use Rattle.std.specs.Prelude.{codes}
use Rattle.std.proofs.Math.Seq.{drop-cons, drop-length}
use Rattle.std.proofs.lemmas.List.{append-nil, length-append, take_at, drop_at}
use Rattle.std.proofs.lemmas.Simd.{map-map}
use Rattle.bson_value.specs.Spelling.{count_bytes, text_bytes}
use Rattle.bson_value.specs.declared.value.Value.{Value, Value-F, out-Value, roll-Value, roll-out-Value, fold-roll-Value}
use Rattle.bson_value.specs.declared.value.Value.TheVariants as values
use Rattle.bson_check.specs.Spells.{AreBytesOf, IsDocument, IsArray, type_byte}
use Rattle.bson_view.specs.Meaning.{AreValue}
use Rattle.bson_view.specs.declared.elem.Elem.{Elem}
use Rattle.json_tree.specs.declared.tree.Tree.{Tree}
use Rattle.json_tree.specs.declared.tree.Tree.TheVariants as trees
use Rattle.json_text.specs.Print.{quoted, text_of, with_commas, entry_text}
use Rattle.json_text.proofs.Printed.{object_text}
use Rattle.extjson.specs.Trees.{tree_of, tree_step, fields_of, items_of, scoped_tree}
use Rattle.extjson.proofs.Wraps.{scoped_is}
use Rattle.document_lines.specs.Elems.{ordered_elem, ordered_elems}
use Rattle.document_lines.specs.Json.{json_of, field_json, listed, comma, opened, further}
use Rattle.document_lines.proofs.Texts.{items_are, str_text, paired_put}

tree_object : (fs : List (List ℕ × Value)) → tree_of (values.Object fs) ≡ trees.Object (fields_of fs)
tree_object fs = ap tree_of (sym (values.rolls-Object fs)) ∙ fold-roll-Value Tree tree_step (Value-F.Object fs)

tree_array : (vs : List Value) → tree_of (values.Array vs) ≡ trees.Items (items_of vs)
tree_array vs = ap tree_of (sym (values.rolls-Array vs)) ∙ fold-roll-Value Tree tree_step (Value-F.Array vs)

pub object_json : (fs : List (List ℕ × Value)) → json_of (values.Object fs) ≡ 123 ∷ (with_commas (map field_json fs) ++ 125 ∷ [])
object_json fs = ap text_of (tree_object fs) ∙ object_text (fields_of fs) ∙ ap (λ ts. 123 ∷ (with_commas ts ++ 125 ∷ [])) (map-map entry_text (λ (f : List ℕ × Value). (f.0, tree_of f.1)) fs)

pub array_json : (vs : List Value) → json_of (values.Array vs) ≡ 91 ∷ (with_commas (map json_of vs) ++ 93 ∷ [])
array_json vs = ap text_of (tree_array vs) ∙ items_are (items_of vs) ∙ ap (λ ts. 91 ∷ (with_commas ts ++ 93 ∷ [])) (map-map text_of tree_of vs)

listed_more : (first : Bool) (t : List ℕ) (ts : List (List ℕ)) → listed first (t ∷ ts) ≡ comma first ++ (t ++ listed false ts)
listed_more true t ts = refl
listed_more false t ts = refl

listed_none : (first : Bool) → listed first [] ≡ []
listed_none true = refl
listed_none false = refl

-- one text more of a list
pub listed_put : (first : Bool) (t : List ℕ) (ts : List (List ℕ)) (out o1 o2 whole : List ℕ) → out ++ listed first (t ∷ ts) ≡ whole → o1 ≡ out ++ comma first → o2 ≡ o1 ++ t → o2 ++ listed false ts ≡ whole
listed_put first t ts out o1 o2 whole so_far one two =
    ap (λ z. z ++ listed false ts) (two ∙ ap (λ z. z ++ t) one) ∙ append_assoc (out ++ comma first) t (listed false ts) ∙ append_assoc out (comma first) (t ++ listed false ts) ∙ ap (λ z. out ++ z) (sym (listed_more first t ts)) ∙ so_far

plus_one : (i : ℕ) → suc i ≡ i + 1
plus_one i = omega arith

-- one field more
pub field_listed : (first : Bool) (es : List Elem) (i : ℕ) (e : Elem) (out o1 o2 whole : List ℕ) → i < length es → e ≡ get_or es i e → out ++ listed first (map field_json (ordered_elems (drop i es))) ≡ whole → o1 ≡ out ++ comma first
    → o2 ≡ o1 ++ field_json (ordered_elem e) → o2 ++ listed false (map field_json (ordered_elems (drop (i + 1) es))) ≡ whole
field_listed first es i e out o1 o2 whole lt at so_far one two =
    let next : drop i es ≡ e ∷ drop (i + 1) es = drop-cons es i e lt ∙ ap (λ x. x ∷ drop (suc i) es) (sym at) ∙ ap (λ k. e ∷ drop k es) (plus_one i) in
    listed_put first (field_json (ordered_elem e)) (map field_json (ordered_elems (drop (i + 1) es))) out o1 o2 whole (ap (λ xs. out ++ listed first (map field_json (ordered_elems xs))) (sym next) ∙ so_far) one two

-- a list whose texts were all put is closed
pub closed : (first : Bool) (ts : List (List ℕ)) (out o1 o2 body : List ℕ) (a z : ℕ) → ts ≡ [] → o1 ++ listed first ts ≡ (out ++ a ∷ []) ++ body → o2 ≡ o1 ++ z ∷ [] → o2 ≡ out ++ a ∷ (body ++ z ∷ [])
closed first ts out o1 o2 body a z none so_far last =
    let whole : o1 ≡ (out ++ a ∷ []) ++ body = sym (append-nil o1) ∙ ap (λ w. o1 ++ w) (sym (listed_none first)) ∙ ap (λ w. o1 ++ listed first w) (sym none) ∙ so_far in
    last ∙ ap (λ w. w ++ z ∷ []) whole ∙ append_assoc (out ++ a ∷ []) body (z ∷ []) ∙ append_assoc out (a ∷ []) (body ++ z ∷ [])

pub no_fields_left : (es : List Elem) (n : ℕ) → length es ≡ n → map field_json (ordered_elems (drop n es)) ≡ []
no_fields_left es n e = ap (λ xs. map field_json (ordered_elems xs)) (ap (λ k. drop k es) (sym e) ∙ drop-length es)

-- a code with a scope
pub scoped_put : (t : List ℕ) (fs : List (List ℕ × Value)) (out o1 o2 o3 o4 o5 front body next more : List ℕ) → front ≡ opened (codes "$code") → body ≡ quoted t → next ≡ further (codes "$scope") → more ≡ json_of (values.Object fs)
    → o1 ≡ out ++ front → o2 ≡ o1 ++ body → o3 ≡ o2 ++ next → o4 ≡ o3 ++ more → o5 ≡ o4 ++ 125 ∷ [] → o5 ≡ out ++ json_of (values.ScopedCode t fs)
unfolding scoped_tree
scoped_put t fs out o1 o2 o3 o4 o5 front body next more f b n m one two three four five =
    paired_put (codes "$code") (trees.Str t) (codes "$scope") (trees.Object (fields_of fs)) out o1 o2 o3 o4 o5 front body next more f (b ∙ sym (str_text t)) n (m ∙ ap text_of (tree_object fs)) one two three four five
    ∙ ap (λ z. out ++ text_of z) (sym (scoped_is t fs))

-- the text between its length and its zero
between : (count b t : List ℕ) → length count ≡ 4 → b ≡ count ++ (t ++ 0 ∷ []) → (4 ≤ length b - 1) × (take (length b - 1 - 4) (drop 4 b) ≡ t)
between count b t four e =
    let size : length b ≡ 4 + (length t + 1) = ap length e ∙ omega (arith, four, length-append count (t ++ 0 ∷ []), length-append t (0 ∷ [])) in
    (omega (arith, size), ap (λ z. take (length b - 1 - 4) (drop 4 z)) e ∙ ap (take (length b - 1 - 4)) (drop_at count (t ++ 0 ∷ []) 4 four) ∙ take_at t (0 ∷ []) (length b - 1 - 4) (omega (arith, size)))

pub text_between : (b t : List ℕ) → b ≡ text_bytes t → (4 ≤ length b - 1) × (take (length b - 1 - 4) (drop 4 b) ≡ t)
text_between b t e = between (count_bytes (length t + 1)) b t refl e

-- the text that the bytes of a value of type 2 hold
pub record IsText (b : List ℕ) (v : Value) : Type 0 where
  pub text : List ℕ
  pub is : v ≡ values.Str text
  pub held : take (length b - 1 - 4) (drop 4 b) ≡ text

text_at : (n : ℕ) (b : List ℕ) (f : Value-F Value) → AreBytesOf (IsDocument n) (IsArray n) b f → type_byte f ≡ 2 → IsText b (roll-Value f)
text_at n b (Value-F.Str t) s k = record { text = t; is = values.rolls-Str t; held = (between s.0 b t s.1.four (s.3 ∙ append_assoc s.0 t (0 ∷ []))).1 }
text_at n b _ s k = absurd (omega (arith, k))

pub of_text : (b : List ℕ) (v : Value) → AreValue 2 b v → IsText b v
of_text b v value = subst (IsText b) (roll-out-Value v) (text_at value.levels b (out-Value v) value.spells (sym value.kind))
