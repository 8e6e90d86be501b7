-- The text of a value of each kind that holds no document and no array.
use Rattle.std.proofs.Common.{◌≡◌, ℕ, ℤ, Bool, true, List, [], ◌∷◌, ◌++◌, sym, ap, subst, ◌∙◌, Bor}
use Rattle.std.specs.Prelude.{codes, Result, Ok, Err, OnOk, if◌then◌else◌}
use Rattle.std.specs.Result.{is_ok}
use Rattle.bson_value.specs.declared.value.Ts.{Ts}
use Rattle.bson_value.specs.declared.value.Value.{Value, Value-F, out-Value, out-roll-Value, fold-roll-Value}
use Rattle.bson_value.specs.declared.value.Value.TheVariants as values
use Rattle.bson_view.specs.declared.value_ref.ValueRef.{ValueRef}
use Rattle.bson_view.specs.declared.value_ref.ValueRef.TheVariants as refs
use Rattle.bson_view.specs.declared.held.Held.{Held}
use Rattle.bson_view.specs.declared.walk.HeldItems.{HeldItems}
use Rattle.bson_view.specs.Held.{held_document}
use Rattle.bson_view.specs.HeldWalk.{items_left}
use Rattle.bson_check.specs.Spells.{type_byte}
use Rattle.bson_view.specs.Meaning.{AreValue, IsLeaf}
use Rattle.bson_view.specs.References.{value_meant}
use Rattle.json_tree.specs.declared.tree.Tree.{Tree, Tree-F, fold-roll-Tree}
use Rattle.json_tree.specs.declared.tree.Tree.TheVariants as trees
use Rattle.json_text.specs.Print.{escaped, quoted, print_step, text_of}
use Rattle.extjson.specs.Trees.{tree_step, double_tree, decimal_tree, binary_tree, undefined_tree, oid_tree, int_tree, long_tree, date_tree, regex_tree, pointer_tree, code_tree, symbol_tree, stamp_tree, min_tree, max_tree}
use Rattle.document_lines.specs.Json.{json_of}
use Rattle.document_lines.proofs.Texts.{str_text, number_text, wrapped_text}

-- what a call appends where it succeeds
pub appended : {E U : Type 0} (r : Result U E) (new a b : List ℕ) → new ≡ (if is_ok r then a else b) → OnOk r (new ≡ a)
appended (Ok u) new a b e = e
appended (Err e) new a b is = tt

-- a value that was written as another that is the same
pub leaf_put : {E U : Type 0} (r : Result U E) (out new text : List ℕ) (v w : Value) → v ≡ w → json_of v ≡ text → OnOk r (new ≡ out ++ text) → OnOk r (new ≡ out ++ json_of w)
leaf_put r out new text v w same is put = subst (λ (z : List ℕ). OnOk r (new ≡ out ++ z)) (sym is ∙ ap json_of same) put

bool_text : (b : Bool) → text_of (trees.Bool b) ≡ (if b then codes "true" else codes "false")
bool_text b = ap text_of (sym (trees.rolls-Bool b)) ∙ fold-roll-Tree (List ℕ) print_step (Tree-F.Bool b)

pub double_json : (d : List ℕ) → json_of (values.Double d) ≡ text_of (double_tree d)
double_json d = ap json_of (sym (values.rolls-Double d)) ∙ ap text_of (fold-roll-Value Tree tree_step (Value-F.Double d))

pub str_json : (t : List ℕ) → json_of (values.Str t) ≡ quoted t
str_json t = ap json_of (sym (values.rolls-Str t)) ∙ ap text_of (fold-roll-Value Tree tree_step (Value-F.Str t)) ∙ str_text t

pub binary_json : (s : ℕ) (b : List ℕ) → json_of (values.Binary s b) ≡ text_of (binary_tree s b)
binary_json s b = ap json_of (sym (values.rolls-Binary s b)) ∙ ap text_of (fold-roll-Value Tree tree_step (Value-F.Binary s b))

pub undefined_json : json_of values.Undefined ≡ codes "{\"$undefined\":true}"
unfolding undefined_tree escaped
undefined_json = ap json_of (sym values.rolls-Undefined) ∙ ap text_of (fold-roll-Value Tree tree_step Value-F.Undefined) ∙ wrapped_text (codes "$undefined") (trees.Bool true) ∙ ap (λ z. codes "{\"$undefined\":" ++ (z ++ 125 ∷ [])) (bool_text true)

pub oid_json : (d : List ℕ) → json_of (values.Oid d) ≡ text_of (oid_tree d)
oid_json d = ap json_of (sym (values.rolls-Oid d)) ∙ ap text_of (fold-roll-Value Tree tree_step (Value-F.Oid d))

pub bool_json : (b : Bool) → json_of (values.Bool b) ≡ (if b then codes "true" else codes "false")
bool_json b = ap json_of (sym (values.rolls-Bool b)) ∙ ap text_of (fold-roll-Value Tree tree_step (Value-F.Bool b)) ∙ bool_text b

pub date_json : (z : ℤ) → json_of (values.Date z) ≡ text_of (date_tree z)
date_json z = ap json_of (sym (values.rolls-Date z)) ∙ ap text_of (fold-roll-Value Tree tree_step (Value-F.Date z))

pub null_json : json_of values.Null ≡ codes "null"
null_json = ap json_of (sym values.rolls-Null) ∙ ap text_of (fold-roll-Value Tree tree_step Value-F.Null ∙ sym trees.rolls-Null) ∙ fold-roll-Tree (List ℕ) print_step Tree-F.Null

pub regex_json : (p o : List ℕ) → json_of (values.Regex p o) ≡ text_of (regex_tree p o)
regex_json p o = ap json_of (sym (values.rolls-Regex p o)) ∙ ap text_of (fold-roll-Value Tree tree_step (Value-F.Regex p o))

pub pointer_json : (t d : List ℕ) → json_of (values.DbPointer t d) ≡ text_of (pointer_tree t d)
pointer_json t d = ap json_of (sym (values.rolls-DbPointer t d)) ∙ ap text_of (fold-roll-Value Tree tree_step (Value-F.DbPointer t d))

pub code_json : (t : List ℕ) → json_of (values.Code t) ≡ text_of (code_tree t)
code_json t = ap json_of (sym (values.rolls-Code t)) ∙ ap text_of (fold-roll-Value Tree tree_step (Value-F.Code t))

pub symbol_json : (t : List ℕ) → json_of (values.Symbol t) ≡ text_of (symbol_tree t)
symbol_json t = ap json_of (sym (values.rolls-Symbol t)) ∙ ap text_of (fold-roll-Value Tree tree_step (Value-F.Symbol t))

pub int_json : (z : ℤ) → json_of (values.Int z) ≡ text_of (int_tree z)
int_json z = ap json_of (sym (values.rolls-Int z)) ∙ ap text_of (fold-roll-Value Tree tree_step (Value-F.Int z))

pub stamp_json : (s : Ts) → json_of (values.Stamp s) ≡ text_of (stamp_tree s.secs s.inc)
stamp_json s = ap json_of (sym (values.rolls-Stamp s)) ∙ ap text_of (fold-roll-Value Tree tree_step (Value-F.Stamp s))

pub long_json : (z : ℤ) → json_of (values.Long z) ≡ text_of (long_tree z)
long_json z = ap json_of (sym (values.rolls-Long z)) ∙ ap text_of (fold-roll-Value Tree tree_step (Value-F.Long z))

pub decimal_json : (d : List ℕ) → json_of (values.Decimal d) ≡ text_of (decimal_tree d)
decimal_json d = ap json_of (sym (values.rolls-Decimal d)) ∙ ap text_of (fold-roll-Value Tree tree_step (Value-F.Decimal d))

pub min_json : json_of values.MinKey ≡ codes "{\"$minKey\":1}"
unfolding min_tree escaped
min_json = ap json_of (sym values.rolls-MinKey) ∙ ap text_of (fold-roll-Value Tree tree_step Value-F.MinKey) ∙ wrapped_text (codes "$minKey") (trees.Number (codes "1")) ∙ ap (λ z. codes "{\"$minKey\":" ++ (z ++ 125 ∷ [])) (number_text (codes "1"))

pub max_json : json_of values.MaxKey ≡ codes "{\"$maxKey\":1}"
unfolding max_tree escaped
max_json = ap json_of (sym values.rolls-MaxKey) ∙ ap text_of (fold-roll-Value Tree tree_step Value-F.MaxKey) ∙ wrapped_text (codes "$maxKey") (trees.Number (codes "1")) ∙ ap (λ z. codes "{\"$maxKey\":" ++ (z ++ 125 ∷ [])) (number_text (codes "1"))

no_leaf : (r : ValueRef) → (s : ValueRef) → r ≡ s → IsLeaf (out-Value (value_meant r)) → IsLeaf (out-Value (value_meant s))
no_leaf r s e l = subst (λ z. IsLeaf (out-Value (value_meant z))) e l

pub nested : (r : ValueRef) (v : Value) → value_meant r ≡ v → IsLeaf (out-Value v) → (s : ValueRef) → r ≡ s → (IsLeaf (out-Value (value_meant s)) → ⊥) → ⊥
nested r v is l s e never = never (no_leaf r s e (subst (λ w. IsLeaf (out-Value w)) (sym is) l))

pub is_object : (h : Held) → IsLeaf (out-Value (value_meant (refs.Object h))) → ⊥
is_object h l = subst IsLeaf (ap out-Value (sym (values.rolls-Object (held_document h))) ∙ out-roll-Value (Value-F.Object (held_document h))) l

pub is_array : (vs : HeldItems) → IsLeaf (out-Value (value_meant (refs.Array vs))) → ⊥
is_array vs l = subst IsLeaf (ap out-Value (sym (values.rolls-Array (items_left vs))) ∙ out-roll-Value (Value-F.Array (items_left vs))) l

pub is_scoped : (t : Bor (List ℕ)) (h : Held) → IsLeaf (out-Value (value_meant (refs.ScopedCode t h))) → ⊥
is_scoped t h l = subst IsLeaf (ap out-Value (sym (values.rolls-ScopedCode t.now (held_document h))) ∙ out-roll-Value (Value-F.ScopedCode t.now (held_document h))) l

-- a text is of type 2
pub text_kind : (t : Bor (List ℕ)) (tag : ℕ) (b : List ℕ) (v : Value) → AreValue tag b v → value_meant (refs.Str t) ≡ v → tag ≡ 2
text_kind t tag b v value is = value.kind ∙ ap (λ w. type_byte (out-Value w)) (sym is) ∙ ap (λ w. type_byte (out-Value w)) (sym (values.rolls-Str t.now)) ∙ ap type_byte (out-roll-Value (Value-F.Str t.now))
