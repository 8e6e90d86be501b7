-- Values by their first byte.
use Rattle.std.proofs.Common.{◌≡◌, ◌≢◌, ℕ, ◌-◌, true, false, List, [], ◌∷◌, Ok, refl, ◌∙◌}
use Rattle.std.specs.Prelude.{Result, Err, Option, Some, None, IfOk, IfSome, MatchOption}
use Rattle.bson_value.specs.declared.value.Value.{Value}
use Rattle.bson_value.specs.declared.value.Value.TheVariants as values
use Rattle.json_tree.specs.declared.tree.Tree.TheVariants as trees
use Rattle.json_text.specs.Reading.{after_space, word_at, string_at, value_with, tree_of_text}
use Rattle.json_text.proofs.Loop.{array_some, object_some}
use Rattle.extjson.proofs.TreeParts.{value_null, value_bool, value_str, value_items, value_object, plain_object}
use Rattle.plain_json.specs.Reading.{Document, IsValueRead, AreItemsRead, IsArrayRead, AreMembersRead, IsObjectRead, IsDocumentOf}

-- what is so of each result, and where there is one
pub on_ok : {A E : Type 0} {P Q : A → Type 0} (r : Result A E) → ((x : A) → P x → Q x) → IfOk r P → IfOk r Q
on_ok (Ok x) f h = f x h
on_ok (Err e) f h = tt

-- the same, from what is so for each end of the text
pub on_ends : {A E : Type 0} {P : ℕ → A → Type 0} {Q : A → Type 0} (r : Result A E) → ((x : A) → ((end : ℕ) → P end x) → Q x) → ((end : ℕ) → IfOk r (P end)) → IfOk r Q
on_ends (Ok x) f h = f x h
on_ends (Err e) f h = tt

pub some_of : {A : Type 0} (N : Type 0) (P : A → Type 0) (r : Option A) → MatchOption r N P → IfSome r P
some_of N P None h = tt
some_of N P (Some x) h = h

pub text_read : (levels : ℕ) (bytes text rest : List ℕ) → ((end : ℕ) → string_at end bytes ≡ Ok (text, rest)) → IsValueRead levels (34 ∷ bytes) (values.Str text) rest
unfolding IsValueRead value_with
text_read levels bytes text rest h = (trees.Str text, (λ end. rw (h end) refl), value_str text)

pub null_read : (levels : ℕ) (rest : List ℕ) → IsValueRead levels (110 ∷ 117 ∷ 108 ∷ 108 ∷ rest) values.Null rest
unfolding IsValueRead value_with word_at
null_read levels rest = (trees.Null, (λ end. refl), value_null)

pub true_read : (levels : ℕ) (rest : List ℕ) → IsValueRead levels (116 ∷ 114 ∷ 117 ∷ 101 ∷ rest) (values.Bool true) rest
unfolding IsValueRead value_with word_at
true_read levels rest = (trees.Bool true, (λ end. refl), value_bool true)

pub false_read : (levels : ℕ) (rest : List ℕ) → IsValueRead levels (102 ∷ 97 ∷ 108 ∷ 115 ∷ 101 ∷ rest) (values.Bool false) rest
unfolding IsValueRead value_with word_at
false_read levels rest = (trees.Bool false, (λ end. refl), value_bool false)

pub array_value : (levels : ℕ) (bytes : List ℕ) (vs : List Value) (rest : List ℕ) → IsArrayRead levels bytes vs rest → IsValueRead levels (91 ∷ bytes) (values.Array vs) rest
unfolding IsValueRead IsArrayRead value_with
array_value levels bytes vs rest (ts, f, e) = (trees.Items ts, (λ end. rw (f end) refl), value_items ts ∙ rw e refl)

pub object_value : (levels : ℕ) (bytes : List ℕ) (fs : Document) (rest : List ℕ) → IsObjectRead levels bytes fs rest → IsValueRead levels (123 ∷ bytes) (values.Object fs) rest
unfolding IsValueRead IsObjectRead value_with
object_value levels bytes fs rest (es, f, (e, w, n)) = (trees.Object es, (λ end. rw (f end) refl), value_object es ∙ plain_object es w ∙ rw e refl)

pub array_read : (levels : ℕ) (bytes : List ℕ) (vs : List Value) (rest : List ℕ) → levels ≢ 0 → AreItemsRead (levels - 1) (after_space bytes) vs rest → IsArrayRead levels bytes vs rest
unfolding IsArrayRead AreItemsRead
array_read levels bytes vs rest some (ts, f, e) = (ts, (λ end. array_some levels end bytes some ∙ f end), e)

pub object_read : (levels : ℕ) (bytes : List ℕ) (fs : Document) (rest : List ℕ) → levels ≢ 0 → AreMembersRead (levels - 1) (after_space bytes) fs rest → IsObjectRead levels bytes fs rest
unfolding IsObjectRead AreMembersRead
object_read levels bytes fs rest some (es, f, e) = (es, (λ end. object_some levels end bytes some ∙ f end), e)

-- the whole text
pub document_read : (text rest after : List ℕ) (fs : Document) → after_space text ≡ 123 ∷ rest → IsObjectRead 256 rest fs after → after_space after ≡ [] → IsDocumentOf text fs
unfolding IsDocumentOf IsValueRead tree_of_text
document_read text rest after fs first h last =
    whole (object_value 256 rest fs after h)
  where
    whole : IsValueRead 256 (123 ∷ rest) (values.Object fs) after → IsDocumentOf text fs
    whole (t, f, e) = (t, rw (first, f _, last) refl, e)
