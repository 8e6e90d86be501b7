-- The texts of numbers, names and documents, both ways.
use Rattle.std.proofs.Common.{◌≡◌, ℕ, ◌≤◌, true, false, List, [], refl, sym, ap, ◌∙◌, arith, inl, inr}
use Rattle.std.specs.Prelude.{◌&&◌, nat_le, Option, Some, None, codes, Result, Ok, Err}
use Rattle.std.proofs.lemmas.Bool.{cases_Bool}
use Rattle.std.proofs.lemmas.Bool.Decides.{nat_tests}
use Rattle.containers.specs.Entries.{lookup, without}
use Rattle.bson_value.specs.Digits.{index_of}
use Rattle.bson_value.proofs.Digits.{index_of-digits, index_of-is}
use Rattle.bson_value.specs.declared.value.Value.{Value, Value-F, out-Value}
use Rattle.json_tree.specs.declared.tree.Tree.{Tree}
use Rattle.json_text.specs.Reading.{tree_of_text, value_with, after_space}
use Rattle.json_text.specs.Grammar.{JsonIsRead, ReadIsJson}
use Rattle.extjson.specs.Values.{value_of}
use Rattle.schedule_text.specs.declared.fault.LineKind.{LineKind}
use Rattle.schedule_text.specs.declared.fault.LineKind.TheVariants as kinds
use Rattle.schedule_text.specs.Words.{is_empty}
use Rattle.schedule_text.specs.Operands.{Doc, Read, ◌>>=◌, or_kind, some_or, bounded, number_in, document_at, tree_in, value_in, document_of, document_in, identified}
use Rattle.schedule_text.specs.Grammar.{IsNumber, IsDocument}
use Rattle.schedule_text.proofs.Cuts.{both}
use Rattle.schedule_text.proofs.Names.{not_empty}

-- ---- steps that may fail

pub record Binds {A B : Type 0} (r : Read A) (f : A → Read B) (y : B) : Type 0 where
  pub value : A
  pub first : r ≡ Ok value
  pub then_ : f value ≡ Ok y

pub binds : {A B : Type 0} (r : Read A) (f : A → Read B) (y : B) → r >>= f ≡ Ok y → Binds r f y
binds (Ok x) f y e = record { value = x; first = refl; then_ = e }
binds (Err k) f y e = absurd cc

pub or_kind_is : {A E : Type 0} (kind : LineKind) (r : Result A E) (x : A) → or_kind kind r ≡ Ok x → r ≡ Ok x
or_kind_is kind (Ok y) x e = cc
or_kind_is kind (Err f) x e = absurd cc

pub some_or_is : {A : Type 0} (kind : LineKind) (o : Option A) (x : A) → some_or kind o ≡ Ok x → o ≡ Some x
some_or_is kind None x e = absurd cc
some_or_is kind (Some y) x e = cc

-- ---- numbers

bounded_is : (low high : ℕ) (o : Option ℕ) (n : ℕ) → bounded low high o ≡ Some n → (o ≡ Some n) × (low ≤ n) × (n ≤ high)
bounded_is low high None n e = absurd cc
bounded_is low high (Some m) n e =
    elim (cases_Bool (nat_le low m && nat_le m high)) [
      | inl t ↦ let p = both (nat_le low m) (nat_le m high) t in
          let f : Some m ≡ Some n = rw t at e in let g : m ≡ n = cc in
          let l : low ≤ m = grind (arith, nat_tests) in let h : m ≤ high = grind (arith, nat_tests) in
          (f, omega arith, omega arith)
      | inr t ↦ let f : None ≡ Some n = rw t at e in absurd cc
    ]

pub is_number : (low high : ℕ) (text : List ℕ) (n : ℕ) → number_in low high text ≡ Ok n → IsNumber low high text n
unfolding number_in
is_number low high text n e =
    let b = bounded_is low high (index_of text) n (some_or_is kinds.Number (bounded low high (index_of text)) n e) in
    (index_of-is text n b.0, b.1, b.2)

pub number_is : (low high : ℕ) (text : List ℕ) (n : ℕ) → IsNumber low high text n → number_in low high text ≡ Ok n
unfolding number_in
number_is low high text n (t, l, h) =
    let i : index_of text ≡ Some n = ap index_of t ∙ index_of-digits n in
    let a : nat_le low n ≡ true = grind (arith, nat_tests) in
    let b : nat_le n high ≡ true = grind (arith, nat_tests) in
    rw (i, a, b) refl

-- ---- documents

document_at_is : (v : Value-F Value) (doc : Doc) → document_at v ≡ Ok doc → v ≡ Value-F.Object doc
document_at_is (Value-F.Object fields) doc e = cc
document_at_is _ doc e = absurd cc

pub is_document : ReadIsJson → (text : List ℕ) (doc : Doc) → document_in text ≡ Ok doc → IsDocument text doc
unfolding document_in tree_in value_in document_of
is_document spells text doc e =
    let a = binds (tree_in text) (λ tree. value_in tree >>= λ value. document_of value) doc e in
    let b = binds (value_in a.value) (λ value. document_of value) doc a.then_ in
    let t : tree_of_text text ≡ Ok a.value = or_kind_is kinds.Json (tree_of_text text) a.value a.first in
    (a.value, b.value, spells text a.value t, or_kind_is kinds.Extended (value_of a.value) b.value b.first, document_at_is (out-Value b.value) doc b.then_)

pub document_is : JsonIsRead → (text : List ℕ) (doc : Doc) → IsDocument text doc → document_in text ≡ Ok doc
unfolding document_in tree_in value_in document_of
document_is reads text doc (tree, value, j, v, d) = rw (reads text tree j, v, d) refl

none_read : (t : Tree) → tree_of_text [] ≡ Ok t → ⊥
unfolding tree_of_text value_with after_space
none_read t e = absurd cc

-- a JSON text isn't empty
pub json_is_some : JsonIsRead → (text : List ℕ) (doc : Doc) → IsDocument text doc → is_empty text ≡ false
json_is_some reads text doc (tree, value, j, v, d) = not_empty text (λ e. none_read tree (sym (ap tree_of_text e) ∙ reads text tree j))

pub is_identified : (doc : Doc) (x : Value × Doc) → identified doc ≡ Ok x → (lookup (codes "_id") doc ≡ Some x.0) × (without (codes "_id") doc ≡ x.1)
unfolding identified
is_identified doc x e =
    let a = binds (some_or kinds.Shape (lookup (codes "_id") doc)) (λ id. Ok (id, without (codes "_id") doc)) x e in
    let f : (a.value, without (codes "_id") doc) ≡ x = cc in
    (some_or_is kinds.Shape (lookup (codes "_id") doc) a.value a.first ∙ ap (λ (y : Value × Doc). Some y.0) f, ap (λ (y : Value × Doc). y.1) f)

pub identified_is : (doc : Doc) (id : Value) (others : Doc) → lookup (codes "_id") doc ≡ Some id → without (codes "_id") doc ≡ others → identified doc ≡ Ok (id, others)
unfolding identified
identified_is doc id others a b = rw (a, b) refl
