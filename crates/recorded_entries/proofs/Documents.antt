-- A document that is accepted is good once its `_id` is first.
use Rattle.std.proofs.Common.{◌≡◌, ℕ, ◌≤◌, List, [], ◌∷◌, length, Bool, true, false, not, refl, sym, ap, subst, arith, Option, Some}
use Rattle.std.specs.Prelude.{codes, nat_le, ◌==◌, ◌&&◌, if◌then◌else◌}
use Rattle.std.specs.Str.{bytes_eq}
use Rattle.std.specs.List.{list_any}
use Rattle.std.proofs.lemmas.Bool.{and_parts}
use Rattle.std.proofs.lemmas.Slice.Eq.{bytes_eq-Decides}
use Rattle.containers.specs.Entries.{lookup, without}
use Rattle.bson_value.specs.declared.value.Value.{Value}
use Rattle.bson_value.specs.Levels.{largest, levels_of}
use Rattle.bson_value.specs.Spelling.{tag_of, spelled, elements_of, document_text}
use Rattle.bson_value.specs.WellFormed.{IsWellFormedDocument}
use Rattle.bson_value.proofs.Sizes.{document_length}
use Rattle.doc_path.specs.Played.{id_name}
use Rattle.coll_state.specs.Rows.{Document as Fields, id_of}
use Rattle.update_records.proofs.Changed.{field_formed}
use Rattle.entry_documents.proofs.Sizes.{elements_size}
use Rattle.written_levels.proofs.Standing.{field_levels}
use Rattle.history_model.specs.Documents.{id_before, id_first, is_good_id, is_good_document}
use Rattle.history_model.proofs.WellFormed.{id_first_formed}
use Rattle.recorded_entries.specs.Good.{IsGoodId, IsGoodDocument}
use Rattle.recorded_entries.proofs.Definitions.{at_most}
use Rattle.entry_model.proofs.Deep.{field_level}

without_size : (k : List ℕ) (fs : Fields) → length (elements_of (without k fs)) ≤ length (elements_of fs)
without_size k [] = omega arith
without_size k (f ∷ fs) = by (bytes_eq f.0 k) (without_size k fs)
  where
    by : (b : Bool) → length (elements_of (without k fs)) ≤ length (elements_of fs) → length (elements_of (if b then without k fs else f ∷ without k fs)) ≤ length (elements_of (f ∷ fs))
    by true h = omega (arith, h, elements_size f.0 f.1 fs)
    by false h = omega (arith, h, elements_size f.0 f.1 fs, elements_size f.0 f.1 (without k fs))

without_levels : (k : List ℕ) (fs : Fields) → largest (field_levels (without k fs)) ≤ largest (field_levels fs)
without_levels k [] = omega arith
without_levels k (f ∷ fs) = by (bytes_eq f.0 k) (without_levels k fs)
  where
    by : (b : Bool) → largest (field_levels (without k fs)) ≤ largest (field_levels fs) → largest (field_levels (if b then without k fs else f ∷ without k fs)) ≤ largest (field_levels (f ∷ fs))
    by true h = omega (arith, h)
    by false h = omega (arith, h)

first_size : (k : List ℕ) (d : Fields) (v : Value) → lookup k d ≡ Some v → length (elements_of ((k, v) ∷ without k d)) ≤ length (elements_of d)
first_size k [] v e = cc
first_size k (f ∷ fs) v e = by (bytes_eq f.0 k) refl e (λ g. first_size k fs v g)
  where
    by : (b : Bool) → bytes_eq f.0 k ≡ b → (if b then Some f.1 else lookup k fs) ≡ Some v → (lookup k fs ≡ Some v → length (elements_of ((k, v) ∷ without k fs)) ≤ length (elements_of fs)) →
        length (elements_of ((k, v) ∷ (if b then without k fs else f ∷ without k fs))) ≤ length (elements_of (f ∷ fs))
    by true q g ih =
        let n : f.0 ≡ k = (bytes_eq-Decides f.0 k).0 q in
        let l : length f.0 ≡ length k = ap length n in
        let w : f.1 ≡ v = cc in
        let s : length (spelled f.1) ≡ length (spelled v) = ap (λ (x : Value). length (spelled x)) w in
        omega (arith, l, s, elements_size k v (without k fs), elements_size f.0 f.1 fs, without_size k fs)
    by false q g ih = omega (arith, ih g, elements_size k v (f ∷ without k fs), elements_size k v (without k fs), elements_size f.0 f.1 (without k fs), elements_size f.0 f.1 fs)

-- ---- of an `_id` and a document that are accepted

abbrev Told : Value → Fields → Type 0
Told id d = (length (spelled id) ≤ 1024) × (length (document_text d) ≤ 16777216) × (levels_of d ≤ 100)

told : (d : Fields) (id : Value) → is_good_document d ≡ true → id_of d ≡ Some id → Told id d
unfolding is_good_document
told d id e f =
    let rest = nat_le (length (document_text d)) 16777216 && nat_le (levels_of d) 100 in
    let a = and_parts (is_good_id (id_of d)) rest e in
    let b = and_parts (nat_le (length (document_text d)) 16777216) (nat_le (levels_of d) 100) a.1 in
    let g : is_good_id (Some id) ≡ true = subst (λ (o : Option Value). is_good_id o ≡ true) f a.0 in
    let c = and_parts (not (list_any (λ t. t == tag_of id) (4 ∷ 6 ∷ 11 ∷ []))) (nat_le (length (spelled id)) 1024) g in
    (at_most (length (spelled id)) 1024 c.1, at_most (length (document_text d)) 16777216 b.0, at_most (levels_of d) 100 b.1)

good_id : (d : Fields) (id : Value) → IsWellFormedDocument d → Told id d → id_of d ≡ Some id → IsGoodId id
good_id d id w t e = record {
  formed = field_formed d (codes "_id") id w.1 e;
  short = t.0;
  shallow = omega (arith, t.2, field_level d (codes "_id") id e);
}

pub good_first : (d : Fields) (id : Value) → IsWellFormedDocument d → is_good_document d ≡ true → id_of d ≡ Some id → IsGoodDocument id (id_first d)
good_first d id w g e =
    let t = told d id g e in
    let i = good_id d id w t e in
    let is : id_first d ≡ (id_name, id) ∷ without id_name d = ap (λ (o : Option Value). id_before o d) e in
    let s = first_size id_name d id e in
    let one : Fields = (id_name, id) ∷ without id_name d in
    record {
      own = i;
      first = (without id_name d, is);
      formed = id_first_formed d w;
      short = subst (λ (z : Fields). length (document_text z) ≤ 16777216) (sym is) (omega (arith, s, t.1, document_length d, document_length one));
      shallow = subst (λ (z : Fields). levels_of z ≤ 100) (sym is) (omega (arith, t.2, field_level d (codes "_id") id e, without_levels id_name d));
    }
