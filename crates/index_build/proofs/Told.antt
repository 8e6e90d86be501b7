-- Counts tell each number under its names.
use Rattle.std.proofs.Common.{◌≡◌, ℕ, List, [], ◌∷◌, map as each, Bool, true, false, cond, refl, sym, ap, ◌∙◌, Option, Some, None, inl, inr}
use Rattle.std.specs.Prelude.{◌⊎◌, option_map, is_some}
use Rattle.std.specs.List.{list_any}
use Rattle.std.specs.FinMap as map
use Rattle.std.proofs.lemmas.Bool.{cases_Bool}
use Rattle.bson_value.specs.declared.namespace.NsName.{NsName}
use Rattle.bson_value.specs.NamespaceOrder.{namespace_cmp}
use Rattle.json_tree.specs.declared.tree.Tree.{Tree}
use Rattle.state_model.specs.Keys.{Key, key_cmp, same_key, same_ns}
use Rattle.state_model.specs.States.{State}
use Rattle.state_model.proofs.Keys.{ns_is}
use Rattle.index_keys.specs.Keys.{Fields}
use Rattle.index_build.specs.Documents.{documents}
use Rattle.index_build.specs.Laws.{NumbersAreTold}
use Rattle.index_build.specs.Numbers.{number, numbers_of, numbers_in, counts, joined, number_in}
use Rattle.index_build.proofs.Names.{counted}

abbrev Found : Type 0
Found = Option (List (Key × Option ℕ))

find_counted : (s : State) (n : NsName) (ns : List NsName) → map.find namespace_cmp n (each (counted s) ns) ≡ cond (list_any (same_ns n) ns) (Some (numbers_in (map.get s n))) None
find_counted s n [] = refl
find_counted s n (m ∷ ns) = by (cases_Bool (same_ns n m)) (find_counted s n ns)
  where
    by : (same_ns n m ≡ true) ⊎ (same_ns n m ≡ false) → map.find namespace_cmp n (each (counted s) ns) ≡ cond (list_any (same_ns n) ns) (Some (numbers_in (map.get s n))) None →
        map.find namespace_cmp n (each (counted s) (m ∷ ns)) ≡ cond (list_any (same_ns n) (m ∷ ns)) (Some (numbers_in (map.get s n))) None
    by (inl e) h = rw e (ap (λ z. Some (numbers_in (map.get s z))) (sym (ns_is n m e)))
    by (inr e) h = rw e h

find_numbers : (ds : List Fields) (i : Key) (es : List (Key × Tree)) → map.find key_cmp i (numbers_of es ds) ≡ option_map (λ d. number d ds) (map.find key_cmp i es)
find_numbers ds i [] = refl
find_numbers ds i (e ∷ es) = by (same_key i e.0) (find_numbers ds i es)
  where
    by : (b : Bool) → map.find key_cmp i (numbers_of es ds) ≡ option_map (λ d. number d ds) (map.find key_cmp i es) →
        cond b (Some (number e.1 ds)) (map.find key_cmp i (numbers_of es ds)) ≡ option_map (λ d. number d ds) (cond b (Some e.1) (map.find key_cmp i es))
    by true h = refl
    by false h = h

pub numbers_are_told : NumbersAreTold
numbers_are_told s n c i d there defined =
    let among : list_any (same_ns n) (map.keys s) ≡ true = sym (map.contains_key-keys s n) ∙ ap is_some there in
    let found : map.find namespace_cmp n (counts s) ≡ Some (numbers_in (Some c)) = find_counted s n (map.keys s) ∙ (λ j. cond (among j) (Some (numbers_in (there j))) None) in
    ap (number_in i) found ∙ ap joined (find_numbers (documents c) i (map.entries c.indexes) ∙ ap (option_map (λ d. number d (documents c))) (sym (map.get-entries c.indexes i) ∙ defined))
