-- The texts of the listing's parts.
use Rattle.std.proofs.lemmas.List.{length-map}
use Rattle.std.proofs.Common.{◌≡◌, ℕ, false, cond, List, [], ◌∷◌, ◌++◌, length, refl, sym, ap, ◌∙◌, append_assoc}
use Rattle.std.specs.Prelude.{Option, Some, None, option_map, T, map as each}
use Rattle.std.specs.List.{flat_map}
use Rattle.std.specs.FinMap as map
use Rattle.std.specs.FinMap.Entries.{below_all}
use Rattle.std.specs.Ordering.{is_eq, is_lt}
use Rattle.std.specs.declared.cmp.Ordering.TheVariants.{Less}
use Rattle.bson_value.specs.declared.namespace.NsName.{NsName}
use Rattle.json_tree.specs.declared.tree.Tree.{Tree}
use Rattle.state_model.specs.Keys.{Key, key_cmp, same_key}
use Rattle.state_model.specs.States.{State, Collection}
use Rattle.state_model.proofs.Keys.{key_turn, key_refl}
use Rattle.coll_state.specs.Rows.{Rows, Table, collection_of, state_of}
use Rattle.coll_state.specs.Definitions.{definition_name}
use Rattle.coll_state.specs.Documents.{documents_by_key}
use Rattle.coll_state.proofs.Links.{get_collection}
use Rattle.bson_value.specs.declared.value.Value.{Value, Object}
use Rattle.bson_view.specs.declared.held.Held.{Held}
use Rattle.bson_view.specs.Held.{held_document}
use Rattle.index_keys.specs.Keys.{Fields}
use Rattle.index_build.specs.Documents.{documents}
use Rattle.index_build.specs.Numbers.{Numbers, number, number_at, counts}
use Rattle.index_build.proofs.Told.{numbers_are_told}
use Rattle.document_lines.specs.declared.form.ListForm.{ListForm}
use Rattle.document_lines.specs.Lines.{document_line}
use Rattle.state_listing.specs.Listing.{head_text, index_line, indexes_text, collection_text}
use Rattle.state_listing.specs.Listed.{index_lines, document_lines}
use Rattle.index_build.proofs.Names.{less_of, first_of}
use Rattle.index_build.proofs.Walks.{fields_object}
use Rattle.index_build.proofs.Built.{second}

-- ---- what stands among the entries of a map is found there

abbrev Entries : Type 0
Entries = List (Key × Tree)

-- what is found of these entries among those
abbrev finds : Entries → Entries → List (Option Tree)
finds us es = each (λ (e : Key × Tree). map.find key_cmp e.0 es) us

abbrev there : Entries → List (Option Tree)
there us = each (λ (e : Key × Tree). Some e.1) us

apart : (k q : Key) → key_cmp k q ≡ Less → same_key q k ≡ false
apart k q e = key_turn k q false (ap is_eq e)

found_later : (x : Key × Tree) (es us : Entries) → T (below_all key_cmp x.0 us) → finds us (x ∷ es) ≡ finds us es
found_later x es [] t = refl
found_later x es (u ∷ us) t =
    let e = apart x.0 u.0 (less_of (key_cmp x.0 u.0) (first_of (is_lt (key_cmp x.0 u.0)) (below_all key_cmp x.0 us) t)) in
    let here : map.find key_cmp u.0 (x ∷ es) ≡ map.find key_cmp u.0 es = ap (λ b. cond b (Some x.1) (map.find key_cmp u.0 es)) e in
    λ i. here i ∷ found_later x es us (second (is_lt (key_cmp x.0 u.0)) (below_all key_cmp x.0 us) t) i

all_found : (es : Entries) → T (map.is_sorted key_cmp es) → finds es es ≡ there es
all_found [] t = refl
all_found (x ∷ es) t =
    let here : map.find key_cmp x.0 (x ∷ es) ≡ Some x.1 = ap (λ b. cond b (Some x.1) (map.find key_cmp x.0 es)) (key_refl x.0) in
    let later = found_later x es es (first_of (below_all key_cmp x.0 es) (map.is_sorted key_cmp es) t) ∙ all_found es (second (below_all key_cmp x.0 es) (map.is_sorted key_cmp es) t) in
    λ i. here i ∷ later i

-- ---- the lines of indexes

tail_of : {A : Type 0} → List A → List A
tail_of [] = []
tail_of (x ∷ xs) = xs

module _ (s : State) (n : NsName) (c : Collection) (at : map.get s n ≡ Some c) where
  line_is : (d : Tree) → map.get c.indexes (definition_name d) ≡ Some d → index_line (number_at (counts s) n (definition_name d)) d ≡ index_line (number d (documents c)) d
  line_is d e = ap (λ o. index_line o d) (numbers_are_told s n c (definition_name d) d at e)

  lines_are : (es us : Entries) → ((k : Key) → map.get c.indexes k ≡ map.find key_cmp k es) → each definition_name (each (λ e. e.1) us) ≡ each (λ e. e.0) us → finds us es ≡ there us
      → index_lines (counts s) n (each (λ e. e.1) us) ≡ indexes_text (documents c) (each (λ e. e.1) us)
  unfolding tail_of
  lines_are es [] g names f = refl
  lines_are es (u ∷ us) g names f =
      let name : definition_name u.1 ≡ u.0 = cc in
      let here : map.find key_cmp u.0 es ≡ Some u.1 = cc in
      λ i. line_is u.1 (g (definition_name u.1) ∙ ap (λ k. map.find key_cmp k es) name ∙ here) i ++ lines_are es us g (ap tail_of names) (ap tail_of f) i

some_is : {A : Type 0} (x y : A) → Some x ≡ Some y → x ≡ y
some_is x y e = cc

nothing : {A : Type 0} {C : Type 0} (x : A) → Some x ≡ None → C
nothing x e = absurd cc

-- a collection that is there, by its parts
pub collection_is : (form : ListForm) (s : Rows) (n : NsName) (o : Option Table) (defs : List Tree) (options : Tree) → map.get s.tables n ≡ o → Some defs ≡ option_map (λ (t : Table). map.values t.indexes) o
    → Some (each definition_name defs) ≡ option_map (λ (t : Table). map.keys t.indexes) o → Some options ≡ option_map (λ (t : Table). t.options) o
    → collection_text form n (map.get (state_of s) n) ≡ head_text n.db n.coll (length (documents_by_key o)) options ++ (index_lines (counts (state_of s)) n defs ++ document_lines form (documents_by_key o))
collection_is form s n None defs options g e f h = nothing defs e
collection_is form s n (Some t) defs options g e f h =
    let c = collection_of t in
    let at : map.get (state_of s) n ≡ Some c = get_collection s n ∙ ap (option_map collection_of) g in
    let d : defs ≡ map.values t.indexes = some_is _ _ e in
    let lines : index_lines (counts (state_of s)) n defs ≡ indexes_text (documents c) (map.values t.indexes) =
    ap (index_lines (counts (state_of s)) n) d
    ∙ lines_are (state_of s) n c at (map.entries t.indexes) (map.entries t.indexes) (λ k. map.get-entries t.indexes k) (ap (each definition_name) (sym d) ∙ some_is _ _ f) (all_found (map.entries t.indexes) (map.entries_sorted t.indexes)) in
    let count : length (documents c) ≡ length (documents_by_key (Some t)) = length-map _ _ in
    ap (collection_text form n) at
    ∙ (λ i. head_text n.db n.coll (count i) (sym (some_is options t.options h) i) ++ sym lines i ++ document_lines form (documents_by_key (Some t)))
    ∙ append_assoc (head_text n.db n.coll (length (documents_by_key (Some t))) options) (index_lines (counts (state_of s)) n defs) (document_lines form (documents_by_key (Some t)))

pub collection_none : (form : ListForm) (s : Rows) (n : NsName) → None ≡ option_map (λ (t : Table). map.values t.indexes) (map.get s.tables n) → collection_text form n (map.get (state_of s) n) ≡ []
collection_none form s n e = ap (collection_text form n) (get_collection s n) ∙ by (map.get s.tables n) e
  where
    by : (o : Option Table) → None ≡ option_map (λ (t : Table). map.values t.indexes) o → collection_text form n (option_map collection_of o) ≡ []
    by None f = refl
    by (Some t) f = cc

-- ---- the lines that are left

pub line_first : (form : ListForm) (h : Held) (vs rest : List Value) → vs ≡ Object (held_document h) ∷ rest → document_lines form vs ≡ document_line form (held_document h) ++ document_lines form rest
line_first form h vs rest e = ap (document_lines form) e ∙ ap (λ (d : Fields). document_line form d ++ document_lines form rest) (fields_object (held_document h))

pub index_first : (counts : Numbers) (n : NsName) (defs rest : List Tree) (d : Tree) → defs ≡ d ∷ rest → index_lines counts n defs ≡ index_line (number_at counts n (definition_name d)) d ++ index_lines counts n rest
index_first counts n defs rest d e = ap (index_lines counts n) e

-- the lines of the collections of these names
abbrev pub collections_text : ListForm → State → List NsName → List ℕ
collections_text form s ns = flat_map (λ n. collection_text form n (map.get s n)) ns

pub collection_first : (form : ListForm) (s : State) (ns rest : List NsName) (n : NsName) → ns ≡ n ∷ rest → collections_text form s ns ≡ collection_text form n (map.get s n) ++ collections_text form s rest
collection_first form s ns rest n e = ap (collections_text form s) e

-- the same, as its parts were written
pub collection_parts : (form : ListForm) (s : Rows) (n : NsName) (defs slice : List Tree) (options : Tree) (db coll : List ℕ) (count : ℕ) (cs : Numbers) → Some defs ≡ option_map (λ (t : Table). map.values t.indexes) (map.get s.tables n)
    → Some (each definition_name defs) ≡ option_map (λ (t : Table). map.keys t.indexes) (map.get s.tables n) → Some options ≡ option_map (λ (t : Table). t.options) (map.get s.tables n)
    → db ≡ n.db → coll ≡ n.coll → count ≡ length (documents_by_key (map.get s.tables n)) → cs ≡ counts (state_of s) → slice ≡ defs
    → collection_text form n (map.get (state_of s) n) ≡ head_text db coll count options ++ (index_lines cs n slice ++ document_lines form (documents_by_key (map.get s.tables n)))
collection_parts form s n defs slice options db coll count cs e f h d l k c a =
    collection_is form s n (map.get s.tables n) defs options refl e f h
    ∙ (λ i. head_text (sym d i) (sym l i) (sym k i) options ++ (index_lines (sym c i) n (sym a i) ++ document_lines form (documents_by_key (map.get s.tables n))))

-- a collection that has definitions has options
pub has_both : {A B C : Type 0} (f : A → B) (g : A → C) (o : Option A) (b : B) → Some b ≡ option_map f o → None ≡ option_map g o → ⊥
has_both f g None b e h = absurd cc
has_both f g (Some a) b e h = absurd cc
