-- What a metadata text means, by its tree, and how one is written.
use Rattle.std.proofs.Common.{◌≡◌, ℕ, true, false, eqb, List, [], ◌∷◌, ◌++◌, length, map, Option, Some, None, Ok, Err, refl, sym, ap, subst, ◌∙◌, append_assoc, arith}
use Rattle.std.proofs.lemmas.Bool.{eqb-true}
use Rattle.extjson.specs.Trees.{wrapped}
use Rattle.std.specs.Prelude.{codes}
use Rattle.json_tree.specs.declared.tree.Tree.{Tree, Tree-F, out-Tree, roll-Tree, roll-out-Tree, fold-roll-Tree}
use Rattle.json_tree.specs.declared.tree.Tree.TheVariants as trees
use Rattle.std.specs.Str.{is_utf8}
use Rattle.json_tree.specs.WellFormed.{IsWellFormedLevel, IsWellFormed}
use Rattle.json_tree.proofs.WellFormed.{here_well}
use Rattle.json_text.specs.declared.fault.JsonFault.{JsonFault}
use Rattle.json_text.specs.declared.fault.JsonFault.TheVariants as json
use Rattle.json_text.specs.Reading.{Fails as JsonFails, tree_of_text}
use Rattle.json_text.specs.Print.{escaped, quoted, behind_commas, print_step, text_of}
use Rattle.metadata_text.specs.declared.fault.MetaFault.{MetaFault}
use Rattle.metadata_text.specs.Faults.{same_fault}
use Rattle.metadata_text.specs.Metadata.{Fails, options_of, indexes_of, both_or, members_meta, tree_meta, metadata_of, id_definition, metadata_tree}

pub meta_empty : (t : List ℕ) → eqb (length t) 0 ≡ true → metadata_of t ≡ Ok (trees.Object [], [])
unfolding metadata_of
meta_empty [] e = refl
meta_empty (b ∷ bs) e = absurd (omega (arith, eqb-true (length (b ∷ bs)) 0 e))

pub meta_some : (t : List ℕ) → eqb (length t) 0 ≡ false → metadata_of t ≡ tree_meta (length t) (tree_of_text t)
unfolding metadata_of
meta_some [] e = absurd cc
meta_some (b ∷ bs) e = refl

other_at : (end : ℕ) (x : Tree-F Tree) → ((es : List (List ℕ × Tree)) → roll-Tree x ≡ trees.Object es → ⊥) → members_meta end x ≡ Err end
other_at end (Tree-F.Object es) h = absurd (h es (trees.rolls-Object es))
other_at end Tree-F.Null h = refl
other_at end (Tree-F.Bool b) h = refl
other_at end (Tree-F.Number t) h = refl
other_at end (Tree-F.Str t) h = refl
other_at end (Tree-F.Items ts) h = refl

module _ (t : List ℕ) (some : eqb (length t) 0 ≡ false) where
  pub no_json : (at : ℕ) → tree_of_text t ≡ Err at → metadata_of t ≡ Err at
  no_json at e = meta_some t some ∙ ap (tree_meta (length t)) e

  pub no_object : (u : Tree) → tree_of_text t ≡ Ok u → ((es : List (List ℕ × Tree)) → u ≡ trees.Object es → ⊥) → metadata_of t ≡ Err (length t)
  no_object u e other = meta_some t some ∙ ap (tree_meta (length t)) e ∙ other_at (length t) (out-Tree u) (λ es is. other es (sym (roll-out-Tree u) ∙ is))

  module _ (es : List (List ℕ × Tree)) (object : tree_of_text t ≡ Ok (trees.Object es)) where
    members : metadata_of t ≡ both_or (length t) (options_of es) (indexes_of es)
    members = meta_some t some ∙ ap (tree_meta (length t)) object ∙ ap (members_meta (length t)) (trees.outs-Object es)

    pub no_options : options_of es ≡ None → metadata_of t ≡ Err (length t)
    no_options e = members ∙ ap (λ (o : Option Tree). both_or (length t) o (indexes_of es)) e

    pub no_indexes : (o : Tree) → options_of es ≡ Some o → indexes_of es ≡ None → metadata_of t ≡ Err (length t)
    no_indexes o e f = members ∙ rw (e, f) refl

    pub both_there : (o : Tree) (ds : List Tree) → options_of es ≡ Some o → indexes_of es ≡ Some ds → metadata_of t ≡ Ok (o, ds)
    both_there o ds e f = members ∙ rw (e, f) refl

-- ---- writing

abbrev front : List ℕ
front = codes "{\"options\":"

abbrev id_text : List ℕ
id_text = codes "{\"v\":{\"$numberInt\":\"2\"},\"key\":{\"_id\":{\"$numberInt\":\"1\"}},\"name\":\"_id_\"}"

abbrev indexes_text : List ℕ
indexes_text = codes ",\"indexes\":[{\"v\":{\"$numberInt\":\"2\"},\"key\":{\"_id\":{\"$numberInt\":\"1\"}},\"name\":\"_id_\"}"

abbrev name_text : List ℕ
name_text = codes "],\"collectionName\":"

abbrev end_text : List ℕ
end_text = codes ",\"type\":\"collection\"}"

object_is : (es : List (List ℕ × Tree)) → text_of (trees.Object es) ≡ print_step (Tree-F.Object (map (λ e. (e.0, text_of e.1)) es))
object_is es = ap text_of (sym (trees.rolls-Object es)) ∙ fold-roll-Tree (List ℕ) print_step (Tree-F.Object es)

list_is : (ts : List Tree) → text_of (trees.Items ts) ≡ print_step (Tree-F.Items (map text_of ts))
list_is ts = ap text_of (sym (trees.rolls-Items ts)) ∙ fold-roll-Tree (List ℕ) print_step (Tree-F.Items ts)

str_is : (t : List ℕ) → text_of (trees.Str t) ≡ quoted t
str_is t = ap text_of (sym (trees.rolls-Str t)) ∙ fold-roll-Tree (List ℕ) print_step (Tree-F.Str t)

abbrev one_member : List ℕ → List ℕ → List ℕ
one_member name text = print_step (Tree-F.Object ((name, text) ∷ []))

wrapped_is : (name : List ℕ) (t : Tree) → text_of (wrapped name t) ≡ one_member name (text_of t)
wrapped_is name t = object_is ((name, t) ∷ [])

int_is : (t : List ℕ) → text_of (wrapped (codes "$numberInt") (trees.Str t)) ≡ one_member (codes "$numberInt") (quoted t)
int_is t = wrapped_is (codes "$numberInt") (trees.Str t) ∙ ap (one_member (codes "$numberInt")) (str_is t)

key_is : text_of (wrapped (codes "_id") (wrapped (codes "$numberInt") (trees.Str (codes "1")))) ≡ one_member (codes "_id") (one_member (codes "$numberInt") (quoted (codes "1")))
key_is = wrapped_is (codes "_id") (wrapped (codes "$numberInt") (trees.Str (codes "1"))) ∙ ap (one_member (codes "_id")) (int_is (codes "1"))

abbrev three_members : List ℕ → List ℕ → List ℕ → List ℕ
three_members v key name = print_step (Tree-F.Object ((codes "v", v) ∷ (codes "key", key) ∷ (codes "name", name) ∷ []))

id_literal : three_members (one_member (codes "$numberInt") (quoted (codes "2"))) (one_member (codes "_id") (one_member (codes "$numberInt") (quoted (codes "1")))) (quoted (codes "_id_")) ≡ id_text
unfolding escaped
id_literal = refl

id_is : text_of id_definition ≡ id_text
id_is =
    object_is ((codes "v", wrapped (codes "$numberInt") (trees.Str (codes "2"))) ∷ (codes "key", wrapped (codes "_id") (wrapped (codes "$numberInt") (trees.Str (codes "1")))) ∷ (codes "name", trees.Str (codes "_id_")) ∷ [])
    ∙ (λ i. three_members (int_is (codes "2") i) (key_is i) (str_is (codes "_id_") i)) ∙ id_literal

abbrev four_members : List ℕ → List ℕ → List ℕ → List ℕ → List ℕ
four_members o ds c t = print_step (Tree-F.Object ((codes "options", o) ∷ (codes "indexes", ds) ∷ (codes "collectionName", c) ∷ (codes "type", t) ∷ []))

abbrev list_text : List ℕ → List ℕ → List ℕ
list_text first others = 91 ∷ ((first ++ others) ++ 93 ∷ [])

to_left : (o i d x n c t z : List ℕ) → (o ++ (i ++ ((d ++ x) ++ (n ++ (c ++ t))))) ++ z ≡ o ++ (i ++ (d ++ (x ++ (n ++ (c ++ (t ++ z))))))
to_left o i d x n c t z = simp append_assoc

to_right : (f o i d n c e : List ℕ) → (((((f ++ o) ++ i) ++ d) ++ n) ++ c) ++ e ≡ f ++ (o ++ (i ++ (d ++ (n ++ (c ++ e)))))
to_right f o i d n c e = simp append_assoc

joined : (o ds c : List ℕ) → four_members o (list_text id_text ds) c (quoted (codes "collection")) ≡ (((((front ++ o) ++ indexes_text) ++ ds) ++ name_text) ++ c) ++ end_text
unfolding escaped
joined o ds c =
    ap (λ (l : List ℕ). front ++ l) (to_left o indexes_text ds (93 ∷ []) (codes ",\"collectionName\":") c (codes ",\"type\":\"collection\"") (125 ∷ []))
    ∙ sym (to_right front o indexes_text ds name_text c end_text)

-- what is written, one piece after the other
pub written : (coll : List ℕ) (o : Tree) (ds : List Tree)
    → text_of (metadata_tree coll o ds) ≡ (((((front ++ text_of o) ++ indexes_text) ++ behind_commas (map text_of ds)) ++ name_text) ++ text_of (trees.Str coll)) ++ end_text
unfolding metadata_tree
written coll o ds =
    let list = list_is (id_definition ∷ ds) ∙ ap (λ (t : List ℕ). list_text t (behind_commas (map text_of ds))) id_is in
    object_is ((codes "options", o) ∷ (codes "indexes", trees.Items (id_definition ∷ ds)) ∷ (codes "collectionName", trees.Str coll) ∷ (codes "type", trees.Str (codes "collection")) ∷ [])
    ∙ (λ i. four_members (text_of o) (list i) (text_of (trees.Str coll)) (str_is (codes "collection") i)) ∙ joined (text_of o) (behind_commas (map text_of ds)) (text_of (trees.Str coll))

pub pieces : (r s t u v w x y o ds c : List ℕ) → r ≡ [] → s ≡ r ++ front → t ≡ s ++ o → u ≡ t ++ indexes_text → v ≡ u ++ ds → w ≡ v ++ name_text → x ≡ w ++ c → y ≡ x ++ end_text → y ≡ (((((front ++ o) ++ indexes_text) ++ ds) ++ name_text) ++ c) ++ end_text
pieces r s t u v w x y o ds c er es et eu ev ew ex ey =
    let a = es ∙ ap (λ (l : List ℕ). l ++ front) er in
    let b = et ∙ ap (λ (l : List ℕ). l ++ o) a in
    let d = eu ∙ ap (λ (l : List ℕ). l ++ indexes_text) b in
    let e = ev ∙ ap (λ (l : List ℕ). l ++ ds) d in
    let f = ew ∙ ap (λ (l : List ℕ). l ++ name_text) e in
    let g = ex ∙ ap (λ (l : List ℕ). l ++ c) f in
    ey ∙ ap (λ (l : List ℕ). l ++ end_text) g

-- a text that is no JSON text
pub json_fails : (text : List ℕ) → eqb (length text) 0 ≡ false → (f : JsonFault) (e : MetaFault) → e ≡ same_fault f → JsonFails f (tree_of_text text) → Fails e (metadata_of text)
json_fails text some json.NoMemory e is h = subst (λ (x : MetaFault). Fails x (metadata_of text)) (sym is) tt
json_fails text some (json.Bad at) e is h = subst (λ (x : MetaFault). Fails x (metadata_of text)) (sym is) (no_json text some at h)

-- a string that is well-formed
pub str_utf8 : (t u : List ℕ) → t ≡ u → IsWellFormed (trees.Str t) → is_utf8 u ≡ true
str_utf8 t u same k = ap is_utf8 (sym same) ∙ subst IsWellFormedLevel (trees.outs-Str t) (here_well (trees.Str t) k)
