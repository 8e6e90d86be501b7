-- What the code tests of documents and definitions is what the rows ask.
use Rattle.std.proofs.Common.{◌≡◌, ℕ, Bool, true, false, not, List, [], ◌∷◌, length, map as each, refl, sym, ap, ◌∙◌, Option, Some, None}
use Rattle.std.specs.Str.{bytes_eq}
use Rattle.std.proofs.lemmas.Slice.Eq.{bytes_eq-Decides}
use Rattle.std.specs.Prelude.{◌&&◌, ◌||◌, nat_le, codes, is_some, option_map}
use Rattle.std.specs.List.{list_any}
use Rattle.std.specs.FinMap as map
use Rattle.std.proofs.lemmas.List.{length-map}
use Rattle.bson_value.specs.declared.namespace.NsName.{NsName}
use Rattle.bson_value.specs.declared.value.Value.{Value}
use Rattle.bson_encode.specs.Key.{key_of}
use Rattle.json_tree.specs.declared.tree.Tree.{Tree}
use Rattle.state_model.specs.Keys.{Key, same_key}
use Rattle.state_model.proofs.Keys.{key_is, key_from, key_turn}
use Rattle.coll_state.specs.Rows.{Document as Fields, Row, Table, Rows, id_of}
use Rattle.coll_state.specs.Changes.{put_row}
use Rattle.coll_state.specs.Definitions.{definition_name}
use Rattle.index_keys.specs.declared.plan.Plan.{Plan}
use Rattle.index_keys.specs.Definition.{plan_of}
use Rattle.schedule_model.specs.declared.refused.Refused.{Refused}
use Rattle.schedule_model.specs.declared.refused.Refused.TheVariants.{NoSuchNamespace, NoSuchIndex, DuplicateKey, ParallelArrays, IndexExists, BadDocument, TooManyIndexes}
use Rattle.history_model.specs.Documents.{id_first, is_good_document, is_good_definition, normal_of, name_of}
use Rattle.history_model.specs.Refusals.{first_of, definitions_in, rows_in, plan_in, any_definition, name_there, index_rows, with_document, with_good}
use Rattle.history_model.specs.Refusals as rules
use Rattle.history_model.specs.Commands.{has_definition}
use Rattle.command_refusals.specs.Clashes.{texts, is_parallel, clashes, unique_clash, any_parallel}
use Rattle.command_refusals.specs.Collections.{any_in_database, is_among, is_taken, form_refusal, form_refusal_if, index_row, drop_index_row}
use Rattle.command_refusals.specs.Conditions.{row_if, or_later}
use Rattle.command_refusals.specs.Keyed.{documents}
use Rattle.command_refusals.specs.Tests.{refusal_by, rows_refusal, some_clash, some_parallel}
use Rattle.command_refusals.proofs.Shared.{any_same}

any_each : {A B : Type 0} (p : B → Bool) (f : A → B) (xs : List A) → list_any p (each f xs) ≡ list_any (λ x. p (f x)) xs
any_each p f [] = refl
any_each p f (x ∷ xs) = ap (λ (b : Bool). p (f x) || b) (any_each p f xs)

-- ---- rows and their documents

clash_documents : (plan : Plan) (rs : List Row) → clashes plan (documents rs) ≡ rules.clashes plan rs
clash_documents plan [] = refl
clash_documents plan (r ∷ rs) = λ i. any_each (λ (e : Fields). rules.meet (texts plan r.document) (texts plan e)) (λ (s : Row). s.document) rs i || clash_documents plan rs i

unique_documents : (o : Option Plan) (rs : List Row) → unique_clash o (documents rs) ≡ rules.unique_clash rs o
unique_documents None rs = refl
unique_documents (Some plan) rs = ap (λ (b : Bool). plan.unique && b) (clash_documents plan rs)

parallel_documents : (o : Option Plan) (rs : List Row) → any_parallel o (documents rs) ≡ rules.any_parallel rs o
parallel_documents None rs = refl
parallel_documents (Some plan) rs = any_each (is_parallel plan) (λ (r : Row). r.document) rs

-- ---- the index of a normal form

pub form_told : (form : Option Tree) (t : Tree) (rs : List Row) (docs : List Fields) (a b : Bool) (x : Option Refused) → form ≡ Some t → docs ≡ documents rs → a ≡ unique_clash (plan_of t) docs → b ≡ any_parallel (plan_of t) docs → x ≡ refusal_by a b → x ≡ form_refusal form rs
form_told form t rs docs a b x e d f g h =
    h ∙ ((λ i. refusal_by ((f ∙ (ap (unique_clash (plan_of t)) d ∙ unique_documents (plan_of t) rs)) i) ((g ∙ (ap (any_parallel (plan_of t)) d ∙ parallel_documents (plan_of t) rs)) i))
    ∙ ap (λ (o : Option Tree). form_refusal o rs) (sym e))

-- ---- the indexes of a collection

defs_clash : (rs : List Row) (es : List (Key × Tree)) → some_clash (each (λ (e : Key × Tree). e.1) es) (documents rs) ≡ any_definition rules.unique_clash (Some rs) es
defs_clash rs es =
    any_each (λ (d : Tree). unique_clash (plan_of d) (documents rs)) (λ (e : Key × Tree). e.1) es
    ∙ any_same (λ (e : Key × Tree). unique_clash (plan_of e.1) (documents rs)) (λ (e : Key × Tree). rules.unique_clash rs (plan_of e.1)) (λ e. unique_documents (plan_of e.1) rs) es

defs_parallel : (rs : List Row) (es : List (Key × Tree)) → some_parallel (each (λ (e : Key × Tree). e.1) es) (documents rs) ≡ any_definition rules.any_parallel (Some rs) es
defs_parallel rs es =
    any_each (λ (d : Tree). any_parallel (plan_of d) (documents rs)) (λ (e : Key × Tree). e.1) es
    ∙ any_same (λ (e : Key × Tree). any_parallel (plan_of e.1) (documents rs)) (λ (e : Key × Tree). rules.any_parallel rs (plan_of e.1)) (λ e. parallel_documents (plan_of e.1) rs) es

abbrev pub defs_of : Option Table → Option (List Tree)
defs_of o = option_map (λ (t : Table). map.values t.indexes) o

same_defs : (a b : List Tree) → Some a ≡ Some b → a ≡ b
same_defs a b e = cc

pub put_told : (o : Option Table) (rs : List Row) (defs : List Tree) (docs : List Fields) (a b : Bool) → Some defs ≡ defs_of o → docs ≡ documents rs → a ≡ some_clash defs docs → b ≡ some_parallel defs docs → refusal_by a b ≡ rows_refusal (Some rs) (definitions_in o)
put_told None rs defs docs a b e d f g = cc
put_told (Some t) rs defs docs a b e d f g =
    (let h = same_defs defs (map.values t.indexes) e in
    λ i. refusal_by ((f ∙ ((λ j. some_clash (h j) (d j)) ∙ defs_clash rs (map.entries t.indexes))) i) ((g ∙ ((λ j. some_parallel (h j) (d j)) ∙ defs_parallel rs (map.entries t.indexes))) i))

no_entries : (es : List (Key × Tree)) → each (λ (e : Key × Tree). e.1) es ≡ [] → es ≡ []
no_entries [] e = refl
no_entries (x ∷ es) e = cc

pub none_told : (o : Option Table) (rs : List Row) → None ≡ defs_of o → None ≡ rows_refusal (Some rs) (definitions_in o)
none_told None rs e = refl
none_told (Some t) rs e = cc

pub empty_told : (o : Option Table) (rs : List Row) (defs : List Tree) → Some defs ≡ defs_of o → defs ≡ [] → None ≡ rows_refusal (Some rs) (definitions_in o)
empty_told None rs defs e f = cc
empty_told (Some t) rs defs e f = ap (λ (es : List (Key × Tree)). rows_refusal (Some rs) es) (sym (no_entries (map.entries t.indexes) (sym (same_defs defs (map.values t.indexes) e) ∙ f)))

-- ---- a document that is to be put, if it may be stored

pub good_told : (d first : Fields) (id : Value) (rs : List Row) (ds : List (Key × Tree)) (x : Option Refused) → is_good_document d ≡ true → Some id ≡ id_of d → first ≡ id_first d → x ≡ rows_refusal (Some (put_row 0 (key_of id) first rs)) ds →
    x ≡ rows_refusal (with_good (is_good_document d) d rs) ds
good_told d first id rs ds x g e f h =
    h ∙ (ap (λ (z : Fields). rows_refusal (Some (put_row 0 (key_of id) z rs)) ds) f
    ∙ (ap (λ (o : Option Value). rows_refusal (with_document o (id_first d) rs) ds) e
    ∙ ap (λ (b : Bool). rows_refusal (with_good b d rs) ds) (sym g)))

pub bad_told : (d : Fields) (rs : List Row) (ds : List (Key × Tree)) → is_good_document d ≡ false → None ≡ rows_refusal (with_good (is_good_document d) d rs) ds
bad_told d rs ds g = ap (λ (b : Bool). rows_refusal (with_good b d rs) ds) (sym g)

pub unnamed_told : (d : Fields) (rs : List Row) (ds : List (Key × Tree)) → is_good_document d ≡ true → None ≡ id_of d → None ≡ rows_refusal (with_good (is_good_document d) d rs) ds
unnamed_told d rs ds g e = ap (λ (o : Option Value). rows_refusal (with_document o (id_first d) rs) ds) e ∙ ap (λ (b : Bool). rows_refusal (with_good b d rs) ds) (sym g)

-- ---- databases

in_names : (db : List ℕ) (es : List (NsName × Table)) → any_in_database db (each (λ (e : NsName × Table). e.0) es) ≡ list_any (λ (e : NsName × Table). same_key e.0.db db) es
in_names db es = any_each (λ (n : NsName). same_key n.db db) (λ (e : NsName × Table). e.0) es

pub bytes_key : (x y : Key) → bytes_eq x y ≡ same_key x y
bytes_key x y = by (bytes_eq x y) (same_key x y) refl refl
  where
    by : (a b : Bool) → bytes_eq x y ≡ a → same_key x y ≡ b → a ≡ b
    by true true e f = refl
    by true false e f = (let g = key_from x y ((bytes_eq-Decides x y).0 e) in cc)
    by false true e f = (let g = (bytes_eq-Decides x y).1 (key_is x y f) in cc)
    by false false e f = refl

pub found_there : (db : List ℕ) (n : NsName) (ns rest whole : List NsName) (es : List (NsName × Table)) (b : Bool) → any_in_database db whole ≡ any_in_database db ns → ns ≡ n ∷ rest → whole ≡ each (λ (e : NsName × Table). e.0) es → b ≡ same_key n.db db → b ≡ true →
    true ≡ list_any (λ (e : NsName × Table). same_key e.0.db db) es
found_there db n ns rest whole es b w e f k t =
    (let here : any_in_database db ns ≡ true = ap (any_in_database db) e ∙ ap (λ (x : Bool). x || any_in_database db rest) (sym k ∙ t) in
    sym (sym (in_names db es) ∙ (ap (any_in_database db) (sym f) ∙ (w ∙ here))))

pub passed_over : (db : List ℕ) (n : NsName) (ns rest whole : List NsName) (b : Bool) → any_in_database db whole ≡ any_in_database db ns → ns ≡ n ∷ rest → b ≡ same_key n.db db → b ≡ false → any_in_database db whole ≡ any_in_database db rest
passed_over db n ns rest whole b w e k t = w ∙ (ap (any_in_database db) e ∙ ap (λ (x : Bool). x || any_in_database db rest) (sym k ∙ t))

pub none_there : (db : List ℕ) (ns whole : List NsName) (es : List (NsName × Table)) → any_in_database db whole ≡ any_in_database db ns → ns ≡ [] → whole ≡ each (λ (e : NsName × Table). e.0) es → false ≡ list_any (λ (e : NsName × Table). same_key e.0.db db) es
none_there db ns whole es w e f = sym (sym (in_names db es) ∙ (ap (any_in_database db) (sym f) ∙ (w ∙ ap (any_in_database db) e)))

-- ---- the name of a definition among those that are left

pub among_found : (k : Key) (d : Tree) (left rest whole : List Tree) (b : Bool) → is_among k whole ≡ is_among k left → left ≡ d ∷ rest → b ≡ same_key (definition_name d) k → b ≡ true → true ≡ is_among k whole
among_found k d left rest whole b w e n t = sym (w ∙ (ap (is_among k) e ∙ ap (λ (x : Bool). x || is_among k rest) (key_turn (definition_name d) k true (sym n ∙ t))))

pub among_passed : (k : Key) (d : Tree) (left rest whole : List Tree) (b : Bool) → is_among k whole ≡ is_among k left → left ≡ d ∷ rest → b ≡ same_key (definition_name d) k → b ≡ false → is_among k whole ≡ is_among k rest
among_passed k d left rest whole b w e n t = w ∙ (ap (is_among k) e ∙ ap (λ (x : Bool). x || is_among k rest) (key_turn (definition_name d) k false (sym n ∙ t)))

-- ---- definitions by name

among_names : (k : Key) (defs : List Tree) (es : List (Key × Tree)) → each definition_name defs ≡ each (λ (e : Key × Tree). e.0) es → is_among k defs ≡ has_definition k es
among_names k defs es e =
    sym (any_each (same_key k) definition_name defs) ∙ (ap (λ (ks : List Key). list_any (same_key k) ks) e ∙ any_each (same_key k) (λ (x : Key × Tree). x.0) es)

abbrev pub names_in : Option Table → Option (List Key)
names_in o = option_map (λ (t : Table). map.keys t.indexes) o

same_names : (a b : List Key) → Some a ≡ Some b → a ≡ b
same_names a b e = cc

among_told : (k : Key) (defs : List Tree) (o : Option Table) → Some (each definition_name defs) ≡ names_in o → is_among k defs ≡ has_definition k (definitions_in o)
among_told k defs None e = cc
among_told k defs (Some t) e = among_names k defs (map.entries t.indexes) (same_names (each definition_name defs) (map.keys t.indexes) e)

there_of : (defs : List Tree) (o : Option Table) → Some (each definition_name defs) ≡ names_in o → is_some o ≡ true
there_of defs None e = cc
there_of defs (Some t) e = refl

missing_of : (o : Option Table) → None ≡ names_in o → is_some o ≡ false
missing_of None e = refl
missing_of (Some t) e = cc

abbrev drop_rows : Bool → Bool → Option Refused
drop_rows there has = first_of ((not there, NoSuchNamespace) ∷ (not has, NoSuchIndex) ∷ [])

pub drop_missing : (n : NsName) (k : Key) (r : Rows) → None ≡ names_in (map.get r.tables n) → Some NoSuchNamespace ≡ drop_index_row n k r
drop_missing n k r e = ap (λ (b : Bool). drop_rows b (has_definition k (definitions_in (map.get r.tables n)))) (sym (missing_of (map.get r.tables n) e))

pub drop_told : (n : NsName) (k : Key) (r : Rows) (defs : List Tree) (b : Bool) → Some (each definition_name defs) ≡ names_in (map.get r.tables n) → is_among k defs ≡ b → drop_rows true b ≡ drop_index_row n k r
drop_told n k r defs b e f = λ i. drop_rows (sym (there_of defs (map.get r.tables n) e) i) ((sym f ∙ among_told k defs (map.get r.tables n) e) i)

-- ---- a new definition

taken_told : (k : Option Key) (defs : List Tree) (o : Option Table) → Some (each definition_name defs) ≡ names_in o → is_taken k defs ≡ name_there k (definitions_in o)
taken_told None defs o e = refl
taken_told (Some k) defs o e = ap (λ (b : Bool). same_key k (codes "_id_") || b) (among_told k defs o e)

count_told : (defs : List Tree) (o : Option Table) → Some (each definition_name defs) ≡ names_in o → length defs ≡ length (definitions_in o)
count_told defs None e = cc
count_told defs (Some t) e =
    sym (length-map defs definition_name) ∙ (ap length (same_names (each definition_name defs) (map.keys t.indexes) e) ∙ length-map (map.entries t.indexes) (λ (x : Key × Tree). x.0))

abbrev six_rows : Bool → Bool → Bool → Bool → Bool → Bool → Option Refused
six_rows there u p taken good many = first_of ((not there, NoSuchNamespace) ∷ (good && u, DuplicateKey) ∷ (good && p, ParallelArrays) ∷ (taken, IndexExists) ∷ (not good, BadDocument) ∷ (many, TooManyIndexes) ∷ [])

-- what the code tells
abbrev told_by : Option Refused → Bool → Bool → Bool → Option Refused
told_by tested taken good many = or_later tested (row_if taken IndexExists (row_if (not good) BadDocument (row_if many TooManyIndexes None)))

good_rows : (u p taken many : Bool) → told_by (refusal_by u p) taken true many ≡ six_rows true u p taken true many
good_rows true p taken many = refl
good_rows false true taken many = refl
good_rows false false true many = refl
good_rows false false false true = refl
good_rows false false false false = refl

bad_rows : (u p taken many : Bool) → told_by None taken false many ≡ six_rows true u p taken false many
bad_rows u p true many = refl
bad_rows u p false many = refl

-- the tests are those of the rows
index_rows_by : (n : NsName) (d : Fields) (r : Rows) (defs : List Tree) (good : Bool) (x : Option Refused) → Some (each definition_name defs) ≡ names_in (map.get r.tables n) → good ≡ is_good_definition d →
    x ≡ six_rows true (rules.unique_clash (rows_in (map.get r.tables n)) (plan_in (normal_of d))) (rules.any_parallel (rows_in (map.get r.tables n)) (plan_in (normal_of d))) (is_taken (name_of d) defs) good (nat_le 63 (length defs)) →
    x ≡ first_of (index_rows n d r)
index_rows_by n d r defs good x e g h =
    (let u = rules.unique_clash (rows_in (map.get r.tables n)) (plan_in (normal_of d)) in
    let p = rules.any_parallel (rows_in (map.get r.tables n)) (plan_in (normal_of d)) in
    h ∙ (λ i. six_rows (sym (there_of defs (map.get r.tables n) e) i) u p (taken_told (name_of d) defs (map.get r.tables n) e i) (g i) (nat_le 63 (count_told defs (map.get r.tables n) e i))))

good_index : (n : NsName) (d : Fields) (r : Rows) (defs : List Tree) (form : Option Tree) (name : Option Key) (good : Bool) (tested x : Option Refused) → Some (each definition_name defs) ≡ names_in (map.get r.tables n) → good ≡ is_good_definition d → good ≡ true →
    form ≡ normal_of d → name ≡ name_of d → tested ≡ form_refusal form (rows_in (map.get r.tables n)) → x ≡ index_row tested (is_taken name defs) good (length defs) → x ≡ first_of (index_rows n d r)
good_index n d r defs form name good tested x e g t f m k h =
    (let u = rules.unique_clash (rows_in (map.get r.tables n)) (plan_in (normal_of d)) in
    let p = rules.any_parallel (rows_in (map.get r.tables n)) (plan_in (normal_of d)) in
    index_rows_by n d r defs good x e g
    (h ∙ ((λ i. told_by ((k ∙ ap (λ (o : Option Tree). form_refusal o (rows_in (map.get r.tables n))) f) i) (is_taken (m i) defs) (t i) (nat_le 63 (length defs)))
    ∙ (good_rows u p (is_taken (name_of d) defs) (nat_le 63 (length defs)) ∙ ap (λ (b : Bool). six_rows true u p (is_taken (name_of d) defs) b (nat_le 63 (length defs))) (sym t)))))

bad_index : (n : NsName) (d : Fields) (r : Rows) (defs : List Tree) (name : Option Key) (good : Bool) (x : Option Refused) → Some (each definition_name defs) ≡ names_in (map.get r.tables n) → good ≡ is_good_definition d → good ≡ false →
    name ≡ name_of d → x ≡ index_row None (is_taken name defs) good (length defs) → x ≡ first_of (index_rows n d r)
bad_index n d r defs name good x e g t m h =
    (let u = rules.unique_clash (rows_in (map.get r.tables n)) (plan_in (normal_of d)) in
    let p = rules.any_parallel (rows_in (map.get r.tables n)) (plan_in (normal_of d)) in
    index_rows_by n d r defs good x e g
    (h ∙ ((λ i. told_by None (is_taken (m i) defs) (t i) (nat_le 63 (length defs)))
    ∙ (bad_rows u p (is_taken (name_of d) defs) (nat_le 63 (length defs)) ∙ ap (λ (b : Bool). six_rows true u p (is_taken (name_of d) defs) b (nat_le 63 (length defs))) (sym t)))))

pub index_told : (n : NsName) (d : Fields) (r : Rows) (defs : List Tree) (form : Option Tree) (name : Option Key) (good : Bool) (tested x : Option Refused) → Some (each definition_name defs) ≡ names_in (map.get r.tables n) → good ≡ is_good_definition d →
    form ≡ normal_of d → name ≡ name_of d → tested ≡ form_refusal_if good form (rows_in (map.get r.tables n)) → x ≡ index_row tested (is_taken name defs) good (length defs) → x ≡ first_of (index_rows n d r)
index_told n d r defs form name good tested x e g f m k h = by good refl
  where
    by : (b : Bool) → good ≡ b → x ≡ first_of (index_rows n d r)
    by true t = good_index n d r defs form name good tested x e g t f m (k ∙ ap (λ (b : Bool). form_refusal_if b form (rows_in (map.get r.tables n))) t) h
    by false t = bad_index n d r defs name good x e g t m (h ∙ ap (λ (o : Option Refused). index_row o (is_taken name defs) good (length defs)) (k ∙ ap (λ (b : Bool). form_refusal_if b form (rows_in (map.get r.tables n))) t))

pub index_missing : (n : NsName) (d : Fields) (r : Rows) → None ≡ names_in (map.get r.tables n) → Some NoSuchNamespace ≡ first_of (index_rows n d r)
index_missing n d r e =
    ap (λ (b : Bool). six_rows b (rules.unique_clash (rows_in (map.get r.tables n)) (plan_in (normal_of d))) (rules.any_parallel (rows_in (map.get r.tables n)) (plan_in (normal_of d))) (name_there (name_of d) (definitions_in (map.get r.tables n))) (is_good_definition d) (nat_le 63 (length (definitions_in (map.get r.tables n)))))
    (sym (missing_of (map.get r.tables n) e))
