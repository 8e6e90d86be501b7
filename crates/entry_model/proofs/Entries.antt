-- The document of an entry that can be written is read as that entry.
use Rattle.std.proofs.Common.{◌≡◌, ℕ, suc, List, [], ◌∷◌, map, Bool, true, false, refl, sym, ap, ◌∙◌, subst}
use Rattle.std.specs.Prelude.{pos, codes, Option, Some, None, Ok, if◌then◌else◌}
use Rattle.std.specs.Str.{bytes_eq}
use Rattle.std.specs.List.{AllByRecursion}
use Rattle.std.specs.Option.{IsSome}
use Rattle.std.proofs.lemmas.Slice.Eq.{bytes_eq-Decides}
use Rattle.containers.specs.Entries.{lookup, without, IsAbsent, names_of}
use Rattle.bson_value.specs.declared.value.Value.{Value, Value-F, out-Value}
use Rattle.bson_value.specs.declared.value.Value.TheVariants.{Str, Object, Array, Int, outs-Str, outs-Object, outs-Array, outs-Stamp}
use Rattle.bson_value.specs.declared.value.Ts.{Ts}
use Rattle.bson_value.specs.declared.namespace.NsName.{NsName}
use Rattle.bson_value.specs.Namespace.{IsSplit}
use Rattle.bson_value.proofs.FirstDot.{sides}
use Rattle.doc_path.specs.Played.{id_name}
use Rattle.doc_path.specs.declared.parts.Form.{Form}
use Rattle.doc_path.specs.declared.parts.Form.TheVariants.{V1, V2}
use Rattle.doc_path.specs.declared.touches.Touch.{Touch}
use Rattle.entry_model.specs.declared.entry.Entry.{Entry}
use Rattle.entry_model.specs.declared.entry.Action.{Action, out-Action, roll-Action, roll-out-Action}
use Rattle.entry_model.specs.declared.entry.Action.TheOpen.{Action-F}
use Rattle.entry_model.specs.declared.entry.Action.TheVariants.{Nothing, Put, Remove, Whole, Delta, Create, DropColl, DropDb, AddIndexes, DropIndex, Rename, Group, rolls-Nothing, rolls-Put, rolls-Remove, rolls-Whole, rolls-Delta, rolls-Create, rolls-DropColl, rolls-DropDb, rolls-AddIndexes, rolls-DropIndex, rolls-Rename, rolls-Group}
use Rattle.entry_model.specs.Written.{Fields}
use Rattle.entry_model.specs.Touches.{written, touches_read}
use Rattle.entry_model.specs.Spelling.{level_limit, namespace_text, text_of, id_alone, command_body, wall, body_at, body_fields, item_value, entry_fields}
use Rattle.entry_model.specs.Reading.{Read, ◌>>=◌, there, good, text_in, document_in, array_in, stamp_in, field, id_of, named, both_sides, namespace_of, in_database, is_whole, update_of, Done, collection, whole_name, definition, command, operation, is_nothing, namespace, done_at, read_at, no_group, item, items, group_of}
use Rattle.entry_model.specs.Writable.{IsCollection, IsDefinition, IsPlain, IsItem, CanWrite, WritableReadsBack}

-- ---- fields

text_read : (name : List ℕ) (fs : Fields) (t : List ℕ) → lookup name fs ≡ Some (Str t) → field text_in name fs ≡ Ok t
text_read name fs t p = ap (λ (o : Option Value). there name o >>= λ v. good name (text_in (out-Value v))) p ∙ ap (λ (x : Value-F Value). good name (text_in x)) (outs-Str t)

document_read : (name : List ℕ) (fs o : Fields) → lookup name fs ≡ Some (Object o) → field document_in name fs ≡ Ok o
document_read name fs o p = ap (λ (x : Option Value). there name x >>= λ v. good name (document_in (out-Value v))) p ∙ ap (λ (x : Value-F Value). good name (document_in x)) (outs-Object o)

text_good : (name t : List ℕ) → good name (text_in (out-Value (Str t))) ≡ Ok t
text_good name t = ap (λ (x : Value-F Value). good name (text_in x)) (outs-Str t)

-- ---- namespaces

both_back : (db coll : List ℕ) → (db ≡ [] → ⊥) → (coll ≡ [] → ⊥) → both_sides db coll ≡ Some (named db coll)
both_back [] coll a b = absurd (a refl)
both_back (c ∷ db) [] a b = absurd (b refl)
both_back (c ∷ db) (d ∷ coll) a b = refl

pub split_back : (text db coll : List ℕ) → IsSplit text db coll → namespace_of text ≡ Some (named db coll)
split_back text db coll s =
    let r = sides text db coll s in
    (λ i. both_sides (sym r.0 i) (sym r.1 i)) ∙ both_back db coll s.some_db s.some_coll

database_back : (db coll : List ℕ) → (coll ≡ [] → ⊥) → in_database db coll ≡ Some (named db coll)
database_back db [] a = absurd (a refl)
database_back db (c ∷ coll) a = refl

collection_back : (name : List ℕ) (ns : NsName) → IsCollection ns → collection ns.db name (Str ns.coll) ≡ Ok ns
collection_back name ns s =
    ap (λ (r : Read (List ℕ)). r >>= λ t. good name (in_database ns.db t)) (text_good name ns.coll)
    ∙ ap (good name) (database_back ns.db ns.coll s.some_coll)

whole_back : (name : List ℕ) (ns : NsName) → IsCollection ns → whole_name name (Str (text_of ns)) ≡ Ok ns
whole_back name ns s =
    ap (λ (r : Read (List ℕ)). r >>= λ t. good name (namespace_of t)) (text_good name (text_of ns))
    ∙ ap (good name) (split_back (text_of ns) ns.db ns.coll s)

-- ---- one entry, by what its fields say

at_fields : (group : List ℕ → Value → Fields → Read Done) (ts : Ts) (fs : Fields) (op text : List ℕ) (ns : NsName) (d : Done) →
    lookup (codes "op") fs ≡ Some (Str op) → lookup (codes "ns") fs ≡ Some (Str text) → namespace (bytes_eq op (codes "n")) text ≡ Ok ns → operation group op ns fs ≡ Ok d →
    read_at group ts fs ≡ Ok (done_at ts d)
at_fields group ts fs op text ns d p q n o =
    let t = text_read (codes "ns") fs text q in
    let x = text_read (codes "op") fs op p in
    let whole : Read (List ℕ) → Read (List ℕ) → Read Entry = λ a b. a >>= λ text'. (namespace (is_nothing b) text' >>= λ ns'. (b >>= λ op'. (operation group op' ns' fs >>= λ done. Ok (done_at ts done)))) in
    (λ i. whole (t i) (x i))
    ∙ (ap (λ (r : Read NsName). r >>= λ ns'. (operation group op ns' fs >>= λ done. Ok (done_at ts done))) n
    ∙ ap (λ (r : Read Done). r >>= λ done. Ok (done_at ts done)) o)

abbrev ended : Ts → NsName → Action → Read Entry
ended ts ns a = Ok (done_at ts (ns, a))

abbrev Groups : Type 0
Groups = List ℕ → Value → Fields → Read Done

rolled : (ts : Ts) (ns : NsName) (a b : Action) → a ≡ b → ended ts ns b ≡ ended ts ns a
rolled ts ns a b e = ap (ended ts ns) (sym e)

in_collection : (ns : NsName) → IsCollection ns → namespace false (text_of ns) ≡ Ok ns
in_collection ns s = ap (good (codes "ns")) (split_back (text_of ns) ns.db ns.coll s)

after_id : (name : List ℕ) (o : Option Value) (r : Read Done) → IsSome o → (there name o >>= λ v. r) ≡ r
after_id name None r h = cc
after_id name (Some v) r h = refl

put_done : (group : Groups) (ns : NsName) (fs doc : Fields) → lookup (codes "o") fs ≡ Some (Object doc) → IsSome (lookup id_name doc) → operation group (codes "i") ns fs ≡ Ok (ns, Put doc)
put_done group ns fs doc p h =
    ap (λ (r : Read Fields). r >>= λ o. (id_of (codes "o") o >>= λ v. Ok (ns, Put o))) (document_read (codes "o") fs doc p)
    ∙ after_id (codes "o._id") (lookup id_name doc) (Ok (ns, Put doc)) h

remove_done : (group : Groups) (ns : NsName) (fs : Fields) (id : Value) → lookup (codes "o") fs ≡ Some (Object (id_alone id)) → operation group (codes "d") ns fs ≡ Ok (ns, Remove id)
remove_done group ns fs id p =
    ap (λ (r : Read Fields). r >>= λ o. (id_of (codes "o") o >>= λ v. Ok (ns, Remove v))) (document_read (codes "o") fs (id_alone id) p)

-- ---- updates

update_done : (group : Groups) (ns : NsName) (fs o : Fields) (id : Value) (made : Value → Action) →
    lookup (codes "o") fs ≡ Some (Object o) → lookup (codes "o2") fs ≡ Some (Object (id_alone id)) → update_of o ≡ Ok made → operation group (codes "u") ns fs ≡ Ok (ns, made id)
update_done group ns fs o id made p q u =
    let rest : (Value → Action) → Read Fields → Read Done = λ m r. r >>= λ o2. (id_of (codes "o2") o2 >>= λ v. Ok (ns, m v)) in
    ap (λ (r : Read Fields). r >>= λ d. (update_of d >>= λ m. rest m (field document_in (codes "o2") fs))) (document_read (codes "o") fs o p)
    ∙ (ap (λ (r : Read (Value → Action)). r >>= λ m. rest m (field document_in (codes "o2") fs)) u
    ∙ ap (rest made) (document_read (codes "o2") fs (id_alone id) q))

by_whole : Fields → Bool → Read (Value → Action)
by_whole o b = if b then Ok (λ id. Whole id o) else (touches_read (suc level_limit) o >>= λ r. Ok (λ id. Delta id r.0 r.1))

whole_update : (doc : Fields) → is_whole doc ≡ true → update_of doc ≡ Ok (λ id. Whole id doc)
unfolding by_whole
whole_update doc h = ap (by_whole doc) h

no_whole : (form : Form) (touches : List Touch) → is_whole (written form level_limit touches) ≡ false
no_whole V1 touches = refl
no_whole V2 touches = refl

delta_update : (form : Form) (touches : List Touch) → touches_read (suc level_limit) (written form level_limit touches) ≡ Ok (form, touches) → update_of (written form level_limit touches) ≡ Ok (λ id. Delta id form touches)
unfolding by_whole
delta_update form touches h =
    ap (by_whole (written form level_limit touches)) (no_whole form touches)
    ∙ ap (λ (r : Read (Form × List Touch)). r >>= λ x. Ok (λ id. Delta id x.0 x.1)) h

-- ---- commands

command_read : (group : Groups) (ts : Ts) (ns : NsName) (name : List ℕ) (v : Value) (rest tail : Fields) (d : Done) →
    IsSplit (namespace_text ns.db (codes "$cmd")) ns.db (codes "$cmd") → command group ns.db ((name, v) ∷ rest) ≡ Ok d →
    read_at group ts (body_fields (command_body ns name v rest) tail) ≡ Ok (done_at ts d)
command_read group ts ns name v rest tail d s h =
    let b = command_body ns name v rest in
    at_fields group ts (body_fields b tail) (codes "c") (namespace_text ns.db (codes "$cmd")) (named ns.db (codes "$cmd")) d refl refl
    (ap (good (codes "ns")) (split_back (namespace_text ns.db (codes "$cmd")) ns.db (codes "$cmd") s))
    (ap (λ (r : Read Fields). r >>= λ o. command group ns.db o) (document_read (codes "o") (body_fields b tail) ((name, v) ∷ rest) refl) ∙ h)

commanded : (ns : NsName) → IsCollection ns → IsSplit (namespace_text ns.db (codes "$cmd")) ns.db (codes "$cmd")
commanded ns s = record { joined = refl; first_dot = s.first_dot; some_db = s.some_db; some_coll = λ e. cc }

with_collection : (name : List ℕ) (ns : NsName) (k : NsName → Read Done) → IsCollection ns → (collection ns.db name (Str ns.coll) >>= k) ≡ k ns
with_collection name ns k s = ap (λ (r : Read NsName). r >>= k) (collection_back name ns s)

without_absent : (name : List ℕ) (fs : Fields) → IsAbsent name (names_of fs) → without name fs ≡ fs
without_absent name [] h = refl
without_absent name (f ∷ fs) h = by (without_absent name fs h.1) (bytes_eq f.0 name) refl
  where
    by : without name fs ≡ fs → (b : Bool) → bytes_eq f.0 name ≡ b → (if b then without name fs else f ∷ without name fs) ≡ f ∷ fs
    by r true e = absurd (h.0 (sym ((bytes_eq-Decides f.0 name).0 e)))
    by r false e = ap (λ (l : Fields). f ∷ l) r

definition_back : (d : Fields) → IsDefinition d → definition d ≡ Ok d
definition_back d h =
    ap (λ (r : Read Fields). r >>= λ k. (field text_in (codes "name") d >>= λ n. Ok d)) (document_read (codes "key") d h.0.0 h.0.1)
    ∙ ap (λ (r : Read (List ℕ)). r >>= λ n. Ok d) (text_read (codes "name") d h.1.0 h.1.1)

rename_command : (group : Groups) (from to : NsName) → IsCollection from → IsCollection to →
    command group from.db ((codes "renameCollection", Str (text_of from)) ∷ ((codes "to", Str (text_of to)) ∷ [])) ≡ Ok (from, Rename from to)
rename_command group from to s t =
    let fs : Fields = (codes "to", Str (text_of to)) ∷ [] in
    let last : NsName → Read NsName → Read Done = λ f r. r >>= λ x. Ok (f, Rename f x) in
    ap (λ (r : Read NsName). r >>= λ f. (field text_in (codes "to") fs >>= λ text. last f (good (codes "to") (namespace_of text)))) (whole_back (codes "renameCollection") from s)
    ∙ (ap (λ (r : Read (List ℕ)). r >>= λ text. last from (good (codes "to") (namespace_of text))) (text_read (codes "to") fs (text_of to) refl)
    ∙ ap (λ (o : Option NsName). last from (good (codes "to") o)) (split_back (text_of to) to.db to.coll t))

-- ---- an action that a group may have

at_level : (group : Groups) (items : List Entry → List Value) (ts : Ts) (ns : NsName) (f : Action-F Action Entry) (tail : Fields) → IsPlain ns f →
    read_at group ts (body_fields (body_at items ns f) tail) ≡ ended ts ns (roll-Action f)
at_level group items ts ns Action-F.Nothing tail h =
    at_fields group ts (body_fields (body_at items ns Action-F.Nothing) tail) (codes "n") [] ns (ns, Nothing) refl refl (λ i. Ok (named (sym h.0 i) (sym h.1 i))) refl ∙ rolled ts ns _ _ rolls-Nothing
at_level group items ts ns (Action-F.Put doc) tail h =
    at_fields group ts (body_fields (body_at items ns (Action-F.Put doc)) tail) (codes "i") (text_of ns) ns (ns, Put doc) refl refl (in_collection ns h.0) (put_done group ns (body_fields (body_at items ns (Action-F.Put doc)) tail) doc refl h.1) ∙ rolled ts ns _ _ (rolls-Put doc)
at_level group items ts ns (Action-F.Remove id) tail h =
    at_fields group ts (body_fields (body_at items ns (Action-F.Remove id)) tail) (codes "d") (text_of ns) ns (ns, Remove id) refl refl (in_collection ns h) (remove_done group ns (body_fields (body_at items ns (Action-F.Remove id)) tail) id refl) ∙ rolled ts ns _ _ (rolls-Remove id)
at_level group items ts ns (Action-F.Whole id doc) tail h =
    at_fields group ts (body_fields (body_at items ns (Action-F.Whole id doc)) tail) (codes "u") (text_of ns) ns (ns, Whole id doc) refl refl (in_collection ns h.0)
    (update_done group ns (body_fields (body_at items ns (Action-F.Whole id doc)) tail) doc id (λ x. Whole x doc) refl refl (whole_update doc h.1)) ∙ rolled ts ns _ _ (rolls-Whole id doc)
at_level group items ts ns (Action-F.Delta id form touches) tail h =
    at_fields group ts (body_fields (body_at items ns (Action-F.Delta id form touches)) tail) (codes "u") (text_of ns) ns (ns, Delta id form touches) refl refl (in_collection ns h.0)
    (update_done group ns (body_fields (body_at items ns (Action-F.Delta id form touches)) tail) (written form level_limit touches) id (λ x. Delta x form touches) refl refl (delta_update form touches h.1)) ∙ rolled ts ns _ _ (rolls-Delta id form touches)
at_level group items ts ns (Action-F.Create options) tail h =
    command_read group ts ns (codes "create") (Str ns.coll) options tail (ns, Create options) (commanded ns h.0)
    (with_collection (codes "create") ns (λ n. Ok (n, Create (without (codes "idIndex") options))) h.0 ∙ ap (λ (l : Fields). Ok (ns, Create l)) (without_absent (codes "idIndex") options h.1))
    ∙ rolled ts ns _ _ (rolls-Create options)
at_level group items ts ns Action-F.DropColl tail h =
    command_read group ts ns (codes "drop") (Str ns.coll) [] tail (ns, DropColl) (commanded ns h) (with_collection (codes "drop") ns (λ n. Ok (n, DropColl)) h) ∙ rolled ts ns _ _ rolls-DropColl
at_level group items ts ns Action-F.DropDb tail h =
    command_read group ts ns (codes "dropDatabase") (Int (pos 1)) [] tail (ns, DropDb) h.0 (λ i. Ok (named ns.db (sym h.1 i), DropDb)) ∙ rolled ts ns _ _ rolls-DropDb
at_level group items ts ns (Action-F.AddIndexes []) tail h = absurd h.1
at_level group items ts ns (Action-F.AddIndexes (d ∷ [])) tail h =
    command_read group ts ns (codes "createIndexes") (Str ns.coll) d tail (ns, AddIndexes (d ∷ [])) (commanded ns h.0)
    (with_collection (codes "createIndexes") ns (λ n. definition d >>= λ x. Ok (n, AddIndexes (x ∷ []))) h.0 ∙ ap (λ (r : Read Fields). r >>= λ x. Ok (ns, AddIndexes (x ∷ []))) (definition_back d h.1))
    ∙ rolled ts ns _ _ (rolls-AddIndexes (d ∷ []))
at_level group items ts ns (Action-F.AddIndexes (d ∷ (e ∷ ds))) tail h = absurd h.1
at_level group items ts ns (Action-F.DropIndex name) tail h =
    let fs : Fields = (codes "index", Str name) ∷ [] in
    command_read group ts ns (codes "dropIndexes") (Str ns.coll) fs tail (ns, DropIndex name) (commanded ns h)
    (with_collection (codes "dropIndexes") ns (λ n. field text_in (codes "index") fs >>= λ x. Ok (n, DropIndex x)) h ∙ ap (λ (r : Read (List ℕ)). r >>= λ x. Ok (ns, DropIndex x)) (text_read (codes "index") fs name refl))
    ∙ rolled ts ns _ _ (rolls-DropIndex name)
at_level group items ts ns (Action-F.Rename from to) tail h =
    command_read group ts ns (codes "renameCollection") (Str (text_of from)) ((codes "to", Str (text_of to)) ∷ []) tail (ns, Rename from to)
    (subst (λ (n : NsName). IsSplit (namespace_text n.db (codes "$cmd")) n.db (codes "$cmd")) (sym h.2) (commanded from h.0))
    (ap (λ (n : NsName). command group n.db ((codes "renameCollection", Str (text_of from)) ∷ ((codes "to", Str (text_of to)) ∷ []))) h.2
    ∙ (rename_command group from to h.0 h.1 ∙ ap (λ (n : NsName). Ok (n, Rename from to)) (sym h.2)))
    ∙ rolled ts ns _ _ (rolls-Rename from to)
at_level group items ts ns (Action-F.Group entries) tail h = absurd h
at_level group items ts ns (Action-F.Other name) tail h = absurd h

-- ---- groups

item_back : (ts : Ts) (e : Entry) → IsItem ts e → item ts (item_value e) ≡ Ok e
item_back ts e h =
    ap (λ (x : Value-F Value). good (codes "applyOps") (document_in x) >>= λ fs. read_at no_group ts fs) (outs-Object (body_fields (body_at (λ es. []) e.ns (out-Action e.action)) []))
    ∙ (at_level no_group (λ es. []) ts e.ns (out-Action e.action) [] h.1
    ∙ (λ i. ended (sym h.0 i) e.ns (roll-out-Action e.action i)))

items_back : (ts : Ts) (es : List Entry) → AllByRecursion (IsItem ts) es → items ts (map item_value es) ≡ Ok es
items_back ts [] h = refl
items_back ts (e ∷ es) h =
    ap (λ (r : Read Entry). r >>= λ x. (items ts (map item_value es) >>= λ xs. Ok (x ∷ xs))) (item_back ts e h.0)
    ∙ ap (λ (r : Read (List Entry)). r >>= λ xs. Ok (e ∷ xs)) (items_back ts es h.1)

group_back : (ts : Ts) (ns : NsName) (es : List Entry) → ns.coll ≡ [] → AllByRecursion (IsItem ts) es → group_of ts ns.db (Array (map item_value es)) [] ≡ Ok (ns, Group es)
group_back ts ns es c h =
    ap (λ (x : Value-F Value). good (codes "applyOps") (array_in x) >>= λ vs. (items ts vs >>= λ xs. Ok (named ns.db [], Group xs))) (outs-Array (map item_value es))
    ∙ (ap (λ (r : Read (List Entry)). r >>= λ xs. Ok (named ns.db [], Group xs)) (items_back ts es h)
    ∙ (λ i. Ok (named ns.db (sym c i), Group es)))

at_top : (ts : Ts) (ns : NsName) (f : Action-F Action Entry) (tail : Fields) → CanWrite ts ns f → read_at (group_of ts) ts (body_fields (body_at (map item_value) ns f) tail) ≡ ended ts ns (roll-Action f)
at_top ts ns (Action-F.Group es) tail h =
    command_read (group_of ts) ts ns (codes "applyOps") (Array (map item_value es)) [] tail (ns, Group es) h.0.0 (group_back ts ns es h.0.1 h.1) ∙ rolled ts ns _ _ (rolls-Group es)
at_top ts ns Action-F.Nothing tail h = at_level (group_of ts) (map item_value) ts ns Action-F.Nothing tail h
at_top ts ns (Action-F.Put doc) tail h = at_level (group_of ts) (map item_value) ts ns (Action-F.Put doc) tail h
at_top ts ns (Action-F.Remove id) tail h = at_level (group_of ts) (map item_value) ts ns (Action-F.Remove id) tail h
at_top ts ns (Action-F.Whole id doc) tail h = at_level (group_of ts) (map item_value) ts ns (Action-F.Whole id doc) tail h
at_top ts ns (Action-F.Delta id form touches) tail h = at_level (group_of ts) (map item_value) ts ns (Action-F.Delta id form touches) tail h
at_top ts ns (Action-F.Create options) tail h = at_level (group_of ts) (map item_value) ts ns (Action-F.Create options) tail h
at_top ts ns Action-F.DropColl tail h = at_level (group_of ts) (map item_value) ts ns Action-F.DropColl tail h
at_top ts ns Action-F.DropDb tail h = at_level (group_of ts) (map item_value) ts ns Action-F.DropDb tail h
at_top ts ns (Action-F.AddIndexes defs) tail h = at_level (group_of ts) (map item_value) ts ns (Action-F.AddIndexes defs) tail h
at_top ts ns (Action-F.DropIndex name) tail h = at_level (group_of ts) (map item_value) ts ns (Action-F.DropIndex name) tail h
at_top ts ns (Action-F.Rename from to) tail h = at_level (group_of ts) (map item_value) ts ns (Action-F.Rename from to) tail h
at_top ts ns (Action-F.Other name) tail h = absurd h

pub reads_back : WritableReadsBack
reads_back e w =
    ap (λ (x : Value-F Value). good (codes "ts") (stamp_in x) >>= λ ts. read_at (group_of ts) ts (entry_fields e)) (outs-Stamp e.ts)
    ∙ (at_top e.ts e.ns (out-Action e.action) ((codes "wall", wall e.ts.secs) ∷ []) w
    ∙ ap (ended e.ts e.ns) (roll-out-Action e.action))
