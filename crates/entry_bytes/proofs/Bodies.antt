-- What is spelled of a good entry is well-formed and small.
use Rattle.std.proofs.Common.{◌≡◌, ℕ, suc, ◌+◌, ◌≤◌, max, Bool, true, false, List, [], ◌∷◌, length, map, refl, sym, ap, ◌∙◌, subst, arith, Some, None}
use Rattle.std.specs.Prelude.{codes, pos, if◌then◌else◌}
use Rattle.std.specs.Str.{is_utf8, bytes_eq}
use Rattle.std.proofs.lemmas.List.{length-append}
use Rattle.containers.specs.Entries.{lookup, IsAbsent, names_of}
use Rattle.bson_value.specs.declared.namespace.NsName.{NsName}
use Rattle.bson_value.specs.declared.value.Value.{Value, Value-F, Object, Str, Int, Array, fold-roll-Value}
use Rattle.bson_value.specs.declared.value.Value.TheVariants.{outs-Str, rolls-Int}
use Rattle.bson_value.specs.declared.value.Ts.{Ts}
use Rattle.bson_value.specs.Namespace.{dot}
use Rattle.bson_value.specs.Levels.{largest, levels_in, levels_of, levels_step}
use Rattle.bson_value.specs.Spelling.{Typed, spelling_step, spelled, elements_of, document_text}
use Rattle.bson_value.specs.WellFormed.{IsName, IsWellFormed, IsWellFormedLevel, AreWellFormedItems, IsWellFormedDocument}
use Rattle.bson_value.proofs.WellFormed.{here_formed, formed_str, formed_int, formed_array, formed_object}
use Rattle.bson_value.proofs.Sizes.{document_length, spelled-object, levels-object, spelled-str, levels-str, levels-array}
use Rattle.doc_path.specs.Played.{id_name}
use Rattle.json_tree.specs.declared.tree.Tree.{Tree}
use Rattle.extjson.specs.Values.{value_of}
use Rattle.json_text.specs.Print.{text_of as printed}
use Rattle.tree_sizes.proofs.Short.{values_short}
use Rattle.entry_model.specs.declared.entry.Entry.{Entry}
use Rattle.entry_model.specs.declared.entry.Action.{Action, out-Action}
use Rattle.entry_model.specs.declared.entry.Action.TheOpen.{Action-F}
use Rattle.entry_model.specs.declared.entry.Action.TheVariants as actions
use Rattle.entry_model.specs.Written.{Fields}
use Rattle.entry_model.specs.Spelling.{Body, level_limit, namespace_text, text_of, id_alone, document_body, update_body, command_body, body_at, item_value}
use Rattle.entry_model.specs.Touches.{written}
use Rattle.update_records.proofs.Changed.{field_formed}
use Rattle.entry_documents.specs.Laws.{item_fields, IsBody, size_in, part_sizes}
use Rattle.entry_documents.specs.Laws as laws
use Rattle.entry_documents.proofs.Documents.{a_text, a_name, differ, items_are}
use Rattle.entry_documents.proofs.Sizes.{elements_size, item_levels}
use Rattle.history_model.specs.Documents.{options_of}
use Rattle.history_model.specs.Entries.{Item, Put, Remove, Whole, Delta, Create, DropColl, DropDb, AddIndex, DropIndex, fields_read, database, item_entry}
use Rattle.coll_state.specs.Definitions.{definition_name}
use Rattle.recorded_entries.specs.Good.{IsGoodName, IsGoodId, IsGoodDefinition, IsGoodIndex, IsGoodItem, AreGoodItems}
use Rattle.recorded_entries.proofs.Names.{AreSmall, small_append, IsDatabaseName, good_db, good_coll, db_of}
use Rattle.recorded_entries.proofs.Written.{none_absent, definition_fields}

-- well-formed, with so many bytes and levels at most
pub record IsSmallBody (b : Body) : Type 0 where
  pub formed : IsBody b
  pub bytes : part_sizes b ≤ 16785000
  pub levels : max (laws.levels_in b.o2) (levels_of b.o) ≤ 103

int_size : (z : _) → length (spelled (Int z)) ≡ 4
int_size z = ap (λ (v : Value). length (spelled v)) (sym (rolls-Int z)) ∙ ap (λ (p : Typed). length p.1) (fold-roll-Value Typed spelling_step (Value-F.Int z))

int_level : (z : _) → levels_in (Int z) ≡ 0
unfolding levels_in
int_level z = ap levels_in (sym (rolls-Int z)) ∙ fold-roll-Value ℕ levels_step (Value-F.Int z)

-- ---- names of namespaces

namespace_utf8 : (db coll : List ℕ) → AreSmall db → AreSmall coll → is_utf8 (namespace_text db coll) ≡ true
namespace_utf8 db coll a b = a_text (namespace_text db coll) (small_append db (dot ∷ coll) a b)

namespace_size : (db coll : List ℕ) → length (namespace_text db coll) ≡ length db + 1 + length coll
namespace_size db coll = omega (arith, length-append db (dot ∷ coll))

name_utf8 : (n : NsName) → IsGoodName n → is_utf8 (text_of n) ≡ true
name_utf8 n g = namespace_utf8 n.db n.coll (good_db n g).letters (good_coll n g).letters

pub name_size : (n : NsName) → IsGoodName n → length (text_of n) ≤ 184
name_size n g = let d = (good_db n g).short in let c = (good_coll n g).short in omega (arith, namespace_size n.db n.coll, d, c)

command_utf8 : (db : List ℕ) → IsDatabaseName db → is_utf8 (namespace_text db (codes "$cmd")) ≡ true
command_utf8 db d = namespace_utf8 db (codes "$cmd") d.letters refl

command_size : (db : List ℕ) → IsDatabaseName db → length (namespace_text db (codes "$cmd")) ≤ 68
command_size db d = let s = d.short in omega (arith, namespace_size db (codes "$cmd"), s)

coll_utf8 : (n : NsName) → IsGoodName n → is_utf8 n.coll ≡ true
coll_utf8 n g = a_text n.coll (good_coll n g).letters

-- ---- documents

id_formed : (id : Value) → IsGoodId id → IsWellFormedDocument (id_alone id)
id_formed id g = (((tt, tt), (a_name _ refl refl, tt)), (g.formed, tt))

id_size : (id : Value) → IsGoodId id → length (document_text (id_alone id)) ≤ 1034
id_size id g = let s = g.short in omega (arith, document_length (id_alone id), elements_size id_name id [], s)

id_levels : (id : Value) → IsGoodId id → levels_of (id_alone id) ≤ 100
id_levels id g = let s = g.shallow in omega (arith, s)

ahead_formed : (k : List ℕ) (v : Value) (fs : Fields) → IsName k → IsAbsent k (names_of fs) → IsWellFormed v → IsWellFormedDocument fs → IsWellFormedDocument ((k, v) ∷ fs)
ahead_formed k v fs n a w h = (((a, h.0.0), (n, h.0.1)), (w, h.1))

ahead_size : (k : List ℕ) (v : Value) (fs : Fields) → length (document_text ((k, v) ∷ fs)) ≡ length k + 2 + length (spelled v) + length (document_text fs)
ahead_size k v fs = omega (arith, document_length ((k, v) ∷ fs), document_length fs, elements_size k v fs)

ahead_levels : (k : List ℕ) (v : Value) (fs : Fields) → levels_of ((k, v) ∷ fs) ≡ max (suc (levels_in v)) (levels_of fs)
ahead_levels k v fs = omega arith

empty_formed : IsWellFormedDocument []
empty_formed = ((tt, tt), tt)

-- what prints to little has few bytes
options_size : (o : Fields) → length (printed (options_of o)) ≤ 8192 → length (document_text o) ≤ 65536
unfolding options_of
options_size o l = omega (arith, values_short (Object o) l, spelled-object o, l)

lookup_size : (k : List ℕ) (fs : Fields) (v : Value) → lookup k fs ≡ Some v → length (spelled v) ≤ length (elements_of fs)
lookup_size k [] v e = cc
lookup_size k (f ∷ fs) v e = by (bytes_eq f.0 k) e (lookup_size k fs v)
  where
    by : (b : Bool) → (if b then Some f.1 else lookup k fs) ≡ Some v → (lookup k fs ≡ Some v → length (spelled v) ≤ length (elements_of fs)) → length (spelled v) ≤ length (elements_of (f ∷ fs))
    by true g ih = (let q : f.1 ≡ v = cc in let l : length (spelled f.1) ≡ length (spelled v) = ap (λ (x : Value). length (spelled x)) q in omega (arith, l, elements_size f.0 f.1 fs))
    by false g ih = omega (arith, ih g, elements_size f.0 f.1 fs)

definition_size : (d : Tree) (g : IsGoodDefinition d) → length (document_text g.fields) ≤ 65536
definition_size d g = options_size g.fields (subst (λ (t : Tree). length (printed t) ≤ 8192) g.tree g.short)

str_utf8 : (t : List ℕ) → IsWellFormed (Str t) → is_utf8 t ≡ true
str_utf8 t w = subst IsWellFormedLevel (outs-Str t) (here_formed (Str t) w)

pub index_utf8 : (i : List ℕ) → IsGoodIndex i → is_utf8 i ≡ true
index_utf8 i g = subst (λ (t : List ℕ). is_utf8 t ≡ true) g.2 (str_utf8 (definition_name g.0) (field_formed g.1.fields (codes "name") (Str (definition_name g.0)) g.1.formed.1 g.1.name))

pub index_size : (i : List ℕ) → IsGoodIndex i → length i ≤ 65536
index_size i g =
    let s = lookup_size (codes "name") g.1.fields (Str (definition_name g.0)) g.1.name in
    let l : length (definition_name g.0) ≡ length i = ap length g.2 in
    omega (arith, s, l, spelled-str (definition_name g.0), definition_size g.0 g.1, document_length g.1.fields)

-- ---- an item

document_small : (op : List ℕ) (n : NsName) (d : Fields) → is_utf8 op ≡ true → length op ≤ 8 → IsGoodName n → IsWellFormedDocument d → length (document_text d) ≤ 16777216 → levels_of d ≤ 103 → IsSmallBody (document_body op n d)
document_small op n d u s g w b l = record {
  formed = record { op = u; ns = name_utf8 n g; o2 = tt; o = w };
  bytes = omega (arith, name_size n g, b, s);
  levels = omega (arith, l);
}

update_small : (n : NsName) (id : Value) (o : Fields) → IsGoodName n → IsGoodId id → IsWellFormedDocument o → length (document_text o) ≤ 16777216 → levels_of o ≤ 103 → IsSmallBody (update_body n id o)
update_small n id o g i w b l = record {
  formed = record { op = a_text _ refl; ns = name_utf8 n g; o2 = id_formed id i; o = w };
  bytes = omega (arith, name_size n g, b, id_size id i);
  levels = omega (arith, l, id_levels id i);
}

-- a command whose further fields have few bytes and levels
command_small : (n : NsName) (k : List ℕ) (v : Value) (fs : Fields) → IsDatabaseName n.db → IsName k → length k ≤ 32 → IsAbsent k (names_of fs) → IsWellFormed v → length (spelled v) ≤ 400 → levels_in v ≤ 0 → IsWellFormedDocument fs → length (document_text fs) ≤ 66000 → levels_of fs ≤ 100 →
    IsSmallBody (command_body n k v fs)
command_small n k v fs d m s a w b z h c l = record {
  formed = record { op = a_text _ refl; ns = command_utf8 n.db d; o2 = tt; o = ahead_formed k v fs m a w h };
  bytes = omega (arith, command_size n.db d, ahead_size k v fs, b, c, s);
  levels = omega (arith, ahead_levels k v fs, z, l);
}

coll_size : (n : NsName) → IsGoodName n → length (spelled (Str n.coll)) ≤ 400
coll_size n g = let c = (good_coll n g).short in omega (arith, spelled-str n.coll, c)

-- a command on a collection
coll_small : (n : NsName) (k : List ℕ) (fs : Fields) → IsGoodName n → IsName k → length k ≤ 32 → IsAbsent k (names_of fs) → IsWellFormedDocument fs → length (document_text fs) ≤ 66000 → levels_of fs ≤ 100 → IsSmallBody (command_body n k (Str n.coll) fs)
coll_small n k fs g m s a h c l = command_small n k (Str n.coll) fs (good_db n g) m s a (formed_str n.coll (coll_utf8 n g)) (coll_size n g) (omega (arith, levels-str n.coll)) h c l

one_small : (k t : List ℕ) → IsName k → length k ≤ 32 → is_utf8 t ≡ true → length t ≤ 65900 → IsWellFormedDocument ((k, Str t) ∷ []) × (length (document_text ((k, Str t) ∷ [])) ≤ 66000) × (levels_of ((k, Str t) ∷ []) ≤ 100)
one_small k t n s u l =
    (ahead_formed k (Str t) [] n tt (formed_str t u) empty_formed, omega (arith, ahead_size k (Str t) [], document_length [], spelled-str t, s, l), omega (arith, levels-str t))

module _ (items : List Entry → List Value) where
  pub item_small : (ts : Ts) (i : Item) → IsGoodItem i → IsSmallBody (body_at items (item_entry ts i).ns (out-Action (item_entry ts i).action))
  item_small ts (Put n id d) g = subst (λ (f : Action-F Action Entry). IsSmallBody (body_at items n f)) (sym (actions.outs-Put d)) (let x = g.1 in document_small (codes "i") n d (a_text _ refl) (omega arith) g.0 x.formed x.short (omega (arith, x.shallow)))
  item_small ts (Remove n id) g = subst (λ (f : Action-F Action Entry). IsSmallBody (body_at items n f)) (sym (actions.outs-Remove id)) (document_small (codes "d") n (id_alone id) (a_text _ refl) (omega arith) g.0 (id_formed id g.1) (omega (arith, id_size id g.1)) (omega (arith, id_levels id g.1)))
  item_small ts (Whole n id d) g = subst (λ (f : Action-F Action Entry). IsSmallBody (body_at items n f)) (sym (actions.outs-Whole id d)) (let x = g.1 in update_small n id d g.0 x.own x.formed x.short (omega (arith, x.shallow)))
  item_small ts (Delta n id f us) g = subst (λ (x : Action-F Action Entry). IsSmallBody (body_at items n x)) (sym (actions.outs-Delta id f us)) (let x = g.2 in update_small n id (written f level_limit us) g.0 g.1 x.formed x.short (omega (arith, x.shallow)))
  item_small ts (Create n o) g =
      subst (λ (f : Action-F Action Entry). IsSmallBody (body_at items n f)) (sym (actions.outs-Create o))
      (let x = g.1 in coll_small n (codes "create") o g.0 (a_name _ refl refl) (omega arith) (none_absent (codes "create") o x.no_create) x.formed (omega (arith, options_size o x.short)) x.shallow)
  item_small ts (DropColl n) g = subst (λ (f : Action-F Action Entry). IsSmallBody (body_at items n f)) (sym actions.outs-DropColl) (coll_small n (codes "drop") [] g (a_name _ refl refl) (omega arith) tt empty_formed (omega (arith, document_length [])) (omega arith))
  item_small ts (DropDb db) g =
      subst (λ (f : Action-F Action Entry). IsSmallBody (body_at items (database db) f)) (sym actions.outs-DropDb)
      (command_small (database db) (codes "dropDatabase") (Int (pos 1)) [] (db_of db g) (a_name _ refl refl) (omega arith) tt (formed_int (pos 1) (omega arith)) (omega (arith, int_size (pos 1))) (omega (arith, int_level (pos 1))) empty_formed (omega (arith, document_length [])) (omega arith))
  item_small ts (AddIndex n d) g =
      subst (λ (f : Action-F Action Entry). IsSmallBody (body_at items n f)) (sym (actions.outs-AddIndexes (fields_read (value_of d) ∷ [])))
      (subst (λ (fs : Fields). IsSmallBody (command_body n (codes "createIndexes") (Str n.coll) fs)) (sym (definition_fields d g.1))
      (let x = g.1 in coll_small n (codes "createIndexes") x.fields g.0 (a_name _ refl refl) (omega arith) (none_absent (codes "createIndexes") x.fields x.no_create) x.formed (omega (arith, definition_size d x)) x.shallow))
  item_small ts (DropIndex n i) g =
      subst (λ (f : Action-F Action Entry). IsSmallBody (body_at items n f)) (sym (actions.outs-DropIndex i))
      (let x = one_small (codes "index") i (a_name _ refl refl) (omega arith) (index_utf8 i g.1) (omega (arith, index_size i g.1)) in
      coll_small n (codes "dropIndexes") ((codes "index", Str i) ∷ []) g.0 (a_name _ refl refl) (omega arith) (differ _ _ refl, tt) x.0 x.1 x.2)

-- ---- items of a group

item_formed : (ts : Ts) (i : Item) → IsGoodItem i → IsWellFormed (item_value (item_entry ts i))
item_formed ts i g =
    let b = body_at (λ es. []) (item_entry ts i).ns (out-Action (item_entry ts i).action) in
    formed_object (item_fields b) (items_are b (item_small (λ es. []) ts i g).formed)

item_low : (ts : Ts) (i : Item) → IsGoodItem i → levels_in (item_value (item_entry ts i)) ≤ 104
item_low ts i g =
    let b = body_at (λ es. []) (item_entry ts i).ns (out-Action (item_entry ts i).action) in
    let l = (item_small (λ es. []) ts i g).levels in
    omega (arith, levels-object (item_fields b), item_levels b, l)

items_formed : (ts : Ts) (is : List Item) → AreGoodItems is → AreWellFormedItems (map item_value (map (item_entry ts) is))
items_formed ts [] g = tt
items_formed ts (i ∷ is) g = (item_formed ts i g.0, items_formed ts is g.1)

items_low : (ts : Ts) (is : List Item) → AreGoodItems is → largest (map levels_in (map item_value (map (item_entry ts) is))) ≤ 104
items_low ts [] g = omega arith
items_low ts (i ∷ is) g = omega (arith, item_low ts i g.0, items_low ts is g.1)

-- what is spelled of a group, but for its bytes
pub group_body : (ts : Ts) (is : List Item) → AreGoodItems is → IsBody (command_body (database (codes "admin")) (codes "applyOps") (Array (map item_value (map (item_entry ts) is))) [])
group_body ts is g = record {
  op = a_text _ refl;
  ns = a_text _ refl;
  o2 = tt;
  o = ahead_formed (codes "applyOps") (Array (map item_value (map (item_entry ts) is))) [] (a_name _ refl refl) tt (formed_array (map item_value (map (item_entry ts) is)) (items_formed ts is g)) empty_formed;
}

pub group_levels : (ts : Ts) (is : List Item) → AreGoodItems is → levels_of ((codes "applyOps", Array (map item_value (map (item_entry ts) is))) ∷ []) ≤ 106
group_levels ts is g = omega (arith, levels-array (map item_value (map (item_entry ts) is)), items_low ts is g)

pub rename_small : (a b : NsName) → IsGoodName a → IsGoodName b → IsSmallBody (command_body a (codes "renameCollection") (Str (text_of a)) ((codes "to", Str (text_of b)) ∷ []))
rename_small a b g h =
    let x = one_small (codes "to") (text_of b) (a_name _ refl refl) (omega arith) (name_utf8 b h) (omega (arith, name_size b h)) in
    command_small a (codes "renameCollection") (Str (text_of a)) ((codes "to", Str (text_of b)) ∷ []) (good_db a g) (a_name _ refl refl) (omega arith) (differ _ _ refl, tt) (formed_str (text_of a) (name_utf8 a g))
    (omega (arith, spelled-str (text_of a), name_size a g)) (omega (arith, levels-str (text_of a))) x.0 x.1 x.2

-- what stands first in an oplog
pub nothing_small : IsSmallBody (record { op = codes "n"; ns = []; o2 = None; o = (codes "msg", Str (codes "initiating set")) ∷ [] })
nothing_small =
    let x = one_small (codes "msg") (codes "initiating set") (a_name _ refl refl) (omega arith) (a_text _ refl) (omega arith) in
    record { formed = record { op = a_text _ refl; ns = a_text _ refl; o2 = tt; o = x.0 }; bytes = omega (arith, x.1); levels = omega (arith, x.2) }
