-- The bytes of good entries are decoded again.
use Rattle.std.proofs.Common.{◌≡◌, ◌+◌, ◌≤◌, max, List, [], ◌∷◌, length, map, refl, sym, ap, ◌∙◌, subst, arith}
use Rattle.std.specs.Prelude.{codes, Ok}
use Rattle.bson_value.specs.declared.value.Value.{Value, Array}
use Rattle.bson_value.specs.declared.value.Ts.{Ts}
use Rattle.bson_value.specs.Levels.{levels_of}
use Rattle.bson_value.specs.Spelling.{document_text}
use Rattle.bson_value.specs.WellFormed.{IsWellFormedDocument}
use Rattle.bson_check.proofs.Whole.{spelled_is_read}
use Rattle.bson_encode.proofs.Grammar.{spelling_spells}
use Rattle.archive_format.specs.Archive.{fields_of}
use Rattle.entry_model.specs.declared.entry.Entry.{Entry}
use Rattle.entry_model.specs.declared.entry.Action.{Action}
use Rattle.entry_model.specs.declared.entry.Action.TheOpen.{Action-F}
use Rattle.entry_model.specs.declared.entry.Action.TheVariants as actions
use Rattle.entry_model.specs.Written.{Fields}
use Rattle.entry_model.specs.Spelling.{Body, command_body, body_at, item_value, body_of, entry_fields}
use Rattle.entry_documents.specs.Laws.{fields_at, FitsStamp, IsBody, part_sizes}
use Rattle.entry_documents.specs.Laws as laws
use Rattle.entry_documents.proofs.Documents.{entries_are}
use Rattle.entry_documents.proofs.Sizes.{entry_sizes, entry_levels}
use Rattle.history_model.specs.Entries.{Item, Put, Remove, Whole, Delta, Create, DropColl, DropDb, AddIndex, DropIndex, Content, Nothing, One, Rename, Group, database, item_entry, entry_at, entry_bytes, size_of, no_ts, content_size}
use Rattle.recorded_entries.specs.Good.{IsGoodItem, AreGoodItems, IsGood}
use Rattle.recorded_entries.proofs.Written.{item_ts}
use Rattle.entry_bytes.specs.Laws.{EntriesAreRead, DocumentsAreRead}
use Rattle.entry_bytes.proofs.Bodies.{IsSmallBody, item_small, group_body, group_levels, rename_small, nothing_small}

is_read : (fs : Fields) → IsWellFormedDocument fs → length (document_text fs) ≤ 16793600 → levels_of fs ≤ 200 → fields_of (document_text fs) ≡ Ok fs
unfolding fields_of
is_read fs k l d = spelled_is_read 16793600 200 (document_text fs) fs (record { spells = spelling_spells fs k (omega (arith, l)); short = l; shallow = d })

pub documents_are_read : DocumentsAreRead
documents_are_read id d g = is_read d g.formed (let s = g.short in omega (arith, s)) (let s = g.shallow in omega (arith, s))

-- by its body
body_read : (ts : Ts) (b : Body) → FitsStamp ts → IsBody b → part_sizes b + 74 ≤ 16793600 → max (laws.levels_in b.o2) (levels_of b.o) ≤ 199 → fields_of (document_text (fields_at ts b)) ≡ Ok (fields_at ts b)
body_read ts b f h s l = is_read (fields_at ts b) (entries_are ts b f h) (omega (arith, entry_sizes ts b, s)) (omega (arith, entry_levels ts b, l))

small_read : (ts : Ts) (b : Body) → FitsStamp ts → IsSmallBody b → fields_of (document_text (fields_at ts b)) ≡ Ok (fields_at ts b)
small_read ts b f h = body_read ts b f h.formed (let s = h.bytes in omega (arith, s)) (let s = h.levels in omega (arith, s))

-- what is spelled of an item doesn't depend on its timestamp
same_item : (ts us : Ts) (i : Item) → item_value (item_entry ts i) ≡ item_value (item_entry us i)
same_item ts us (Put n id d) = refl
same_item ts us (Remove n id) = refl
same_item ts us (Whole n id d) = refl
same_item ts us (Delta n id f vs) = refl
same_item ts us (Create n o) = refl
same_item ts us (DropColl n) = refl
same_item ts us (DropDb db) = refl
same_item ts us (AddIndex n d) = refl
same_item ts us (DropIndex n i) = refl

same_items : (ts us : Ts) (is : List Item) → map item_value (map (item_entry ts) is) ≡ map item_value (map (item_entry us) is)
same_items ts us [] = refl
same_items ts us (i ∷ is) = let a = same_item ts us i in let b = same_items ts us is in λ j. a j ∷ b j

abbrev group_of : List Value → Body
group_of vs = command_body (database (codes "admin")) (codes "applyOps") (Array vs) []

group_is : (ts : Ts) (is : List Item) → body_of (entry_at ts (Group is)) ≡ group_of (map item_value (map (item_entry ts) is))
group_is ts is = ap (body_at (map item_value) (database (codes "admin"))) (actions.outs-Group (map (item_entry ts) is))

group_size : (is : List Item) → content_size (Group is) ≡ part_sizes (group_of (map item_value (map (item_entry no_ts) is))) + 74
unfolding size_of entry_bytes
group_size is = entry_sizes no_ts (body_of (entry_at no_ts (Group is))) ∙ ap (λ (b : Body). part_sizes b + 74) (group_is no_ts is)

group_read : (ts : Ts) (is : List Item) → FitsStamp ts → AreGoodItems is → content_size (Group is) ≤ 16793600 → fields_of (document_text (fields_at ts (body_of (entry_at ts (Group is))))) ≡ Ok (fields_at ts (body_of (entry_at ts (Group is))))
group_read ts is f g s =
    subst (λ (b : Body). fields_of (document_text (fields_at ts b)) ≡ Ok (fields_at ts b)) (sym (group_is ts is))
    (body_read ts (group_of (map item_value (map (item_entry ts) is))) f (group_body ts is g)
    (subst (λ (vs : List Value). part_sizes (group_of vs) + 74 ≤ 16793600) (same_items no_ts ts is) (omega (arith, group_size is, s)))
    (omega (arith, group_levels ts is g)))

item_read : (ts : Ts) (i : Item) → FitsStamp ts → IsGoodItem i → fields_of (document_text (entry_fields (item_entry ts i))) ≡ Ok (entry_fields (item_entry ts i))
item_read ts i f g = small_read (item_entry ts i).ts (body_of (item_entry ts i)) (subst FitsStamp (sym (item_ts ts i)) f) (item_small (map item_value) ts i g)

pub entries_are_read : EntriesAreRead
unfolding entry_bytes
entries_are_read ts Nothing f g =
    small_read ts (body_of (entry_at ts Nothing)) f (subst (λ (x : Action-F Action Entry). IsSmallBody (body_at (map item_value) (database []) x)) (sym actions.outs-Nothing) nothing_small)
entries_are_read ts (One i) f g = item_read ts i f g
entries_are_read ts (Rename a b) f g =
    small_read ts (body_of (entry_at ts (Rename a b))) f (subst (λ (x : Action-F Action Entry). IsSmallBody (body_at (map item_value) a x)) (sym (actions.outs-Rename a b)) (rename_small a b g.0 g.1))
entries_are_read ts (Group is) f g = group_read ts is f g.0 g.1

-- ---- no entry has more bytes than a document of an archive may have

body_short : (ts : Ts) (b : Body) → IsSmallBody b → length (document_text (fields_at ts b)) ≤ 16793600
body_short ts b h = let s = h.bytes in omega (arith, entry_sizes ts b, s)

pub entry_short : (ts : Ts) (c : Content) → IsGood c → length (document_text (entry_fields (entry_at ts c))) ≤ 16793600
entry_short ts Nothing g =
    body_short ts (body_of (entry_at ts Nothing)) (subst (λ (x : Action-F Action Entry). IsSmallBody (body_at (map item_value) (database []) x)) (sym actions.outs-Nothing) nothing_small)
entry_short ts (One i) g = body_short (item_entry ts i).ts (body_of (item_entry ts i)) (item_small (map item_value) ts i g)
entry_short ts (Rename a b) g =
    body_short ts (body_of (entry_at ts (Rename a b))) (subst (λ (x : Action-F Action Entry). IsSmallBody (body_at (map item_value) a x)) (sym (actions.outs-Rename a b)) (rename_small a b g.0 g.1))
entry_short ts (Group is) g =
    let b : part_sizes (body_of (entry_at ts (Group is))) ≡ part_sizes (group_of (map item_value (map (item_entry no_ts) is))) = ap part_sizes (group_is ts is) ∙ ap (λ (vs : List Value). part_sizes (group_of vs)) (same_items ts no_ts is) in
    omega (arith, entry_sizes ts (body_of (entry_at ts (Group is))), b, group_size is, g.1)
