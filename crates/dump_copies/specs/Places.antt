-- The copies of collections in the order of their names, as the code has them.
use Rattle.std.specs.Prelude.{⊤, ◌≡◌, ◌<◌, ℕ, suc, List, [], ◌∷◌, length, map as each, Option, Some, None, option_map, if◌then◌else◌}
use Rattle.std.specs.FinMap as map
use Rattle.std.specs.declared.cmp.Ordering.{Ordering}
use Rattle.bson_value.specs.declared.namespace.NsName.{NsName}
use Rattle.bson_value.specs.NamespaceOrder.{namespace_cmp}
use Rattle.archive_format.specs.Written.{Writing, HeadFits}
use Rattle.archive_format.specs.Written as written
use Rattle.sorted_list.specs.Order.{IsFound, found}
use Rattle.coll_state.specs.Rows.{Table}
use Rattle.coll_state.specs.Stock.{Rise, beside}
use Rattle.copy_model.specs.Cursors.{Cursor}
use Rattle.copy_model.specs.Copies.{begun}
use Rattle.dump_copies.specs.Steps.{Copying}
use Rattle.dump_copies.specs.declared.copies.CollectionCopy.{CollectionCopy}

abbrev pub name_of : CollectionCopy → NsName
name_of c = c.cursor.ns

-- how many cursors read on
abbrev pub open_count : List CollectionCopy → ℕ
open_count [] = 0
open_count (c ∷ cs) = if c.cursor.cursor.ended then open_count cs else suc (open_count cs)

abbrev pub cursor_in : CollectionCopy → NsName × Cursor
cursor_in c = (name_of c, c.cursor.cursor)

abbrev pub writer_in : CollectionCopy → NsName × Writing
writer_in c = (name_of c, c.writer)

abbrev pub copies_in : List CollectionCopy → Copying
copies_in cs = record { cursors = map.from_entries (each cursor_in cs); writers = map.from_entries (each writer_in cs) }

-- names rise, and so many cursors are open
pub record AreCopies (cs : List CollectionCopy) (count : ℕ) : Type 0 where
  pub rise : Rise namespace_cmp name_of cs
  pub counted : count ≡ open_count cs

abbrev pub at_name : NsName → CollectionCopy → Ordering
at_name n = beside namespace_cmp name_of n

-- where the copy of a name is
abbrev pub IsPlaceOf : List CollectionCopy → NsName → Option ℕ → Type 0
IsPlaceOf cs n None = found (at_name n) cs ≡ None
IsPlaceOf cs n (Some at) = (at < length cs) × IsFound (at_name n) cs at

-- a database has a name, and a header has room for the names
abbrev pub IsWritable : NsName → Type 0
IsWritable n = HeadFits n × (n.db ≡ [] → ⊥)

abbrev pub AreWritable : List CollectionCopy → Type 0
AreWritable [] = ⊤
AreWritable (c ∷ cs) = IsWritable (name_of c) × AreWritable cs

-- the first copy of a collection that is there
abbrev pub FirstCopy : NsName → Option Table → CollectionCopy → Type 0
FirstCopy n t c = (name_of c ≡ n) × (Some c.cursor.cursor ≡ option_map begun t) × (c.writer ≡ written.begun n)
