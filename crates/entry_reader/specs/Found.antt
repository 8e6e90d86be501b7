-- The elements that say which entry a document is.
use Rattle.std.specs.Prelude.{◌≡◌, ℕ, List, codes, if◌then◌else◌, Option, Some, None, option_map}
use Rattle.std.specs.Option.{option_or}
use Rattle.std.specs.Str.{bytes_eq}
use Rattle.containers.specs.Entries.{lookup}
use Rattle.bson_view.specs.declared.elem.Elem.{Elem}
use Rattle.bson_view.specs.Views.{elem_value}
use Rattle.entry_model.specs.Written.{Fields}
use Rattle.entry_reader.specs.declared.found.Found.{Found}

-- they are those of these fields
pub record AreFound (f : Found) (fs : Fields) : Type 0 where
  pub ts : option_map elem_value f.ts ≡ lookup (codes "ts") fs
  pub ns : option_map elem_value f.ns ≡ lookup (codes "ns") fs
  pub op : option_map elem_value f.op ≡ lookup (codes "op") fs
  pub o : option_map elem_value f.o ≡ lookup (codes "o") fs
  pub o2 : option_map elem_value f.o2 ≡ lookup (codes "o2") fs

pub record IsNothing (f : Found) : Type 0 where
  pub ts : f.ts ≡ None
  pub ns : f.ns ≡ None
  pub op : f.op ≡ None
  pub o : f.o ≡ None
  pub o2 : f.o2 ≡ None

-- the first element of a name, after one more
abbrev pub first_after : List ℕ → Elem → Option Elem → Option Elem
first_after k e first = if bytes_eq e.name.now k then option_or first (Some e) else first

-- what is found after one more element
pub record IsAdded (e : Elem) (old new : Found) : Type 0 where
  pub ts : new.ts ≡ first_after (codes "ts") e old.ts
  pub ns : new.ns ≡ first_after (codes "ns") e old.ns
  pub op : new.op ≡ first_after (codes "op") e old.op
  pub o : new.o ≡ first_after (codes "o") e old.o
  pub o2 : new.o2 ≡ first_after (codes "o2") e old.o2
