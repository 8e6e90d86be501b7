-- What is read of a document that says which entry it is.
use Rattle.std.specs.Prelude.{◌≡◌, codes, option_map}
use Rattle.std.specs.Result.{result_ok}
use Rattle.containers.specs.Entries.{lookup}
use Rattle.bson_view.specs.Views.{elem_value}
use Rattle.entry_model.specs.Written.{Fields}
use Rattle.entry_model.specs.Reading.{head_of}
use Rattle.entry_reader.specs.Parts.{text_at}
use Rattle.entry_reader.specs.declared.entry.EntryView.{EntryView}

pub record AreFieldsOf (e : EntryView) (fs : Fields) : Type 0 where
  pub head : option_map (λ h. (h.0, h.1.now)) e.head ≡ result_ok (head_of fs)
  pub op : option_map (λ t. t.now) e.op ≡ text_at (lookup (codes "op") fs)
  pub o : option_map elem_value e.o ≡ lookup (codes "o") fs
  pub o2 : option_map elem_value e.o2 ≡ lookup (codes "o2") fs
