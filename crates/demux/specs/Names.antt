-- Where a namespace stands in a list of them, by a map of its databases and then of their collections.
use Rattle.std.specs.Prelude.{ℕ, ◌≡◌, List, Option}
use Rattle.std.specs.Option.{option_and_then}
use Rattle.std.specs.BTreeMap.{BTreeMap, get_by_text}
use Rattle.std.specs.declared.string.String.{String}
use Rattle.std.specs.declared.alloc.Global.{Global}
use Rattle.bson_value.specs.declared.namespace.NsName.{NsName}
use Rattle.archive_format.specs.Shapes.{named}
use Rattle.archive_format.specs.Archive.{Seen, meta_place, seat_of}

abbrev pub Places : Type 0
Places = BTreeMap (String Global) (BTreeMap (String Global) ℕ)

abbrev pub place_in : Places → List ℕ → List ℕ → Option ℕ
place_in m db coll = option_and_then (λ n. get_by_text n coll) (get_by_text m db)

-- each name is found where it first stands
abbrev pub FindsMetas : Places → List NsName → Type 0
FindsMetas m names = (db coll : List ℕ) → place_in m db coll ≡ meta_place (named db coll) names

abbrev pub FindsSeen : Places → List Seen → Type 0
FindsSeen m entries = (db coll : List ℕ) → place_in m db coll ≡ seat_of (named db coll) entries
