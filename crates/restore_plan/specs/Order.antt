-- Behind the end of a namespace an archive has nothing more of it.
use Rattle.std.specs.Prelude.{⊤, ◌≡◌, List, [], ◌∷◌, false}
use Rattle.bson_value.specs.declared.namespace.NsName.{NsName}
use Rattle.archive_format.specs.Archive.{Taking, meta, doc, end, same_ns}
use Rattle.restore_plan.specs.Base.{ns_of}

-- no taking is of this namespace
abbrev pub Lacks : NsName → List Taking → Type 0
Lacks n [] = ⊤
Lacks n (t ∷ ts) = (same_ns (ns_of t) n ≡ false) × Lacks n ts

abbrev pub Is_last : Taking → List Taking → Type 0
Is_last (meta n text) later = ⊤
Is_last (doc n b) later = ⊤
Is_last (end n) later = Lacks n later

-- each end is the last taking of its namespace
abbrev pub EndsAreLast : List Taking → Type 0
EndsAreLast [] = ⊤
EndsAreLast (t ∷ ts) = Is_last t ts × EndsAreLast ts
