-- The lines of a collection behind the first two.
use Rattle.std.specs.Prelude.{ℕ, List, map as each}
use Rattle.std.specs.List.{flat_map}
use Rattle.bson_value.specs.declared.namespace.NsName.{NsName}
use Rattle.bson_value.specs.declared.value.Value.{Value}
use Rattle.json_tree.specs.declared.tree.Tree.{Tree}
use Rattle.coll_state.specs.Definitions.{definition_name}
use Rattle.index_build.specs.Documents.{fields}
use Rattle.index_build.specs.Numbers.{Numbers, number_at}
use Rattle.document_lines.specs.declared.form.ListForm.{ListForm}
use Rattle.document_lines.specs.Lines.{document_line}
use Rattle.state_listing.specs.Listing.{index_line}

-- with the numbers that were counted
abbrev pub index_lines : Numbers → NsName → List Tree → List ℕ
index_lines counts n defs = flat_map (λ d. index_line (number_at counts n (definition_name d)) d) defs

abbrev pub document_lines : ListForm → List Value → List ℕ
document_lines form vs = flat_map (document_line form) (each fields vs)
