use Rattle.std.proofs.Common.{◌≡◌, ap, ◌∙◌, subst, IfOk, ℕ, List, ◌∷◌, [], map}
use Rattle.bson_value.specs.declared.value.Value.{Value, Array}
use Rattle.bson_value.specs.Alike.{ordered}
use Rattle.bson_value.specs.Spelling.{document_text}
use Rattle.index_keys.specs.Texts.{key_text}
use Rattle.index_keys.specs.HeldBranches.{branches_of}
use Rattle.index_keys.proofs.CellValues.{cells_are}
use Rattle.index_keys.proofs.cells.key_of.Goals as goal

pub returns : goal.returns
unfolding key_text
returns c =
    let vs = ap (map ordered) c.in_ok-values.ensures ∙ cells_are (branches_of c.args.branches.now) in
    let e = c.in_ok-bytes_of.ensures ∙ ap (λ (l : List Value). document_text (([], Array l) ∷ [])) vs in
    subst (λ (t : List ℕ). IfOk c.of.result (λ k. k ≡ t)) e c.of.ensures
