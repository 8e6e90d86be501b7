use Rattle.std.proofs.Common.{List, ℕ, ◌++◌, sym, ap, ◌∙◌}
use Rattle.std.specs.Prelude.{string_bytes, codes}
use Rattle.tools_commands.specs.Lines.{index_text, id_text}
use Rattle.tools_commands.proofs.Pieces.{weaken, four}
use Rattle.tools_commands.proofs.report.parallel_line.Goals as goal

pub returns : goal.returns
returns c =
    let begin = codes "parallel arrays: " in
    let sp = codes " " in
    let nl = codes "\n" in
    let place = index_text c.args.ns.now c.args.index.now in
    weaken c.format.result _ _ (λ s h.
    h ∙ (ap (λ (p : List ℕ). begin ++ (p ++ (sp ++ (string_bytes c.in_ok-id.id ++ nl)))) c.in_ok-place.ensures
    ∙ (ap (λ (t : List ℕ). begin ++ (place ++ (sp ++ (t ++ nl)))) c.in_ok-id.ensures ∙ sym (four begin place sp (id_text c.args.id.now) nl))))
    c.format.ensures.ok
