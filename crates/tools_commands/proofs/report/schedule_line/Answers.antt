use Rattle.std.proofs.Common.{List, ℕ, ◌++◌, sym, ap, ◌∙◌}
use Rattle.std.specs.Prelude.{codes}
use Rattle.std.specs.Fmt.{decimal}
use Rattle.tools_commands.specs.Lines.{line_kind_text}
use Rattle.tools_commands.proofs.Pieces.{weaken, four}
use Rattle.tools_commands.proofs.report.schedule_line.Goals as goal

pub returns : goal.returns
returns c =
    let begin = codes "bad schedule: line " in
    let number = decimal c.args.line in
    let sp = codes " " in
    let nl = codes "\n" in
    weaken c.format.result _ _ (λ s h.
    h ∙ (ap (λ (k : List ℕ). begin ++ (number ++ (sp ++ (k ++ nl)))) c.line_kind_text-name.ensures ∙ sym (four begin number sp (line_kind_text c.args.kind) nl)))
    c.format.ensures.ok
