use Rattle.std.proofs.Common.{◌≡◌, sym, subst}
use Rattle.std.specs.Prelude.{IfOk, string_bytes}
use Rattle.restore_plan.specs.declared.fault.RestoreFault.{RestoreFault}
use Rattle.tools_commands.specs.Lines.{no_id_text, metadata_text, restore_line}
use Rattle.tools_commands.proofs.report.restore_line.Goals as goal

pub returns-in-Metadata : goal.returns-in-Metadata
returns-in-Metadata c =
    let P : RestoreFault → Type 0 = λ f. IfOk c.archive_line.result (λ s. string_bytes s ≡ restore_line f) in
    subst P (sym c.in-Metadata.is) (c.archive_line.ensures (metadata_text c.in-Metadata.ns c.in-Metadata.at) c.metadata_text.ensures)

pub returns-in-NoId : goal.returns-in-NoId
returns-in-NoId c =
    let P : RestoreFault → Type 0 = λ f. IfOk c.archive_line-in-NoId.result (λ s. string_bytes s ≡ restore_line f) in
    subst P (sym c.in-NoId.is) (c.archive_line-in-NoId.ensures (no_id_text c.in-NoId.ns) c.no_id_text.ensures)
