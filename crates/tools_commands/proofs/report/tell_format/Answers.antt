use Rattle.tools_commands.specs.Lines.{format_text}
use Rattle.tools_commands.proofs.report.tell_format.Goals as goal

pub tell_text-requires : goal.tell_text-requires
tell_text-requires g c = c.archive_line-text.ensures (format_text c.args.fault) c.format_text.ensures
