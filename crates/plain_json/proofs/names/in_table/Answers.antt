use Rattle.std.proofs.Common.{sym, ap}
use Rattle.std.specs.Prelude.{is_some}
use Rattle.containers.proofs.Entries.{absent_none}
use Rattle.extjson.specs.Wrappers.{wrapper_of, outermost_names}
use Rattle.plain_json.proofs.names.in_table.Goals as goal

pub returns-in_default : goal.returns-in_default
unfolding wrapper_of outermost_names
returns-in_default c = let h = c.in_default in sym (ap is_some (absent_none c.args.name.now outermost_names (h.not-text, (h.not-text-2, (h.not-text-3, (h.not-text-4, (h.not-text-5, (h.not-text-6, (h.not-text-7, (h.not-text-8, (h.not-text-9, (h.not-text-10, (h.not-text-11, (h.not-text-12, (h.not-text-13, (h.not-text-14, (h.not-text-15, (h.not-text-16, (h.not-text-17, tt)))))))))))))))))))
