use Rattle.std.proofs.Common.{sym, ap, ◌∙◌, arith}
use Rattle.std.specs.Option.{option_copied}
use Rattle.doc_path.specs.Played.{id_name}
use Rattle.command_rules.proofs.Spelled.{within_document}
use Rattle.command_rules.proofs.documents.is_good_id.Goals as goal

pub is_good_value-requires : goal.is_good_value-requires
is_good_value-requires c = (let w = within_document id_name c.args.doc.now c.in-Some.id.now (sym c.get.ensures ∙ ap option_copied c.in-Some.is) in omega (arith, w, c.requires))
