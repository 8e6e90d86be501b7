use Rattle.std.proofs.Common.{ℕ, List, sym, subst}
use Rattle.bson_check.specs.Spells.{Spells}
use Rattle.bson_view.specs.Kept.{kept_bytes}
use Rattle.spliced_documents.proofs.Spellings.{wider}
use Rattle.spliced_documents.proofs.below.kept.Goals as goal

pub of_checked-requires : goal.of_checked-requires
of_checked-requires c = (c.faultless_if_spelled.ensures 16793600 200 c.args.bytes).1 (c.requires.0, wider c.args.bytes c.requires.0 c.requires.1)

pub returns-clause-document : goal.returns-clause-document
returns-clause-document c = λ fs s. c.one_document.ensures (kept_bytes c.of_checked.result) fs (subst (λ (z : List ℕ). Spells z fs) (sym c.of_checked.ensures) s)
