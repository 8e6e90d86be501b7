use Rattle.doc_path.proofs.Steps.{index_part, plain_index, low_part}
use Rattle.doc_path.proofs.writing.index_in_array.Goals as goal

pub returns-in-Plain-clause-some : goal.returns-in-Plain-clause-some
returns-in-Plain-clause-some c = index_part c.args.rule c.args.part.now c.in-Index.at c.in-Index.is (plain_index c.args.rule c.in-Index.at c.in-Plain.is)

pub returns-in_default-rule : goal.returns-in_default-rule
returns-in_default-rule c =
    let r = low_part c.args.rule c.args.part.now c.in-Index.at c.low_index.result c.in-Index.is c.in_default-rule.not-Plain c.low_index.ensures.some c.low_index.ensures.none in
    record { some = r.some; none = r.none }
