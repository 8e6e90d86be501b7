use Rattle.std.proofs.Common.{◌≡◌, sym, ◌∙◌}
use Rattle.bson_encode.specs.Key.{key_of}
use Rattle.kept_indexes.specs.Moves.{AreTakenOut}
use Rattle.kept_indexes.proofs.Moving.{remove_keeps, none_moved, none_becomes, taken_in, becomes, gone_again}
use Rattle.kept_indexes.proofs.indexes.KeptIndexes.remove.Goals as goal

pub returns-in_default-clause-kept : goal.returns-in_default-clause-kept
returns-in_default-clause-kept c r kept hold =
    remove_keeps c.args.self.now c.take.new.self r c.args.ns.now (key_of c.args.id.now) kept hold c.take.ensures.others (none_moved (AreTakenOut (key_of c.args.id.now)) c.args.self.now c.take.new.self c.args.ns.now c.take.ensures.gone)

pub returns-in_default-clause-moved : goal.returns-in_default-clause-moved
returns-in_default-clause-moved c = none_becomes (AreTakenOut (key_of c.args.id.now)) _ _ (sym c.take.ensures.taken ∙ c.in_default.is) c.take.ensures.gone

pub returns-in-Some-without_document-clause-kept : goal.returns-in-Some-without_document-clause-kept
returns-in-Some-without_document-clause-kept c r kept hold =
    remove_keeps c.args.self.now c.add.new.self r c.args.ns.now (key_of c.args.id.now) kept hold (λ m e. c.add.ensures.others m e ∙ c.take.ensures.others m e)
    (taken_in (AreTakenOut (key_of c.args.id.now)) c.args.self.now c.take.new.self c.add.new.self c.args.ns.now c.in-Some.indexes c.in-Some-without_document.indexes c.add.result (sym c.take.ensures.taken ∙ c.in-Some.is) c.take.ensures.gone c.in-Some-without_document.ensures c.add.ensures.added c.add.ensures.err)

pub returns-in-Some-without_document-clause-moved : goal.returns-in-Some-without_document-clause-moved
returns-in-Some-without_document-clause-moved c =
    becomes (AreTakenOut (key_of c.args.id.now)) _ _ c.in-Some.indexes c.in-Some-without_document.indexes c.add.result (sym c.take.ensures.taken ∙ c.in-Some.is) c.in-Some-without_document.ensures c.add.ensures.added

pub returns-in-Some-without_document-clause-gone : goal.returns-in-Some-without_document-clause-gone
returns-in-Some-without_document-clause-gone c = gone_again c.take.new.self c.add.new.self c.args.ns.now c.add.result c.take.ensures.gone c.add.ensures.err

pub returns-in-None-clause-kept : goal.returns-in-None-clause-kept
returns-in-None-clause-kept c r kept hold =
    remove_keeps c.args.self.now c.take.new.self r c.args.ns.now (key_of c.args.id.now) kept hold c.take.ensures.others (none_moved (AreTakenOut (key_of c.args.id.now)) c.args.self.now c.take.new.self c.args.ns.now c.take.ensures.gone)
