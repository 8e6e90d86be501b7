use Rattle.std.proofs.Common.{◌≡◌, sym, ◌∙◌}
use Rattle.coll_state.specs.Rows.{id_of, key_in}
use Rattle.kept_indexes.specs.Moves.{ArePut}
use Rattle.kept_indexes.proofs.Moving.{put_keeps, none_moved, none_becomes, taken_in, becomes, gone_again}
use Rattle.kept_indexes.proofs.indexes.KeptIndexes.put.Goals as goal

pub returns-in_default-clause-kept : goal.returns-in_default-clause-kept
returns-in_default-clause-kept c r kept sound hold =
    put_keeps c.args.self.now c.take.new.self r c.args.ns.now c.args.doc.now kept sound hold c.take.ensures.others (none_moved (ArePut (key_in (id_of c.args.doc.now)) c.args.doc.now) c.args.self.now c.take.new.self c.args.ns.now c.take.ensures.gone)

pub returns-in_default-clause-moved : goal.returns-in_default-clause-moved
returns-in_default-clause-moved c = none_becomes (ArePut (key_in (id_of c.args.doc.now)) c.args.doc.now) _ _ (sym c.take.ensures.taken ∙ c.in_default.is) c.take.ensures.gone

pub returns-in-Some-with_document-clause-kept : goal.returns-in-Some-with_document-clause-kept
returns-in-Some-with_document-clause-kept c r kept sound hold =
    put_keeps c.args.self.now c.add.new.self r c.args.ns.now c.args.doc.now kept sound hold (λ m e. c.add.ensures.others m e ∙ c.take.ensures.others m e)
    (taken_in (ArePut (key_in (id_of c.args.doc.now)) c.args.doc.now) c.args.self.now c.take.new.self c.add.new.self c.args.ns.now c.in-Some.indexes c.in-Some-with_document.indexes c.add.result (sym c.take.ensures.taken ∙ c.in-Some.is) c.take.ensures.gone c.in-Some-with_document.ensures c.add.ensures.added c.add.ensures.err)

pub returns-in-Some-with_document-clause-moved : goal.returns-in-Some-with_document-clause-moved
returns-in-Some-with_document-clause-moved c =
    becomes (ArePut (key_in (id_of c.args.doc.now)) c.args.doc.now) _ _ c.in-Some.indexes c.in-Some-with_document.indexes c.add.result (sym c.take.ensures.taken ∙ c.in-Some.is) c.in-Some-with_document.ensures c.add.ensures.added

pub returns-in-Some-with_document-clause-gone : goal.returns-in-Some-with_document-clause-gone
returns-in-Some-with_document-clause-gone c = gone_again c.take.new.self c.add.new.self c.args.ns.now c.add.result c.take.ensures.gone c.add.ensures.err

pub returns-in-None-clause-kept : goal.returns-in-None-clause-kept
returns-in-None-clause-kept c r kept sound hold =
    put_keeps c.args.self.now c.take.new.self r c.args.ns.now c.args.doc.now kept sound hold c.take.ensures.others (none_moved (ArePut (key_in (id_of c.args.doc.now)) c.args.doc.now) c.args.self.now c.take.new.self c.args.ns.now c.take.ensures.gone)
