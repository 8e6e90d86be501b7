use Rattle.std.proofs.Common.{sym, ◌∙◌}
use Rattle.transaction_indexes.proofs.Indexes.{pass_refused, pass_follows}
use Rattle.transaction_indexes.proofs.following.pass.Goals as goal

pub returns-in-Some-clause-passes : goal.returns-in-Some-clause-passes
returns-in-Some-clause-passes c = pass_refused c.args.change.now c.args.indexes.now c.in-Some.refused (λ r a h. sym (c.in_ok-refused.ensures r a h) ∙ c.in-Some.is)

pub returns-in_ok-follow-in-None-clause-passes : goal.returns-in_ok-follow-in-None-clause-passes
returns-in_ok-follow-in-None-clause-passes c =
    let f = c.in_ok-follow-in-None.ensures in
    pass_follows c.args.change.now c.args.indexes.now c.follow.new.indexes f.stay (λ r a h. sym (c.in_ok-refused.ensures r a h) ∙ c.in-None.is) f.kept
