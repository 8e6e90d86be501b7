use Rattle.std.proofs.Common.{◌∙◌, ap}
use Rattle.coll_state.specs.Rows.{state_of}
use Rattle.index_build.specs.Faults.{fault}
use Rattle.index_build.specs.Numbers.{Numbers, number_at}
use Rattle.index_rows.proofs.Numbers.{no_number, number_of_faultless}
use Rattle.index_rows.proofs.collections.number_of.Goals as goal

pub returns-in-Ok : goal.returns-in-Ok
returns-in-Ok c =
    number_of_faultless c.args.state.now c.args.ns.now c.args.index.now c.get.result c.in-Ok.ensures.faultless
    (c.get.ensures ∙ ap (λ (n : Numbers). number_at n c.args.ns.now c.args.index.now) c.in-Ok.ensures.counts)

pub returns-in_ok-told-in-Err : goal.returns-in_ok-told-in-Err
returns-in_ok-told-in-Err c =
    no_number c.args.state.now c.args.ns.now c.args.index.now (c.in_ok-told-in-Err.ensures (fault (state_of c.args.state.now)) c.in-Err.ensures.fault)
