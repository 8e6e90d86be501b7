use Rattle.std.proofs.Common.{subst, Err}
use Rattle.tool_io.proofs.Writes.{on_ok}
use Rattle.history_model.specs.Stages.{Stage}
use Rattle.store_core.specs.declared.fault.StoreFault.{StoreFault}
use Rattle.store_core.specs.Stores.{StandsAt}
use Rattle.schedule_source.specs.Commands.{RunsBefore}
use Rattle.schedule_source.proofs.Progresses.{runs_command, refuses_command}
use Rattle.schedule_source.proofs.run.SourceRun.command.Goals as goal

pub returns-in-Ok : goal.returns-in-Ok
returns-in-Ok c p t = runs_command c.args.limit c.args.number c.args.cmd.now c.args.self.now c.run_before.new.store p c.requires t c.in-Ok.is_whole c.in-Ok.ensures

pub returns-in-Err-Refused : goal.returns-in-Err-Refused
returns-in-Err-Refused c =
    let l = c.args.limit in
    let cmd = c.args.cmd.now in
    let old = c.args.self.now in
    let f = subst (λ (e : StoreFault). (st : Stage) → StandsAt old.store st → RunsBefore l cmd st old.store (Err e) c.run_before.new.store) c.in-Err-Refused.field-0-is c.in-Err-Refused.ensures in
    on_ok c.push.result (λ more p t. refuses_command l c.args.number cmd old c.run_before.new.store p c.requires t c.in-Err-Refused.row c.push.new.self f more) c.push.ensures.ok
