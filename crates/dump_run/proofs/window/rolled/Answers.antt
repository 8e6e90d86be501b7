use Rattle.std.proofs.Common.{ap, ◌∙◌, sym, Bool, Some}
use Rattle.dump_run.specs.Faults.{rolled_if}
use Rattle.dump_run.specs.declared.fault.DumpFault.TheVariants as faults
use Rattle.bson_value.specs.declared.value.Ts.{Ts}
use Rattle.dump_run.proofs.Places.{not_gone, gone}
use Rattle.dump_run.proofs.window.rolled.Goals as goal

pub returns-in-Some-clause-rolled : goal.returns-in-Some-clause-rolled
returns-in-Some-clause-rolled c = λ es e. ap (λ (b : Bool). rolled_if b c.args.start es) (sym (not_gone c.args.oplog.now.entries es c.args.start _ e c.in-Some.ensures.place))

pub returns-in-None-clause-rolled : goal.returns-in-None-clause-rolled
returns-in-None-clause-rolled c = λ es e.
    ap (λ (t : Ts). Some (faults.Rolled c.args.start t)) (c.oldest_of-oldest.ensures es e)
    ∙ ap (λ (b : Bool). rolled_if b c.args.start es) (sym (gone c.args.oplog.now.entries es c.args.start e c.in-None.ensures.place))
