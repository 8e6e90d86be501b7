use Rattle.std.proofs.Common.{◌≡◌, ◌∙◌, ap, sym, subst, Some, Err}
use Rattle.restore_plan.specs.declared.fault.RestoreFault.{RestoreFault}
use Rattle.restore_plan.specs.declared.reading.ArchiveFault.TheVariants as reasons
use Rattle.restore_plan.specs.Faults.{IsFault}
use Rattle.restore_plan.specs.Base.{or_later}
use Rattle.restore_plan.specs.Taken.{contents_of, end_fault, fault_of}
use Rattle.restore_plan.proofs.LastFaults.{is_met}
use Rattle.restore_plan.proofs.Endings.{failure, stopped}
use Rattle.restore_plan.proofs.reading.restore_archive.Goals as goal

pub returns-in-Err-clause-fails : goal.returns-in-Err-clause-fails
returns-in-Err-clause-fails g c = λ f e.
    let is : c.in-Err.fault ≡ reasons.Restore f = cc in
    stopped c.args.plan (g.S.Source.end c.args.source.now).bytes (g.S.Source.end c.take_all.new.source).bytes f (c.in-Err.ensures.stopped f (ap Err is))

pub returns-in-Err-finish-clause-fails : goal.returns-in-Err-finish-clause-fails
returns-in-Err-finish-clause-fails g c = λ f e.
    let is : c.at_end.result ≡ reasons.Restore f = cc in
    let k = c.at_end.ensures.failure f is in
    let r = c.in-Ok.restore in
    let told = subst (λ (x : RestoreFault). IsFault x (fault_of r)) k.0 c.in-Err-finish.ensures.fault in
    let met : end_fault (contents_of r) ≡ Some f = sym (ap (λ o. or_later o (end_fault (contents_of r))) c.in-Ok.ensures.fine) ∙ is_met f (fault_of r) told k.1 in
    failure c.args.plan (contents_of r) (g.S.Source.end c.args.source.now).bytes (g.S.Source.end c.take_all.new.source).bytes f c.in-Ok.ensures.taken met
