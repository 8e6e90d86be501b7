use Rattle.std.proofs.Common.{◌≡◌, ◌∙◌, Bool, ap, sym, subst, Some, []}
use Rattle.archive_format.specs.Archive.{Taking}
use Rattle.restore_plan.specs.declared.plan.Plan.{Plan}
use Rattle.restore_plan.specs.declared.reading.ArchiveFault.TheVariants as reasons
use Rattle.restore_plan.specs.Base.{bad_at}
use Rattle.restore_plan.specs.Taken.{contents_of, same_fault}
use Rattle.restore_plan.specs.Outcome.{OnInput, TakesAll, IsRefused, IsUnsettled, IsReadTo, refuses, fails}
use Rattle.restore_plan.proofs.Outcomes.{told_taken, told_format, told_stopped, told_unsettled, told_starved, unread}
use Rattle.restore_plan.proofs.reading.take_all.Goals as goal

pub returns-in_default-clause-no_memory : goal.returns-in_default-clause-no_memory
returns-in_default-clause-no_memory g c = λ e. unread c.args.plan (g.S.Source.end c.args.source.now).bytes

pub returns-in_default-run-clause-taken : goal.returns-in_default-run-clause-taken
returns-in_default-run-clause-taken g c =
    let first = (g.S.Source.end c.args.source.now).bytes in
    let now = (g.S.Source.end c.run.new.source).bytes in
    let r = c.new-restore.result in
    let told = told_taken r.plan (contents_of r) (contents_of c.run.new.taker) c.new-restore.ensures.contents first now c.in_default-run.ensures.told in
    subst (λ (p : Plan). OnInput first (λ all. (now ≡ Some []) × TakesAll p all (contents_of c.run.new.taker))) c.new-restore.ensures.plan told

pub returns-in-Some-clause-format : goal.returns-in-Some-clause-format
returns-in-Some-clause-format g c = λ f e.
    let is : c.in-Some.fault ≡ reasons.Format f = cc in
    let k = c.in-Some.ensures.format f (ap Some is) in
    let first = (g.S.Source.end c.args.source.now).bytes in
    let now = (g.S.Source.end c.run.new.source).bytes in
    let r = c.new-restore.result in
    let why : Taking → Bool = λ t. same_fault c.run.new.taker.fault (bad_at c.run.new.taker.plan t) in
    let told = told_format r.plan (contents_of r) (contents_of c.run.new.taker) c.new-restore.ensures.contents first now f why _ (rw k at c.in-Err.ensures.told) in
    subst (λ (p : Plan). OnInput first (λ all. IsRefused p all now (refuses f))) c.new-restore.ensures.plan told

pub returns-in-Some-clause-unsettled : goal.returns-in-Some-clause-unsettled
returns-in-Some-clause-unsettled g c = λ e.
    let is : c.in-Some.fault ≡ reasons.ReadFault = cc in
    let k = c.in-Some.ensures.read_fault (ap Some is) in
    let first = (g.S.Source.end c.args.source.now).bytes in
    let now = (g.S.Source.end c.run.new.source).bytes in
    let r = c.new-restore.result in
    let why : Taking → Bool = λ t. same_fault c.run.new.taker.fault (bad_at c.run.new.taker.plan t) in
    let told = told_unsettled r.plan (contents_of r) (contents_of c.run.new.taker) c.new-restore.ensures.contents first now why _ (rw k at c.in-Err.ensures.told) in
    subst (λ (p : Plan). OnInput first (λ all. IsUnsettled p all now)) c.new-restore.ensures.plan told

pub returns-in-Some-clause-no_memory : goal.returns-in-Some-clause-no_memory
returns-in-Some-clause-no_memory g c = λ e.
    let is : c.in-Some.fault ≡ reasons.NoMemory = cc in
    let k = c.in-Some.ensures.no_memory (ap Some is) in
    let first = (g.S.Source.end c.args.source.now).bytes in
    let now = (g.S.Source.end c.run.new.source).bytes in
    let r = c.new-restore.result in
    let why : Taking → Bool = λ t. same_fault c.run.new.taker.fault (bad_at c.run.new.taker.plan t) in
    let told = told_starved r.plan (contents_of r) (contents_of c.run.new.taker) c.new-restore.ensures.contents first now why _ (rw k at c.in-Err.ensures.told) in
    subst (λ (p : Plan). OnInput first (λ all. IsReadTo p all now)) c.new-restore.ensures.plan told

pub returns-clause-stopped : goal.returns-clause-stopped
returns-clause-stopped g c = λ f e.
    let is : c.in-Some-into_fault.fault ≡ f = cc in
    let first = (g.S.Source.end c.args.source.now).bytes in
    let now = (g.S.Source.end c.run.new.source).bytes in
    let r = c.new-restore.result in
    let taker = c.run.new.taker in
    let fault : taker.fault ≡ Some f = sym c.into_fault.ensures ∙ (c.in-Some-into_fault.is ∙ ap Some is) in
    let told = told_stopped r.plan (contents_of r) (contents_of taker) c.new-restore.ensures.contents first now taker.plan f taker.fault _ c.run.ensures.same fault (rw c.in_default-outer_fault.ensures.none at c.in-Err.ensures.told) in
    subst (λ (p : Plan). OnInput first (λ all. IsRefused p all now (fails f))) c.new-restore.ensures.plan told
