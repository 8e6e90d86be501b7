use Rattle.std.proofs.Common.{◌∙◌}
use Rattle.std.proofs.lemmas.Result.{IfOk-weaker}
use Rattle.coll_state.specs.Rows.{state_of}
use Rattle.index_build.specs.Faults.{fault}
use Rattle.index_rows.proofs.Numbers.{is_fault, no_fault}
use Rattle.index_rows.proofs.collections.Collections.fault.Goals as goal

pub returns-in-Ok : goal.returns-in-Ok
returns-in-Ok c = IfOk-weaker c.answer.result _ _ (λ answer e. e ∙ no_fault c.args.self.now.state c.in-Ok.ensures.faultless) c.answer.ensures

pub returns : goal.returns
returns c = IfOk-weaker c.fault_text-text.result _ _ (λ answer e. e (fault (state_of c.args.self.now.state)) c.in-Err.ensures.fault ∙ is_fault c.args.self.now.state) c.fault_text-text.ensures
