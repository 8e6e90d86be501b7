use Rattle.std.proofs.Common.{◌≡◌, ◌↔◌, IsTrue, subst}
use Rattle.std.proofs.lemmas.Result.{IfOk-weaker}
use Rattle.index_keys.specs.Texts.{key_texts}
use Rattle.index_rows.proofs.keys.compared_under.Goals as goal

pub returns : goal.returns
returns c = IfOk-weaker c.are_keys.result _ _ (λ is_so e. (
  c.in_ok-first.ensures.0,
  e.0,
  c.in_ok-first.ensures.1,
  e.1,
  subst (λ keys. IsTrue is_so ↔ (keys ≡ key_texts c.args.plan.now e.0)) c.in_ok-first.ensures.3 e.2,
)) c.are_keys.ensures
