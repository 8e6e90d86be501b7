use Rattle.std.proofs.Common.{◌≡◌, ◌↔◌, IsTrue, subst}
use Rattle.index_rows.proofs.keys.are_keys.Goals as goal

pub returns : goal.returns
returns c = (c.in_ok-other.ensures.0, c.in_ok-other.ensures.1, subst (λ keys. IsTrue c.in_ok-are_same.field-0 ↔ (c.args.built.now ≡ keys)) c.in_ok-other.ensures.3 c.in_ok-are_same.ensures)
