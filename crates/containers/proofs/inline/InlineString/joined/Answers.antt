use Rattle.std.proofs.Common.{rules, subst, ◌≡◌, ◌++◌}
use Rattle.std.specs.Prelude.{IsUtf8}
use Rattle.std.proofs.lemmas.Str.{IsUtf8-append}
use Rattle.containers.proofs.inline.InlineString.joined.Goals as goal

pub invariant_of-result : goal.invariant_of-result
invariant_of-result c =
    let is : c.args.left.now ++ c.args.right.now ≡ c.joined.result = search rules in
    ∣ subst IsUtf8 is (IsUtf8-append _ _ c.utf8.left c.utf8.right) ∣₁
