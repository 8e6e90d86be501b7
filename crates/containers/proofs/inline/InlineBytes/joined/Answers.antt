use Rattle.std.proofs.Common.{rules, refl, ◌≡◌}
use Rattle.containers.proofs.Joining.{joined_front}
use Rattle.containers.proofs.inline.InlineBytes.joined.Goals as goal

pub returns : goal.returns
returns c =
    let first : c.args.left.now ≡ c.copy_from_slice.new.self = search rules in
    let second : c.args.right.now ≡ c.copy_from_slice-2.new.self = search rules in
    joined_front c.args.left.now c.args.right.now _ _ _ _ _ first second refl
