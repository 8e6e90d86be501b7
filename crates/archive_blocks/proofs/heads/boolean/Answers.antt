use Rattle.std.proofs.Common.{refl}
use Rattle.archive_blocks.proofs.Typed.{no_bool}
use Rattle.archive_blocks.proofs.heads.boolean.Goals as goal

pub returns-in_default : goal.returns-in_default
returns-in_default c = λ n fs s. (c.args.name.now, rw (c.in_default.ensures n fs s) refl)

pub returns-then-tag-ne8 : goal.returns-then-tag-ne8
returns-then-tag-ne8 c = λ n fs s.
    let f = c.in-Some.ensures n fs s in
    (c.args.name.now, rw (f.1, no_bool n c.in-Some.tag c.in-Some.bytes.now f.0 f.2 c.if-tag-ne8.true) refl)
