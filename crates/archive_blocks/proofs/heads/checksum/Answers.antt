use Rattle.std.proofs.Common.{◌≡◌, ℕ, Some, w64, to_z, of_z, inl, inr, sym, ap, subst, ◌∙◌, arith, rules}
use Rattle.std.specs.Prelude.{ℤ, Ok}
use Rattle.archive_format.specs.Shapes.{crc_name}
use Rattle.archive_blocks.specs.Found.{BeginsValue}
use Rattle.archive_blocks.proofs.Typed.{no_long, long_is, long_fits, crc_is, crc_wrong}
use Rattle.archive_blocks.proofs.heads.checksum.Goals as goal

pub returns-then-tag-ne18 : goal.returns-then-tag-ne18
returns-then-tag-ne18 c = λ n fs s.
    let f = c.in-Some.ensures n fs s in
    let bytes = c.in-Some.bytes.now in
    elim c.then-tag-ne18.either [
      | inl other ↦ (crc_name, crc_wrong c.args.eof fs f.0 c.if-not-eof.false f.1 (no_long n c.in-Some.tag bytes f.0 f.2 other))
      | inr short ↦ absurd (omega (arith, short.1, long_fits n bytes f.0 (subst (λ (k : ℕ). BeginsValue n k bytes f.0) short.0 f.2)))
    ]

pub returns : goal.returns
returns c = λ n fs s.
    let f = c.in-Some.ensures n fs s in
    let bytes = c.in-Some.bytes.now in
    let t = long_is n bytes f.0 (subst (λ (k : ℕ). BeginsValue n k bytes f.0) c.if-tag-ne18.false f.2) in
    let whole : to_z w64 (of_z w64 c.long.result) ≡ c.long.result = search rules in
    crc_is c.args.eof fs f.0 _ c.if-not-eof.false f.1 t ∙ ap (λ (z : ℤ). Ok (Some z)) (sym (whole ∙ c.long.ensures))
