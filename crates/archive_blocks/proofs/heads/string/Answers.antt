use Rattle.std.proofs.Common.{◌≡◌, ℕ, refl, sym, subst, ◌∙◌}
use Rattle.archive_blocks.specs.Found.{BeginsValue}
use Rattle.archive_blocks.proofs.Typed.{text_is, no_string, Reading, same_front}
use Rattle.archive_blocks.proofs.heads.string.Goals as goal

pub returns-in_default : goal.returns-in_default
returns-in_default c = λ n fs s. (c.args.name.now, rw (c.in_default.ensures n fs s) refl)

pub returns-then-tag-ne2 : goal.returns-then-tag-ne2
returns-then-tag-ne2 c = λ n fs s.
    let f = c.in-Some.ensures n fs s in
    (c.args.name.now, rw (f.1, no_string n c.in-Some.tag c.in-Some.bytes.now f.0 f.2 c.if-tag-ne2.true) refl)

pub returns-in-Ok : goal.returns-in-Ok
returns-in-Ok c = λ n fs s.
    let f = c.in-Some.ensures n fs s in
    let bytes = c.in-Some.bytes.now in
    let t = text_is n bytes f.0 (subst (λ (k : ℕ). BeginsValue n k bytes f.0) c.if-tag-ne2.false f.2) in
    let same : Reading (t.0, t.2) ≡ Reading (c.in-Ok.text.now, c.in-Ok.field-0-1.now) = sym (t.3 _) ∙ c.in-Ok.ensures.gives in
    let is : t.0 ≡ c.in-Ok.text.now = same_front t.0 c.in-Ok.text.now t.2 c.in-Ok.field-0-1.now same in
    rw (f.1, t.1, is) refl

pub returns-in-Err : goal.returns-in-Err
returns-in-Err c = λ n fs s.
    let f = c.in-Some.ensures n fs s in
    let bytes = c.in-Some.bytes.now in
    let t = text_is n bytes f.0 (subst (λ (k : ℕ). BeginsValue n k bytes f.0) c.if-tag-ne2.false f.2) in
    absurd (let k = sym (t.3 _) ∙ c.in-Err.ensures.gives in cc)
