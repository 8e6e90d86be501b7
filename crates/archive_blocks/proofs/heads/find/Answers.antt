use Rattle.std.proofs.Common.{◌≡◌, ℕ, ◌+◌, ◌-◌, List, ◌∷◌, length, take, drop, sym, ap, subst, ◌∙◌, arith}
use Rattle.std.specs.Str.{bytes_eq}
use Rattle.std.proofs.lemmas.List.{take_all, length-drop, nil_from_length}
use Rattle.bson_check.specs.Passing.{jump}
use Rattle.archive_blocks.specs.Found.{SpellFields, BeginsValue}
use Rattle.archive_blocks.proofs.Elements.{no_element, some_zero, found_here, passed_on}
use Rattle.archive_blocks.proofs.heads.find.Goals as goal

to_the_end : (k : ℕ) (bytes : List ℕ) → take (length bytes - k) (drop k bytes) ≡ drop k bytes
to_the_end k bytes = take_all (length bytes - k) (drop k bytes) (omega (arith, length-drop k bytes))

pub returns-in_default-zero_place : goal.returns-in_default-zero_place
returns-in_default-zero_place c = λ n fs s.
    let p = c.elements.invariant n fs s in
    let tag = c.in-Some.tag.now in
    let bytes = c.in-Some.bytes.now in
    let left : SpellFields n (tag ∷ bytes) p.left = subst (λ (z : List ℕ). SpellFields n z p.left) c.in-Some.ensures.cases.0 p.spells in
    absurd (some_zero n tag bytes c.args.name.now p.left left (sym c.in_default-zero_place.ensures.place))

pub returns-then-eq : goal.returns-then-eq
returns-then-eq c = λ n fs s.
    let p = c.elements.invariant n fs s in
    let tag = c.in-Some.tag.now in
    let bytes = c.in-Some.bytes.now in
    let i = c.in-Some-zero_place.i in
    let left : SpellFields n (tag ∷ bytes) p.left = subst (λ (z : List ℕ). SpellFields n z p.left) c.in-Some.ensures.cases.0 p.spells in
    let f = found_here n tag bytes c.args.name.now p.left left i (sym c.in-Some-zero_place.ensures.place) (ap (λ z. bytes_eq (take i bytes) z) (sym c.as_bytes.ensures.value) ∙ sym c.eq.ensures ∙ c.if-eq.true) in
    (f.0, p.same ∙ f.1, subst (λ (z : List ℕ). BeginsValue n tag z f.0) (sym (to_the_end (i + 1) bytes)) f.2)

pub elements-preserved : goal.elements-preserved
elements-preserved c = λ n fs s.
    let p = c.elements.invariant n fs s in
    let tag = c.in-Some.tag.now in
    let bytes = c.in-Some.bytes.now in
    let name = c.args.name.now in
    let i = c.in-Some-zero_place.i in
    let left : SpellFields n (tag ∷ bytes) p.left = subst (λ (z : List ℕ). SpellFields n z p.left) c.in-Some.ensures.cases.0 p.spells in
    let k = passed_on n tag bytes name p.left left i (sym c.in-Some-zero_place.ensures.place) (ap (λ z. bytes_eq (take i bytes) z) (sym c.as_bytes.ensures.value) ∙ sym c.eq.ensures ∙ c.if-eq.false) in
    let after : c.after-rest.result.now ≡ jump tag (drop (i + 1) bytes) = c.after-rest.ensures.place ∙ ap (jump tag) (to_the_end (i + 1) bytes) in
    record { left = k.left; spells = subst (λ (z : List ℕ). SpellFields n z k.left) (sym after) k.spells; same = p.same ∙ k.same }

pub returns : goal.returns
returns c = λ n fs s.
    let p = c.elements.invariant n fs s in
    p.same ∙ no_element n c.args.name.now p.left (subst (λ (z : List ℕ). SpellFields n z p.left) (nil_from_length _ c.in_default.ensures.cases) p.spells)
