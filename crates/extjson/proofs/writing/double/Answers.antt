use Rattle.std.proofs.Common.{◌≡◌, true, false, sym, ◌∙◌}
use Rattle.std.specs.Str.{bytes_eq}
use Rattle.extjson.specs.Trees.{one, minus_one, double_tree}
use Rattle.extjson.proofs.Wraps.{wrap_is}
use Rattle.extjson.proofs.writing.double.Goals as goal

pub returns-then-eq : goal.returns-then-eq
unfolding double_tree
returns-then-eq c =
    let a : bytes_eq c.args.bytes.now one ≡ true = sym c.eq.ensures ∙ c.if-eq.true in
    rw a (wrap_is c.wrap.result _ _ _ c.in_ok-text.ensures c.wrap.ensures)

pub returns-then-eq-2 : goal.returns-then-eq-2
unfolding double_tree
returns-then-eq-2 c =
    let a : bytes_eq c.args.bytes.now one ≡ false = sym c.eq.ensures ∙ c.if-eq.false in
    let b : bytes_eq c.args.bytes.now minus_one ≡ true = sym c.eq-2.ensures ∙ c.if-eq-2.true in
    rw (a, b) (wrap_is c.wrap-then-eq-2.result _ _ _ c.in_ok-text-2.ensures c.wrap-then-eq-2.ensures)

pub returns : goal.returns
unfolding double_tree
returns c =
    let a : bytes_eq c.args.bytes.now one ≡ false = sym c.eq.ensures ∙ c.if-eq.false in
    let b : bytes_eq c.args.bytes.now minus_one ≡ false = sym c.eq-2.ensures ∙ c.if-eq-2.false in
    rw (a, b) (wrap_is c.wrap-2.result _ _ _ c.in_ok-bits.ensures c.wrap-2.ensures)
