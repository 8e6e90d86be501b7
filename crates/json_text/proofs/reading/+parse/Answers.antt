use Rattle.std.proofs.Common.{sym, arith}
use Rattle.std.proofs.lemmas.Result.{err_from_is_err_and}
use Rattle.json_text.specs.Reading.{item_at, member_at, value_at}
use Rattle.json_text.proofs.Loop.{goes_on, stops, ends, starts, shut, array_none, array_some, object_none, object_some}
use Rattle.json_text.proofs.reading.+parse.Goals as goal

pub array-returns-then-levels-eq0-clause-gives : goal.array-returns-then-levels-eq0-clause-gives
array-returns-then-levels-eq0-clause-gives t c = rw c.bad.ensures (array_none c.args.levels c.args.end c.args.bytes.now c.if-levels-eq0.true)

pub array-returns-clause-gives : goal.array-returns-clause-gives
array-returns-clause-gives t c = rw (array_some c.args.levels c.args.end c.args.bytes.now (omega (arith, c.if-levels-eq0.false)), ← c.space.ensures.value) c.items.ensures.gives

pub object-returns-then-levels-eq0-clause-gives : goal.object-returns-then-levels-eq0-clause-gives
object-returns-then-levels-eq0-clause-gives t c = rw c.bad.ensures (object_none c.args.levels c.args.end c.args.bytes.now c.if-levels-eq0.true)

pub object-returns-clause-gives : goal.object-returns-clause-gives
object-returns-clause-gives t c = rw (object_some c.args.levels c.args.end c.args.bytes.now (omega (arith, c.if-levels-eq0.false)), ← c.space.ensures.value) c.members.ensures.gives

pub items-items-init : goal.items-items-init
items-items-init t c = record { left = rw c.new-items.ensures (starts 93 (item_at (value_at c.args.levels) c.args.end) c.args.end c.args.bytes.now (sym c.in_default.ensures.value)); fits = omega arith }

pub items-returns-in-Some-clause-gives : goal.items-returns-in-Some-clause-gives
items-returns-in-Some-clause-gives t c = rw c.new-items.ensures (shut 93 (item_at (value_at c.args.levels) c.args.end) c.args.end c.args.bytes.now c.in-Some.after.now (sym c.in-Some.ensures.value))

pub items-returns-in_err-tree-clause-gives : goal.items-returns-in_err-tree-clause-gives
items-returns-in_err-tree-clause-gives t c =
    let p = err_from_is_err_and c.from_residual.result c.from_residual.ensures.1 in
    rw (p.1, p.2) (stops (item_at (value_at c.args.levels) c.args.end) c.args.end c.items.items c.items.rest.now _ _ (c.in_err-tree.ensures.gives c.items.items) c.items.invariant.left)

pub items-returns-then-not-more-clause-gives : goal.items-returns-then-not-more-clause-gives
items-returns-then-not-more-clause-gives t c =
    rw c.in_ok-push.ensures.ok (ends (item_at (value_at c.args.levels) c.args.end) c.args.end c.items.items c.items.rest.now _ _ _ _ (c.in_ok-tree.ensures.gives c.items.items) c.if-not-more.true c.items.invariant.left)

pub items-items-preserved : goal.items-items-preserved
items-items-preserved t c = record {
  left = rw c.in_ok-push.ensures.ok (goes_on (item_at (value_at c.args.levels) c.args.end) c.args.end c.items.items c.items.rest.now _ _ _ _ (c.in_ok-tree.ensures.gives c.items.items) c.if-not-more.false c.in_ok-tree.ensures.fits c.items.invariant.left);
  fits = omega (arith, c.items.invariant.fits, c.in_ok-tree.ensures.fits);
}

pub members-members-init : goal.members-members-init
members-members-init t c = record { left = rw c.new-before.ensures (starts 125 (member_at (value_at c.args.levels) c.args.end) c.args.end c.args.bytes.now (sym c.in_default.ensures.value)); fits = omega arith }

pub members-returns-in-Some-clause-gives : goal.members-returns-in-Some-clause-gives
members-returns-in-Some-clause-gives t c = rw (c.into_members.ensures, c.new-before.ensures) (shut 125 (member_at (value_at c.args.levels) c.args.end) c.args.end c.args.bytes.now c.in-Some.after.now (sym c.in-Some.ensures.value))

pub members-returns-in_err-name-clause-gives : goal.members-returns-in_err-name-clause-gives
members-returns-in_err-name-clause-gives t c =
    let p = err_from_is_err_and c.from_residual.result c.from_residual.ensures.1 in
    rw (p.1, p.2) (stops (member_at (value_at c.args.levels) c.args.end) c.args.end c.members.before c.members.rest.now _ _ c.in_err-name.ensures.gives c.members.invariant.left)

pub members-returns-then-not-more-clause-gives : goal.members-returns-then-not-more-clause-gives
members-returns-then-not-more-clause-gives t c =
    rw (c.into_members-then-not-more.ensures, c.in_ok-before.ensures) (ends (member_at (value_at c.args.levels) c.args.end) c.args.end c.members.before c.members.rest.now _ _ _ _ c.in_ok-name.ensures.gives c.if-not-more.true c.members.invariant.left)

pub members-members-preserved : goal.members-members-preserved
members-members-preserved t c = record {
  left = rw c.in_ok-before.ensures (goes_on (member_at (value_at c.args.levels) c.args.end) c.args.end c.members.before c.members.rest.now _ _ _ _ c.in_ok-name.ensures.gives c.if-not-more.false c.in_ok-name.ensures.fits c.members.invariant.left);
  fits = omega (arith, c.members.invariant.fits, c.in_ok-name.ensures.fits);
}
