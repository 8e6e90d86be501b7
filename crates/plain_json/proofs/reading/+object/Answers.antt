use Rattle.std.proofs.Common.{sym, arith, ◌∙◌}
use Rattle.plain_json.proofs.Values.{on_ok, on_ends, array_value, object_value, array_read, object_read}
use Rattle.plain_json.proofs.Items.{item_put, items_start, items_shut, items_on, items_end}
use Rattle.plain_json.proofs.Members.{member_put, members_start, members_shut, members_on, members_end}
use Rattle.plain_json.proofs.reading.+object.Goals as goal

-- ---- arrays

pub array-returns-clause-read : goal.array-returns-clause-read
array-returns-clause-read t c =
    on_ok c.items.result (λ x h. array_read c.args.levels c.args.bytes.now x.0 x.1.now (λ e. c.if-levels-eq0.false e) (rw c.space.ensures.value at h)) c.items.ensures.read

pub item-returns-clause-read : goal.item-returns-clause-read
item-returns-clause-read t c =
    on_ends c.more.result (λ x h. item_put c.args.levels c.args.items.now _ c.args.bytes.now c.in_ok-value.rest.now x.1.now _ x.0 c.in_ok-push.ensures.ok c.in_ok-value.ensures.read (λ end. rw c.space.ensures.value at (h end))) c.more.ensures.gives

pub items-returns-in-Some-clause-read : goal.items-returns-in-Some-clause-read
items-returns-in-Some-clause-read t c = rw c.in_ok-items.ensures (items_shut c.args.levels c.args.bytes.now c.in-Some.after.now (sym c.in-Some.ensures.value))

pub items-items-init : goal.items-items-init
items-items-init t c = record { left = rw c.in_ok-items.ensures (items_start c.args.levels c.args.bytes.now (sym c.in_default.ensures.value)); fits = omega arith }

pub items-returns-then-not-more-clause-read : goal.items-returns-then-not-more-clause-read
items-returns-then-not-more-clause-read t c =
    items_end c.args.levels c.args.bytes.now c.items.items _ c.items.rest.now _ _ c.in_ok-more.ensures.read c.if-not-more.true c.items.invariant.left

pub items-items-preserved : goal.items-items-preserved
items-items-preserved t c = record {
  left = items_on c.args.levels c.args.bytes.now c.items.items _ c.items.rest.now _ _ c.in_ok-more.ensures.read c.if-not-more.false c.in_ok-more.ensures.fits c.items.invariant.left;
  fits = omega (arith, c.items.invariant.fits, c.in_ok-more.ensures.fits);
}

-- ---- objects

pub object-returns-clause-read : goal.object-returns-clause-read
object-returns-clause-read t c =
    on_ok c.members.result (λ x h. object_read c.args.levels c.args.bytes.now x.0 x.1.now (λ e. c.if-levels-eq0.false e) (rw c.space.ensures.value at h)) c.members.ensures.read

pub member-returns-clause-read : goal.member-returns-clause-read
member-returns-clause-read t c =
    on_ends c.more.result (λ x h. member_put c.args.levels c.args.doc.now _ c.args.bytes.now _ c.in_ok-name.rest.now c.in_ok-rest.rest.now c.in_ok-value.rest.now x.1.now _ x.0 (rw c.in_ok-of_text.ensures at c.in_ok-add.ensures.ok) c.in_ok-name.ensures.read
    (λ end. rw c.space.ensures.value at (c.in_ok-rest.ensures.gives end)) c.in_ok-value.ensures.read (λ end. rw c.space-2.ensures.value at (h end))) c.more.ensures.gives

pub members-returns-in-Some-clause-read : goal.members-returns-in-Some-clause-read
members-returns-in-Some-clause-read t c = rw (c.of_distinct-doc.ensures ∙ c.in_ok-fields.ensures.items) (members_shut c.args.levels c.args.bytes.now c.in-Some.after.now (sym c.in-Some.ensures.value))

pub members-members-init : goal.members-members-init
members-members-init t c = record { left = rw (c.of_distinct-doc.ensures ∙ c.in_ok-fields.ensures.items) (members_start c.args.levels c.args.bytes.now (sym c.in_default.ensures.value)); fits = omega arith }

pub members-returns-then-not-more-clause-read : goal.members-returns-then-not-more-clause-read
members-returns-then-not-more-clause-read t c =
    members_end c.args.levels c.args.bytes.now c.members.doc _ c.members.rest.now _ _ c.in_ok-more.ensures.read c.if-not-more.true c.members.invariant.left

pub members-members-preserved : goal.members-members-preserved
members-members-preserved t c = record {
  left = members_on c.args.levels c.args.bytes.now c.members.doc _ c.members.rest.now _ _ c.in_ok-more.ensures.read c.if-not-more.false c.in_ok-more.ensures.fits c.members.invariant.left;
  fits = omega (arith, c.members.invariant.fits, c.in_ok-more.ensures.fits);
}

-- ---- values

pub value-returns-in_ok-items-in-91-clause-read : goal.value-returns-in_ok-items-in-91-clause-read
value-returns-in_ok-items-in-91-clause-read t c =
    rw (c.in-Some.ensures.cases.0, c.in-91.is) (array_value c.args.levels _ _ _ c.in_ok-items-in-91.ensures.read)

pub value-returns-in_ok-doc-in-123-clause-read : goal.value-returns-in_ok-doc-in-123-clause-read
value-returns-in_ok-doc-in-123-clause-read t c =
    rw (c.in-Some.ensures.cases.0, c.in-123.is) (object_value c.args.levels _ _ _ c.in_ok-doc-in-123.ensures.read)
