use Rattle.std.proofs.Common.{◌+◌, ◌*◌, ◌≤◌, length}
use Rattle.plain_json.proofs.Items.{ItemsLeft}
use Rattle.plain_json.proofs.Members.{MembersLeft}
use Rattle.plain_json.proofs.reading.+object.Given as goal

abbrev pub decreases-array : goal.decreases-array
decreases-array l = 4 * l.levels

abbrev pub decreases-object : goal.decreases-object
decreases-object l = 4 * l.levels

abbrev pub decreases-value : goal.decreases-value
decreases-value l = 4 * l.levels + 1

abbrev pub decreases-item : goal.decreases-item
decreases-item l = 4 * l.levels + 2

abbrev pub decreases-member : goal.decreases-member
decreases-member l = 4 * l.levels + 2

abbrev pub decreases-items : goal.decreases-items
decreases-items l = 4 * l.levels + 3

abbrev pub decreases-members : goal.decreases-members
decreases-members l = 4 * l.levels + 3

abbrev pub invariant-items-items : goal.invariant-items-items
invariant-items-items l = record {
  left : ItemsLeft l.levels l.bytes l.items l.rest;
  fits : length l.rest ≤ length l.bytes;
}

abbrev pub decreases-items-items : goal.decreases-items-items
decreases-items-items l = length l.rest

abbrev pub invariant-members-members : goal.invariant-members-members
invariant-members-members l = record {
  left : MembersLeft l.levels l.bytes l.doc l.rest;
  fits : length l.rest ≤ length l.bytes;
}

abbrev pub decreases-members-members : goal.decreases-members-members
decreases-members-members l = length l.rest
