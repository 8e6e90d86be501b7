use Rattle.std.proofs.Common.{◌+◌, ◌*◌, length}
use Rattle.update_ops.proofs.locating.+locate.Given as goal

abbrev pub decreases-go_on : goal.decreases-go_on
decreases-go_on l = 3 * length l.rest.now

abbrev pub decreases-locate_in : goal.decreases-locate_in
decreases-locate_in l = 3 * length l.rest.now + 2

abbrev pub decreases-locate_field : goal.decreases-locate_field
decreases-locate_field l = 3 * length l.rest.now + 1

abbrev pub decreases-locate_element : goal.decreases-locate_element
decreases-locate_element l = 3 * length l.rest.now + 1
