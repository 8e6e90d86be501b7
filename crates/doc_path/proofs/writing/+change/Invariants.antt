use Rattle.std.proofs.Common.{◌+◌, ◌*◌, length}
use Rattle.doc_path.proofs.writing.+change.Given as goal

abbrev pub decreases-change : goal.decreases-change
decreases-change l = 4 * length l.way.now

abbrev pub decreases-go : goal.decreases-go
decreases-go l = 4 * length l.rest.now + 3

abbrev pub decreases-go_in_document : goal.decreases-go_in_document
decreases-go_in_document l = 4 * length l.rest.now + 2

abbrev pub decreases-go_in_field : goal.decreases-go_in_field
decreases-go_in_field l = 4 * length l.rest.now + 1

abbrev pub decreases-go_in_array : goal.decreases-go_in_array
decreases-go_in_array l = 4 * length l.rest.now + 2
