use Rattle.std.proofs.Common.{◌≡◌, ◌+◌, length}
use Rattle.state_listing.proofs.listing.count.Given as goal

abbrev pub invariant-documents : goal.invariant-documents
invariant-documents l = l.count + length l.left ≡ length l.initial.left
