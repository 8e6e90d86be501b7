use Rattle.doc_path.proofs.Down.{field_has_room}
use Rattle.place_tests.proofs.places.sets_and_resizes.Goals as goal

pub set-requires : goal.set-requires
set-requires g c = rw c.in_ok-field.ensures (field_has_room _ _)
