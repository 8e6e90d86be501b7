use Rattle.sorted_list.proofs.Ends.{seat_end}
use Rattle.sorted_list.proofs.seats.all_end_below.Goals as goal

pub returns-in-Some : goal.returns-in-Some
returns-in-Some g c = λ ord h r o t.
    seat_end ord c.args.chunks.now c.in-Some.chunk.now r o c.in-Some.ensures.value (c.ends_below.ensures ord h t)
