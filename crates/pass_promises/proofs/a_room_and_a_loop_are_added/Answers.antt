use Rattle.pass_promises.proofs.AddedLemmas.{few_loops, few_rooms, no_others}
use Rattle.pass_promises.proofs.a_room_and_a_loop_are_added.Goals as goal

pub returns : goal.returns
returns c = record { rooms = few_rooms; loops = few_loops; others = no_others }
