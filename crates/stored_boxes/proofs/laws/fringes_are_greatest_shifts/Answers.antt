use Rattle.stored_boxes.proofs.FringeLemmas.{box_is}
use Rattle.stored_boxes.proofs.laws.fringes_are_greatest_shifts.Goals as goal

pub returns : goal.returns
returns c = box_is
