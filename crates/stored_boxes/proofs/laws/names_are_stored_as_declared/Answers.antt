use Rattle.stored_boxes.proofs.DeclaredLemmas.{stored_as}
use Rattle.stored_boxes.proofs.laws.names_are_stored_as_declared.Goals as goal

pub returns : goal.returns
returns c = stored_as
