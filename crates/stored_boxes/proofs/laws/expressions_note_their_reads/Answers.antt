use Rattle.stored_boxes.proofs.ReadLemmas.{settled_noted}
use Rattle.stored_boxes.proofs.laws.expressions_note_their_reads.Goals as goal

pub returns : goal.returns
returns c = settled_noted
