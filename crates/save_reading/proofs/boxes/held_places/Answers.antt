use Rattle.save_reading.proofs.BoxLemmas.{there}
use Rattle.save_reading.proofs.boxes.held_places.Goals as goal

pub held_box-held-requires-clause-processor : goal.held_box-held-requires-clause-processor
held_box-held-requires-clause-processor c = there c.args._code.now c.args.layout.now c.args.p c.requires.layout c.requires.processor
