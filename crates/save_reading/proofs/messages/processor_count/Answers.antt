use Rattle.std.proofs.Common.{◌∙◌, ap}
use Rattle.grid_layout.specs.Grid.{processors_of}
use Rattle.save_reading.proofs.BoxLemmas.{counted}
use Rattle.save_reading.proofs.messages.processor_count.Goals as goal

pub returns : goal.returns
returns c = c.count.ensures.count ∙ (ap processors_of c.grid.ensures ∙ counted c.args._code.now c.args.layout.now c.requires)
