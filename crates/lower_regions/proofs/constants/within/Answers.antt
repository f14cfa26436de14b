use Rattle.std.proofs.Common.{ap, sym}
use Rattle.lower_places.specs.of_zpl_lowering.Bracket as plain
use Rattle.lower_regions.proofs.constants.within.Goals as goal

pub returns-in-Ok : goal.returns-in-Ok
returns-in-Ok c = sym (ap plain.within c.in-Ok.ensures.computes)

pub returns-in-Err : goal.returns-in-Err
returns-in-Err c = sym (ap plain.within c.in-Err.ensures.computes.fails)
