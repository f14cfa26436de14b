use Rattle.std.proofs.Common.{subst, sym}
use Rattle.zpl_region.specs.Region.{IsRegion}
use Rattle.grid_layout.proofs.HeldLemmas.{region_of_held}
use Rattle.grid_layout.proofs.SideLemmas.{held_is}
use Rattle.grid_layout.proofs.blocks.Blocks.held.Goals as goal

pub returns-clause-held : goal.returns-clause-held
returns-clause-held c = held_is c.args.self.now c.args.array.now c.args.p c.sides-sides.result c.held_by.result c.sides-sides.ensures.sides c.held_by.ensures.held

pub returns-clause-region : goal.returns-clause-region
returns-clause-region c =
    subst IsRegion (sym (returns-clause-held c))
    (region_of_held c.args.self.now c.args.array.now c.args.p c.requires.blocks c.requires.array c.held_by.ensures.three c.requires.processor)
