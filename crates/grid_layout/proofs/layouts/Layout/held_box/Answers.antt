use Rattle.std.proofs.Common.{subst, sym}
use Rattle.zpl_region.specs.Region.{IsRegion}
use Rattle.grid_layout.specs.Layout.{laid_out}
use Rattle.grid_layout.proofs.HeldLemmas.{region_of_held}
use Rattle.grid_layout.proofs.SideLemmas.{held_is}
use Rattle.grid_layout.proofs.layouts.Layout.held_box.Goals as goal

pub returns-clause-held : goal.returns-clause-held
returns-clause-held c =
    rw c.stored-stored.ensures.same at (held_is (laid_out c.args.self.now) c.stored-stored.result.now c.args.p c.sides.result.now c.held_by.result c.sides.ensures.sides c.held_by.ensures.held)

pub returns-clause-region : goal.returns-clause-region
returns-clause-region c =
    subst IsRegion (sym (held_is (laid_out c.args.self.now) c.stored-stored.result.now c.args.p c.sides.result.now c.held_by.result c.sides.ensures.sides c.held_by.ensures.held))
    (region_of_held (laid_out c.args.self.now) c.stored-stored.result.now c.args.p c.sides.ensures.blocks c.stored-stored.ensures.sound c.held_by.ensures.three c.requires.processor)
