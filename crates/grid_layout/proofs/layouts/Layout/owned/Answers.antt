use Rattle.std.proofs.Common.{subst, sym}
use Rattle.zpl_region.specs.Region.{IsRegion}
use Rattle.grid_layout.specs.Layout.{laid_out}
use Rattle.grid_layout.proofs.SideLemmas.{owned_is}
use Rattle.grid_layout.proofs.SoundLemmas.{owned_is_region}
use Rattle.grid_layout.proofs.layouts.Layout.owned.Goals as goal

pub returns-clause-owned : goal.returns-clause-owned
returns-clause-owned c =
    owned_is (laid_out c.args.self.now) c.args.from c.args.to c.args.region.now c.sides-sides.result.now c.sides-others.result.now c.owned_by.result
    c.sides-sides.ensures.sides c.sides-others.ensures.sides c.owned_by.ensures.owned

pub returns-clause-region : goal.returns-clause-region
returns-clause-region c = λ is.
    subst IsRegion (sym (returns-clause-owned c)) (owned_is_region (laid_out c.args.self.now) c.args.from c.args.to c.args.region.now c.sides-sides.ensures.blocks c.requires.owner c.owned_by.ensures.dims is)
