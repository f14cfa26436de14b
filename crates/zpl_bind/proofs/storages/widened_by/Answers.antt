use Rattle.std.proofs.Common.{sym, subst}
use Rattle.zpl_bind.specs.Storages.{IsAround}
use Rattle.zpl_bind.proofs.StorageLemmas.{alike, around-both, around-outside}
use Rattle.zpl_bind.proofs.storages.widened_by.Goals as goal
use Rattle.zpl_bind.proofs.storages.widened_by.Goals.{After-outside-1}

outside : (c : After-outside-1) → IsAround c.args.region.now c.outside_of-outside.result
outside c =
    subst (IsAround c.args.region.now) (sym c.outside_of-outside.ensures)
    (around-outside c.direction_named.result c.args.region.now c.requires.rank c.requires.region
    c.direction_named.ensures.vector)

pub hull_with-requires : goal.hull_with-requires
hull_with-requires c =
    alike c.args.region.now c.args.storage.now c.outside_of-outside.result c.requires.around
    (outside c)

pub returns-then-eq-clause-around : goal.returns-then-eq-clause-around
returns-then-eq-clause-around c =
    subst (IsAround c.args.region.now) (sym c.hull_with.ensures.hull)
    (around-both c.args.region.now c.args.storage.now c.outside_of-outside.result
    c.requires.around (outside (goal.at.returns-then-eq-clause-around c).After-outside-1))
