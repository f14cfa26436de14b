use Rattle.std.proofs.Common.{sym, subst}
use Rattle.zpl_region.specs.Region.{IsRegion}
use Rattle.node_check.proofs.RegionLemmas.{storage_fits}
use Rattle.node_check.proofs.places.is_within.Goals as goal

pub is_reference-requires-clause-storage : goal.is_reference-requires-clause-storage
is_reference-requires-clause-storage c =
    subst IsRegion (sym c.storage_of-storage.ensures.places)
    (storage_fits c.args.row.now c.storage_of-storage.ensures.many c.requires.row
    c.requires.stored)
