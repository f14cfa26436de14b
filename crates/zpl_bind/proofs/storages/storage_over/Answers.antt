use Rattle.zpl_tree.specs.View.{inner_of}
use Rattle.zpl_parts.specs.of_zpl_binding.Storages.{shape_borders}
use Rattle.std.proofs.Common.{refl}
use Rattle.zpl_bind.specs.Known.{known_in}
use Rattle.zpl_bind.specs.Storages.{borders_in}
use Rattle.zpl_bind.specs.Tables.{listed}
use Rattle.zpl_bind.proofs.StorageLemmas.{point-storage}
use Rattle.zpl_bind.proofs.storages.storage_over.Goals as goal

pub returns-then-region-eq0 : goal.returns-then-region-eq0
returns-then-region-eq0 c =
    point-storage (listed c.args.known.now.directions) (known_in c.args.known.now)
    c.args.region.now (shape_borders (known_in c.args.known.now) (borders_in c.args.borders.now)
    (inner_of c.args.inner.now)) refl c.if-region-eq0.true c.requires.region
