use Rattle.std.proofs.Common.{◌≡◌, pos, arith}
use Rattle.grid_meaning.specs.of_zpl_region.declared.dims.Dim.{Dim}
use Rattle.grid_meaning.specs.of_zpl_region.declared.dims.Dim.TheVariants.{Range}
use Rattle.node_local.proofs.StoreLemmas.{counts_of}
use Rattle.node_local.proofs.stores.FlatStore.of_box.Goals as goal

abbrev blank : Dim
blank = Range (pos 0) (pos 0) (pos 0) (pos 0)

pub invariant_of-result : goal.invariant_of-result
invariant_of-result c =
    record {
      boxed = c.requires.boxed;
      bounds = c.requires.bounds;
      filled = c.requires.filled;
      counted = counts_of c.args.shape.dims blank c.size.result c.size-2.result (omega arith) c.size.ensures.size c.size-2.ensures.size;
    }
