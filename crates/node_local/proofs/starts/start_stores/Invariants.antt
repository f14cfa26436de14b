use Rattle.std.proofs.Common.{◌≡◌, map, take, pos}
use Rattle.grid_meaning.specs.of_zpl_arrays.Array.{array_of}
use Rattle.grid_meaning.specs.of_grid_layout.Layout.{laid_out}
use Rattle.grid_meaning.specs.Local.{start_places}
use Rattle.grid_meaning.specs.Stored.{arrangement_of}
use Rattle.node_local.proofs.starts.start_stores.Given as goal

abbrev pub invariant-loop-i : goal.invariant-loop-i
invariant-loop-i l =
    l.stores.items ≡ map (λ row. array_of (start_places (laid_out (arrangement_of l.code)) l.p row row.stored) (λ t. pos 0)) (take l.i l.code.arrays)
