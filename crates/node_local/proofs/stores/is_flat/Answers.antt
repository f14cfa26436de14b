use Rattle.std.proofs.Common.{◌≡◌, pos, get_or, ap, ◌∙◌, arith, w64, to_z, of_z}
use Rattle.std.proofs.lemmas.Int.{ints}
use Rattle.grid_meaning.specs.of_zpl_region.declared.dims.Dim.{Dim}
use Rattle.grid_meaning.specs.of_zpl_region.declared.dims.Dim.TheVariants.{Range}
use Rattle.node_local.specs.Reading.{is_flat_coordinate}
use Rattle.node_local.proofs.StoreLemmas.{flat_of_three, three_tests}
use Rattle.node_local.proofs.stores.is_flat.Goals as goal

abbrev blank : Dim
blank = Range (pos 0) (pos 0) (pos 0) (pos 0)

pub returns : goal.returns
returns c =
    let x : to_z w64 (of_z w64 (get_or c.args.x.now 0 (pos 0))) ≡ get_or c.args.x.now 0 (pos 0) = omega (arith, ints) in
    let y : to_z w64 (of_z w64 (get_or c.args.x.now 1 (pos 0))) ≡ get_or c.args.x.now 1 (pos 0) = omega (arith, ints) in
    let z : to_z w64 (of_z w64 (get_or c.args.x.now 2 (pos 0))) ≡ get_or c.args.x.now 2 (pos 0) = omega (arith, ints) in
    flat_of_three c.args.dims.now blank c.args.x.now (omega arith) (omega arith)
    (three_tests
    (c.is_flat_coordinate-plane.ensures ∙ ap (is_flat_coordinate (get_or c.args.dims.now 0 blank)) x)
    (c.is_flat_coordinate-row.ensures ∙ ap (is_flat_coordinate (get_or c.args.dims.now 1 blank)) y)
    (c.is_flat_coordinate-column.ensures ∙ ap (is_flat_coordinate (get_or c.args.dims.now 2 blank)) z))
