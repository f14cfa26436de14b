use Rattle.std.proofs.Common.{◌≡◌, get_or, to_z, of_z, w64, pos, ◌∙◌, ap, arith}
use Rattle.std.proofs.lemmas.Int.{ints}
use Rattle.zpl_region.specs.declared.dims.Dim.TheVariants.{Range}
use Rattle.zpl_arrays.specs.Border.{each_border_source}
use Rattle.zpl_arrays.proofs.BorderCode.{sources_told}
use Rattle.zpl_arrays.proofs.sources.border_source.Goals as goal

pub returns : goal.returns
returns c =
    let v = c.components.result in
    let x = c.args.x in
    let v0 : to_z w64 (of_z w64 (get_or v 0 (pos 0))) ≡ get_or v 0 (pos 0) = omega (arith, ints) in
    let v1 : to_z w64 (of_z w64 (get_or v 1 (pos 0))) ≡ get_or v 1 (pos 0) = omega (arith, ints) in
    let v2 : to_z w64 (of_z w64 (get_or v 2 (pos 0))) ≡ get_or v 2 (pos 0) = omega (arith, ints) in
    let x0 : to_z w64 (of_z w64 (get_or x 0 (pos 0))) ≡ get_or x 0 (pos 0) = omega (arith, ints) in
    let x1 : to_z w64 (of_z w64 (get_or x 1 (pos 0))) ≡ get_or x 1 (pos 0) = omega (arith, ints) in
    let x2 : to_z w64 (of_z w64 (get_or x 2 (pos 0))) ≡ get_or x 2 (pos 0) = omega (arith, ints) in
    let a = rw (v0, x0) at c.border_coordinate.ensures in
    let b = rw (v1, x1) at c.border_coordinate-2.ensures in
    let d = rw (v2, x2) at c.border_coordinate-3.ensures in
    sources_told c.args.kind v c.args.region.now.dims x (Range (pos 0) (pos 0) (pos 0) (pos 0)) _ _ _ (omega arith) (omega arith) (omega arith) (omega (arith, ints)) (omega (arith, ints)) (omega (arith, ints))
    ∙ ap (λ u. each_border_source c.args.kind u c.args.region.now.dims x) c.components.ensures
