use Rattle.std.proofs.Common.{◌≡◌, get_or, to_z, of_z, w64, pos, ◌∙◌, ap, arith}
use Rattle.std.proofs.lemmas.Int.{ints}
use Rattle.zpl_arrays.specs.of_zpl_region.declared.dims.Dim.TheVariants.{Range}
use Rattle.zpl_arrays.specs.of_zpl_region.Dim.{dim_outside_of}
use Rattle.zpl_arrays.specs.of_zpl_region.Region.{each}
use Rattle.move_plan.proofs.CodeLemmas.{component_up_to, outsides_told}
use Rattle.move_plan.proofs.borders.targets.Goals as goal

pub outside-requires-clause-shift : goal.outside-requires-clause-shift
outside-requires-clause-shift c =
    let h = component_up_to c.components.result c.args.d.now c.args.region.now.rank 0 c.components.ensures c.requires.shift (omega arith) in (omega (arith, ints, h), omega (arith, ints, h))

pub outside-requires-2-clause-shift : goal.outside-requires-2-clause-shift
outside-requires-2-clause-shift c =
    let h = component_up_to c.components.result c.args.d.now c.args.region.now.rank 1 c.components.ensures c.requires.shift (omega arith) in (omega (arith, ints, h), omega (arith, ints, h))

pub outside-requires-3-clause-shift : goal.outside-requires-3-clause-shift
outside-requires-3-clause-shift c =
    let h = component_up_to c.components.result c.args.d.now c.args.region.now.rank 2 c.components.ensures c.requires.shift (omega arith) in (omega (arith, ints, h), omega (arith, ints, h))

pub returns : goal.returns
returns c =
    let r = c.args.region.now in
    let v = c.components.result in
    let v0 : to_z w64 (of_z w64 (get_or v 0 (pos 0))) ≡ get_or v 0 (pos 0) = omega (arith, ints) in
    let v1 : to_z w64 (of_z w64 (get_or v 1 (pos 0))) ≡ get_or v 1 (pos 0) = omega (arith, ints) in
    let v2 : to_z w64 (of_z w64 (get_or v 2 (pos 0))) ≡ get_or v 2 (pos 0) = omega (arith, ints) in
    ap (λ dims. record { rank = r.rank; dims = dims })
    (outsides_told v r.dims (Range (pos 0) (pos 0) (pos 0) (pos 0)) _ _ _ (omega arith) (omega arith) (rw v0 at c.outside.ensures) (rw v1 at c.outside-2.ensures) (rw v2 at c.outside-3.ensures)
    ∙ ap (λ u. each dim_outside_of u r.dims) c.components.ensures)
