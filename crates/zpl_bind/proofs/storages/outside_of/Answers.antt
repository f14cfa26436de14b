use Rattle.std.proofs.Common.{◌≡◌, pos, get_or, ap, ◌∙◌, w64, to_z, of_z, arith}
use Rattle.std.proofs.lemmas.Int.{ints}
use Rattle.std.specs.List.{list_all}
use Rattle.zpl_region.specs.declared.dims.Dim.{Dim}
use Rattle.zpl_region.specs.declared.dims.Dim.TheVariants.{Range}
use Rattle.zpl_region.specs.Dim.{dim_outside_of}
use Rattle.zpl_region.proofs.RegionLemmas.{formed_is}
use Rattle.zpl_parts.specs.of_zpl_binding.Vectors.{is_component}
use Rattle.zpl_bind.proofs.StorageLemmas.{components-fit, each-fit}
use Rattle.zpl_bind.proofs.storages.outside_of.Goals as goal

abbrev nothing : Dim
nothing = Range (pos 0) (pos 0) (pos 0) (pos 0)

pub outside-requires-clause-part : goal.outside-requires-clause-part
outside-requires-clause-part c =
    let x : to_z w64 (of_z w64 (get_or c.components.result 0 (pos 0))) ≡ get_or c.components.result 0 (pos 0) = omega (arith, ints) in
    ap is_component x ∙ each-fit c.components.result 0
    (ap (list_all is_component) c.components.ensures
    ∙ components-fit c.args.region.now.rank c.args.d c.requires.vector.1)

pub outside-requires-2-clause-part : goal.outside-requires-2-clause-part
outside-requires-2-clause-part c =
    let x : to_z w64 (of_z w64 (get_or c.components.result 1 (pos 0))) ≡ get_or c.components.result 1 (pos 0) = omega (arith, ints) in
    ap is_component x ∙ each-fit c.components.result 1
    (ap (list_all is_component) c.components.ensures
    ∙ components-fit c.args.region.now.rank c.args.d c.requires.vector.1)

pub outside-requires-3-clause-part : goal.outside-requires-3-clause-part
outside-requires-3-clause-part c =
    let x : to_z w64 (of_z w64 (get_or c.components.result 2 (pos 0))) ≡ get_or c.components.result 2 (pos 0) = omega (arith, ints) in
    ap is_component x ∙ each-fit c.components.result 2
    (ap (list_all is_component) c.components.ensures
    ∙ components-fit c.args.region.now.rank c.args.d c.requires.vector.1)

pub returns : goal.returns
returns c =
    let v = c.components.result in
    let dims = c.args.region.now.dims in
    let x : to_z w64 (of_z w64 (get_or c.components.result 0 (pos 0))) ≡ get_or c.components.result 0 (pos 0) = omega (arith, ints) in
    let y : to_z w64 (of_z w64 (get_or c.components.result 1 (pos 0))) ≡ get_or c.components.result 1 (pos 0) = omega (arith, ints) in
    let z : to_z w64 (of_z w64 (get_or c.components.result 2 (pos 0))) ≡ get_or c.components.result 2 (pos 0) = omega (arith, ints) in
    formed_is dim_outside_of c.args.region.now c.args.d v c.outside.result c.outside-2.result c.outside-3.result nothing c.components.ensures (omega arith) (omega arith)
    (c.outside.ensures ∙ ap (λ d. dim_outside_of d (get_or dims 0 nothing)) x)
    (c.outside-2.ensures ∙ ap (λ d. dim_outside_of d (get_or dims 1 nothing)) y)
    (c.outside-3.ensures ∙ ap (λ d. dim_outside_of d (get_or dims 2 nothing)) z)
