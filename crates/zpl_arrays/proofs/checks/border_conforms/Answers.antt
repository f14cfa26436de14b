use Rattle.std.proofs.Common.{◌≡◌, w64, to_z, of_z, get_or, pos, ◌∙◌, ap, arith}
use Rattle.std.proofs.lemmas.Int.{ints}
use Rattle.zpl_region.specs.declared.dims.Dim.TheVariants.{Range}
use Rattle.zpl_region.specs.Region.{components}
use Rattle.zpl_arrays.specs.Border.{dim_border_conforms}
use Rattle.zpl_arrays.proofs.CheckLemmas.{all_three, border_of_three}
use Rattle.zpl_arrays.proofs.checks.border_conforms.Goals as goal

pub returns : goal.returns
returns c =
    let r = c.args.region.now in
    let v = components r.rank c.args.d.now in
    let none = Range (pos 0) (pos 0) (pos 0) (pos 0) in
    let x : to_z w64 (of_z w64 c.component.result) ≡ get_or v 0 (pos 0) = omega (arith, ints, c.component.ensures) in
    let y : to_z w64 (of_z w64 c.component-2.result) ≡ get_or v 1 (pos 0) = omega (arith, ints, c.component-2.ensures) in
    let z : to_z w64 (of_z w64 c.component-3.result) ≡ get_or v 2 (pos 0) = omega (arith, ints, c.component-3.ensures) in
    all_three _ _ _ _ _ _ (c.dim_border_conforms-along_planes.ensures ∙ ap (λ d. dim_border_conforms d (get_or r.dims 0 none)) x)
    (c.dim_border_conforms-along_rows.ensures ∙ ap (λ d. dim_border_conforms d (get_or r.dims 1 none)) y)
    (c.dim_border_conforms-along_columns.ensures ∙ ap (λ d. dim_border_conforms d (get_or r.dims 2 none)) z)
    ∙ border_of_three c.args.d.now r none (omega arith) (omega arith)
