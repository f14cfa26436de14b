use Rattle.std.proofs.Common.{◌≡◌, get_or, to_z, of_z, w64, pos, ◌∙◌, ap, arith}
use Rattle.std.specs.Prelude.{unwrap_or}
use Rattle.std.proofs.lemmas.Int.{ints}
use Rattle.zpl_arrays.specs.of_zpl_region.declared.dims.Dim.TheVariants.{Range}
use Rattle.move_plan.proofs.CodeLemmas.{flood_sources_told}
use Rattle.move_plan.proofs.floods.flood_source.Goals as goal

pub returns : goal.returns
returns c =
    let x = c.args.x in
    let x0 : to_z w64 (of_z w64 (get_or x 0 (pos 0))) ≡ get_or x 0 (pos 0) = omega (arith, ints) in
    let x1 : to_z w64 (of_z w64 (get_or x 1 (pos 0))) ≡ get_or x 1 (pos 0) = omega (arith, ints) in
    let x2 : to_z w64 (of_z w64 (get_or x 2 (pos 0))) ≡ get_or x 2 (pos 0) = omega (arith, ints) in
    let r0 : to_z w64 (of_z w64 c.unwrap_or.result) ≡ c.unwrap_or.result = omega (arith, ints) in
    let r1 : to_z w64 (of_z w64 c.unwrap_or-2.result) ≡ c.unwrap_or-2.result = omega (arith, ints) in
    let r2 : to_z w64 (of_z w64 c.unwrap_or-3.result) ≡ c.unwrap_or-3.result = omega (arith, ints) in
    flood_sources_told c.args.source.now.dims x (Range (pos 0) (pos 0) (pos 0) (pos 0)) _ _ _ (omega arith) (omega arith)
    (r0 ∙ (rw x0 at c.unwrap_or.ensures ∙ ap (λ o. unwrap_or o (get_or x 0 (pos 0))) c.single.ensures))
    (r1 ∙ (rw x1 at c.unwrap_or-2.ensures ∙ ap (λ o. unwrap_or o (get_or x 1 (pos 0))) c.single-2.ensures))
    (r2 ∙ (rw x2 at c.unwrap_or-3.ensures ∙ ap (λ o. unwrap_or o (get_or x 2 (pos 0))) c.single-3.ensures))
