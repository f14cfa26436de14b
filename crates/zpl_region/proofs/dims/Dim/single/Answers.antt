use Rattle.std.proofs.Common.{◌≡◌, w64, to_z, of_z, Some, ◌∙◌, ap, arith}
use Rattle.std.proofs.lemmas.Int.{ints}
use Rattle.zpl_region.specs.declared.dims.Dim.TheVariants.{Range}
use Rattle.zpl_region.specs.Dim.{IsDim}
use Rattle.zpl_region.proofs.HullCode.{single_none, single_some}
use Rattle.zpl_region.proofs.dims.Dim.single.Goals as goal

pub returns-then-coordinates-eq1 : goal.returns-then-coordinates-eq1
returns-then-coordinates-eq1 c =
    let d = c.in_default in
    let asked : IsDim (Range d.field-0 d.field-1 d.field-2 d.field-3) = rw c.in_default.is at c.requires in
    let first_is : to_z w64 (of_z w64 c.progression-coordinates.result.first) ≡ c.progression-coordinates.result.first = omega (arith, ints) in
    ap Some first_is ∙ rw c.in_default.is (single_some c.progression-coordinates.result d.field-0 d.field-1 d.field-2 d.field-3 asked.0 (rw c.in_default.is at c.progression-coordinates.ensures.terms) c.if-coordinates-eq1.true)

pub returns-else-coordinates-eq1 : goal.returns-else-coordinates-eq1
returns-else-coordinates-eq1 c =
    let d = c.in_default in
    let asked : IsDim (Range d.field-0 d.field-1 d.field-2 d.field-3) = rw c.in_default.is at c.requires in
    rw c.in_default.is (single_none c.progression-coordinates.result d.field-0 d.field-1 d.field-2 d.field-3 asked.0 (rw c.in_default.is at c.progression-coordinates.ensures.terms) c.if-coordinates-eq1.false)
