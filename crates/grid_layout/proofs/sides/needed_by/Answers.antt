use Rattle.std.proofs.Common.{◌≡◌, get_or, to_z, of_z, w64, pos, false, ◌∙◌, ap, arith}
use Rattle.std.proofs.lemmas.Int.{ints}
use Rattle.zpl_region.specs.declared.dims.Dim.TheVariants.{Range}
use Rattle.grid_layout.specs.Sides.{each_side_needed}
use Rattle.grid_layout.proofs.SideLemmas.{needs_told}
use Rattle.grid_layout.proofs.sides.needed_by.Goals as goal

pub returns-clause-needed : goal.returns-clause-needed
returns-clause-needed c =
    let r = c.args.region.now in
    let v = c.components.result in
    let held = c.args.held.now.dims in
    let v0 : to_z w64 (of_z w64 (get_or v 0 (pos 0))) ≡ get_or v 0 (pos 0) = omega (arith, ints) in
    let v1 : to_z w64 (of_z w64 (get_or v 1 (pos 0))) ≡ get_or v 1 (pos 0) = omega (arith, ints) in
    let v2 : to_z w64 (of_z w64 (get_or v 2 (pos 0))) ≡ get_or v 2 (pos 0) = omega (arith, ints) in
    ap (λ dims. record { rank = r.rank; dims = dims })
    (needs_told c.args.sides.now held v r.dims (record { block = 0; first = pos 0; last = pos 0; is_empty = false }) (Range (pos 0) (pos 0) (pos 0) (pos 0)) _ _ _
    (omega arith) (omega arith) (omega arith) (omega arith)
    (rw v0 at c.needed.ensures) (rw v1 at c.needed-2.ensures) (rw v2 at c.needed-3.ensures)
    ∙ ap (λ u. each_side_needed c.args.sides.now held u r.dims) c.components.ensures)
