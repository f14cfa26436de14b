use Rattle.std.proofs.Common.{◌≡◌, get_or, to_z, of_z, w64, pos, false, ◌∙◌, ap, arith}
use Rattle.std.proofs.lemmas.Int.{ints}
use Rattle.zpl_region.specs.declared.dims.Dim.TheVariants.{Range}
use Rattle.grid_layout.specs.Layout.{or_emptied}
use Rattle.grid_layout.proofs.SideLemmas.{helds_told}
use Rattle.grid_layout.proofs.sides.held_by.Goals as goal

pub returns-clause-held : goal.returns-clause-held
returns-clause-held c =
    let box = c.args.array.now in
    let l0 : to_z w64 (of_z w64 (get_or box.low 0 (pos 0))) ≡ get_or box.low 0 (pos 0) = omega (arith, ints) in
    let l1 : to_z w64 (of_z w64 (get_or box.low 1 (pos 0))) ≡ get_or box.low 1 (pos 0) = omega (arith, ints) in
    let l2 : to_z w64 (of_z w64 (get_or box.low 2 (pos 0))) ≡ get_or box.low 2 (pos 0) = omega (arith, ints) in
    let h0 : to_z w64 (of_z w64 (get_or box.high 0 (pos 0))) ≡ get_or box.high 0 (pos 0) = omega (arith, ints) in
    let h1 : to_z w64 (of_z w64 (get_or box.high 1 (pos 0))) ≡ get_or box.high 1 (pos 0) = omega (arith, ints) in
    let h2 : to_z w64 (of_z w64 (get_or box.high 2 (pos 0))) ≡ get_or box.high 2 (pos 0) = omega (arith, ints) in
    c.or_emptied.ensures.region
    ∙ ap (λ dims. or_emptied (record { rank = box.shape.rank; dims = dims }))
    (helds_told c.args.sides.now box.low box.high box.shape.dims (record { block = 0; first = pos 0; last = pos 0; is_empty = false }) (Range (pos 0) (pos 0) (pos 0) (pos 0)) _ _ _
    (omega arith) (omega arith) (omega arith) (omega arith)
    (rw (l0, h0) at c.held.ensures.held) (rw (l1, h1) at c.held-2.ensures.held) (rw (l2, h2) at c.held-3.ensures.held))
