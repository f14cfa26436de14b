use Rattle.std.proofs.Common.{◌≡◌, to_z, of_z, w64, arith}
use Rattle.std.proofs.lemmas.Int.{ints}
use Rattle.move_plan.proofs.CodeLemmas.{piece_told}
use Rattle.move_plan.proofs.borders.piece_of.Goals as goal

pub returns : goal.returns
returns c =
    let d : to_z w64 (of_z w64 c.args.d) ≡ c.args.d = omega (arith, ints) in
    let f : to_z w64 (of_z w64 c.args.block.0) ≡ c.args.block.0 = omega (arith, ints) in
    let l : to_z w64 (of_z w64 c.args.block.1) ≡ c.args.block.1 = omega (arith, ints) in
    piece_told c.part.result c.args.kind c.args.d c.args.dim c.args.block.0 c.args.block.1 c.args.own c.args.still c.target_bounds-lo.result _ _ c.in_default.not-Flood
    (rw (d, f, l) at c.target_bounds-lo.ensures) (omega (arith, ints)) (omega (arith, ints)) c.part.ensures
