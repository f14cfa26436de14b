use Rattle.std.proofs.Common.{◌≡◌, neg_ℤ, pos, get_or, ap, ◌∙◌, w64, to_z, of_z, arith}
use Rattle.std.proofs.lemmas.Int.{ints}
use Rattle.lower_operators.proofs.WrapLemmas.{mapped-three}
use Rattle.lower_operators.proofs.wrapping.back.Goals as goal

pub returns : goal.returns
returns c =
    let v = c.args.shift in
    let a : to_z w64 (of_z w64 (get_or v 0 (pos 0))) ≡ get_or v 0 (pos 0) = omega (arith, ints) in
    let b : to_z w64 (of_z w64 (get_or v 1 (pos 0))) ≡ get_or v 1 (pos 0) = omega (arith, ints) in
    let d : to_z w64 (of_z w64 (get_or v 2 (pos 0))) ≡ get_or v 2 (pos 0) = omega (arith, ints) in
    let x : to_z w64 (of_z w64 c.in_ok-x.x) ≡ c.in_ok-x.x = omega (arith, ints) in
    let y : to_z w64 (of_z w64 c.in_ok-y.y) ≡ c.in_ok-y.y = omega (arith, ints) in
    let z : to_z w64 (of_z w64 c.in_ok-z.z) ≡ c.in_ok-z.z = omega (arith, ints) in
    mapped-three neg_ℤ v _ _ _ (omega arith) (x ∙ c.in_ok-x.ensures ∙ ap neg_ℤ a)
    (y ∙ c.in_ok-y.ensures ∙ ap neg_ℤ b) (z ∙ c.in_ok-z.ensures ∙ ap neg_ℤ d)
