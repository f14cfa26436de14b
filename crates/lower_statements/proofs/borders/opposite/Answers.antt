use Rattle.std.proofs.Common.{◌≡◌, pos, get_or, ap, ◌∙◌, w64, to_z, of_z, arith, neg_ℤ}
use Rattle.std.proofs.lemmas.Int.{ints}
use Rattle.lower_statements.proofs.BorderLemmas.{negated_three}
use Rattle.lower_statements.proofs.borders.opposite.Goals as goal

pub returns : goal.returns
returns c =
    let v = c.args.shift in
    let a : to_z w64 (of_z w64 (get_or v 0 (pos 0))) ≡ get_or v 0 (pos 0) = omega (arith, ints) in
    let b : to_z w64 (of_z w64 (get_or v 1 (pos 0))) ≡ get_or v 1 (pos 0) = omega (arith, ints) in
    let d : to_z w64 (of_z w64 (get_or v 2 (pos 0))) ≡ get_or v 2 (pos 0) = omega (arith, ints) in
    let x : to_z w64 (of_z w64 c.in_ok-planes.planes) ≡ c.in_ok-planes.planes =
    omega (arith, ints) in
    let y : to_z w64 (of_z w64 c.in_ok-rows.rows) ≡ c.in_ok-rows.rows = omega (arith, ints) in
    let z : to_z w64 (of_z w64 c.in_ok-columns.columns) ≡ c.in_ok-columns.columns =
    omega (arith, ints) in
    negated_three v _ _ _ (omega arith) (x ∙ c.in_ok-planes.ensures ∙ ap neg_ℤ a)
    (y ∙ c.in_ok-rows.ensures ∙ ap neg_ℤ b) (z ∙ c.in_ok-columns.ensures ∙ ap neg_ℤ d)
