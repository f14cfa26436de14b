use Rattle.std.proofs.Common.{◌≡◌, ◌<◌, w64, to_z, of_z, ℤ, List, [], ◌∷◌, Option, Some, length, get_or, ◌∙◌, subst, arith}
use Rattle.std.proofs.lemmas.Int.{ints}
use Rattle.zpl_region.specs.Region.{members}
use Rattle.zpl_region.proofs.WalkLemmas.{Digits, blank, count_of_three, digits_of, nth_of_three}
use Rattle.zpl_region.proofs.regions.Region.nth.Goals as goal
use Rattle.zpl_region.proofs.regions.Region.nth.Goals.{After-progressions}

digits : (c : After-progressions) → Digits c.args.i (get_or c.progressions.result 0 blank).count (get_or c.progressions.result 1 blank).count (get_or c.progressions.result 2 blank).count
digits c =
    let three : length c.progressions.result ≡ 3 = omega arith in
    let below : c.args.i < length (members c.args.self.now) = omega arith in
    digits_of c.args.i _ _ _ (subst (λ n. c.args.i < n) (count_of_three c.progressions.result c.args.self.now three c.progressions.ensures.terms) below)

pub nonzero_div-line : goal.nonzero_div-line
nonzero_div-line c = (digits (goal.at.nonzero_div-line c).After-progressions).third

pub nonzero_div-line-2 : goal.nonzero_div-line-2
nonzero_div-line-2 c = (digits (goal.at.nonzero_div-line-2 c).After-progressions).second

pub at-requires-clause-in_count : goal.at-requires-clause-in_count
at-requires-clause-in_count c = (digits (goal.at.at-requires-clause-in_count c).After-progressions).plane

pub nonzero_rem-line : goal.nonzero_rem-line
nonzero_rem-line c = (digits (goal.at.nonzero_rem-line c).After-progressions).second

pub at-requires-2-clause-in_count : goal.at-requires-2-clause-in_count
at-requires-2-clause-in_count c = (digits (goal.at.at-requires-2-clause-in_count c).After-progressions).row

pub nonzero_rem-i : goal.nonzero_rem-i
nonzero_rem-i c = (digits (goal.at.nonzero_rem-i c).After-progressions).third

pub at-requires-3-clause-in_count : goal.at-requires-3-clause-in_count
at-requires-3-clause-in_count c = (digits (goal.at.at-requires-3-clause-in_count c).After-progressions).column

some_triple : {x x' y y' z z' : ℤ} → x ≡ x' → y ≡ y' → z ≡ z' → ◌≡◌ {A = Option (List ℤ)} (Some (x ∷ y ∷ z ∷ [])) (Some (x' ∷ y' ∷ z' ∷ []))
some_triple e f g = cc

pub returns : goal.returns
returns c =
    let three : length c.progressions.result ≡ 3 = omega arith in
    let plane_is : to_z w64 (of_z w64 c.at.result) ≡ c.at.result = omega (arith, ints) in
    let row_is : to_z w64 (of_z w64 c.at-2.result) ≡ c.at-2.result = omega (arith, ints) in
    let column_is : to_z w64 (of_z w64 c.at-3.result) ≡ c.at-3.result = omega (arith, ints) in
    some_triple plane_is row_is column_is
    ∙ nth_of_three c.progressions.result c.args.self.now c.args.i c.at.result c.at-2.result c.at-3.result three c.progressions.ensures.terms (omega arith) c.at.ensures c.at-2.ensures c.at-3.ensures
