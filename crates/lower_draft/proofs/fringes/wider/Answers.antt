use Rattle.std.proofs.Common.{rules, ◌≡◌, ℤ, pos, neg_ℤ, ◌-ℤ◌, ap, ◌∙◌, arith, w64, to_z, of_z}
use Rattle.std.specs.Int.{int_max}
use Rattle.std.proofs.lemmas.Int.{ints}
use Rattle.lower_draft.proofs.FringeLemmas.{wider_by}
use Rattle.lower_draft.proofs.fringes.wider.Goals as goal

pub returns : goal.returns
returns c =
    let low = c.fringe.inside.low in
    let high = c.fringe.inside.high in
    let d = c.args.d in
    let d_is : to_z w64 (of_z w64 d) ≡ d = search rules in
    let low_is : to_z w64 (of_z w64 low) ≡ low = search rules in
    let high_is : to_z w64 (of_z w64 high) ≡ high = search rules in
    let turned : to_z w64 (of_z w64 (pos 0 -ℤ d)) ≡ neg_ℤ d = omega (arith, ints, c.requires) in
    let first : to_z w64 (of_z w64 c.max.result) ≡ c.max.result = search rules in
    let second : to_z w64 (of_z w64 c.max-2.result) ≡ c.max-2.result = search rules in
    wider_by c.args.fringe low high d (to_z w64 (of_z w64 c.max.result))
    (to_z w64 (of_z w64 c.max-2.result)) c.fringe.view_is
    (first ∙ c.max.ensures.value
    ∙ ap (λ (x : ℤ). int_max x (to_z w64 (of_z w64 (pos 0 -ℤ to_z w64 (of_z w64 d))))) low_is
    ∙ ap (λ (x : ℤ). int_max low (to_z w64 (of_z w64 (pos 0 -ℤ x)))) d_is
    ∙ ap (int_max low) turned)
    (second ∙ c.max-2.ensures.value
    ∙ ap (λ (x : ℤ). int_max x (to_z w64 (of_z w64 d))) high_is
    ∙ ap (int_max high) d_is)
