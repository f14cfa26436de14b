use Rattle.std.proofs.Common.{◌≡◌, pos, [], ◌∷◌, filter, length, get_or, refl, ap, ◌∙◌, w64, to_z, of_z, arith}
use Rattle.std.proofs.lemmas.Int.{ints}
use Rattle.lower_regions.specs.of_zpl_lowering.Slate.{is_moving}
use Rattle.lower_operators.proofs.CopyLemmas.{slots-are}
use Rattle.lower_operators.proofs.wrapping.border_slots.Goals as goal

pub returns : goal.returns
returns c =
    let v = c.args.shift in
    let x : to_z w64 (of_z w64 (get_or v 0 (pos 0))) ≡ get_or v 0 (pos 0) = omega (arith, ints) in
    let y : to_z w64 (of_z w64 (get_or v 1 (pos 0))) ≡ get_or v 1 (pos 0) = omega (arith, ints) in
    let z : to_z w64 (of_z w64 (get_or v 2 (pos 0))) ≡ get_or v 2 (pos 0) = omega (arith, ints) in
    c.slots_for.ensures
    ∙ slots-are v c.moving.result c.moving-2.result c.moving-3.result _ (omega arith)
    (c.moving.ensures.count ∙ ap (λ d. length (filter is_moving (d ∷ []))) x)
    (c.moving-2.ensures.count ∙ ap (λ d. length (filter is_moving (d ∷ []))) y)
    (c.moving-3.ensures.count ∙ ap (λ d. length (filter is_moving (d ∷ []))) z) refl
