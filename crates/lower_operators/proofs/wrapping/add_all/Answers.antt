use Rattle.std.proofs.Common.{◌≡◌, pos, [], ◌∷◌, ◌++◌, flat_map, sym, ap, ap₂, ◌∙◌, w64, to_z, of_z, arith}
use Rattle.std.proofs.lemmas.Int.{ints}
use Rattle.zpl_nums.specs.Integer.{is_true}
use Rattle.lower_regions.specs.of_zpl_lowering.Hoist.{kept_or_not}
use Rattle.lower_operators.proofs.WrapLemmas.{all-chosen, each-two}
use Rattle.lower_operators.proofs.wrapping.add_all.Goals as goal

pub returns-in_ok-add_rows-2 : goal.returns-in_ok-add_rows-2
returns-in_ok-add_rows-2 c =
    let old = c.args.all.now.items in
    let mid = c.add_rows.new.all.items in
    let x : to_z w64 (of_z w64 c.args.x) ≡ c.args.x = omega (arith, ints) in
    let y : to_z w64 (of_z w64 c.args.y) ≡ c.args.y = omega (arith, ints) in
    let z : to_z w64 (of_z w64 c.args.z) ≡ c.args.z = omega (arith, ints) in
    each-two (λ rest. flat_map (kept_or_not c.args.x) (kept_or_not c.args.y rest)) old mid
    c.add_rows-then-is_moving.new.all.items c.args.z []
    (sym (c.is_moving.ensures ∙ ap is_true z) ∙ c.if-is_moving.true)
    (c.in_ok-add_rows.ensures
    ∙ ap₂ (λ a b. old ++ flat_map (kept_or_not a) (kept_or_not b (pos 0 ∷ []))) x y)
    (c.in_ok-add_rows-2.ensures
    ∙ ap₂ (λ a b. mid ++ flat_map (kept_or_not a)
    (kept_or_not b (to_z w64 (of_z w64 c.args.z) ∷ []))) x y
    ∙ ap (λ d. mid ++ flat_map (kept_or_not c.args.x) (kept_or_not c.args.y (d ∷ []))) z)
    ∙ ap (λ l. old ++ l) (all-chosen c.args.x c.args.y c.args.z)
