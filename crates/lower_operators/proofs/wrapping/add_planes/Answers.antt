use Rattle.std.proofs.Common.{◌≡◌, pos, [], ◌∷◌, ◌++◌, sym, ap, ap₂, ◌∙◌, w64, to_z, of_z, arith}
use Rattle.std.proofs.lemmas.Int.{ints}
use Rattle.zpl_nums.specs.Integer.{is_true}
use Rattle.lower_operators.proofs.WrapLemmas.{two-kept}
use Rattle.lower_operators.proofs.wrapping.add_planes.Goals as goal

pub returns-in_ok-push-2 : goal.returns-in_ok-push-2
returns-in_ok-push-2 c =
    let old = c.args.all.now.items in
    let mid = c.push.new.self.items in
    let x : to_z w64 (of_z w64 c.args.x) ≡ c.args.x = omega (arith, ints) in
    let y : to_z w64 (of_z w64 c.args.y) ≡ c.args.y = omega (arith, ints) in
    let z : to_z w64 (of_z w64 c.args.z) ≡ c.args.z = omega (arith, ints) in
    two-kept old mid c.push-then-is_moving.new.self.items
    c.args.x (c.args.y ∷ c.args.z ∷ [])
    (sym (c.is_moving.ensures ∙ ap is_true x) ∙ c.if-is_moving.true)
    (c.in_ok-push.ensures.items
    ∙ ap₂ (λ b d. old ++ (pos 0 ∷ b ∷ d ∷ []) ∷ []) y z)
    (c.in_ok-push-2.ensures.items
    ∙ ap₂ (λ b d. mid ++ (to_z w64 (of_z w64 c.args.x) ∷ b ∷ d ∷ []) ∷ []) y z
    ∙ ap (λ a. mid ++ (a ∷ c.args.y ∷ c.args.z ∷ []) ∷ []) x)
