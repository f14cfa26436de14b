use Rattle.std.proofs.Common.{◌≡◌, w64, to_z, of_z, get_or, pos, sym, ◌∙◌, ap, arith}
use Rattle.std.proofs.lemmas.Int.{ints}
use Rattle.zpl_arrays.proofs.CheckLemmas.{component_past, component_within}
use Rattle.zpl_arrays.proofs.checks.component.Goals as goal

pub returns-then-place-rank : goal.returns-then-place-rank
returns-then-place-rank c =
    let here : to_z w64 (of_z w64 (get_or c.args.v.now c.from.result (pos 0))) ≡ get_or c.args.v.now c.from.result (pos 0) = omega (arith, ints) in
    here ∙ (ap (λ k. get_or c.args.v.now k (pos 0)) c.from.ensures ∙ sym (component_within c.args.rank c.args.v.now c.args.place (pos 0) c.if-place-rank.true))

pub returns-else-place-rank : goal.returns-else-place-rank
returns-else-place-rank c = sym (component_past c.args.rank c.args.v.now c.args.place c.if-place-rank.false)
