use Rattle.std.proofs.Common.{◌≡◌, ◌∙◌, ◌+◌, ap, drop, length, rules, Some}
use Rattle.std.specs.Prelude.{slice_get}
use Rattle.node_check.specs.Walk.{Walk, entered, left, walked}
use Rattle.node_check.proofs.CodeLemmas.{walked_step}
use Rattle.node_check.proofs.LessLemmas.{step_long}
use Rattle.node_check.proofs.walks.Walk.go.Goals as goal

pub loop-i-preserved : goal.loop-i-preserved
loop-i-preserved c =
    let code = c.args.tables.now in
    let i = c.loop-i.i in
    let row = c.unwrap.result.now in
    let here : slice_get code.code i ≡ Some row = search rules in
    let next : c.leave.new.self ≡ left code row (entered i c.loop-i.self) =
    c.in_ok-leave.ensures ∙ ap (left code row) c.in_ok-enter.ensures in
    record {
      left =
          ap (walked code (i + 1) (drop (i + 1) code.code)) next
          ∙ (walked_step code code.code i row c.loop-i.self here ∙ c.loop-i.invariant.left);
      many =
          ap (λ (walk : Walk). length walk.fronts) next
          ∙ (step_long code i row c.loop-i.self ∙ c.loop-i.invariant.many);
    }
