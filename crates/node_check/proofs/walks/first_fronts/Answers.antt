use Rattle.std.proofs.Common.{◌≡◌, ◌∙◌, ◌+◌, List, Option, ap, arith, length}
use Rattle.node_check.specs.Front.{Point}
use Rattle.node_check.specs.Walk.{front_at}
use Rattle.node_check.proofs.CodeLemmas.{none_more, one_longer}
use Rattle.node_check.proofs.ValidLemmas.{first_kept}
use Rattle.node_check.proofs.walks.first_fronts.Goals as goal

pub loop-number-preserved : goal.loop-number-preserved
loop-number-preserved c =
    let long = ap (λ (fronts : List (Option Point)). length fronts) c.in_ok-push.ensures.items in
    let more = one_longer c.loop-number.fronts.items in
    record {
      same = λ at.
          ap (λ fronts. front_at fronts at) c.in_ok-push.ensures.items
          ∙ (none_more c.loop-number.fronts.items at ∙ c.loop-number.invariant.same at);
      many = omega (arith, long, more, c.loop-number.invariant.many);
    }

pub returns : goal.returns
returns c =
    let many : length c.loop-number.fronts.items ≡ length c.args.tables.now.code + 1 =
    omega (arith, c.loop-number.invariant.many) in
    first_kept c.args.tables.now c.loop-number.fronts.items c.loop-number.invariant.same many
