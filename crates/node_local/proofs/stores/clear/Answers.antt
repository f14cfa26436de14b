use Rattle.std.proofs.Common.{length, rules, arith}
use Rattle.node_local.proofs.LogLemmas.{all_zeros}
use Rattle.node_local.proofs.stores.clear.Goals as goal

pub returns : goal.returns
returns c =
    let done = c.loop-value-test.false in
    all_zeros c.loop-value.values (length c.args.values.now) (search rules)
    (λ k below. c.loop-value.invariant k (omega arith))
