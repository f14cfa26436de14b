use Rattle.std.proofs.Common.{◌≡◌, ◌∙◌, ◌+◌, ◌<◌, ◌≤◌, suc, sym, ap, arith, length, take, drop, ◌++◌}
use Rattle.node_check.specs.Path.{without}
use Rattle.node_check.proofs.CodeLemmas.{closed_at, closed_end, closed_past}
use Rattle.node_check.proofs.starts.close.Goals as goal

pub returns-then-index-exchange : goal.returns-then-index-exchange
returns-then-index-exchange c =
    c.remove.ensures.items
    ∙ (sym (closed_at c.loop-i.opened.items c.loop-i.i c.index.result.now c.args.exchange
    (omega (arith, ap length c.loop-i.invariant.same)) (sym c.index.ensures ∙ c.if-index-exchange.true))
    ∙ c.loop-i.invariant.rest)

pub returns : goal.returns
returns c =
    closed_end c.loop-i.opened.items c.loop-i.i c.args.exchange
    (omega (arith, ap length c.loop-i.invariant.same))
    ∙ c.loop-i.invariant.rest

pub loop-i-preserved : goal.loop-i-preserved
loop-i-preserved c =
    let more : suc c.loop-i.i ≡ c.loop-i.i + 1 = omega arith in
    record {
      same = c.loop-i.invariant.same;
      rest =
          sym (closed_past c.loop-i.opened.items c.loop-i.i c.index.result.now c.args.exchange
          (omega (arith, ap length c.loop-i.invariant.same))
          (λ is. c.if-index-exchange.false (c.index.ensures ∙ is))
          ∙ ap (λ n. take n c.loop-i.opened.items
          ++ without c.args.exchange (drop n c.loop-i.opened.items)) more)
          ∙ c.loop-i.invariant.rest;
    }
