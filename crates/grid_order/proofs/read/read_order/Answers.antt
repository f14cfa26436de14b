use Rattle.std.proofs.Common.{arith, sym, ◌∙◌}
use Rattle.grid_order.proofs.ReadLemmas.{step-gap, step-on, step-end}
use Rattle.grid_order.proofs.read.read_order.Goals as goal
use Rattle.grid_order.proofs.read.read_order.Goals.{then-is_gap+in_ok-add_word, else-is_gap}

pub loop-i-preserved : goal.loop-i-preserved
loop-i-preserved c =
    let text = c.args.bytes.now in
    let before = c.loop-i.invariant in
    elim c.if-is_gap.branch [
      | then-is_gap+in_ok-add_word w ↦
          rw (w.order-is, w.from-is) (record {
            begun = omega arith;
            read = step-gap c.args.count c.loop-i.order w.add_word.new.order text c.loop-i.from c.loop-i.i before.begun c.loop-i-test.true
                (sym (w.if-is_gap.ensures {u = tt})) (w.in_ok-add_word.ensures {u = tt}).added ∙ before.read;
          })
      | else-is_gap w ↦
          rw (w.order-is, w.from-is) (record {
            begun = omega arith;
            read = step-on c.args.count c.loop-i.order text c.loop-i.from c.loop-i.i before.begun c.loop-i-test.true
                (sym (w.if-is_gap.ensures {u = tt})) ∙ before.read;
          })
    ]

pub returns-clause-read : goal.returns-clause-read
returns-clause-read c =
    sym c.loop-i.invariant.read
    ∙ step-end c.args.count c.loop-i.order c.add_word-2.new.order c.args.bytes.now c.loop-i.from c.loop-i.i c.loop-i-test.false c.loop-i.auto.i-end
    (c.in_ok-add_word-2.ensures {u = tt}).added
