use Rattle.std.proofs.Common.{sym, subst}
use Rattle.row_progress.specs.Walk.{IsAlong}
use Rattle.row_progress.proofs.SenderLemmas.{less_under, more_gathered, more_processors}
use Rattle.row_progress.proofs.WalkLemmas.{along, turned_on}
use Rattle.row_progress.proofs.senders.senders.Goals as goal

pub next_stage-stage-requires-clause-along : goal.next_stage-stage-requires-clause-along
next_stage-stage-requires-clause-along c =
    subst (λ w. IsAlong c.args.code.now c.args.p w c.args.row.now) (sym c.loop-k.invariant.0)
    (along c.args.code.now c.args.p c.args.local.now c.args.row.now c.requires.start c.loop-k.k
    (less_under c.args.code.now c.args.p c.args.local.now c.args.row.now c.requires.start c.loop-k.k c.args.made c.loop-k-test.true c.requires.under))

pub loop-k-preserved : goal.loop-k-preserved
loop-k-preserved c = (
  turned_on c.args.code.now c.args.p c.args.local.now c.args.row.now c.requires.start c.loop-k.k c.loop-k.local c.count_turn.new.self c.loop-k.invariant.0 c.count_turn.ensures,
  more_gathered c.args.code.now c.args.p c.args.local.now c.args.row.now c.requires.start c.loop-k.k c.loop-k.local c.next_stage-stage.result c.loop-k.numbers.items c.add_sender.new.numbers.items
      c.loop-k.invariant.0 c.next_stage-stage.ensures c.in_ok-add_sender.ensures c.loop-k.invariant.1,
  more_processors c.args.code.now c.args.p c.args.local.now c.args.row.now c.requires.start c.loop-k.k c.loop-k.local c.next_stage-stage.result c.loop-k.numbers.items c.add_sender.new.numbers.items
      c.loop-k.invariant.0 c.next_stage-stage.ensures c.in_ok-add_sender.ensures c.loop-k.invariant.2,
)
