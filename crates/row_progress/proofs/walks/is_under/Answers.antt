use Rattle.std.proofs.Common.{sym, subst}
use Rattle.row_progress.specs.Walk.{IsAlong}
use Rattle.row_progress.proofs.WalkLemmas.{along, at_last, one_more, turned_on}
use Rattle.row_progress.proofs.walks.is_under.Goals as goal

pub next_stage-stage-requires-clause-along : goal.next_stage-stage-requires-clause-along
next_stage-stage-requires-clause-along c =
    subst (λ w. IsAlong c.args.code.now c.args.p w c.args.row.now) (sym c.loop-k.invariant.0)
    (along c.args.code.now c.args.p c.args.local.now c.args.row.now c.requires.start c.loop-k.k c.loop-k.invariant.1)

pub returns-in-Last-clause-under : goal.returns-in-Last-clause-under
returns-in-Last-clause-under c =
    at_last c.args.code.now c.args.p c.args.local.now c.args.row.now c.requires.start c.loop-k.k c.args.most c.loop-k.local c.loop-k.invariant.0 c.loop-k-test.true c.in-Last.ensures

pub loop-k-preserved : goal.loop-k-preserved
loop-k-preserved c = (
  turned_on c.args.code.now c.args.p c.args.local.now c.args.row.now c.requires.start c.loop-k.k c.loop-k.local c.count_turn.new.self c.loop-k.invariant.0 c.count_turn.ensures,
  one_more c.args.code.now c.args.p c.args.local.now c.args.row.now c.requires.start c.loop-k.k c.loop-k.local c.next_stage-stage.result c.loop-k.invariant.0 c.in_default.not-Last
      c.next_stage-stage.ensures,
)
