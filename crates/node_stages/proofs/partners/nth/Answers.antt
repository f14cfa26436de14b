use Rattle.std.proofs.Common.{◌≡◌, length, arith}
use Rattle.node_stages.specs.Partners.{flagged}
use Rattle.node_stages.proofs.PartnerLemmas.{flagged-at, flagged-set, flagged-clear}
use Rattle.node_stages.proofs.partners.nth.Goals as goal
use Rattle.node_stages.proofs.partners.nth.Goals.{then-flags-q+else-left-eq0, else-flags-q}

pub returns-then-left-eq0 : goal.returns-then-left-eq0
returns-then-left-eq0 c =
    let counted : length (flagged c.args.flags.now c.loop-q.q) ≡ c.args.place = omega arith in
    flagged-at c.args.flags.now c.args.count c.loop-q.q c.args.place (omega arith) c.if-flags-q.true counted

pub loop-q-preserved : goal.loop-q-preserved
loop-q-preserved c =
    elim c.if-flags-q.branch [
      | then-flags-q+else-left-eq0 w ↦ omega (arith, flagged-set c.args.flags.now c.loop-q.q w.if-flags-q.true)
      | else-flags-q w ↦ omega (arith, flagged-clear c.args.flags.now c.loop-q.q w.if-flags-q.false)
    ]
