use Rattle.std.proofs.Common.{◌≢◌, arith, subst}
use Rattle.std.specs.Prelude.{Option, Some}
use Rattle.zpl_nums.specs.declared.ends.End.{End}
use Rattle.zpl_nums.specs.declared.ends.End.TheVariants.{More}
use Rattle.grid_save.specs.Kept.{IsEnding}
use Rattle.grid_save.proofs.OnwardLemmas.{seen_more}
use Rattle.grid_save.proofs.writes.states_may_be.Goals as goal

pub loop-p-preserved : goal.loop-p-preserved
loop-p-preserved c =
    seen_more c.args.sim.now.code c.args.sim.now.grid.world.locals c.loop-p.p c.local.result.now.local c.local.ensures.state
    (record {
      state = c.local.ensures.ready.state;
      ending = subst (λ (ended : Option End). ended ≢ Some More → IsEnding ended) c.ending.ensures c.traps_have_lines.ensures;
    }) c.loop-p.invariant

pub returns : goal.returns
returns c = λ p local below there.
    c.loop-p.invariant p local (omega (arith, below, c.loop-p-test.false, c.processors-p-end.ensures)) there
