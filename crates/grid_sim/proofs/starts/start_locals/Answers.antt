use Rattle.std.proofs.Common.{◌≡◌, ◌+◌, sym, subst, map}
use Rattle.std.specs.List.{range_with_len}
use Rattle.grid_meaning.specs.Local.{start_local}
use Rattle.node_local.specs.Workplace.{Workplace}
use Rattle.std.specs.Prelude.{List}
use Rattle.grid_sim.specs.Processors.{AllReady, state_of}
use Rattle.grid_sim.proofs.StartLemmas.{ready_more, start_more}
use Rattle.grid_sim.proofs.starts.start_locals.Goals as goal

pub loop-p-preserved : goal.loop-p-preserved
loop-p-preserved c =
    let code = c.args.code.now in
    let w = c.in_ok-new.field-0 in
    record {
      start = subst (λ (ws : List Workplace). map state_of ws ≡ map (start_local code) (range_with_len 0 (c.loop-p.p + 1))) (sym c.in_ok-push.ensures.items)
          (start_more code c.loop-p.locals.items w c.loop-p.p c.loop-p.invariant.start c.in_ok-new.ensures.start);
      ready = subst (AllReady code) (sym c.in_ok-push.ensures.items)
          (ready_more code c.loop-p.locals.items w c.loop-p.p c.loop-p.invariant.ready c.loop-p.invariant.start c.in_ok-new.ensures.ready);
    }
