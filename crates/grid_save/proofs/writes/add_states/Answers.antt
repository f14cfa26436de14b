use Rattle.std.proofs.Common.{◌≡◌, ◌≤◌, ◌+◌, ℕ, ap, arith}
use Rattle.std.specs.List.{flat_map, range_with_len}
use Rattle.std.specs.Prelude.{slice_get}
use Rattle.grid_meaning.specs.Local.{processors}
use Rattle.grid_save.specs.Written.{state_lines}
use Rattle.grid_save.proofs.WriteLemmas.{number_more, writes_none, writes_same}
use Rattle.grid_save.proofs.writes.add_states.Goals as goal

pub loop-p-init : goal.loop-p-init
loop-p-init c = (omega arith, writes_none c.args.text.now.items)

pub loop-p-preserved : goal.loop-p-preserved
loop-p-preserved c =
    let sim = c.args.sim.now in
    let inside : c.loop-p.p + 1 ≤ processors sim.code = omega (arith, c.loop-p-test.true, c.processors-p-end.ensures) in (
      inside,
      number_more (λ q. state_lines sim.code sim.grid.world.links q (slice_get sim.grid.world.locals q)) c.args.text.now.items
          c.loop-p.text.items c.add_state.new.text.items c.loop-p.p c.loop-p.invariant.1 c.in_ok-add_state.ensures,
    )

pub returns : goal.returns
returns c =
    let sim = c.args.sim.now in
    let f = λ (q : ℕ). state_lines sim.code sim.grid.world.links q (slice_get sim.grid.world.locals q) in
    let all : c.loop-p.p ≡ processors sim.code = omega (arith, c.loop-p.invariant.0, c.loop-p-test.false, c.processors-p-end.ensures) in
    writes_same c.args.text.now.items c.loop-p.text.items _ _ (ap (λ n. flat_map f (range_with_len 0 n)) all) c.loop-p.invariant.1
