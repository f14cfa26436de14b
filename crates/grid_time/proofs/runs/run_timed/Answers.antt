use Rattle.std.proofs.Common.{◌≡◌, Result, Ok, Err, refl, sym, ap, subst, arith}
use Rattle.std.specs.Result.{IsErrAnd}
use Rattle.zpl_nums.specs.declared.ends.End.{End}
use Rattle.grid_meaning.specs.Grid.{start_grid}
use Rattle.grid_runs.specs.Run.{Run}
use Rattle.grid_sim.specs.Run.{run_in}
use Rattle.grid_sim.specs.Simulation.{Simulation}
use Rattle.grid_sim.proofs.RunLemmas.{next_turns}
use Rattle.grid_time.specs.Timed.{IsTimedRun}
use Rattle.grid_time.specs.declared.faults.TimeFault.{TimeFault}
use Rattle.grid_time.proofs.TimeLemmas.{may_tell, timed_full, timed_limited, timed_more, timed_none}
use Rattle.grid_time.proofs.TimeLemmas.{timed_refused, timed_stopped}
use Rattle.grid_time.proofs.runs.run_timed.Goals as goal

-- a fault is handed on as it is
passed_on : (answer : Result End TimeFault) (fault : TimeFault)
    → IsErrAnd answer (λ given. given ≡ fault) → answer ≡ Err fault
passed_on (Ok ending) fault is = absurd is
passed_on (Err given) fault is = ap Err is

pub turns-init : goal.turns-init
turns-init c =
    timed_none c.args.sim.now c.args.order.now c.args.limit c.of-rounds.result c.args.table.now
    c.of-rounds.ensures.silent c.of-rounds.ensures.left c.of-rounds.ensures.next
    c.of-rounds.ensures.some c.of-rounds.ensures.count

pub returns-in-Some : goal.returns-in-Some
returns-in-Some c = λ latency begins.
    let run : Run = run_in c.args.sim.now c.args.order.now c.args.limit in
    subst (IsTimedRun run latency c.turns.sim c.turns.table) (sym c.timed.ensures)
    (timed_stopped run c.args.table.now c.turns.sim c.turns.order c.turns.rounds c.turns.table
    c.turns.invariant latency begins c.in-Some.answer c.in-Some.ensures)

pub returns-in_default-next_turn : goal.returns-in_default-next_turn
returns-in_default-next_turn c = λ latency begins.
    let run : Run = run_in c.args.sim.now c.args.order.now c.args.limit in
    let so = c.turns.invariant.so in
    timed_limited run c.args.table.now c.turns.sim c.turns.order c.turns.rounds c.turns.table
    c.turns.invariant latency begins c.next_turn.new.order c.in_default.ensures
    (c.in_default-next_turn.ensures.next c.args.order.now c.args.limit so.turns so.place)

pub turn_told-requires-clause-turns : goal.turn_told-requires-clause-turns
turn_told-requires-clause-turns c =
    let run : Run = run_in c.args.sim.now c.args.order.now c.args.limit in
    let so = c.turns.invariant.so in
    let turn = c.in-Some-next_turn.ensures.next c.args.order.now c.args.limit so.turns so.place in
    let none : c.args.sim.now.grid.turns ≡ 0 =
    ap (λ (s : Simulation). s.grid.turns) c.requires.start.1 in
    next_turns run c.turns.sim so.turns so.grid turn.more (omega (arith, none, c.requires.turns))

pub returns-in_err-told : goal.returns-in_err-told
returns-in_err-told c = λ latency begins.
    let run : Run = run_in c.args.sim.now c.args.order.now c.args.limit in
    let so = c.turns.invariant.so in
    let turn = c.in-Some-next_turn.ensures.next c.args.order.now c.args.limit so.turns so.place in
    subst (IsTimedRun run latency c.turn_told.new.self c.turns.table)
    (sym (passed_on c.from_residual.result _ c.from_residual.ensures.1))
    (timed_refused run c.args.table.now c.turns.sim c.turns.order c.turns.rounds c.turns.table
    c.turns.invariant latency begins c.turn_told.new.self c.next_turn.new.order
    c.next_turn.new.rounds _ _ c.in-Some-next_turn.p c.next_turn.ensures.count
    c.in_default.ensures turn c.in_err-told.field-0.0 c.in_err-told.ensures.made
    (λ failed. c.in_err-told.ensures.stops.fails (ap Err failed)))

pub add_turn-requires : goal.add_turn-requires
add_turn-requires c =
    let run : Run = run_in c.args.sim.now c.args.order.now c.args.limit in
    let so = c.turns.invariant.so in
    let turn = c.in-Some-next_turn.ensures.next c.args.order.now c.args.limit so.turns so.place in
    let starts : c.args.sim.now.grid ≡ start_grid c.args.sim.now.code =
    ap (λ (s : Simulation). s.grid) c.requires.start.1 in
    let made = c.in_ok-told.ensures.made in
    may_tell run starts (c.moves_are_told.ensures.turns run.code run.capacity) c.args.table.now
    c.turns.sim c.turn_told.new.self c.turns.order c.next_turn.new.order c.turns.rounds
    c.next_turn.new.rounds c.turns.table c.turns.invariant _ _ c.in-Some-next_turn.p
    c.in_ok-told.told c.next_turn.ensures.count c.in_default.ensures turn made.0 made.1
    c.requires.table.0 c.requires.table.1

pub turns-preserved : goal.turns-preserved
turns-preserved c =
    let run : Run = run_in c.args.sim.now c.args.order.now c.args.limit in
    let so = c.turns.invariant.so in
    let turn = c.in-Some-next_turn.ensures.next c.args.order.now c.args.limit so.turns so.place in
    let starts : c.args.sim.now.grid ≡ start_grid c.args.sim.now.code =
    ap (λ (s : Simulation). s.grid) c.requires.start.1 in
    let made = c.in_ok-told.ensures.made in
    timed_more run starts (c.moves_are_told.ensures.turns run.code run.capacity) c.args.table.now
    c.turns.sim c.turn_told.new.self c.turns.order c.next_turn.new.order c.turns.rounds
    c.next_turn.new.rounds c.turns.table c.turns.invariant _ _ c.in-Some-next_turn.p
    c.in_ok-told.told c.next_turn.ensures.count c.in_default.ensures turn made.0 made.1
    c.add_turn.new.table c.in_ok-add_turn.ensures

pub returns-in_err-add_turn : goal.returns-in_err-add_turn
returns-in_err-add_turn c = λ latency begins.
    let run : Run = run_in c.args.sim.now c.args.order.now c.args.limit in
    let so = c.turns.invariant.so in
    let turn = c.in-Some-next_turn.ensures.next c.args.order.now c.args.limit so.turns so.place in
    let starts : c.args.sim.now.grid ≡ start_grid c.args.sim.now.code =
    ap (λ (s : Simulation). s.grid) c.requires.start.1 in
    let made = c.in_ok-told.ensures.made in
    subst (IsTimedRun run latency c.turn_told.new.self c.add_turn.new.table)
    (sym (passed_on c.from_residual-in_err-add_turn.result _
    c.from_residual-in_err-add_turn.ensures.1))
    (timed_full run starts (c.moves_are_told.ensures.turns run.code run.capacity)
    c.args.table.now c.turns.sim c.turn_told.new.self c.turns.order c.next_turn.new.order
    c.turns.rounds c.next_turn.new.rounds c.turns.table c.turns.invariant _ _
    c.in-Some-next_turn.p c.in_ok-told.told c.next_turn.ensures.count c.in_default.ensures turn
    made.0 made.1 c.add_turn.new.table c.in_err-add_turn.field-0.0 c.in_err-add_turn.ensures
    latency begins)
