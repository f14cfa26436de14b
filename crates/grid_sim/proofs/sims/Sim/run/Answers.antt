use Rattle.std.proofs.Common.{◌≡◌, ◌≢◌, ◌∙◌, ap, sym, subst, Result, Ok, Err}
use Rattle.std.specs.Result.{IsErrAnd}
use Rattle.zpl_nums.specs.declared.ends.End.{End}
use Rattle.zpl_io.specs.Sink.{Takes}
use Rattle.grid_sim.specs.declared.faults.SimFault.{SimFault}
use Rattle.grid_sim.specs.declared.faults.SimFault.TheVariants.{SinkFailed}
use Rattle.grid_runs.specs.Run.{Run, grid_at}
use Rattle.grid_sim.specs.Run.{IsRun, run_in}
use Rattle.grid_sim.proofs.RunLemmas.{counts_same, given_more, next_turns, run_limited, run_refused, run_stopped}
use Rattle.grid_sim.proofs.CountLemmas.{adds_on}
use Rattle.grid_sim.proofs.sims.Sim.run.Goals as goal

pub returns-in-Some-clause-run : goal.returns-in-Some-clause-run
returns-in-Some-clause-run g c =
    run_stopped (run_in c.args.self.now c.args.order.now c.args.tail_limit) c.turns.self c.turns.order c.turns.rounds _ _ c.in-Some.answer
    c.turns.invariant.so c.in-Some.ensures

pub returns-in_default-next_turn-clause-run : goal.returns-in_default-next_turn-clause-run
returns-in_default-next_turn-clause-run g c =
    let so = c.turns.invariant.so in
    let stop = c.in_default.ensures in
    run_limited (run_in c.args.self.now c.args.order.now c.args.tail_limit) c.turns.self c.turns.order c.next_turn.new.order c.turns.rounds _ _ so
    stop (c.in_default-next_turn.ensures.next c.args.order.now c.args.tail_limit so.turns so.place)

pub turn-requires-clause-turns : goal.turn-requires-clause-turns
turn-requires-clause-turns g c =
    let so = c.turns.invariant.so in
    let turn = c.in-Some-next_turn.ensures.next c.args.order.now c.args.tail_limit so.turns so.place in
    next_turns (run_in c.args.self.now c.args.order.now c.args.tail_limit) c.turns.self so.turns so.grid turn.more c.requires.turns

pub turns-preserved : goal.turns-preserved
turns-preserved g c =
    let so = c.turns.invariant.so in
    let turn = c.in-Some-next_turn.ensures.next c.args.order.now c.args.tail_limit so.turns so.place in
    let made = c.in_ok-turn.ensures.made in
    record {
      so = given_more (run_in c.args.self.now c.args.order.now c.args.tail_limit) c.turns.self c.turn.new.self c.turns.order c.next_turn.new.order
          c.turns.rounds c.next_turn.new.rounds _ _ _ c.in-Some-next_turn.p so c.turns.invariant.count c.next_turn.ensures.count
          c.in_default.ensures turn made.0 _ made.1;
      count = c.next_turn.ensures.count ∙ c.turns.invariant.count;
      adds = adds_on _ _ _ c.turns.invariant.adds c.in_ok-turn.ensures.adds;
      faults = counts_same _ _ _ c.in_ok-turn.ensures.counts (λ failed. cc) ∙ c.turns.invariant.faults;
      last = λ has. c.turns.invariant.last (c.in_ok-turn.ensures.stops.goes_on (λ failed. cc) has);
    }

-- the fault is handed on as it is
passed_on : (answer : Result End SimFault) (refusal : SimFault) → IsErrAnd answer (λ given. given ≡ refusal) → answer ≡ Err refusal
passed_on (Ok ending) refusal is = absurd is
passed_on (Err given) refusal is = ap Err is

pub returns-in_err-turn-clause-run : goal.returns-in_err-turn-clause-run
returns-in_err-turn-clause-run g c =
    let so = c.turns.invariant.so in
    let turn = c.in-Some-next_turn.ensures.next c.args.order.now c.args.tail_limit so.turns so.place in
    let refusal : SimFault = c.in_err-turn.field-0.0 in
    let run : Run = run_in c.args.self.now c.args.order.now c.args.tail_limit in
    let taken : refusal ≢ SinkFailed → Takes (g.O.Sink.tells c.args.out.now) (grid_at run so.turns).printed (g.O.Sink.tells c.turn.new.out) =
    λ other. subst (λ out. Takes (g.O.Sink.tells c.args.out.now) (grid_at run so.turns).printed (g.O.Sink.tells out))
    (sym (c.in_err-turn.ensures.same_sink (λ same. other (let is : refusal ≡ SinkFailed = cc in is)))) so.takes in
    subst (IsRun run c.turn.new.self c.next_turn.new.order _ _) (sym (passed_on c.from_residual.result refusal c.from_residual.ensures.1))
    (run_refused run c.turns.self c.turn.new.self c.turns.order c.next_turn.new.order
    c.turns.rounds c.next_turn.new.rounds _ _ _ c.in-Some-next_turn.p refusal so c.turns.invariant.count c.next_turn.ensures.count
    c.in_default.ensures turn c.in_err-turn.ensures.made taken)
