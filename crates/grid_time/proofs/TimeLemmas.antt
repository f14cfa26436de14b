-- Timed runs, turn by turn.
use Rattle.std.proofs.Common.{◌≡◌, ℕ, suc, ◌+◌, ◌<◌, ◌≤◌, List, [], ◌∷◌, ◌++◌, length, Option, Some, None, Result, Ok, Err, refl, sym, ◌∙◌, ap, subst, arith, add-one, length-append}
use Rattle.zpl_nums.specs.declared.ends.End.{End}
use Rattle.zpl_io.specs.Faults.{CountsFaults}
use Rattle.grid_meaning.specs.Grid.{start_grid, system_over}
use Rattle.grid_meaning.specs.Local.{processors}
use Rattle.grid_meaning.specs.Order.{turn_number}
use Rattle.grid_meaning.proofs.GridLemmas.{length-start_locals}
use Rattle.grid_runs.specs.Run.{IsStopped, Run, grid_at, next_processor, turns_in}
use Rattle.grid_runs.proofs.TurnLemmas.{turns_at}
use Rattle.grid_sim.specs.Run.{IsRun, run_in, run_to}
use Rattle.grid_sim.specs.Simulation.{IsGiven, IsMade, IsNotGiven, IsTold, Simulation, turn_in}
use Rattle.grid_sim.specs.Stop.{IsAtEnd, IsStop, IsTurnAt}
use Rattle.grid_sim.specs.declared.faults.SimFault.{SimFault}
use Rattle.grid_sim.specs.declared.faults.SimFault.TheVariants as fault
use Rattle.grid_sim.specs.declared.runs.Rounds.{Rounds}
use Rattle.grid_sim.specs.declared.turns.Told.{Told}
use Rattle.grid_sim.specs.declared.turns.Turned.TheVariants as turned
use Rattle.grid_sim.proofs.RunLemmas.{HasGiven, given_more, given_none, run_limited, run_refused, run_stopped}
use Rattle.grid_ticks.specs.Ticks.{GoesOnWith, TellsMovesOn}
use Rattle.grid_timetable.specs.History.{History, no_moves}
use Rattle.grid_timetable.specs.Table.{IsTableOf}
use Rattle.grid_timetable.specs.declared.table.Table.{Table}
use Rattle.grid_time.specs.Timed.{IsAddedTo, IsPastMoves, IsTimedRun, MayAddTurn, history_at, history_with, moves_at, timed_as}
use Rattle.grid_time.specs.declared.faults.TimeFault.{TimeFault}
use Rattle.grid_time.specs.declared.faults.TimeFault.TheVariants as time
use Rattle.grid_time.proofs.MoveLemmas.{IsToldOn, goes_on_at, past_at, told_on}

-- what is printed goes nowhere
abbrev pub Unseen : List ℕ → Type 0
Unseen bytes = ⊥

-- ---- turns are counted
counted : (run : Run) (sim : Simulation) (k : ℕ) → sim ≡ run_to run k
    → sim.grid.turns ≡ run.start.turns + k
counted run sim k is = ap (λ (s : Simulation). s.grid.turns) is ∙ turns_at run k

turns_are : (run : Run) (sim : Simulation) (j k : ℕ) → sim ≡ run_to run j
    → sim.grid.turns ≡ run.start.turns + k → k ≡ j
turns_are run sim j k is many =
    let at : sim.grid.turns ≡ run.start.turns + j = counted run sim j is in
    omega (arith, at, many)

-- ---- where a timed run is
pub record IsTimedTo (run : Run) (first : Table) (new : Simulation) (order : List ℕ) (rounds : Rounds)
    (table : Table) : Type 0 where
  pub so : HasGiven run new order rounds Unseen Unseen
  pub count : rounds.count ≡ processors run.code
  pub some : 0 < rounds.count
  pub tells : (latency : ℕ) → IsTableOf first (no_moves (processors run.code) latency)
      → IsTableOf table (history_at run latency so.turns)

-- before the first turn the table is that of no moves
none_told : (run : Run) (latency : ℕ) → no_moves (processors run.code) latency ≡ history_at run latency 0
none_told run latency = ap (λ n. no_moves n latency) (sym (length-start_locals run.code))

pub timed_none : (sim : Simulation) (all : List ℕ) (limit : ℕ) (rounds : Rounds) (table : Table)
    → sim.grid.printed ≡ [] → rounds.left ≡ limit → rounds.next ≡ 0 → 0 < rounds.count
    → rounds.count ≡ processors sim.code
    → IsTimedTo (run_in sim all limit) table sim all rounds table
timed_none sim all limit rounds table silent left next some count =
    let run : Run = run_in sim all limit in
    let so : HasGiven run sim all rounds Unseen Unseen =
    given_none sim all limit rounds Unseen silent left next some in
    let none : 0 ≡ so.turns = turns_are run sim so.turns 0 so.grid (omega arith) in
    record {
      so = so;
      count = count;
      some = some;
      tells = λ latency is. subst (λ k. IsTableOf table (history_at run latency k)) none
          (subst (IsTableOf table) (none_told run latency) is);
    }

-- ---- how it ends
module _ (run : Run) (first : Table) (new : Simulation) (order : List ℕ) (rounds : Rounds)
    (table : Table) (at : IsTimedTo run first new order rounds table) (latency : ℕ)
    (begins : IsTableOf first (no_moves (processors run.code) latency)) where
  -- the table is that of as many turns as the grid was given
  table_at : (sim : Simulation) (k : ℕ) → sim ≡ new → sim ≡ run_to run k
      → IsTableOf table (history_at run latency k)
  table_at sim k same is =
      subst (λ n. IsTableOf table (history_at run latency n))
      (turns_are run sim k at.so.turns is
      (ap (λ (s : Simulation). s.grid.turns) same ∙ counted run new at.so.turns at.so.grid))
      (at.tells latency begins)

  -- the grid is over or idle
  pub timed_stopped : (answer : Result End SimFault)
      → IsStop new.code new.capacity new.grid (Some answer)
      → IsTimedRun run latency new table (timed_as answer)
  timed_stopped (Ok ending) stop =
      let ran = run_stopped run new order rounds Unseen Unseen (Ok ending) at.so stop in
      record {
        turns = ran.turns;
        within = ran.within;
        goes_on = ran.goes_on;
        grid = ran.grid;
        ends = (ran.ends, table_at new ran.turns refl ran.grid);
      }
  timed_stopped (Err fault.TurnLimit) stop = absurd stop
  timed_stopped (Err fault.SinkFailed) stop = absurd stop
  timed_stopped (Err (fault.Stuck p kind)) stop =
      let ran = run_stopped run new order rounds Unseen Unseen (Err (fault.Stuck p kind)) at.so stop in
      record {
        turns = ran.turns;
        within = ran.within;
        goes_on = ran.goes_on;
        grid = ran.grid;
        ends = (ran.ends, table_at new ran.turns refl ran.grid);
      }
  timed_stopped (Err fault.NoMemory) stop = absurd stop

  -- there are no more turns
  pub timed_limited : (left : List ℕ) → (IsStopped new.code new.capacity new.grid → ⊥)
      → IsAtEnd run.order run.limit at.so.turns left
      → IsTimedRun run latency new table (Err (time.Cut fault.TurnLimit))
  timed_limited left goes_on end =
      let ran = run_limited run new order left rounds Unseen Unseen at.so goes_on end in
      record {
        turns = ran.turns;
        within = ran.within;
        goes_on = ran.goes_on;
        grid = ran.grid;
        ends = (ran.ends, table_at new ran.turns refl ran.grid);
      }

  -- the next turn was not given
  module _ (next : Simulation) (left : List ℕ) (rest : Rounds) (before after : List ℕ → Type 0) (p : ℕ)
      (kept : rest.count ≡ rounds.count)
      (goes_on : IsStopped new.code new.capacity new.grid → ⊥)
      (turn : IsTurnAt run.order run.limit at.so.turns left rest p) where
    pub timed_refused : (refusal : SimFault) → IsNotGiven new next p before after refusal
        → (refusal ≡ fault.SinkFailed → ⊥)
        → IsTimedRun run latency next table (Err (time.Cut refusal))
    timed_refused fault.TurnLimit made put = absurd made
    timed_refused fault.SinkFailed made put = absurd (put refl)
    timed_refused (fault.Stuck q kind) made put =
        let ran = run_refused run new next order left rounds rest Unseen Unseen Unseen p
        (fault.Stuck q kind) at.so at.count kept goes_on turn made (λ other taken no. no) in
        record {
          turns = ran.turns;
          within = ran.within;
          goes_on = ran.goes_on;
          grid = ran.grid;
          ends = (ran.ends, table_at next ran.turns made.2 ran.grid);
        }
    timed_refused fault.NoMemory made put =
        let ran = run_refused run new next order left rounds rest Unseen Unseen Unseen p
        fault.NoMemory at.so at.count kept goes_on turn made (λ other taken no. no) in
        record {
          turns = ran.turns;
          within = ran.within;
          goes_on = ran.goes_on;
          grid = ran.grid;
          ends = tt;
        }

-- ---- a turn that was given
module _ (run : Run) (starts : run.start ≡ start_grid run.code)
    (law : TellsMovesOn (system_over run.code run.capacity)) (first : Table)
    (new next : Simulation) (order left : List ℕ) (rounds rest : Rounds) (table : Table)
    (at : IsTimedTo run first new order rounds table) (before after : List ℕ → Type 0) (p : ℕ)
    (told : Told) (kept : rest.count ≡ rounds.count)
    (goes_on : IsStopped new.code new.capacity new.grid → ⊥)
    (turn : IsTurnAt run.order run.limit at.so.turns left rest p)
    (made : IsGiven new next p before after) (is : IsTold (turn_in new p) told) where
  abbrev k : ℕ
  k = at.so.turns

  p_is : p ≡ next_processor run k
  p_is = turn.number ∙ ap (λ n. turn_number run.order n k) (kept ∙ at.count)

  abbrev given_it : HasGiven run next left rest Unseen Unseen
  given_it =
      given_more run new next order left rounds rest Unseen Unseen Unseen p at.so at.count kept goes_on
      turn (record { grid = made.grid; takes = λ taken no. no }) told.turned is.turned

  turns_is : k + 1 ≡ given_it.turns
  turns_is =
      let one : next.grid.turns ≡ run.start.turns + (k + 1) =
      (let many : new.grid.turns ≡ run.start.turns + k = counted run new k at.so.grid in
      let more : next.grid.turns ≡ new.grid.turns + 1 = ap (λ (s : Simulation). s.grid.turns) made.grid in
      omega (arith, many, more)) in
      turns_are run next given_it.turns (k + 1) given_it.grid one

  on : (latency : ℕ) → IsToldOn (history_at run latency k) (history_at run latency (suc k)) p told
  on latency =
      told_on (history_at run latency k) (history_at run latency (suc k)) p (turn_in new p) told
      (subst (λ q. GoesOnWith (history_at run latency k) (history_at run latency (suc k)) q (turn_in new p))
      (sym p_is)
      (subst (λ t. GoesOnWith (history_at run latency k) (history_at run latency (suc k)) (next_processor run k) t)
      turn_is (goes_on_at run starts law latency k)))
      is
    where
      turn_is : turn_in (run_to run k) (next_processor run k) ≡ turn_in new p
      turn_is = ap (λ sim. turn_in sim (next_processor run k)) (sym at.so.grid)
          ∙ ap (turn_in new) (sym p_is)

  pub may_tell : (latency : ℕ) → IsTableOf first (no_moves (processors run.code) latency)
      → MayAddTurn table p told told.turned
  may_tell latency begins = (on latency).may table (at.tells latency begins)

  module _ (added : Table) where
    abbrev Adds : Result (Unit {0}) TimeFault → Type 0
    Adds result = (history : History) → IsTableOf table history → IsAddedTo added history p told result

    pub timed_more : Adds (Ok tt) → IsTimedTo run first next left rest added
    timed_more adds = record {
      so = given_it;
      count = kept ∙ at.count;
      some = subst (λ n. 0 < n) (sym kept) at.some;
      tells = λ latency begins.
          subst (IsTableOf added) (ap (history_at run latency) (sym (add-one k) ∙ turns_is))
          (subst (IsTableOf added) (sym (on latency).history)
          (adds (history_at run latency k) (at.tells latency begins)));
    }

    pub timed_full : (fault : TimeFault) → Adds (Err fault) → (latency : ℕ)
        → IsTableOf first (no_moves (processors run.code) latency)
        → IsTimedRun run latency next added (Err fault)
    timed_full time.TooManyMoves adds latency begins =
        let full = adds (history_at run latency k) (at.tells latency begins) in
        let one : moves_at run (suc k) ≡ moves_at run k + 1 =
        ap (λ (h : History). length h.moves) ((on latency).history ∙ ap (history_with (history_at run latency k) p told) full.0)
        ∙ length-append (history_at run latency k).moves _ in
        record {
          turns = given_it.turns;
          within = given_it.place.within;
          goes_on = given_it.goes_on;
          grid = given_it.grid;
          ends = subst (IsPastMoves run) (sym (add-one k) ∙ turns_is) (past_at run starts law k full.1 one);
        }
    timed_full (time.Cut cut) adds latency begins =
        let none : cut ≡ fault.NoMemory = adds (history_at run latency k) (at.tells latency begins) in
        subst (λ c. IsTimedRun run latency next added (Err (time.Cut c))) (sym none) (record {
          turns = given_it.turns;
          within = given_it.place.within;
          goes_on = given_it.goes_on;
          grid = given_it.grid;
          ends = tt;
        })
