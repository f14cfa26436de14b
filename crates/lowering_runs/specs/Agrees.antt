-- A run of structured code goes as the array meaning does.
use Rattle.std.specs.Prelude.{ℕ, ◌+◌, ◌*◌, ◌≤◌, List}
use Rattle.zpl_nums.specs.declared.ends.End.TheVariants.{Done, Trap, More}
use Rattle.zpl_nums.specs.declared.ends.TrapKind.{TrapKind}
use Rattle.lowering_fits.specs.of_zpl_meaning.Store.{Store}
use Rattle.lowering_fits.specs.of_zpl_meaning.Outcome.{Outcome}
use Rattle.row_runs.specs.Run.{Ends}
use Rattle.row_runs.specs.Structured.{Course, GoesOn, Over, Wants}
use Rattle.lowering_fits.specs.of_flat_form.Whole.{Whole}

-- Both go on, to a store and a state that are alike; or both end with the same trap; or both want a
-- further turn of a loop. Up to there they have printed the same. Where code doesn't want a turn it
-- has made at most two jumps for each step, and some to spare; where a loop that isn't shattered
-- wants one, at least as many jumps as it had turns.
pub data Agrees (IsAlike : Store → Whole → Type 0) (turns spare : ℕ)
    : Outcome → Course Whole → Type 0 where
  Going : {store : Store} {after : Whole} {bytes : List ℕ} {steps jumps : ℕ} → IsAlike store after
      → jumps ≤ 2 * steps + spare → Agrees IsAlike turns spare
      (record { store = store; bytes = bytes; ending = Done; steps = steps })
      (record { close = GoesOn; state = after; bytes = bytes; jumps = jumps })
  Trapping : {store : Store} {after : Whole} {bytes : List ℕ} {steps jumps : ℕ} {kind : TrapKind}
      {line : ℕ} → jumps ≤ 2 * steps + spare → Agrees IsAlike turns spare
      (record { store = store; bytes = bytes; ending = Trap kind line; steps = steps })
      (record { close = Over (Ends (Trap kind line)); state = after; bytes = bytes; jumps = jumps })
  Shattering : {store : Store} {after : Whole} {bytes : List ℕ} {steps jumps : ℕ}
      → Agrees IsAlike turns spare
      (record { store = store; bytes = bytes; ending = More; steps = steps })
      (record { close = Over (Ends More); state = after; bytes = bytes; jumps = jumps })
  Wanting : {store : Store} {after : Whole} {bytes : List ℕ} {steps jumps : ℕ} → turns ≤ jumps
      → Agrees IsAlike turns spare
      (record { store = store; bytes = bytes; ending = More; steps = steps })
      (record { close = Wants; state = after; bytes = bytes; jumps = jumps })
