-- A run that was cut in two: its grid is saved after some turns, and another run goes on from that.
--
--   joined       one run, under the turns of the first and then the order of the other
--   in_front     a grid that had printed some bytes before
--   GoesOnFrom   the other run goes on from the grid that was saved
--   AreOne       the two runs are that one
--   EndAsOne     so is what comes of them
use Rattle.std.specs.Prelude.{◌≡◌, ℕ, ◌+◌, Bool, List, ◌++◌}
use Rattle.grid_meaning.specs.Grid.{Grid, after_from, processors}
use Rattle.grid_meaning.specs.Order.{given}
use Rattle.grid_runs.specs.Run.{Run, grid_at, GoesOnTo}
use Rattle.exec_claims.specs.Cause.{RunCause}
use Rattle.resume_claims.specs.Cause.{OnwardCause}
use Rattle.resume_claims.specs.Saving.{saved_at}

-- the first k turns of one run, and behind them the first j of another
abbrev pub both : Run → ℕ → Run → ℕ → List ℕ
both run k onward j =
    given run.order (processors run.code) k ++ given onward.order (processors run.code) j

abbrev pub after_both : Run → ℕ → Run → ℕ → Grid
after_both run k onward j = after_from run.code run.capacity run.start (both run k onward j)

-- from the start of the first run: its first k turns, then the order of the other run, and as many
-- turns round the processors as may follow that
abbrev pub joined : Run → ℕ → Run → Run
joined run k onward = record run {
  order = given run.order (processors run.code) k ++ onward.order;
  limit = onward.limit;
}

abbrev pub in_front : List ℕ → Grid → Grid
in_front bytes grid = record grid { printed = bytes ++ grid.printed }

pub record GoesOnFrom (run : Run) (k : ℕ) (onward : Run) : Type 0 where
  pub code : onward.code ≡ run.code
  pub capacity : onward.capacity ≡ run.capacity
  pub start : onward.start ≡ saved_at run k

-- The first k + j turns of the joined run are the turns of both. The grid after them has printed
-- what both printed, in this order; its states, its messages and its counts are those of the grid
-- that the other one comes to.
pub record AreOne (run : Run) (k : ℕ) (onward : Run) (j : ℕ) : Type 0 where
  pub turns : given (joined run k onward).order (processors run.code) (k + j) ≡ both run k onward j
  pub grid : after_both run k onward j ≡ in_front (grid_at run k).printed (grid_at onward j)

-- The joined run stops before none of these turns if neither run does, and what came of the other
-- one after j turns came of the joined run after k + j, with the same report.
pub record EndAsOne (run : Run) (k : ℕ) (onward : Run) (j : ℕ) : Type 0 where
  pub goes_on : GoesOnTo run k → GoesOnTo onward j → GoesOnTo (joined run k onward) (k + j)
  pub cause : (report : Bool) (status : ℕ) (told : List ℕ) → OnwardCause onward report j status told
      → RunCause (joined run k onward) report (k + j) status told
