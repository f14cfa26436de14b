-- What comes of adding a move.
--
--   MayAdd    the move may be added to the table
--   IsAdded   what comes of adding it, by the answer
use Rattle.std.specs.Prelude.{◌≡◌, ℕ, ◌<◌, Option, Result, Ok, Err, length}
use Rattle.grid_timetable.specs.declared.table.Table.{Table}
use Rattle.grid_timetable.specs.declared.table.TableFault.{TableFault}
use Rattle.grid_timetable.specs.declared.table.TableFault.TheVariants.{TooManyMoves, NoMemory}
use Rattle.grid_timetable.specs.Run.{Move}
use Rattle.grid_timetable.specs.History.{History, with_move, CanMove}
use Rattle.grid_timetable.specs.Table.{IsTableOf}

abbrev pub move_of : ℕ → Option ℕ → Option ℕ → Move
move_of p sent took = record { processor = p; sent = sent; took = took }

-- the table is one of moves behind which the move may come
pub record MayAdd (table : Table) (move : Move) : Type 0 where
  pub history : History
  pub is : IsTableOf table history
  pub can : CanMove history move

-- the most moves that a table takes
abbrev pub most_moves : ℕ
most_moves = 4194304

-- what comes of it, by the answer, where these moves were added before
abbrev pub IsAdded : Table → History → Move → Result (Unit {0}) TableFault → Type 0
IsAdded new history move (Ok done) =
    (length history.moves < most_moves) × IsTableOf new (with_move history move)
IsAdded new history move (Err TooManyMoves) = length history.moves ≡ most_moves
IsAdded new history move (Err NoMemory) = length history.moves < most_moves
