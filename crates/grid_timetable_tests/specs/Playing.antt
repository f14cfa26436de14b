-- Moves that may be added one after another, as a test that computes.
use Rattle.std.specs.Prelude.{◌≡◌, ℕ, ◌<◌, ◌&&◌, nat_lt, Bool, true, List, [], ◌∷◌, length, map, Option, Some, None}
use Rattle.grid_timetable.specs.declared.table.Table.{Table}
use Rattle.grid_timetable.specs.Run.{Move, Run, sent_at, taken_at}
use Rattle.grid_timetable.specs.History.{History, run_of, with_move}
use Rattle.grid_timetable.specs.Table.{IsTableOf}
use Rattle.grid_timetable_tests.specs.declared.adding.Told.{Told}

abbrev pub move_of : Told → Move
move_of told = record { processor = told.processor; sent = told.sent; took = told.took }

abbrev pub is_below : ℕ → Option ℕ → Bool
is_below count None = true
is_below count (Some p) = nat_lt p count

abbrev pub has_message : Run → ℕ → Option ℕ → Bool
has_message run to None = true
has_message run to (Some from) =
    nat_lt (length (taken_at run from to)) (length (sent_at run from to))

abbrev pub may_come : History → Move → Bool
may_come history move =
    nat_lt move.processor history.count && (is_below history.count move.sent
    && (is_below history.count move.took && has_message (run_of history) move.processor move.took))

abbrev pub plays : History → List Move → Bool
plays history [] = true
plays history (move ∷ moves) = may_come history move && plays (with_move history move) moves

-- the table of some moves, behind which these may come
pub record MayPlay (table : Table) (moves : List Told) : Type 0 where
  pub history : History
  pub is : IsTableOf table history
  pub plays_all : plays history (map move_of moves) ≡ true

-- the table of some moves of at least one processor
pub record IsFilled (table : Table) : Type 0 where
  pub history : History
  pub is : IsTableOf table history
  pub some : 0 < history.count
