-- Moves that may be added one after another.
use Rattle.std.proofs.Common.{◌≡◌, ℕ, true, List, ◌∷◌, Option, Some, None, ltb-true}
use Rattle.std.proofs.lemmas.Bool.{and_parts}
use Rattle.grid_timetable.specs.declared.table.Table.{Table}
use Rattle.grid_timetable.specs.Run.{Move, Run}
use Rattle.grid_timetable.specs.History.{History, run_of, with_move, CanMove, IsBelow, HasMessage}
use Rattle.grid_timetable.specs.Table.{IsTableOf}
use Rattle.grid_timetable.specs.Adding.{MayAdd}
use Rattle.grid_timetable_tests.specs.declared.adding.Told.{Told}
use Rattle.grid_timetable_tests.specs.Playing.{move_of, is_below, has_message, may_come, MayPlay, IsFilled}

below_is : (count : ℕ) (p : Option ℕ) → is_below count p ≡ true → IsBelow count p
below_is count None e = tt
below_is count (Some p) e = ltb-true p count e

message_is : (run : Run) (to : ℕ) (p : Option ℕ) → has_message run to p ≡ true → HasMessage run to p
message_is run to None e = tt
message_is run to (Some from) e = ltb-true _ _ e

can_come : (history : History) (move : Move) → may_come history move ≡ true → CanMove history move
can_come history move e =
    let (a, b) = and_parts _ _ e in
    let (c, d) = and_parts _ _ b in
    let (f, g) = and_parts _ _ d in
    record {
      processor = ltb-true move.processor history.count a;
      receiver = below_is history.count move.sent c;
      sender = below_is history.count move.took f;
      message = message_is (run_of history) move.processor move.took g;
    }

-- ---- the first of the moves that are left
pub may_add : (table : Table) (told : Told) (rest : List Told) → MayPlay table (told ∷ rest) → MayAdd table (move_of told)
may_add table told rest may =
    let (first, others) = and_parts _ _ may.plays_all in
    record { history = may.history; is = may.is; can = can_come may.history (move_of told) first }

pub goes_on : (new : Table) (table : Table) (told : Told) (rest : List Told) (may : MayPlay table (told ∷ rest))
    → IsTableOf new (with_move may.history (move_of told)) → MayPlay new rest
goes_on new table told rest may is =
    let (first, others) = and_parts _ _ may.plays_all in
    record { history = with_move may.history (move_of told); is = is; plays_all = others }

-- ---- quiet moves
abbrev pub quiet : Move
quiet = record { processor = 0; sent = None; took = None }

pub quiet_next : (table : Table) → IsFilled table → MayAdd table quiet
quiet_next table is = record {
  history = is.history;
  is = is.is;
  can = record { processor = is.some; receiver = tt; sender = tt; message = tt };
}

pub filled_on : (new table : Table) (is : IsFilled table) → IsTableOf new (with_move is.history quiet) → IsFilled new
filled_on new table is more = record { history = with_move is.history quiet; is = more; some = is.some }
