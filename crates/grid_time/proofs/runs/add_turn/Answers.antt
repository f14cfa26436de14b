use Rattle.std.proofs.Common.{Err, subst}
use Rattle.grid_timetable.specs.Adding.{IsAdded, move_of}
use Rattle.grid_time.proofs.runs.add_turn.Goals as goal

pub returns-in-Err-TooManyMoves : goal.returns-in-Err-TooManyMoves
returns-in-Err-TooManyMoves c = λ history is. (
  c.in-Moved.is,
  subst
      (λ full. IsAdded c.add.new.self history
      (move_of c.args.p c.args.told.sent c.args.told.took) (Err full))
      c.in-Err-TooManyMoves.field-0-is
      ((c.in-Err-TooManyMoves.ensures {u = tt}).added history is),
)
