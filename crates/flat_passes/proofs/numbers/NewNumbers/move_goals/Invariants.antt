use Rattle.std.proofs.Common.{◌≡◌, length}
use Rattle.flat_passes.specs.Numbers.{number_among}
use Rattle.flat_passes.specs.Rewritten.{with_moved_goal}
use Rattle.flat_passes.proofs.InPlaceLemmas.{changed}
use Rattle.flat_passes.proofs.numbers.NewNumbers.move_goals.Given as goal

abbrev pub invariant-loop-i : goal.invariant-loop-i
invariant-loop-i l = record {
  done : l.code ≡ changed (with_moved_goal (number_among l.self l.end)) l.i l.initial.code;
  as_long : length l.code ≡ length l.initial.code;
}
