use Rattle.std.proofs.Common.{◌≡◌, ◌<◌, ◌≤◌, ℕ, length}
use Rattle.node_check.specs.Strike.{mark_at, struck}
use Rattle.node_check.specs.Walk.{front_at}
use Rattle.node_check.proofs.strikes.strike_all.Given as goal

abbrev pub invariant-loop-i : goal.invariant-loop-i
invariant-loop-i l = record {
  done :
      (at : ℕ) → at < l.i
      → front_at l.fronts.items at
      ≡ struck (mark_at l.marks at) (front_at l.initial.fronts.items at);
  left :
      (at : ℕ) → l.i ≤ at
      → front_at l.fronts.items at ≡ front_at l.initial.fronts.items at;
  many : length l.fronts.items ≡ length l.initial.fronts.items;
}
