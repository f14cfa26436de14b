use Rattle.std.proofs.Common.{ℕ, ◌<◌, length}
use Rattle.call_heights.specs.Calls.{edges_at}
use Rattle.call_heights.specs.Walk.{IsBack, IsCome, state_of}
use Rattle.call_heights.proofs.walk.all_heights.Given as goal

abbrev pub invariant-loop-root : goal.invariant-loop-root
invariant-loop-root l = record {
  back : IsBack (edges_at l.graph) (length l.graph) (state_of l.walk) (state_of l.walk);
  come : (node : ℕ) → node < l.root → IsCome (state_of l.walk) node;
}
