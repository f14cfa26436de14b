use Rattle.std.proofs.Common.{ℕ, ◌<◌, ◌≤◌, List, length, get_or}
use Rattle.grid_meaning.specs.of_node_form.declared.members.Member.{Member}
use Rattle.node_local.proofs.starts.longest_group.Given as goal

abbrev pub invariant-loop-i : goal.invariant-loop-i
invariant-loop-i l = (k : ℕ) (members : List Member) → k < l.i → length (get_or l.code.groups k members) ≤ l.longest
