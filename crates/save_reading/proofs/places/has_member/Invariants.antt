use Rattle.std.proofs.Common.{◌≡◌, ℕ, ◌<◌, ◌≤◌, List, length}
use Rattle.std.specs.Prelude.{Some, slice_get}
use Rattle.node_form.specs.declared.members.Member.{Member}
use Rattle.save_reading.proofs.places.has_member.Given as goal

abbrev pub invariant-loop-i : goal.invariant-loop-i
invariant-loop-i l = (k : ℕ) (all : List Member) → k < l.i → slice_get l.code.groups k ≡ Some all → length all ≤ l.member
