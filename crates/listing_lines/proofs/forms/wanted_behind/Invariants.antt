use Rattle.std.proofs.Common.{◌≡◌, length}
use Rattle.listing_lines.specs.Form.{wanted_behind}
use Rattle.listing_lines.proofs.forms.wanted_behind.Given as goal

abbrev pub invariant-loop-slot : goal.invariant-loop-slot
invariant-loop-slot l = wanted_behind l.slots l.field ≡ wanted_behind l.rest l.field

abbrev pub decreases-loop-slot : goal.decreases-loop-slot
decreases-loop-slot l = length l.rest
