use Rattle.std.proofs.Common.{take}
use Rattle.plan_form.specs.of_code_parts.Uses.{arrays_of_items}
use Rattle.last_writes.specs.Last.{AreNoted}
use Rattle.last_writes.proofs.numbers.Noted.note_items.Given as goal

abbrev pub invariant-loop-item : goal.invariant-loop-item
invariant-loop-item l =
    AreNoted l.initial.self (arrays_of_items (take l.item-index l.items)) l.value l.self
