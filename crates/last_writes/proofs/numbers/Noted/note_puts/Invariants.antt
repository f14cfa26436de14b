use Rattle.std.proofs.Common.{take}
use Rattle.std.specs.Prelude.{flat_map}
use Rattle.plan_form.specs.of_code_parts.Uses.{put_by}
use Rattle.last_writes.specs.Last.{AreNoted}
use Rattle.last_writes.proofs.numbers.Noted.note_puts.Given as goal

abbrev pub invariant-loop-member : goal.invariant-loop-member
invariant-loop-member l =
    AreNoted l.initial.self (flat_map put_by (take l.member-index l.members)) l.value l.self
