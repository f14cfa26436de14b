use Rattle.std.proofs.Common.{sym, subst, ◌∙◌, true≢false}
use Rattle.code_layout.specs.Room.{HasRoom}
use Rattle.flat_code.proofs.codes.program_of.Goals as goal

pub returns-then-not-branch-clause-refused : goal.returns-then-not-branch-clause-refused
returns-then-not-branch-clause-refused c = λ room.
    true≢false (sym (c.in_ok-has_room.ensures.1
    (subst HasRoom (sym c.of-code.ensures) room)) ∙ c.if-not-branch.true)

pub returns-clause-room : goal.returns-clause-room
returns-clause-room c =
    subst HasRoom c.of-code.ensures (c.in_ok-has_room.ensures.0 c.if-not-branch.false)
