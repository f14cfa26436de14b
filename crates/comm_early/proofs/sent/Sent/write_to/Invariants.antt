use Rattle.std.proofs.Common.{◌≡◌, ◌≤◌, ◌++◌}
use Rattle.comm_early.specs.Written.{others}
use Rattle.comm_early.proofs.sent.Sent.write_to.Given as goal

abbrev pub invariant-loop-i : goal.invariant-loop-i
invariant-loop-i l =
    (l.self.code ≡ l.initial.self.code ++ others l.code l.initial.self.done l.i)
    × (l.initial.self.done ≤ l.i) × (l.self.done ≡ l.initial.self.done)
