use Rattle.std.proofs.Common.{◌≡◌, drop, map}
use Rattle.node_local.specs.Standing.{entry_of}
use Rattle.row_turn.specs.Together.{OfRow}
use Rattle.row_progress.specs.Kept.{are_front}
use Rattle.row_progress.proofs.words.are_front.Given as goal

abbrev pub invariant-loop-i : goal.invariant-loop-i
invariant-loop-i l =
    OfRow l.code l.p l.row (λ together.
    are_front (together.awaits l.local.local) l.senders (map entry_of l.kept)
    ≡ are_front (together.awaits l.local.local) (drop l.i l.senders) (drop l.i (map entry_of l.kept)))
