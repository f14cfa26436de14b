use Rattle.std.proofs.Common.{◌≡◌, take}
use Rattle.grid_meaning.specs.Local.{processors}
use Rattle.grid_meaning.specs.State.{ascending, senders}
use Rattle.row_turn.specs.Together.{OfRow}
use Rattle.row_progress.specs.Kept.{AreProcessors}
use Rattle.row_progress.specs.Walk.{turned}
use Rattle.row_progress.proofs.senders.senders.Given as goal

abbrev pub invariant-loop-k : goal.invariant-loop-k
invariant-loop-k l =
    (l.local ≡ turned l.initial.local l.k)
    × OfRow l.code l.p l.row (λ together. l.numbers.items ≡ ascending (senders (take l.k (together.stages l.initial.local.local))))
    × AreProcessors (processors l.code) l.numbers.items
