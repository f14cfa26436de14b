use Rattle.std.proofs.Common.{◌≡◌, ◌<◌, length}
use Rattle.row_turn.specs.Together.{OfRow}
use Rattle.row_progress.specs.Walk.{turned}
use Rattle.row_progress.proofs.walks.is_under.Given as goal

abbrev pub invariant-loop-k : goal.invariant-loop-k
invariant-loop-k l =
    (l.local ≡ turned l.initial.local l.k)
    × OfRow l.code l.p l.row (λ together. l.k < length (together.stages l.initial.local.local))
