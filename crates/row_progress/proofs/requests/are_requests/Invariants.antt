use Rattle.std.proofs.Common.{◌≡◌, drop, map}
use Rattle.std.specs.Prelude.{All, ◌↔◌}
use Rattle.grid_meaning.specs.State.{IsRequest}
use Rattle.node_local.specs.Standing.{entry_of}
use Rattle.row_turn.specs.Together.{OfRow}
use Rattle.row_progress.proofs.requests.are_requests.Given as goal

abbrev pub invariant-loop-i : goal.invariant-loop-i
invariant-loop-i l =
    (l.local ≡ l.initial.local)
    × OfRow l.code l.p l.row (λ together.
    All (IsRequest together l.initial.local.local) (drop l.i (map entry_of l.kept)) ↔ All (IsRequest together l.initial.local.local) (map entry_of l.kept))
