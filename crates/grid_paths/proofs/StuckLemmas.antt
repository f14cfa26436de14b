-- A process that is stuck stays so.
use Rattle.std.proofs.Common.{◌≡◌, ◌++◌, inl, inr}
use Rattle.grid_links.specs.Machine.{Stuck}
use Rattle.grid_links.specs.Run.{System, next_turn, after, moves_of}
use Rattle.grid_links.proofs.DominationLemmas.{carried, IsCarried}
use Rattle.grid_links.proofs.HistoryLemmas.{IsRun-after}
use Rattle.grid_links.proofs.LapLemmas.{goes_on}
use Rattle.grid_paths.specs.Laws.{StaysStuck}

pub stays_stuck : {L M K : Type 0} (system : System L M K) → StaysStuck system
stays_stuck {L = L} {M = M} {K = K} system order more p kind below stuck =
    by (carried system (moves_of system order) (after system order) (IsRun-after system order)
    (moves_of system (order ++ more)) (after system (order ++ more))
    (IsRun-after system (order ++ more)) (λ a. (goes_on system).moves order more a) p below
    (Stuck kind) stuck (λ w. cc))
  where
    by : IsCarried (moves_of system (order ++ more) p) (moves_of system order p)
        (next_turn system (after system (order ++ more)) p) (Stuck kind)
        → (next_turn system (after system (order ++ more)) p ≡ Stuck kind)
        × (moves_of system (order ++ more) p ≡ moves_of system order p)
    by (inl (same, theirs)) = (theirs, same)
    by (inr (move, rest, joins, is)) = cc
