use Rattle.std.proofs.Common.{◌≡◌, ℕ, ◌<◌, ◌==◌, ◌&&◌, not, false, get_or, length, nat_lt}
use Rattle.grid_meaning.specs.Owner.{tuples_of}
use Rattle.node_stages.proofs.gathers.mark_holders.Given as goal

abbrev pub invariant-loop-q : goal.invariant-loop-q
invariant-loop-q l = (k : ℕ) → k < l.q
    → get_or l.flags k false ≡ (not (k == l.p) && nat_lt 0 (length (tuples_of l.code k l.region)))
