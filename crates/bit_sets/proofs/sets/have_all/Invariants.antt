use Rattle.std.proofs.Common.{◌≡◌, ℕ, ◌<◌, get_or}
use Rattle.std.specs.Prelude.{bit_or}
use Rattle.bit_sets.proofs.sets.have_all.Given as goal

abbrev pub invariant-loop-i : goal.invariant-loop-i
invariant-loop-i l =
    (at : ℕ) → at < l.i → bit_or (get_or l.words at 0) (get_or l.more at 0) ≡ get_or l.words at 0
