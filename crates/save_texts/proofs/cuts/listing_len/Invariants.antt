use Rattle.std.proofs.Common.{ℕ, ◌<◌, drop, take}
use Rattle.grid_save.specs.Fault.{BeginsState, EndsLine}
use Rattle.save_texts.proofs.cuts.listing_len.Given as goal

abbrev pub invariant-loop-at : goal.invariant-loop-at
invariant-loop-at l = (k : ℕ) → k < l.at → EndsLine (take k l.bytes) → BeginsState (drop k l.bytes) → ⊥
