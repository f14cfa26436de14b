use Rattle.std.proofs.Common.{◌≡◌, drop, slice_get}
use Rattle.std.specs.Prelude.{fold}
use Rattle.lower_numbers.specs.Bodies.{plus, counts_or}
use Rattle.lower_numbers.proofs.sums.summed.Given as goal

-- the sum so far, with the rest
abbrev pub invariant-loop-call : goal.invariant-loop-call
invariant-loop-call l =
    fold (λ counts call. plus counts (counts_or (slice_get l.below call))) l.counts
    (drop l.call-index l.body.calls.items) ≡
    fold (λ counts call. plus counts (counts_or (slice_get l.below call))) l.body.own l.body.calls.items
