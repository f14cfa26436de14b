use Rattle.std.proofs.Common.{◌≡◌, drop, slice_get}
use Rattle.std.specs.Prelude.{fold}
use Rattle.expanded_counts.specs.Bodies.{plus, size_or}
use Rattle.expanded_counts.proofs.sums.sized.Given as goal

-- the sum so far, with the rest
abbrev pub invariant-loop-call : goal.invariant-loop-call
invariant-loop-call l =
    fold (λ sizes call. plus sizes (size_or (slice_get l.below call))) l.sizes
    (drop l.call-index l.body.calls.items) ≡
    fold (λ sizes call. plus sizes (size_or (slice_get l.below call))) l.body.own l.body.calls.items
