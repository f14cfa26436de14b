use Rattle.std.proofs.Common.{ap, arith}
use Rattle.std.proofs.Common.{◌∙◌}
use Rattle.grid_layout.proofs.SizeLemmas.{box_tuples}
use Rattle.node_local.specs.Standing.{array_in}
use Rattle.save_reading.proofs.boxes.store_with.Goals as goal

pub returns-then-tuples-values-clause-found : goal.returns-then-tuples-values-clause-found
returns-then-tuples-values-clause-found c = λ many.
    let count = box_tuples c.args.places c.requires.boxed in
    let values = c.as_slice-values.ensures in
    absurd (grind (arith, count, values, many, c.tuples.ensures, c.if-tuples-values.true))

pub returns-clause-right : goal.returns-clause-right
returns-clause-right c =
    let count = box_tuples c.args.places c.requires.boxed in
    let values = c.as_slice-values.ensures in
    let same = c.of.ensures ∙ (c.in_ok-from_slice.ensures.items ∙ values) in
    (ap (λ list. record { storage = c.args.places; values = list }) same, grind (arith, count, values, c.tuples.ensures, c.if-tuples-values.false))
