use Rattle.std.proofs.Common.{◌^◌, ◌*◌, ◌+◌, ◌≤◌, arith, pos, ◌∙◌}
use Rattle.zpl_region.specs.declared.dims.Dim.TheVariants.{Range}
use Rattle.grid_layout.proofs.SizeLemmas.{product_below, tuples_of}
use Rattle.grid_layout.proofs.dims.tuples.Goals as goal

pub overflow_mul-result-2 : goal.overflow_mul-result-2
overflow_mul-result-2 c =
    let two : c.from.result * c.from-2.result ≤ (2 ^ 42 + 1) * (2 ^ 42 + 1) = product_below c.from.result c.from-2.result (2 ^ 42 + 1) (2 ^ 42 + 1) (omega arith) (omega arith) in
    let three : c.from.result * c.from-2.result * c.from-3.result ≤ (2 ^ 42 + 1) * (2 ^ 42 + 1) * (2 ^ 42 + 1) =
    product_below (c.from.result * c.from-2.result) c.from-3.result ((2 ^ 42 + 1) * (2 ^ 42 + 1)) (2 ^ 42 + 1) two (omega arith) in
    omega (arith, three)

pub returns : goal.returns
returns c =
    tuples_of c.args.dims.now (Range (pos 0) (pos 0) (pos 0) (pos 0)) c.from.result c.from-2.result c.from-3.result (omega arith) (c.from.ensures ∙ c.size.ensures.size) (c.from-2.ensures ∙ c.size-2.ensures.size)
    (c.from-3.ensures ∙ c.size-3.ensures.size)
