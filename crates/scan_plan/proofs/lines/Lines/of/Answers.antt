use Rattle.std.proofs.Common.{◌+◌, pos, drop, sym, ◌∙◌, ap, arith}
use Rattle.zpl_region.specs.declared.dims.Dim.{Dim}
use Rattle.zpl_region.specs.declared.dims.Dim.TheVariants.{Range}
use Rattle.zpl_region.specs.Ends.{tuple_count}
use Rattle.scan_plan.proofs.LineLemmas.{has_lines, inner_0, inner_within}
use Rattle.scan_plan.proofs.lines.Lines.of.Goals as goal

abbrev blank : Dim
blank = Range (pos 0) (pos 0) (pos 0) (pos 0)

pub overflow_mul-result : goal.overflow_mul-result
overflow_mul-result c =
    let r = c.args.region.now in
    let inner = inner_0 r.dims blank c.size-in-0.result c.size-in-0-2.result (omega arith) c.size-in-0.ensures.size c.size-in-0-2.ensures.size in
    let h = has_lines 0 r c.requires.region (omega arith) c.requires.some in
    let small = inner_within 0 r h in
    omega (arith, inner, small, c.requires.fits)

pub returns-in-0-clause-inner : goal.returns-in-0-clause-inner
returns-in-0-clause-inner c =
    let r = c.args.region.now in
    inner_0 r.dims blank c.size-in-0.result c.size-in-0-2.result (omega arith) c.size-in-0.ensures.size c.size-in-0-2.ensures.size ∙ ap (λ k. tuple_count (drop (k + 1) r.dims)) (sym c.in-0.is)
