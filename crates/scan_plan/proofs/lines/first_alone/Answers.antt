use Rattle.std.proofs.Common.{◌≡◌, w64, to_z, of_z, pos, get_or, sym, ◌∙◌, ap, subst, arith}
use Rattle.std.proofs.lemmas.Int.{ints}
use Rattle.zpl_region.specs.Dim.{IsDim}
use Rattle.zpl_region.specs.Hull.{all_from}
use Rattle.scan_plan.specs.Line.{first_alone}
use Rattle.scan_plan.proofs.LineLemmas.{first_alone_is_dim, told_first}
use Rattle.scan_plan.proofs.lines.first_alone.Goals as goal

pub returns-in-Some-clause-dim : goal.returns-in-Some-clause-dim
returns-in-Some-clause-dim c =
    let r = c.in-Range in
    let first : to_z w64 (of_z w64 (get_or c.in-Some.least 0 (pos 0))) ≡ get_or c.in-Some.least 0 (pos 0) = omega (arith, ints) in
    let is : all_from (to_z w64 (of_z w64 (get_or c.in-Some.least 0 (pos 0)))) (to_z w64 (of_z w64 (get_or c.in-Some.least 0 (pos 0)))) ≡ first_alone c.args.dim =
    ap (λ z. all_from z z) first ∙ told_first c.args.dim c.in-Some.least r.lo r.hi r.step r.align c.requires r.is c.least.ensures c.in-Some.is in
    subst IsDim (sym is) (first_alone_is_dim c.args.dim c.requires)
