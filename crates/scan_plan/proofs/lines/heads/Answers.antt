use Rattle.std.proofs.Common.{pos, sym, ◌∙◌, subst, arith}
use Rattle.zpl_region.specs.declared.dims.Dim.{Dim}
use Rattle.zpl_region.specs.declared.dims.Dim.TheVariants.{Range}
use Rattle.zpl_region.specs.Region.{IsRegion}
use Rattle.scan_plan.proofs.LineLemmas.{heads_0, heads_1, heads_2, heads_region}
use Rattle.scan_plan.proofs.lines.heads.Goals as goal
use Rattle.scan_plan.proofs.lines.heads.Goals.{in-0, in-1, in_default}

abbrev blank : Dim
blank = Range (pos 0) (pos 0) (pos 0) (pos 0)

pub returns-clause-region : goal.returns-clause-region
returns-clause-region c =
    let r = c.args.region.now in
    elim c.match-k.branch [
      | in-0 w ↦
          subst (λ dims. IsRegion (record { rank = r.rank; dims = dims })) (sym (w.dims-is ∙ heads_0 r.dims blank w.first_alone.result (omega arith) w.first_alone.ensures.alone)) (heads_region 0 r c.requires.region)
      | in-1 w ↦
          subst (λ dims. IsRegion (record { rank = r.rank; dims = dims })) (sym (w.dims-is ∙ heads_1 r.dims blank w.first_alone-in-1.result (omega arith) w.first_alone-in-1.ensures.alone)) (heads_region 1 r c.requires.region)
      | in_default w ↦
          subst (λ dims. IsRegion (record { rank = r.rank; dims = dims })) (sym (w.dims-is ∙ heads_2 r.dims blank w.first_alone-in_default.result (omega arith) w.first_alone-in_default.ensures.alone)) (heads_region 2 r c.requires.region)
    ]
