use Rattle.std.proofs.Common.{ap, sym, true, ◌∙◌}
use Rattle.zpl_tree.specs.View.{dim_of}
use Rattle.name_kinds.specs.of_zpl_names.Accepted as kind
use Rattle.name_kinds.specs.of_zpl_names.Faults.{at_if, dim_at}
use Rattle.site_faults.specs.Findings.{tells}
use Rattle.site_faults.specs.Walk.{state_of}
use Rattle.site_faults.proofs.FindingLemmas.{tells-none}
use Rattle.site_faults.proofs.RegionTold.{fourth_dim-long, fourth_dim-short}
use Rattle.site_faults.proofs.regions.tell_fourth_dim.Goals as goal

pub returns-then-dims-gt3 : goal.returns-then-dims-gt3
returns-then-dims-gt3 c =
    c.add_if.ensures.told ∙
    ap (λ places. tells kind.RankClash places (state_of c.args.findings.now))
    (ap (at_if true)
    (c.dim_at.ensures ∙ ap (λ dim. dim_at (dim_of dim)) c.index-dims-3.is) ∙
    sym (fourth_dim-long c.args.dims.now c.index-dims-3.result c.if-dims-gt3.true))

pub returns-else-dims-gt3 : goal.returns-else-dims-gt3
returns-else-dims-gt3 c =
    sym (tells-none kind.RankClash (state_of c.args.findings.now)) ∙
    ap (λ places. tells kind.RankClash places (state_of c.args.findings.now))
    (sym (fourth_dim-short c.args.dims.now c.if-dims-gt3.false))
