use Rattle.std.proofs.Common.{ap, sym, ◌∙◌}
use Rattle.name_kinds.specs.of_zpl_names.Accepted as kind
use Rattle.site_faults.specs.Findings.{tells}
use Rattle.site_faults.specs.Walk.{state_of}
use Rattle.site_faults.proofs.FindingLemmas.{tells-none}
use Rattle.site_faults.proofs.RegionTold.{fourth_part-long, fourth_part-short}
use Rattle.site_faults.proofs.regions.tell_fourth_part.Goals as goal

pub returns-then-parts-gt3 : goal.returns-then-parts-gt3
returns-then-parts-gt3 c =
    c.add_if.ensures.told ∙
    ap (λ places. tells kind.RankClash places (state_of c.args.findings.now))
    (sym (fourth_part-long c.args.parts.now _ c.if-parts-gt3.true))

pub returns-else-parts-gt3 : goal.returns-else-parts-gt3
returns-else-parts-gt3 c =
    sym (tells-none kind.RankClash (state_of c.args.findings.now)) ∙
    ap (λ places. tells kind.RankClash places (state_of c.args.findings.now))
    (sym (fourth_part-short c.args.parts.now c.if-parts-gt3.false))
