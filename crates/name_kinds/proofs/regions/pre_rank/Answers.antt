use Rattle.std.proofs.Common.{ap, sym, ◌∙◌}
use Rattle.zpl_names.specs.Ranks.{direction_rank}
use Rattle.name_kinds.specs.Reach.{scope_of}
use Rattle.name_kinds.proofs.RegionLemmas.{pre_rank-last}
use Rattle.name_kinds.proofs.regions.pre_rank.Goals as goal

pub returns-in-Some : goal.returns-in-Some
returns-in-Some c =
    c.direction_rank.ensures ∙ ap direction_rank c.find.ensures ∙
    sym (pre_rank-last (scope_of c.args.scope.now) c.args.pre.now c.in-Some.last.now
    (sym c.in-Some.ensures.value))
