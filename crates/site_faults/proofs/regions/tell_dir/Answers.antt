use Rattle.std.proofs.Common.{ap, not, sym, ◌∙◌}
use Rattle.zpl_tree.specs.View.{dir_of, exprs_of, name_of}
use Rattle.zpl_tree.proofs.Views.{dir_of-Vector}
use Rattle.name_kinds.specs.of_zpl_names.Accepted as kind
use Rattle.name_kinds.specs.of_zpl_names.Faults.{at_if}
use Rattle.name_kinds.specs.of_zpl_names.Scope.{is_direction}
use Rattle.name_kinds.specs.of_zpl_names.Sites.{AtDir}
use Rattle.site_faults.specs.Findings.{after, tells}
use Rattle.site_faults.specs.Reach.{reach_of}
use Rattle.site_faults.specs.Walk.{state_of}
use Rattle.site_faults.proofs.RegionTold.{named_dir_told, vector_told}
use Rattle.site_faults.proofs.regions.tell_dir.Goals as goal

pub returns-in-Named : goal.returns-in-Named
returns-in-Named c =
    let state = state_of c.args.findings.now in
    let reach = reach_of c.args.reach.now in
    c.add_if.ensures.told ∙
    ap (λ test. tells kind.UnknownName (at_if test c.in-Named.name.at) state)
    (ap not (c.is_direction-is_other.ensures ∙ ap is_direction c.kind.ensures)) ∙
    sym (named_dir_told state reach (name_of c.in-Named.name)) ∙
    ap (λ dir. after state (AtDir reach (dir_of dir))) (sym c.in-Named.is)

pub returns-in-Vector : goal.returns-in-Vector
returns-in-Vector c =
    let state = state_of c.args.findings.now in
    let reach = reach_of c.args.reach.now in
    c.tell_fourth_part.ensures ∙
    sym (vector_told state reach (exprs_of c.in-Vector.parts.now)) ∙
    ap (λ dir. after state (AtDir reach dir))
    (sym (ap dir_of c.in-Vector.is ∙ dir_of-Vector c.in-Vector.parts))
