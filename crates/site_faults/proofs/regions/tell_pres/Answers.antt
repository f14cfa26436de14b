use Rattle.std.proofs.Common.{refl, ap, ◌∙◌, map, not}
use Rattle.std.specs.List.{flat_map}
use Rattle.zpl_tree.specs.View.{name_of, pre_of}
use Rattle.name_kinds.specs.of_zpl_names.Accepted as kind
use Rattle.name_kinds.specs.of_zpl_names.Faults.{kind_at, unless_taken}
use Rattle.name_kinds.specs.of_zpl_names.Scope.{is_direction}
use Rattle.site_faults.specs.Reach.{reach_of}
use Rattle.site_faults.proofs.FindingLemmas.{loop-end, loop-step}
use Rattle.site_faults.proofs.regions.tell_pres.Goals as goal

pub loop-one-preserved : goal.loop-one-preserved
loop-one-preserved c =
    let reach = reach_of c.args.reach.now in
    loop-step kind.UnknownName
    (λ pre. flat_map (λ pre. unless_taken reach is_direction pre.dir) (map pre_of pre))
    (λ one. not (is_direction (kind_at reach (name_of one.dir)))) (λ one. one.dir.at)
    (λ one rest. refl) c.args.pre.now c.loop-one.one-index _ _ _ _ _ _ c.loop-one-test.true
    (ap not (c.is_direction-is_other.ensures ∙ ap is_direction c.kind.ensures)) refl
    c.add_if.ensures.told c.loop-one.invariant

pub returns : goal.returns
returns c =
    loop-end kind.UnknownName
    (λ pre. flat_map (λ pre. unless_taken (reach_of c.args.reach.now) is_direction pre.dir)
    (map pre_of pre)) c.args.pre.now c.loop-one.one-index _ _ refl c.loop-one-test.false
    c.loop-one.invariant
