use Rattle.std.proofs.Common.{refl, ap, ◌∙◌, map, not}
use Rattle.std.specs.List.{flat_map}
use Rattle.zpl_tree.specs.View.{name_of}
use Rattle.name_kinds.specs.of_zpl_names.Accepted as kind
use Rattle.name_kinds.specs.of_zpl_names.Faults.{kind_at, unless_taken}
use Rattle.name_kinds.specs.of_zpl_names.Scope.{is_array}
use Rattle.site_faults.specs.Reach.{reach_of}
use Rattle.site_faults.proofs.FindingLemmas.{loop-end, loop-step}
use Rattle.site_faults.proofs.forms.tell_targets.Goals as goal

pub loop-name-preserved : goal.loop-name-preserved
loop-name-preserved c =
    let reach = reach_of c.args.reach.now in (
      loop-step kind.UnknownName (λ names. flat_map (unless_taken reach is_array) (map name_of names))
          (λ name. not (is_array (kind_at reach (name_of name)))) (λ name. name.at) (λ name rest. refl) c.args.names.now c.loop-name.name-index _ _ _ _ _ _
          c.loop-name-test.true (ap not (c.is_array.ensures ∙ ap is_array c.kind.ensures)) refl c.add_if.ensures.told c.loop-name.invariant.0,
      c.add_if.ensures.reached ∙ c.loop-name.invariant.1,
    )

pub returns-clause-told : goal.returns-clause-told
returns-clause-told c =
    let reach = reach_of c.args.reach.now in
    loop-end kind.UnknownName (λ names. flat_map (unless_taken reach is_array) (map name_of names)) c.args.names.now
    c.loop-name.name-index _ _ refl c.loop-name-test.false c.loop-name.invariant.0

pub returns-clause-reached : goal.returns-clause-reached
returns-clause-reached c = c.loop-name.invariant.1
