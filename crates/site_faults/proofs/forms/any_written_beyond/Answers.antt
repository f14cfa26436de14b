use Rattle.std.proofs.Common.{ap, refl, ◌∙◌}
use Rattle.zpl_tree.specs.View.{name_of}
use Rattle.name_kinds.specs.of_zpl_names.Faults.{is_flood_written}
use Rattle.site_faults.specs.Flood as flood
use Rattle.site_faults.specs.Reach.{reach_of}
use Rattle.site_faults.proofs.FormTold.{any-end, any-map, any-step}
use Rattle.site_faults.proofs.forms.any_written_beyond.Goals as goal

pub loop-name-preserved : goal.loop-name-preserved
loop-name-preserved c =
    let reach = reach_of c.args.reach.now in
    any-step (λ name. is_flood_written reach (name_of name)) c.args.names.now
    c.loop-name.name-index _ c.loop-name.any _ c.is_written_beyond-any.result _ c.loop-name-test.true
    (c.is_written_beyond-any.ensures ∙ ap (flood.is_flood_written reach) c.kind.ensures) refl
    c.loop-name.invariant

pub returns : goal.returns
returns c =
    let reach = reach_of c.args.reach.now in
    any-end (λ name. is_flood_written reach (name_of name)) c.args.names.now
    c.loop-name.name-index c.loop-name.any _ c.loop-name-test.false c.loop-name.invariant ∙
    any-map name_of (is_flood_written reach) c.args.names.now
