use Rattle.std.proofs.Common.{ap, map, refl, ◌∙◌}
use Rattle.zpl_tree.specs.View.{item_of}
use Rattle.name_kinds.specs.of_zpl_names.Faults.{has_flood, is_under_mask, item_rank, lacks_region, shape_at}
use Rattle.site_faults.specs.Reach.{reach_of}
use Rattle.site_faults.proofs.FormTold.{any-end, any-map, any-step}
use Rattle.site_faults.proofs.forms.look_at_items.Goals as goal

pub loop-item-preserved : goal.loop-item-preserved
loop-item-preserved c =
    let reach = reach_of c.args.reach.now in
    let rank = c.item_rank-rank.ensures ∙ ap (λ item. item_rank reach (item_of item)) c.item-item.is in (
      any-step (λ item. lacks_region reach (item_rank reach (item_of item))) c.args.items.now
          c.loop-item.item-index c.item-item.result c.loop-item.lacks _ c.lacks_region-lacks.result _
          c.loop-item-test.true (c.lacks_region-lacks.ensures ∙ ap (lacks_region reach) rank) refl
          c.loop-item.invariant.0,
      any-step (λ item. has_flood (shape_at reach (item_rank reach (item_of item))))
          c.args.items.now c.loop-item.item-index c.item-item.result c.loop-item.floods _
          c.has_flood-floods.result _ c.loop-item-test.true
          (c.has_flood-floods.ensures ∙
          ap has_flood (c.shape_at.ensures ∙ ap (shape_at reach) rank)) refl
          c.loop-item.invariant.1,
      any-step (λ item. is_under_mask reach (item_rank reach (item_of item))) c.args.items.now
          c.loop-item.item-index c.item-item.result c.loop-item.masked _ c.is_under_mask-masked.result _
          c.loop-item-test.true (c.is_under_mask-masked.ensures ∙ ap (is_under_mask reach) rank) refl
          c.loop-item.invariant.2,
    )

pub returns-clause-lacks : goal.returns-clause-lacks
returns-clause-lacks c =
    let reach = reach_of c.args.reach.now in
    any-end (λ item. lacks_region reach (item_rank reach (item_of item))) c.args.items.now
    c.loop-item.item-index c.loop-item.lacks _ c.loop-item-test.false c.loop-item.invariant.0 ∙
    any-map item_of (λ item. lacks_region reach (item_rank reach item)) c.args.items.now ∙
    any-map (item_rank reach) (lacks_region reach) (map item_of c.args.items.now)

pub returns-clause-floods : goal.returns-clause-floods
returns-clause-floods c =
    let reach = reach_of c.args.reach.now in
    any-end (λ item. has_flood (shape_at reach (item_rank reach (item_of item)))) c.args.items.now
    c.loop-item.item-index c.loop-item.floods _ c.loop-item-test.false c.loop-item.invariant.1 ∙
    any-map item_of (λ item. has_flood (shape_at reach (item_rank reach item))) c.args.items.now

pub returns-clause-masked : goal.returns-clause-masked
returns-clause-masked c =
    let reach = reach_of c.args.reach.now in
    any-end (λ item. is_under_mask reach (item_rank reach (item_of item))) c.args.items.now
    c.loop-item.item-index c.loop-item.masked _ c.loop-item-test.false c.loop-item.invariant.2 ∙
    any-map item_of (λ item. is_under_mask reach (item_rank reach item)) c.args.items.now ∙
    any-map (item_rank reach) (is_under_mask reach) (map item_of c.args.items.now)
