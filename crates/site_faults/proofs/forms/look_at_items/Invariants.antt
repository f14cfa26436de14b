use Rattle.std.proofs.Common.{◌≡◌, ◌||◌, drop}
use Rattle.std.specs.List.{list_any}
use Rattle.zpl_tree.specs.View.{item_of}
use Rattle.name_kinds.specs.of_zpl_names.Faults.{has_flood, is_under_mask, item_rank, lacks_region, shape_at}
use Rattle.site_faults.specs.Reach.{reach_of}
use Rattle.site_faults.proofs.forms.look_at_items.Given as goal

-- whether one so far or one of the rest is whether one of all
abbrev pub invariant-loop-item : goal.invariant-loop-item
invariant-loop-item l =
    let reach = reach_of l.reach in
    (l.lacks || list_any (λ item. lacks_region reach (item_rank reach (item_of item)))
    (drop l.item-index l.items) ≡
    list_any (λ item. lacks_region reach (item_rank reach (item_of item))) l.items) ×
    (l.floods || list_any (λ item. has_flood (shape_at reach (item_rank reach (item_of item))))
    (drop l.item-index l.items) ≡
    list_any (λ item. has_flood (shape_at reach (item_rank reach (item_of item)))) l.items) ×
    (l.masked || list_any (λ item. is_under_mask reach (item_rank reach (item_of item)))
    (drop l.item-index l.items) ≡
    list_any (λ item. is_under_mask reach (item_rank reach (item_of item))) l.items)
