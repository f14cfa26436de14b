use Rattle.std.proofs.Common.{◌≡◌, Option, Some, None, option_map, is_some, ap, ap₂, refl, ◌∙◌}
use Rattle.zpl_tree.specs.View.{mask_of, inner_of}
use Rattle.zpl_tree.specs.declared.statements.Mask.{Mask}
use Rattle.name_kinds.specs.of_zpl_names.Shapes.{current_over, inner_shape, with_current}
use Rattle.name_kinds.specs.Reach.{scope_of}
use Rattle.name_kinds.specs.Seen.{shapes_of}
use Rattle.site_faults.specs.Reach.{reach_of}
use Rattle.site_faults.proofs.reach.Reach.under_prefix.Goals as goal

mask-there : (mask : Option Mask) → is_some mask ≡ is_some (option_map mask_of mask)
mask-there None = refl
mask-there (Some mask) = refl

pub returns : goal.returns
returns c =
    let scope = scope_of c.args.self.now.scope in
    let shapes = shapes_of c.args.self.now.shapes in
    let region = inner_of c.args.prefix.now.region in
    ap₂ (λ rank shapes. record (reach_of c.args.self.now) { prefix = rank; shapes = shapes })
    c.prefix_rank-rank.ensures
    (c.with.ensures ∙
    ap (with_current shapes c.prefix_rank-rank.result)
    (c.over.ensures ∙
    ap₂ (λ shape masked. current_over shape masked) c.inner_shape-shape.ensures
    (c.is_some.ensures ∙ mask-there c.args.prefix.now.mask)) ∙
    ap
    (λ rank. with_current shapes rank
    (current_over (inner_shape scope shapes rank region)
    (is_some (option_map mask_of c.args.prefix.now.mask)))) c.prefix_rank-rank.ensures)
