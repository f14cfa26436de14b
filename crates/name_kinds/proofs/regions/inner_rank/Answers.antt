use Rattle.std.proofs.Common.{Some, ap, cond, length, option_map, sym, ◌∙◌}
use Rattle.zpl_tree.specs.View.{inner_of, name_of}
use Rattle.zpl_tree.proofs.Views.{inner_of-Dims}
use Rattle.zpl_names.specs.Ranks.{at_most_three, inner_rank, known_rank, region_shape}
use Rattle.zpl_names.specs.Scope.{kind_of}
use Rattle.name_kinds.specs.Reach.{scope_of}
use Rattle.name_kinds.proofs.RegionLemmas.{dims_count-slice, inner_of-parts}
use Rattle.name_kinds.proofs.regions.inner_rank.Goals as goal

pub returns-then-is_index : goal.returns-then-is_index
returns-then-is_index c =
    let scope = scope_of c.args.scope.now in
    let is = inner_of-parts c.args.inner.now c.in-Rexpr.rexpr _ c.in-Rexpr.is c.in-Named.is in
    sym
    (ap (inner_rank scope c.args.hint c.args.prefix) is ∙
    ap
    (λ b. cond b (Some 1)
    (option_map length (region_shape (kind_of scope (name_of c.in-Named.name)))))
    (sym c.is_index.ensures ∙ c.if-is_index.true))

pub returns-else-is_index : goal.returns-else-is_index
returns-else-is_index c =
    let scope = scope_of c.args.scope.now in
    let is = inner_of-parts c.args.inner.now c.in-Rexpr.rexpr _ c.in-Rexpr.is c.in-Named.is in
    c.shape_rank.ensures ∙
    ap (option_map length) (c.region_shape.ensures ∙ ap region_shape c.find.ensures) ∙
    sym
    (ap (inner_rank scope c.args.hint c.args.prefix) is ∙
    ap
    (λ b. cond b (Some 1)
    (option_map length (region_shape (kind_of scope (name_of c.in-Named.name)))))
    (sym c.is_index.ensures ∙ c.if-is_index.false))

pub returns-in-Ditto : goal.returns-in-Ditto
returns-in-Ditto c =
    let scope = scope_of c.args.scope.now in
    let is = inner_of-parts c.args.inner.now c.in-Rexpr.rexpr _ c.in-Rexpr.is c.in-Ditto.is in
    c.known_rank.ensures ∙ ap known_rank c.ditto_rank.ensures ∙
    sym (ap (inner_rank scope c.args.hint c.args.prefix) is)

pub returns-in-Dims : goal.returns-in-Dims
returns-in-Dims c =
    c.small_rank.ensures ∙ ap at_most_three (sym (dims_count-slice c.in-Dims.dims.now)) ∙
    ap (inner_rank (scope_of c.args.scope.now) c.args.hint c.args.prefix)
    (sym (ap inner_of c.in-Dims.is ∙ inner_of-Dims c.in-Dims.dims))
