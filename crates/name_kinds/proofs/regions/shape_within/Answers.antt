use Rattle.std.proofs.Common.{Some, ap, arith, cond, false, subst, sym, [], ◌∙◌, ◌∷◌}
use Rattle.zpl_tree.specs.View.{inner_of, name_of}
use Rattle.zpl_tree.specs.Syntax.{Inner}
use Rattle.zpl_tree.proofs.Views.{inner_of-Dims}
use Rattle.zpl_names.specs.Ranks.{region_shape}
use Rattle.zpl_names.specs.Shapes.{shape_within}
use Rattle.zpl_names.specs.Scope.{kind_of}
use Rattle.name_kinds.specs.Reach.{scope_of}
use Rattle.name_kinds.specs.Region.{HasFewDims}
use Rattle.name_kinds.specs.Seen.{current_of}
use Rattle.name_kinds.proofs.RegionLemmas.{dims_count-slice, inner_of-parts}
use Rattle.name_kinds.proofs.regions.shape_within.Goals as goal

pub dims_shape-requires : goal.dims_shape-requires
dims_shape-requires c =
    let is = ap inner_of c.in-Dims.is ∙ inner_of-Dims c.in-Dims.dims in
    let P : Inner → Type 0 = λ inner. HasFewDims (Some 0) inner in
    let few = subst P is c.requires in
    let same = dims_count-slice c.in-Dims.dims.now in
    omega (arith, few, same)

pub returns-then-is_index : goal.returns-then-is_index
returns-then-is_index c =
    let scope = scope_of c.args.scope.now in
    let is = inner_of-parts c.args.inner.now c.in-Rexpr.rexpr _ c.in-Rexpr.is c.in-Named.is in
    sym
    (ap (shape_within scope (current_of c.args.current)) is ∙
    ap
    (λ b. cond b (Some (false ∷ [])) (region_shape (kind_of scope (name_of c.in-Named.name))))
    (sym c.is_index.ensures ∙ c.if-is_index.true))

pub returns-else-is_index : goal.returns-else-is_index
returns-else-is_index c =
    let scope = scope_of c.args.scope.now in
    let is = inner_of-parts c.args.inner.now c.in-Rexpr.rexpr _ c.in-Rexpr.is c.in-Named.is in
    c.region_shape.ensures ∙ ap region_shape c.find.ensures ∙
    sym
    (ap (shape_within scope (current_of c.args.current)) is ∙
    ap
    (λ b. cond b (Some (false ∷ [])) (region_shape (kind_of scope (name_of c.in-Named.name))))
    (sym c.is_index.ensures ∙ c.if-is_index.false))

pub returns-in-Ditto : goal.returns-in-Ditto
returns-in-Ditto c =
    let scope = scope_of c.args.scope.now in
    let is = inner_of-parts c.args.inner.now c.in-Rexpr.rexpr _ c.in-Rexpr.is c.in-Ditto.is in
    c.shape.ensures ∙ sym (ap (shape_within scope (current_of c.args.current)) is)

pub returns-in-Dims : goal.returns-in-Dims
returns-in-Dims c =
    c.dims_shape.ensures ∙
    ap (shape_within (scope_of c.args.scope.now) (current_of c.args.current))
    (sym (ap inner_of c.in-Dims.is ∙ inner_of-Dims c.in-Dims.dims))
