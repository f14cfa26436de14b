use Rattle.std.proofs.Common.{rules, ◌≡◌, length, sym, ap, ◌∙◌}
use Rattle.node_form.specs.Value.{divided}
use Rattle.node_control.proofs.DimLemmas.{told_all, told_third}
use Rattle.node_control.proofs.dims.region_dims.Goals as goal

pub returns-in_err-columns-clause-value : goal.returns-in_err-columns-clause-value
returns-in_err-columns-clause-value c =
    let many : length c.args.parts.now ≡ 3 = search rules in
    told_third c.args.code.now c.args.local.now c.dim_or_padding.new.local c.dim_or_padding-2.new.local c.args.parts.now _ _ _ many
    c.in_ok-planes.ensures.same c.in_ok-rows.ensures.same c.args.rank c.in_ok-planes.planes c.in_ok-rows.rows
    c.requires.above c.requires.below c.in_ok-planes.ensures.value c.in_ok-rows.ensures.value c.in_err-columns.ensures.value c.in_err-columns.ensures.past
    ∙ ap divided (sym c.from_residual-in_err-columns.ensures)

pub returns-clause-value : goal.returns-clause-value
returns-clause-value c =
    let many : length c.args.parts.now ≡ 3 = search rules in
    told_all c.args.code.now c.args.local.now c.dim_or_padding.new.local c.dim_or_padding-2.new.local c.args.parts.now _ _ _ many
    c.in_ok-planes.ensures.same c.in_ok-rows.ensures.same c.args.rank c.in_ok-planes.planes c.in_ok-rows.rows c.in_ok-columns.columns
    c.requires.above c.requires.below c.in_ok-planes.ensures.value c.in_ok-rows.ensures.value c.in_ok-rows.ensures.past
    c.in_ok-columns.ensures.value c.in_ok-columns.ensures.past
