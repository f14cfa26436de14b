use Rattle.std.proofs.Common.{◌≡◌, ◌∙◌, ◌∷◌, [], ap, length, rules, get_or, of_z, pos, to_z, w64, ℤ}
use Rattle.node_form.specs.declared.arrays.ArrayDim.{ArrayDim}
use Rattle.node_form.specs.declared.arrays.ArrayDim.TheVariants.{Range}
use Rattle.flat_form.specs.Static.{is_in_fringe}
use Rattle.node_check.proofs.CodeLemmas.{and_same, fringe_of}
use Rattle.node_check.proofs.demands.is_in_fringe.Goals as goal

pub returns : goal.returns
returns c =
    let none : ArrayDim = Range (pos 0) (pos 0) (pos 0) (pos 0) in
    let many : length c.args.row.now.dims ≡ 3 = search rules in
    let long : length c.args.shift.now ≡ 3 = search rules in
    let x : to_z w64 (of_z w64 (get_or c.args.shift.now 0 (pos 0))) ≡ get_or c.args.shift.now 0 (pos 0) = search rules in
    let y : to_z w64 (of_z w64 (get_or c.args.shift.now 1 (pos 0))) ≡ get_or c.args.shift.now 1 (pos 0) = search rules in
    let z : to_z w64 (of_z w64 (get_or c.args.shift.now 2 (pos 0))) ≡ get_or c.args.shift.now 2 (pos 0) = search rules in
    and_same (c.is_dim_in_fringe-along_planes.ensures
    ∙ ap (λ (d : ℤ). is_in_fringe (get_or c.args.row.now.dims 0 none ∷ []) (d ∷ [])) x)
    (and_same (c.is_dim_in_fringe-along_rows.ensures
    ∙ ap (λ (d : ℤ). is_in_fringe (get_or c.args.row.now.dims 1 none ∷ []) (d ∷ [])) y)
    (c.is_dim_in_fringe-along_columns.ensures
    ∙ ap (λ (d : ℤ). is_in_fringe (get_or c.args.row.now.dims 2 none ∷ []) (d ∷ [])) z))
    ∙ fringe_of c.args.row.now.dims c.args.shift.now none many long
