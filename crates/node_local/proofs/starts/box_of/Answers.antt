use Rattle.std.proofs.Common.{◌∙◌, arith, pos, w64, rules}
use Rattle.std.proofs.lemmas.Int.{to_z-of_z}
use Rattle.std.specs.Prelude.{FitsSigned}
use Rattle.grid_meaning.specs.of_node_form.Fits.{storage_dim}
use Rattle.grid_meaning.specs.of_node_form.declared.arrays.ArrayDim.TheVariants.{Range}
use Rattle.grid_meaning.specs.Stored.{width_above, width_below}
use Rattle.node_local.proofs.StartLemmas.{three_dims, box_made}
use Rattle.node_local.proofs.starts.box_of.Goals as goal

pub returns : goal.returns
returns c =
    let blank = Range (pos 0) (pos 0) (pos 0) (pos 0) in
    let dims = c.args.row.now.dims in
    let f1 : FitsSigned w64 c.widths-low_planes.result.0 = search rules in
    let f2 : FitsSigned w64 c.widths-low_rows.result.0 = search rules in
    let f3 : FitsSigned w64 c.widths-low_columns.result.0 = search rules in
    let g1 : FitsSigned w64 c.widths-low_planes.result.1 = search rules in
    let g2 : FitsSigned w64 c.widths-low_rows.result.1 = search rules in
    let g3 : FitsSigned w64 c.widths-low_columns.result.1 = search rules in
    box_made c.args.row.now
    (three_dims storage_dim dims blank _ _ _ (omega arith) c.storage_dim.ensures c.storage_dim-2.ensures c.storage_dim-3.ensures)
    (three_dims width_below dims blank _ _ _ (omega arith) (to_z-of_z w64 _ f1 ∙ c.widths-low_planes.ensures.below)
    (to_z-of_z w64 _ f2 ∙ c.widths-low_rows.ensures.below) (to_z-of_z w64 _ f3 ∙ c.widths-low_columns.ensures.below))
    (three_dims width_above dims blank _ _ _ (omega arith) (to_z-of_z w64 _ g1 ∙ c.widths-low_planes.ensures.above)
    (to_z-of_z w64 _ g2 ∙ c.widths-low_rows.ensures.above) (to_z-of_z w64 _ g3 ∙ c.widths-low_columns.ensures.above))
