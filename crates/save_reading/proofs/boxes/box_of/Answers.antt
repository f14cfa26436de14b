use Rattle.std.proofs.Common.{◌≡◌, ◌∙◌, length, arith, pos, w64, rules, sym, subst}
use Rattle.std.proofs.lemmas.Int.{to_z-of_z}
use Rattle.std.specs.Prelude.{FitsSigned}
use Rattle.grid_meaning.specs.of_node_form.declared.arrays.ArrayDim.TheVariants.{Range}
use Rattle.grid_layout.specs.Layout.{IsArrayBox}
use Rattle.grid_meaning.proofs.BoxLemmas.{box_is, box_parts}
use Rattle.save_reading.proofs.boxes.box_of.Goals as goal

pub returns-clause-same : goal.returns-clause-same
returns-clause-same c =
    let blank = Range (pos 0) (pos 0) (pos 0) (pos 0) in
    let n : length c.args.row.now.dims ≡ 3 = omega arith in
    let f1 : FitsSigned w64 c.widths-low_planes.result.0 = search rules in
    let f2 : FitsSigned w64 c.widths-low_rows.result.0 = search rules in
    let f3 : FitsSigned w64 c.widths-low_columns.result.0 = search rules in
    let g1 : FitsSigned w64 c.widths-low_planes.result.1 = search rules in
    let g2 : FitsSigned w64 c.widths-low_rows.result.1 = search rules in
    let g3 : FitsSigned w64 c.widths-low_columns.result.1 = search rules in
    box_parts c.args.row.now blank _ _ _ _ _ _ _ _ _ n c.storage_dim.ensures c.storage_dim-2.ensures c.storage_dim-3.ensures
    (to_z-of_z w64 _ f1 ∙ c.widths-low_planes.ensures.below) (to_z-of_z w64 _ f2 ∙ c.widths-low_rows.ensures.below)
    (to_z-of_z w64 _ f3 ∙ c.widths-low_columns.ensures.below) (to_z-of_z w64 _ g1 ∙ c.widths-low_planes.ensures.above)
    (to_z-of_z w64 _ g2 ∙ c.widths-low_rows.ensures.above) (to_z-of_z w64 _ g3 ∙ c.widths-low_columns.ensures.above)

pub returns-clause-sound : goal.returns-clause-sound
returns-clause-sound c =
    let n : length c.args.row.now.dims ≡ 3 = omega arith in
    subst IsArrayBox (sym (returns-clause-same c)) (box_is c.args.row.now n c.requires.stored c.requires.fits)
