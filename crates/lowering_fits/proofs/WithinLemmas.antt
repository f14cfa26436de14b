-- What the expressions of lowered tables read with a shift is within the fringe of its array.
use Rattle.std.proofs.Common.{◌≡◌, ℕ, true, List, length, sym, subst}
use Rattle.std.specs.Prelude.{All}
use Rattle.std.specs.List.{list_all}
use Rattle.stored_shifts.specs.of_node_form.declared.tables.Tables.{Tables}
use Rattle.lower_numbers.specs.of_flat_form.Row.{Row, with_rows}
use Rattle.lower_numbers.specs.of_flat_form.Static.{HasFringes, word_has_fringe}
use Rattle.lower_numbers.specs.of_zpl_lowering.Lowered.{Lowered}
use Rattle.lower_numbers.specs.of_zpl_lowering.Tables.{empty_tables, rows_of, tables_of}
use Rattle.lowering_fits.specs.Lowerings.{FitsLowered}
use Rattle.lowering_fits.proofs.ExprLemmas.{rows_have}
use Rattle.lowering_fits.proofs.PieceLemmas.{all_rows_fit}
use Rattle.lowering_fits.proofs.ReadLemmas.{exprs_are, arrays_are}

pub whole_within : (grid : List ℕ) (lowered : Lowered) →
    FitsLowered (empty_tables grid lowered) lowered → HasFringes (tables_of grid lowered)
whole_within grid lowered fits =
    let base : Tables = empty_tables grid lowered in
    let rows : List Row = rows_of lowered in
    let new : Tables = with_rows base rows in
    subst (λ arrays.
    All (λ words. list_all (word_has_fringe (record new { arrays = arrays })) words ≡ true)
    new.exprs) (sym (arrays_are base rows))
    (subst (All (λ words. list_all (word_has_fringe base) words ≡ true)) (sym (exprs_are base rows))
    (rows_have base (λ words. list_all (word_has_fringe base) words ≡ true)
    (λ rank words fits. fits.within) (length rows) rows
    (all_rows_fit grid lowered fits.code_fits)))
