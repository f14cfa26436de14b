-- What the expressions of lowered tables read with a shift is stored.
use Rattle.std.proofs.Common.{◌≡◌, ℕ, List, [], ◌∷◌, ◌++◌, length, refl, sym, ◌∙◌, subst}
use Rattle.std.proofs.Common.{append_assoc, append-nil}
use Rattle.std.specs.Prelude.{All, flat_map}
use Rattle.stored_shifts.specs.of_node_form.declared.words.ExprOp.{ExprOp}
use Rattle.stored_shifts.specs.of_node_form.declared.words.ExprOp.TheVariants as word
use Rattle.stored_shifts.specs.of_node_form.declared.tables.Tables.{Tables}
use Rattle.lower_numbers.specs.of_flat_form.Row.{Words, Row, row_words, with_row, with_rows}
use Rattle.stored_shifts.specs.Stored.{AreStoredReads, IsStoredRead, ShiftsAreStored}
use Rattle.lower_numbers.specs.of_zpl_lowering.Lowered.{Lowered}
use Rattle.lower_numbers.specs.of_zpl_lowering.Tables.{empty_tables, rows_of, tables_of}
use Rattle.lowering_fits.specs.Lowerings.{FitsLowered}
use Rattle.lowering_fits.proofs.ExprLemmas.{rows_have}
use Rattle.lowering_fits.proofs.PieceLemmas.{all_rows_fit}

-- ---- tables that rows are laid out in
pub exprs_are : (base : Tables) (rows : List Row) →
    (with_rows base rows).exprs ≡ base.exprs ++ flat_map row_words rows
exprs_are base [] = sym (append-nil base.exprs)
exprs_are base (one ∷ rows) =
    exprs_are (with_row base one) rows
    ∙ append_assoc base.exprs (row_words one) (flat_map row_words rows)

pub arrays_are : (base : Tables) (rows : List Row) → (with_rows base rows).arrays ≡ base.arrays
arrays_are base [] = refl
arrays_are base (one ∷ rows) = arrays_are (with_row base one) rows

read_same : (old new : Tables) → new.arrays ≡ old.arrays → (one : ExprOp) →
    IsStoredRead old one → IsStoredRead new one
read_same old new same (word.Const value) is = tt
read_same old new same (word.Scalar scalar) is = tt
read_same old new same (word.Here array) is = tt
read_same old new same (word.Shifted array shift) is =
    subst (λ arrays. IsStoredRead (record old { arrays = arrays }) (word.Shifted array shift))
    (sym same) is
read_same old new same (word.Cell cell) is = tt
read_same old new same (word.Coord dimension) is = tt
read_same old new same (word.Pair op) is = tt
read_same old new same word.Neg is = tt
read_same old new same word.Not is = tt
read_same old new same word.Abs is = tt

pub reads_same : (old new : Tables) → new.arrays ≡ old.arrays → (exprs : List Words) →
    AreStoredReads old exprs → AreStoredReads new exprs
reads_same old new same exprs are k d inside j e within =
    read_same old new same _ (are k d inside j e within)

pub whole_stored : (grid : List ℕ) (lowered : Lowered) →
    FitsLowered (empty_tables grid lowered) lowered → ShiftsAreStored (tables_of grid lowered)
whole_stored grid lowered fits =
    let base : Tables = empty_tables grid lowered in
    let rows : List Row = rows_of lowered in
    let new : Tables = with_rows base rows in
    subst (AreStoredReads new) (sym (exprs_are base rows))
    (reads_same base new (arrays_are base rows) (flat_map row_words rows)
    (rows_have base (All (IsStoredRead base)) (λ rank words fits. fits.stored) (length rows) rows
    (all_rows_fit grid lowered fits.code_fits)))
