-- Lowered tables are as a program's types give them: of three dimensions.
use Rattle.std.proofs.Common.{◌≡◌, ℕ, zero, suc, ◌+◌, List, [], ◌∷◌, ◌++◌, map, length, refl, sym, ap, ◌∙◌, subst, arith}
use Rattle.std.specs.Prelude.{All, Bool}
use Rattle.std.proofs.lemmas.List.Elements.{All-append, All-cons, All-nil}
use Rattle.zpl_region.specs.declared.dims.Dim.{Dim}
use Rattle.zpl_region.specs.declared.regions.Region.{Region}
use Rattle.stored_shifts.specs.of_node_form.declared.instructions.Instr.{Instr}
use Rattle.stored_shifts.specs.of_node_form.declared.instructions.Instr.TheVariants as instr
use Rattle.stored_shifts.specs.of_node_form.declared.tables.Tables.{Tables}
use Rattle.lower_numbers.specs.of_flat_form.Row as row
use Rattle.lower_numbers.specs.of_flat_form.Row.{Part, Row, part_words}
use Rattle.lower_numbers.specs.of_flat_form.Row.{with_row, with_rows}
use Rattle.typed_tables.specs.Typed.{AreTyped, IsTypedArray, IsTypedItem, IsTypedRow, IsTypedWord}
use Rattle.lower_numbers.specs.of_zpl_lowering.Lowered.{Lowered}
use Rattle.lower_numbers.specs.of_zpl_lowering.Tables.{empty_tables, rows_of, tables_of}
use Rattle.lowering_fits.specs.Inline.{FitRows, FitsRow}
use Rattle.lowering_fits.specs.Lowerings.{FitsLowered}
use Rattle.lowering_fits.proofs.ExprLemmas.{rows_have}
use Rattle.lowering_fits.proofs.PieceLemmas.{all_rows_fit}
use Rattle.lower_numbers.specs.of_zpl_lowering.Tables.{Fringe, fringes_of, stored_dims, stored_row, stored_rows, temp_dims, temp_row}
use Rattle.lower_numbers.specs.of_zpl_lowering.Hoist.{Shifted}
use Rattle.lowering_fits.specs.Inline.{IsOwnRow}
use Rattle.lowering_fits.specs.Storages.{AllStorages}
use Rattle.lowering_fits.proofs.ArrayLemmas.{fringes_count}
use Rattle.lowering_fits.proofs.ReadLemmas.{exprs_are, arrays_are}
use Rattle.lower_numbers.specs.of_flat_form.Row.{all_coded, coded, part_coded}

-- ---- rows as they stand in tables
coded_count : (n : ℕ) (parts : List Part) →
    length (all_coded part_words part_coded n parts) ≡ length parts
coded_count n [] = refl
coded_count n (one ∷ parts) = ap suc (coded_count (n + length (part_words one)) parts)

own_typed : (one : Instr) → IsOwnRow one → IsTypedRow one
own_typed (instr.Set scalar expr line) own = tt
own_typed (instr.Fix slot region) own = own
own_typed (instr.Dims slot parts line) own = absurd own
own_typed (instr.Formed form slot from shift line) own = own
own_typed (instr.Need slot array shift line) own = tt
own_typed (instr.Fits slot shift line) own = tt
own_typed (instr.Same one other kind line) own = tt
own_typed (instr.Loop slot group) own = tt
own_typed (instr.Start exchange) own = tt
own_typed (instr.Finish exchange) own = tt
own_typed (instr.Edge kind array slot shift) own = own
own_typed (instr.Flood array target from source) own = tt
own_typed (instr.Part array target fold from source) own = tt
own_typed (instr.Scan array slot fold along from mask) own = tt
own_typed (instr.Remap array slot from index) own = tt
own_typed (instr.Gather truth array slot) own = tt
own_typed (instr.Room array slot) own = tt
own_typed (instr.Clear array) own = tt
own_typed (instr.Fold scalar fold) own = tt
own_typed (instr.TreeFold scalar fold) own = tt
own_typed (instr.Vote group) own = tt
own_typed (instr.TreeVote group) own = tt
own_typed (instr.Print text) own = tt
own_typed (instr.Number expr) own = tt
own_typed (instr.Truth expr) own = tt
own_typed (instr.Unless expr goal line) own = tt
own_typed (instr.Jump goal) own = tt
own_typed (instr.Trap kind line) own = tt
own_typed instr.End own = tt

one_coded : (base tables : Tables) (count : ℕ) (one : Row) → FitsRow base count one →
    IsTypedRow (coded tables one)
one_coded base tables count (row.Set scalar expr line) fits = tt
one_coded base tables count (row.Dims slot parts line) fits =
    coded_count (length tables.exprs) parts ∙ fits.three
one_coded base tables count (row.Loop slot group) fits = tt
one_coded base tables count (row.Print text) fits = tt
one_coded base tables count (row.Number expr) fits = tt
one_coded base tables count (row.Truth expr) fits = tt
one_coded base tables count (row.Unless expr goal line) fits = tt
one_coded base tables count (row.Plain one) fits = own_typed one fits.1

code_typed : (base tables : Tables) (count : ℕ) (rows : List Row) → FitRows base count rows →
    All IsTypedRow tables.code → All IsTypedRow (with_rows tables rows).code
code_typed base tables count [] fits typed = typed
code_typed base tables count (one ∷ rows) fits typed =
    code_typed base (with_row tables one) count rows fits.1
    (All-append IsTypedRow tables.code (coded tables one ∷ []) typed
    (All-cons IsTypedRow (coded tables one) [] (one_coded base tables count one fits.0)
    (All-nil IsTypedRow)))

exchanges_are : (base : Tables) (rows : List Row) →
    (with_rows base rows).exchanges ≡ base.exchanges
exchanges_are base [] = refl
exchanges_are base (one ∷ rows) = exchanges_are (with_row base one) rows

-- ---- arrays
dims_typed : (rank : ℕ) (dims : List Dim) (fringes : List Fringe) →
    length fringes ≡ length dims → length (stored_dims rank dims fringes) ≡ length dims
dims_typed rank [] fringes same = refl
dims_typed rank (one ∷ dims) [] same = let no : ⊥ = cc in absurd no
dims_typed zero (one ∷ dims) (fringe ∷ fringes) same =
    ap suc (dims_typed zero dims fringes (omega (arith, same)))
dims_typed (suc rank) (one ∷ dims) (fringe ∷ fringes) same =
    ap suc (dims_typed rank dims fringes (omega (arith, same)))

stored_typed : (k : ℕ) (shifts : List Shifted) (storages : List Region) → AllStorages storages →
    All IsTypedArray (stored_rows k shifts storages)
stored_typed k shifts [] all = All-nil IsTypedArray
stored_typed k shifts (storage ∷ storages) all =
    All-cons IsTypedArray (stored_row k shifts storage) (stored_rows (suc k) shifts storages)
    (dims_typed storage.rank storage.dims (fringes_of k shifts)
    (fringes_count k shifts ∙ sym all.0.three) ∙ all.0.three)
    (stored_typed (suc k) shifts storages all.1)

temp_count : (n : ℕ) (flood : List Bool) → length (temp_dims n flood) ≡ n
temp_count zero [] = refl
temp_count zero (one ∷ flood) = refl
temp_count (suc n) [] = ap suc (temp_count n [])
temp_count (suc n) (one ∷ flood) = ap suc (temp_count n flood)

temps_typed : (temps : List (List Bool)) → All IsTypedArray (map temp_row temps)
temps_typed [] = All-nil IsTypedArray
temps_typed (flood ∷ temps) =
    All-cons IsTypedArray (temp_row flood) (map temp_row temps) (temp_count 3 flood)
    (temps_typed temps)

-- ---- all tables
pub whole_typed : (grid : List ℕ) (lowered : Lowered) →
    AllStorages (lowered.arrays ++ (lowered.copies ++ lowered.later)) →
    FitsLowered (empty_tables grid lowered) lowered → AreTyped (tables_of grid lowered)
whole_typed grid lowered storages fits =
    let base : Tables = empty_tables grid lowered in
    let rows : List Row = rows_of lowered in
    let all : List Region = lowered.arrays ++ (lowered.copies ++ lowered.later) in
    let fit = all_rows_fit grid lowered fits.code_fits in
    record {
      arrays = subst (All IsTypedArray) (sym (arrays_are base rows))
          (All-append IsTypedArray (stored_rows 0 lowered.shifts all) (map temp_row lowered.temps)
          (stored_typed 0 lowered.shifts all storages) (temps_typed lowered.temps));
      exprs = subst (All (All IsTypedWord)) (sym (exprs_are base rows))
          (rows_have base (All IsTypedWord) (λ rank words fits. fits.typed) (length rows) rows fit);
      exchanges = subst (All (All IsTypedItem)) (sym (exchanges_are base rows))
          (All-nil (All IsTypedItem));
      code = code_typed base base (length rows) rows fit (All-nil IsTypedRow);
    }
