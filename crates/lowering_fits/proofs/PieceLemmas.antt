-- Code that fits is laid out in rows that fit, whose goals are rows of it or the end.
use Rattle.std.proofs.Common.{◌≡◌, ℕ, ◌+◌, ◌≤◌, List, [], ◌∷◌, ◌++◌, map, length, refl, arith, length-append}
use Rattle.std.specs.Prelude.{All}
use Rattle.std.proofs.lemmas.List.{length-map, length-replicate}
use Rattle.stored_shifts.specs.of_node_form.declared.instructions.Instr.{Instr}
use Rattle.stored_shifts.specs.of_node_form.declared.instructions.Instr.TheVariants as instr
use Rattle.stored_shifts.specs.of_node_form.declared.tables.Tables.{Tables}
use Rattle.stored_shifts.specs.of_node_form.Fits.{IsRank, FitsArray, Grows}
use Rattle.stored_shifts.specs.of_node_form.Grid.{IsGrid}
use Rattle.stored_shifts.proofs.of_node_form.GrowthLemmas.{Keeps-same, FitsInstr-grows}
use Rattle.lower_numbers.specs.of_row_runs.Code.{CodeRow, Straight, Jump, Unless}
use Rattle.lower_numbers.specs.of_row_runs.Straight.{Every}
use Rattle.lower_numbers.specs.of_row_runs.Structured as piece
use Rattle.lower_numbers.specs.of_row_runs.Structured.{Piece, size, flattened}
use Rattle.lower_numbers.specs.of_flat_form.Flat.{IsFlat}
use Rattle.lower_numbers.specs.of_flat_form.Laws.{IsInline, IsPlain}
use Rattle.lower_numbers.specs.of_flat_form.Row as row
use Rattle.lower_numbers.specs.of_flat_form.Row.{Row}
use Rattle.lower_numbers.specs.of_zpl_lowering.Check.{Check, flat_row}
use Rattle.lower_numbers.specs.of_zpl_lowering.Lowered.{Lowered}
use Rattle.lower_numbers.specs.of_zpl_lowering.Tables.{empty_tables, rows_of, tables_of}
use Rattle.lowering_fits.specs.Inline.{long, IsOwnRow, FitsRow, FitRows, FitsPiece, IsGround}
use Rattle.lowering_fits.proofs.TableLemmas.{rows_make_flat}

-- ---- rows in longer code

longer : (base : Tables) (few many : ℕ) → few ≤ many → Grows (long base few) (long base many)
longer base few many less = record {
  scalars = omega arith;
  cells = omega arith;
  slots = Keeps-same base.slots;
  arrays = Keeps-same base.arrays;
  texts = omega arith;
  exprs = Keeps-same base.exprs;
  groups = Keeps-same base.groups;
  exchanges = omega arith;
  code = omega (arith, length-replicate few instr.End, length-replicate many instr.End);
}

row_longer : (base : Tables) (few many : ℕ) (one : Row) → few ≤ many → FitsRow base few one →
    FitsRow base many one
row_longer base few many (row.Set scalar expr line) less fits = fits
row_longer base few many (row.Dims slot parts line) less fits = fits
row_longer base few many (row.Loop slot group) less fits = fits
row_longer base few many (row.Print text) less fits = tt
row_longer base few many (row.Number expr) less fits = fits
row_longer base few many (row.Truth expr) less fits = fits
row_longer base few many (row.Unless expr goal line) less fits =
    let below = fits.1 in (fits.0, omega arith)
row_longer base few many (row.Plain one) less fits =
    (FitsInstr-grows (long base few) (long base many) (longer base few many less) one fits.0, fits.1)

-- ---- rows of code

abbrev FitCode : Tables → ℕ → List (CodeRow Row Check) → Type 0
FitCode base count [] = Unit {0}
FitCode base count (one ∷ rows) = FitsRow base count (flat_row one) × FitCode base count rows

code_both : (base : Tables) (count : ℕ) (xs ys : List (CodeRow Row Check)) →
    FitCode base count xs → FitCode base count ys → FitCode base count (xs ++ ys)
code_both base count [] ys first rest = rest
code_both base count (x ∷ xs) ys first rest = (first.0, code_both base count xs ys first.1 rest)

straight : (base : Tables) (count : ℕ) (rows : List Row) → FitRows base 0 rows →
    FitCode base count (map Straight rows)
straight base count [] fit = tt
straight base count (one ∷ rows) fit =
    (row_longer base 0 count one (omega arith) fit.0, straight base count rows fit.1)

jump_fits : (base : Tables) (count goal : ℕ) → goal ≤ count →
    FitsRow base count (row.Plain (instr.Jump goal))
jump_fits base count goal within =
    (record { rank = 1; fit = omega (arith, length-replicate count instr.End) }, tt)

laid_out : (base : Tables) (count at : ℕ) (code : Piece Row Check) → FitsPiece base code →
    at + size code ≤ count → FitCode base count (flattened at code)
laid_out base count at (piece.Rows rows) fits within = straight base count rows fits
laid_out base count at (piece.Then first rest) fits within =
    code_both base count (flattened at first) (flattened (at + size first) rest)
    (laid_out base count at first fits.0 (omega arith))
    (laid_out base count (at + size first) rest fits.1 (omega arith))
laid_out base count at (piece.When test body) fits within =
    ((fits.0, omega arith), laid_out base count (at + 1) body fits.1 (omega arith))
laid_out base count at (piece.Choose test one other) fits within =
    let goal : ℕ = at + size one + size other + 2 in
    let behind : List (CodeRow Row Check) = flattened (at + size one + 2) other in (
      (fits.0, omega arith),
      code_both base count (flattened (at + 1) one) (Jump goal ∷ behind)
          (laid_out base count (at + 1) one fits.1 (omega arith)) (
            jump_fits base count goal (omega arith),
            laid_out base count (at + size one + 2) other fits.2 (omega arith),
          ),
    )
laid_out base count at (piece.While head test body) fits within =
    let goal : ℕ = at + size head + size body + 2 in
    let inside : List (CodeRow Row Check) = flattened (at + size head + 1) body in
    code_both base count (flattened at head) (Unless test goal ∷ (inside ++ Jump at ∷ []))
    (laid_out base count at head fits.0 (omega arith)) (
      (fits.1, omega arith),
      code_both base count inside (Jump at ∷ [])
          (laid_out base count (at + size head + 1) body fits.2 (omega arith))
          (jump_fits base count at (omega arith), tt),
    )
laid_out base count at (piece.Repeat body head test) fits within =
    let before : List (CodeRow Row Check) = flattened (at + size body + 1) head in (
      jump_fits base count (at + 1) (omega arith),
      code_both base count (flattened (at + 1) body) (before ++ Unless test (at + 1) ∷ [])
          (laid_out base count (at + 1) body fits.0 (omega arith))
          (code_both base count before (Unless test (at + 1) ∷ [])
          (laid_out base count (at + size body + 1) head fits.1 (omega arith))
          ((fits.2, omega arith), tt)),
    )

code_length : (at : ℕ) (code : Piece Row Check) → length (flattened at code) ≡ size code
code_length at (piece.Rows rows) = length-map rows Straight
code_length at (piece.Then first rest) =
    omega (
      arith,
      length-append (flattened at first) (flattened (at + size first) rest),
      code_length at first,
      code_length (at + size first) rest,
    )
code_length at (piece.When test body) = omega (arith, code_length (at + 1) body)
code_length at (piece.Choose test one other) =
    let goal : ℕ = at + size one + size other + 2 in
    let behind : List (CodeRow Row Check) = flattened (at + size one + 2) other in
    omega (
      arith,
      length-append (flattened (at + 1) one) (Jump goal ∷ behind),
      code_length (at + 1) one,
      code_length (at + size one + 2) other,
    )
code_length at (piece.While head test body) =
    let goal : ℕ = at + size head + size body + 2 in
    let inside : List (CodeRow Row Check) = flattened (at + size head + 1) body in
    omega (
      arith,
      length-append (flattened at head) (Unless test goal ∷ (inside ++ Jump at ∷ [])),
      length-append inside (Jump at ∷ []),
      code_length at head,
      code_length (at + size head + 1) body,
    )
code_length at (piece.Repeat body head test) =
    let before : List (CodeRow Row Check) = flattened (at + size body + 1) head in
    omega (
      arith,
      length-append (flattened (at + 1) body) (before ++ Unless test (at + 1) ∷ []),
      length-append before (Unless test (at + 1) ∷ []),
      code_length (at + 1) body,
      code_length (at + size body + 1) head,
    )

-- ---- rows of a flat program

rows_fit : (base : Tables) (count : ℕ) (code : List (CodeRow Row Check)) (rest : List Row) →
    FitCode base count code → FitRows base count rest →
    FitRows base count (map flat_row code ++ rest)
rows_fit base count [] rest fit fits = fits
rows_fit base count (one ∷ code) rest fit fits =
    (fit.0, rows_fit base count code rest fit.1 fits)

end_fits : (base : Tables) (count : ℕ) → FitRows base count (row.Plain instr.End ∷ [])
end_fits base count = ((record { rank = 1; fit = tt }, tt), tt)

all_length : (lowered : Lowered) → length (rows_of lowered) ≡ size lowered.code + 1
all_length lowered =
    let code : List (CodeRow Row Check) = flattened 0 lowered.code in
    omega (
      arith,
      length-append (map flat_row code) (row.Plain instr.End ∷ []),
      length-map code flat_row,
      code_length 0 lowered.code,
    )

ground : (grid : List ℕ) (lowered : Lowered) → IsGround (empty_tables grid lowered)
ground grid lowered =
    record { exprs = refl; groups = refl; texts = refl; exchanges = refl; code = refl }

-- rows of code that fits
pub all_rows_fit : (grid : List ℕ) (lowered : Lowered) →
    FitsPiece (empty_tables grid lowered) lowered.code →
    FitRows (empty_tables grid lowered) (length (rows_of lowered)) (rows_of lowered)
all_rows_fit grid lowered fits =
    let base : Tables = empty_tables grid lowered in
    let count : ℕ = length (rows_of lowered) in
    let counted = all_length lowered in
    rows_fit base count (flattened 0 lowered.code) (row.Plain instr.End ∷ [])
    (laid_out base count 0 lowered.code fits (omega arith)) (end_fits base count)

-- code that fits the scalars, slots and arrays of its own
pub code_makes_flat : (grid : List ℕ) (lowered : Lowered) → IsGrid grid → All IsRank lowered.slots →
    All FitsArray (empty_tables grid lowered).arrays →
    FitsPiece (empty_tables grid lowered) lowered.code → IsFlat (tables_of grid lowered)
code_makes_flat grid lowered is slots arrays fits =
    rows_make_flat (empty_tables grid lowered) (rows_of lowered) (ground grid lowered) is slots
    arrays (all_rows_fit grid lowered fits)

-- ---- and each row has its expressions and its group in its place

plain_of : (one : Instr) → IsOwnRow one → IsPlain one
plain_of (instr.Set scalar expr line) own = absurd own
plain_of (instr.Fix slot region) own = tt
plain_of (instr.Dims slot parts line) own = absurd own
plain_of (instr.Formed form slot from shift line) own = tt
plain_of (instr.Need slot array shift line) own = tt
plain_of (instr.Same target source kind line) own = tt
plain_of (instr.Fits slot shift line) own = tt
plain_of (instr.Room array slot) own = tt
plain_of (instr.Clear array) own = tt
plain_of (instr.Loop slot group) own = absurd own
plain_of (instr.Start exchange) own = absurd own
plain_of (instr.Finish exchange) own = absurd own
plain_of (instr.Edge kind array slot shift) own = tt
plain_of (instr.Flood array target from source) own = tt
plain_of (instr.Part array target fold from source) own = tt
plain_of (instr.Scan array slot fold along from mask) own = tt
plain_of (instr.Vote group) own = absurd own
plain_of (instr.Fold scalar fold) own = tt
plain_of (instr.TreeVote group) own = absurd own
plain_of (instr.TreeFold scalar fold) own = absurd own
plain_of (instr.Print text) own = absurd own
plain_of (instr.Number expr) own = absurd own
plain_of (instr.Truth expr) own = absurd own
plain_of (instr.Gather truth array slot) own = tt
plain_of (instr.Jump goal) own = tt
plain_of (instr.Unless expr goal line) own = absurd own
plain_of (instr.Trap kind line) own = tt
plain_of instr.End own = tt
plain_of (instr.Remap array slot from parts) own = tt

row_inline : (base : Tables) (count : ℕ) (one : Row) → FitsRow base count one → IsInline one
row_inline base count (row.Set scalar expr line) fits = tt
row_inline base count (row.Dims slot parts line) fits = tt
row_inline base count (row.Loop slot group) fits = tt
row_inline base count (row.Print text) fits = tt
row_inline base count (row.Number expr) fits = tt
row_inline base count (row.Truth expr) fits = tt
row_inline base count (row.Unless expr goal line) fits = tt
row_inline base count (row.Plain one) fits = plain_of one fits.1

rows_inline : (base : Tables) (count : ℕ) (rows : List Row) → FitRows base count rows →
    Every IsInline rows
rows_inline base count [] fit = tt
rows_inline base count (one ∷ rows) fit =
    (row_inline base count one fit.0, rows_inline base count rows fit.1)

pub code_inline : (grid : List ℕ) (lowered : Lowered) →
    FitsPiece (empty_tables grid lowered) lowered.code → Every IsInline (rows_of lowered)
code_inline grid lowered fits =
    rows_inline (empty_tables grid lowered) (length (rows_of lowered)) (rows_of lowered)
    (all_rows_fit grid lowered fits)
