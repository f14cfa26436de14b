-- Vectors and regions keep three components.
use Rattle.std.proofs.Common.{◌≡◌, refl, arith, ℕ, ◌==◌, Bool, true, false, not, List, [], ◌∷◌, length, map, All, Option, Some, None, eq-eqb, eqb-true, ap, ◌+◌}
use Rattle.std.specs.Prelude.{count_by}
use Rattle.std.specs.List.{AllByRecursion}
use Rattle.std.proofs.lemmas.List.Elements.{All-append, All-from_recursion, recursion_from_All}
use Rattle.node_form.specs.declared.words.ExprOp.{ExprOp}
use Rattle.node_form.specs.declared.words.ExprOp.TheVariants as word
use Rattle.node_form.specs.declared.arrays.ArrayRow.{ArrayRow}
use Rattle.node_form.specs.declared.instructions.Instr.{Instr}
use Rattle.node_form.specs.declared.instructions.Instr.TheVariants as instr
use Rattle.node_form.specs.declared.tables.Tables.{Tables}
use Rattle.code_parts.specs.Counts.{count_of}
use Rattle.flat_passes.specs.Rewritten.{with_moved_goal}
use Rattle.temp_norm.specs.Normalised.{normalised, read_each}
use Rattle.temp_norm.specs.Normalised.{temporaries}
use Rattle.bound_check.specs.Checked.{checked}
use Rattle.zpl_compile.specs.of_fuse_contract.Contracting.{cell_among, contracted, contracted_arrays, here_or_cell}
use Rattle.zpl_compile.specs.of_fuse_contract.Contracting.{word_contracted}
use Rattle.zpl_compile.specs.of_fuse_contract.Fusing.{fused}
use Rattle.zpl_compile.proofs.of_fuse_contract.CellFitLemmas.{every_mapped}
use Rattle.contracted_runs.proofs.ThreeLemmas.{normalised_three as normalised_dims}
use Rattle.pass_fits.specs.of_pass_sizes.Sizes.{IsBlind}
use Rattle.pass_fits.proofs.of_pass_sizes.NormalLemmas.{normal_count}
use Rattle.pass_fits.proofs.of_pass_sizes.SettledLemmas.{checked_count, fused_count}
use Rattle.pass_fits.proofs.of_pass_parts.NameLemmas.{none_counted, none_first}
use Rattle.needs_runs.specs.Agree.{HasThreeOf}
use Rattle.needs_runs.specs.Sharable.{HasThreeIn}
use Rattle.sharable_tables.specs.Threes.{HasThrees}

-- ---- rows
abbrev lacks_three : Instr → Bool
lacks_three (instr.Fix slot region) = not (length region.dims == 3)
lacks_three (instr.Dims slot parts line) = not (length parts == 3)
lacks_three (instr.Formed form slot from shift line) = not (length shift == 3)
lacks_three (instr.Edge kind array slot shift) = not (length shift == 3)
lacks_three row = false

lacks_goals : (moved : ℕ → ℕ) (row : Instr)
    → lacks_three (with_moved_goal moved row) ≡ lacks_three row
lacks_goals moved (instr.Jump goal) = refl
lacks_goals moved (instr.Unless expr goal line) = refl
lacks_goals moved row = refl

lacks_blind : IsBlind lacks_three
lacks_blind = record { goals = lacks_goals; loops = λ slot group other. refl }

three_lacks : (n : ℕ) → n ≡ 3 → not (n == 3) ≡ false
three_lacks n three = ap not (eq-eqb n 3 three)

lacks_not : (n : ℕ) → not (n == 3) ≡ false → n ≡ 3
lacks_not n none = by (n == 3) refl none
  where
    by : (b : Bool) → (n == 3) ≡ b → not b ≡ false → n ≡ 3
    by true e none = eqb-true n 3 e
    by false e none = cc

lacks_none : (row : Instr) → HasThreeOf row → lacks_three row ≡ false
lacks_none (instr.Fix slot region) three = three_lacks (length region.dims) three
lacks_none (instr.Dims slot parts line) three = three_lacks (length parts) three
lacks_none (instr.Formed form slot from shift line) three = three_lacks (length shift) three
lacks_none (instr.Edge kind array slot shift) three = three_lacks (length shift) three
lacks_none row three = refl

none_lacks : (row : Instr) → lacks_three row ≡ false → HasThreeOf row
none_lacks (instr.Fix slot region) none = lacks_not (length region.dims) none
none_lacks (instr.Dims slot parts line) none = lacks_not (length parts) none
none_lacks (instr.Formed form slot from shift line) none = lacks_not (length shift) none
none_lacks (instr.Edge kind array slot shift) none = lacks_not (length shift) none
none_lacks row none = tt

all_have : (rows : List Instr) → count_by lacks_three rows ≡ 0 → AllByRecursion HasThreeOf rows
all_have [] none = tt
all_have (row ∷ rows) none =
    let first = none_first lacks_three row rows none in
    (none_lacks row first.0, all_have rows first.1)

three_rows : (tables : Tables) → count_of lacks_three tables ≡ 0 → All HasThreeOf tables.code
three_rows tables none = All-from_recursion HasThreeOf tables.code (all_have tables.code none)

rows_lack : (tables : Tables) → All HasThreeOf tables.code → count_of lacks_three tables ≡ 0
rows_lack tables all =
    none_counted lacks_three HasThreeOf lacks_none tables.code
    (recursion_from_All HasThreeOf tables.code all)

-- ---- words
each_read : (array : ℕ) (rows : List ArrayRow)
    → AllByRecursion (All HasThreeIn) (read_each array rows)
each_read array [] = tt
each_read array (row ∷ rows) = (
  All-from_recursion HasThreeIn (word.Here array ∷ []) (tt, tt),
  each_read (array + 1) rows,
)

here_three : (cell_of : ℕ → Option ℕ) (array : ℕ) (cell : Option ℕ)
    → HasThreeIn (here_or_cell cell_of array cell)
here_three cell_of array (Some cell) = tt
here_three cell_of array None = tt

word_three : (cell_of : ℕ → Option ℕ) (one : ExprOp) → HasThreeIn one
    → HasThreeIn (word_contracted cell_of one)
word_three cell_of (word.Here array) is = here_three cell_of array (cell_of array)
word_three cell_of (word.Shifted array shift) is = is
word_three cell_of (word.Const value) is = tt
word_three cell_of (word.Scalar scalar) is = tt
word_three cell_of (word.Cell cell) is = tt
word_three cell_of (word.Coord dimension) is = tt
word_three cell_of (word.Pair op) is = tt
word_three cell_of word.Neg is = tt
word_three cell_of word.Not is = tt
word_three cell_of word.Abs is = tt

-- ---- the passes
pub normalised_three : (tables : Tables) → HasThrees tables → HasThrees (normalised tables)
normalised_three tables is = record {
  rows =
      three_rows (normalised tables)
      (omega (
        arith,
        normal_count tables lacks_three lacks_blind 0 0 (λ array slot. omega arith)
            (λ slot. omega arith),
        rows_lack tables is.rows,
      ));
  arrays = normalised_dims tables is.arrays;
  words =
      All-append (All HasThreeIn) tables.exprs (read_each (length tables.arrays) (temporaries tables))
      is.words
      (All-from_recursion (All HasThreeIn)
      (read_each (length tables.arrays) (temporaries tables))
      (each_read (length tables.arrays) (temporaries tables)));
}

pub checked_three : (tables : Tables) → HasThrees tables → HasThrees (checked tables)
checked_three tables is = record {
  rows =
      three_rows (checked tables)
      (omega (arith, checked_count tables lacks_three lacks_blind, rows_lack tables is.rows));
  arrays = is.arrays;
  words = is.words;
}

pub fused_three : (tables : Tables) → HasThrees tables → HasThrees (fused tables)
fused_three tables is = record {
  rows =
      three_rows (fused tables)
      (omega (
        arith,
        fused_count tables lacks_three lacks_blind (λ slot group. refl),
        rows_lack tables is.rows,
      ));
  arrays = is.arrays;
  words = is.words;
}

pub contracted_three : (tables : Tables) → HasThrees tables → HasThrees (contracted tables)
contracted_three tables is =
    let cell_of : ℕ → Option ℕ = cell_among tables.cells (contracted_arrays tables) in
    record {
      rows = is.rows;
      arrays = is.arrays;
      words =
          every_mapped (All HasThreeIn) (All HasThreeIn) (map (word_contracted cell_of))
          (every_mapped HasThreeIn HasThreeIn (word_contracted cell_of) (word_three cell_of))
          tables.exprs is.words;
    }
