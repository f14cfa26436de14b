-- Cells take the place of arrays: at most one for each.
use Rattle.std.proofs.Common.{◌≡◌, refl, ◌∙◌, arith, ℕ, zero, suc, ◌+◌, ◌≤◌, Bool, true}
use Rattle.std.proofs.Common.{false, List, [], ◌∷◌, ◌++◌, length}
use Rattle.std.proofs.lemmas.List.{length-map}
use Rattle.std.specs.Prelude.{cond, map, sum_by}
use Rattle.std.proofs.lemmas.List.Sums.{sum_by-cons}
use Rattle.temp_norm.specs.of_node_form.declared.tables.Tables.{Tables}
use Rattle.temp_norm.specs.of_code_parts.Counts.{code_size}
use Rattle.fuse_contract.specs.Contracting.{becomes_cell, cell_among, contracted}
use Rattle.fuse_contract.specs.Contracting.{contracted_arrays, contracted_from, member_contracted}
use Rattle.fuse_contract.specs.Contracting.{word_contracted}

few_from : (tables : Tables) (array count : ℕ)
    → length (contracted_from tables array count) ≤ count
few_from tables array zero = omega arith
few_from tables array (suc count) =
    by (becomes_cell tables array) (contracted_from tables (array + 1) count)
    (few_from tables (array + 1) count)
  where
    by : (b : Bool) (rest : List ℕ) → length rest ≤ count
        → length (cond b (array ∷ []) [] ++ rest) ≤ suc count
    by true rest few = omega (arith, few)
    by false rest few = omega (arith, few)

pub few_cells : (tables : Tables) → (contracted tables).cells ≤ tables.cells + length tables.arrays
few_cells tables = omega (arith, few_from tables 0 (length tables.arrays))

-- lists of lists that are as long
as_long : {X Y : Type 0} (change : X → Y) (lists : List (List X))
    → sum_by (λ list. length list) (map (map change) lists) ≡ sum_by (λ list. length list) lists
as_long change [] = refl
as_long change (list ∷ lists) =
    sum_by-cons (λ list. length list) (map change list) (map (map change) lists)
    ∙ omega (
      arith,
      length-map list change,
      as_long change lists,
      sum_by-cons (λ list. length list) list lists,
    )

pub size_with_cells : (tables : Tables)
    → code_size (contracted tables) ≤ code_size tables + length tables.arrays
size_with_cells tables =
    omega (
      arith,
      few_cells tables,
      as_long (word_contracted (cell_among tables.cells (contracted_arrays tables))) tables.exprs,
      as_long (member_contracted (cell_among tables.cells (contracted_arrays tables)))
          tables.groups,
    )
