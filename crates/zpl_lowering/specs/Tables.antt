-- The tables of a lowered program.
use Rattle.std.specs.Prelude.{ℕ, zero, suc, ◌-◌, Bool, true, false, ℤ, pos, neg_ℤ, List, [], ◌∷◌, ◌++◌, map, length, filter, ◌==◌}
use Rattle.std.specs.Int.{int_max}
use Rattle.zpl_meaning.specs.of_zpl_region.declared.dims.Dim.{Dim}
use Rattle.zpl_meaning.specs.of_zpl_region.declared.dims.Dim.TheVariants as dim
use Rattle.zpl_meaning.specs.of_zpl_region.declared.regions.Region.{Region}
use Rattle.zpl_meaning.specs.of_zpl_tree.Syntax.{Program}
use Rattle.zpl_meaning.specs.of_zpl_binding.Settings.{Setting}
use Rattle.text_sharing.specs.of_node_form.declared.arrays.ArrayDim.{ArrayDim}
use Rattle.text_sharing.specs.of_node_form.declared.arrays.ArrayDim.TheVariants as array
use Rattle.text_sharing.specs.of_node_form.declared.arrays.ArrayRow.{ArrayRow}
use Rattle.text_sharing.specs.of_node_form.declared.instructions.Instr.TheVariants as instr
use Rattle.text_sharing.specs.of_node_form.declared.tables.Tables.{Tables}
use Rattle.text_sharing.specs.of_row_runs.Structured.{flattened}
use Rattle.text_sharing.specs.of_flat_form.Row as row
use Rattle.text_sharing.specs.of_flat_form.Row.{Row, with_rows}
use Rattle.text_sharing.specs.Shared.{texts_shared}
use Rattle.zpl_lowering.specs.Check.{flat_row}
use Rattle.zpl_lowering.specs.Hoist.{Shifted}
use Rattle.zpl_lowering.specs.Lowered.{Lowered}
use Rattle.zpl_lowering.specs.Program.{lowered_program}

-- ---- fringes: the greatest shifts downward and upward, dimension by dimension

pub record Fringe : Type 0 where
  pub low : ℤ
  pub high : ℤ

abbrev pub no_fringe : Fringe
no_fringe = record { low = pos 0; high = pos 0 }

abbrev pub wider : Fringe → ℤ → Fringe
wider fringe d =
    record { low = int_max fringe.low (neg_ℤ d); high = int_max fringe.high d }

abbrev pub all_wider : List Fringe → List ℤ → List Fringe
all_wider [] shift = []
all_wider (fringe ∷ fringes) [] = fringe ∷ fringes
all_wider (fringe ∷ fringes) (d ∷ shift) = wider fringe d ∷ all_wider fringes shift

abbrev pub widened : List Fringe → List Shifted → List Fringe
widened fringes [] = fringes
widened fringes (shifted ∷ rest) = widened (all_wider fringes shifted.shift) rest

abbrev pub fringes_of : ℕ → List Shifted → List Fringe
fringes_of k shifts =
    widened (no_fringe ∷ no_fringe ∷ no_fringe ∷ []) (filter (λ one. one.array == k) shifts)

-- ---- arrays

abbrev pub no_range : ArrayDim
no_range = array.Range (pos 0) (pos 0) (pos 0) (pos 0)

abbrev pub stored_dim : Dim → Fringe → ArrayDim
stored_dim (dim.Range lo hi step align) fringe = array.Range lo hi fringe.low fringe.high
stored_dim dim.Flood fringe = array.Star

-- so many are of the rank, and the others are without places
abbrev pub stored_dims : ℕ → List Dim → List Fringe → List ArrayDim
stored_dims rank [] fringes = []
stored_dims rank (one ∷ dims) [] = []
stored_dims zero (one ∷ dims) (fringe ∷ fringes) = no_range ∷ stored_dims zero dims fringes
stored_dims (suc rank) (one ∷ dims) (fringe ∷ fringes) =
    stored_dim one fringe ∷ stored_dims rank dims fringes

abbrev pub stored_row : ℕ → List Shifted → Region → ArrayRow
stored_row k shifts storage = record {
  rank = storage.rank;
  stored = true;
  dims = stored_dims storage.rank storage.dims (fringes_of k shifts);
}

abbrev pub stored_rows : ℕ → List Shifted → List Region → List ArrayRow
stored_rows k shifts [] = []
stored_rows k shifts (storage ∷ storages) =
    stored_row k shifts storage ∷ stored_rows (suc k) shifts storages

abbrev pub temp_dim : Bool → ArrayDim
temp_dim true = array.Star
temp_dim false = no_range

abbrev pub temp_dims : ℕ → List Bool → List ArrayDim
temp_dims zero flood = []
temp_dims (suc count) [] = no_range ∷ temp_dims count []
temp_dims (suc count) (one ∷ flood) = temp_dim one ∷ temp_dims count flood

abbrev pub temp_row : List Bool → ArrayRow
temp_row flood = record { rank = length flood; stored = false; dims = temp_dims 3 flood }

-- ---- tables

abbrev pub empty_tables : List ℕ → Lowered → Tables
empty_tables grid lowered = record {
  grid = grid;
  scalars = lowered.scalars;
  cells = 0;
  slots = lowered.slots;
  arrays = stored_rows 0 lowered.shifts (lowered.arrays ++ (lowered.copies ++ lowered.later))
      ++ map temp_row lowered.temps;
  texts = [];
  exprs = [];
  groups = [];
  exchanges = [];
  code = [];
}

-- the end stands behind all code
abbrev pub rows_of : Lowered → List Row
rows_of lowered = map flat_row (flattened 0 lowered.code) ++ row.Plain instr.End ∷ []

abbrev pub tables_of : List ℕ → Lowered → Tables
tables_of grid lowered = with_rows (empty_tables grid lowered) (rows_of lowered)

-- the tables of a program under settings, where each row that prints a text has one of its own
abbrev pub unshared_tables : Program → List Setting → Tables
unshared_tables program settings = tables_of (1 ∷ 0 ∷ 0 ∷ []) (lowered_program program settings)

-- The flat program of a program under settings: it is for one processor, before it is planned. Each
-- different text stands once.
abbrev pub flat_tables : Program → List Setting → Tables
flat_tables program settings = texts_shared (unshared_tables program settings)
