-- Programs that change arrays, on several processors: what they print.
use Rattle.std.proofs.Common.{◌≡◌, ◌++◌, ◌*◌, ℕ, List, [], ◌∷◌, map, Option, Some, None, true, false, pos, neg_ℤ, ℤ, codes, refl}
use Rattle.std.specs.Fmt.{digits}
use Rattle.std.specs.Int.{int_wrap}
use Rattle.node_form.specs.of_zpl_nums.declared.operators.Op.TheVariants as op
use Rattle.node_form.specs.of_zpl_nums.declared.ends.Border.TheVariants.{Wrap, Reflect}
use Rattle.node_form.specs.of_zpl_nums.declared.folds.Fold.TheVariants as f
use Rattle.grid_layout.specs.of_zpl_region.declared.dims.Dim.{Dim}
use Rattle.grid_layout.specs.of_zpl_region.declared.dims.Dim.TheVariants as dim
use Rattle.grid_layout.specs.of_zpl_region.declared.regions.Region.{Region}
use Rattle.grid_layout.specs.of_zpl_region.Region.{padding}
use Rattle.node_form.specs.declared.arrays.ArrayDim.{ArrayDim}
use Rattle.node_form.specs.declared.arrays.ArrayDim.TheVariants as array
use Rattle.node_form.specs.declared.arrays.ArrayRow.{ArrayRow}
use Rattle.node_form.specs.declared.tables.Tables.{Tables}
use Rattle.node_form.specs.declared.members.Member.TheVariants.{Put}
use Rattle.node_form.specs.declared.words.ExprOp.{ExprOp}
use Rattle.node_form.specs.declared.words.ExprOp.TheVariants.{Const, Coord, Here, Pair}
use Rattle.node_form.specs.declared.instructions.RegionForm.TheVariants.{By}
use Rattle.node_form.specs.declared.instructions.Instr.{Instr}
use Rattle.node_form.specs.declared.instructions.Instr.TheVariants as instr
use Rattle.grid_meaning.specs.Grid.{processors, after}
use Rattle.grid_meaning.specs.Order.{given}

-- ---- regions and arrays
abbrev span : ℤ → ℤ → Dim
span lo hi = dim.Range lo hi (pos 1) lo

abbrev line : ℤ → ℤ → Region
line lo hi = record { rank = 1; dims = span lo hi ∷ padding ∷ padding ∷ [] }

abbrev plane : Dim → Dim → Region
plane rows columns = record { rank = 2; dims = rows ∷ columns ∷ padding ∷ [] }

abbrev vector : ℤ → ℤ → List ℤ
vector a b = a ∷ b ∷ pos 0 ∷ []

abbrev unused : ArrayDim
unused = array.Range (pos 0) (pos 0) (pos 0) (pos 0)

abbrev stores : ℤ → ℤ → ArrayDim
stores lo hi = array.Range lo hi (pos 0) (pos 0)

abbrev stored_line : ℤ → ℤ → ArrayRow
stored_line lo hi = record { rank = 1; stored = true; dims = stores lo hi ∷ unused ∷ unused ∷ [] }

abbrev stored_plane : ArrayDim → ArrayDim → ArrayRow
stored_plane rows columns = record { rank = 2; stored = true; dims = rows ∷ columns ∷ unused ∷ [] }

abbrev temporary : ℕ → ArrayRow
temporary rank = record { rank = rank; stored = false; dims = unused ∷ unused ∷ unused ∷ [] }

-- ---- code: what is printed after so many rounds of turns
abbrev code_of : List ℕ → List ℕ → List ArrayRow → List (List ExprOp) → List (ℕ × ℕ) → List Instr → Tables
code_of grid slots arrays exprs puts code = record {
  grid = grid;
  scalars = 0;
  cells = 0;
  slots = slots;
  arrays = arrays;
  texts = [];
  exprs = exprs;
  groups = map (λ put. Put put.0 put.1 None 1 ∷ []) puts;
  exchanges = [];
  code = code;
}

abbrev printed : Tables → Option ℕ → ℕ → List ℕ
printed code links rounds = (after code links (given [] (processors code) (rounds * processors code))).printed

-- the index; ten times the first coordinate and the second one
abbrev index : List ExprOp
index = Coord 1 ∷ []

abbrev two_digits : List ExprOp
two_digits = Const (pos 10) ∷ Coord 1 ∷ Pair op.Mul ∷ Coord 2 ∷ Pair op.Add ∷ []

-- ---- `wrap` above and `reflect` below, over the storage -2..6 of 1..3
abbrev bordered : Tables
bordered = code_of (3 ∷ 0 ∷ 0 ∷ []) (1 ∷ 1 ∷ []) (stored_line (neg_ℤ (pos 2)) (pos 6) ∷ []) (index ∷ []) ((0, 0) ∷ [])
    (instr.Fix 0 (line (pos 1) (pos 3)) ∷ instr.Loop 0 0 ∷ instr.Edge Wrap 0 0 (vector (pos 3) (pos 0))
    ∷ instr.Edge Reflect 0 0 (vector (neg_ℤ (pos 3)) (pos 0)) ∷ instr.Fix 1 (line (neg_ℤ (pos 2)) (pos 6))
    ∷ instr.Gather false 0 1 ∷ [])

borders : printed bordered (Some 1) 24 ≡ codes "3 2 1 1 2 3 1 2 3"
unfolding int_wrap digits
borders = refl

-- ---- scans over every second row and every third column of 1..4, 1..6, into a temporary, on 2 by 2 processors: over all in
-- row-major order, and down the columns
abbrev scans : ℕ → Tables
scans along = code_of (2 ∷ 2 ∷ 0 ∷ []) (2 ∷ 2 ∷ []) (stored_plane (stores (pos 1) (pos 4)) (stores (pos 1) (pos 6)) ∷ temporary 2 ∷ [])
    (two_digits ∷ []) ((0, 0) ∷ [])
    (instr.Fix 0 (plane (span (pos 1) (pos 4)) (span (pos 1) (pos 6))) ∷ instr.Loop 0 0
    ∷ instr.Formed By 1 0 (vector (pos 2) (pos 3)) 1 ∷ instr.Room 1 1 ∷ instr.Scan 1 1 f.Sum along 0 None
    ∷ instr.Gather false 1 1 ∷ [])

scan_over_all : printed (scans 0) (Some 1) 26 ≡ codes "11 25" ++ 10 ∷ codes "56 90" ++ 10 ∷ []
unfolding int_wrap digits
scan_over_all = refl

scan_down : printed (scans 1) None 26 ≡ codes "11 14" ++ 10 ∷ codes "42 48" ++ 10 ∷ []
unfolding int_wrap digits
scan_down = refl

-- ---- the sums of the rows of 1..2, 1..3 in its first column, on 1 by 2 processors
abbrev row_sums : Tables
row_sums = code_of (1 ∷ 2 ∷ 0 ∷ []) (2 ∷ 2 ∷ [])
    (stored_plane (stores (pos 1) (pos 2)) (stores (pos 1) (pos 3)) ∷ stored_plane (stores (pos 1) (pos 2)) (stores (pos 1) (pos 3)) ∷ [])
    (two_digits ∷ []) ((0, 0) ∷ [])
    (instr.Fix 0 (plane (span (pos 1) (pos 2)) (span (pos 1) (pos 3))) ∷ instr.Loop 0 0
    ∷ instr.Fix 1 (plane (span (pos 1) (pos 2)) (span (pos 1) (pos 1))) ∷ instr.Part 1 1 f.Sum 0 0
    ∷ instr.Gather false 1 1 ∷ [])

sums_of_rows : printed row_sums (Some 1) 16 ≡ codes "36" ++ 10 ∷ codes "66" ++ 10 ∷ []
unfolding int_wrap digits
sums_of_rows = refl

-- ---- the second column of 1..2, 1..2 in all columns of an array with a flood dimension, which is read into the first array
abbrev floods : Tables
floods = code_of (1 ∷ 2 ∷ 0 ∷ []) (2 ∷ 2 ∷ 2 ∷ [])
    (stored_plane (stores (pos 1) (pos 2)) (stores (pos 1) (pos 2)) ∷ stored_plane (stores (pos 1) (pos 2)) array.Star ∷ [])
    (two_digits ∷ (Here 1 ∷ []) ∷ []) ((0, 0) ∷ (0, 1) ∷ [])
    (instr.Fix 0 (plane (span (pos 1) (pos 2)) (span (pos 1) (pos 2))) ∷ instr.Loop 0 0
    ∷ instr.Fix 1 (plane (span (pos 1) (pos 2)) dim.Flood) ∷ instr.Fix 2 (plane (span (pos 1) (pos 2)) (span (pos 2) (pos 2)))
    ∷ instr.Flood 1 1 0 2 ∷ instr.Loop 0 1 ∷ instr.Gather false 0 0 ∷ [])

flood_of_a_column : printed floods (Some 1) 20 ≡ codes "12 12" ++ 10 ∷ codes "22 22" ++ 10 ∷ []
unfolding int_wrap digits
flood_of_a_column = refl

-- ---- an array read from its end, on two processors
abbrev turned : Tables
turned = code_of (2 ∷ 0 ∷ 0 ∷ []) (1 ∷ []) (stored_line (pos 1) (pos 4) ∷ temporary 1 ∷ temporary 1 ∷ [])
    ((Const (pos 10) ∷ Coord 1 ∷ Pair op.Mul ∷ []) ∷ (Const (pos 5) ∷ Coord 1 ∷ Pair op.Sub ∷ []) ∷ [])
    ((0, 0) ∷ (1, 1) ∷ [])
    (instr.Fix 0 (line (pos 1) (pos 4)) ∷ instr.Loop 0 0 ∷ instr.Room 1 0 ∷ instr.Loop 0 1 ∷ instr.Room 2 0
    ∷ instr.Remap 2 0 0 (Some 1 ∷ None ∷ None ∷ []) ∷ instr.Gather false 2 0 ∷ [])

read_from_its_end : printed turned (Some 1) 24 ≡ codes "40 30 20 10"
unfolding int_wrap digits
read_from_its_end = refl

-- ---- indices outside the storage give 0, and `clear` makes all values 0
abbrev outside : Tables
outside = record turned {
  exprs = (Const (pos 10) ∷ Coord 1 ∷ Pair op.Mul ∷ []) ∷ (Coord 1 ∷ Const (pos 2) ∷ Pair op.Add ∷ []) ∷ [];
}

read_outside : printed outside None 24 ≡ codes "30 40 0 0"
unfolding int_wrap digits
read_outside = refl

abbrev clears : Tables
clears = record turned {
  code = instr.Fix 0 (line (pos 1) (pos 4)) ∷ instr.Loop 0 0 ∷ instr.Clear 0 ∷ instr.Gather true 0 0 ∷ [];
}

cleared : printed clears None 10 ≡ codes "false false false false"
unfolding int_wrap digits
cleared = refl
