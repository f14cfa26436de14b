-- Flat programs with loops that are joined, run as they are and joined.
use Rattle.std.proofs.Common.{◌≡◌, ℕ, List, [], ◌∷◌, None, true, false, ℤ}
use Rattle.std.proofs.Common.{pos, codes, refl}
use Rattle.std.specs.Fmt.{digits}
use Rattle.std.specs.Int.{int_wrap}
use Rattle.std.specs.Prelude.{length}
use Rattle.zpl_nums.specs.declared.ends.End.TheVariants.{Done, Trap}
use Rattle.zpl_nums.specs.declared.ends.TrapKind.TheVariants.{DivideByZero}
use Rattle.zpl_nums.specs.declared.folds.Fold.TheVariants as operator
use Rattle.zpl_nums.specs.declared.operators.Op.TheVariants as op
use Rattle.zpl_region.specs.declared.regions.Region.{Region}
use Rattle.zpl_region.specs.Hull.{all_from}
use Rattle.zpl_region.specs.Region.{padding}
use Rattle.node_form.specs.declared.arrays.ArrayDim.{ArrayDim}
use Rattle.node_form.specs.declared.arrays.ArrayDim.TheVariants.{Range, Star}
use Rattle.node_form.specs.declared.arrays.ArrayRow.{ArrayRow}
use Rattle.node_form.specs.declared.instructions.Instr.TheVariants as instr
use Rattle.node_form.specs.declared.tables.Tables.{Tables}
use Rattle.node_form.specs.declared.words.ExprOp.TheVariants.{Const, Coord, Here, Pair, Scalar}
use Rattle.node_form.specs.declared.words.ExprOp.TheVariants as word
use Rattle.row_runs.specs.Run.{Ends, Result, Stop}
use Rattle.flat_form.specs.Act.{flat_run}
use Rattle.flat_form.specs.Row.{Acc, Cell, Loop, Member, Plain, Print, Put, Row, Words, with_rows}
use Rattle.contracted_runs.specs.of_fuse_contract.Fusing.{fused}

abbrev line : ℤ → ℤ → Region
line lo hi = record { rank = 1; dims = all_from lo hi ∷ padding ∷ padding ∷ [] }

abbrev unused : ArrayDim
unused = Range (pos 0) (pos 0) (pos 0) (pos 0)

abbrev array_with : ArrayDim → ArrayRow
array_with dim = record { rank = 1; stored = true; dims = dim ∷ unused ∷ unused ∷ [] }

-- the arrays 0 and 1 from 1 to 3, and 2 with a flood dimension
abbrev bare : ℕ → Tables
bare cells = record {
  grid = 1 ∷ 0 ∷ 0 ∷ [];
  scalars = 1;
  cells = cells;
  slots = 1 ∷ [];
  arrays = array_with (Range (pos 1) (pos 3) (pos 0) (pos 0))
      ∷ array_with (Range (pos 1) (pos 3) (pos 0) (pos 0)) ∷ array_with Star ∷ [];
  texts = [];
  exprs = [];
  groups = [];
  exchanges = [];
  code = [];
}

abbrev with_loops : ℕ → List Row → Tables
with_loops cells rows = with_rows (bare cells)
    (Plain (instr.Fix 0 (line (pos 1) (pos 3))) ∷ rows)

abbrev shown : List ℕ → Stop → Result
shown bytes stop = record { bytes = bytes; stop = stop }

abbrev loop : Member → Row
loop one = Loop 0 (one ∷ [])

abbrev put : ℕ → Words → ℕ → Row
put array expr at = loop (Put array expr None at)

abbrev gathered : Row
gathered = Plain (instr.Gather false 1 0)

-- the quotient of 6 by the index less 2, which is none at 2
abbrev quotient : Words
quotient = Const (pos 6) ∷ Coord 1 ∷ Const (pos 2) ∷ Pair op.Sub ∷ Pair op.Div ∷ []

-- ---- the second loop reads what the first one has put
abbrev two_puts : Tables
two_puts = with_loops 0
    (put 0 (Coord 1 ∷ Const (pos 10) ∷ Pair op.Mul ∷ []) 1
    ∷ put 1 (Here 0 ∷ Const (pos 1) ∷ Pair op.Add ∷ []) 2 ∷ gathered ∷ [])

apart : flat_run two_puts 1 0 ≡ shown (codes "11 21 31") (Ends Done)
unfolding digits int_wrap
apart = refl

together : flat_run (fused two_puts) 1 0 ≡ shown (codes "11 21 31") (Ends Done)
unfolding digits int_wrap
together = refl

one_loop : length (fused two_puts).code ≡ 3
one_loop = refl

-- the trap of the first unit that meets one, with its line
abbrev two_traps : Tables
two_traps = with_loops 0 (put 0 quotient 1 ∷ put 1 quotient 2 ∷ [])

trapped : flat_run two_traps 1 0 ≡ shown [] (Ends (Trap DivideByZero 1))
unfolding digits int_wrap
trapped = refl

trapped_together : flat_run (fused two_traps) 1 0 ≡ shown [] (Ends (Trap DivideByZero 1))
unfolding digits int_wrap
trapped_together = refl

-- ---- Where the first loop comes to a trap, the second one is never looked at. Joined, it would have
-- to stand in front of the trap too, and so it doesn't join: a scalar that doesn't hold the unit of
-- its fold,
abbrev no_unit : Tables
no_unit = with_loops 0
    (put 0 quotient 1 ∷ loop (Acc 0 operator.Prod (Const (pos 1) ∷ []) None 2) ∷ [])

no_unit_apart : flat_run no_unit 1 0 ≡ shown [] (Ends (Trap DivideByZero 1))
unfolding digits int_wrap
no_unit_apart = refl

no_unit_together : flat_run (fused no_unit) 1 0 ≡ shown [] (Ends (Trap DivideByZero 1))
unfolding digits int_wrap
no_unit_together = refl

-- a scalar whose fold is still to come,
abbrev unfolded : Tables
unfolded = with_loops 0
    (loop (Acc 0 operator.Sum (Const (pos 1) ∷ []) None 1) ∷ Print [] ∷ put 0 quotient 2
    ∷ put 1 (Scalar 0 ∷ []) 3 ∷ [])

unfolded_apart : flat_run unfolded 1 0 ≡ shown [] (Ends (Trap DivideByZero 2))
unfolding digits int_wrap
unfolded_apart = refl

unfolded_together : flat_run (fused unfolded) 1 0 ≡ shown [] (Ends (Trap DivideByZero 2))
unfolding digits int_wrap
unfolded_together = refl

-- and an array that has a flood dimension where the region has none.
abbrev flooded : Tables
flooded = with_loops 0 (put 0 quotient 1 ∷ put 2 (Const (pos 1) ∷ []) 2 ∷ [])

flooded_apart : flat_run flooded 1 0 ≡ shown [] (Ends (Trap DivideByZero 1))
unfolding digits int_wrap
flooded_apart = refl

flooded_together : flat_run (fused flooded) 1 0 ≡ shown [] (Ends (Trap DivideByZero 1))
unfolding digits int_wrap
flooded_together = refl

-- what is put has the flood dimensions of what the first loop puts, and joins
abbrev alike : Tables
alike = with_loops 0 (put 0 quotient 1 ∷ put 1 (Const (pos 1) ∷ []) 2 ∷ [])

alike_together : flat_run (fused alike) 1 0 ≡ shown [] (Ends (Trap DivideByZero 1))
unfolding digits int_wrap
alike_together = refl

alike_joined : length (fused alike).code ≡ 2
alike_joined = refl

apart_still : (length (fused no_unit).code ≡ 3) × (length (fused flooded).code ≡ 3)
apart_still = (refl, refl)

-- ---- a cell that the second loop doesn't keep starts as 0, and joined as what the first one kept
abbrev with_cell : Tables
with_cell = with_loops 1
    (Loop 0 (Cell 0 (Const (pos 5) ∷ []) None 1 ∷ Put 0 (Const (pos 1) ∷ []) None 1 ∷ [])
    ∷ put 1 (word.Cell 0 ∷ []) 2 ∷ gathered ∷ [])

cell_apart : flat_run with_cell 1 0 ≡ shown (codes "0 0 0") (Ends Done)
unfolding digits int_wrap
cell_apart = refl

cell_together : flat_run (fused with_cell) 1 0 ≡ shown (codes "5 5 5") (Ends Done)
unfolding digits int_wrap
cell_together = refl
