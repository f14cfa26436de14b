-- Flat programs with arrays that become cells, run as they are and with cells.
use Rattle.std.proofs.Common.{◌≡◌, ℕ, List, [], ◌∷◌, Some, None, true, false, ℤ}
use Rattle.std.proofs.Common.{pos, codes, refl}
use Rattle.std.specs.Fmt.{digits}
use Rattle.std.specs.Int.{int_wrap}
use Rattle.std.specs.Prelude.{Option}
use Rattle.zpl_nums.specs.declared.ends.End.TheVariants.{Done, More, Trap}
use Rattle.zpl_nums.specs.declared.ends.TrapKind.TheVariants.{DivideByZero, OutsideStorage}
use Rattle.zpl_nums.specs.declared.operators.Op.TheVariants as op
use Rattle.zpl_region.specs.declared.regions.Region.{Region}
use Rattle.zpl_region.specs.Hull.{all_from}
use Rattle.zpl_region.specs.Region.{padding}
use Rattle.node_form.specs.declared.arrays.ArrayDim.TheVariants.{Range}
use Rattle.node_form.specs.declared.arrays.ArrayRow.{ArrayRow}
use Rattle.node_form.specs.declared.instructions.Instr.TheVariants as instr
use Rattle.node_form.specs.declared.tables.Tables.{Tables}
use Rattle.node_form.specs.declared.words.ExprOp.TheVariants.{Const, Coord, Here, Pair}
use Rattle.row_runs.specs.Run.{Ends, Result, Stop}
use Rattle.normal_runs.specs.of_flat_form.Act.{flat_run}
use Rattle.normal_runs.specs.of_flat_form.Row.{CloseWhile, Loop, Member, OpenWhile, Plain, Put, Words, with_rows}
use Rattle.fuse_contract.specs.Contracting.{contracted, contracted_arrays}

abbrev line : ℤ → ℤ → Region
line lo hi = record { rank = 1; dims = all_from lo hi ∷ padding ∷ padding ∷ [] }

abbrev array_to : ℤ → ArrayRow
array_to hi = record {
  rank = 1;
  stored = true;
  dims = Range (pos 0) hi (pos 1) (pos 1) ∷ Range (pos 0) (pos 0) (pos 0) (pos 0)
      ∷ Range (pos 0) (pos 0) (pos 0) (pos 0) ∷ [];
}

-- two arrays from 0 on, and no rows
abbrev bare : ℤ → Tables
bare hi = record {
  grid = 1 ∷ 0 ∷ 0 ∷ [];
  scalars = 0;
  cells = 0;
  slots = 1 ∷ 1 ∷ [];
  arrays = array_to hi ∷ array_to (pos 3) ∷ [];
  texts = [];
  exprs = [];
  groups = [];
  exchanges = [];
  code = [];
}

abbrev put : ℕ → Words → Option Words → ℕ → Member
put array expr mask at = Put array expr mask at

abbrev shown : List ℕ → Stop → Result
shown bytes stop = record { bytes = bytes; stop = stop }

-- ---- array 0 is put, put again under a mask, and read where array 1 is put
abbrev squares : ℤ → Tables
squares hi = with_rows (bare hi)
    (Plain (instr.Fix 0 (line (pos 0) (pos 3)))
    ∷ Plain (instr.Need 0 0 (pos 0 ∷ pos 0 ∷ pos 0 ∷ []) 1)
    ∷ Plain (instr.Clear 0)
    ∷ Loop 0 (put 0 (Coord 1 ∷ Coord 1 ∷ Pair op.Mul ∷ []) None 2
    ∷ put 0 (Here 0 ∷ Const (pos 1) ∷ Pair op.Add ∷ []) (Some (Coord 1 ∷ Const
    (pos 2) ∷ Pair op.Lt ∷ [])) 3
    ∷ put 1 (Here 0 ∷ Const (pos 2) ∷ Pair op.Mul ∷ []) None 4 ∷ [])
    ∷ Plain (instr.Gather false 1 0) ∷ [])

a_cell_for_it : contracted_arrays (squares (pos 3)) ≡ 0 ∷ []
a_cell_for_it = refl

squared : flat_run (squares (pos 3)) 1 0 ≡ shown (codes "2 4 8 18") (Ends Done)
unfolding digits int_wrap
squared = refl

squared_in_cells : flat_run (contracted (squares (pos 3))) 1 0
    ≡ shown (codes "2 4 8 18") (Ends Done)
unfolding digits int_wrap
squared_in_cells = refl

-- the check of a place stays, and so does its trap
outside : flat_run (squares (pos 2)) 1 0 ≡ shown [] (Ends (Trap OutsideStorage 1))
unfolding digits int_wrap
outside = refl

outside_in_cells : flat_run (contracted (squares (pos 2))) 1 0
    ≡ shown [] (Ends (Trap OutsideStorage 1))
unfolding digits int_wrap
outside_in_cells = refl

-- ---- each index counts down its own, with a bound on its turns
abbrev counting : Words → Tables
counting divisor = with_rows (bare (pos 3))
    (Plain (instr.Fix 0 (line (pos 0) (pos 2)))
    ∷ Loop 0 (put 0 (Coord 1 ∷ []) None 2 ∷ OpenWhile (Here 0 ∷ []) None 3
    ∷ put 0 (Here 0 ∷ Const (pos 1) ∷ Pair op.Sub ∷ []) None 4 ∷ CloseWhile
    ∷ put 1 (Const (pos 6) ∷ Here 0 ∷ Const (pos 2) ∷ Pair op.Add ∷ divisor) None 5 ∷ [])
    ∷ Plain (instr.Gather false 1 0) ∷ [])

abbrev quotient : Words
quotient = Pair op.Div ∷ []

counted : flat_run (counting quotient) 1 2 ≡ shown (codes "3 3 3") (Ends Done)
unfolding digits int_wrap
counted = refl

counted_in_cells : flat_run (contracted (counting quotient)) 1 2
    ≡ shown (codes "3 3 3") (Ends Done)
unfolding digits int_wrap
counted_in_cells = refl

wants_a_turn : flat_run (contracted (counting quotient)) 1 1 ≡ shown [] (Ends More)
unfolding digits int_wrap
wants_a_turn = refl

-- a zero divisor has the line of its member
divided : flat_run (counting (Const (pos 2) ∷ Pair op.Sub ∷ Pair op.Div ∷ [])) 1 2
    ≡ shown [] (Ends (Trap DivideByZero 5))
unfolding digits int_wrap
divided = refl

divided_in_cells : flat_run (contracted (counting (Const (pos 2) ∷ Pair op.Sub ∷ Pair op.Div ∷
    []))) 1 2
    ≡ shown [] (Ends (Trap DivideByZero 5))
unfolding digits int_wrap
divided_in_cells = refl
