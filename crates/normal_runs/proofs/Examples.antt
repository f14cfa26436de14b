-- Flat programs with loops that read with a shift what they put, run as they are and normalised.
use Rattle.std.proofs.Common.{◌≡◌, ℕ, List, [], ◌∷◌, Some, None, true, false, ℤ}
use Rattle.std.proofs.Common.{pos, negsuc, codes, refl}
use Rattle.std.specs.Fmt.{digits}
use Rattle.std.specs.Int.{int_wrap}
use Rattle.std.specs.Prelude.{length, Option}
use Rattle.zpl_nums.specs.declared.ends.End.TheVariants.{Done, More, Trap}
use Rattle.zpl_nums.specs.declared.ends.TrapKind.TheVariants.{DivideByZero}
use Rattle.zpl_nums.specs.declared.operators.Op.TheVariants as op
use Rattle.zpl_region.specs.declared.regions.Region.{Region}
use Rattle.zpl_region.specs.Hull.{all_from}
use Rattle.zpl_region.specs.Region.{padding}
use Rattle.temp_norm.specs.of_node_form.declared.arrays.ArrayDim.TheVariants.{Range}
use Rattle.temp_norm.specs.of_node_form.declared.instructions.Instr.TheVariants as instr
use Rattle.temp_norm.specs.of_node_form.declared.tables.Tables.{Tables}
use Rattle.temp_norm.specs.of_node_form.declared.words.ExprOp.TheVariants.{Const, Coord, Pair, Scalar}
use Rattle.temp_norm.specs.of_node_form.declared.words.ExprOp.TheVariants.{Shifted}
use Rattle.temp_norm.specs.of_row_runs.Run.{Ends, Result, Stop, Wrong}
use Rattle.temp_norm.specs.of_flat_form.Act.{flat_run}
use Rattle.temp_norm.specs.of_flat_form.Row.{Loop, Plain, Put, Row, Set, Unless, Words, with_rows}
use Rattle.temp_norm.specs.Normalised.{normalised}

abbrev line : ℤ → ℤ → Region
line lo hi = record { rank = 1; dims = all_from lo hi ∷ padding ∷ padding ∷ [] }

-- an array from 0 to 5, and no rows
abbrev bare : Tables
bare = record {
  grid = 1 ∷ 0 ∷ 0 ∷ [];
  scalars = 1;
  cells = 0;
  slots = 1 ∷ 1 ∷ 1 ∷ 1 ∷ [];
  arrays = record {
    rank = 1;
    stored = true;
    dims = Range (pos 0) (pos 5) (pos 1) (pos 1) ∷ Range (pos 0) (pos 0) (pos 0) (pos 0)
        ∷ Range (pos 0) (pos 0) (pos 0) (pos 0) ∷ [];
  } ∷ [];
  texts = [];
  exprs = [];
  groups = [];
  exchanges = [];
  code = [];
}

abbrev west : Words
west = Shifted 0 (negsuc 0 ∷ pos 0 ∷ pos 0 ∷ []) ∷ []

abbrev fix : ℕ → ℤ → ℤ → Row
fix slot lo hi = Plain (instr.Fix slot (line lo hi))

abbrev one_put : ℕ → Words → Option Words → ℕ → Row
one_put slot expr mask at = Loop slot (Put 0 expr mask at ∷ [])

abbrev shown : List ℕ → Stop → Result
shown bytes stop = record { bytes = bytes; stop = stop }

-- ---- all values move by one, but for one that a mask keeps: each is read before any is put
abbrev moves : Words → Words → Tables
moves expr mask = with_rows bare
    (fix 0 (pos 0) (pos 5) ∷ fix 1 (pos 1) (pos 4)
    ∷ one_put 0 (Coord 1 ∷ Const (pos 10) ∷ Pair op.Mul ∷ []) None 1
    ∷ one_put 1 expr (Some mask) 2
    ∷ Plain (instr.Gather false 0 0) ∷ [])

abbrev not_two : Words
not_two = Coord 1 ∷ Const (pos 2) ∷ Pair op.Ne ∷ []

moved : flat_run (moves west not_two) 1 0 ≡ shown (codes "0 0 20 20 30 50") (Ends Done)
unfolding digits int_wrap
moved = refl

moved_through : flat_run (normalised (moves west not_two)) 1 0
    ≡ shown (codes "0 0 20 20 30 50") (Ends Done)
unfolding digits int_wrap
moved_through = refl

three_rows_for_one : length (normalised (moves west not_two)).code ≡ 7
three_rows_for_one = refl

-- the mask itself reads the array with a shift: it is taken before anything is put
abbrev east_of_ten : Words
east_of_ten = Shifted 0 (negsuc 0 ∷ pos 0 ∷ pos 0 ∷ []) ∷ Const (pos 10) ∷ Pair op.Gt ∷ []

masked : flat_run (moves (Const (pos 7) ∷ []) east_of_ten) 1 0
    ≡ shown (codes "0 10 20 7 7 50") (Ends Done)
unfolding digits int_wrap
masked = refl

masked_through : flat_run (normalised (moves (Const (pos 7) ∷ []) east_of_ten)) 1 0
    ≡ shown (codes "0 10 20 7 7 50") (Ends Done)
unfolding digits int_wrap
masked_through = refl

-- a trap has the line of the loop
abbrev quotient : Words
quotient = Const (pos 1) ∷ Shifted 0 (negsuc 0 ∷ pos 0 ∷ pos 0 ∷ []) ∷ Pair op.Div ∷ []

divided : flat_run (moves quotient not_two) 1 0 ≡ shown [] (Ends (Trap DivideByZero 2))
unfolding digits int_wrap
divided = refl

divided_through : flat_run (normalised (moves quotient not_two)) 1 0
    ≡ shown [] (Ends (Trap DivideByZero 2))
unfolding digits int_wrap
divided_through = refl

-- ---- a sweep that takes the mean of both neighbours, twice: jumps and tests are as many
abbrev sweeps : Tables
sweeps = with_rows bare
    (fix 0 (pos 1) (pos 4) ∷ fix 1 (pos 0) (pos 0) ∷ fix 2 (pos 5) (pos 5)
    ∷ one_put 1 (Const (pos 8) ∷ []) None 1 ∷ one_put 2 (Const (pos 16) ∷ []) None 2
    ∷ Set 0 (Const (pos 2) ∷ []) 3
    ∷ Unless (Scalar 0 ∷ []) 10 3
    ∷ one_put 0 (Shifted 0 (negsuc 0 ∷ pos 0 ∷ pos 0 ∷ [])
    ∷ Shifted 0 (pos 1 ∷ pos 0 ∷ pos 0 ∷ []) ∷ Pair op.Add ∷ Const (pos 2) ∷ Pair op.Div ∷ [])
    None 4
    ∷ Set 0 (Scalar 0 ∷ Const (pos 1) ∷ Pair op.Sub ∷ []) 6 ∷ Plain (instr.Jump 6)
    ∷ Plain (instr.Gather false 0 0) ∷ Plain instr.End ∷ [])

swept : flat_run sweeps 6 0 ≡ shown (codes "4 2 4 8") (Ends Done)
unfolding digits int_wrap
swept = refl

swept_through : flat_run (normalised sweeps) 6 0 ≡ shown (codes "4 2 4 8") (Ends Done)
unfolding digits int_wrap
swept_through = refl

wants_a_jump : flat_run (normalised sweeps) 5 0 ≡ shown [] (Ends More)
unfolding digits int_wrap
wants_a_jump = refl

-- ---- a row that may not stand there: the old run is wrong, and nothing is asked of the new one
west_of_all : flat_run (with_rows bare (fix 0 (pos 0) (pos 4) ∷ one_put 0 west None 1 ∷ [])) 1 0
    ≡ shown [] Wrong
west_of_all = refl
