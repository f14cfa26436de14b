-- Flat programs, run on small arrays.
use Rattle.std.proofs.Common.{◌≡◌, ℕ, List, [], ◌∷◌, Some, None, true, false, ℤ}
use Rattle.std.proofs.Common.{pos, negsuc, codes, refl}
use Rattle.std.specs.Fmt.{digits}
use Rattle.std.specs.Int.{int_wrap}
use Rattle.code_parts.specs.of_zpl_nums.declared.ends.End.TheVariants.{Done, Trap, More}
use Rattle.code_parts.specs.of_zpl_nums.declared.ends.TrapKind.TheVariants.{DivideByZero, OutsideStorage}
use Rattle.code_parts.specs.of_zpl_nums.declared.ends.Border.TheVariants.{Wrap}
use Rattle.code_parts.specs.of_zpl_nums.declared.folds.Fold.TheVariants as fold
use Rattle.code_parts.specs.of_zpl_nums.declared.operators.Op.TheVariants as op
use Rattle.code_parts.specs.of_zpl_region.declared.regions.Region.{Region}
use Rattle.code_parts.specs.of_zpl_region.Hull.{all_from}
use Rattle.code_parts.specs.of_zpl_region.Region.{padding}
use Rattle.grid_meaning.specs.of_node_form.declared.arrays.ArrayDim.TheVariants.{Range}
use Rattle.grid_meaning.specs.of_node_form.declared.arrays.ArrayRow.{ArrayRow}
use Rattle.grid_meaning.specs.of_node_form.declared.instructions.RegionForm.TheVariants.{Of, Inside}
use Rattle.grid_meaning.specs.of_node_form.declared.instructions.Instr.TheVariants as instr
use Rattle.grid_meaning.specs.of_node_form.declared.tables.Tables.{Tables}
use Rattle.grid_meaning.specs.of_node_form.declared.words.ExprOp.TheVariants.{Const, Scalar, Here, Shifted}
use Rattle.grid_meaning.specs.of_node_form.declared.words.ExprOp.TheVariants.{Cell as CellWord, Coord, Pair}
use Rattle.nest_meaning.specs.of_row_runs.Run.{Result, Stop, Ends, Wrong}
use Rattle.flat_form.specs.Act.{flat_run}
use Rattle.flat_form.specs.Row.{Words, Put, Cell, Acc}
use Rattle.flat_form.specs.Row.{OpenWhile, CloseWhile, Row, Set, Loop, Number, Truth}
use Rattle.flat_form.specs.Row.{Unless, Plain, with_rows, all_inlined}

-- ---- tables without rows, regions and arrays
abbrev bare : List ℕ → List ArrayRow → Tables
bare slots arrays = record {
  grid = 1 ∷ 0 ∷ 0 ∷ [];
  scalars = 2;
  cells = 1;
  slots = slots;
  arrays = arrays;
  texts = [];
  exprs = [];
  groups = [];
  exchanges = [];
  code = [];
}

abbrev line : ℤ → ℤ → Region
line lo hi = record { rank = 1; dims = all_from lo hi ∷ padding ∷ padding ∷ [] }

abbrev stored_line : ℤ → ℤ → ArrayRow
stored_line lo hi = record {
  rank = 1;
  stored = true;
  dims = Range lo hi (pos 1) (pos 1) ∷ Range (pos 0) (pos 0) (pos 0) (pos 0) ∷ Range (pos 0) (pos 0)
      (pos 0) (pos 0) ∷ [];
}

abbrev temporary : ℕ → ArrayRow
temporary rank = record {
  rank = rank;
  stored = false;
  dims = Range (pos 0) (pos 0) (pos 0) (pos 0) ∷ Range (pos 0) (pos 0) (pos 0) (pos 0) ∷ Range
      (pos 0) (pos 0) (pos 0) (pos 0) ∷ [];
}

abbrev by : ℤ → List ℤ
by d = d ∷ pos 0 ∷ pos 0 ∷ []

abbrev fix : ℕ → ℤ → ℤ → Row
fix slot lo hi = Plain (instr.Fix slot (line lo hi))

abbrev one_put : ℕ → ℕ → Words → ℕ → Row
one_put slot array expr at = Loop slot (Put array expr None at ∷ [])

abbrev print_array : ℕ → ℕ → Row
print_array array slot = Plain (instr.Gather false array slot)

abbrev shown : List ℕ → Stop → Result
shown bytes stop = record { bytes = bytes; stop = stop }

-- ---- a sweep that takes the mean of both neighbours, twice
abbrev sweeps : Tables
sweeps = with_rows
    (bare (1 ∷ 1 ∷ 1 ∷ []) (stored_line (pos 0) (pos 5) ∷ stored_line (pos 1) (pos 4) ∷ []))
    (fix 0 (pos 1) (pos 4) ∷ fix 1 (pos 0) (pos 0) ∷ fix 2 (pos 5) (pos 5)
    ∷ one_put 1 0 (Const (pos 8) ∷ []) 1 ∷ one_put 2 0 (Const (pos 16) ∷ []) 2
    ∷ Set 0 (Const (pos 2) ∷ []) 3
    ∷ Unless (Scalar 0 ∷ []) 11 3
    ∷ one_put 0 1 (Shifted 0 (by (negsuc 0)) ∷ Shifted 0 (by (pos 1)) ∷ Pair op.Add ∷ Const
    (pos 2) ∷ Pair op.Div ∷ []) 4
    ∷ one_put 0 0 (Here 1 ∷ []) 5
    ∷ Set 0 (Scalar 0 ∷ Const (pos 1) ∷ Pair op.Sub ∷ []) 6 ∷ Plain (instr.Jump 6)
    ∷ print_array 0 0 ∷ Plain instr.End ∷ [])

-- the third test is the fifth jump or test, and leads to the print
mean_of_neighbours : flat_run sweeps 6 0 ≡ shown (codes "4 2 4 8") (Ends Done)
unfolding digits int_wrap
mean_of_neighbours = refl

one_jump_less : flat_run sweeps 5 0 ≡ shown [] (Ends More)
unfolding digits int_wrap
one_jump_less = refl

-- a row may not read a place that the storage hasn't, though nobody asks for its value
unneeded : flat_run (with_rows (bare (1 ∷ []) (stored_line (pos 0) (pos 2) ∷ []))
    (fix 0 (pos 0) (pos 2) ∷ Loop 0 (Put 0 (Shifted 0 (by (pos 1)) ∷ [])
    (Some (Const (pos 0) ∷ [])) 1 ∷ []) ∷ [])) 1 0
    ≡ shown [] Wrong
unneeded = refl

-- ---- a mask: nothing is computed where it is 0, here a quotient by 0
abbrev masked : Words → Tables
masked mask = with_rows (bare (1 ∷ []) (stored_line (pos 0) (pos 3) ∷ []))
    (fix 0 (pos 0) (pos 3)
    ∷ Loop 0 (Put 0 (Const (pos 12) ∷ Coord 1 ∷ Pair op.Div ∷ []) (Some mask) 7 ∷ [])
    ∷ print_array 0 0 ∷ [])

masked_put : flat_run (masked (Coord 1 ∷ [])) 1 0 ≡ shown (codes "0 12 6 4") (Ends Done)
unfolding digits int_wrap
masked_put = refl

unmasked_put : flat_run (masked (Const (pos 1) ∷ [])) 1 0 ≡ shown [] (Ends (Trap DivideByZero 7))
unfolding digits int_wrap
unmasked_put = refl

-- ---- a group whose members are run again and again: each tuple counts down, from its index
abbrev counting : Words → Tables
counting quotient = with_rows (bare (1 ∷ []) (stored_line (pos 0) (pos 2) ∷ []))
    (fix 0 (pos 0) (pos 2)
    ∷ Loop 0 (Put 0 (Coord 1 ∷ []) None 3 ∷ OpenWhile (Here 0 ∷ []) None 4
    ∷ Put 0 (Here 0 ∷ Const (pos 1) ∷ Pair op.Sub ∷ quotient) None 5 ∷ CloseWhile ∷ [])
    ∷ print_array 0 0 ∷ [])

two_turns : flat_run (counting []) 1 2 ≡ shown (codes "0 0 0") (Ends Done)
unfolding digits int_wrap
two_turns = refl

wants_a_turn : flat_run (counting []) 1 1 ≡ shown [] (Ends More)
unfolding digits int_wrap
wants_a_turn = refl

-- A tuple never ends its loop where its index isn't 0, and divides by 0 in its first turn where its
-- index is 2. That a
-- further turn is wanted comes first, and the line is that of the outermost member.
abbrev endless : ℤ → ℤ → Tables
endless lo hi = with_rows (bare (1 ∷ []) (stored_line (pos 0) (pos 2) ∷ []))
    (fix 0 lo hi
    ∷ Loop 0 (OpenWhile (Coord 1 ∷ []) None 4
    ∷ Put 0 (Const (pos 6) ∷ Const (pos 2) ∷ Coord 1 ∷ Pair op.Sub ∷ Pair op.Div ∷ []) None 5 ∷
    CloseWhile ∷ []) ∷ [])

divides_in_a_turn : flat_run (endless (pos 2) (pos 2)) 1 9 ≡ shown [] (Ends (Trap DivideByZero 4))
unfolding digits int_wrap
divides_in_a_turn = refl

wanted_before_divided : flat_run (endless (pos 1) (pos 2)) 1 9 ≡ shown [] (Ends More)
unfolding digits int_wrap
wanted_before_divided = refl

-- ---- cells: each tuple has its own, from one unit to the next
kept_in_a_cell : flat_run (with_rows (bare (1 ∷ []) (stored_line (pos 0) (pos 2) ∷ []))
    (fix 0 (pos 0) (pos 2)
    ∷ Loop 0 (Cell 0 (Coord 1 ∷ Coord 1 ∷ Pair op.Mul ∷ []) None 1 ∷ Put 0
    (CellWord 0 ∷ Const (pos 1) ∷ Pair op.Add ∷ []) None 2 ∷ [])
    ∷ print_array 0 0 ∷ [])) 1 0 ≡ shown (codes "1 2 5") (Ends Done)
unfolding digits int_wrap
kept_in_a_cell = refl

-- units are taken one after another: the second one reads what the first one has put at all tuples
unit_by_unit : flat_run
    (with_rows (bare (1 ∷ 1 ∷ []) (stored_line (pos 0) (pos 3) ∷ stored_line (pos 0) (pos 2) ∷ []))
    (fix 0 (pos 0) (pos 2)
    ∷ Loop 0 (Put 0 (Coord 1 ∷ Const (pos 5) ∷ Pair op.Add ∷ []) None 1 ∷ Put 1
    (Shifted 0 (by (pos 1)) ∷ []) None 2 ∷ [])
    ∷ print_array 1 0 ∷ [])) 1 0 ≡ shown (codes "6 7 0") (Ends Done)
unfolding digits int_wrap
unit_by_unit = refl

-- ---- totals: a group accumulates, and a `fold` comes before anything else names the scalar
abbrev accumulates : List Row → Tables
accumulates rows = with_rows (bare (1 ∷ []) [])
    (fix 0 (pos 1) (pos 4) ∷ Set 1 (Const (pos 0) ∷ []) 1
    ∷ Loop 0 (Acc 1 fold.Sum (Coord 1 ∷ []) (Some (Coord 1 ∷ Const (pos 3) ∷ Pair op.Ne ∷ [])) 2 ∷
    []) ∷ rows)

total : flat_run (accumulates (Plain (instr.Fold 1 fold.Sum) ∷ Number (Scalar 1 ∷ []) ∷ [])) 1 0
    ≡ shown (codes "7") (Ends Done)
unfolding digits int_wrap
total = refl

total_read_too_early : flat_run (accumulates (Number (Scalar 1 ∷ []) ∷ [])) 1 0 ≡ shown [] Wrong
unfolding digits int_wrap
total_read_too_early = refl

other_fold : flat_run (accumulates (Plain (instr.Fold 1 fold.Max) ∷ [])) 1 0 ≡ shown [] Wrong
unfolding digits int_wrap
other_fold = refl

fold_of_no_total : flat_run (with_rows (bare [] []) (Plain (instr.Fold 1 fold.Sum) ∷ [])) 1 0
    ≡ shown [] Wrong
fold_of_no_total = refl

not_the_unit : flat_run (accumulates (Plain (instr.Fold 1 fold.Sum)
    ∷ Loop 0 (Acc 1 fold.Sum (Coord 1 ∷ []) None 3 ∷ []) ∷ [])) 1 0 ≡ shown [] Wrong
unfolding digits int_wrap
not_the_unit = refl

-- ---- a scan, of the tuples that a mask keeps
scan : flat_run
    (with_rows (bare (1 ∷ []) (stored_line (pos 1) (pos 4) ∷ temporary 1 ∷ temporary 1 ∷ []))
    (fix 0 (pos 1) (pos 4)
    ∷ one_put 0 0 (Coord 1 ∷ Const (pos 2) ∷ Pair op.Ne ∷ []) 1
    ∷ Plain (instr.Room 1 0) ∷ one_put 0 1 (Coord 1 ∷ []) 2
    ∷ Plain (instr.Room 2 0) ∷ Plain (instr.Scan 2 0 fold.Sum 0 1 (Some 0)) ∷ print_array 2 0 ∷ []))
    1 0
    ≡ shown (codes "1 1 4 8") (Ends Done)
unfolding digits int_wrap
scan = refl

-- ---- a partial fold: of each row of a plane
abbrev plane : ℤ → ℤ → ℤ → ℤ → Region
plane a b c d = record { rank = 2; dims = all_from a b ∷ all_from c d ∷ padding ∷ [] }

abbrev parts_of_rows : Region → Tables
parts_of_rows target = with_rows (bare (2 ∷ 2 ∷ []) (temporary 2 ∷ temporary 2 ∷ []))
    (Plain (instr.Fix 0 target) ∷ Plain (instr.Fix 1 (plane (pos 1) (pos 2) (pos 1) (pos 3)))
    ∷ Plain (instr.Room 0 1) ∷ one_put 1 0 (Coord 1 ∷ Const (pos 10) ∷ Pair op.Mul ∷ Coord 2 ∷
    Pair op.Add ∷ []) 1
    ∷ Plain (instr.Room 1 0) ∷ Plain (instr.Part 1 0 fold.Sum 0 1) ∷ print_array 1 0 ∷ [])

partial_fold : flat_run (parts_of_rows (plane (pos 1) (pos 2) (pos 0) (pos 0))) 1 0
    ≡ shown (codes "36\n66\n") (Ends Done)
unfolding digits int_wrap
partial_fold = refl

partial_fold_of_others : flat_run (parts_of_rows (plane (pos 1) (pos 3) (pos 0) (pos 0))) 1 0
    ≡ shown [] Wrong
unfolding digits int_wrap
partial_fold_of_others = refl

-- ---- a remap: a group finds whether a tuple is outside the storage, and a `trap` is the answer
abbrev remaps : Words → Tables
remaps index =
    with_rows (bare (1 ∷ []) (stored_line (pos 1) (pos 3) ∷ temporary 1 ∷ temporary 1 ∷ []))
    (fix 0 (pos 1) (pos 3)
    ∷ one_put 0 0 (Coord 1 ∷ Const (pos 10) ∷ Pair op.Mul ∷ []) 1
    ∷ Plain (instr.Room 1 0) ∷ one_put 0 1 index 2
    ∷ Set 0 (Const (pos 0) ∷ []) 2
    ∷ Loop 0 (Acc 0 fold.Any (Here 1 ∷ Const (pos 1) ∷ Pair op.Lt ∷ Here 1 ∷ Const (pos 3) ∷
    Pair op.Gt ∷ Pair op.Or ∷ []) None 2 ∷ [])
    ∷ Plain (instr.Fold 0 fold.Any) ∷ Unless (Scalar 0 ∷ []) 9 2 ∷ Plain
    (instr.Trap OutsideStorage 2)
    ∷ Plain (instr.Room 2 0) ∷ Plain (instr.Remap 2 0 0 (Some 1 ∷ None ∷ None ∷ [])) ∷
    print_array 2 0 ∷ [])

remap : flat_run (remaps (Const (pos 4) ∷ Coord 1 ∷ Pair op.Sub ∷ [])) 2 0
    ≡ shown (codes "30 20 10") (Ends Done)
unfolding digits int_wrap
remap = refl

remap_outside : flat_run (remaps (Coord 1 ∷ Const (pos 1) ∷ Pair op.Add ∷ [])) 2 0
    ≡ shown [] (Ends (Trap OutsideStorage 2))
unfolding digits int_wrap
remap_outside = refl

-- ---- a border: two places beside the region become those of its other end
abbrev wraps : ℤ → Tables
wraps d = with_rows (bare (1 ∷ 1 ∷ 1 ∷ 1 ∷ []) (stored_line (pos 1) (pos 5) ∷ []))
    (fix 0 (pos 1) (pos 3) ∷ one_put 0 0 (Coord 1 ∷ []) 1
    ∷ Plain (instr.Formed Of 1 0 (by d) 2) ∷ Plain (instr.Fits 0 (by d) 2) ∷ Plain
    (instr.Formed Inside 2 0 (by (negsuc 1)) 2)
    ∷ Plain (instr.Need 1 0 (by (pos 0)) 2) ∷ Plain (instr.Need 2 0 (by (pos 0)) 2) ∷ Plain
    (instr.Edge Wrap 0 0 (by d))
    ∷ fix 3 (pos 1) (pos 5) ∷ print_array 0 3 ∷ [])

wrapped : flat_run (wraps (pos 2)) 1 0 ≡ shown (codes "1 2 3 1 2") (Ends Done)
unfolding digits int_wrap
wrapped = refl

outside_of_the_storage : flat_run (wraps (pos 3)) 1 0 ≡ shown [] (Ends (Trap OutsideStorage 2))
unfolding digits int_wrap
outside_of_the_storage = refl

-- ---- a temporary has the places of its last room alone
without_a_room : flat_run (with_rows (bare (1 ∷ 1 ∷ []) (temporary 1 ∷ []))
    (fix 0 (pos 1) (pos 3) ∷ fix 1 (pos 2) (pos 4) ∷ Plain (instr.Room 0 0) ∷ one_put 1 0
    (Const (pos 1) ∷ []) 1 ∷ [])) 1 0
    ≡ shown [] Wrong
without_a_room = refl

-- ---- rows that no flat program has
vote_stands_nowhere : flat_run (with_rows (bare [] []) (Plain (instr.Vote 0) ∷ [])) 1 0
    ≡ shown [] Wrong
vote_stands_nowhere = refl

-- ---- tables are made of rows, and read again
read_again : all_inlined sweeps ≡ all_inlined
    (with_rows
    (bare (1 ∷ 1 ∷ 1 ∷ []) (stored_line (pos 0) (pos 5) ∷ stored_line (pos 1) (pos 4) ∷ []))
    (all_inlined sweeps))
read_again = refl

numbered_one_after_another : (with_rows (bare (1 ∷ []) (temporary 1 ∷ []))
    (Number (Const (pos 1) ∷ []) ∷ Loop 0 (Put 0 (Const (pos 2) ∷ [])
    (Some (Const (pos 3) ∷ [])) 4 ∷ []) ∷ Truth (Const (pos 5) ∷ []) ∷ [])).code
    ≡ instr.Number 0 ∷ instr.Loop 0 0 ∷ instr.Truth 3 ∷ []
numbered_one_after_another = refl
