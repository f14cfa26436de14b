-- Two processors with two exchanges open at once: the lines of their turns.
use Rattle.std.proofs.Common.{◌≡◌, ℕ, List, [], ◌∷◌, Option, Some, None, true, pos, neg_ℤ, ℤ, codes, refl}
use Rattle.std.specs.Fmt.{digits}
use Rattle.node_form.specs.declared.arrays.ArrayDim.TheVariants as array
use Rattle.node_form.specs.declared.arrays.Item.{Item}
use Rattle.node_form.specs.declared.instructions.Instr.TheVariants as instr
use Rattle.node_form.specs.declared.tables.Tables.{Tables}
use Rattle.grid_layout.specs.of_zpl_region.Region.{padding}
use Rattle.grid_layout.specs.of_zpl_region.declared.dims.Dim.TheVariants as dim
use Rattle.grid_layout.specs.of_zpl_region.declared.regions.Region.{Region}
use Rattle.grid_meaning.specs.Grid.{after}
use Rattle.trace_call.specs.Line.{line_of}

abbrev range : ℤ → ℤ → Region
range lo hi = record { rank = 1; dims = dim.Range lo hi (pos 1) lo ∷ padding ∷ padding ∷ [] }

-- of array 0 the elements beyond both ends of a block
abbrev both_ways : List Item
both_ways =
    record { array = 0; slot = 0; shift = pos 1 ∷ pos 0 ∷ pos 0 ∷ [] }
    ∷ record { array = 0; slot = 0; shift = neg_ℤ (pos 1) ∷ pos 0 ∷ pos 0 ∷ [] } ∷ []

abbrev two_open : Tables
two_open = record {
  grid = 2 ∷ 0 ∷ 0 ∷ [];
  scalars = 0;
  cells = 0;
  slots = 1 ∷ [];
  arrays = record {
    rank = 1;
    stored = true;
    dims =
        array.Range (pos 1) (pos 4) (pos 1) (pos 1)
        ∷ array.Range (pos 0) (pos 0) (pos 0) (pos 0)
        ∷ array.Range (pos 0) (pos 0) (pos 0) (pos 0) ∷ [];
  } ∷ [];
  texts = [];
  exprs = [];
  groups = [];
  exchanges = both_ways ∷ both_ways ∷ [];
  code =
      instr.Fix 0 (range (pos 2) (pos 3)) ∷ instr.Start 0 ∷ instr.Start 1 ∷ instr.Finish 0
      ∷ instr.Finish 1 ∷ instr.End ∷ [];
}

-- the line of processor p behind the turns of an order, over links of a capacity
abbrev line_after : Option ℕ → List ℕ → ℕ → List ℕ
line_after links order p = line_of two_open links (after two_open links order) p

moves : line_after (Some 1) [] 1 ≡ codes "1 1 0 moves\n"
unfolding digits
moves = refl

sends : line_after (Some 1) (0 ∷ []) 0 ≡ codes "2 0 1 sends 1 to 1\n"
unfolding digits
sends = refl

-- the first message is still on the link
waits_for_room : line_after (Some 1) (0 ∷ 0 ∷ 0 ∷ []) 0 ≡ codes "4 0 2 waits for room to 1\n"
unfolding digits
waits_for_room = refl

-- processor 1 has had no turn
waits : line_after None (0 ∷ 0 ∷ 0 ∷ 0 ∷ 0 ∷ []) 0 ≡ codes "6 0 3 waits for 1\n"
unfolding digits
waits = refl

takes : line_after None (0 ∷ 0 ∷ 0 ∷ 0 ∷ 0 ∷ 1 ∷ 1 ∷ []) 0 ≡ codes "8 0 3 takes 1 from 1\n"
unfolding digits
takes = refl
