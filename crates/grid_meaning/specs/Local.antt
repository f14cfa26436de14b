-- What one processor keeps between its turns, and what it starts with.
--
--   Local         the state of a processor
--   left          the state in which another instruction is next
--   start_local   the state before the first turn
use Rattle.std.specs.Prelude.{ℕ, ℤ, pos, Bool, true, false, List, [], Option, None, map, replicate}
use Rattle.std.specs.List.{range_with_len}
use Rattle.node_form.specs.of_zpl_nums.declared.ends.End.{End}
use Rattle.grid_layout.specs.of_zpl_region.declared.regions.Region.{Region}
use Rattle.node_form.specs.of_zpl_arrays.Array.{Array, array_of}
use Rattle.grid_layout.specs.declared.blocks.Blocks.{Blocks}
use Rattle.grid_layout.specs.Layout.{laid_out, held_of}
use Rattle.node_form.specs.declared.arrays.ArrayRow.{ArrayRow}
use Rattle.node_form.specs.declared.tables.Tables.{Tables}
use Rattle.node_form.specs.Grid.{processors_of}
use Rattle.grid_meaning.specs.Stored.{arrangement_of, box_of, no_places}

-- The next instruction, and the turns that were made in it; of a loop, how many indices are done,
-- and the member with which the next turn begins; the least member that met a zero divisor, until a
-- vote; how the processor ended, once it has; its scalars, the regions of its slots, the cells of a
-- loop, and for each array the places that it holds, with their values; and the words that it keeps
-- of messages taken in this instruction, with their senders. Outside a loop `index` and `member`
-- are 0, and inside one `made` is 0.
pub record Local : Type 0 where
  pub at : ℕ
  pub made : ℕ
  pub index : ℕ
  pub member : ℕ
  pub flag : Option ℕ
  pub ended : Option End
  pub scalars : List ℤ
  pub slots : List Region
  pub cells : List ℤ
  pub stores : List Array
  pub kept : List (ℕ × List ℤ)

-- An instruction is left: the one with this number is next, and of the turns in the old one nothing
-- stays.
abbrev pub left : Local → ℕ → Local
left local at = record local { at = at; made = 0; index = 0; member = 0; kept = [] }

-- how many processors there are, and their numbers
abbrev pub processors : Tables → ℕ
processors code = processors_of code.grid

abbrev pub processor_numbers : Tables → List ℕ
processor_numbers code = range_with_len 0 (processors code)

-- ---- the start
-- the places of an array that processor p holds at the start: its held box of a stored one, and
-- none of a temporary
abbrev pub start_places : Blocks → ℕ → ArrayRow → Bool → Region
start_places blocks p row true = held_of blocks (box_of row) p
start_places blocks p row false = no_places row.rank

-- at the first instruction; all values are 0, and slots are without tuples
abbrev pub start_local : Tables → ℕ → Local
start_local code p = record {
  at = 0;
  made = 0;
  index = 0;
  member = 0;
  flag = None;
  ended = None;
  scalars = replicate code.scalars (pos 0);
  slots = map no_places code.slots;
  cells = replicate code.cells (pos 0);
  stores =
      map (λ row. array_of (start_places (laid_out (arrangement_of code)) p row row.stored) (λ t. pos 0)) code.arrays;
  kept = [];
}

-- of each processor
abbrev pub start_locals : Tables → List Local
start_locals code = map (start_local code) (processor_numbers code)
