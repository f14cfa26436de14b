-- Two processors with two exchanges open at once: over links with room for one message none can move; over any others they end.
use Rattle.std.proofs.Common.{◌≡◌, ℕ, List, [], ◌∷◌, map, Option, Some, None, true, pos, neg_ℤ, ℤ, refl}
use Rattle.node_form.specs.of_zpl_nums.declared.ends.End.{End}
use Rattle.node_form.specs.of_zpl_nums.declared.ends.End.TheVariants.{Done}
use Rattle.grid_layout.specs.of_zpl_region.declared.dims.Dim.TheVariants as dim
use Rattle.grid_layout.specs.of_zpl_region.declared.regions.Region.{Region}
use Rattle.grid_layout.specs.of_zpl_region.Region.{padding}
use Rattle.grid_links.specs.Machine.{Waiting}
use Rattle.node_form.specs.declared.arrays.ArrayDim.TheVariants as array
use Rattle.node_form.specs.declared.arrays.Item.{Item}
use Rattle.node_form.specs.declared.tables.Tables.{Tables}
use Rattle.node_form.specs.declared.instructions.Instr.TheVariants as instr
use Rattle.grid_meaning.specs.Grid.{Grid, next_turn, after}
use Rattle.grid_meaning.specs.Local.{Local, start_local}
use Rattle.grid_meaning.specs.Order.{given}

abbrev range : ℤ → ℤ → Region
range lo hi = record { rank = 1; dims = dim.Range lo hi (pos 1) lo ∷ padding ∷ padding ∷ [] }

abbrev both_ways : List Item
both_ways =
    record { array = 0; slot = 0; shift = pos 1 ∷ pos 0 ∷ pos 0 ∷ [] }
    ∷ record { array = 0; slot = 0; shift = neg_ℤ (pos 1) ∷ pos 0 ∷ pos 0 ∷ [] } ∷ []

abbrev two_open : Tables
two_open = record {
  grid = 2 ∷ 0 ∷ 0 ∷ [];
  scalars = 0;
  cells = 0;
  slots = 1 ∷ [];
  arrays = record {
    rank = 1;
    stored = true;
    dims =
        array.Range (pos 1) (pos 4) (pos 1) (pos 1)
        ∷ array.Range (pos 0) (pos 0) (pos 0) (pos 0) ∷ array.Range (pos 0) (pos 0) (pos 0) (pos 0) ∷ [];
  } ∷ [];
  texts = [];
  exprs = [];
  groups = [];
  exchanges = both_ways ∷ both_ways ∷ [];
  code =
      instr.Fix 0 (range (pos 2) (pos 3)) ∷ instr.Start 0 ∷ instr.Start 1 ∷ instr.Finish 0 ∷ instr.Finish 1 ∷ instr.End
      ∷ [];
}

abbrev open_after : Option ℕ → ℕ → Grid
open_after links count = after two_open links (given [] 2 count)

-- what each holds of the array: places 1 to 3, and 2 to 4
held : map (λ (local : Local). map (λ store. store.storage) local.stores) (start_local two_open 0 ∷ start_local two_open 1 ∷ [])
    ≡ (range (pos 1) (pos 3) ∷ []) ∷ (range (pos 2) (pos 4) ∷ []) ∷ []
held = refl

-- over links with room for one message both wait after six turns, with two messages sent
abbrev counts : Grid → ℕ × ℕ × ℕ
counts grid = (grid.turns, grid.sends, grid.words)

one_message : counts (open_after (Some 1) 6) ≡ (6, 2, 2)
one_message = refl

first_waits : next_turn two_open (Some 1) (open_after (Some 1) 6) 0 ≡ Waiting
first_waits = refl

second_waits : next_turn two_open (Some 1) (open_after (Some 1) 6) 1 ≡ Waiting
second_waits = refl

-- over all others they end after twenty turns
abbrev endings : Grid → List (Option End)
endings grid = map (λ local. local.ended) grid.world.locals

two_messages : counts (open_after (Some 2) 20) ≡ (20, 4, 4)
two_messages = refl

two_end : endings (open_after (Some 2) 20) ≡ Some Done ∷ Some Done ∷ []
two_end = refl

any_messages : counts (open_after None 20) ≡ (20, 4, 4)
any_messages = refl

any_end : endings (open_after None 20) ≡ Some Done ∷ Some Done ∷ []
any_end = refl

not_before : endings (open_after None 19) ≡ Some Done ∷ None ∷ []
not_before = refl
