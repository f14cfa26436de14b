-- The own blocks that a layout keeps, so that none is found twice.
use Rattle.std.specs.Prelude.{◌≡◌, ℕ, ◌==◌, if◌then◌else◌, List, map, All}
use Rattle.grid_layout.specs.declared.blocks.Blocks.{Blocks}
use Rattle.grid_layout.specs.declared.boxes.ArrayBox.{ArrayBox}
use Rattle.grid_layout.specs.declared.own.OwnBlocks.{OwnBlocks}
use Rattle.grid_layout.specs.Grid.{processors_of}
use Rattle.grid_layout.specs.declared.sides.Side.{Side}
use Rattle.grid_layout.specs.Layout.{IsLayout}
use Rattle.grid_layout.specs.Sides.{IsSide, sides_of}
use Rattle.grid_layout.specs.Words.{numbers_from}

-- the blocks of a processor in the dimensions of each rank
abbrev pub own_blocks : Blocks → ℕ → OwnBlocks
own_blocks blocks p = record {
  lines = sides_of blocks 1 p;
  planes = sides_of blocks 2 p;
  spaces = sides_of blocks 3 p;
}

-- those of a rank, where those of each are kept
abbrev pub kept_at : OwnBlocks → ℕ → List Side
kept_at own rank = if rank == 1 then own.lines else if rank == 2 then own.planes else own.spaces

-- of the first n processors
abbrev pub first_own : Blocks → ℕ → List OwnBlocks
first_own blocks n = map (own_blocks blocks) (numbers_from 0 n)

-- their bounds are from -2^41 to 2^41
pub record HasBlocks (own : OwnBlocks) : Type 0 where
  pub lines : All IsSide own.lines
  pub planes : All IsSide own.planes
  pub spaces : All IsSide own.spaces

-- the blocks are those of the arrays, and the own blocks are those of all processors
pub record IsKept (blocks : Blocks) (boxes : List ArrayBox) (kept : List OwnBlocks) : Type 0 where
  pub layout : IsLayout blocks boxes
  pub own : kept ≡ first_own blocks (processors_of blocks.grid)
  pub bounds : All HasBlocks kept
