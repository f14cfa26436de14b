-- A masked loop over two of four places, and the assignment that it stands for.
use Rattle.std.proofs.Common.{◌≡◌, refl, Bool, true, List, [], ◌∷◌, ℤ, pos, Some}
use Rattle.zpl_nums.specs.Integer.{is_true}
use Rattle.zpl_region.specs.declared.regions.Region.{Region}
use Rattle.zpl_region.specs.Hull.{all_from}
use Rattle.zpl_region.specs.Region.{padding}
use Rattle.zpl_arrays.specs.Array.{Array, element}
use Rattle.zpl_meaning.specs.Computed as mean
use Rattle.zpl_meaning.specs.Fields.{Field, array_over, coordinate_of}
use Rattle.node_form.specs.declared.arrays.ArrayDim.TheVariants.{Range}
use Rattle.node_form.specs.declared.arrays.ArrayRow.{ArrayRow}
use Rattle.node_form.specs.declared.tables.Tables.{Tables}
use Rattle.node_form.specs.declared.words.ExprOp.TheVariants.{Here, Coord}
use Rattle.row_runs.specs.Run.{Goes}
use Rattle.normal_runs.specs.of_flat_form.Loop.{looped}
use Rattle.normal_runs.specs.of_flat_form.Whole.{Whole}
use Rattle.array_puts.specs.Put.{assigned, put_group}

abbrev line : ℤ → ℤ → Region
line lo hi = record { rank = 1; dims = all_from lo hi ∷ padding ∷ padding ∷ [] }

abbrev row : ArrayRow
row = record {
  rank = 1;
  stored = true;
  dims = Range (pos 1) (pos 4) (pos 0) (pos 0) ∷ Range (pos 0) (pos 0) (pos 0) (pos 0)
      ∷ Range (pos 0) (pos 0) (pos 0) (pos 0) ∷ [];
}

abbrev tables : Tables
tables = record {
  grid = 1 ∷ 0 ∷ 0 ∷ [];
  scalars = 0;
  cells = 0;
  slots = 1 ∷ [];
  arrays = row ∷ row ∷ [];
  texts = [];
  exprs = [];
  groups = [];
  exchanges = [];
  code = [];
}

abbrev array : List ℤ → Array
array values = record { storage = line (pos 1) (pos 4); values = values }

abbrev mask : Array
mask = array (pos 0 ∷ pos 1 ∷ pos 0 ∷ pos 1 ∷ [])

abbrev state : List ℤ → Whole
state values = record {
  scalars = [];
  awaited = [];
  slots = line (pos 2) (pos 3) ∷ [];
  stores = array values ∷ mask ∷ [];
}

abbrev before : Whole
before = state (pos 5 ∷ pos 6 ∷ pos 7 ∷ pos 8 ∷ [])

abbrev after : Whole
after = state (pos 5 ∷ pos 2 ∷ pos 7 ∷ pos 8 ∷ [])

loop_comes : looped tables 0 (put_group 0 (Coord 1 ∷ []) (Some (Here 1 ∷ [])) 9) before
    (Some (line (pos 2) (pos 3)))
    ≡ Goes [] after
loop_comes = refl

abbrev is_in : List ℤ → Bool
is_in t = is_true (element mask t)

abbrev field : Field
field t = mean.Gives (coordinate_of 1 t)

assignment_comes : assigned before 0 (array (pos 5 ∷ pos 6 ∷ pos 7 ∷ pos 8 ∷ []))
    (line (pos 2) (pos 3)) is_in 9 (array_over (line (pos 2) (pos 3)) is_in field)
    ≡ Goes [] after
assignment_comes = refl
