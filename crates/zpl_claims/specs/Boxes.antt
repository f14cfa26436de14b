-- The arrays that code of a program stores: those of the program with every call expanded, and then
-- the copies from which reads that wrap round are made. Each has a storage, and a fringe: how far
-- it is read below and above an index.
use Rattle.std.specs.Prelude.{ℕ, ◌<◌, ℤ, pos, neg_ℤ, List, [], ◌∷◌, ◌++◌}
use Rattle.std.specs.Prelude.{filter, fold, map}
use Rattle.std.specs.Int.{int_max}
use Rattle.zpl_region.specs.declared.dims.Dim.{Dim}
use Rattle.zpl_region.specs.declared.dims.Dim.TheVariants.{Range, Flood}
use Rattle.zpl_region.specs.declared.regions.Region.{Region}
use Rattle.zpl_meaning.specs.of_zpl_arrays.Around.{copy_shift}
use Rattle.zpl_meaning.specs.of_zpl_tree.Syntax.{Dir, Program}
use Rattle.zpl_meaning.specs.of_zpl_names.Expansion.{ExpandedArray, ShiftedRead, is_same_array}
use Rattle.zpl_meaning.specs.of_zpl_names.Expansion.{expanded_arrays, expanded_copies, expanded_shifts}
use Rattle.zpl_meaning.specs.of_zpl_binding.Outcome.{value_or}
use Rattle.zpl_meaning.specs.of_zpl_binding.Vectors.{three_components, dir_of}
use Rattle.zpl_meaning.specs.of_zpl_binding.Regions.{Known, no_region}
use Rattle.zpl_meaning.specs.of_zpl_binding.Storages.{home_at, storage_at}
use Rattle.zpl_meaning.specs.of_zpl_binding.Copies.{copy_of}
use Rattle.grid_meaning.specs.of_grid_layout.declared.boxes.ArrayBox.{ArrayBox}
use Rattle.grid_meaning.specs.of_grid_layout.Words.{words_of}

-- ---- fringes
-- In each dimension the components of vectors, and 0 where a storage has flood.
abbrev pub along : List Dim → List ℤ → List ℤ
along [] vector = []
along (dim ∷ dims) [] = []
along (Range lo hi step align ∷ dims) (d ∷ vector) = d ∷ along dims vector
along (Flood ∷ dims) (d ∷ vector) = pos 0 ∷ along dims vector

-- the greatest so far and a component, dimension by dimension
abbrev pub greatest : List ℤ → List ℤ → List ℤ
greatest (far ∷ fars) (d ∷ vector) = int_max far d ∷ greatest fars vector
greatest fars vector = fars

abbrev pub negated : List ℤ → List ℤ
negated vector = map neg_ℤ vector

-- the storage, with the greatest shifts of these vectors downward and upward
abbrev pub box_read : Region → List (List ℤ) → ArrayBox
box_read storage vectors = record {
  shape = storage;
  low = fold (λ far vector. greatest far (along storage.dims (negated vector)))
      (three_components []) vectors;
  high = fold (λ far vector. greatest far (along storage.dims vector))
      (three_components []) vectors;
}

-- ---- arrays
-- the vector of a shift; that of an accepted program has one
abbrev pub shift_of : Known → Dir → List ℤ
shift_of known shift =
    value_or (three_components []) (dir_of known.values known.directions shift)

-- the shifts with which an array is read
abbrev pub shifts_of : Program → Known → ExpandedArray → List (List ℤ)
shifts_of program known array =
    map (λ read. shift_of known read.shift)
    (filter (λ read. is_same_array array read.array) (expanded_shifts program))

abbrev pub box_of : Program → Known → ExpandedArray → ArrayBox
box_of program known array =
    box_read (value_or no_region (storage_at program known array.storage))
    (shifts_of program known array)

-- a copy is read with one shift
abbrev pub copy_box : Program → Known → ShiftedRead → ArrayBox
copy_box program known read =
    let home = value_or no_region (home_at program known read.array.storage) in
    box_read (value_or no_region (copy_of program known read.array.storage read.shift))
    (copy_shift home (shift_of known read.shift) ∷ [])

-- those of the expanded program, and then the copies, one for each read that wraps round
abbrev pub boxes_of : Program → Known → List ArrayBox
boxes_of program known =
    map (box_of program known) (expanded_arrays program) ++
    map (copy_box program known) (expanded_copies program)

-- ---- how much processors may hold
-- words of 64 bits, on all processors together
abbrev pub most_words : ℕ
most_words = 16777216

-- what the processors of a grid hold of these arrays is more
abbrev pub HasTooMuchStorage : List ℕ → List ArrayBox → Type 0
HasTooMuchStorage grid boxes = most_words < words_of (record { grid = grid; boxes = boxes })
