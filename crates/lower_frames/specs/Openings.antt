-- What the declarations of a program make of a draft.
use Rattle.std.specs.Prelude.{◌≡◌, ℕ, zero, suc, List, [], ◌∷◌, ◌++◌, map}
use Rattle.zpl_region.specs.declared.regions.Region.{Region}
use Rattle.zpl_arrays.specs.Array.{Array}
use Rattle.node_form.specs.declared.instructions.Instr.TheVariants as instr
use Rattle.flat_form.specs.Row as row
use Rattle.zpl_lowering.specs.Where.{Next, Numbers}
use Rattle.lower_draft.specs.Drafted.{Drafted, pushed, with_array, with_slot}

-- nothing has a number yet
pub record IsFirst (next : Next) : Type 0 where
  pub scalars : next.scalars ≡ 0
  pub slots : next.slots ≡ 0
  pub arrays : next.arrays ≡ 0

-- each region has a slot, which is filled with it
abbrev pub regions_pushed : Drafted → List Region → Drafted
regions_pushed draft [] = draft
regions_pushed draft (region ∷ regions) =
    regions_pushed (pushed (with_slot draft region.rank)
    (row.Plain (instr.Fix draft.next.slots region))) regions

-- so many scalars, with numbers from one on
abbrev pub scalars_added : Numbers → ℕ → ℕ → Numbers
scalars_added numbers scalar zero = numbers
scalars_added numbers scalar (suc count) =
    scalars_added (record numbers { scalars = numbers.scalars ++ scalar ∷ [] }) (suc scalar) count

abbrev pub storages_in : List Array → List Region
storages_in arrays = map (λ array. array.storage) arrays

abbrev pub arrays_added : Drafted → List Region → Drafted
arrays_added draft [] = draft
arrays_added draft (storage ∷ storages) = arrays_added (with_array draft storage) storages

-- arrays with these storages, with numbers from one on
abbrev pub arrays_numbered : Numbers → ℕ → List Region → Numbers
arrays_numbered numbers array [] = numbers
arrays_numbered numbers array (storage ∷ storages) =
    arrays_numbered (record numbers {
      arrays = numbers.arrays ++ record { array = array; storage = storage } ∷ [];
    }) (suc array) storages
