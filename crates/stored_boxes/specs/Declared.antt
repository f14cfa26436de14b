-- The home boxes and the storages that are declared of arrays.
use Rattle.std.specs.Prelude.{◌≡◌, ℕ, Option, Some}
use Rattle.zpl_region.specs.declared.regions.Region.{Region}
use Rattle.zpl_tree.specs.Syntax.{Program}
use Rattle.zpl_names.specs.Expansion.{ExpandedArray}
use Rattle.zpl_binding.specs.Outcome.{value_or}
use Rattle.zpl_binding.specs.Regions.{Known, no_region}
use Rattle.zpl_binding.specs.Storages.{home_at, storage_at}

module _ (program : Program) (known : Known) where
  -- those of the array whose name stands at an offset
  abbrev pub declared_home : ℕ → Region
  declared_home at = value_or no_region (home_at program known at)

  abbrev pub declared_storage : ℕ → Region
  declared_storage at = value_or no_region (storage_at program known at)

  abbrev pub IsDeclared : ℕ → Region → Region → Type 0
  IsDeclared at home storage = (home ≡ declared_home at) × (storage ≡ declared_storage at)

  -- there is an array, whose these are
  abbrev pub IsStoredAs : Option ExpandedArray → Region → Region → Type 0
  IsStoredAs found home storage =
      (array : ExpandedArray) × (found ≡ Some array) × IsDeclared array.storage home storage
