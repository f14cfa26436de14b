-- The storages of arrays: boxes within the limit, in which home boxes lie.
use Rattle.std.specs.Prelude.{◌≡◌, true, List, [], ◌∷◌, length}
use Rattle.zpl_region.specs.declared.dims.Dim.{Dim}
use Rattle.zpl_region.specs.declared.regions.Region.{Region}
use Rattle.zpl_region.specs.Hull.{IsBoxed}
use Rattle.zpl_region.specs.Region.{IsPadded, IsWithinLimit}
use Rattle.stored_shifts.specs.of_zpl_arrays.Reference.{lies_in}
use Rattle.meaning_ranks.specs.of_zpl_names.Kinds.{Shape}
use Rattle.meaning_ranks.specs.Shaped.{AreFloods}
use Rattle.stored_shifts.specs.of_node_form.Fits.{IsRank}
use Rattle.lower_numbers.specs.of_zpl_lowering.Where.{Stored}

abbrev pub AllBoxed : List Dim → Type 0
AllBoxed [] = Unit {0}
AllBoxed (one ∷ dims) = IsBoxed one × AllBoxed dims

-- a box within the limit
pub record IsStorage (storage : Region) : Type 0 where
  pub is_rank : IsRank storage.rank
  pub boxed : AllBoxed storage.dims
  pub three : length storage.dims ≡ 3
  pub padded : IsPadded storage.rank storage.dims
  pub limit : IsWithinLimit storage

-- The home box of what a storage is for is within the limit, and lies in the storage, which has its
-- flood dimensions.
pub record IsHomeIn (storage home : Region) : Type 0 where
  pub kept : IsStorage home
  pub floods : (shape : Shape) → AreFloods shape home.dims → AreFloods shape storage.dims
  pub lies : lies_in home storage ≡ true

abbrev pub AllStorages : List Region → Type 0
AllStorages [] = Unit {0}
AllStorages (storage ∷ storages) = IsStorage storage × AllStorages storages

-- the storages of a procedure's arrays
abbrev pub AllKept : List Stored → Type 0
AllKept [] = Unit {0}
AllKept (stored ∷ rest) = IsStorage stored.storage × AllKept rest
