-- When expressions with slots fit: what they name is in the tables, and is of their rank.
use Rattle.std.specs.Prelude.{◌≡◌, ℕ, zero, suc, ◌+◌, ◌<◌, ◌≤◌, Bool, true, ℤ, pos, neg_ℤ, ◌≤ℤ◌, List, [], ◌∷◌, length, take, replicate, Option, Some, None, slice_get, All}
use Rattle.std.specs.Option.{IsSomeAnd}
use Rattle.zpl_region.specs.declared.dims.Dim.{Dim}
use Rattle.zpl_region.specs.declared.dims.Dim.TheVariants as dim
use Rattle.zpl_region.specs.declared.regions.Region.{Region}
use Rattle.zpl_region.specs.Dim.{IsUpTo}
use Rattle.meaning_ranks.specs.of_zpl_meaning.Context.{Mask}
use Rattle.stored_shifts.specs.of_node_form.declared.arrays.ArrayDim.{ArrayDim}
use Rattle.stored_shifts.specs.of_node_form.declared.arrays.ArrayDim.TheVariants as array
use Rattle.stored_shifts.specs.of_node_form.declared.arrays.ArrayRow.{ArrayRow}
use Rattle.stored_shifts.specs.of_node_form.declared.tables.Tables.{Tables}
use Rattle.stored_shifts.specs.of_node_form.Expression as expr
use Rattle.stored_shifts.specs.of_node_form.Expression.{Expression}
use Rattle.stored_shifts.specs.of_node_form.Fits.{IsRank, IsVector, HasSlot, HasArray, IsStored, IsTemporary, IsRange, IsUnused, FitsRegion}
use Rattle.lower_numbers.specs.of_flat_form.Static.{array_has_fringe}
use Rattle.lower_numbers.specs.of_zpl_lowering.Where.{Stored, Numbers, Slotted}
use Rattle.lower_numbers.specs.of_zpl_lowering.Slate as slate
use Rattle.lower_numbers.specs.of_zpl_lowering.Slate.{Slate, Slates, NoSlate, ThenSlate, border_slots}
use Rattle.lower_numbers.specs.of_zpl_lowering.Hoist.{Shifted, Hoisted, Free, along_of}
use Rattle.lowering_fits.specs.Inline.{FitsPiece}

-- ---- what is laid out in the tables

-- slots of these ranks, from a number on
abbrev pub SlotsAt : Tables → ℕ → List ℕ → Type 0
SlotsAt tables n [] = Unit {0}
SlotsAt tables n (rank ∷ ranks) = HasSlot tables rank n × SlotsAt tables (suc n) ranks

-- temporaries of so many dimensions
abbrev pub TempsAt : Tables → ℕ → List (List Bool) → Type 0
TempsAt tables n [] = Unit {0}
TempsAt tables n (flood ∷ temps) =
    (HasArray tables (length flood) n × IsTemporary tables n) × TempsAt tables (suc n) temps

-- no dimension is flood
abbrev pub AllRanges : List Dim → Type 0
AllRanges [] = Unit {0}
AllRanges (dim.Range lo hi step align ∷ dims) = AllRanges dims
AllRanges (dim.Flood ∷ dims) = ⊥

-- dimensions of a storage, and those of its array: a range is one there, and past the rank no
-- place is
abbrev pub AreDimsOf : ℕ → List Dim → List ArrayDim → Type 0
AreDimsOf rank dims [] = Unit {0}
AreDimsOf rank [] (one ∷ rows) = ⊥
AreDimsOf zero (dim ∷ dims) (one ∷ rows) = IsUnused one × AreDimsOf zero dims rows
AreDimsOf (suc rank) (dim.Range lo hi step align ∷ dims) (one ∷ rows) =
    IsRange one × AreDimsOf rank dims rows
AreDimsOf (suc rank) (dim.Flood ∷ dims) (one ∷ rows) = AreDimsOf rank dims rows

-- a stored array of the storage's rank, without a flood dimension where the storage has none
pub record IsRowOf (storage : Region) (row : ArrayRow) : Type 0 where
  pub rank : row.rank ≡ storage.rank
  pub is_stored : row.stored ≡ true
  pub ranges : AllRanges (take storage.rank storage.dims) → All IsRange row.dims
  pub dims : AreDimsOf storage.rank storage.dims row.dims

abbrev pub HasStorage : Tables → Region → ℕ → Type 0
HasStorage tables storage array = IsSomeAnd (slice_get tables.arrays array) (IsRowOf storage)

abbrev pub StoragesAt : Tables → ℕ → List Region → Type 0
StoragesAt tables n [] = Unit {0}
StoragesAt tables n (storage ∷ storages) =
    HasStorage tables storage n × StoragesAt tables (suc n) storages

-- ---- the numbers of a procedure's variables

abbrev pub AllBelow : ℕ → List ℕ → Type 0
AllBelow most [] = Unit {0}
AllBelow most (n ∷ ns) = (n < most) × AllBelow most ns

abbrev pub AllStored : Tables → List Stored → Type 0
AllStored tables [] = Unit {0}
AllStored tables (stored ∷ rest) =
    HasStorage tables stored.storage stored.array × AllStored tables rest

pub record FitNumbers (tables : Tables) (numbers : Numbers) : Type 0 where
  pub scalars : AllBelow tables.scalars numbers.scalars
  pub arrays : AllStored tables numbers.arrays

-- the array that a place is, if it has a number, is of the rank
abbrev pub IsOfRank : ℕ → Option Stored → Type 0
IsOfRank rank None = Unit {0}
IsOfRank rank (Some stored) = stored.storage.rank ≡ rank

-- and one that is read at computed tuples has no flood dimension
abbrev pub IsRemapOf : ℕ → Option Stored → Type 0
IsRemapOf rank None = Unit {0}
IsRemapOf rank (Some stored) =
    (stored.storage.rank ≡ rank)
    × AllRanges (take stored.storage.rank stored.storage.dims)

-- a mask has a number
abbrev pub IsMaskOf : Numbers → ℕ → Option Mask → Type 0
IsMaskOf numbers rank None = Unit {0}
IsMaskOf numbers rank (Some mask) =
    IsSomeAnd (slice_get numbers.arrays mask.array) (λ stored. stored.storage.rank ≡ rank)

-- a current region of the rank, with its mask
pub record FitsOver (tables : Tables) (numbers : Numbers) (rank : ℕ) (over : Slotted) : Type 0
  where
    pub is_rank : IsRank rank
    pub has : HasSlot tables rank over.slot
    pub floods : length over.flood ≡ rank
    pub masked : IsMaskOf numbers rank over.mask

-- ---- expressions with slots

abbrev pub slates_count : Slates → ℕ
slates_count NoSlate = 0
slates_count (ThenSlate first rest) = suc (slates_count rest)

-- a region that may stand in a row, of three dimensions
abbrev pub FitsBox : Region → Type 0
FitsBox region = FitsRegion region × (length region.dims ≡ 3)

-- a vector of the rank, of three components
abbrev pub FitsVector : ℕ → List ℤ → Type 0
FitsVector rank vector = IsVector rank vector × (length vector ≡ 3)

-- and so is a shift, which has none where nothing is moved
abbrev pub IsWhole : List ℤ → Type 0
IsWhole [] = Unit {0}
IsWhole (d ∷ shift) = length (d ∷ shift) ≡ 3

abbrev pub FitsShift : ℕ → List ℤ → Type 0
FitsShift rank shift = IsVector rank shift × IsWhole shift

-- a vector that moves nothing in flood dimensions
abbrev pub IsLevel : List Dim → List ℤ → Type 0
IsLevel dims [] = Unit {0}
IsLevel [] (d ∷ shift) = Unit {0}
IsLevel (dim.Range lo hi step align ∷ dims) (d ∷ shift) = IsLevel dims shift
IsLevel (dim.Flood ∷ dims) (d ∷ shift) = (d ≡ pos 0) × IsLevel dims shift

-- a copy that is read round a box: its slots, and its place in the tables
pub record FitsCopy (tables : Tables) (rank copy first : ℕ) (home : Region) (shift : List ℤ) : Type
    0 where
  pub box : FitsBox home
  pub same : home.rank ≡ rank
  pub has : HasArray tables rank copy
  pub is_stored : IsStored tables copy
  pub storage : Region
  pub stands : HasStorage tables storage copy
  pub ranked : storage.rank ≡ rank
  pub level : IsLevel storage.dims shift
  pub slots : SlotsAt tables first (replicate (border_slots shift) rank)

abbrev mutual
  pub FitsSlate : Tables → Numbers → ℕ → Slate → Type 0
  FitsSlate tables numbers rank (slate.Constant value) = Unit {0}
  FitsSlate tables numbers rank (slate.Variable place) = Unit {0}
  FitsSlate tables numbers rank (slate.Coordinate k) = (1 ≤ k) × (k ≤ rank)
  FitsSlate tables numbers rank (slate.Element slot place shift) =
      IsRank rank × HasSlot tables rank slot × IsOfRank rank (slice_get numbers.arrays place)
      × FitsShift rank shift
  FitsSlate tables numbers rank (slate.Wrapped slot place home shift copy first) =
      IsRank rank × HasSlot tables rank slot × IsOfRank rank (slice_get numbers.arrays place)
      × FitsVector rank shift × FitsCopy tables rank copy first home shift
  FitsSlate tables numbers rank (slate.Unary operator operand) =
      FitsSlate tables numbers rank operand
  FitsSlate tables numbers rank (slate.Binary operator left right) =
      FitsSlate tables numbers rank left × FitsSlate tables numbers rank right
  FitsSlate tables numbers rank (slate.Folded operator over operand) =
      (under : ℕ)
      × (FitsOver tables numbers under over × FitsSlate tables numbers under operand)
  FitsSlate tables numbers rank (slate.PartFolded operator over source operand) =
      FitsOver tables numbers rank over × FitsOver tables numbers rank source
      × FitsSlate tables numbers rank operand
  FitsSlate tables numbers rank (slate.Scanned operator along over operand) =
      FitsOver tables numbers rank over × (along_of along ≤ rank)
      × FitsSlate tables numbers rank operand
  FitsSlate tables numbers rank (slate.Flooded over source operand) =
      FitsOver tables numbers rank over × FitsOver tables numbers rank source
      × FitsSlate tables numbers rank operand
  FitsSlate tables numbers rank (slate.Remapped over place indices) =
      FitsOver tables numbers rank over
      × IsRemapOf (slates_count indices) (slice_get numbers.arrays place)
      × FitsSlates tables numbers rank indices

  pub FitsSlates : Tables → Numbers → ℕ → Slates → Type 0
  FitsSlates tables numbers rank NoSlate = Unit {0}
  FitsSlates tables numbers rank (ThenSlate first rest) =
      FitsSlate tables numbers rank first × FitsSlates tables numbers rank rest

-- ---- what is left of them

-- what stands in it is in the tables and of the rank; of rank 0 it is a scalar
abbrev pub FitsTree : Tables → ℕ → Expression → Type 0
FitsTree tables rank (expr.Constant value) = Unit {0}
FitsTree tables rank (expr.Variable scalar) = scalar < tables.scalars
FitsTree tables rank (expr.Element array) = IsRank rank × HasArray tables rank array
FitsTree tables rank (expr.Neighbour array shift) =
    IsRank rank × HasArray tables rank array × FitsVector rank shift × IsStored tables array
    × (array_has_fringe (slice_get tables.arrays array) shift ≡ true)
FitsTree tables rank (expr.CellValue cell) = ⊥
FitsTree tables rank (expr.Coordinate dimension) = (1 ≤ dimension) × (dimension ≤ rank)
FitsTree tables rank (expr.Operation op left right) =
    FitsTree tables rank left × FitsTree tables rank right
FitsTree tables rank (expr.Negation operand) = FitsTree tables rank operand
FitsTree tables rank (expr.Denial operand) = FitsTree tables rank operand
FitsTree tables rank (expr.Absolute operand) = FitsTree tables rank operand

abbrev pub FitTrees : Tables → ℕ → List Expression → Type 0
FitTrees tables rank [] = Unit {0}
FitTrees tables rank (one ∷ rest) = FitsTree tables rank one × FitTrees tables rank rest

-- ---- what rows have of their own

abbrev pub AllTemps : List (List Bool) → Type 0
AllTemps [] = Unit {0}
AllTemps (flood ∷ temps) = IsRank (length flood) × AllTemps temps

abbrev pub AllShifts : List Shifted → Type 0
AllShifts [] = Unit {0}
AllShifts (one ∷ rest) = All (IsUpTo 31) one.shift × AllShifts rest

-- in each range of the rank the shift is within the fringe
abbrev pub IsCovered : ℕ → List ArrayDim → List ℤ → Type 0
IsCovered zero dims shift = Unit {0}
IsCovered (suc rank) [] shift = Unit {0}
IsCovered (suc rank) (one ∷ dims) [] = Unit {0}
IsCovered (suc rank) (array.Range lo hi low high ∷ dims) (d ∷ shift) =
    ((neg_ℤ low ≤ℤ d) × (d ≤ℤ high)) × IsCovered rank dims shift
IsCovered (suc rank) (array.Star ∷ dims) (d ∷ shift) = IsCovered rank dims shift

abbrev pub Covers : Option ArrayRow → List ℤ → Type 0
Covers None shift = Unit {0}
Covers (Some row) shift = row.stored ≡ true → IsCovered row.rank row.dims shift

-- where the array is stored
abbrev pub AllCovered : Tables → List Shifted → Type 0
AllCovered tables [] = Unit {0}
AllCovered tables (one ∷ rest) =
    Covers (slice_get tables.arrays one.array) one.shift × AllCovered tables rest

-- its scalars and temporaries are laid out at the numbers that were free
pub record IsPlaced (tables : Tables) (free : Free) (scalars : ℕ) (temps : List (List Bool)) : Type
    0 where
  pub below : free.scalars + scalars ≤ tables.scalars
  pub temps_at : TempsAt tables free.temps temps

-- the rows fit, and what they have of their own is right
pub record FitsHoist (tables : Tables) {A : Type 0} (hoisted : Hoisted A) : Type 0 where
  pub code : FitsPiece tables hoisted.code
  pub temps : AllTemps hoisted.temps
  pub shifts : AllShifts hoisted.shifts
