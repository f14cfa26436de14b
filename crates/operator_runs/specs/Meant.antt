-- A slate and the term that it stands for, where the regions of its operators are in slots.
use Rattle.std.specs.Prelude.{◌≡◌, ℕ, suc, ◌-◌, ◌<◌, true, ℤ, List, [], ◌∷◌, All, length, Some, slice_get, ◌≤◌, unsigned_abs, Option, None}
use Rattle.zpl_nums.specs.declared.operators.Op.{Op}
use Rattle.zpl_nums.specs.declared.operators.UnaryOp.{UnaryOp}
use Rattle.zpl_nums.specs.declared.folds.Fold.{Fold}
use Rattle.zpl_nums.specs.Integer.{IsInteger}
use Rattle.zpl_region.specs.declared.regions.Region.{Region}
use Rattle.zpl_region.specs.Hull.{IsBoxed}
use Rattle.zpl_region.specs.Region.{IsRegion, IsWithinLimit, components}
use Rattle.zpl_region.specs.Tests.{is_within_limit}
use Rattle.zpl_arrays.specs.Around.{copy_shift, copy_storage}
use Rattle.zpl_arrays.specs.Reference.{lies_in}
use Rattle.zpl_meaning.specs.Term as term
use Rattle.zpl_meaning.specs.Term.{Term, Terms, NoTerm, ThenTerm}
use Rattle.flat_form.specs.Right.{no_flood}
use Rattle.print_runs.specs.of_zpl_lowering.Where.{Slotted, Stored, Where, flood_of}
use Rattle.print_runs.specs.of_zpl_lowering.Slate as slate
use Rattle.print_runs.specs.of_zpl_lowering.Slate.{Slate, Slates, NoSlate, ThenSlate}
use Rattle.print_runs.specs.of_lowering_runs.Seen.{Spot, place_of}
use Rattle.print_runs.specs.of_array_runs.Reads.{EachCovers}
use Rattle.print_runs.specs.of_array_runs.Elementwise.{IsReadable, IsReadableMask}

-- Where an expression stands: by itself, where it has one value; or under the region of a slot,
-- where it has one at each tuple.
pub data Site : Type 0 where
  Alone : Site
  Under : (over : Slotted) (region : Region) → Site

-- a slot has a region, with the flood dimensions that are known before the run
pub record InSlot (slots : List Region) (over : Slotted) (region : Region) : Type 0 where
  pub found : slice_get slots over.slot ≡ Some region
  pub is : IsRegion region
  pub three : length region.dims ≡ 3
  pub flood : flood_of region ≡ over.flood

-- a scan goes over all tuples, or along a dimension, counted from 1
abbrev pub IsAlong : Option ℤ → Type 0
IsAlong None = Unit {0}
IsAlong (Some k) = 1 ≤ unsigned_abs k

-- An array is read round its home box by a vector of its rank: the box is within its storage, which has a flood dimension
-- wherever the box has one; the box is within the limit, and so is what stores its copy.
pub record IsAround (home : Region) (d : List ℤ) (stored : Stored) : Type 0 where
  pub is : IsRegion home
  pub three : length home.dims ≡ 3
  pub boxed : All IsBoxed home.dims
  pub limit : IsWithinLimit home
  pub long : length d ≡ 3
  pub level : components home.rank d ≡ d
  pub copy_limit : is_within_limit (copy_storage home d) ≡ true
  pub covers : EachCovers stored.storage.dims home.dims
  pub lies : lies_in home stored.storage ≡ true

abbrev pub count_of : Slates → ℕ
count_of NoSlate = 0
count_of (ThenSlate first rest) = suc (count_of rest)

-- Each slot has the region that the term names, and what is read has its flood dimensions.
-- The array of a remap read has as many dimensions as there are indices; it is read under a region
-- without flood dimension.
mutual
  pub data IsMeant (w : Where) (spots : List Spot) (slots : List Region) : Site → Slate → Term → Type 0 where
    ConstantMeant : {site : Site} {value : ℤ} → IsInteger value
        → IsMeant w spots slots site (slate.Constant value) (term.Constant value)
    VariableMeant : {site : Site} {place : ℕ}
        → IsMeant w spots slots site (slate.Variable place) (term.Variable (place_of spots place))
    CoordinateMeant : {over : Slotted} {region : Region} {k : ℕ} → k - 1 < 3
        → IsMeant w spots slots (Under over region) (slate.Coordinate k) (term.Coordinate k)
    ElementMeant : {over : Slotted} {region : Region} {place : ℕ} {shift : List ℤ}
        → IsReadable region shift (slice_get w.numbers.arrays place)
        → IsMeant w spots slots (Under over region) (slate.Element over.slot place shift)
        (term.Element region place shift)
    WrappedMeant : {over : Slotted} {region : Region} {place : ℕ} {home : Region} {d : List ℤ}
        {copy first : ℕ} {stored : Stored}
        → slice_get w.numbers.arrays place ≡ Some stored
        → IsAround home d stored → region.rank ≡ home.rank → EachCovers home.dims region.dims
        → IsMeant w spots slots (Under over region)
        (slate.Wrapped over.slot place home (copy_shift home d) copy first)
        (term.Wrapped region place home d)
    UnaryMeant : {site : Site} {operator : UnaryOp} {one : Slate} {operand : Term}
        → IsMeant w spots slots site one operand
        → IsMeant w spots slots site (slate.Unary operator one) (term.Unary operator operand)
    BinaryMeant : {site : Site} {operator : Op} {one other : Slate} {left right : Term}
        → IsMeant w spots slots site one left → IsMeant w spots slots site other right
        → IsMeant w spots slots site (slate.Binary operator one other)
        (term.Binary operator left right)
    FoldedMeant : {site : Site} {operator : Fold} {over : Slotted} {region : Region} {one : Slate}
        {operand : Term} → InSlot slots over region → IsReadableMask w region over.mask
        → no_flood region ≡ true → IsMeant w spots slots (Under over region) one operand
        → IsMeant w spots slots site (slate.Folded operator over one)
        (term.Folded operator (record { region = region; mask = over.mask }) operand)
    PartFoldedMeant : {operator : Fold} {over source : Slotted} {region tuples : Region} {one : Slate}
        {operand : Term} → InSlot slots source tuples → IsReadableMask w region over.mask
        → no_flood tuples ≡ true → IsMeant w spots slots (Under source tuples) one operand
        → IsMeant w spots slots (Under over region) (slate.PartFolded operator over source one)
        (term.PartFolded operator (record { region = region; mask = over.mask }) tuples operand)
    ScannedMeant : {operator : Fold} {along : Option ℤ} {over : Slotted} {region : Region} {one : Slate}
        {operand : Term} → IsReadableMask w region over.mask → IsAlong along
        → no_flood region ≡ true → IsMeant w spots slots (Under over region) one operand
        → IsMeant w spots slots (Under over region) (slate.Scanned operator along over one)
        (term.Scanned operator along (record { region = region; mask = over.mask }) operand)
    FloodedMeant : {over source : Slotted} {region tuples : Region} {one : Slate} {operand : Term}
        → InSlot slots source tuples → IsReadableMask w region over.mask
        → IsMeant w spots slots (Under source tuples) one operand
        → IsMeant w spots slots (Under over region) (slate.Flooded over source one)
        (term.Flooded (record { region = region; mask = over.mask }) tuples operand)
    RemappedMeant : {over : Slotted} {region : Region} {place : ℕ} {stored : Stored}
        {indices : Slates} {terms : Terms} → slice_get w.numbers.arrays place ≡ Some stored
        → IsRegion stored.storage → count_of indices ≡ stored.storage.rank
        → IsReadableMask w region over.mask → no_flood region ≡ true
        → AreMeant w spots slots (Under over region) indices terms
        → IsMeant w spots slots (Under over region) (slate.Remapped over place indices)
        (term.Remapped (record { region = region; mask = over.mask }) place terms)

  -- each of several at the same site
  pub data AreMeant (w : Where) (spots : List Spot) (slots : List Region)
      : Site → Slates → Terms → Type 0 where
    NoneMeant : {site : Site} → AreMeant w spots slots site NoSlate NoTerm
    MoreMeant : {site : Site} {one : Slate} {rest : Slates} {first : Term} {terms : Terms}
        → IsMeant w spots slots site one first → AreMeant w spots slots site rest terms
        → AreMeant w spots slots site (ThenSlate one rest) (ThenTerm first terms)

-- each of several expressions of a statement, at a site of its own
pub data AreMeantAt (w : Where) (spots : List Spot) (slots : List Region)
    : List Site → Slates → Terms → Type 0 where
  NoneAt : AreMeantAt w spots slots [] NoSlate NoTerm
  MoreAt : {site : Site} {sites : List Site} {one : Slate} {rest : Slates} {first : Term}
      {terms : Terms}
      → IsMeant w spots slots site one first → AreMeantAt w spots slots sites rest terms
      → AreMeantAt w spots slots (site ∷ sites) (ThenSlate one rest) (ThenTerm first terms)

-- the site's region is in its slot
abbrev pub IsSite : List Region → Site → Type 0
IsSite slots Alone = Unit {0}
IsSite slots (Under over region) = InSlot slots over region
