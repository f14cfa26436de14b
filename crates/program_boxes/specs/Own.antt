-- What code has of its own: the arrays, the copies and the shifts of a text, and of its calls.
use Rattle.std.specs.Prelude.{◌≡◌, ℕ, suc, ◌+◌, ◌≤◌, if◌then◌else◌, List, [], ◌∷◌, Some, filter_map, flat_map, map, slice_get, sum_by}
use Rattle.zpl_region.specs.declared.regions.Region.{Region}
use Rattle.zpl_tree.specs.Syntax.{Program}
use Rattle.zpl_names.specs.Expansion.{ExpandedArray, Instance, ShiftedRead, instance_sites, is_same_array}
use Rattle.zpl_names.specs.Sites.{CallSite, Site, call_of}
use Rattle.zpl_binding.specs.Regions.{Known}
use Rattle.zpl_lowering.specs.Hoist.{Shifted}
use Rattle.zpl_lowering.specs.Lowered.{Lowered}
use Rattle.zpl_lowering.specs.Where.{Next}
use Rattle.stored_boxes.specs.Declared.{declared_storage}
use Rattle.program_boxes.specs.Fair.{AreFair, AreFairCopies}
use Rattle.stored_boxes.specs.Reads.{copied, copies_in, copy_shifts, own_shifts, shifts_in}

-- ---- what expanded calls have, each in the order of the text

abbrev pub arrays_of : List Instance → List ExpandedArray
arrays_of calls = flat_map (λ call. map (λ binding. binding.array) call.own) calls

module _ (program : Program) where
  abbrev pub shifts_of : List Instance → List ShiftedRead
  shifts_of calls =
      flat_map (λ call. shifts_in program call (instance_sites program call)) calls

  abbrev pub copies_of : List Instance → List ShiftedRead
  copies_of calls =
      flat_map (λ call. copies_in program call (instance_sites program call)) calls

-- ---- arrays that stand in a list

-- the number of an array is that of the first one that is the same
abbrev pub number_in : List ExpandedArray → ExpandedArray → ℕ
number_in [] array = 0
number_in (one ∷ others) array =
    if is_same_array one array then 0 else suc (number_in others array)

-- these stand there from a number on, in order
abbrev pub StandAt : List ExpandedArray → ℕ → List ExpandedArray → Type 0
StandAt all first arrays =
    (i : ℕ) (one : ExpandedArray) → slice_get arrays i ≡ Some one →
    slice_get all (first + i) ≡ Some one

-- what is read stands there
abbrev pub AreThere : List ExpandedArray → List ShiftedRead → Type 0
AreThere all [] = Unit {0}
AreThere all (read ∷ reads) =
    ((i : ℕ) × (slice_get all i ≡ Some read.array)) × AreThere all reads

-- The arrays of calls stand from the number on that is free, which is no less than a number.
pub record HaveRoom (all : List ExpandedArray) (least first : ℕ) (calls : List Instance) : Type 0
  where
    pub more : least ≤ first
    pub stand : StandAt all first (arrays_of calls)

-- What a call reads with a shift stands among all arrays, and its vectors have the ranks of what
-- they
-- read.
pub record IsRightCall (program : Program) (known : Known) (all : List ExpandedArray)
    (call : Instance) : Type 0 where
  pub there : AreThere all (shifts_in program call (instance_sites program call))
  pub fair : AreFair program known (shifts_in program call (instance_sites program call))
  pub copies : AreFairCopies program known (copies_in program call (instance_sites program call))

abbrev pub AreRightCalls : Program → Known → List ExpandedArray → List Instance → Type 0
AreRightCalls program known all [] = Unit {0}
AreRightCalls program known all (call ∷ calls) =
    IsRightCall program known all call × AreRightCalls program known all calls

-- ---- what code has of its own

module _ (program : Program) (known : Known) (number : ExpandedArray → ℕ) where
  -- the storages of arrays, as they are declared
  abbrev pub storages_of : List ExpandedArray → List Region
  storages_of arrays = map (λ array. declared_storage program known array.storage) arrays

  abbrev pub copied_of : List ShiftedRead → List Region
  copied_of reads = map (copied program known number) reads

  -- what is noted of reads with a shift, and of copies, whose numbers go from one on
  abbrev pub noted_of : (Shifted → ℕ) → ℕ → List ShiftedRead → List ShiftedRead → ℕ
  noted_of f first shifts copies =
      sum_by f (flat_map (own_shifts program known number) shifts)
      + sum_by f (copy_shifts program known number first copies)

  -- The code of expanded calls has their arrays, and the copies for what they read round; it notes
  -- their shifts and those of the copies, in whatever order. Each call is right.
  pub record HasCalls (all : List ExpandedArray) (later : ℕ) (calls : List Instance)
      (lowered : Lowered) : Type 0 where
    pub copies : lowered.copies ≡ []
    pub arrays : lowered.arrays ≡ storages_of (arrays_of calls)
    pub later_are : lowered.later ≡ copied_of (copies_of program calls)
    pub shifts : (f : Shifted → ℕ) → sum_by f lowered.shifts ≡
        noted_of f later (shifts_of program calls) (copies_of program calls)
    pub right : AreRightCalls program known all calls

  -- The code of a text in a call has the copies for what it reads round, and what the calls in it
  -- have.
  module _ (instance : Instance) (called : CallSite → List Instance) where
    abbrev pub called_in : List Site → List Instance
    called_in sites = flat_map called (filter_map call_of sites)

    pub record HasOwn (all : List ExpandedArray) (next : Next) (sites : List Site)
        (lowered : Lowered) : Type 0 where
      pub copies : lowered.copies ≡ copied_of (copies_in program instance sites)
      pub arrays : lowered.arrays ≡ storages_of (arrays_of (called_in sites))
      pub later_are : lowered.later ≡ copied_of (copies_of program (called_in sites))
      pub shifts : (f : Shifted → ℕ) → sum_by f lowered.shifts ≡
          noted_of f next.copies (shifts_in program instance sites)
          (copies_in program instance sites)
          + noted_of f next.later (shifts_of program (called_in sites))
          (copies_of program (called_in sites))
      pub right : AreRightCalls program known all (called_in sites)
