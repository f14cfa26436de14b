-- What is in reach of a statement that is lowered, and fits: current regions, names, and what was
-- computed before the run.
use Rattle.std.specs.Prelude.{◌≡◌, ℕ, ◌<◌, false, List, find, length, take, Option, Some, None, option_map, slice_get, IsTrue}
use Rattle.std.specs.List.{AllByRecursion}
use Rattle.std.specs.Option.{IsSomeAnd}
use Rattle.zpl_region.specs.declared.regions.Region.{Region}
use Rattle.zpl_region.specs.Dim.{HasStep}
use Rattle.zpl_region.specs.Region.{IsPadded}
use Rattle.zpl_region.specs.Tests.{is_within_limit}
use Rattle.meaning_ranks.specs.of_zpl_tree.Syntax.{Name, Dir, Expr, Number, Truth, Coord, Named, Shifted, Around, Remap, Call, Paren, Neg, Not, Abs, Pair, Reduce, Scan, Flood, Exprs, NoExpr, ThenExpr, Program}
use Rattle.std.specs.Str.{bytes_eq}
use Rattle.meaning_ranks.specs.of_zpl_names.Declared.{globals_of}
use Rattle.meaning_ranks.specs.of_zpl_names.Kinds as kind
use Rattle.meaning_ranks.specs.of_zpl_names.Kinds.{Kind, Shape}
use Rattle.meaning_ranks.specs.of_zpl_names.Faults.{has_flood}
use Rattle.meaning_ranks.specs.of_zpl_names.Scope.{Scope, kind_in, kind_of}
use Rattle.meaning_ranks.specs.of_zpl_names.Ranks.{dir_rank, region_shape, array_shape}
use Rattle.meaning_ranks.specs.of_zpl_binding.Outcome.{Outcome, Gives, Fails}
use Rattle.meaning_ranks.specs.of_zpl_binding.Regions.{Known, region_named}
use Rattle.meaning_ranks.specs.of_zpl_meaning.Store.{Thing, Scalar, ArrayAt, Fixed, Names, Environment, thing_of}
use Rattle.meaning_ranks.specs.of_zpl_meaning.Regions.{vector_in}
use Rattle.meaning_ranks.specs.of_zpl_meaning.Context.{Over, Currents, Edge, Place}
use Rattle.meaning_ranks.specs.Shaped.{AreFloods}
use Rattle.stored_shifts.specs.of_node_form.declared.tables.Tables.{Tables}
use Rattle.stored_shifts.specs.of_node_form.Fits.{HasSlot}
use Rattle.lower_numbers.specs.of_zpl_lowering.Where.{Stored, Numbers, Slotted, SlotCurrents, slotted_or, Where}
use Rattle.lower_numbers.specs.of_zpl_lowering.Bracket.{region_slot}
use Rattle.lowering_fits.specs.Slates.{AllRanges, FitsOver, FitNumbers, FitsBox, FitsVector}
use Rattle.lowering_fits.specs.Storages.{AllKept, IsHomeIn}

-- ---- regions

-- of the rank, with steps of at least 1 and padded to three dimensions
pub record IsBox (rank : ℕ) (region : Region) : Type 0 where
  pub steps : AllByRecursion HasStep region.dims
  pub padded : IsPadded region.rank region.dims
  pub three : length region.dims ≡ 3
  pub same : region.rank ≡ rank

-- and within the limit
abbrev pub IsGivenBox : ℕ → Outcome Region → Type 0
IsGivenBox rank (Gives region) = IsBox rank region × IsTrue (is_within_limit region)
IsGivenBox rank (Fails fault) = ⊥

-- ---- what was computed before the run

pub record FitsKnown (tables : Tables) (known : Known) (scope : Scope) : Type 0 where
  pub dirs : (rank : ℕ) (dir : Dir) → dir_rank scope dir ≡ Some rank →
      FitsVector rank (vector_in known dir)
  pub slots : (rank : ℕ) (name : Name) →
      option_map length (region_shape (kind_of scope name)) ≡ Some rank →
      HasSlot tables rank (region_slot known name)
  pub boxes : (rank : ℕ) (name : Name) →
      option_map length (region_shape (kind_of scope name)) ≡ Some rank →
      IsGivenBox rank (region_named known name)

-- ---- current regions

abbrev pub FitsCurrent : Tables → Numbers → ℕ → Option Over → Option Slotted → Type 0
FitsCurrent tables numbers rank None slotted = Unit {0}
FitsCurrent tables numbers rank (Some over) slotted =
    FitsOver tables numbers rank (slotted_or slotted)

-- where the meaning has one of a rank, there is a slot for it
pub record FitCurrents (tables : Tables) (numbers : Numbers) (currents : Currents)
    (slots : SlotCurrents) : Type 0 where
  pub one : FitsCurrent tables numbers 1 currents.one slots.one
  pub two : FitsCurrent tables numbers 2 currents.two slots.two
  pub three : FitsCurrent tables numbers 3 currents.three slots.three

-- ---- places

-- the place of the meaning that has the same in reach, with other regions
abbrev pub place_at : Where → ℕ → Currents → Option Edge → Place
place_at w result currents edge = record {
  setup = w.setup;
  scope = w.scope;
  environment = w.environment;
  result = result;
  prefix = w.prefix;
  currents = currents;
  edge = edge;
}

-- ---- names of arrays

-- the storage has the rank and the flood dimensions that the text says
pub record IsStoredAs (shape : Option Shape) (stored : Stored) : Type 0 where
  pub rank : option_map length shape ≡ Some stored.storage.rank
  pub ranges : has_flood shape ≡ false →
      AllRanges (take stored.storage.rank stored.storage.dims)
  pub floods : (one : Shape) → shape ≡ Some one → AreFloods one stored.storage.dims

-- its array has a number, and its home box may stand in a row and lies in the storage
pub record FitsName (numbers : Numbers) (shape : Option Shape) (place : ℕ) (home : Region) : Type 0
  where
    pub has : IsSomeAnd (slice_get numbers.arrays place) (IsStoredAs shape)
    pub box : FitsBox home
    pub same : option_map length shape ≡ Some home.rank
    pub homed : IsSomeAnd (slice_get numbers.arrays place) (λ stored. IsHomeIn stored.storage home)

abbrev pub FitNames : Scope → Environment → Numbers → Type 0
FitNames scope environment numbers =
    (name : Name) (place : ℕ) (home : Region) →
    thing_of environment name.text ≡ Some (ArrayAt place home) →
    FitsName numbers (array_shape (kind_of scope name)) place home

-- ---- arrays that are read at computed tuples have no flood dimension

abbrev mutual
  pub HasFlatRemaps : Scope → Expr → Type 0
  HasFlatRemaps scope (Number at value) = Unit {0}
  HasFlatRemaps scope (Truth at value) = Unit {0}
  HasFlatRemaps scope (Coord at k) = Unit {0}
  HasFlatRemaps scope (Named at name) = Unit {0}
  HasFlatRemaps scope (Shifted at name shift) = Unit {0}
  HasFlatRemaps scope (Around at name shift) = Unit {0}
  HasFlatRemaps scope (Remap at name indices) =
      (has_flood (array_shape (kind_of scope name)) ≡ false) × HaveFlatRemaps scope indices
  HasFlatRemaps scope (Call at name actuals) = HaveFlatRemaps scope actuals
  HasFlatRemaps scope (Paren at inside) = HasFlatRemaps scope inside
  HasFlatRemaps scope (Neg at operand) = HasFlatRemaps scope operand
  HasFlatRemaps scope (Not at operand) = HasFlatRemaps scope operand
  HasFlatRemaps scope (Abs at operand) = HasFlatRemaps scope operand
  HasFlatRemaps scope (Pair at op left right) =
      HasFlatRemaps scope left × HasFlatRemaps scope right
  HasFlatRemaps scope (Reduce at operator over operand) = HasFlatRemaps scope operand
  HasFlatRemaps scope (Scan at operator along operand) = HasFlatRemaps scope operand
  HasFlatRemaps scope (Flood at source operand) = HasFlatRemaps scope operand

  pub HaveFlatRemaps : Scope → Exprs → Type 0
  HaveFlatRemaps scope NoExpr = Unit {0}
  HaveFlatRemaps scope (ThenExpr first rest) =
      HasFlatRemaps scope first × HaveFlatRemaps scope rest

-- ---- names of scalars

-- the scalar has a number
abbrev pub FitScalars : Tables → Environment → Numbers → Type 0
FitScalars tables environment numbers =
    (text : List ℕ) (place : ℕ) → thing_of environment text ≡ Some (Scalar place) →
    IsSomeAnd (slice_get numbers.scalars place) (λ n. n < tables.scalars)

-- ---- things that have numbers

abbrev pub IsKept : Numbers → Kind → Thing → Type 0
IsKept numbers (kind.Scalar base) (Scalar place) = place < length numbers.scalars
IsKept numbers (kind.Scalar base) (ArrayAt place home) = ⊥
IsKept numbers (kind.Scalar base) (Fixed value) = ⊥
IsKept numbers (kind.Array base shape) (ArrayAt place home) = FitsName numbers shape place home
IsKept numbers (kind.Array base shape) (Scalar place) = ⊥
IsKept numbers (kind.Array base shape) (Fixed value) = ⊥
IsKept numbers (kind.Config base) (Fixed value) = Unit {0}
IsKept numbers (kind.Config base) (Scalar place) = ⊥
IsKept numbers (kind.Config base) (ArrayAt place home) = ⊥
IsKept numbers (kind.Constant base) (Fixed value) = Unit {0}
IsKept numbers (kind.Constant base) (Scalar place) = ⊥
IsKept numbers (kind.Constant base) (ArrayAt place home) = ⊥
IsKept numbers (kind.Region shape) thing = ⊥
IsKept numbers (kind.Direction rank) thing = ⊥
IsKept numbers (kind.Procedure signature) thing = ⊥

abbrev pub named_thing : Names → List ℕ → Option Thing
named_thing names text =
    option_map (λ entry. entry.1) (find (λ entry. bytes_eq entry.0 text) names)

-- each stands for what is of its kind
abbrev pub AreGlobals : Program → Numbers → Names → Type 0
AreGlobals program numbers globals =
    (text : List ℕ) (thing : Thing) → named_thing globals text ≡ Some thing →
    (one : Kind) × (kind_in (globals_of program) text ≡ Some one) × IsKept numbers one thing

-- ---- all that is in reach

pub record IsReach (tables : Tables) (w : Where) (currents : Currents) : Type 0 where
  pub numbers : FitNumbers tables w.numbers
  pub kept : AllKept w.numbers.arrays
  pub globals : AreGlobals w.setup.program w.numbers w.setup.globals
  pub known : FitsKnown tables w.setup.known w.scope
  pub names : FitNames w.scope w.environment w.numbers
  pub variables : FitScalars tables w.environment w.numbers
  pub here : FitCurrents tables w.numbers currents w.currents
