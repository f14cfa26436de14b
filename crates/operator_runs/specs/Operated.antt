-- What is asked of an expression with operators over regions before the run: of names, ranks and
-- flood dimensions alone, whatever the current regions are.
use Rattle.std.specs.Prelude.{◌≡◌, ◌-◌, ◌<◌, ℕ, Bool, true, false, ℤ, List, [], ◌∷◌, length, map, Option, Some, None, slice_get}
use Rattle.zpl_nums.specs.Integer.{IsInteger}
use Rattle.zpl_region.specs.declared.regions.Region.{Region}
use Rattle.zpl_region.specs.Region.{IsRegion}
use Rattle.zpl_tree.specs.Syntax.{Expr, Number, Truth, Coord, Named, Shifted, Around, Remap, Call, Paren, Neg, Not, Abs, Pair, Reduce, Scan, Flood, Exprs, NoExpr, ThenExpr, Inner, NoBracket, Bracketed}
use Rattle.zpl_names.specs.Kinds.{Rank}
use Rattle.zpl_names.specs.Ranks.{exprs_count, operand_rank}
use Rattle.zpl_meaning.specs.Computed.{Gives}
use Rattle.zpl_meaning.specs.Store.{ArrayAt, Store, Thing, thing_of}
use Rattle.zpl_meaning.specs.Context.{Place}
use Rattle.zpl_meaning.specs.Proper.{HasCurrent, IsArrayRank}
use Rattle.zpl_meaning.specs.Regions as mean
use Rattle.zpl_meaning.specs.Regions.{vector_in}
use Rattle.zpl_meaning.specs.Scalars.{IsScalarName}
use Rattle.zpl_meaning.specs.Settled.{source_in}
use Rattle.print_runs.specs.of_zpl_lowering.Where.{Next, Slotted, Stored, Where, is_flood, slotted_at}
use Rattle.print_runs.specs.of_zpl_lowering.Slate.{opened_source, source_of, source_rank, under_source}
use Rattle.print_runs.specs.of_array_runs.Floods.{CoverFloods, IsElementAs, IsReadableMaskAs, slot_floods}
use Rattle.call_runs.specs.of_prefix_runs.Opens.{IsOpenedAs, Opens}
use Rattle.operator_runs.specs.Meant.{IsAlong, IsAround}

-- no dimension is a flood dimension
abbrev pub HaveNoFlood : List Bool → Type 0
HaveNoFlood [] = Unit {0}
HaveNoFlood (true ∷ floods) = ⊥
HaveNoFlood (false ∷ floods) = HaveNoFlood floods

-- Arrays and coordinates are read under the region of a slot, or not at all.
abbrev pub IsNameIn : Where → Option Slotted → List ℤ → Option Thing → Type 0
IsNameIn w None shift thing = IsScalarName thing
IsNameIn w (Some over) shift thing = IsElementAs w over shift thing

abbrev pub IsCoordinateIn : Option Slotted → ℕ → Type 0
IsCoordinateIn None k = ⊥
IsCoordinateIn (Some over) k = k - 1 < 3

-- The operand of a full fold stands under the current region of its own rank, which there is, and
-- which has no flood dimension; its mask may be read there.
pub record IsFoldedUnder (w : Where) (place : Place) (rank : Rank) : Type 0 where
  pub current : HasCurrent place.currents rank
  pub masked : IsReadableMaskAs w (slotted_at w.currents rank) (slotted_at w.currents rank).mask
  pub plain : HaveNoFlood (slotted_at w.currents rank).flood

-- A scan goes over the region under which it stands, which has no flood dimension; its mask may be
-- read there.
abbrev pub IsScannedIn : Where → Option Slotted → Option ℤ → Type 0
IsScannedIn w None along = ⊥
IsScannedIn w (Some over) along =
    IsReadableMaskAs w over over.mask × IsAlong along × HaveNoFlood over.flood

-- A remap read is of an array with as many dimensions as there are indices, under a region without
-- flood dimension, whose mask may be read there.
pub record IsRemapped (w : Where) (over : Slotted) (thing : Option Thing) (count : ℕ) : Type 0 where
  pub target : ℕ
  pub home : Region
  pub named : thing ≡ Some (ArrayAt target home)
  pub stored : Stored
  pub found : slice_get w.numbers.arrays target ≡ Some stored
  pub is : IsRegion stored.storage
  pub counted : count ≡ stored.storage.rank
  pub masked : IsReadableMaskAs w over over.mask
  pub plain : HaveNoFlood over.flood

abbrev pub IsRemappedIn : Where → Option Slotted → Option Thing → ℕ → Type 0
IsRemappedIn w None thing count = ⊥
IsRemappedIn w (Some over) thing count = IsRemapped w over thing count

-- A read that wraps round is of an array, under a region of its home box's rank, which has no flood
-- dimension where the box has none.
pub record IsWrapped (w : Where) (over : Slotted) (d : List ℤ) (thing : Option Thing) : Type 0 where
  pub target : ℕ
  pub home : Region
  pub named : thing ≡ Some (ArrayAt target home)
  pub stored : Stored
  pub found : slice_get w.numbers.arrays target ≡ Some stored
  pub is : IsAround home d stored
  pub ranked : length over.flood ≡ home.rank
  pub covers : CoverFloods (map is_flood home.dims) (slot_floods over)

abbrev pub IsWrappedIn : Where → Option Slotted → List ℤ → Option Thing → Type 0
IsWrappedIn w None d thing = ⊥
IsWrappedIn w (Some over) d thing = IsWrapped w over d thing

-- ---- the brackets of operators

-- It may be opened, and its region has the rank of that under which the operator stands, whose mask
-- may be read there.
pub record OpensSource (w : Where) (place : Place) (over : Slotted) (source : Inner) (operand : Expr)
    : Type 0 where
  pub rank : ℕ
  pub ranked : source_rank w source operand ≡ Some rank
  pub is_rank : IsArrayRank (Some rank)
  pub opens : Opens place rank source
  pub current : HasCurrent place.currents (Some rank)
  pub same : slotted_at w.currents (Some rank) ≡ over
  pub masked : IsReadableMaskAs w over over.mask

abbrev pub OpensSourceIn : Where → Place → Option Slotted → Inner → Expr → Type 0
OpensSourceIn w place None source operand = ⊥
OpensSourceIn w place (Some over) source operand = OpensSource w place over source operand

-- its region has no flood dimension, whichever slot that has
abbrev pub IsPlainSource : Where → Inner → Expr → Type 0
IsPlainSource w source operand =
    (next : Next) (line : ℕ) → HaveNoFlood (opened_source w next line source operand).flood

-- Something is asked of the operand behind the bracket: whichever slot its region has, and whatever
-- region it means at some store, which has the slot's flood dimensions.
abbrev pub IsUnderSource : Where → Place → Inner → Expr → (Where → Place → Slotted → Type 0) → Type 0
IsUnderSource w place source operand IsServed =
    (next : Next) (line : ℕ) (store : Store) (region : Region)
    → source_in place store source operand ≡ Gives region
    → IsOpenedAs (opened_source w next line source operand).flood region
    → IsServed
    (under_source w (source_rank w source operand)
    (source_of (opened_source w next line source operand)))
    (mean.under_source place (source_rank w source operand) region)
    (source_of (opened_source w next line source operand))

-- ---- expressions

-- Numbers, names, reads with a shift and reads that wrap round, coordinates, operators; and full
-- and partial folds, scans, floods and remap reads of such expressions.
abbrev mutual
  pub IsOperated : Where → Place → Option Slotted → Expr → Type 0
  IsOperated w place under (Number at value) = IsInteger value
  IsOperated w place under (Truth at value) = Unit {0}
  IsOperated w place under (Coord at k) = IsCoordinateIn under k
  IsOperated w place under (Named at name) =
      IsNameIn w under [] (thing_of w.environment name.text)
  IsOperated w place under (Shifted at name shift) =
      IsNameIn w under (vector_in w.setup.known shift) (thing_of w.environment name.text)
  IsOperated w place under (Paren at inside) = IsOperated w place under inside
  IsOperated w place under (Neg at operand) = IsOperated w place under operand
  IsOperated w place under (Not at operand) = IsOperated w place under operand
  IsOperated w place under (Abs at operand) = IsOperated w place under operand
  IsOperated w place under (Pair at op left right) =
      IsOperated w place under left × IsOperated w place under right
  IsOperated w place under (Reduce at operator NoBracket operand) =
      IsFoldedUnder w place (operand_rank place.scope place.prefix operand)
      × IsOperated w place
      (Some (slotted_at w.currents (operand_rank place.scope place.prefix operand))) operand
  IsOperated w place under (Reduce at operator (Bracketed source) operand) =
      OpensSourceIn w place under source operand × IsPlainSource w source operand
      × IsUnderSource w place source operand
      (λ inner there over. IsOperated inner there (Some over) operand)
  IsOperated w place under (Around at name shift) =
      IsWrappedIn w under (vector_in w.setup.known shift) (thing_of w.environment name.text)
  IsOperated w place under (Remap at name indices) =
      IsRemappedIn w under (thing_of w.environment name.text) (exprs_count indices)
      × AreIndices w place under indices
  IsOperated w place under (Call at name actuals) = ⊥
  IsOperated w place under (Scan at operator along operand) =
      IsScannedIn w under along × IsOperated w place under operand
  IsOperated w place under (Flood at source operand) =
      OpensSourceIn w place under source operand
      × IsUnderSource w place source operand
      (λ inner there over. IsOperated inner there (Some over) operand)

  pub AreIndices : Where → Place → Option Slotted → Exprs → Type 0
  AreIndices w place under NoExpr = Unit {0}
  AreIndices w place under (ThenExpr first rest) =
      IsOperated w place under first × AreIndices w place under rest
