-- What code has of its own for the reads with a shift of the expanded program.
use Rattle.std.specs.Prelude.{◌≡◌, ℕ, suc, ◌+◌, List, [], ◌∷◌, ◌++◌, Option, Some, None, flat_map, map, slice_get, sum_by}
use Rattle.zpl_region.specs.declared.regions.Region.{Region}
use Rattle.zpl_arrays.specs.Around.{copy_shift, copy_storage}
use Rattle.zpl_tree.specs.Syntax.{Expr, Number, Truth, Coord, Named, Shifted as ShiftedExpr, Around, Remap, Call, Paren, Neg, Not, Abs, Pair, Reduce, Scan, Flood, Exprs, NoExpr, ThenExpr, NoBracket, Bracketed, Program}
use Rattle.zpl_names.specs.Kinds.{Rank}
use Rattle.zpl_names.specs.Ranks.{own_rank, inner_rank}
use Rattle.zpl_names.specs.Sites.{Reach, Site, Operand, whole_rank, over_source, dir_sites, region_sites}
use Rattle.zpl_names.specs.Expansion.{ExpandedArray, Instance, ShiftedRead, copies_at, shifts_at}
use Rattle.zpl_binding.specs.Regions.{Known}
use Rattle.zpl_meaning.specs.Regions.{vector_in}
use Rattle.zpl_meaning.specs.Store.{Environment, Thing, ArrayAt, thing_of}
use Rattle.zpl_lowering.specs.Hoist.{Free, Shifted, shifts_of}
use Rattle.zpl_lowering.specs.Reference.{vector_over}
use Rattle.zpl_lowering.specs.Where.{Numbers, Stored, Where}
use Rattle.stored_boxes.specs.Declared.{declared_home, declared_storage, IsDeclared}

abbrev pub IsNoArray : Option Thing → Type 0
IsNoArray (Some (ArrayAt place home)) = ⊥
IsNoArray thing = Unit {0}

-- Arrays of the expanded program have numbers.
module _ (program : Program) (known : Known) (number : ExpandedArray → ℕ) where
  -- the shift that is noted of `A@d`, if it moves the array
  abbrev pub own_shifts : ShiftedRead → List Shifted
  own_shifts read =
      shifts_of (number read.array)
      (vector_over (declared_storage program known read.array.storage) (vector_in known read.shift))

  -- the storage of the copy of `A@^d`
  abbrev pub copied : ShiftedRead → Region
  copied read =
      copy_storage (declared_home program known read.array.storage) (vector_in known read.shift)

  -- and the shifts with which copies are read, whose numbers go from one on
  abbrev pub copy_shifts : ℕ → List ShiftedRead → List Shifted
  copy_shifts k [] = []
  copy_shifts k (read ∷ rest) =
      shifts_of k
      (copy_shift (declared_home program known read.array.storage) (vector_in known read.shift))
      ++ copy_shifts (suc k) rest

  -- a name stands for the array that it is of the expanded program, with its number, its home box and
  -- its storage
  pub data IsReadAs (numbers : Numbers) : Option Thing → Option ExpandedArray → Type 0 where
    ReadNothing : (thing : Option Thing) → IsNoArray thing → IsReadAs numbers thing None
    ReadArray : (place : ℕ) (home : Region) (stored : Stored) (array : ExpandedArray) →
        slice_get numbers.arrays place ≡ Some stored → stored.array ≡ number array →
        IsDeclared program known array.storage home stored.storage →
        IsReadAs numbers (Some (ArrayAt place home)) (Some array)

-- ---- sites
module _ (program : Program) (instance : Instance) where
  abbrev pub shifts_in : List Site → List ShiftedRead
  shifts_in sites = flat_map (shifts_at program instance) sites

  abbrev pub copies_in : List Site → List ShiftedRead
  copies_in sites = flat_map (copies_at program instance) sites

  -- sites without such reads
  pub record IsQuiet (sites : List Site) : Type 0 where
    pub shifts : shifts_in sites ≡ []
    pub copies : copies_in sites ≡ []

abbrev pub IsArrayThere : Option Thing → Type 0
IsArrayThere (Some (ArrayAt place home)) = Unit {0}
IsArrayThere thing = ⊥

-- The brackets and the vectors in an expression have none, it has no call, and what it reads at
-- computed tuples is an array.
module _ (program : Program) (instance : Instance) (environment : Environment) where
  abbrev mutual
    pub IsQuietWithin : Reach → Rank → Expr → Type 0
    IsQuietWithin reach rank (Number at value) = Unit {0}
    IsQuietWithin reach rank (Truth at value) = Unit {0}
    IsQuietWithin reach rank (Coord at k) = Unit {0}
    IsQuietWithin reach rank (Named at name) = Unit {0}
    IsQuietWithin reach rank (ShiftedExpr at name shift) =
        IsQuiet program instance (dir_sites reach shift)
    IsQuietWithin reach rank (Around at name shift) =
        IsQuiet program instance (dir_sites reach shift)
    IsQuietWithin reach rank (Remap at name indices) =
        IsArrayThere (thing_of environment name.text) × AreQuietWithin reach rank indices
    IsQuietWithin reach rank (Call at name actuals) = ⊥
    IsQuietWithin reach rank (Paren at inside) = IsQuietWithin reach rank inside
    IsQuietWithin reach rank (Neg at operand) = IsQuietWithin reach rank operand
    IsQuietWithin reach rank (Not at operand) = IsQuietWithin reach rank operand
    IsQuietWithin reach rank (Abs at operand) = IsQuietWithin reach rank operand
    IsQuietWithin reach rank (Pair at op left right) =
        IsQuietWithin reach rank left × IsQuietWithin reach rank right
    IsQuietWithin reach rank (Reduce at operator NoBracket operand) =
        IsQuietWithin reach (whole_rank reach Operand operand) operand
    IsQuietWithin reach rank (Reduce at operator (Bracketed source) operand) =
        let hint = own_rank reach.scope reach.prefix operand in
        let over = inner_rank reach.scope hint reach.prefix source in
        IsQuiet program instance (region_sites reach hint source)
        × IsQuietWithin (over_source reach over source) over operand
    IsQuietWithin reach rank (Scan at operator along operand) = IsQuietWithin reach rank operand
    IsQuietWithin reach rank (Flood at source operand) =
        let hint = own_rank reach.scope reach.prefix operand in
        let over = inner_rank reach.scope hint reach.prefix source in
        IsQuiet program instance (region_sites reach hint source)
        × IsQuietWithin (over_source reach over source) over operand

    pub AreQuietWithin : Reach → Rank → Exprs → Type 0
    AreQuietWithin reach rank NoExpr = Unit {0}
    AreQuietWithin reach rank (ThenExpr first rest) =
        IsQuietWithin reach rank first × AreQuietWithin reach rank rest

-- The storages of copies, and the shifts that are noted, are those of the sites; copies have numbers
-- from one on. Which shifts are noted is told up to their order.
module _ (program : Program) (known : Known) (number : ExpandedArray → ℕ) (instance : Instance) where
  pub record IsNoted (first : ℕ) (sites : List Site) (storages : List Region)
      (shifts : Free → List Shifted) : Type 0 where
    pub copied_are : storages ≡
        map (copied program known number) (copies_in program instance sites)
    pub noted : (free : Free) (f : Shifted → ℕ) → sum_by f (shifts free) ≡
        sum_by f (flat_map (own_shifts program known number) (shifts_in program instance sites))
        + sum_by f (copy_shifts program known number first (copies_in program instance sites))

-- a place with these names
pub record IsAt (known : Known) (environment : Environment) (w : Where) : Type 0 where
  pub known_here : w.setup.known ≡ known
  pub names_here : w.environment ≡ environment
