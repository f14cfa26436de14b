-- What the rows of operators over regions leave, and what is left of an expression behind them.
use Rattle.std.specs.Prelude.{◌≡◌, ◌⊎◌, ℕ, ◌+◌, ◌<◌, ◌≤◌, true, ℤ, List, [], ◌∷◌, length, slice_get}
use Rattle.std.specs.List.{list_all}
use Rattle.zpl_nums.specs.declared.ends.End.TheVariants.{Trap}
use Rattle.zpl_nums.specs.declared.ends.TrapKind.{TrapKind}
use Rattle.zpl_region.specs.declared.regions.Region.{Region}
use Rattle.zpl_region.specs.Region.{IsMember}
use Rattle.zpl_binding.specs.Regions.{no_region}
use Rattle.zpl_meaning.specs.Computed as mean
use Rattle.zpl_meaning.specs.Fields.{Field}
use Rattle.node_form.specs.declared.tables.Tables.{Tables}
use Rattle.node_form.specs.declared.words.ExprOp.{ExprOp}
use Rattle.node_form.specs.Expression.{Expression, words_of}
use Rattle.node_form.specs.Value.{Operands, scalar_operands, tree_value}
use Rattle.row_runs.specs.Run.{Ends}
use Rattle.row_runs.specs.Straight.{Every}
use Rattle.row_runs.specs.Structured.{Course, GoesOn, Over}
use Rattle.flat_form.specs.Loop.{operands_at}
use Rattle.flat_form.specs.Names.{word_reads, word_scalars}
use Rattle.flat_form.specs.Right.{can_read}
use Rattle.flat_form.specs.Whole.{Whole}
use Rattle.print_runs.specs.of_zpl_lowering.Where.{Next, Stored}
use Rattle.print_runs.specs.of_zpl_lowering.Slate as slate
use Rattle.print_runs.specs.of_zpl_lowering.Slate.{Slate, Slates, NoSlate, ThenSlate}
use Rattle.print_runs.specs.of_zpl_lowering.Hoist.{Free, Hoisted}
use Rattle.print_runs.specs.of_lowering_runs.Seen.{Spot, seen_store}
use Rattle.print_runs.specs.of_lowering_runs.Stands.{IsSound, Misses}
use Rattle.print_runs.specs.of_array_puts.Put.{IsSame}
use Rattle.operator_runs.specs.Meant.{Site, Alone, Under}

-- ---- where it stands

abbrev pub IsAt : Site → List ℤ → Type 0
IsAt Alone t = t ≡ []
IsAt (Under over region) t = IsMember region t

-- what it reads there
abbrev pub operands_of : Site → Whole → List ℤ → List ℤ → Operands
operands_of Alone whole cells t = scalar_operands whole.scalars
operands_of (Under over region) whole cells t =
    operands_at whole t (record { cells = cells; log = [] })

abbrev pub region_of : Site → Region
region_of Alone = no_region
region_of (Under over region) = region

-- a word reads arrays that may be read, and scalars below a number
pub record IsReadWell (tables : Tables) (site : Site) (whole : Whole) (scalars : ℕ) (one : ExprOp)
    : Type 0 where
  pub reads : list_all (can_read tables whole (region_of site)) (word_reads one) ≡ true
  pub names : Every (λ k. k < scalars) (word_scalars one)

-- ---- what is free, and what reads that wrap round have of their own

-- the numbers that are free in a statement's rows
pub record Unused : Type 0 where
  pub scalars : ℕ
  pub copies : ℕ
  pub temps : ℕ

abbrev pub free_of : Unused → Free
free_of free = record { scalars = free.scalars; temps = free.temps }

-- those behind rows, and behind so many copies
abbrev pub beyond : {A : Type 0} → Unused → ℕ → Hoisted A → Unused
beyond free copies hoisted = record {
  scalars = free.scalars + hoisted.scalars;
  copies = free.copies + copies;
  temps = free.temps + length hoisted.temps;
}

-- What a statement has of its own: the slots that its reads which wrap round fill, and the number of
-- its first temporary.
pub record Own : Type 0 where
  pub slots : List ℕ
  pub temps : ℕ

-- where a statement begins, with nothing of its own
abbrev pub unused_at : Next → Unused
unused_at next =
    record { scalars = next.scalars + 0; copies = next.copies; temps = next.temps }

module _ (tables : Tables) (spots : List Spot) (arrays : List Stored) (own : Own) where
  -- The store is as it was, and so are all slots but the statement's own ones, scalars below what was
  -- free, and of the arrays copies and the statement's temporaries.
  pub record Spares (free : Unused) (before after : Whole) : Type 0 where
    pub sound : IsSound tables after
    pub seen : seen_store spots arrays after ≡ seen_store spots arrays before
    pub slots : (k : ℕ) → Misses own.slots k
        → slice_get after.slots k ≡ slice_get before.slots k
    pub scalars : (k : ℕ) → k < free.scalars
        → slice_get after.scalars k ≡ slice_get before.scalars k
    pub stores : (k : ℕ) → k < free.temps → (k < free.copies) ⊎ (own.temps ≤ k)
        → slice_get after.stores k ≡ slice_get before.stores k

  -- What is left has the values of a field, in the state and behind all further rows.
  pub record HasValues (site : Site) (free : Unused) (after : Whole) (field : Field)
      (left : Expression) : Type 0 where
    pub values : (later : Whole) → Spares free after later → (cells t : List ℤ) → IsAt site t
        → IsSame (field t) (tree_value (operands_of site later cells t) left)
    pub reads : (later : Whole) → Spares free after later
        → Every (IsReadWell tables site later free.scalars) (words_of left)

  -- The rows come to a state in which what is left has the values of the field that is computed; or
  -- they end with the trap that is. They print nothing, and make few tests.
  pub data Hoists (site : Site) (free behind : Unused) (line most : ℕ) (now : Whole)
      (left : Expression) : mean.Computed Field → Course Whole → Type 0 where
    Reaches : {after : Whole} {jumps : ℕ} {field : Field} → Spares free now after
        → HasValues site behind after field left → jumps ≤ most
        → Hoists site free behind line most now left (mean.Gives field)
        (record { close = GoesOn; state = after; bytes = []; jumps = jumps })
    Stumbles : {after : Whole} {jumps : ℕ} {kind : TrapKind} → jumps ≤ most
        → Hoists site free behind line most now left (mean.Traps kind)
        (record { close = Over (Ends (Trap kind line)); state = after; bytes = []; jumps = jumps })

  -- each of several
  abbrev pub HaveValues : Site → Unused → Whole → List Field → List Expression → Type 0
  HaveValues site free after [] [] = Unit {0}
  HaveValues site free after [] (left ∷ rest) = ⊥
  HaveValues site free after (field ∷ fields) [] = ⊥
  HaveValues site free after (field ∷ fields) (left ∷ rest) =
      HasValues site free after field left × HaveValues site free after fields rest

  -- each of several at a site of its own
  pub data HaveValuesAt : List Site → Unused → Whole → List Field → List Expression → Type 0 where
    NoValues : {free : Unused} {after : Whole} → HaveValuesAt [] free after [] []
    MoreValues : {site : Site} {sites : List Site} {free : Unused} {after : Whole} {field : Field}
        {fields : List Field} {left : Expression} {rest : List Expression}
        → HasValues site free after field left → HaveValuesAt sites free after fields rest
        → HaveValuesAt (site ∷ sites) free after (field ∷ fields) (left ∷ rest)

  -- The same of several expressions, of which what is left has the fields' values.
  pub data HoistAll (Have : Unused → Whole → List Field → List Expression → Type 0)
      (free behind : Unused) (line most : ℕ) (now : Whole) (left : List Expression)
      : mean.Computed (List Field) → Course Whole → Type 0 where
    AllReach : {after : Whole} {jumps : ℕ} {fields : List Field} → Spares free now after
        → Have behind after fields left → jumps ≤ most
        → HoistAll Have free behind line most now left (mean.Gives fields)
        (record { close = GoesOn; state = after; bytes = []; jumps = jumps })
    OneStumbles : {after : Whole} {jumps : ℕ} {kind : TrapKind} → jumps ≤ most
        → HoistAll Have free behind line most now left (mean.Traps kind)
        (record { close = Over (Ends (Trap kind line)); state = after; bytes = []; jumps = jumps })

-- how many reads that wrap round are in a slate: each has a copy
abbrev mutual
  pub copies_of : Slate → ℕ
  copies_of (slate.Constant value) = 0
  copies_of (slate.Variable place) = 0
  copies_of (slate.Coordinate k) = 0
  copies_of (slate.Element slot place shift) = 0
  copies_of (slate.Wrapped slot place home shift copy first) = 1
  copies_of (slate.Unary operator operand) = copies_of operand
  copies_of (slate.Binary operator left right) = copies_of left + copies_of right
  copies_of (slate.Folded operator over operand) = copies_of operand
  copies_of (slate.PartFolded operator over source operand) = copies_of operand
  copies_of (slate.Scanned operator along over operand) = copies_of operand
  copies_of (slate.Flooded over source operand) = copies_of operand
  copies_of (slate.Remapped over place indices) = copies_of_all indices

  pub copies_of_all : Slates → ℕ
  copies_of_all NoSlate = 0
  copies_of_all (ThenSlate first rest) = copies_of first + copies_of_all rest

-- the tests that the rows of a slate make: one for each remap read
abbrev mutual
  pub tests_of : Slate → ℕ
  tests_of (slate.Constant value) = 0
  tests_of (slate.Variable place) = 0
  tests_of (slate.Coordinate k) = 0
  tests_of (slate.Element slot place shift) = 0
  tests_of (slate.Wrapped slot place home shift copy first) = 0
  tests_of (slate.Unary operator operand) = tests_of operand
  tests_of (slate.Binary operator left right) = tests_of left + tests_of right
  tests_of (slate.Folded operator over operand) = tests_of operand
  tests_of (slate.PartFolded operator over source operand) = tests_of operand
  tests_of (slate.Scanned operator along over operand) = tests_of operand
  tests_of (slate.Flooded over source operand) = tests_of operand
  tests_of (slate.Remapped over place indices) = tests_of_all indices + 1

  pub tests_of_all : Slates → ℕ
  tests_of_all NoSlate = 0
  tests_of_all (ThenSlate first rest) = tests_of first + tests_of_all rest
