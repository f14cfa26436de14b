-- Expressions with slots in the place of regions, and the first phase of a statement: the brackets
-- that stand in it become rows, in text order, a bracket before its operand.
use Rattle.std.specs.Prelude.{ℕ, ◌+◌, ◌*◌, ◌^◌, ◌-◌, Bool, true, false, ℤ, pos, if◌then◌else◌, List, [], ◌∷◌, ◌++◌, length, filter, replicate, Option, Some, None}
use Rattle.std.specs.Ordering.{int_eq}
use Rattle.zpl_meaning.specs.of_zpl_nums.declared.operators.Op.{Op}
use Rattle.zpl_meaning.specs.of_zpl_nums.declared.operators.UnaryOp.{UnaryOp}
use Rattle.zpl_meaning.specs.of_zpl_nums.declared.operators.UnaryOp.TheVariants as unary
use Rattle.zpl_meaning.specs.of_zpl_nums.declared.folds.Fold.{Fold}
use Rattle.zpl_meaning.specs.of_zpl_nums.Integer.{truth, is_true}
use Rattle.zpl_meaning.specs.of_zpl_region.declared.regions.Region.{Region}
use Rattle.zpl_meaning.specs.of_zpl_arrays.Around.{copy_shift, copy_storage}
use Rattle.zpl_meaning.specs.of_zpl_tree.Syntax.{Expr, Number, Truth, Coord, Named, Shifted, Around, Remap, Call, Paren, Neg, Not, Abs, Pair, Reduce, Scan, Flood, Exprs, NoExpr, ThenExpr, Inner, NoBracket, Bracketed}
use Rattle.zpl_meaning.specs.of_zpl_names.Kinds.{Rank}
use Rattle.zpl_meaning.specs.of_zpl_names.Ranks.{own_rank, operand_rank, inner_rank}
use Rattle.zpl_meaning.specs.Store.{Thing, Scalar, ArrayAt, Fixed, thing_of}
use Rattle.zpl_meaning.specs.Regions.{vector_in}
use Rattle.text_sharing.specs.of_flat_form.Row.{Row}
use Rattle.zpl_lowering.specs.Where.{Slotted, slotted_at, with_slotted, Where, Next}
use Rattle.zpl_lowering.specs.Bracket.{Opened, bracket}

-- Variables and arrays by their places in the store. A read that wraps round has the number of the
-- copy from which it is made, and the first of the slots that the copy is filled with.
mutual
  pub data Slate : Type 0 where
    Constant : (value : ℤ) → Slate
    Variable : (place : ℕ) → Slate
    Coordinate : (k : ℕ) → Slate
    Element : (slot place : ℕ) (shift : List ℤ) → Slate
    Wrapped : (slot place : ℕ) (home : Region) (shift : List ℤ) (copy first : ℕ) → Slate
    Unary : (operator : UnaryOp) (operand : Slate) → Slate
    Binary : (operator : Op) (left right : Slate) → Slate
    Folded : (operator : Fold) (over : Slotted) (operand : Slate) → Slate
    PartFolded : (operator : Fold) (over source : Slotted) (operand : Slate) → Slate
    Scanned : (operator : Fold) (along : Option ℤ) (over : Slotted) (operand : Slate) → Slate
    Flooded : (over source : Slotted) (operand : Slate) → Slate
    Remapped : (over : Slotted) (place : ℕ) (indices : Slates) → Slate

  pub data Slates : Type 0 where
    NoSlate : Slates
    ThenSlate : (first : Slate) (rest : Slates) → Slates

-- a slate, the rows of its brackets, and the slots and the storages of copies that it has of its
-- own
pub record Settled (A : Type 0) : Type 0 where
  pub slate : A
  pub rows : List Row
  pub slots : List ℕ
  pub copies : List Region

abbrev pub alone : {A : Type 0} → A → Settled A
alone slate = record { slate = slate; rows = []; slots = []; copies = [] }

abbrev pub mapped : {A B : Type 0} → (A → B) → Settled A → Settled B
mapped f settled = record {
  slate = f settled.slate;
  rows = settled.rows;
  slots = settled.slots;
  copies = settled.copies;
}

-- the numbers that are free behind it
abbrev pub behind : {A : Type 0} → Next → Settled A → Next
behind next settled = record next {
  slots = next.slots + length settled.slots;
  copies = next.copies + length settled.copies;
}

abbrev pub both : {A B C : Type 0} → (A → B → C) → Settled A → Settled B → Settled C
both f first second = record {
  slate = f first.slate second.slate;
  rows = first.rows ++ second.rows;
  slots = first.slots ++ second.slots;
  copies = first.copies ++ second.copies;
}

abbrev pub then_settled : {A B C : Type 0} → (A → B → C) → Next → Settled A →
    (Next → Settled B) → Settled C
then_settled f next first rest = both f first (rest (behind next first))

-- ---- names

abbrev pub named_slate : Slotted → Option Thing → Slate
named_slate over (Some (Scalar place)) = Variable place
named_slate over (Some (Fixed value)) = Constant value
named_slate over (Some (ArrayAt place home)) = Element over.slot place []
named_slate over None = Constant (pos 0)

abbrev pub shifted_slate : Slotted → List ℤ → Option Thing → Slate
shifted_slate over shift (Some (ArrayAt place home)) = Element over.slot place shift
shifted_slate over shift thing = Constant (pos 0)

abbrev pub remap_slate : Slotted → Option Thing → Slates → Slate
remap_slate over (Some (ArrayAt place home)) indices = Remapped over place indices
remap_slate over thing indices = Constant (pos 0)

-- ---- reads that wrap round

abbrev pub is_moving : ℤ → Bool
is_moving part = is_true part

-- A slot for the home box, and for each border that is wrapped one for its target and one for its
-- source: a border for each choice of the dimensions in which the copy is read with a shift.
abbrev pub border_slots : List ℤ → ℕ
border_slots shift = 1 + 2 * (2 ^ length (filter is_moving shift) - 1)

abbrev pub around_slate : Next → Slotted → List ℤ → Option Thing → Settled Slate
around_slate next over shift (Some (ArrayAt place home)) = record {
  slate = Wrapped over.slot place home (copy_shift home shift) next.copies next.slots;
  rows = [];
  slots = replicate (border_slots (copy_shift home shift)) home.rank;
  copies = copy_storage home shift ∷ [];
}
around_slate next over shift thing = alone (Constant (pos 0))

-- ---- operators over a region

abbrev pub source_of : Opened → Slotted
source_of opened = record { slot = opened.slot; flood = opened.flood; mask = None }

-- in reach of the operand that is the current region, without a mask
abbrev pub under_source : Where → Rank → Slotted → Where
under_source w rank source = record w { currents = with_slotted w.currents rank source }

abbrev pub source_rank : Where → Inner → Expr → Rank
source_rank w source operand =
    inner_rank w.scope (own_rank w.scope w.prefix operand) w.prefix source

abbrev pub opened_source : Where → Next → ℕ → Inner → Expr → Opened
opened_source w next line source operand =
    bracket w next.slots line (slotted_at w.currents (source_rank w source operand)) source

abbrev pub of_opened : Opened → Settled Slotted
of_opened opened =
    record { slate = source_of opened; rows = opened.rows; slots = opened.slots; copies = [] }

-- ---- expressions of a rank, at a line

abbrev mutual
  pub settled : Where → ℕ → Next → Rank → Expr → Settled Slate
  settled w line next rank (Number at value) = alone (Constant value)
  settled w line next rank (Truth at value) = alone (Constant (truth value))
  settled w line next rank (Coord at k) = alone (Coordinate k)
  settled w line next rank (Named at name) =
      alone (named_slate (slotted_at w.currents rank) (thing_of w.environment name.text))
  settled w line next rank (Shifted at name shift) =
      alone (shifted_slate (slotted_at w.currents rank) (vector_in w.setup.known shift)
      (thing_of w.environment name.text))
  settled w line next rank (Around at name shift) =
      around_slate next (slotted_at w.currents rank) (vector_in w.setup.known shift)
      (thing_of w.environment name.text)
  settled w line next rank (Remap at name indices) =
      mapped (remap_slate (slotted_at w.currents rank) (thing_of w.environment name.text))
      (settled_all w line next rank indices)
  settled w line next rank (Call at name actuals) = alone (Constant (pos 0))
  settled w line next rank (Paren at inside) = settled w line next rank inside
  settled w line next rank (Neg at operand) =
      mapped (Unary unary.Neg) (settled w line next rank operand)
  settled w line next rank (Not at operand) =
      mapped (Unary unary.Not) (settled w line next rank operand)
  settled w line next rank (Abs at operand) =
      mapped (Unary unary.Abs) (settled w line next rank operand)
  settled w line next rank (Pair at op left right) =
      then_settled (Binary op) next (settled w line next rank left)
      (λ after. settled w line after rank right)
  settled w line next rank (Reduce at operator NoBracket operand) =
      let over = operand_rank w.scope w.prefix operand in
      mapped (Folded operator (slotted_at w.currents over)) (settled w line next over operand)
  settled w line next rank (Reduce at operator (Bracketed source) operand) =
      let over = source_rank w source operand in
      let opened = opened_source w next line source operand in
      then_settled (PartFolded operator (slotted_at w.currents over)) next (of_opened opened)
      (λ after. settled (under_source w over (source_of opened)) line after over operand)
  settled w line next rank (Scan at operator along operand) =
      mapped (Scanned operator along (slotted_at w.currents rank))
      (settled w line next rank operand)
  settled w line next rank (Flood at source operand) =
      let over = source_rank w source operand in
      let opened = opened_source w next line source operand in
      then_settled (Flooded (slotted_at w.currents over)) next (of_opened opened)
      (λ after. settled (under_source w over (source_of opened)) line after over operand)

  pub settled_all : Where → ℕ → Next → Rank → Exprs → Settled Slates
  settled_all w line next rank NoExpr = alone NoSlate
  settled_all w line next rank (ThenExpr first rest) =
      then_settled ThenSlate next (settled w line next rank first)
      (λ after. settled_all w line after rank rest)

-- ---- the expressions of a statement

-- an expression with its rank
pub record Placed : Type 0 where
  pub rank : Rank
  pub expr : Expr

abbrev pub settled_each : Where → ℕ → Next → List Placed → Settled Slates
settled_each w line next [] = alone NoSlate
settled_each w line next (placed ∷ rest) =
    then_settled ThenSlate next (settled w line next placed.rank placed.expr)
    (λ after. settled_each w line after rest)
