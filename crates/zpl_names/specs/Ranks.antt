-- The rank of expressions, regions and directions. It follows from the text alone.
use Rattle.std.specs.Prelude.{ℕ, ◌≤◌, All, zero, suc, Bool, true, false, not, ◌||◌, ◌==◌, nat_le, if◌then◌else◌, List, [], ◌∷◌, length, Option, Some, None, option_map, IsSome}
use Rattle.zpl_tree.specs.Syntax.{Name, Pre, NamedRegion, Ditto, Expr, Number, Truth, Coord, Named, Shifted, Call, Paren, Neg, Not, Abs, Pair, Reduce, Scan, Flood, Exprs, NoExpr, ThenExpr, Dir, NamedDir, Vector, Inner, Rexpr, Dims, NoBracket, Bracketed, Posts, NoPost, ThenPost, DimTexts, NoDim, ThenDim, Mask}
use Rattle.zpl_tree.specs.Syntax.{Around, Remap}
use Rattle.zpl_names.specs.Kinds.{Shape, Rank, Kind, Config, Constant, Region, Direction, Scalar, Array}
use Rattle.zpl_names.specs.Scope.{Scope, kind_of, is_region}

-- ---- ranks that meet

-- the first that isn't 0; one that is left open stays so
abbrev pub first_rank : Rank → Rank → Rank
first_rank (Some zero) other = other
first_rank rank other = rank

-- the rank of two operands: the first that isn't 0, and left open where one of them is
abbrev pub both_ranks : Rank → Rank → Rank
both_ranks rank None = None
both_ranks rank (Some other) = first_rank rank (Some other)

-- what isn't given is left open
abbrev pub known_rank : Rank → Rank
known_rank (Some zero) = None
known_rank rank = rank

-- two ranks meet that differ: scalars go with every rank
abbrev pub ranks_clash : Rank → Rank → Bool
ranks_clash (Some (suc rank)) (Some (suc other)) = not (rank == other)
ranks_clash _ _ = false

-- an array stands where a scalar is wanted
abbrev pub is_above_zero : Rank → Bool
is_above_zero (Some (suc rank)) = true
is_above_zero _ = false

abbrev pub is_zero : Rank → Bool
is_zero (Some zero) = true
is_zero _ = false

-- ---- directions and regions

abbrev pub exprs_count : Exprs → ℕ
exprs_count NoExpr = 0
exprs_count (ThenExpr first rest) = suc (exprs_count rest)

abbrev pub dims_count : DimTexts → ℕ
dims_count NoDim = 0
dims_count (ThenDim first rest) = suc (dims_count rest)

-- a fourth part is a fault
abbrev pub at_most_three : ℕ → Rank
at_most_three count = if nat_le count 3 then Some count else None

abbrev pub direction_rank : Option Kind → Rank
direction_rank (Some (Direction rank)) = rank
direction_rank _ = None

abbrev pub dir_rank : Scope → Dir → Rank
dir_rank scope (NamedDir name) = direction_rank (kind_of scope name)
dir_rank scope (Vector parts) = at_most_three (exprs_count parts)

abbrev pub region_shape : Option Kind → Option Shape
region_shape (Some (Region shape)) = shape
region_shape _ = None

-- a bracket with a single name is a rank 1 index, where the name isn't a region's
abbrev pub is_index : Scope → List Pre → Name → Posts → Bool
is_index scope [] name NoPost = not (is_region (kind_of scope name))
is_index scope pre name post = false

-- the rank of the direction next to a region, or 0 where there is none: first the `of` or `in`
-- directly before it
abbrev pub pre_rank : Scope → List Pre → Rank
pre_rank scope [] = Some 0
pre_rank scope (pre ∷ []) = direction_rank (kind_of scope pre.dir)
pre_rank scope (pre ∷ rest) = pre_rank scope rest

abbrev pub post_rank : Scope → Posts → Rank
post_rank scope NoPost = Some 0
post_rank scope (ThenPost stride dir rest) = dir_rank scope dir

-- The rank of a ditto, or 0 where nothing gives one: that of its direction, else that of its mask
-- or of its operator's operand, which is handed in as a hint, else that of the innermost prefix.
abbrev pub ditto_rank : Scope → Rank → Rank → List Pre → Posts → Rank
ditto_rank scope hint prefix pre post =
    first_rank (pre_rank scope pre) (first_rank (post_rank scope post) (first_rank hint prefix))

-- the rank of a region, for a hint and the rank of the innermost prefix, each 0 where there is none
abbrev pub inner_rank : Scope → Rank → Rank → Inner → Rank
inner_rank scope hint prefix (Rexpr pre (NamedRegion name) post) =
    if is_index scope pre name post then Some 1 else option_map length
    (region_shape (kind_of scope name))
inner_rank scope hint prefix (Rexpr pre (Ditto at) post) =
    known_rank (ditto_rank scope hint prefix pre post)
inner_rank scope hint prefix (Dims dims) = at_most_three (dims_count dims)

-- ---- expressions

-- the rank of what a name stands for in an expression
abbrev pub value_rank : Option Kind → Rank
value_rank (Some (Config base)) = Some 0
value_rank (Some (Constant base)) = Some 0
value_rank (Some (Scalar base)) = Some 0
value_rank (Some (Array base shape)) = option_map length shape
value_rank _ = None

abbrev pub array_shape : Option Kind → Option Shape
array_shape (Some (Array base shape)) = shape
array_shape _ = None

abbrev pub array_rank : Option Kind → Rank
array_rank kind = option_map length (array_shape kind)

abbrev mutual
  -- The rank that the arrays and the regions of operators in an expression give it, or 0 where they
  -- give none. What stands in the operand of a full reduction gives none.
  pub own_rank : Scope → Rank → Expr → Rank
  own_rank scope prefix (Number at value) = Some 0
  own_rank scope prefix (Truth at value) = Some 0
  own_rank scope prefix (Coord at dimension) = Some 0
  own_rank scope prefix (Named at name) = value_rank (kind_of scope name)
  own_rank scope prefix (Shifted at name shift) = array_rank (kind_of scope name)
  own_rank scope prefix (Around at name shift) = array_rank (kind_of scope name)
  own_rank scope prefix (Remap at name indices) = own_ranks scope prefix indices
  own_rank scope prefix (Call at name actuals) = Some 0
  own_rank scope prefix (Paren at inside) = own_rank scope prefix inside
  own_rank scope prefix (Neg at operand) = own_rank scope prefix operand
  own_rank scope prefix (Not at operand) = own_rank scope prefix operand
  own_rank scope prefix (Abs at operand) = own_rank scope prefix operand
  own_rank scope prefix (Pair at op left right) =
      both_ranks (own_rank scope prefix left) (own_rank scope prefix right)
  own_rank scope prefix (Reduce at operator NoBracket operand) = Some 0
  own_rank scope prefix (Reduce at operator (Bracketed source) operand) =
      both_ranks (inner_rank scope (own_rank scope prefix operand) prefix source)
      (own_rank scope prefix operand)
  own_rank scope prefix (Scan at operator along operand) = own_rank scope prefix operand
  own_rank scope prefix (Flood at source operand) =
      both_ranks (inner_rank scope (own_rank scope prefix operand) prefix source)
      (own_rank scope prefix operand)

  pub own_ranks : Scope → Rank → Exprs → Rank
  own_ranks scope prefix NoExpr = Some 0
  own_ranks scope prefix (ThenExpr first rest) =
      both_ranks (own_rank scope prefix first) (own_ranks scope prefix rest)

-- A coordinate, a scan or a remap read stands in the expression: it takes the rank that the place
-- has, where its own arrays and regions give none.
abbrev pub is_open : Expr → Bool
is_open (Number at value) = false
is_open (Truth at value) = false
is_open (Coord at dimension) = true
is_open (Named at name) = false
is_open (Shifted at name shift) = false
is_open (Around at name shift) = false
is_open (Remap at name indices) = true
is_open (Call at name actuals) = false
is_open (Paren at inside) = is_open inside
is_open (Neg at operand) = is_open operand
is_open (Not at operand) = is_open operand
is_open (Abs at operand) = is_open operand
is_open (Pair at op left right) = is_open left || is_open right
is_open (Reduce at operator over operand) = false
is_open (Scan at operator along operand) = true
is_open (Flood at source operand) = false

-- the rank of an expression, for the rank that its place hands in, 0 where it hands none: its own,
-- else the one handed in where it takes one, else 0
abbrev pub placed_rank : Bool → Rank → Rank → Rank
placed_rank takes handed own = first_rank own (if takes then known_rank handed else Some 0)

abbrev pub rank_of : Scope → Rank → Rank → Expr → Rank
rank_of scope prefix handed expr = placed_rank (is_open expr) handed (own_rank scope prefix expr)

-- the rank of the operand of a full reduction: its own, else that of the innermost prefix
abbrev pub operand_rank : Scope → Rank → Expr → Rank
operand_rank scope prefix operand = placed_rank true prefix (own_rank scope prefix operand)

-- no rule gives the expression a rank
abbrev pub lacks_rank : Bool → Rank → Rank → Bool
lacks_rank takes handed own = if takes then is_zero (first_rank own handed) else false

-- ---- masks

abbrev pub mask_rank : Scope → Option Mask → Rank
mask_rank scope None = Some 0
mask_rank scope (Some mask) = array_rank (kind_of scope mask.name)

-- ---- ranks are at most 3

abbrev pub IsRank : Rank → Type 0
IsRank None = Unit {0}
IsRank (Some rank) = rank ≤ 3

-- that of a region, a direction or an array
abbrev pub HasRank : Kind → Type 0
HasRank (Region shape) = IsRank (option_map length shape)
HasRank (Direction rank) = IsRank rank
HasRank (Array base shape) = IsRank (option_map length shape)
HasRank _ = Unit {0}

pub record HasRanks (scope : Scope) : Type 0 where
  pub own : All (λ entry. HasRank entry.kind) scope.own
  pub globals : All (λ entry. HasRank entry.kind) scope.globals

-- ---- shapes and ranks that no fault leaves open

abbrev pub IsKnownKind : Kind → Type 0
IsKnownKind (Region shape) = IsSome shape
IsKnownKind (Direction rank) = IsSome rank
IsKnownKind (Array base shape) = IsSome shape
IsKnownKind _ = Unit {0}

pub record AreKnown (scope : Scope) : Type 0 where
  pub own : All (λ entry. IsKnownKind entry.kind) scope.own
  pub globals : All (λ entry. IsKnownKind entry.kind) scope.globals
