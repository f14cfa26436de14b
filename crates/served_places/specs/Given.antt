-- What is known of brackets in accepted programs: declared regions and directions have no fault,
-- and numbers are of 64 bits.
use Rattle.std.specs.Prelude.{◌≡◌, ℕ, [], Some}
use Rattle.zpl_nums.specs.Integer.{IsInteger}
use Rattle.zpl_tree.specs.Syntax.{Name, Expr, Number, Truth, Coord, Named, Shifted, Around, Remap, Call, Paren, Neg, Not, Abs, Pair, Reduce, Scan, Flood, Inner, Rexpr, Dims, DimText, Blank, Star, One, Span, DimTexts, NoDim, ThenDim}
use Rattle.zpl_names.specs.Kinds.{Shape}
use Rattle.zpl_names.specs.Scope.{Scope, kind_of}
use Rattle.zpl_names.specs.Ranks.{direction_rank, region_shape}
use Rattle.zpl_binding.specs.Outcome.{outcome_of}
use Rattle.zpl_binding.specs.Vectors.{three_components}
use Rattle.zpl_binding.specs.Regions.{Known}
use Rattle.prefix_runs.specs.of_zpl_lowering.Where.{flood_of}
use Rattle.prefix_runs.specs.Opens.{IsGiven, IsGivenRegion, AreGivenPosts}

-- Declared regions are in their slots and have the shapes of their texts, and declared directions
-- have vectors.
pub record KnowsGiven (known : Known) (scope : Scope) : Type 0 where
  pub regions : (name : Name) (shape : Shape) →
      region_shape (kind_of scope name) ≡ Some shape →
      (given : IsGivenRegion known name) × (flood_of given.region ≡ shape)
  pub directions : (name : Name) (rank : ℕ) →
      direction_rank (kind_of scope name) ≡ Some rank →
      IsGiven (outcome_of (three_components []) known.directions name.text)

-- numbers of 64 bits
abbrev pub HasSmall : Expr → Type 0
HasSmall (Number at value) = IsInteger value
HasSmall (Paren at inside) = HasSmall inside
HasSmall (Neg at operand) = HasSmall operand
HasSmall (Not at operand) = HasSmall operand
HasSmall (Abs at operand) = HasSmall operand
HasSmall (Pair at op left right) = HasSmall left × HasSmall right
HasSmall (Truth at value) = Unit {0}
HasSmall (Coord at k) = Unit {0}
HasSmall (Named at name) = Unit {0}
HasSmall (Shifted at name shift) = Unit {0}
HasSmall (Around at name shift) = Unit {0}
HasSmall (Remap at name indices) = Unit {0}
HasSmall (Call at name actuals) = Unit {0}
HasSmall (Reduce at operator over operand) = Unit {0}
HasSmall (Scan at operator along operand) = Unit {0}
HasSmall (Flood at source operand) = Unit {0}

abbrev pub HasSmallDim : DimText → Type 0
HasSmallDim (Blank at) = Unit {0}
HasSmallDim (Star at) = Unit {0}
HasSmallDim (One index) = HasSmall index
HasSmallDim (Span low high) = HasSmall low × HasSmall high

abbrev pub HaveSmallDims : DimTexts → Type 0
HaveSmallDims NoDim = Unit {0}
HaveSmallDims (ThenDim first rest) = HasSmallDim first × HaveSmallDims rest

-- bounds are such numbers, and the vectors that stand in the bracket have no fault
abbrev pub IsSound : Known → Inner → Type 0
IsSound known (Rexpr pre base post) = AreGivenPosts known post
IsSound known (Dims dims) = HaveSmallDims dims
