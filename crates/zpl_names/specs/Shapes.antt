-- The current regions, as far as the text tells them: whether there is one, which of its dimensions
-- are flood, and whether it has a mask.
use Rattle.std.specs.Prelude.{ℕ, zero, suc, Bool, true, false, if◌then◌else◌, [], ◌∷◌, slice_get, Option, Some, None, is_some}
use Rattle.zpl_tree.specs.Syntax.{NamedRegion, Ditto, Inner, Rexpr, Dims, Bracket, NoBracket, Bracketed, DimText, Blank, Star, One, Span, DimTexts, NoDim, ThenDim, Base, Prefix}
use Rattle.zpl_names.specs.Kinds.{Shape, Rank, Kind, Scalar, Array}
use Rattle.zpl_names.specs.Scope.{Scope, kind_of}
use Rattle.zpl_names.specs.Ranks.{inner_rank, is_index, region_shape, mask_rank}

-- The current region of one rank: there is none, or it isn't known which, or it has a shape, and a
-- mask where it is masked.
pub data Current : Type 0 where
  Absent : Current
  Unknown : Current
  Over : (shape : Shape) (masked : Bool) → Current

-- one for each rank
pub record Shapes : Type 0 where
  pub one : Current
  pub two : Current
  pub three : Current

abbrev pub same_for_all : Current → Shapes
same_for_all current = record { one = current; two = current; three = current }

-- as the entry procedure begins, and in declarations and vectors
abbrev pub no_shapes : Shapes
no_shapes = same_for_all Absent

-- where only the text of a procedure is judged, and not how it is called
abbrev pub unknown_shapes : Shapes
unknown_shapes = same_for_all Unknown

abbrev pub current_at : Shapes → ℕ → Current
current_at shapes (suc zero) = shapes.one
current_at shapes (suc (suc zero)) = shapes.two
current_at shapes (suc (suc (suc zero))) = shapes.three
current_at shapes _ = Unknown

-- that of a rank; where the rank is left open, it isn't known
abbrev pub current_of : Shapes → Rank → Current
current_of shapes None = Unknown
current_of shapes (Some rank) = current_at shapes rank

-- with another one of a rank; where the rank is left open, no rank's is known any more
abbrev pub with_current : Shapes → Rank → Current → Shapes
with_current shapes (Some (suc zero)) current = record shapes { one = current }
with_current shapes (Some (suc (suc zero))) current = record shapes { two = current }
with_current shapes (Some (suc (suc (suc zero)))) current = record shapes { three = current }
with_current shapes _ current = unknown_shapes

abbrev pub shape_of_current : Current → Option Shape
shape_of_current (Over shape masked) = Some shape
shape_of_current Absent = None
shape_of_current Unknown = None

-- ---- the shape of a region

-- the k-th dimension of the current region, counted from 0
abbrev pub dim_of_current : Current → ℕ → Option Bool
dim_of_current (Over shape masked) k = slice_get shape k
dim_of_current Absent k = None
dim_of_current Unknown k = None

-- whether the k-th dimension of a region is flood; a blank is that of the current region
abbrev pub dim_shape : Current → ℕ → DimText → Option Bool
dim_shape current k (Blank at) = dim_of_current current k
dim_shape current k (Star at) = Some true
dim_shape current k (One index) = Some false
dim_shape current k (Span low high) = Some false

abbrev pub with_dim : Option Bool → Option Shape → Option Shape
with_dim (Some flood) (Some shape) = Some (flood ∷ shape)
with_dim _ _ = None

abbrev pub dims_shape : Current → ℕ → DimTexts → Option Shape
dims_shape current k NoDim = Some []
dims_shape current k (ThenDim first rest) =
    with_dim (dim_shape current k first) (dims_shape current (suc k) rest)

-- A flood dimension stays flood under `of`, `in`, `at` and `by`.
abbrev pub shape_within : Scope → Current → Inner → Option Shape
shape_within scope current (Rexpr pre (NamedRegion name) post) =
    if is_index scope pre name post then Some (false ∷ []) else region_shape (kind_of scope name)
shape_within scope current (Rexpr pre (Ditto at) post) = shape_of_current current
shape_within scope current (Dims dims) = dims_shape current 0 dims

-- the shape of a region of a rank, or none where it isn't known
abbrev pub inner_shape : Scope → Shapes → Rank → Inner → Option Shape
inner_shape scope shapes None inner = None
inner_shape scope shapes (Some rank) inner = shape_within scope (current_at shapes rank) inner

abbrev pub current_over : Option Shape → Bool → Current
current_over None masked = Unknown
current_over (Some shape) masked = Over shape masked

-- ---- declared shapes: no region is current, and no prefix is near

abbrev pub declared_shape : Scope → Inner → Option Shape
declared_shape scope inner =
    inner_shape scope no_shapes (inner_rank scope (Some 0) (Some 0) inner) inner

-- a variable is an array where it has a shape
abbrev pub variable_kind : Scope → Bracket → Base → Kind
variable_kind scope NoBracket base = Scalar base
variable_kind scope (Bracketed inner) base = Array base (declared_shape scope inner)

-- ---- prefixes

abbrev pub prefix_rank : Scope → Rank → Prefix → Rank
prefix_rank scope near prefix = inner_rank scope (mask_rank scope prefix.mask) near prefix.region

-- the current regions under a prefix of a rank: without a mask it removes that of its rank
abbrev pub shapes_under : Scope → Shapes → Rank → Prefix → Shapes
shapes_under scope shapes rank prefix =
    with_current shapes rank (current_over (inner_shape scope shapes rank prefix.region)
    (is_some prefix.mask))
