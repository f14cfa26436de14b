-- The regions that stand in statements. Their bounds are computed from the store, in text order,
-- and all bounds of a bracket before its limit is tested; a form that goes past the limit traps
-- too.
use Rattle.std.specs.Prelude.{ℕ, suc, Bool, true, false, ℤ, List, [], ◌∷◌, Option, Some}
use Rattle.std.specs.Prelude.{None}
use Rattle.zpl_binding.specs.of_zpl_nums.declared.ends.TrapKind.TheVariants as trap
use Rattle.zpl_binding.specs.of_zpl_region.declared.dims.Dim.{Dim}
use Rattle.zpl_binding.specs.of_zpl_region.declared.dims.Dim.TheVariants as dim
use Rattle.zpl_binding.specs.of_zpl_region.declared.regions.Region.{Region}
use Rattle.zpl_binding.specs.of_zpl_region.Region.{dim_at}
use Rattle.zpl_binding.specs.of_zpl_region.Hull.{all_from}
use Rattle.zpl_binding.specs.of_zpl_tree.Syntax.{Name, Pre, RegionBase, NamedRegion, Ditto, Named, Dir, NamedDir}
use Rattle.zpl_binding.specs.of_zpl_tree.Syntax.{Inner, Rexpr, Dims, Posts, NoPost, DimText, Blank, Star, One, Span}
use Rattle.zpl_binding.specs.of_zpl_tree.Syntax.{DimTexts, NoDim, ThenDim, Mask as MaskText, Prefix}
use Rattle.zpl_binding.specs.of_zpl_names.Kinds.{Rank}
use Rattle.zpl_binding.specs.of_zpl_names.Ranks.{inner_rank, is_index, mask_rank}
use Rattle.zpl_binding.specs.of_zpl_names.Shapes.{prefix_rank}
use Rattle.zpl_binding.specs.Outcome.{BindFault, BadConstant, Outcome, value_or}
use Rattle.zpl_binding.specs.Outcome as bound
use Rattle.zpl_binding.specs.Vectors.{three_components, dir_of}
use Rattle.zpl_binding.specs.Regions.{Known, region_over, limited, behind, before, no_region}
use Rattle.zpl_binding.specs.Regions.{region_named}
use Rattle.zpl_meaning.specs.Computed.{Computed, Gives, Traps, computed_then, both_then}
use Rattle.zpl_meaning.specs.Store.{Thing, ArrayAt, Environment, Store, thing_of}
use Rattle.zpl_meaning.specs.Value.{value_of}
use Rattle.zpl_meaning.specs.Context.{Mask, Over, over_at, with_over, Edge, Place}

-- ---- what was computed before the run

-- A zero divisor is one here too, and any other fault is the limit of regions. Of an accepted
-- program with accepted settings the limit alone comes.
abbrev pub fault_trap : {A : Type 0} → BindFault → Computed A
fault_trap BadConstant = Traps trap.DivideByZero
fault_trap fault = Traps trap.RegionLimit

abbrev pub computed_of : {A : Type 0} → Outcome A → Computed A
computed_of (bound.Gives value) = Gives value
computed_of (bound.Fails fault) = fault_trap fault

-- a direction's vector, or one that stands in its place
abbrev pub vector_in : Known → Dir → List ℤ
vector_in known dir = value_or (three_components []) (dir_of known.values known.directions dir)

-- ---- brackets

-- a blank is the same dimension of the current region
abbrev pub dim_in : Environment → Store → Dim → DimText → Computed Dim
dim_in environment store current (Blank at) = Gives current
dim_in environment store current (Star at) = Gives dim.Flood
dim_in environment store current (One index) =
    computed_then (value_of environment store index) (λ value. Gives (all_from value value))
dim_in environment store current (Span low high) =
    both_then (value_of environment store low) (value_of environment store high) (λ first last.
    Gives (all_from first last))

-- those from the k-th dimension on, counted from 1
abbrev pub dims_in : Environment → Store → Region → ℕ → DimTexts → Computed (List Dim)
dims_in environment store current k NoDim = Gives []
dims_in environment store current k (ThenDim first rest) =
    both_then (dim_in environment store (dim_at current k) first)
    (dims_in environment store current (suc k) rest) (λ dim dims. Gives (dim ∷ dims))

abbrev pub span_in : Environment → Store → Region → DimTexts → Computed Region
span_in environment store current dims =
    computed_then (dims_in environment store current 1 dims) (λ all.
    computed_of (limited (region_over all)))

-- an index of rank 1 that is a name alone
abbrev pub index_in : Environment → Store → Region → Name → Computed Region
index_in environment store current name =
    span_in environment store current (ThenDim (One (Named name.at name)) NoDim)

-- `d of`, `d in`, `at d` and `by d` around a region
abbrev pub forms_in : Known → List Pre → Posts → Outcome Region → Computed Region
forms_in known pre post region = computed_of (before known pre (behind known region post))

abbrev pub name_in : Bool → Place → Store → Region → List Pre → Name → Posts → Computed Region
name_in true place store current pre name post =
    index_in place.environment store current name
name_in false place store current pre name post =
    let known = place.setup.known in forms_in known pre post (region_named known name)

-- What stands between brackets, where this region is the current one of its rank.
abbrev pub inner_over : Place → Store → Region → Inner → Computed Region
inner_over place store current (Rexpr pre (NamedRegion name) post) =
    name_in (is_index place.scope pre name post) place store current pre name post
inner_over place store current (Rexpr pre (Ditto at) post) =
    forms_in place.setup.known pre post (bound.Gives current)
inner_over place store current (Dims dims) = span_in place.environment store current dims

-- the current region of the rank that the bracket has, for a hint of a mask or an operand
abbrev pub current_for : Place → Rank → Inner → Region
current_for place hint inner =
    (over_at place.currents (inner_rank place.scope hint place.prefix inner)).region

abbrev pub region_in : Place → Store → Rank → Inner → Computed Region
region_in place store hint inner = inner_over place store (current_for place hint inner) inner

-- ---- prefixes

abbrev pub mask_thing : Bool → Option Thing → Option Mask
mask_thing without (Some (ArrayAt array home)) = Some (record { array = array; without = without })
mask_thing without thing = None

abbrev pub mask_in : Environment → Option MaskText → Option Mask
mask_in environment None = None
mask_in environment (Some mask) = mask_thing mask.without (thing_of environment mask.name.text)

-- the region and the mask of a prefix
abbrev pub over_in : Place → Store → Prefix → Computed Over
over_in place store prefix =
    computed_then (region_in place store (mask_rank place.scope prefix.mask) prefix.region)
    (λ region. Gives (record { region = region; mask = mask_in place.environment prefix.mask }))

abbrev pub base_in : Known → Region → RegionBase → Region
base_in known current (NamedRegion name) = value_or no_region (region_named known name)
base_in known current (Ditto at) = current

-- the border that a prefix is, where it is written directly as `d of R` or `d of "`
abbrev pub edge_in : Known → Region → Inner → Option Edge
edge_in known current (Rexpr (pre ∷ []) base NoPost) = by pre.outside
  where
    by : Bool → Option Edge
    by true = Some (record {
      shift = vector_in known (NamedDir pre.dir);
      region = base_in known current base;
    })
    by false = None
edge_in known current inner = None

-- what is in reach under a prefix, which has this region and mask
abbrev pub under_prefix : Place → Prefix → Over → Place
under_prefix place prefix over =
    let rank = prefix_rank place.scope place.prefix prefix in
    let current = current_for place (mask_rank place.scope prefix.mask) prefix.region in
    record place {
      prefix = rank;
      currents = with_over place.currents rank over;
      edge = edge_in place.setup.known current prefix.region;
    }

-- what is in reach of the operand of an operator over a region: that is the current one of its rank
-- there, without a mask
abbrev pub under_source : Place → Rank → Region → Place
under_source place rank source =
    record place {
      currents = with_over place.currents rank (record { region = source; mask = None });
    }
