-- What is asked of a region that stands in brackets, where a statement under it is run.
use Rattle.std.specs.Prelude.{◌≡◌, ℕ, ◌≤◌, Bool, true, false, List, [], ◌∷◌, length, Some, slice_get}
use Rattle.zpl_region.specs.declared.regions.Region.{Region}
use Rattle.zpl_region.specs.Region.{IsRegion}
use Rattle.zpl_tree.specs.Syntax.{Name, Pre, NamedRegion, Ditto, Named, Inner, Rexpr, Dims, Posts, NoPost, ThenPost, DimText, Blank, Star, One, Span, DimTexts, NoDim, ThenDim}
use Rattle.zpl_names.specs.Kinds.{Rank}
use Rattle.zpl_names.specs.Ranks.{dims_count, is_index}
use Rattle.zpl_binding.specs.Outcome.{Outcome, Gives, Fails, Computed, outcome_of}
use Rattle.zpl_binding.specs.Vectors.{dir_of, three_components}
use Rattle.zpl_binding.specs.Regions.{Known, region_named}
use Rattle.array_runs.specs.of_zpl_meaning.Context.{Place}
use Rattle.array_runs.specs.of_zpl_meaning.Proper.{HasCurrent}
use Rattle.array_runs.specs.of_zpl_lowering.Where.{flood_of}
use Rattle.array_runs.specs.of_zpl_lowering.Bracket.{region_slot}
use Rattle.array_runs.specs.of_lowering_runs.Scalars.{IsScalarAt}

-- ---- regions

-- a region whose flood dimensions are known before the run
pub record IsOpenedAs (flood : List Bool) (region : Region) : Type 0 where
  pub is : IsRegion region
  pub three : length region.dims ≡ 3
  pub ranked : region.rank ≡ length flood
  pub flood_is : flood_of region ≡ flood

-- ---- what was computed before the run

-- it has no fault
abbrev pub IsGiven : {A : Type 0} → Outcome A → Type 0
IsGiven (Gives value) = Unit {0}
IsGiven (Fails fault) = ⊥

-- directions before a region and behind it
abbrev pub AreGivenPres : Known → List Pre → Type 0
AreGivenPres known [] = Unit {0}
AreGivenPres known (pre ∷ rest) =
    IsGiven (outcome_of (three_components []) known.directions pre.dir.text)
    × AreGivenPres known rest

abbrev pub AreGivenPosts : Known → Posts → Type 0
AreGivenPosts known NoPost = Unit {0}
AreGivenPosts known (ThenPost stride dir rest) =
    IsGiven (dir_of known.values known.directions dir) × AreGivenPosts known rest

-- A declared region: the one in the slot of its name.
pub record IsGivenRegion (known : Known) (name : Name) : Type 0 where
  pub region : Region
  pub one : Computed Region
  pub in_slot : slice_get known.regions (region_slot known name) ≡ Some one
  pub outcome : one.outcome ≡ Gives region
  pub named : region_named known name ≡ Gives region
  pub is : IsRegion region
  pub three : length region.dims ≡ 3

-- ---- what stands between brackets

-- bounds are expressions of scalars, and a blank has a current region
abbrev pub OpensDim : Place → Rank → DimText → Type 0
OpensDim place rank (Blank at) = HasCurrent place.currents rank
OpensDim place rank (Star at) = Unit {0}
OpensDim place rank (One index) = IsScalarAt place index
OpensDim place rank (Span low high) = IsScalarAt place low × IsScalarAt place high

abbrev pub OpenDims : Place → Rank → DimTexts → Type 0
OpenDims place rank NoDim = Unit {0}
OpenDims place rank (ThenDim first rest) = OpensDim place rank first × OpenDims place rank rest

-- an index, which has rank 1; or a declared region of the rank
abbrev pub OpensName : Bool → Place → ℕ → List Pre → Name → Posts → Type 0
OpensName true place rank pre name post = (1 ≡ rank) × IsScalarAt place (Named name.at name)
OpensName false place rank pre name post =
    (given : IsGivenRegion place.setup.known name)
    × ((given.region.rank ≡ rank) × AreGivenPres place.setup.known pre
    × AreGivenPosts place.setup.known post)

-- of a rank
abbrev pub Opens : Place → ℕ → Inner → Type 0
Opens place rank (Rexpr pre (NamedRegion name) post) =
    OpensName (is_index place.scope pre name post) place rank pre name post
Opens place rank (Rexpr pre (Ditto at) post) =
    HasCurrent place.currents (Some rank) × AreGivenPres place.setup.known pre
    × AreGivenPosts place.setup.known post
Opens place rank (Dims dims) =
    (dims_count dims ≡ rank) × (1 ≤ rank) × (rank ≤ 3) × OpenDims place (Some rank) dims
