-- Where a statement is run, current regions are within the limit of regions, and so is the region of
-- the border that the nearest prefix is.
use Rattle.std.proofs.Common.{◌≡◌, ℕ, zero, suc, Bool, true, false, cond, ℤ, List, [], ◌∷◌, length}
use Rattle.std.proofs.Common.{Option, Some, None, refl, sym, ap, ◌∙◌, subst}
use Rattle.std.specs.Prelude.{IsSome}
use Rattle.zpl_region.specs.declared.regions.Region.{Region}
use Rattle.zpl_region.specs.Region.{IsRegion, IsWithinLimit, outside_of, inside_of, moved, strided}
use Rattle.zpl_region.specs.Tests.{is_within_limit}
use Rattle.zpl_region.proofs.HullLemmas.{has_steps}
use Rattle.zpl_region.proofs.TestLemmas.{is_within_limit_iff}
use Rattle.zpl_tree.specs.Syntax.{Name, Pre, NamedRegion, Ditto, Inner, Rexpr, Dims, Posts, NoPost, ThenPost, DimTexts, NoDim, ThenDim, One, Named, Prefix, Program}
use Rattle.zpl_names.specs.Kinds.{Rank}
use Rattle.zpl_names.specs.Ranks.{is_index, mask_rank}
use Rattle.zpl_names.specs.Shapes.{prefix_rank}
use Rattle.zpl_binding.specs.Outcome.{BindFault, UnknownConfig, ConfigType, TwiceSet, BadConstant, RegionLimit, DirectionLimit, Outcome, Gives, Fails, outcome_of, value_or}
use Rattle.zpl_binding.specs.Vectors.{three_components, dir_of}
use Rattle.zpl_binding.specs.Regions.{Known, region_over, limited, formed_by, behind, before, no_region, region_named, inner_of}
use Rattle.zpl_binding.specs.Settings.{Setting}
use Rattle.zpl_binding.specs.Declarations.{known_of}
use Rattle.zpl_binding.proofs.DeclarationLemmas.{known-keeps}
use Rattle.zpl_binding.proofs.LimitLemmas.{Holds, IsLimited, HasLimited, limited-holds, holds-push, holds-found, inner-holds}
use Rattle.zpl_meaning.specs.Computed as mean
use Rattle.zpl_meaning.specs.Computed.{Computed, computed_then}
use Rattle.zpl_meaning.specs.Store.{Store}
use Rattle.zpl_meaning.specs.Context.{Mask, Over, Currents, over_or, over_at, with_over, Edge, Place}
use Rattle.zpl_meaning.specs.Regions.{fault_trap, computed_of, dims_in, span_in, forms_in, name_in, inner_over, current_for, mask_in, over_in, edge_in}
use Rattle.zpl_meaning.specs.Proper.{HasCurrent, IsArrayRank}
use Rattle.served_places.specs.of_prefix_runs.Opens.{IsOpenedAs, Opens}
use Rattle.served_places.specs.of_prefix_runs.Under.{OpensPrefix, over_of, mean_under}
use Rattle.operator_runs.specs.of_border_runs.Bordered.{IsBorder}

-- ---- what is declared is within the limit

formed_holds : (form : List ℤ → Region → Region) (vector : Outcome (List ℤ))
    (region : Outcome Region) → Holds IsLimited (formed_by form vector region)
formed_holds form (Gives d) (Gives region) = limited-holds (form d region)
formed_holds form (Fails fault) (Gives region) = tt
formed_holds form vector (Fails fault) = tt

behind_holds : (known : Known) (posts : Posts) (region : Outcome Region) → Holds IsLimited region
    → Holds IsLimited (behind known region posts)
behind_holds known NoPost region h = h
behind_holds known (ThenPost stride dir rest) region h =
    let form = cond stride strided moved in
    let vector = dir_of known.values known.directions dir in
    behind_holds known rest (formed_by form vector region) (formed_holds form vector region)

before_holds : (known : Known) (pre : List Pre) (region : Outcome Region) → Holds IsLimited region
    → Holds IsLimited (before known pre region)
before_holds known [] region h = h
before_holds known (pre ∷ rest) region h =
    formed_holds (cond pre.outside outside_of inside_of)
    (outcome_of (three_components []) known.directions pre.dir.text) (before known rest region)

pub known_limited : (program : Program) (settings : List Setting)
    → HasLimited (known_of program settings)
known_limited program settings =
    known-keeps HasLimited settings (λ known config h. h) (λ known constant h. h)
    (λ known region h.
    holds-push IsLimited known.regions _ h
    (behind_holds known region.posts (inner_of known region.body)
    (inner-holds known region.body h))) (λ known direction h. h) tt program

-- ---- and so is what stands in brackets

abbrev Comes : Computed Region → Type 0
Comes (mean.Gives region) = IsLimited region
Comes (mean.Traps kind) = Unit {0}

fault_comes : (fault : BindFault) → Comes (fault_trap fault)
fault_comes UnknownConfig = tt
fault_comes ConfigType = tt
fault_comes TwiceSet = tt
fault_comes BadConstant = tt
fault_comes RegionLimit = tt
fault_comes DirectionLimit = tt

comes_of : (one : Outcome Region) → Holds IsLimited one → Comes (computed_of one)
comes_of (Gives region) h = h
comes_of (Fails fault) h = fault_comes fault

then_comes : {A : Type 0} (one : Computed A) (next : A → Computed Region)
    → ((value : A) → Comes (next value)) → Comes (computed_then one next)
then_comes (mean.Gives value) next h = h value
then_comes (mean.Traps kind) next h = tt

span_comes : (place : Place) (store : Store) (current : Region) (dims : DimTexts)
    → Comes (span_in place.environment store current dims)
span_comes place store current dims =
    then_comes (dims_in place.environment store current 1 dims)
    (λ all. computed_of (limited (region_over all)))
    (λ all. comes_of (limited (region_over all)) (limited-holds (region_over all)))

forms_come : (known : Known) (pre : List Pre) (post : Posts) (region : Outcome Region)
    → Holds IsLimited region → Comes (forms_in known pre post region)
forms_come known pre post region h =
    comes_of (before known pre (behind known region post))
    (before_holds known pre (behind known region post) (behind_holds known post region h))

inner_comes : (place : Place) (store : Store) (current : Region) (inner : Inner)
    → HasLimited place.setup.known → IsLimited current
    → Comes (inner_over place store current inner)
inner_comes place store current (Rexpr pre (NamedRegion name) post) h c =
    by (is_index place.scope pre name post)
  where
    by : (b : Bool) → Comes (name_in b place store current pre name post)
    by true = span_comes place store current (ThenDim (One (Named name.at name)) NoDim)
    by false =
        forms_come place.setup.known pre post (region_named place.setup.known name)
        (holds-found IsLimited no_region name.text refl place.setup.known.regions h)
inner_comes place store current (Rexpr pre (Ditto at) post) h c =
    forms_come place.setup.known pre post (Gives current) c
inner_comes place store current (Dims dims) h c = span_comes place store current dims

-- ---- where a statement is run

pub record IsBounded (region : Region) : Type 0 where
  pub is : IsRegion region
  pub three : length region.dims ≡ 3
  pub limited : IsLimited region

abbrev pub IsBoundedIf : Option Over → Type 0
IsBoundedIf None = Unit {0}
IsBoundedIf (Some over) = IsBounded over.region

pub record AreBounded (currents : Currents) : Type 0 where
  pub one : IsBoundedIf currents.one
  pub two : IsBoundedIf currents.two
  pub three : IsBoundedIf currents.three

abbrev pub IsEdgeOf : Option Edge → Region → Type 0
IsEdgeOf None border = Unit {0}
IsEdgeOf (Some edge) border = IsBorder (Some edge) border

-- the nearest prefix is no border, or the current region of its rank is that
abbrev pub IsEdgeAt : Option Edge → Currents → Rank → Type 0
IsEdgeAt None currents prefix = Unit {0}
IsEdgeAt (Some edge) currents prefix =
    HasCurrent currents prefix × IsBorder (Some edge) (over_at currents prefix).region

pub record IsBoundedAt (place : Place) : Type 0 where
  pub currents : AreBounded place.currents
  pub edge : IsEdgeAt place.edge place.currents place.prefix

within : (region : Region) → IsBounded region → IsWithinLimit region
within region h = (is_within_limit_iff region (has_steps region.dims h.is.dims)).0 h.limited

-- ---- current regions

over_limited : (o : Option Over) → IsBoundedIf o → IsLimited (over_or o).region
over_limited None h = refl
over_limited (Some over) h = h.limited

current_limited : (currents : Currents) (rank : Rank) → AreBounded currents
    → IsLimited (over_at currents rank).region
current_limited currents (Some (suc zero)) h = over_limited currents.one h.one
current_limited currents (Some (suc (suc zero))) h = over_limited currents.two h.two
current_limited currents (Some (suc (suc (suc zero)))) h = over_limited currents.three h.three
current_limited currents (Some zero) h = refl
current_limited currents (Some (suc (suc (suc (suc k))))) h = refl
current_limited currents None h = refl

over_bounded : (o : Option Over) → IsBoundedIf o → IsSome o → IsBounded (over_or o).region
over_bounded None h s = absurd (let no : false ≡ true = s in cc)
over_bounded (Some over) h s = h

current_bounded : (currents : Currents) (rank : Rank) → AreBounded currents
    → HasCurrent currents rank → IsBounded (over_at currents rank).region
current_bounded currents (Some (suc zero)) h s = over_bounded currents.one h.one s
current_bounded currents (Some (suc (suc zero))) h s = over_bounded currents.two h.two s
current_bounded currents (Some (suc (suc (suc zero)))) h s =
    over_bounded currents.three h.three s
current_bounded currents (Some zero) h s = absurd s
current_bounded currents (Some (suc (suc (suc (suc k))))) h s = absurd s
current_bounded currents None h s = absurd s

with_bounded : (currents : Currents) (rank : Rank) (over : Over) → AreBounded currents
    → IsBounded over.region → AreBounded (with_over currents rank over)
with_bounded currents (Some (suc zero)) over h b =
    record { one = b; two = h.two; three = h.three }
with_bounded currents (Some (suc (suc zero))) over h b =
    record { one = h.one; two = b; three = h.three }
with_bounded currents (Some (suc (suc (suc zero)))) over h b =
    record { one = h.one; two = h.two; three = b }
with_bounded currents (Some zero) over h b = h
with_bounded currents (Some (suc (suc (suc (suc k))))) over h b = h
with_bounded currents None over h b = h

-- the one that was set is there
set_at : (currents : Currents) (rank : Rank) (over : Over) → IsArrayRank rank
    → HasCurrent (with_over currents rank over) rank
    × (over_at (with_over currents rank over) rank ≡ over)
set_at currents (Some (suc zero)) over r = (refl, refl)
set_at currents (Some (suc (suc zero))) over r = (refl, refl)
set_at currents (Some (suc (suc (suc zero)))) over r = (refl, refl)
set_at currents (Some zero) over r = absurd r
set_at currents (Some (suc (suc (suc (suc k))))) over r = absurd r
set_at currents None over r = absurd r

-- ---- what a bracket gives

abbrev over_with : Option Mask → Region → Over
over_with mask region = record { region = region; mask = mask }

region_given : (one : Computed Region) (mask : Option Mask) (region : Region)
    → computed_then one (λ r. mean.Gives (over_with mask r)) ≡ mean.Gives (over_with mask region)
    → one ≡ mean.Gives region
region_given (mean.Gives r) mask region e =
    let same : over_with mask r ≡ over_with mask region = cc in
    ap (λ (o : Over). mean.Gives o.region) same
region_given (mean.Traps kind) mask region e = cc

no_fault : (fault : BindFault) (region : Region) → fault_trap fault ≡ mean.Gives region → ⊥
no_fault UnknownConfig region e = cc
no_fault ConfigType region e = cc
no_fault TwiceSet region e = cc
no_fault BadConstant region e = cc
no_fault RegionLimit region e = cc
no_fault DirectionLimit region e = cc

limited_is : (made region : Region) → computed_of (limited made) ≡ mean.Gives region
    → region ≡ made
limited_is made region = by (is_within_limit made)
  where
    by : (b : Bool)
        → computed_of (cond b (Gives made) (Fails RegionLimit)) ≡ mean.Gives region
        → region ≡ made
    by true e = let same : made ≡ region = cc in sym same
    by false e = let no : ⊥ = cc in absurd no

formed_is : (form : List ℤ → Region → Region) (vector : Outcome (List ℤ)) (base region : Region)
    → computed_of (formed_by form vector (Gives base)) ≡ mean.Gives region
    → region ≡ form (value_or (three_components []) vector) base
formed_is form (Gives d) base region e = limited_is (form d base) region e
formed_is form (Fails fault) base region e = absurd (no_fault fault region e)

-- ---- borders

module _ (place : Place) (store : Store) (rank : ℕ) (current region : Region)
    (bounded : HasCurrent place.currents (Some rank) → IsBounded current) where
  abbrev known : Known
  known = place.setup.known

  edge_from : (base made : Region) (v : List ℤ) → IsBounded base → made ≡ outside_of v base
      → IsEdgeOf (Some (record { shift = v; region = base })) made
  edge_from base made v b e = (b.is, b.three, within base b, e)

  named_edge : (name : Name) (pre : Pre) → HasLimited known → (given : Region)
      → region_named known name ≡ Gives given → IsRegion given → length given.dims ≡ 3
      → forms_in known (record pre { outside = true } ∷ []) NoPost (region_named known name)
      ≡ mean.Gives region
      → IsEdgeOf (edge_in known current
      (Rexpr (record pre { outside = true } ∷ []) (NamedRegion name) NoPost)) region
  named_edge name pre h given named is three e =
      let vector = outcome_of (three_components []) known.directions pre.dir.text in
      let limit : IsLimited given =
      subst (λ (o : Outcome Region). Holds IsLimited o) named
      (holds-found IsLimited no_region name.text refl known.regions h) in
      edge_from (value_or no_region (region_named known name)) region
      (value_or (three_components []) vector)
      (subst (λ (o : Outcome Region). IsBounded (value_or no_region o)) (sym named)
      (record { is = is; three = three; limited = limit }))
      (formed_is outside_of vector given region
      (subst (λ (o : Outcome Region). computed_of (formed_by outside_of vector o)
      ≡ mean.Gives region) named e)
      ∙ ap (λ (o : Outcome Region). outside_of (value_or (three_components []) vector)
      (value_or no_region o)) (sym named))

  edge_of : (inner : Inner) → HasLimited known → Opens place rank inner
      → inner_over place store current inner ≡ mean.Gives region
      → IsEdgeOf (edge_in known current inner) region
  edge_of (Dims dims) h o e = tt
  edge_of (Rexpr [] base post) h o e = tt
  edge_of (Rexpr (pre ∷ second ∷ more) base post) h o e = tt
  edge_of (Rexpr (pre ∷ []) base (ThenPost stride dir rest)) h o e = tt
  edge_of (Rexpr (pre ∷ []) (NamedRegion name) NoPost) h o e = by pre.outside e
    where
      by : (b : Bool)
          → forms_in known (record pre { outside = b } ∷ []) NoPost (region_named known name)
          ≡ mean.Gives region
          → IsEdgeOf (edge_in known current
          (Rexpr (record pre { outside = b } ∷ []) (NamedRegion name) NoPost)) region
      by true e = named_edge name pre h o.0.region o.0.named o.0.is o.0.three e
      by false e = tt
  edge_of (Rexpr (pre ∷ []) (Ditto at) NoPost) h o e = by pre.outside e
    where
      by : (b : Bool)
          → forms_in known (record pre { outside = b } ∷ []) NoPost (Gives current)
          ≡ mean.Gives region
          → IsEdgeOf (edge_in known current
          (Rexpr (record pre { outside = b } ∷ []) (Ditto at) NoPost)) region
      by true e =
          let vector = outcome_of (three_components []) known.directions pre.dir.text in
          edge_from current region (value_or (three_components []) vector) (bounded o.0)
          (formed_is outside_of vector current region e)
      by false e = tt

-- ---- behind a prefix

edge_at : (o : Option Edge) (currents : Currents) (rank : Rank) (over : Over) → IsArrayRank rank
    → IsEdgeOf o over.region → IsEdgeAt o (with_over currents rank over) rank
edge_at None currents rank over r h = tt
edge_at (Some edge) currents rank over r h =
    let set = set_at currents rank over r in (
      set.0,
      subst (λ (x : Over). IsBorder (Some edge) x.region) (sym set.1) h,
    )

pub bounded_under : (place : Place) (prefix : Prefix) (region : Region) (store : Store)
    (flood : List Bool) → HasLimited place.setup.known → IsBoundedAt place
    → OpensPrefix prefix place
    → over_in place store prefix ≡ mean.Gives (over_of place prefix region)
    → IsOpenedAs flood region → IsBoundedAt (mean_under place prefix region)
bounded_under place prefix region store flood known at opens meant told =
    let rank = prefix_rank place.scope place.prefix prefix in
    let current = current_for place (mask_rank place.scope prefix.mask) prefix.region in
    let over = over_of place prefix region in
    let given : inner_over place store current prefix.region ≡ mean.Gives region =
    region_given (inner_over place store current prefix.region)
    (mask_in place.environment prefix.mask) region meant in
    let limited : IsLimited region =
    subst Comes given
    (inner_comes place store current prefix.region known
    (current_limited place.currents rank at.currents)) in
    record {
      currents = with_bounded place.currents rank over at.currents
          (record { is = told.is; three = told.three; limited = limited });
      edge = edge_at (edge_in place.setup.known current prefix.region) place.currents rank over
          (subst IsArrayRank (sym opens.ranked) opens.is_rank)
          (edge_of place store opens.rank current region
          (λ has. subst (λ (k : Rank). IsBounded (over_at place.currents k).region)
          (sym opens.ranked) (current_bounded place.currents (Some opens.rank) at.currents has))
          prefix.region known opens.opens given);
    }
