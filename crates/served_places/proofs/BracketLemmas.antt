-- The flood dimensions of a bracket's slot are those that the text tells.
use Rattle.std.proofs.Common.{◌≡◌, refl, sym, ◌∙◌, ap, subst, arith, ℕ, zero, suc, ◌≤◌, Bool, true}
use Rattle.std.proofs.Common.{false, List, [], ◌∷◌, length, map, Option, Some, None}
use Rattle.std.proofs.Common.{option_map, ℤ}
use Rattle.std.specs.Prelude.{get_or, slice_get, option_and_then, if◌then◌else◌}
use Rattle.zpl_region.specs.declared.dims.Dim.{Dim}
use Rattle.zpl_region.specs.declared.dims.Dim.TheVariants as dim
use Rattle.zpl_region.specs.declared.regions.Region.{Region}
use Rattle.zpl_region.specs.Hull.{all_from}
use Rattle.zpl_region.specs.Tests.{is_within_limit}
use Rattle.zpl_tree.specs.Syntax.{Name, Pre, NamedRegion, Ditto, Named, Inner, Rexpr, Dims, Posts, DimText, Blank, Star, One, Span, DimTexts, NoDim, ThenDim}
use Rattle.zpl_names.specs.Kinds.{Shape}
use Rattle.zpl_names.specs.Scope.{kind_of}
use Rattle.zpl_names.specs.Ranks.{dims_count, is_index, region_shape}
use Rattle.zpl_names.specs.Shapes.{Current, Absent, Unknown, Over, shape_of_current, dim_of_current, dim_shape, with_dim, dims_shape, shape_within}
use Rattle.zpl_binding.specs.Outcome as bound
use Rattle.zpl_binding.specs.Outcome.{Outcome, value_or}
use Rattle.zpl_binding.specs.Regions.{no_region, region_named, region_over, limited, behind, before}
use Rattle.zpl_meaning.specs.Computed as mean
use Rattle.zpl_meaning.specs.Store.{Environment}
use Rattle.zpl_meaning.specs.Context.{Currents, Edge, Place}
use Rattle.zpl_meaning.specs.Regions.{computed_of}
use Rattle.flat_form.specs.Row as row
use Rattle.flat_form.specs.Row.{Row}
use Rattle.node_form.specs.declared.instructions.Instr.TheVariants as instr
use Rattle.prefix_runs.specs.of_zpl_lowering.Where.{Slotted, Where, slotted_or, is_flood, flood_of}
use Rattle.prefix_runs.specs.of_zpl_lowering.Statement.{prefix_opened}
use Rattle.prefix_runs.specs.of_zpl_lowering.Bracket as low
use Rattle.prefix_runs.specs.of_zpl_lowering.Bracket.{Opened, forms_of, constant_of, constant_dim, constant_dims, constant_span, constant_name, constant_region, within, dim_flood, dims_flood, named_region, name_opened, computed, one_row, fixed_or, bracket}
use Rattle.prefix_runs.specs.Opens.{IsOpenedAs, IsGivenRegion, OpensName, Opens}
use Rattle.prefix_runs.proofs.ShapeLemmas.{over_front, opened_itself}
use Rattle.prefix_runs.proofs.ShapedLemmas.{shaped, forms_are, Told, shaped_told}
use Rattle.prefix_runs.proofs.FillLemmas.{formed_flood}
use Rattle.served_places.specs.Told.{IsSlotTold, place_of}
use Rattle.served_places.specs.Given.{KnowsGiven}

-- ---- the current region

pub record IsCurrentTold (current : Current) (slotted : Slotted) : Type 0 where
  pub shape : (shape : Shape) → shape_of_current current ≡ Some shape → slotted.flood ≡ shape
  pub dim : (k : ℕ) (b : Bool) → dim_of_current current k ≡ Some b
      → get_or slotted.flood k false ≡ b

get_some : (bs : List Bool) (k : ℕ) (b : Bool) → slice_get bs k ≡ Some b → get_or bs k false ≡ b
get_some [] zero b e = cc
get_some [] (suc k) b e = cc
get_some (c ∷ bs) zero b e = cc
get_some (c ∷ bs) (suc k) b e = get_some bs k b e

pub slot_current : (rank : ℕ) (current : Current) (o : Option Slotted) → IsSlotTold rank current o
    → IsCurrentTold current (slotted_or o)
slot_current rank Absent o h = record { shape = λ s e. cc; dim = λ k b e. cc }
slot_current rank Unknown o h = absurd h
slot_current rank (Over shape masked) None h = absurd h
slot_current rank (Over shape masked) (Some slotted) h = record {
  shape = λ s e. h.1 ∙ same s e;
  dim = λ k b e. ap (λ (bs : List Bool). get_or bs k false) h.1 ∙ get_some shape k b e;
}
  where
    same : (s : Shape) → Some shape ≡ Some s → shape ≡ s
    same s e = cc

-- ---- bounds

module _ (current : Current) (slotted : Slotted) (told : IsCurrentTold current slotted) where
  dim_told : (k : ℕ) (text : DimText) (b : Bool) → dim_shape current k text ≡ Some b
      → dim_flood slotted k text ≡ b
  dim_told k (Blank at) b e = told.dim k b e
  dim_told k (Star at) b e = cc
  dim_told k (One index) b e = cc
  dim_told k (Span low high) b e = cc

  dims_told : (k : ℕ) (texts : DimTexts) (shape : Shape) → dims_shape current k texts ≡ Some shape
      → dims_flood slotted k texts ≡ shape
  dims_told k NoDim shape e = cc
  dims_told k (ThenDim first rest) shape e =
      by (dim_shape current k first) (dims_shape current (suc k) rest)
      (λ b q. dim_told k first b q) (λ s q. dims_told (suc k) rest s q) e
    where
      by : (o : Option Bool) (os : Option Shape)
          → ((b : Bool) → o ≡ Some b → dim_flood slotted k first ≡ b)
          → ((s : Shape) → os ≡ Some s → dims_flood slotted (suc k) rest ≡ s)
          → with_dim o os ≡ Some shape
          → dim_flood slotted k first ∷ dims_flood slotted (suc k) rest ≡ shape
      by (Some b) (Some s) f g e =
          let same : b ∷ s ≡ shape = cc in
          ap (λ c. c ∷ dims_flood slotted (suc k) rest) (f b refl)
          ∙ ap (λ cs. b ∷ cs) (g s refl) ∙ same
      by (Some b) None f g e = cc
      by None os f g e = cc

-- ---- bounds that are known before the run

module _ (environment : Environment) (slotted : Slotted) where
  both_floods : (one other : Option ℤ) (d : Dim)
      → low.both one other (λ a b. Some (all_from a b)) ≡ Some d → is_flood d ≡ false
  both_floods None other d e = cc
  both_floods (Some a) None d e = cc
  both_floods (Some a) (Some b) d e =
      let same : all_from a b ≡ d = cc in ap is_flood (sym same)

  one_floods : (o : Option ℤ) (d : Dim) → option_map (λ v. all_from v v) o ≡ Some d
      → is_flood d ≡ false
  one_floods None d e = cc
  one_floods (Some v) d e = let same : all_from v v ≡ d = cc in ap is_flood (sym same)

  constant_flood : (k : ℕ) (text : DimText) (d : Dim) → constant_dim environment text ≡ Some d
      → is_flood d ≡ dim_flood slotted k text
  constant_flood k (Blank at) d e = cc
  constant_flood k (Star at) d e =
      let same : dim.Flood ≡ d = cc in
      ap is_flood (sym same)
  constant_flood k (One index) d e = one_floods (constant_of environment index) d e
  constant_flood k (Span low high) d e =
      both_floods (constant_of environment low) (constant_of environment high) d e

  constant_floods : (k : ℕ) (texts : DimTexts) (dims : List Dim)
      → constant_dims environment texts ≡ Some dims
      → (map is_flood dims ≡ dims_flood slotted k texts) × (length dims ≡ dims_count texts)
  constant_floods k NoDim dims e =
      let same : [] ≡ dims = cc in
      subst (λ (ds : List Dim). (map is_flood ds ≡ []) × (length ds ≡ 0)) same (refl, refl)
  constant_floods k (ThenDim first rest) dims e =
      by (constant_dim environment first) (constant_dims environment rest)
      (λ d q. constant_flood k first d q) (λ ds q. constant_floods (suc k) rest ds q) e
    where
      by : (o : Option Dim) (os : Option (List Dim))
          → ((d : Dim) → o ≡ Some d → is_flood d ≡ dim_flood slotted k first)
          → ((ds : List Dim) → os ≡ Some ds
          → (map is_flood ds ≡ dims_flood slotted (suc k) rest) × (length ds ≡ dims_count rest))
          → option_and_then (λ dim. option_map (λ dims. dim ∷ dims) os) o ≡ Some dims
          → (map is_flood dims ≡ dim_flood slotted k first ∷ dims_flood slotted (suc k) rest)
          × (length dims ≡ suc (dims_count rest))
      by None os f g e = absurd (let no : ⊥ = cc in no)
      by (Some d) None f g e = absurd (let no : ⊥ = cc in no)
      by (Some d) (Some ds) f g e =
          let same : d ∷ ds ≡ dims = cc in
          let r = g ds refl in
          subst (λ (xs : List Dim).
          (map is_flood xs ≡ dim_flood slotted k first ∷ dims_flood slotted (suc k) rest)
          × (length xs ≡ suc (dims_count rest))) same (
            ap (λ b. b ∷ map is_flood ds) (f d refl)
                ∙ ap (λ bs. dim_flood slotted k first ∷ bs) r.0,
            ap suc r.1,
          )

  within_region : (outcome : Outcome Region) (region : Region) → within outcome ≡ Some region
      → outcome ≡ bound.Gives region
  within_region (bound.Gives one) region e =
      let same : one ≡ region = cc in ap (λ r. bound.Gives r) same
  within_region (bound.Fails fault) region e = cc

  limited_region : (one region : Region) → limited one ≡ bound.Gives region → one ≡ region
  limited_region one region e = by (is_within_limit one) e
    where
      by : (b : Bool)
          → (if b then bound.Gives one else bound.Fails bound.RegionLimit) ≡ bound.Gives region
          → one ≡ region
      by true e = cc
      by false e = cc

  span_flood : (texts : DimTexts) (region : Region) → dims_count texts ≤ 3
      → constant_span environment texts ≡ Some region
      → flood_of region ≡ dims_flood slotted 0 texts
  span_flood texts region few e =
      by (constant_dims environment texts) (λ ds q. constant_floods 0 texts ds q) e
    where
      by : (o : Option (List Dim))
          → ((ds : List Dim) → o ≡ Some ds
          → (map is_flood ds ≡ dims_flood slotted 0 texts) × (length ds ≡ dims_count texts))
          → option_and_then (λ all. within (limited (region_over all))) o ≡ Some region
          → flood_of region ≡ dims_flood slotted 0 texts
      by None f e = cc
      by (Some ds) f e =
          let r = f ds refl in
          let same = limited_region (region_over ds) region
          (within_region (limited (region_over ds)) region e) in
          ap flood_of (sym same)
          ∙ ap (map is_flood) (over_front 3 ds (omega (arith, few, r.1)))
          ∙ r.0

-- ---- brackets

module _ (w : Where) (environment : Environment) (answer : ℕ) (currents : Currents)
    (edge : Option Edge) (given : KnowsGiven w.setup.known w.scope) (current : Current)
    (slotted : Slotted) (told : IsCurrentTold current slotted) (rank : ℕ) where
  abbrev place : Place
  place = place_of w environment answer currents edge

  named_flood : (name : Name) (g : IsGivenRegion w.setup.known name)
      → (named_region w.setup.known name).flood ≡ flood_of g.region
  named_flood name g = ap (λ (o : Outcome Region). flood_of (value_or no_region o)) g.named

  name_told : (index : Bool) (slot line : ℕ) (pre : List Pre) (name : Name) (post : Posts)
      (shape : Shape)
      → (if index then Some (false ∷ []) else region_shape (kind_of w.scope name)) ≡ Some shape
      → (name_opened index w slot line slotted pre name post).flood ≡ shape
  name_told true slot line pre name post shape e = cc
  name_told false slot line pre name post shape e =
      let g = given.regions name shape e in
      formed_flood (forms_of w.setup.known pre post) slot line (named_region w.setup.known name)
      ∙ named_flood name g.0 ∙ g.1

  computed_told : (slot line : ℕ) (inner : Inner) (shape : Shape)
      → shape_within w.scope current inner ≡ Some shape
      → (computed w slot line slotted inner).flood ≡ shape
  computed_told slot line (Rexpr pre (NamedRegion name) post) shape e =
      name_told (is_index w.scope pre name post) slot line pre name post shape e
  computed_told slot line (Rexpr pre (Ditto at) post) shape e =
      formed_flood (forms_of w.setup.known pre post) slot line
      (low.standing slotted.slot slotted.flood)
      ∙ told.shape shape e
  computed_told slot line (Dims dims) shape e = dims_told current slotted told 0 dims shape e

  -- ---- regions that are known before the run

  name_constant : (index : Bool) (slot line : ℕ) (pre : List Pre) (name : Name) (post : Posts)
      (region : Region) → OpensName index place rank pre name post
      → constant_name index w.environment w.setup.known pre name post ≡ Some region
      → flood_of region ≡ (name_opened index w slot line slotted pre name post).flood
  name_constant true slot line pre name post region h e =
      span_flood w.environment slotted (ThenDim (One (Named name.at name)) NoDim) region
      (omega arith) e
  name_constant false slot line pre name post region h e =
      let known = w.setup.known in
      let g = h.0 in
      let forms = forms_of known pre post in
      let outcome = before known pre (behind known (region_named known name) post) in
      let gives : mean.Gives region ≡ shaped forms (mean.Gives g.region) =
      ap (λ (o : Outcome Region). computed_of o)
      (sym (within_region w.environment slotted outcome region e))
      ∙ forms_are known pre post (region_named known name) h.1.1 h.1.2
      ∙ ap (λ (o : Outcome Region). shaped forms (computed_of o)) g.named in
      let opened : IsOpenedAs (flood_of g.region) region =
      subst (λ (v : mean.Computed Region). Told (flood_of g.region) v) (sym gives)
      (shaped_told (flood_of g.region) forms (mean.Gives g.region)
      (opened_itself g.region g.is g.three)) in
      opened.flood_is
      ∙ sym (named_flood name g)
      ∙ sym (formed_flood forms slot line (named_region known name))

  region_constant : (slot line : ℕ) (inner : Inner) (region : Region) → Opens place rank inner
      → constant_region w inner ≡ Some region
      → flood_of region ≡ (computed w slot line slotted inner).flood
  region_constant slot line (Rexpr pre (NamedRegion name) post) region h e =
      name_constant (is_index w.scope pre name post) slot line pre name post region h e
  region_constant slot line (Rexpr pre (Ditto at) post) region h e = cc
  region_constant slot line (Dims dims) region h e =
      span_flood w.environment slotted dims region (omega (arith, h.0, h.2)) e

  fixed_flood : (rows : List Row) (slot : ℕ) (region : Region) (opened : Opened)
      → flood_of region ≡ opened.flood
      → (one_row rows opened
      (low.filled slot (flood_of region) (row.Plain (instr.Fix slot region)))).flood
      ≡ opened.flood
  fixed_flood [] slot region opened e = refl
  fixed_flood (one ∷ rest) slot region opened e = e

  bracket_flood : (slot line : ℕ) (inner : Inner) → Opens place rank inner
      → (bracket w slot line slotted inner).flood ≡ (computed w slot line slotted inner).flood
  bracket_flood slot line inner h =
      by (constant_region w inner) (λ region e. region_constant slot line inner region h e)
    where
      opened : Opened
      opened = computed w slot line slotted inner

      by : (o : Option Region) → ((region : Region) → o ≡ Some region
          → flood_of region ≡ opened.flood) → (fixed_or o slot opened).flood ≡ opened.flood
      by None f = refl
      by (Some region) f = fixed_flood opened.rows slot region opened (f region refl)

  -- the flood dimensions of a prefix's slot are those of its text
  pub opened_told : (borders : Bool) (slot line : ℕ) (inner : Inner) (shape : Shape)
      → Opens place rank inner → shape_within w.scope current inner ≡ Some shape
      → (prefix_opened borders w slot line slotted inner).flood
      ≡ shape
  opened_told true slot line inner shape h e = computed_told slot line inner shape e
  opened_told false slot line inner shape h e =
      bracket_flood slot line inner h ∙ computed_told slot line inner shape e
