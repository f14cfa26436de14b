-- Texts that have nothing of their own: brackets, vectors, and statements that are shattered; and
-- expressions in which these stand, which are noted as their sites tell.
use Rattle.std.proofs.Common.{◌≡◌, ℕ, List, [], ◌∷◌, refl, ap, arith}
use Rattle.std.specs.Prelude.{Option, Some, None, filter_map, flat_map}
use Rattle.zpl_tree.specs.Syntax.{Inner, Expr, Number, Truth, Coord, Named, Shifted, Around, Remap, Call, Paren, Neg, Not, Abs, Pair, Reduce, Scan, Flood, Exprs, NoExpr, ThenExpr, NoBracket, Bracketed, Form, Program}
use Rattle.zpl_names.specs.Kinds.{Rank}
use Rattle.zpl_names.specs.Ranks.{own_rank, operand_rank, inner_rank}
use Rattle.zpl_names.specs.Sites.{Reach, Operand, whole_rank, over_source, CallSite, Site, AtWhole, AtExpr, AtCall, AtNamed, AtDir, AtRegion, AtMask, AtStmt, AtBase, AtPosts, AtProcedure, call_of, dir_sites, expr_sites, exprs_sites, form_sites, region_sites}
use Rattle.zpl_names.specs.Expansion.{ExpandedArray, Instance, copies_at, shifts_at}
use Rattle.zpl_names.specs.Accepted.{HasNoFault}
use Rattle.zpl_binding.specs.Regions.{Known, no_region}
use Rattle.zpl_meaning.specs.Context.{Place}
use Rattle.zpl_meaning.specs.Regions.{under_source}
use Rattle.zpl_meaning.specs.Settled.{source_rank}
use Rattle.zpl_meaning.specs.Store.{Environment, Thing, Scalar, ArrayAt, Fixed, thing_of}
use Rattle.zpl_meaning.specs.Proper.{IsArray, IsProper, AreProper, IsProperInner, IsPointForm}
use Rattle.zpl_meaning.proofs.DepthLemmas.{Each, each_left, each_right}
use Rattle.meaning_ranks.specs.Ranked.{IsPointFormOf}
use Rattle.lowered_flat.proofs.of_lowering_fits.TallyLemmas.{round, called, tally, IsSilent, IsTameInner, dir_silent, region_silent}
use Rattle.lowered_flat.proofs.of_lowering_fits.MadeLemmas.{inner_tame}
use Rattle.lowered_flat.proofs.of_lowering_fits.PointSiteLemmas as point
use Rattle.stored_boxes.specs.Reads as told
use Rattle.stored_boxes.specs.Reads.{IsArrayThere}
use Rattle.program_boxes.proofs.StillLemmas.{moved, IsStill, dir_still, region_still, form_still}
use Rattle.program_boxes.proofs.OwnLemmas.{HaveNothing}

-- ---- where nothing is counted, nothing is told

pub no_shifts : (program : Program) (instance : Instance) (sites : List Site) →
    tally moved sites ≡ 0 → flat_map (shifts_at program instance) sites ≡ []
no_shifts program instance [] none = refl
no_shifts program instance (site ∷ sites) none =
    by site (no_shifts program instance sites) none
  where
    by : (site : Site) → (tally moved sites ≡ 0 → flat_map (shifts_at program instance) sites ≡ [])
        →
        tally moved (site ∷ sites) ≡ 0 →
        flat_map (shifts_at program instance) (site ∷ sites) ≡ []
    by (AtExpr reach rank (Number at value)) later none = later none
    by (AtExpr reach rank (Truth at value)) later none = later none
    by (AtExpr reach rank (Coord at k)) later none = later none
    by (AtExpr reach rank (Named at name)) later none = later none
    by (AtExpr reach rank (Shifted at name shift)) later none =
        let no : ⊥ = omega (arith, none) in absurd no
    by (AtExpr reach rank (Around at name shift)) later none = later none
    by (AtExpr reach rank (Remap at name indices)) later none = later none
    by (AtExpr reach rank (Call at name actuals)) later none = later none
    by (AtExpr reach rank (Paren at inside)) later none = later none
    by (AtExpr reach rank (Neg at operand)) later none = later none
    by (AtExpr reach rank (Not at operand)) later none = later none
    by (AtExpr reach rank (Abs at operand)) later none = later none
    by (AtExpr reach rank (Pair at op left right)) later none = later none
    by (AtExpr reach rank (Reduce at operator over operand)) later none = later none
    by (AtExpr reach rank (Scan at operator along operand)) later none = later none
    by (AtExpr reach rank (Flood at source operand)) later none = later none
    by (AtWhole reach role one) later none = later none
    by (AtCall reach place name actuals) later none = later none
    by (AtNamed reach name) later none = later none
    by (AtDir reach dir) later none = later none
    by (AtRegion reach hint region) later none = later none
    by (AtMask reach prefix mask) later none = later none
    by (AtStmt reach at prefixes form) later none = later none
    by (AtBase base) later none = later none
    by (AtPosts reach region posts) later none = later none
    by (AtProcedure procedure) later none = later none

pub no_copies : (program : Program) (instance : Instance) (sites : List Site) →
    tally round sites ≡ 0 → flat_map (copies_at program instance) sites ≡ []
no_copies program instance [] none = refl
no_copies program instance (site ∷ sites) none =
    by site (no_copies program instance sites) none
  where
    by : (site : Site) → (tally round sites ≡ 0 → flat_map (copies_at program instance) sites ≡ [])
        →
        tally round (site ∷ sites) ≡ 0 →
        flat_map (copies_at program instance) (site ∷ sites) ≡ []
    by (AtExpr reach rank (Number at value)) later none = later none
    by (AtExpr reach rank (Truth at value)) later none = later none
    by (AtExpr reach rank (Coord at k)) later none = later none
    by (AtExpr reach rank (Named at name)) later none = later none
    by (AtExpr reach rank (Shifted at name shift)) later none = later none
    by (AtExpr reach rank (Around at name shift)) later none =
        let no : ⊥ = omega (arith, none) in absurd no
    by (AtExpr reach rank (Remap at name indices)) later none = later none
    by (AtExpr reach rank (Call at name actuals)) later none = later none
    by (AtExpr reach rank (Paren at inside)) later none = later none
    by (AtExpr reach rank (Neg at operand)) later none = later none
    by (AtExpr reach rank (Not at operand)) later none = later none
    by (AtExpr reach rank (Abs at operand)) later none = later none
    by (AtExpr reach rank (Pair at op left right)) later none = later none
    by (AtExpr reach rank (Reduce at operator over operand)) later none = later none
    by (AtExpr reach rank (Scan at operator along operand)) later none = later none
    by (AtExpr reach rank (Flood at source operand)) later none = later none
    by (AtWhole reach role one) later none = later none
    by (AtCall reach place name actuals) later none = later none
    by (AtNamed reach name) later none = later none
    by (AtDir reach dir) later none = later none
    by (AtRegion reach hint region) later none = later none
    by (AtMask reach prefix mask) later none = later none
    by (AtStmt reach at prefixes form) later none = later none
    by (AtBase base) later none = later none
    by (AtPosts reach region posts) later none = later none
    by (AtProcedure procedure) later none = later none

pub no_calls : (sites : List Site) →
    tally (called (λ text. 1)) sites ≡ 0 → filter_map call_of sites ≡ []
no_calls [] none = refl
no_calls (site ∷ sites) none =
    by site (no_calls sites) none
  where
    by : (site : Site) → (tally (called (λ text. 1)) sites ≡ 0 → filter_map call_of sites ≡ []) →
        tally (called (λ text. 1)) (site ∷ sites) ≡ 0 →
        filter_map call_of (site ∷ sites) ≡ []
    by (AtExpr reach rank one) later none = later none
    by (AtWhole reach role one) later none = later none
    by (AtCall reach place name actuals) later none =
        let no : ⊥ = omega (arith, none) in absurd no
    by (AtNamed reach name) later none = later none
    by (AtDir reach dir) later none = later none
    by (AtRegion reach hint region) later none = later none
    by (AtMask reach prefix mask) later none = later none
    by (AtStmt reach at prefixes form) later none = later none
    by (AtBase base) later none = later none
    by (AtPosts reach region posts) later none = later none
    by (AtProcedure procedure) later none = later none

module _ (program : Program) (known : Known) (number : ExpandedArray → ℕ) (instance : Instance)
    (called : CallSite → List Instance) where
  abbrev IsQuiet : List Site → Type 0
  IsQuiet sites = told.IsQuiet program instance sites

  quiet_of : (sites : List Site) → IsSilent sites → IsStill sites → IsQuiet sites
  quiet_of sites silent still = record {
    shifts = no_shifts program instance sites still.reads;
    copies = no_copies program instance sites silent.reads;
  }

  pub nothing_of : (sites : List Site) → IsSilent sites → IsStill sites →
      HaveNothing program known number instance called sites
  nothing_of sites silent still = record {
    no_shifts = no_shifts program instance sites still.reads;
    no_copies = no_copies program instance sites silent.reads;
    no_calls = ap (flat_map called) (no_calls sites (silent.calls (λ text. 1)));
  }

  -- a bracket, and a statement that is shattered
  pub region_nothing : (environment : Environment) (reach : Reach) (hint : Rank) (inner : Inner) →
      IsTameInner environment inner → Each HasNoFault (region_sites reach hint inner) →
      HaveNothing program known number instance called (region_sites reach hint inner)
  region_nothing environment reach hint inner tame clean =
      nothing_of (region_sites reach hint inner)
      (region_silent environment reach hint inner tame clean)
      (region_still environment reach hint inner tame clean)

  pub form_nothing : (reach : Reach) (place : Place) (rank : Rank) (form : Form) →
      IsPointForm place rank form → IsPointFormOf place rank form →
      HaveNothing program known number instance called (form_sites reach form)
  form_nothing reach place rank form is of =
      nothing_of (form_sites reach form) (point.form_silent reach place rank form is of)
      (form_still reach place rank form is of)

  -- ---- expressions

  array_there : (thing : Option Thing) → IsArray thing → IsArrayThere thing
  array_there None is = absurd is
  array_there (Some (Scalar place)) is = absurd is
  array_there (Some (Fixed value)) is = absurd is
  array_there (Some (ArrayAt place home)) is = tt

  abbrev IsQuietWithin : Environment → Reach → Rank → Expr → Type 0
  IsQuietWithin environment reach rank expr =
      told.IsQuietWithin program instance environment reach rank expr

  abbrev AreQuietWithin : Environment → Reach → Rank → Exprs → Type 0
  AreQuietWithin environment reach rank exprs =
      told.AreQuietWithin program instance environment reach rank exprs

  source_quiet : (place : Place) (reach : Reach) (hint rank : Rank) (inner : Inner) →
      IsProperInner place rank inner → Each HasNoFault (region_sites reach hint inner) →
      IsQuiet (region_sites reach hint inner)
  source_quiet place reach hint rank inner is clean =
      let tame = inner_tame place rank inner is in
      quiet_of (region_sites reach hint inner)
      (region_silent place.environment reach hint inner tame clean)
      (region_still place.environment reach hint inner tame clean)

  mutual
    pub proper_quiet : (place : Place) (rank : Rank) (reach : Reach) (whole : Rank) (one : Expr) →
        IsProper place rank one → Each HasNoFault (expr_sites reach whole one) →
        IsQuietWithin place.environment reach whole one
    proper_quiet place rank reach whole (Number at value) is clean = tt
    proper_quiet place rank reach whole (Truth at value) is clean = tt
    proper_quiet place rank reach whole (Coord at k) is clean = tt
    proper_quiet place rank reach whole (Named at name) is clean = tt
    proper_quiet place rank reach whole (Shifted at name shift) is clean =
        quiet_of (dir_sites reach shift) (dir_silent reach shift clean.1)
        (dir_still reach shift clean.1)
    proper_quiet place rank reach whole (Around at name shift) is clean =
        quiet_of (dir_sites reach shift) (dir_silent reach shift clean.1)
        (dir_still reach shift clean.1)
    proper_quiet place rank reach whole (Remap at name indices) is clean = (
      array_there (thing_of place.environment name.text) is.0.0,
      all_quiet place rank reach whole indices is.1 clean.1,
    )
    proper_quiet place rank reach whole (Call at name actuals) is clean = absurd is
    proper_quiet place rank reach whole (Paren at inside) is clean =
        proper_quiet place rank reach whole inside is clean.1
    proper_quiet place rank reach whole (Neg at operand) is clean =
        proper_quiet place rank reach whole operand is clean.1
    proper_quiet place rank reach whole (Not at operand) is clean =
        proper_quiet place rank reach whole operand is clean.1
    proper_quiet place rank reach whole (Abs at operand) is clean =
        proper_quiet place rank reach whole operand is clean.1
    proper_quiet place rank reach whole (Pair at op left right) is clean =
        let xs = expr_sites reach whole left in
        let ys = expr_sites reach whole right in (
          proper_quiet place rank reach whole left is.0 (each_left HasNoFault xs ys clean.1),
          proper_quiet place rank reach whole right is.1 (each_right HasNoFault xs ys clean.1),
        )
    proper_quiet place rank reach whole (Reduce at operator NoBracket operand) is clean =
        proper_quiet place (operand_rank place.scope place.prefix operand) reach
        (whole_rank reach Operand operand) operand is.1 clean.1.1
    proper_quiet place rank reach whole (Reduce at operator (Bracketed source) operand) is clean =
        let over = source_rank place source operand in
        let hint = own_rank reach.scope reach.prefix operand in
        let under = inner_rank reach.scope hint reach.prefix source in
        let xs = region_sites reach hint source in
        let ys = expr_sites (over_source reach under source) under operand in (
          source_quiet place reach hint
              (inner_rank place.scope (own_rank place.scope place.prefix operand) place.prefix
              source) source is.1 (each_left HasNoFault xs ys clean.1),
          proper_quiet (under_source place over no_region) over (over_source reach under source)
              under operand (is.2 no_region) (each_right HasNoFault xs ys clean.1),
        )
    proper_quiet place rank reach whole (Scan at operator along operand) is clean =
        proper_quiet place rank reach whole operand is.1 clean.1
    proper_quiet place rank reach whole (Flood at source operand) is clean =
        let over = source_rank place source operand in
        let hint = own_rank reach.scope reach.prefix operand in
        let under = inner_rank reach.scope hint reach.prefix source in
        let xs = region_sites reach hint source in
        let ys = expr_sites (over_source reach under source) under operand in (
          source_quiet place reach hint
              (inner_rank place.scope (own_rank place.scope place.prefix operand) place.prefix
              source) source is.1 (each_left HasNoFault xs ys clean.1),
          proper_quiet (under_source place over no_region) over (over_source reach under source)
              under operand (is.2 no_region) (each_right HasNoFault xs ys clean.1),
        )

    all_quiet : (place : Place) (rank : Rank) (reach : Reach) (whole : Rank) (exprs : Exprs) →
        AreProper place rank exprs → Each HasNoFault (exprs_sites reach whole exprs) →
        AreQuietWithin place.environment reach whole exprs
    all_quiet place rank reach whole NoExpr are clean = tt
    all_quiet place rank reach whole (ThenExpr first rest) are clean =
        let xs = expr_sites reach whole first in
        let ys = exprs_sites reach whole rest in (
          proper_quiet place rank reach whole first are.0 (each_left HasNoFault xs ys clean),
          all_quiet place rank reach whole rest are.1 (each_right HasNoFault xs ys clean),
        )
