-- The code of prefixes fits, and what is in reach behind them.
use Rattle.std.proofs.Common.{◌≡◌, ℕ, zero, suc, Bool, true, false, List, [], ◌∷◌, length, refl, sym, ap, ◌∙◌, subst}
use Rattle.std.specs.Prelude.{Option, Some, None, slice_get}
use Rattle.std.specs.Option.{IsSomeAnd}
use Rattle.meaning_ranks.specs.of_zpl_tree.Syntax.{NamedRegion, Ditto, NamedDir, Inner, Rexpr, Dims, NoPost, ThenPost, Mask as MaskText, Prefix, Form}
use Rattle.meaning_ranks.specs.of_zpl_names.Kinds.{Rank}
use Rattle.meaning_ranks.specs.of_zpl_names.Scope.{Scope, kind_of}
use Rattle.meaning_ranks.specs.of_zpl_names.Ranks.{array_shape, inner_rank, mask_rank}
use Rattle.meaning_ranks.specs.of_zpl_names.Shapes.{prefix_rank}
use Rattle.meaning_ranks.specs.of_zpl_binding.Regions.{Known, no_region}
use Rattle.meaning_ranks.specs.of_zpl_meaning.Store.{Thing, Scalar, ArrayAt, Fixed, thing_of}
use Rattle.meaning_ranks.specs.of_zpl_meaning.Context.{Over, Currents, with_over, Edge, Place}
use Rattle.meaning_ranks.specs.of_zpl_meaning.Regions.{mask_thing, mask_in, edge_in, current_for as region_for}
use Rattle.meaning_ranks.specs.of_zpl_meaning.Proper.{HasCurrent, IsArray, IsArrayRank, IsProperInner, IsProperMask, IsProperPrefix, IsProperUnder, IsProperForm}
use Rattle.meaning_ranks.specs.of_zpl_meaning.Visited.{IsUnder, Itself, Behind}
use Rattle.meaning_ranks.specs.Ranked.{IsInnerOf, IsMaskOf as IsRankedMask, IsRankedPrefix, IsRankedUnder, IsRankedForm}
use Rattle.stored_shifts.specs.of_node_form.declared.tables.Tables.{Tables}
use Rattle.stored_shifts.specs.of_node_form.Fits.{IsRank, HasSlot}
use Rattle.lower_numbers.specs.of_row_runs.Structured as piece
use Rattle.lower_numbers.specs.of_zpl_lowering.Where.{Stored, Slotted, slotted_at, SlotEdge, Where, Next, line_of}
use Rattle.lower_numbers.specs.of_zpl_lowering.Bracket.{Opened}
use Rattle.lower_numbers.specs.of_zpl_lowering.Lowered.{Lowered, behind}
use Rattle.lower_numbers.specs.of_zpl_lowering.Statement.{Lowering, Calling, prefix_opened, current_for, edge_of, under_prefix, of_opened, is_last, lowered_under}
use Rattle.lowering_fits.specs.Slates.{SlotsAt, IsMaskOf, FitsOver, FitsVector}
use Rattle.lowering_fits.specs.Reach.{place_at, IsStoredAs, FitsKnown, IsReach}
use Rattle.lowering_fits.specs.Lowerings.{IsLaidOut, FitsLowered, FitsEdge}
use Rattle.lowering_fits.proofs.BracketLemmas.{rank_number, LimitsAreTold, FitsOpened, bracket_fits, computed_fits}
use Rattle.lowering_fits.proofs.SettleLemmas.{over_of, with_current, array_rank_number, same_ranks}
use Rattle.lowering_fits.proofs.PhaseLemmas.{laid_front, laid_behind, both_fit}

-- ---- masks

mask_is : (base : Tables) (w : Where) (currents : Currents) → IsReach base w currents →
    (result : ℕ) (edge : Option Edge) (rank : Rank) (mask : Option MaskText) →
    IsProperMask w.environment mask →
    IsRankedMask (place_at w result currents edge) rank mask →
    IsMaskOf w.numbers (rank_number rank) (mask_in w.environment mask)
mask_is base w currents reach result edge rank None proper ranked = tt
mask_is base w currents reach result edge rank (Some mask) proper ranked =
    by (thing_of w.environment mask.name.text) refl proper
  where
    found : (place : ℕ) (stored : Option Stored) →
        IsSomeAnd stored (IsStoredAs (array_shape (kind_of w.scope mask.name))) →
        IsSomeAnd stored (λ stored. stored.storage.rank ≡ rank_number rank)
    found place None has = absurd has
    found place (Some stored) has =
        let same : Some stored.storage.rank ≡ rank = sym has.rank ∙ ranked in ap rank_number same

    by : (thing : Option Thing) → thing_of w.environment mask.name.text ≡ thing →
        IsArray thing → IsMaskOf w.numbers (rank_number rank) (mask_thing mask.without thing)
    by (Some (ArrayAt place home)) e array =
        found place (slice_get w.numbers.arrays place) (reach.names mask.name place home e).has
    by (Some (Scalar place)) e array = absurd array
    by (Some (Fixed constant)) e array = absurd array
    by None e array = absurd array

-- ---- the border that a prefix is

abbrev FitsOwn : Tables → ℕ → Option SlotEdge → Type 0
FitsOwn tables rank None = Unit {0}
FitsOwn tables rank (Some own) = HasSlot tables rank own.slot × FitsVector rank own.shift

edge_is : (base : Tables) (known : Known) (scope : Scope) → FitsKnown base known scope →
    (currents : Currents) (w : Where) (result : ℕ) (edge : Option Edge) (hint prefix : Rank)
    (rank : ℕ) (current : Slotted) (inner : Inner) →
    inner_rank scope hint prefix inner ≡ Some rank → IsInnerOf scope (Some rank) inner →
    (HasCurrent currents (Some rank) → HasSlot base rank current.slot) →
    IsProperInner (place_at w result currents edge) (Some rank) inner →
    FitsOwn base rank (edge_of known current inner)
edge_is base known scope fits currents w result edge hint prefix rank current
    (Rexpr [] one NoPost) is of has proper = tt
edge_is base known scope fits currents w result edge hint prefix rank current
    (Rexpr [] one (ThenPost stride dir rest)) is of has proper = tt
edge_is base known scope fits currents w result edge hint prefix rank current
    (Rexpr (pre ∷ []) (NamedRegion name) NoPost) is of has proper = by pre.outside refl
  where
    by : (b : Bool) → pre.outside ≡ b →
        FitsOwn base rank (edge_of known current (Rexpr (pre ∷ []) (NamedRegion name) NoPost))
    by true e = rw e (fits.slots rank name is, fits.dirs rank (NamedDir pre.dir) of.0.0)
    by false e = rw e tt
edge_is base known scope fits currents w result edge hint prefix rank current
    (Rexpr (pre ∷ []) (Ditto at) NoPost) is of has proper = by pre.outside refl
  where
    by : (b : Bool) → pre.outside ≡ b →
        FitsOwn base rank (edge_of known current (Rexpr (pre ∷ []) (Ditto at) NoPost))
    by true e = rw e (has proper, fits.dirs rank (NamedDir pre.dir) of.0.0)
    by false e = rw e tt
edge_is base known scope fits currents w result edge hint prefix rank current
    (Rexpr (pre ∷ []) one (ThenPost stride dir rest)) is of has proper = tt
edge_is base known scope fits currents w result edge hint prefix rank current
    (Rexpr (pre ∷ other ∷ more) one post) is of has proper = tt
edge_is base known scope fits currents w result edge hint prefix rank current (Dims dims) is of has
    proper = tt

-- ---- one prefix

module _ (limits : LimitsAreTold) (base : Tables) (w : Where) (result : ℕ) (currents : Currents)
    (edge : Option Edge) (reach : IsReach base w currents) (prefix : Prefix)
    (proper : IsProperPrefix (place_at w result currents edge) prefix)
    (ranked : IsRankedPrefix (place_at w result currents edge) prefix) where
  prefix_opens : (own : Bool) (next line : ℕ) →
      SlotsAt base next (prefix_opened own w next line (current_for w prefix) prefix.region).slots →
      FitsOpened base (rank_number (prefix_rank w.scope w.prefix prefix))
      (prefix_opened own w next line (current_for w prefix) prefix.region)
  prefix_opens own next line at =
      let rank : Rank = prefix_rank w.scope w.prefix prefix in
      let number : ℕ = rank_number rank in
      let is = array_rank_number rank ranked.0.0 in
      let below = is.0.1 in
      let inner : IsProperInner (place_at w result currents edge) (Some number) prefix.region =
      subst (λ r. IsProperInner (place_at w result currents edge) r prefix.region) is.1
      proper.0 in
      let of : IsInnerOf w.scope (Some number) prefix.region =
      subst (λ r. IsInnerOf w.scope r prefix.region) is.1 ranked.0.1 in
      by own number is.0 is.1 inner of
      (λ has. over_has number is.1 has) at
    where
      over_has : (number : ℕ) → prefix_rank w.scope w.prefix prefix ≡ Some number →
          HasCurrent currents (Some number) →
          HasSlot base number (current_for w prefix).slot
          × (length (current_for w prefix).flood ≡ number)
      over_has number is has =
          let over = over_of base w.numbers currents w.currents (Some number) reach.here has in
          subst (λ r. HasSlot base number (slotted_at w.currents r).slot
          × (length (slotted_at w.currents r).flood ≡ number)) (sym is) (over.has, over.floods)

      by : (own : Bool) (number : ℕ) → IsRank number →
          prefix_rank w.scope w.prefix prefix ≡ Some number →
          IsProperInner (place_at w result currents edge) (Some number) prefix.region →
          IsInnerOf w.scope (Some number) prefix.region →
          (HasCurrent currents (Some number) →
          HasSlot base number (current_for w prefix).slot
          × (length (current_for w prefix).flood ≡ number)) →
          SlotsAt base next
          (prefix_opened own w next line (current_for w prefix) prefix.region).slots →
          FitsOpened base number
          (prefix_opened own w next line (current_for w prefix) prefix.region)
      by true number is same inner of has at =
          computed_fits base w reach.numbers reach.known currents result edge
          (mask_rank w.scope prefix.mask) number next line (current_for w prefix) prefix.region
          is.1 same has inner of at
      by false number is same inner of has at =
          bracket_fits limits base w reach.numbers reach.known currents result edge
          (mask_rank w.scope prefix.mask) number next line (current_for w prefix) prefix.region is
          same has inner of at

  -- what is in reach behind it
  -- the region and the mask behind it, of the meaning and of the lowering
  abbrev pub some_over : Over
  some_over = record { region = no_region; mask = mask_in w.environment prefix.mask }

  abbrev pub slotted_over : Opened → Slotted
  slotted_over opened = record {
    slot = opened.slot;
    flood = opened.flood;
    mask = mask_in w.environment prefix.mask;
  }

  over_fits : (opened : Opened) →
      FitsOpened base (rank_number (prefix_rank w.scope w.prefix prefix)) opened →
      FitsOver base w.numbers (rank_number (prefix_rank w.scope w.prefix prefix))
      (slotted_over opened)
  over_fits opened fits =
      let rank : Rank = prefix_rank w.scope w.prefix prefix in
      record {
        is_rank = (array_rank_number rank ranked.0.0).0;
        has = fits.has;
        floods = fits.floods;
        masked = mask_is base w currents reach result edge rank prefix.mask proper.1 ranked.1;
      }

  reach_behind : (opened : Opened) →
      FitsOpened base (rank_number (prefix_rank w.scope w.prefix prefix)) opened →
      IsReach base (under_prefix w prefix opened)
      (with_over currents (prefix_rank w.scope w.prefix prefix) some_over)
  reach_behind opened fits = record {
    numbers = reach.numbers;
    kept = reach.kept;
    globals = reach.globals;
    known = reach.known;
    names = reach.names;
    variables = reach.variables;
    here = with_current base w.numbers currents w.currents (prefix_rank w.scope w.prefix prefix)
        some_over (slotted_over opened) reach.here (over_fits opened fits);
  }

  current_there : (rank : Rank) → IsArrayRank rank → HasCurrent (with_over currents rank some_over) rank
  current_there None is = absurd is
  current_there (Some zero) is = absurd is
  current_there (Some (suc zero)) is = refl
  current_there (Some (suc (suc zero))) is = refl
  current_there (Some (suc (suc (suc zero)))) is = refl
  current_there (Some (suc (suc (suc (suc n))))) is = absurd is

  edge_behind : (opened : Opened) →
      FitsEdge base (under_prefix w prefix opened)
      (with_over currents (prefix_rank w.scope w.prefix prefix) some_over)
      (edge_of w.setup.known (current_for w prefix) prefix.region)
  edge_behind opened =
      by (edge_of w.setup.known (current_for w prefix) prefix.region)
      (edge_is base w.setup.known w.scope reach.known currents w result edge
      (mask_rank w.scope prefix.mask) w.prefix (rank_number (prefix_rank w.scope w.prefix prefix))
      (current_for w prefix) prefix.region (array_rank_number rank ranked.0.0).1
      (subst (λ r. IsInnerOf w.scope r prefix.region) (array_rank_number rank ranked.0.0).1
      ranked.0.1)
      (λ has. slot_here has)
      (subst (λ r. IsProperInner (place_at w result currents edge) r prefix.region)
      (array_rank_number rank ranked.0.0).1 proper.0))
    where
      rank : Rank
      rank = prefix_rank w.scope w.prefix prefix

      slot_here : HasCurrent currents (Some (rank_number (prefix_rank w.scope w.prefix prefix))) →
          HasSlot base (rank_number (prefix_rank w.scope w.prefix prefix))
          (current_for w prefix).slot
      slot_here has =
          let is = array_rank_number (prefix_rank w.scope w.prefix prefix) ranked.0.0 in
          let there : HasCurrent currents (prefix_rank w.scope w.prefix prefix) =
          subst (HasCurrent currents) (sym is.1) has in
          (over_of base w.numbers currents w.currents (prefix_rank w.scope w.prefix prefix)
          reach.here there).has

      by : (own : Option SlotEdge) →
          FitsOwn base (rank_number (prefix_rank w.scope w.prefix prefix)) own →
          FitsEdge base (under_prefix w prefix opened)
          (with_over currents (prefix_rank w.scope w.prefix prefix) some_over) own
      by None fits = tt
      by (Some own) fits = (
        rank_number (prefix_rank w.scope w.prefix prefix),
        (
          (array_rank_number (prefix_rank w.scope w.prefix prefix) ranked.0.0).1,
          current_there (prefix_rank w.scope w.prefix prefix) ranked.0.0,
          fits.0,
          fits.1,
        ),
      )

  opened_fits : (opened : Opened) →
      FitsOpened base (rank_number (prefix_rank w.scope w.prefix prefix)) opened →
      FitsLowered base (of_opened opened)
  opened_fits opened fits = record {
    code_fits = fits.rows;
    slot_ranks = same_ranks (rank_number (prefix_rank w.scope w.prefix prefix)) opened.slots
        (array_rank_number (prefix_rank w.scope w.prefix prefix) ranked.0.0).0 fits.slots;
    temp_ranks = tt;
    small_shifts = tt;
  }

-- ---- prefixes, one after another

-- what is known of the place behind them
pub record IsBehind (tables : Tables) (first : Where) (start : Place) (prefixes : List Prefix)
    (form : Form) (w : Where) (result : ℕ) (currents : Currents) (edge : Option Edge) : Type 0 where
  pub reach : IsReach tables w currents
  pub edges : FitsEdge tables w currents w.edge
  pub under : IsUnder prefixes start (place_at w result currents edge)
  pub proper : IsProperForm (place_at w result currents edge) form
  pub ranked : IsRankedForm (place_at w result currents edge) form
  pub same_setup : w.setup ≡ first.setup
  pub same_scope : w.scope ≡ first.scope
  pub same_result : w.result ≡ first.result

pub under_fits : LimitsAreTold → (base : Tables) (call : Calling → Next → Lowered)
    (borders : Bool) (form : Form) (rest : Lowering → Next → Lowered) (prefixes : List Prefix)
    (w : Where) (result : ℕ) (currents : Currents) (edge : Option Edge) (next : Next) →
    IsReach base w currents → FitsEdge base w currents w.edge →
    IsProperUnder (place_at w result currents edge) prefixes form →
    IsRankedUnder (place_at w result currents edge) prefixes form →
    ((inner : Where) (currents' : Currents) (edge' : Option Edge) (after : Next) →
    IsBehind base w (place_at w result currents edge) prefixes form inner result currents' edge' →
    IsLaidOut base after (rest (record { place = inner; call = call }) after) →
    FitsLowered base (rest (record { place = inner; call = call }) after)) →
    IsLaidOut base next
    (lowered_under borders (record { place = w; call = call }) next prefixes rest) →
    FitsLowered base
    (lowered_under borders (record { place = w; call = call }) next prefixes rest)
under_fits limits base call borders form rest [] w result currents edge next reach edges proper
    ranked fits laid =
    fits w currents edge next
    (record {
      reach = reach;
      edges = edges;
      under = Itself;
      proper = proper;
      ranked = ranked;
      same_setup = refl;
      same_scope = refl;
      same_result = refl;
    }) laid
under_fits limits base call borders form rest (prefix ∷ prefixes) w result currents edge next reach
    edges proper ranked fits laid =
    let rank : Rank = prefix_rank w.scope w.prefix prefix in
    let opened : Opened =
    prefix_opened (is_last borders prefixes) w next.slots (line_of w prefix.at)
    (current_for w prefix) prefix.region in
    let inner : Where = under_prefix w prefix opened in
    let over : Over = record { region = no_region; mask = mask_in w.environment prefix.mask } in
    let after : Next = behind next (of_opened opened) in
    let later : Lowered =
    lowered_under borders (record { place = inner; call = call }) after prefixes rest in
    let code = piece.Then (of_opened opened).code later.code in
    let first = laid_front base next code (of_opened opened) later laid in
    let opens = prefix_opens limits base w result currents edge reach prefix proper.0 ranked.0
    (is_last borders prefixes) next.slots (line_of w prefix.at) first.slots_at in
    both_fit base (of_opened opened) later
    (opened_fits limits base w result currents edge reach prefix proper.0 ranked.0 opened opens)
    (under_fits limits base call borders form rest prefixes inner result
    (with_over currents rank over)
    (edge_in w.setup.known
    (region_for (place_at w result currents edge) (mask_rank w.scope prefix.mask) prefix.region)
    prefix.region) after
    (reach_behind limits base w result currents edge reach prefix proper.0 ranked.0 opened opens)
    (edge_behind limits base w result currents edge reach prefix proper.0 ranked.0 opened)
    (proper.1 over) (ranked.1 over)
    (λ far currents' edge' last is. fits far currents' edge' last (record {
      reach = is.reach;
      edges = is.edges;
      under = Behind over is.under;
      proper = is.proper;
      ranked = is.ranked;
      same_setup = is.same_setup;
      same_scope = is.same_scope;
      same_result = is.same_result;
    })) (laid_behind base next code (of_opened opened) later laid))
