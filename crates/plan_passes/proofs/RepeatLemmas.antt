-- Exchanges that have lost what is fresh keep runs.
use Rattle.std.proofs.Common.{◌≡◌, ◌⊎◌, inl, inr, refl, sym, ◌∙◌, ap, subst, ℕ, ◌<◌, Bool, true, false}
use Rattle.std.proofs.Common.{List, [], ◌∷◌, ◌++◌, Option, filter, true≢false}
use Rattle.std.specs.Prelude.{not}
use Rattle.std.specs.List.{AllByRecursion}
use Rattle.zpl_region.specs.declared.regions.Region.{Region}
use Rattle.zpl_region.proofs.ListLemmas.{Among, Among-filter, among_appended, among_filtered}
use Rattle.node_form.specs.Fits.{Fits}
use Rattle.node_form.specs.declared.arrays.Item.{Item}
use Rattle.node_form.specs.declared.instructions.Instr.{Instr}
use Rattle.node_form.specs.declared.instructions.Instr.TheVariants as instr
use Rattle.node_form.specs.declared.tables.Tables.{Tables}
use Rattle.code_parts.specs.Early.{is_roomy}
use Rattle.code_parts.specs.Exchanged.{is_among, is_exchange_row, stales}
use Rattle.code_parts.specs.Uses.{changes}
use Rattle.grid_meaning.specs.Local.{processors}
use Rattle.comm_combine.specs.of_plan_form.Units.{Exchange, PlanUnit, Single}
use Rattle.comm_combine.specs.Repeats.{exchange_if_any, fresh_after, repeats_dropped, stale_items}
use Rattle.comm_combine.specs.Repeats.{without_fresh}
use Rattle.row_runs.specs.Segments.{Keeps}
use Rattle.row_runs.specs.Straight.{Flow, Halts, OnTo, Tied, TiedHalt, TiedWrong, flow_behind, flow_then}
use Rattle.row_runs.specs.Straight.{rewritten, through}
use Rattle.needs_runs.specs.of_plan_meaning.Abreast.{Abreast}
use Rattle.needs_runs.specs.of_plan_meaning.Act.{plan_run}
use Rattle.needs_runs.specs.Agree.{HasLayout}
use Rattle.plan_passes.specs.Threes.{HasThrees}
use Rattle.plan_passes.specs.Units.{IsInUnits}
use Rattle.plan_passes.proofs.AwaitLemmas.{Await, Ready, Wanted, await_act}
use Rattle.plan_passes.proofs.DoneLemmas.{Done, done_exchanged, done_row, done_still}
use Rattle.plan_passes.proofs.EarlyLemmas.{IfOn}
use Rattle.plan_passes.proofs.FlowLemmas.{Like, behind_nothing, tied_behind}
use Rattle.plan_passes.proofs.FlowLemmas.{tied_self}
use Rattle.plan_passes.proofs.GoodLemmas.{Good, IsFit, IsGood, RowBehind, code_fit, good_exchange, good_row}
use Rattle.plan_passes.proofs.GoodLemmas.{good_start}
use Rattle.plan_passes.proofs.GoodUnitLemmas.{among_is}
use Rattle.plan_passes.proofs.JoinLemmas.{fewer_behind, fewer_said, fewer_write, none_behind}
use Rattle.plan_passes.proofs.PlaceLemmas.{FitsWell}
use Rattle.plan_passes.proofs.SentLemmas.{AllSaid, AllWrite, Exchanged, IsSent, Rightly, Wrongly, all_writes}
use Rattle.plan_passes.proofs.SentLemmas.{behind, exchange_does, exchanged, is_sent, sent_is}
use Rattle.plan_passes.proofs.UnitLemmas.{IsPlain, NoFlights, exchange_flow, quiet, units_flow}
use Rattle.plan_passes.proofs.UnitRunLemmas.{KeepsUnits}
use Rattle.plan_passes.proofs.WithUnitsLemmas.{units_keep_runs}
use Rattle.plan_passes.proofs.WriteLemmas.{Held, Write}

-- ---- units without repeats are units still
module _ (code : Tables) where
  pub dropped_plain : (fresh : List Item) (units : List PlanUnit) → AllByRecursion IsPlain units
      → AllByRecursion IsPlain (rewritten without_fresh (fresh_after code) fresh units)
  dropped_plain fresh [] all = tt
  dropped_plain fresh (Exchange items ∷ units) all =
      by (stale_items fresh items)
      (rewritten without_fresh (fresh_after code) (stale_items fresh items ++ fresh) units)
      (dropped_plain (stale_items fresh items ++ fresh) units all.1)
    where
      by : (js : List Item) (rest : List PlanUnit) → AllByRecursion IsPlain rest
          → AllByRecursion IsPlain (exchange_if_any js ++ rest)
      by [] rest more = more
      by (item ∷ js) rest more = (tt, more)
  dropped_plain fresh (Single row ∷ units) all =
      (all.0, dropped_plain (filter (λ item. not (stales code item row)) fresh) units all.1)

module _ (code : Tables) (layout : HasLayout code) (links : Option ℕ) (n : ℕ) where
  abbrev good : Await → Type 0
  good = IsGood code layout

  abbrev flow : List PlanUnit → Await → Flow Await
  flow = units_flow code links n

  abbrev dropped : List Item → List PlanUnit → List PlanUnit
  dropped = rewritten without_fresh (fresh_after code)

  -- what is fresh is done
  abbrev AreDone : List Item → Await → Type 0
  AreDone fresh (Ready all) = (item : Item) → Among fresh item → Done code layout all item
  AreDone fresh (Wanted group) = Unit {0}

  not_false : (b : Bool) → not b ≡ true → b ≡ false
  not_false true e = absurd (true≢false (sym e))
  not_false false e = refl

  stales_is : (row : Instr) (item : Item) → is_exchange_row row ≡ false
      → stales code item row ≡ changes code row item
  stales_is (instr.Start exchange) item e = absurd (true≢false e)
  stales_is (instr.Finish exchange) item e = absurd (true≢false e)
  stales_is row item e = refl

  -- ---- an exchange without what is fresh
  module _ (fresh items : List Item) (fit : (item : Item) → Among items item → FitsWell code layout item)
      (all : Abreast) (is : Good code layout all) (done : AreDone fresh (Ready all))
      (roomy : is_roomy links 0 ≡ true) (said : AllSaid code (all.shares 0).slots all.shares items)
      (write : AllWrite code (all.shares 0).slots all.shares items) where
    abbrev S : List Region
    S = (all.shares 0).slots

    abbrev next : Abreast
    next = behind code S all.shares items

    abbrev stale : List Item
    stale = stale_items fresh items

    stale_among : (item : Item) → Among stale item → Among items item
    stale_among item k = (among_filtered (λ item. not (is_among fresh item)) items item k).0

    rest : (p : ℕ) → p < processors code → (w : Write) → Among (all_writes code S all.shares items p) w
        → Among (all_writes code S all.shares stale p) w ⊎ Held (all.shares p).stores w
    rest p below w among =
        let sent = sent_is code S all.shares items p w among in
        by sent (is_among fresh sent.item) refl
      where
        by : (sent : IsSent code S all.shares items p w) (b : Bool) → is_among fresh sent.item ≡ b
            → Among (all_writes code S all.shares stale p) w ⊎ Held (all.shares p).stores w
        by sent true e =
            inr ((done sent.item (among_is fresh sent.item e)).held p below w
            (is_sent code S all.shares (sent.item ∷ []) p w (record {
              owner = sent.owner;
              below = sent.below;
              apart = sent.apart;
              item = sent.item;
              one = inl refl;
              place = sent.place;
              here = sent.here;
              is = sent.is;
            })))
        by sent false e =
            inl (is_sent code S all.shares stale p w (record {
              owner = sent.owner;
              below = sent.below;
              apart = sent.apart;
              item = sent.item;
              one = Among-filter (λ item. not (is_among fresh item)) items sent.item sent.one (ap not e);
              place = sent.place;
              here = sent.here;
              is = sent.is;
            }))

    same_behind : next ≡ behind code S all.shares stale
    same_behind = fewer_behind code layout all is items stale fit stale_among rest said write

    -- the new exchange, or none, comes to the same state
    new_goes : (js : List Item) → js ≡ stale → (units : List PlanUnit)
        → flow (exchange_if_any js ++ units) (Ready all) ≡ flow_behind [] (flow units (Ready next))
    new_goes [] e units =
        ap (λ a. flow units (Ready a))
        (ap (λ f. record { shares = all.shares; flights = f }) is.quiet_now
        ∙ (sym (none_behind code layout all is)
        ∙ (ap (λ l. behind code S all.shares l) e ∙ sym same_behind)))
        ∙ sym (behind_nothing (flow units (Ready next)))
    new_goes (item ∷ js) e units =
        ap (λ f. flow_then f (flow units))
        (ap (λ l. exchange_flow code links n l (Ready all)) e
        ∙ (exchange_does code S all.shares links n is.agree stale roomy
        (fewer_said code layout all is items stale fit stale_among rest said write)
        (fewer_write code layout all is items stale fit stale_among rest said write)
        ∙ ap (λ b. OnTo [] (Ready b)) (sym same_behind)))

    done_next : AreDone (stale ++ fresh) (Ready next)
    done_next item k = by (among_appended stale fresh item k)
      where
        by : Among stale item ⊎ Among fresh item → Done code layout next item
        by (inl k) = done_exchanged code layout all is items fit said write item (stale_among item k)
        by (inr k) = done_still code layout all is items fit said write item (done item k)

    next_good : Good code layout next
    next_good = good_exchange code layout all is items write

  -- ---- all units
  exchange_ties : (fresh items : List Item)
      → ((item : Item) → Among items item → FitsWell code layout item) → (units : List PlanUnit)
      → ((fresh : List Item) (t : Await) → good t → AreDone fresh t
      → Tied (Like good) (flow units t) (flow (dropped fresh units) t))
      → (all : Abreast) (is : Good code layout all) → AreDone fresh (Ready all) → (f : Flow Await)
      → Exchanged code (all.shares 0).slots all.shares links n is.agree items f
      → Tied (Like good) (flow_then f (flow units))
      (flow (exchange_if_any (stale_items fresh items) ++ dropped (stale_items fresh items ++ fresh) units)
      (Ready all))
  exchange_ties fresh items fit units more all is done f Wrongly = TiedWrong
  exchange_ties fresh items fit units more all is done f (Rightly roomy said write) =
      let after = stale_items fresh items ++ fresh in
      let state = Ready (behind code (all.shares 0).slots all.shares items) in
      subst (Tied (Like good) (flow_behind [] (flow units state)))
      (sym (new_goes fresh items fit all is done roomy said write (stale_items fresh items) refl
      (dropped after units)))
      (tied_behind good [] (flow units state) (flow (dropped after units) state)
      (more after state (next_good fresh items fit all is done roomy said write)
      (done_next fresh items fit all is done roomy said write)))

  row_ties : (fresh : List Item) (row : Instr) → IsPlain (Single row) → (units : List PlanUnit)
      → ((fresh : List Item) (t : Await) → good t → AreDone fresh t
      → Tied (Like good) (flow units t) (flow (dropped fresh units) t))
      → (all : Abreast) → AreDone fresh (Ready all) → (f : Flow Await)
      → IfOn (RowBehind code layout row all) f
      → Tied (Like good) (flow_then f (flow units))
      (flow_then f (flow (dropped (filter (λ item. not (stales code item row)) fresh) units)))
  row_ties fresh row plain units more all done (Halts bytes stop) is = TiedHalt
  row_ties fresh row plain units more all done (OnTo bytes (Wanted group)) is =
      tied_behind good bytes _ _ (more _ (Wanted group) tt tt)
  row_ties fresh row plain units more all done (OnTo bytes (Ready next)) is =
      tied_behind good bytes _ _ (more _ (Ready next) is.0 (λ item k.
      let parts = among_filtered (λ item. not (stales code item row)) fresh item k in
      done_row code layout row all next item
      (sym (stales_is row item plain.1) ∙ not_false (stales code item row) parts.1) is.1
      (done item parts.0)))

  ties : (units : List PlanUnit) → AllByRecursion IsPlain units
      → AllByRecursion (IsFit code layout) units → (fresh : List Item) (s : Await) → good s
      → AreDone fresh s → Tied (Like good) (flow units s) (flow (dropped fresh units) s)
  ties [] plain fit fresh s is done = tied_self good (OnTo [] s) is
  ties (Exchange items ∷ units) plain fit fresh (Wanted group) is done = TiedWrong
  ties (Exchange items ∷ units) plain fit fresh (Ready all) is done =
      exchange_ties fresh items fit.0 units (λ fresh t good_t done_t. ties units plain.1 fit.1 fresh t good_t done_t)
      all is done (exchange_flow code links n items (Ready all))
      (exchanged code (all.shares 0).slots all.shares links n is.agree items)
  ties (Single row ∷ units) plain fit fresh (Wanted group) is done =
      tied_halts (through (await_act code links n) (row ∷ []) (Wanted group)) tt
    where
      tied_halts : (f : Flow Await) → IfOn (λ s. ⊥) f
          → Tied (Like good) (flow_then f (flow units))
          (flow_then f (flow (dropped (filter (λ item. not (stales code item row)) fresh) units)))
      tied_halts (Halts bytes stop) none = TiedHalt
      tied_halts (OnTo bytes s) none = absurd none
  ties (Single row ∷ units) plain fit fresh (Ready all) is done =
      row_ties fresh row plain.0 units (λ fresh t good_t done_t. ties units plain.1 fit.1 fresh t good_t done_t)
      all done (through (await_act code links n) (row ∷ []) (Ready all))
      (good_row code layout links n row fit.0 plain.0.0 plain.0.1 all is)

  quiet_good : (s : Await) → good s → NoFlights s
  quiet_good (Ready all) is = is.quiet_now
  quiet_good (Wanted group) is = tt

  nothing_done : (s : Await) → AreDone [] s
  nothing_done (Ready all) = λ item k. absurd k
  nothing_done (Wanted group) = tt

  dropping : KeepsUnits code links n good (IsFit code layout) (dropped [])
  dropping = record {
    none = refl;
    quiet = quiet_good;
    plain = dropped_plain code [];
    ties = λ units plain fit s is. ties units plain fit [] s is (nothing_done s);
  }

pub dropped_keep_runs : (code : Tables) (links : Option ℕ) → Fits code → HasThrees code
    → IsInUnits code → (a n : ℕ)
    → Keeps (plan_run code links a n) (plan_run (repeats_dropped code) links a n)
dropped_keep_runs code links fits threes units a n =
    let layout : HasLayout code =
    record { grid = fits.grid; slots = fits.slots; arrays = fits.arrays; three = threes.arrays } in
    units_keep_runs code (rewritten without_fresh (fresh_after code) []) links n (IsGood code layout)
    (IsFit code layout) (dropping code layout links n) fits units
    (code_fit code layout fits threes code.code fits.code threes.rows)
    (record { rank = 0; fit = tt }, tt) (good_start code layout) a
