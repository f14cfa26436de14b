-- Neighbours that are merged keep runs.
use Rattle.std.proofs.Common.{◌≡◌, ◌⊎◌, inl, inr, refl, sym, ◌∙◌, ap, subst, ℕ, true, List, [], ◌∷◌}
use Rattle.std.proofs.Common.{◌<◌, Option}
use Rattle.std.specs.Prelude.{fold}
use Rattle.std.specs.List.{AllByRecursion}
use Rattle.zpl_region.specs.declared.regions.Region.{Region}
use Rattle.zpl_region.proofs.ListLemmas.{Among}
use Rattle.node_form.specs.Fits.{Fits}
use Rattle.node_form.specs.declared.arrays.Item.{Item}
use Rattle.node_form.specs.declared.tables.Tables.{Tables}
use Rattle.code_parts.specs.Early.{is_roomy}
use Rattle.grid_meaning.specs.Local.{processors}
use Rattle.comm_combine.specs.of_plan_form.Units.{Exchange, PlanUnit, Single, with_item}
use Rattle.comm_combine.specs.Merge.{joined_to, neighbours_merged, units_merged}
use Rattle.row_runs.specs.Segments.{Keeps}
use Rattle.row_runs.specs.Straight.{Flow, OnTo, Tied, TiedWrong, flow_behind, flow_then, through}
use Rattle.needs_runs.specs.of_plan_meaning.Abreast.{Abreast, Share}
use Rattle.needs_runs.specs.of_plan_meaning.Act.{plan_run}
use Rattle.needs_runs.specs.Agree.{HasLayout}
use Rattle.plan_passes.specs.Threes.{HasThrees}
use Rattle.plan_passes.specs.Units.{IsInUnits}
use Rattle.plan_passes.proofs.AwaitLemmas.{Await, Ready, Wanted, await_act}
use Rattle.plan_passes.proofs.FlowLemmas.{Like, behind_nothing, tied_behind, tied_self, tied_then, tied_trans}
use Rattle.plan_passes.proofs.GoodLemmas.{Good, IsFit, IsGood, code_fit, good_exchange, good_start}
use Rattle.plan_passes.proofs.GoodUnitLemmas.{exchange_good, into_fold, out_of_fold, row_good, units_good}
use Rattle.plan_passes.proofs.JoinLemmas.{fewer_behind, fewer_said, fewer_write, joined_behind, joined_said}
use Rattle.plan_passes.proofs.JoinLemmas.{behind_there, joined_write}
use Rattle.plan_passes.proofs.PlaceLemmas.{FitsWell}
use Rattle.plan_passes.proofs.SentLemmas.{AllSaid, AllWrite, Exchanged, Rightly, Wrongly, behind}
use Rattle.plan_passes.proofs.SentLemmas.{all_writes, exchange_does, exchanged, is_sent, sent_is}
use Rattle.plan_passes.proofs.UnitLemmas.{IsPlain, NoFlights, exchange_flow, units_flow}
use Rattle.plan_passes.proofs.UnitRunLemmas.{KeepsUnits}
use Rattle.plan_passes.proofs.WithUnitsLemmas.{units_keep_runs}
use Rattle.plan_passes.proofs.WriteLemmas.{Held, Write}

-- ---- units of which neighbours are one are units still
plain_joined : (items : List Item) (units : List PlanUnit) → AllByRecursion IsPlain units
    → AllByRecursion IsPlain (joined_to items units)
plain_joined items [] all = (tt, tt)
plain_joined items (Exchange others ∷ units) all = (tt, all.1)
plain_joined items (Single row ∷ units) all = (tt, all)

pub merged_plain : (units : List PlanUnit) → AllByRecursion IsPlain units
    → AllByRecursion IsPlain (units_merged units)
merged_plain [] all = tt
merged_plain (Exchange items ∷ units) all =
    plain_joined (fold with_item [] items) (units_merged units) (merged_plain units all.1)
merged_plain (Single row ∷ units) all = (all.0, merged_plain units all.1)

module _ (code : Tables) (layout : HasLayout code) (links : Option ℕ) (n : ℕ) where
  abbrev good : Await → Type 0
  good = IsGood code layout

  abbrev flow : List PlanUnit → Await → Flow Await
  flow = units_flow code links n

  -- ---- the same items, each once
  module _ (all : Abreast) (is : Good code layout all) (items js : List Item)
      (fit : (item : Item) → Among items item → FitsWell code layout item)
      (fewer : (item : Item) → Among js item → Among items item)
      (into : (item : Item) → Among items item → Among js item)
      (roomy : is_roomy links 0 ≡ true) (said : AllSaid code (all.shares 0).slots all.shares items)
      (write : AllWrite code (all.shares 0).slots all.shares items) where
    rest : (p : ℕ) → p < processors code → (w : Write)
        → Among (all_writes code (all.shares 0).slots all.shares items p) w
        → Among (all_writes code (all.shares 0).slots all.shares js p) w ⊎ Held (all.shares p).stores w
    rest p below w among =
        let sent = sent_is code (all.shares 0).slots all.shares items p w among in
        inl (is_sent code (all.shares 0).slots all.shares js p w (record {
          owner = sent.owner;
          below = sent.below;
          apart = sent.apart;
          item = sent.item;
          one = into sent.item sent.one;
          place = sent.place;
          here = sent.here;
          is = sent.is;
        }))

    same_exchange : exchange_flow code links n js (Ready all)
        ≡ OnTo [] (Ready (behind code (all.shares 0).slots all.shares items))
    same_exchange =
        exchange_does code (all.shares 0).slots all.shares links n is.agree js roomy
        (fewer_said code layout all is items js fit fewer rest said write)
        (fewer_write code layout all is items js fit fewer rest said write)
        ∙ ap (λ b. OnTo [] (Ready b)) (sym (fewer_behind code layout all is items js fit fewer rest said write))

  -- ---- an exchange in front of units
  fit_joined : (items : List Item) (units : List PlanUnit)
      → ((item : Item) → Among items item → FitsWell code layout item)
      → AllByRecursion (IsFit code layout) units
      → AllByRecursion (IsFit code layout) (joined_to items units)
  fit_joined items [] fit all = (fit, tt)
  fit_joined items (Exchange others ∷ units) fit all =
      ((λ item k. by item (out_of_fold items others item k)), all.1)
    where
      by : (item : Item) → Among items item ⊎ Among others item → FitsWell code layout item
      by item (inl k) = fit item k
      by item (inr k) = all.0 item k
  fit_joined items (Single row ∷ units) fit all = (fit, all)

  fit_once : (items : List Item) → ((item : Item) → Among items item → FitsWell code layout item)
      → (item : Item) → Among (fold with_item [] items) item → FitsWell code layout item
  fit_once items fit item k = by (out_of_fold [] items item k)
    where
      by : Among [] item ⊎ Among items item → FitsWell code layout item
      by (inl k) = absurd k
      by (inr k) = fit item k

  merged_fit : (units : List PlanUnit) → AllByRecursion (IsFit code layout) units
      → AllByRecursion (IsFit code layout) (units_merged units)
  merged_fit [] all = tt
  merged_fit (Exchange items ∷ units) all =
      fit_joined (fold with_item [] items) (units_merged units) (fit_once items all.0)
      (merged_fit units all.1)
  merged_fit (Single row ∷ units) all = (all.0, merged_fit units all.1)

  module _ (items : List Item) (fit : (item : Item) → Among items item → FitsWell code layout item)
      (all : Abreast) (is : Good code layout all) where
    abbrev once : List Item
    once = fold with_item [] items

    from_once : (item : Item) → Among once item → Among items item
    from_once item k = by (out_of_fold [] items item k)
      where
        by : Among [] item ⊎ Among items item → Among items item
        by (inl k) = absurd k
        by (inr k) = k

    to_once : (item : Item) → Among items item → Among once item
    to_once item k = into_fold [] items item (inr k)

    module _ (roomy : is_roomy links 0 ≡ true)
        (said : AllSaid code (all.shares 0).slots all.shares items)
        (write : AllWrite code (all.shares 0).slots all.shares items) where
      abbrev next : Abreast
      next = behind code (all.shares 0).slots all.shares items

      abbrev S : List Region
      S = (all.shares 0).slots

      next_good : Good code layout next
      next_good = good_exchange code layout all is items write

      agree_next : (p : ℕ) → p < processors code → (next.shares p).slots ≡ S
      agree_next p below =
          ap (λ (s : Share). s.slots) (behind_there code S all.shares items p below) ∙ is.agree p below

      alone : (units : List PlanUnit) → AllByRecursion IsPlain units
          → AllByRecursion (IsFit code layout) units
          → Tied (Like good) (flow_behind [] (flow units (Ready next)))
          (flow_then (exchange_flow code links n once (Ready all)) (flow units))
      alone units plain fits =
          subst (λ f. Tied (Like good) (flow_behind [] (flow units (Ready next))) (flow_then f (flow units)))
          (sym (same_exchange all is items once fit from_once to_once roomy said write))
          (tied_behind good [] (flow units (Ready next)) (flow units (Ready next))
          (tied_self good (flow units (Ready next))
          (units_good code layout links n units plain fits (Ready next) next_good)))

      joins : (others : List Item)
          → ((item : Item) → Among others item → FitsWell code layout item)
          → (units : List PlanUnit) → AllByRecursion IsPlain units
          → AllByRecursion (IsFit code layout) units → (f : Flow Await)
          → Exchanged code S next.shares links n agree_next others f
          → Tied (Like good) (flow_behind [] (flow_then f (flow units)))
          (flow_then (exchange_flow code links n (fold with_item once others) (Ready all)) (flow units))
      joins others fit_others units plain fits f Wrongly = TiedWrong
      joins others fit_others units plain fits f (Rightly roomy' said' write') =
          let js = fold with_item once others in
          let last = behind code S next.shares others in
          let goes : exchange_flow code links n js (Ready all) ≡ OnTo [] (Ready last) =
          exchange_does code S all.shares links n is.agree js roomy
          (joined_said code layout all is items others js fit fit_others into_js out_js said write said' write')
          (joined_write code layout all is items others js fit fit_others into_js out_js said write said' write')
          ∙ ap (λ b. OnTo [] (Ready b))
          (sym (joined_behind code layout all is items others js fit fit_others into_js out_js said write said' write')) in
          let last_good : Good code layout last =
          subst (Good code layout)
          (sym (joined_behind code layout all is items others js fit fit_others into_js out_js said write said' write'))
          (good_exchange code layout all is js
          (joined_write code layout all is items others js fit fit_others into_js out_js said write said' write')) in
          subst (λ g. Tied (Like good) g (flow_then (exchange_flow code links n js (Ready all)) (flow units)))
          (sym (behind_nothing (flow_behind [] (flow units (Ready last)))))
          (subst (λ g. Tied (Like good) (flow_behind [] (flow units (Ready last))) (flow_then g (flow units)))
          (sym goes)
          (tied_behind good [] (flow units (Ready last)) (flow units (Ready last))
          (tied_self good (flow units (Ready last))
          (units_good code layout links n units plain fits (Ready last) last_good))))
        where
          into_js : (item : Item) → Among items item ⊎ Among others item
              → Among (fold with_item once others) item
          into_js item (inl k) = into_fold once others item (inl (to_once item k))
          into_js item (inr k) = into_fold once others item (inr k)

          out_js : (item : Item) → Among (fold with_item once others) item
              → Among items item ⊎ Among others item
          out_js item k = by (out_of_fold once others item k)
            where
              by : Among once item ⊎ Among others item → Among items item ⊎ Among others item
              by (inl k) = inl (from_once item k)
              by (inr k) = inr k

      in_front : (units : List PlanUnit) → AllByRecursion IsPlain units
          → AllByRecursion (IsFit code layout) units
          → Tied (Like good) (flow_behind [] (flow units (Ready next)))
          (flow (joined_to once units) (Ready all))
      in_front [] plain fits = alone [] plain fits
      in_front (Single row ∷ units) plain fits = alone (Single row ∷ units) plain fits
      in_front (Exchange others ∷ units) plain fits =
          joins others fits.0 units plain.1 fits.1 (exchange_flow code links n others (Ready next))
          (exchanged code S next.shares links n agree_next others)

    front_by : (units : List PlanUnit) → AllByRecursion IsPlain units
        → AllByRecursion (IsFit code layout) units → (f : Flow Await)
        → Exchanged code (all.shares 0).slots all.shares links n is.agree items f
        → Tied (Like good) (flow_then f (flow units)) (flow (joined_to once units) (Ready all))
    front_by units plain fits f Wrongly = TiedWrong
    front_by units plain fits f (Rightly roomy said write) = in_front roomy said write units plain fits

  front : (items : List Item) → ((item : Item) → Among items item → FitsWell code layout item)
      → (units : List PlanUnit) → AllByRecursion IsPlain units
      → AllByRecursion (IsFit code layout) units → (s : Await) → good s
      → Tied (Like good) (flow_then (exchange_flow code links n items s) (flow units))
      (flow (joined_to (fold with_item [] items) units) s)
  front items fit units plain fits (Wanted group) is = TiedWrong
  front items fit units plain fits (Ready all) is =
      front_by items fit all is units plain fits (exchange_flow code links n items (Ready all))
      (exchanged code (all.shares 0).slots all.shares links n is.agree items)

  -- ---- all units
  ties : (units : List PlanUnit) → AllByRecursion IsPlain units
      → AllByRecursion (IsFit code layout) units → (s : Await) → good s
      → Tied (Like good) (flow units s) (flow (units_merged units) s)
  ties [] plain fit s is = tied_self good (OnTo [] s) is
  ties (Exchange items ∷ units) plain fit s is =
      tied_trans good (flow_then (exchange_flow code links n items s) (flow units))
      (flow_then (exchange_flow code links n items s) (flow (units_merged units)))
      (flow (joined_to (fold with_item [] items) (units_merged units)) s)
      (tied_then good (exchange_flow code links n items s) (flow units) (flow (units_merged units))
      (exchange_good code layout links n items s is) (λ t good_t. ties units plain.1 fit.1 t good_t))
      (front items fit.0 (units_merged units) (merged_plain units plain.1) (merged_fit units fit.1) s is)
  ties (Single row ∷ units) plain fit s is =
      tied_then good (through (await_act code links n) (row ∷ []) s) (flow units)
      (flow (units_merged units)) (row_good code layout links n row fit.0 plain.0 s is)
      (λ t good_t. ties units plain.1 fit.1 t good_t)

  quiet_good : (s : Await) → good s → NoFlights s
  quiet_good (Ready all) is = is.quiet_now
  quiet_good (Wanted group) is = tt

  merging : KeepsUnits code links n good (IsFit code layout) units_merged
  merging = record {
    none = refl;
    quiet = quiet_good;
    plain = merged_plain;
    ties = ties;
  }

pub merged_keep_runs : (code : Tables) (links : Option ℕ) → Fits code → HasThrees code
    → IsInUnits code → (a n : ℕ)
    → Keeps (plan_run code links a n) (plan_run (neighbours_merged code) links a n)
merged_keep_runs code links fits threes units a n =
    let layout : HasLayout code =
    record { grid = fits.grid; slots = fits.slots; arrays = fits.arrays; three = threes.arrays } in
    units_keep_runs code units_merged links n (IsGood code layout) (IsFit code layout)
    (merging code layout links n) fits units
    (code_fit code layout fits threes code.code fits.code threes.rows)
    (record { rank = 0; fit = tt }, tt) (good_start code layout) a
