-- Units of a plan keep its states good.
use Rattle.std.proofs.Common.{◌≡◌, ◌⊎◌, inl, inr, refl, sym, subst, ℕ, Bool, true, false, List, []}
use Rattle.std.proofs.Common.{◌∷◌, ◌++◌, Option, true≢false}
use Rattle.std.specs.Prelude.{◌||◌, if◌then◌else◌, fold}
use Rattle.std.specs.List.{AllByRecursion, list_any}
use Rattle.zpl_region.proofs.ListLemmas.{Among, Among-append_left, Among-append_right, among_appended}
use Rattle.node_form.specs.declared.arrays.Item.{Item}
use Rattle.node_form.specs.declared.instructions.Instr.{Instr}
use Rattle.node_form.specs.declared.tables.Tables.{Tables}
use Rattle.code_parts.specs.Exchanged.{is_among}
use Rattle.code_parts.specs.Uses.{is_item}
use Rattle.comm_combine.specs.of_plan_form.Units.{Exchange, PlanUnit, Single, with_item}
use Rattle.comm_combine.proofs.of_plan_form.ItemLemmas.{is_item-Decides}
use Rattle.row_runs.specs.Straight.{Flow, through}
use Rattle.needs_runs.specs.Agree.{HasLayout}
use Rattle.plan_passes.proofs.AwaitLemmas.{Await, Ready, Wanted, await_act}
use Rattle.plan_passes.proofs.EarlyLemmas.{IfOn, on_then}
use Rattle.plan_passes.proofs.FlowLemmas.{weaker_on}
use Rattle.plan_passes.proofs.GoodLemmas.{IsFit, IsGood, RowBehind, good_exchange, good_row}
use Rattle.plan_passes.proofs.SentLemmas.{Exchanged, Rightly, Wrongly, behind, exchanged}
use Rattle.plan_passes.proofs.UnitLemmas.{IsPlain, exchange_flow, units_flow}

-- ---- items, each once
is_there : (items : List Item) (item : Item) → is_among items item ≡ true → Among items item
is_there [] item e = absurd (true≢false (sym e))
is_there (other ∷ items) item e = by (is_item item other) refl e (is_there items item)
  where
    by : (b : Bool) → is_item item other ≡ b → (b || list_any (is_item item) items) ≡ true
        → (list_any (is_item item) items ≡ true → Among items item) → Among (other ∷ items) item
    by true is e more = inl (sym ((is_item-Decides item other).0 is))
    by false is e more = inr (more e)

pub among_is : (items : List Item) (item : Item) → is_among items item ≡ true → Among items item
among_is items item e = is_there items item e

with_there : (items : List Item) (item other : Item) → Among items other ⊎ (item ≡ other)
    → Among (with_item items item) other
with_there items item other k = by (is_among items item) refl k
  where
    by : (b : Bool) → is_among items item ≡ b → Among items other ⊎ (item ≡ other)
        → Among (if b then items else items ++ item ∷ []) other
    by true e (inl k) = k
    by true e (inr same) = subst (Among items) same (among_is items item e)
    by false e (inl k) = Among-append_left items (item ∷ []) other k
    by false e (inr same) = Among-append_right items (item ∷ []) other (inl same)

there_with : (items : List Item) (item other : Item) → Among (with_item items item) other
    → Among items other ⊎ (item ≡ other)
there_with items item other k = by (is_among items item) k
  where
    last : Among items other ⊎ Among (item ∷ []) other → Among items other ⊎ (item ≡ other)
    last (inl k) = inl k
    last (inr (inl same)) = inr same
    last (inr (inr none)) = absurd none

    by : (b : Bool) → Among (if b then items else items ++ item ∷ []) other
        → Among items other ⊎ (item ≡ other)
    by true k = inl k
    by false k = last (among_appended items (item ∷ []) other k)

pub into_fold : (items others : List Item) (item : Item) → Among items item ⊎ Among others item
    → Among (fold with_item items others) item
into_fold items [] item (inl k) = k
into_fold items [] item (inr k) = absurd k
into_fold items (other ∷ others) item (inl k) =
    into_fold (with_item items other) others item (inl (with_there items other item (inl k)))
into_fold items (other ∷ others) item (inr (inl same)) =
    into_fold (with_item items other) others item (inl (with_there items other item (inr same)))
into_fold items (other ∷ others) item (inr (inr k)) =
    into_fold (with_item items other) others item (inr k)

pub out_of_fold : (items others : List Item) (item : Item) → Among (fold with_item items others) item
    → Among items item ⊎ Among others item
out_of_fold items [] item k = inl k
out_of_fold items (other ∷ others) item k = by (out_of_fold (with_item items other) others item k)
  where
    first : Among items item ⊎ (other ≡ item) → Among items item ⊎ Among (other ∷ others) item
    first (inl k) = inl k
    first (inr same) = inr (inl same)

    by : Among (with_item items other) item ⊎ Among others item
        → Among items item ⊎ Among (other ∷ others) item
    by (inl k) = first (there_with items other item k)
    by (inr k) = inr (inr k)

-- ---- units
module _ (code : Tables) (layout : HasLayout code) (links : Option ℕ) (n : ℕ) where
  abbrev good : Await → Type 0
  good = IsGood code layout

  pub exchange_good : (items : List Item) (s : Await) → good s
      → IfOn good (exchange_flow code links n items s)
  exchange_good items (Wanted group) is = tt
  exchange_good items (Ready all) is =
      by (exchange_flow code links n items (Ready all))
      (exchanged code (all.shares 0).slots all.shares links n is.agree items)
    where
      by : (f : Flow Await)
          → Exchanged code (all.shares 0).slots all.shares links n is.agree items f → IfOn good f
      by f Wrongly = tt
      by f (Rightly roomy said write) = good_exchange code layout all is items write

  pub row_good : (row : Instr) → IsFit code layout (Single row) → IsPlain (Single row) → (s : Await)
      → good s → IfOn good (through (await_act code links n) (row ∷ []) s)
  row_good row fit plain (Wanted group) is = tt
  row_good row fit plain (Ready all) is =
      weaker_on (RowBehind code layout row all) good (λ s behind. by s behind)
      (through (await_act code links n) (row ∷ []) (Ready all))
      (good_row code layout links n row fit plain.0 plain.1 all is)
    where
      by : (s : Await) → RowBehind code layout row all s → good s
      by (Ready next) is = is.0
      by (Wanted group) is = tt

  pub units_good : (units : List PlanUnit) → AllByRecursion IsPlain units
      → AllByRecursion (IsFit code layout) units → (s : Await) → good s
      → IfOn good (units_flow code links n units s)
  units_good [] plain fit s is = is
  units_good (Exchange items ∷ units) plain fit s is =
      on_then good good (exchange_flow code links n items s) (units_flow code links n units)
      (exchange_good items s is) (λ t good_t. units_good units plain.1 fit.1 t good_t)
  units_good (Single row ∷ units) plain fit s is =
      on_then good good (through (await_act code links n) (row ∷ []) s) (units_flow code links n units)
      (row_good row fit.0 plain.0 s is) (λ t good_t. units_good units plain.1 fit.1 t good_t)
