-- All exchanges in front of a loop, one after another: behind them each processor has what its part
-- of the loop reads with a shift.
use Rattle.std.proofs.Common.{◌≡◌, refl, sym, ◌∙◌, ap, ℕ, ◌<◌, true, List, [], ◌∷◌, length, map, ℤ, Option, Some}
use Rattle.std.specs.Prelude.{slice_get}
use Rattle.std.specs.List.{flat_map}
use Rattle.zpl_region.specs.declared.regions.Region.{Region}
use Rattle.zpl_region.specs.Region.{IsMember, components}
use Rattle.zpl_arrays.specs.Array.{Array, element, has_place}
use Rattle.code_parts.specs.Early.{is_roomy}
use Rattle.node_form.specs.declared.arrays.ArrayRow.{ArrayRow}
use Rattle.node_form.specs.declared.arrays.Item.{Item}
use Rattle.node_form.specs.declared.tables.Tables.{Tables}
use Rattle.row_runs.specs.Run.{Step}
use Rattle.row_runs.specs.Straight.{Every, Flow, OnTo, flow_behind, flow_of, through}
use Rattle.plan_meaning.specs.of_grid_meaning.Exchange as exchange
use Rattle.plan_meaning.specs.of_grid_meaning.Local.{processors}
use Rattle.plan_meaning.specs.of_grid_meaning.Place.{moved_by, own_part, value_at}
use Rattle.plan_meaning.specs.of_grid_meaning.State.{IsSlot}
use Rattle.plan_meaning.specs.of_flat_form.Right.{each_covers}
use Rattle.plan_meaning.specs.of_flat_form.Static.{is_in_fringe}
use Rattle.plan_meaning.specs.of_flat_form.Whole.{Whole}
use Rattle.comm_needs.specs.of_plan_form.Units.{PlanRow, unit_rows}
use Rattle.comm_needs.specs.Needs.{needed_alone}
use Rattle.plan_meaning.specs.Abreast.{Abreast}
use Rattle.plan_meaning.specs.Messages.{finished}
use Rattle.needs_runs.specs.Agree.{HasLayout}
use Rattle.needs_runs.specs.Holds.{Holds}
use Rattle.needs_runs.specs.Planned.{planned_does}
use Rattle.needs_runs.proofs.BringLemmas.{value_held}
use Rattle.needs_runs.proofs.ExchangeLemmas.{behind_finish, brought, finishes, holds_behind, keeps_behind, starts}
use Rattle.needs_runs.proofs.PlaceLemmas.{held_there}

module _ (code : Tables) (layout : HasLayout code) (links : Option ℕ)
    (roomy : is_roomy links 0 ≡ true) (n : ℕ) (whole : Whole) (region : Region) where
  -- an item whose places the whole array has for each tuple of the region
  pub record IsNeeded (item : Item) : Type 0 where
    pub row : ArrayRow
    pub there : slice_get code.arrays item.array ≡ Some row
    pub told : row.stored ≡ true
    pub long : length item.shift ≡ 3
    pub flat_shift : components row.rank item.shift ≡ item.shift
    pub slot_is : IsSlot row.rank region
    pub in_slot : slice_get whole.slots item.slot ≡ Some region
    pub store : Array
    pub held_whole : slice_get whole.stores item.array ≡ Some store
    pub covers : each_covers row.dims region.dims ≡ true
    pub fringe : is_in_fringe row.dims item.shift ≡ true
    pub places : (p : ℕ) → p < processors code → (t : List ℤ) → IsMember (own_part code p region) t
        → has_place store.storage (moved_by item.shift t) ≡ true

  -- each processor has what it reads for the item
  abbrev pub HasBrought : Abreast → Item → Type 0
  HasBrought all item =
      (p : ℕ) → p < processors code → (t : List ℤ) → IsMember (own_part code p region) t
      → value_at (all.shares p).stores item.array (moved_by item.shift t)
      ≡ value_at whole.stores item.array (moved_by item.shift t)

  -- what a processor had right it has right still
  abbrev pub KeepsRight : Abreast → Abreast → Type 0
  KeepsRight all next =
      (p : ℕ) → p < processors code → (other : ℕ) (u : List ℤ) (value : ℤ)
      → value_at whole.stores other u ≡ Some value
      → value_at (all.shares p).stores other u ≡ Some value
      → value_at (next.shares p).stores other u ≡ Some value

  pub record AreBrought (all : Abreast) (items : List Item) : Type 0 where
    pub next : Abreast
    pub goes : through (planned_does code links n) (flat_map unit_rows (map needed_alone items)) all
        ≡ OnTo [] next
    pub holds : Holds code whole next
    pub has : Every (HasBrought next) items
    pub keeps : KeepsRight all next

  still_brought : (all next : Abreast) (item : Item) → IsNeeded item → KeepsRight all next
      → HasBrought all item → HasBrought next item
  still_brought all next item needed keeps had p below t own =
      let w = moved_by item.shift t in
      let value : value_at whole.stores item.array w ≡ Some (element needed.store w) =
      value_held whole.stores item.array needed.store w needed.held_whole
      ∙ held_there w needed.store (needed.places p below t own) in
      keeps p below item.array w (element needed.store w) value (had p below t own ∙ value) ∙ sym value

  abbrev finish_step : Item → Abreast → Step Abreast
  finish_step item all = finished code (λ p. exchange.finished code p 0 (item ∷ [])) all 0

  nothing_more : (flow : Flow Abreast) (next : Abreast) → flow ≡ OnTo [] next
      → flow_behind [] (flow_behind [] flow) ≡ OnTo [] next
  nothing_more flow next is = ap (λ f. flow_behind [] (flow_behind [] f)) is

  pub needs_brought : (items : List Item) → Every IsNeeded items → (all : Abreast)
      → Holds code whole all → AreBrought all items
  needs_brought [] needed all holds = record {
    next = all;
    goes = refl;
    holds = holds;
    has = tt;
    keeps = λ p below other u value whole_has own_has. own_has;
  }
  needs_brought (item ∷ items) needed all holds =
      let one = needed.0 in
      let behind = behind_finish code layout links roomy 0 item.array item.slot item.shift one.row one.there one.told one.long one.flat_shift
      whole all holds one.store one.held_whole region one.in_slot one.slot_is in
      let rows : List PlanRow = flat_map unit_rows (map needed_alone items) in
      let rest = needs_brought items needed.1 behind
      (holds_behind code layout links roomy 0 item.array item.slot item.shift one.row one.there one.told one.long one.flat_shift
      whole all holds one.store one.held_whole region one.in_slot one.slot_is) in
      let first : HasBrought behind item = λ p below t own.
      brought code layout links roomy 0 item.array item.slot item.shift one.row one.there one.told one.long one.flat_shift
      whole all holds one.store one.held_whole region one.in_slot one.slot_is p below t own one.covers (one.places p below t own) one.fringe in
      record {
        next = rest.next;
        goes =
            ap (λ step. flow_of step (λ all. flow_of (finish_step item all) (λ all. through (planned_does code links n) rows all)))
            (starts code layout links roomy 0 item.array item.slot item.shift one.row one.there one.told one.long one.flat_shift
            whole all holds one.store one.held_whole region one.in_slot one.slot_is)
            ∙ (ap (λ step. flow_behind [] (flow_of step (λ all. through (planned_does code links n) rows all)))
            (finishes code layout links roomy 0 item.array item.slot item.shift one.row one.there one.told one.long one.flat_shift
            whole all holds one.store one.held_whole region one.in_slot one.slot_is)
            ∙ nothing_more (through (planned_does code links n) rows behind) rest.next rest.goes);
        holds = rest.holds;
        has = (still_brought behind rest.next item one rest.keeps first, rest.has);
        keeps = λ p below other u value whole_has own_has.
            rest.keeps p below other u value whole_has
            (keeps_behind code layout links roomy 0 item.array item.slot item.shift one.row one.there one.told one.long one.flat_shift
            whole all holds one.store one.held_whole region one.in_slot one.slot_is p below other u value whole_has own_has);
      }
