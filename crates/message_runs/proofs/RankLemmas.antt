-- Regions in slots, and arrays of their ranks.
use Rattle.std.proofs.Common.{◌≡◌, sym, ◌∙◌, ap, subst, ℕ, Option, Some, None}
use Rattle.std.specs.Prelude.{slice_get, unwrap_or}
use Rattle.std.specs.Option.{IsSomeAnd}
use Rattle.zpl_region.specs.declared.regions.Region.{Region}
use Rattle.node_form.specs.declared.arrays.ArrayRow.{ArrayRow}
use Rattle.node_form.specs.declared.tables.Tables.{Tables}
use Rattle.node_form.specs.Fits.{HasArray, HasSlot}
use Rattle.grid_meaning.specs.Owner.{region_in}
use Rattle.grid_meaning.specs.Local.{Local}
use Rattle.grid_meaning.specs.State.{IsSlot}
use Rattle.grid_meaning.specs.Stored.{no_places}
use Rattle.flat_form.specs.Whole.{Whole}
use Rattle.plan_orders.specs.of_plan_meaning.Abreast.{Abreast}
use Rattle.needs_runs.specs.Holds.{Holds}
use Rattle.needs_runs.proofs.SlotLemmas.{zip_back}

pub array_rank : (code : Tables) (rank array : ℕ) (row : ArrayRow) → HasArray code rank array
    → slice_get code.arrays array ≡ Some row → row.rank ≡ rank
array_rank code rank array row fits there = by (slice_get code.arrays array) fits there
  where
    by : (o : Option ArrayRow) → IsSomeAnd o (λ row. row.rank ≡ rank) → o ≡ Some row
        → row.rank ≡ rank
    by (Some other) is e =
        let same : other ≡ row = cc in ap (λ (r : ArrayRow). r.rank) (sym same) ∙ is
    by None is e = absurd is

pub slot_is : (code : Tables) (whole : Whole) (all : Abreast) → Holds code whole all
    → (rank slot : ℕ) (region : Region) → HasSlot code rank slot
    → slice_get whole.slots slot ≡ Some region → IsSlot rank region
slot_is code whole all holds rank slot region fits here =
    let found = zip_back IsSlot code.slots whole.slots slot region holds.slots here in
    let same : found.0 ≡ rank = let f = fits in let g = found.1 in cc in
    subst (λ r. IsSlot r region) same found.2

pub region_is : (whole : Whole) (slot : ℕ) (region : Region)
    → slice_get whole.slots slot ≡ Some region → (local : Local) → local.slots ≡ whole.slots
    → region_in local slot ≡ region
region_is whole slot region here local same =
    ap (λ slots. unwrap_or (slice_get slots slot) (no_places 1)) same
    ∙ ap (λ o. unwrap_or o (no_places 1)) here
