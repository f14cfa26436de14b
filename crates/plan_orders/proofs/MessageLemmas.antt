-- The rows with messages, row by row.
use Rattle.std.proofs.Common.{◌≤◌, not, ◌≡◌, ℕ, zero, suc, ◌+◌, ◌*◌, ◌<◌, ◌==◌, Bool, true, false, ℤ, List, [], ◌∷◌, length, slice_get, Option, Some, None, option_map, refl, ap, arith, if◌then◌else◌}
use Rattle.std.proofs.lemmas.Bool.{ne_eqb}
use Rattle.std.proofs.lemmas.List.Elements.{All-nil, All-cons}
use Rattle.zpl_nums.specs.declared.ends.Border.{Border}
use Rattle.zpl_nums.specs.declared.folds.Fold.{Fold}
use Rattle.grid_paths.specs.Path.{AreOthers}
use Rattle.node_form.specs.declared.arrays.Item.{Item}
use Rattle.node_form.specs.declared.instructions.Instr.{Instr}
use Rattle.node_form.specs.declared.instructions.Instr.TheVariants as instr
use Rattle.node_form.specs.declared.tables.Tables.{Tables}
use Rattle.grid_meaning.specs.Collective.{others, Sends, Last, others_where}
use Rattle.grid_meaning.specs.Delivery as delivery
use Rattle.grid_meaning.specs.Delivery.{Delivery, edging, flooding, parting}
use Rattle.grid_meaning.specs.Exchange as exchange
use Rattle.grid_meaning.specs.Gather.{gathered, gather_stages}
use Rattle.grid_meaning.specs.Grid.{IsCapacity}
use Rattle.grid_meaning.specs.Local.{processor_numbers, Local, processors}
use Rattle.grid_meaning.specs.Owner.{region_in, tuples_of}
use Rattle.grid_meaning.specs.Scan.{line_count, scanned_row}
use Rattle.row_orders.specs.Rows.{delivery_stages}
use Rattle.row_orders.proofs.BlindLemmas.{IsBySlots, delivered_blind, edging_by_slots, finished_blind, flooding_by_slots, gathered_blind, parting_by_slots, scanned_blind, started_blind}
use Rattle.row_orders.proofs.PartnerLemmas.{others_where_others}
use Rattle.row_runs.specs.Run.{Does}
use Rattle.plan_meaning.specs.Abreast.{locals_of}
use Rattle.plan_meaning.specs.Act.{found}
use Rattle.plan_meaning.specs.Messages.{finished, started}
use Rattle.plan_orders.proofs.TestLemmas.{fewer}
use Rattle.std.specs.Prelude.{nat_lt}
use Rattle.std.proofs.lemmas.List.FromFn.{length-range_with_len}
use Rattle.plan_orders.specs.Brings.{GoesWell, HasOrder}
use Rattle.plan_orders.proofs.DeliverLemmas.{IsDelivery, delivered_well, finished_well, receivers_of, senders_of, started_well}
use Rattle.plan_orders.proofs.PlaceLemmas.{IsPlaceless, edging_placeless, finished_placeless, flooding_placeless, gathered_placeless, parting_placeless, scanned_placeless, started_placeless}

-- ---- no more than all processors
pub others_few : (code : Tables) (p : ℕ) (many : ℕ → ℕ)
    → length (others_where code p many) ≤ processors code
others_few code p many =
    let one = fewer (λ q. nat_lt 0 (many q)) (others code p) in
    let two = fewer (λ q. not (q == p)) (processor_numbers code) in
    let all = length-range_with_len 0 (processors code) in
    omega (arith, one, two, all)

-- ---- their stages
module _ (code : Tables) (p : ℕ) where
  delivered_kind : (d : Delivery) → IsBySlots d → IsPlaceless (delivery.delivered code p d)
      → IsDelivery code p (delivery.delivered code p d)
  delivered_kind d by placeless = record {
    blind = delivered_blind code p d by;
    placeless = placeless;
    alone = λ local. true;
    to = λ local. others_where code p (λ q. length (d.targets local p q));
    from = λ local. others_where code p (λ q. length (d.targets local q p));
    stages = λ local. refl;
    to_others = λ local. others_where_others code p (λ q. length (d.targets local p q));
    from_others = λ local. others_where_others code p (λ q. length (d.targets local q p));
    few_to = λ local. others_few code p (λ q. length (d.targets local p q));
    few_from = λ local. others_few code p (λ q. length (d.targets local q p));
  }

  scanned_kind : (f : Fold) (along from : ℕ) (mask : Option ℕ) (array slot : ℕ)
      → IsDelivery code p (scanned_row code p f along from mask array slot)
  scanned_kind f along from mask array slot = record {
    blind = scanned_blind code p f along from mask array slot;
    placeless = scanned_placeless code p f along from mask array slot;
    alone = λ local. false;
    to = λ local. others_where code p (λ q. line_count code p f along from mask local slot p);
    from = λ local. others_where code p (line_count code p f along from mask local slot);
    stages = λ local. refl;
    to_others = λ local.
        others_where_others code p (λ q. line_count code p f along from mask local slot p);
    from_others = λ local.
        others_where_others code p (line_count code p f along from mask local slot);
    few_to = λ local. others_few code p (λ q. line_count code p f along from mask local slot p);
    few_from = λ local. others_few code p (line_count code p f along from mask local slot);
  }

  started_kind : (number : ℕ) (items : List Item)
      → IsDelivery code p (exchange.started code p number items)
  started_kind number items = record {
    blind = started_blind code p number items;
    placeless = started_placeless code p number items;
    alone = λ local. false;
    to = λ local. others_where code p (exchange.word_count code local items p);
    from = λ local. [];
    stages = λ local. refl;
    to_others = λ local. others_where_others code p (exchange.word_count code local items p);
    from_others = λ local. All-nil _;
    few_to = λ local. others_few code p (exchange.word_count code local items p);
    few_from = λ local. omega arith;
  }

  finished_kind : (number : ℕ) (items : List Item)
      → IsDelivery code p (exchange.finished code p number items)
  finished_kind number items = record {
    blind = finished_blind code p number items;
    placeless = finished_placeless code p number items;
    alone = λ local. false;
    to = λ local. [];
    from = λ local. others_where code p (λ q. exchange.word_count code local items q p);
    stages = λ local. refl;
    to_others = λ local. All-nil _;
    from_others = λ local.
        others_where_others code p (λ q. exchange.word_count code local items q p);
    few_to = λ local. omega arith;
    few_from = λ local. others_few code p (λ q. exchange.word_count code local items q p);
  }

-- processor 0 takes, and the others send to it
abbrev gather_to : Tables → ℕ → ℕ → Local → List ℕ
gather_to code slot zero local = []
gather_to code slot (suc p) local =
    if length (tuples_of code (suc p) (region_in local slot)) == 0 then [] else 0 ∷ []

abbrev gather_from : Tables → ℕ → ℕ → Local → List ℕ
gather_from code slot zero local =
    others_where code 0 (λ q. length (tuples_of code q (region_in local slot)))
gather_from code slot (suc p) local = []

gather_shape : (code : Tables) (slot p : ℕ) (local : Local)
    → gather_stages code p (region_in local slot)
    ≡ delivery_stages false (gather_to code slot p local) (gather_from code slot p local)
gather_shape code slot zero local = refl
gather_shape code slot (suc p) local =
    by (length (tuples_of code (suc p) (region_in local slot)) == 0)
  where
    by : (b : Bool)
        → (if b then Last ∷ [] else Sends 0 ∷ Last ∷ [])
        ≡ delivery_stages false (if b then [] else 0 ∷ []) []
    by true = refl
    by false = refl

gather_to_others : (code : Tables) (slot p : ℕ) (local : Local) → p < processors code
    → AreOthers (processors code) p (gather_to code slot p local)
gather_to_others code slot zero local below = All-nil _
gather_to_others code slot (suc p) local below =
    by (length (tuples_of code (suc p) (region_in local slot)) == 0)
  where
    by : (b : Bool) → AreOthers (processors code) (suc p) (if b then [] else 0 ∷ [])
    by true = All-nil _
    by false =
        All-cons (λ q. (q < processors code) × ((q == suc p) ≡ false)) 0 []
        (omega (arith, below), ne_eqb 0 (suc p) (λ same. cc)) (All-nil _)

gather_from_others : (code : Tables) (slot p : ℕ) (local : Local)
    → AreOthers (processors code) p (gather_from code slot p local)
gather_from_others code slot zero local =
    others_where_others code 0 (λ q. length (tuples_of code q (region_in local slot)))
gather_from_others code slot (suc p) local = All-nil _

gather_to_few : (code : Tables) (slot p : ℕ) (local : Local) → p < processors code
    → length (gather_to code slot p local) ≤ processors code
gather_to_few code slot zero local below = omega arith
gather_to_few code slot (suc p) local below =
    by (length (tuples_of code (suc p) (region_in local slot)) == 0)
  where
    by : (b : Bool)
        → length (let to : List ℕ = if b then [] else 0 ∷ [] in to) ≤ processors code
    by true = omega arith
    by false = omega (arith, below)

gather_from_few : (code : Tables) (slot p : ℕ) (local : Local)
    → length (gather_from code slot p local) ≤ processors code
gather_from_few code slot zero local =
    others_few code 0 (λ q. length (tuples_of code q (region_in local slot)))
gather_from_few code slot (suc p) local = omega arith

gathered_kind : (code : Tables) (p : ℕ) → p < processors code → (truth : Bool) (array slot : ℕ)
    → IsDelivery code p (gathered code p truth array slot)
gathered_kind code p below truth array slot = record {
  blind = gathered_blind code p truth array slot;
  placeless = gathered_placeless code p truth array slot;
  alone = λ local. false;
  to = gather_to code slot p;
  from = gather_from code slot p;
  stages = λ local. gather_shape code slot p local;
  to_others = λ local. gather_to_others code slot p local below;
  from_others = λ local. gather_from_others code slot p local;
  few_to = λ local. gather_to_few code slot p local below;
  few_from = λ local. gather_from_few code slot p local;
}

-- ---- the rows
module _ (code : Tables) (links : Option ℕ) (capable : IsCapacity links) (n at : ℕ)
    (next : Option Instr) where
  abbrev Here : Instr → Type 0
  Here row = slice_get code.code at ≡ Some row

  abbrev Ordered : Instr → Type 0
  Ordered row = HasOrder code links n at row next

  pub edge_ordered : (kind : Border) (array slot : ℕ) (shift : List ℤ)
      → Here (instr.Edge kind array slot shift) → Ordered (instr.Edge kind array slot shift)
  edge_ordered kind array slot shift here all open_now =
      delivered_well code links at (instr.Edge kind array slot shift) here
      (λ p. delivery.edged code p kind array slot shift) (λ p. refl)
      (λ p below. delivered_kind code p (edging code p kind array slot shift)
      (edging_by_slots code p kind array slot shift)
      (edging_placeless code p kind array slot shift))
      (2 * at + 1) (λ p local. refl) all n capable

  pub flood_ordered : (array target from source : ℕ)
      → Here (instr.Flood array target from source)
      → Ordered (instr.Flood array target from source)
  flood_ordered array target from source here all open_now =
      delivered_well code links at (instr.Flood array target from source) here
      (λ p. delivery.flooded code p array target from source) (λ p. refl)
      (λ p below. delivered_kind code p (flooding code p array target from source)
      (flooding_by_slots code p array target from source)
      (flooding_placeless code p array target from source))
      (2 * at + 1) (λ p local. refl) all n capable

  pub part_ordered : (array target : ℕ) (f : Fold) (from source : ℕ)
      → Here (instr.Part array target f from source)
      → Ordered (instr.Part array target f from source)
  part_ordered array target f from source here all open_now =
      delivered_well code links at (instr.Part array target f from source) here
      (λ p. delivery.parted code p array target f from source) (λ p. refl)
      (λ p below. delivered_kind code p (parting code p array target f from source)
      (parting_by_slots code p array target f from source)
      (parting_placeless code p array target f from source))
      (2 * at + 1) (λ p local. refl) all n capable

  pub scan_ordered : (array slot : ℕ) (f : Fold) (along from : ℕ) (mask : Option ℕ)
      → Here (instr.Scan array slot f along from mask)
      → Ordered (instr.Scan array slot f along from mask)
  scan_ordered array slot f along from mask here all open_now =
      delivered_well code links at (instr.Scan array slot f along from mask) here
      (λ p. scanned_row code p f along from mask array slot) (λ p. refl)
      (λ p below. scanned_kind code p f along from mask array slot)
      (2 * at + 1) (λ p local. refl) all n capable

  pub gather_ordered : (truth : Bool) (array slot : ℕ) → Here (instr.Gather truth array slot)
      → Ordered (instr.Gather truth array slot)
  gather_ordered truth array slot here all open_now =
      delivered_well code links at (instr.Gather truth array slot) here
      (λ p. gathered code p truth array slot) (λ p. refl)
      (λ p below. gathered_kind code p below truth array slot)
      (2 * at + 1) (λ p local. refl) all n capable

  pub start_ordered : (number : ℕ) → Here (instr.Start number) → Ordered (instr.Start number)
  start_ordered number here all open_now = by (slice_get code.exchanges number) refl
    where
      by : (items : Option (List Item)) → slice_get code.exchanges number ≡ items
          → GoesWell code links n at all (Does (found items (λ items.
          started code (λ p. exchange.started code p number items) all links number)))
      by None is = tt
      by (Some items) is =
          started_well code links at (instr.Start number) here
          (λ p. exchange.started code p number items)
          (λ p. ap (option_map (exchange.started code p number)) is)
          (λ p below. started_kind code p number items) (2 * number) (λ p local. refl) all n number
          open_now refl
          (λ p. senders_of false (others_where code p (exchange.word_count code
          (locals_of all p) items p)) [])

  pub finish_ordered : (number : ℕ) → Here (instr.Finish number) → Ordered (instr.Finish number)
  finish_ordered number here all open_now = by (slice_get code.exchanges number) refl
    where
      by : (items : Option (List Item)) → slice_get code.exchanges number ≡ items
          → GoesWell code links n at all (Does (found items (λ items.
          finished code (λ p. exchange.finished code p number items) all number)))
      by None is = tt
      by (Some items) is =
          finished_well code links at (instr.Finish number) here
          (λ p. exchange.finished code p number items)
          (λ p. ap (option_map (exchange.finished code p number)) is)
          (λ p below. finished_kind code p number items) (2 * number) (λ p local. refl) all n
          number open_now refl
          (λ p. receivers_of false [] (others_where code p (λ q. exchange.word_count code
          (locals_of all p) items q p)))
