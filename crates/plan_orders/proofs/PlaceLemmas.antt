-- Rows that don't look at their own number: where they stand matters to the number of the next row
-- alone, and to the tags of messages.
use Rattle.std.proofs.Common.{◌≡◌, ℕ, zero, suc, ◌==◌, Bool, true, false, ℤ, List, [], ◌∷◌, ◌++◌, length, map, Option, Some, None, option_map, option_and_then, refl, ◌∙◌, ap, ap₂}
use Rattle.std.proofs.Math.Path.{fun_ext}
use Rattle.zpl_arrays.specs.Row.{kept_values, running}
use Rattle.zpl_nums.specs.Fold.{folded}
use Rattle.zpl_nums.specs.declared.ends.Border.{Border}
use Rattle.zpl_nums.specs.declared.folds.Fold.{Fold}
use Rattle.zpl_region.specs.declared.regions.Region.{Region}
use Rattle.zpl_arrays.specs.Array.{Array}
use Rattle.grid_links.specs.Machine.{Goes as Moves}
use Rattle.node_form.specs.declared.arrays.Item.{Item}
use Rattle.node_form.specs.declared.tables.Tables.{Tables}
use Rattle.grid_meaning.specs.Action.{goes_on}
use Rattle.grid_meaning.specs.Collective.{Collective, Stage, Alone, Sends, TakesFrom, Last, others_where}
use Rattle.grid_meaning.specs.Delivery.{Delivery, delivered, each_word, with_words, combined_into, edging, flooding, parting, with_combined}
use Rattle.grid_meaning.specs.Exchange.{started, finished, words_written}
use Rattle.grid_meaning.specs.Gather.{gathered, gather_last, prints_gathered}
use Rattle.grid_meaning.specs.Local.{Local}
use Rattle.grid_meaning.specs.Owner.{region_in, tuples_of}
use Rattle.grid_meaning.specs.Place.{values_at, with_values}
use Rattle.grid_meaning.specs.Scan.{scanned_row, scan_value, scan_values, line_totals, line_heads, line_dim, line_of, with_lines, before_line, scan_last, scan_done}
use Rattle.row_orders.proofs.BlindLemmas.{IsBySlots, edging_by_slots, flooding_by_slots, parting_by_slots}
use Rattle.row_orders.specs.Rows.{taking, taken_where}
use Rattle.plan_orders.specs.Brings.{placed}
use Rattle.plan_orders.proofs.PrintLemmas.{IsLeft}
use Rattle.plan_orders.proofs.TestLemmas.{none_there}

pub record IsPlaceless (row : Collective) : Type 0 where
  pub stages : (local : Local) (at : ℕ) → row.stages (placed at local) ≡ row.stages local
  pub alone : (local : Local) (at : ℕ)
      → row.alone (placed at local) ≡ option_map (placed at) (row.alone local)
  pub words_to : (local : Local) (at q : ℕ)
      → row.words_to (placed at local) q ≡ row.words_to local q
  pub awaits : (local : Local) (at q many : ℕ)
      → row.awaits (placed at local) q many ≡ row.awaits local q many
  pub taken : (local : Local) (at q : ℕ) (words : List ℤ)
      → row.taken (placed at local) q words ≡ option_map (placed at) (row.taken local q words)
  pub last : (local : Local) (at : ℕ)
      → IsLeft at local (row.last local) (row.last (placed at local))

-- a row that goes on to the next one
pub goes_left : (local near : Local) (at : ℕ) (bytes : List ℕ)
    → IsLeft at near (Moves (goes_on local) None bytes)
    (Moves (goes_on (placed at local)) None bytes)
goes_left local near at bytes leaves =
    ap (λ ended. Moves (record (goes_on (placed at local)) { ended = ended }) None bytes)
    (none_there local.ended leaves)

-- ---- words taken one after another
pub taking_placed : (row : Collective) → IsPlaceless row → (words : ℕ → List ℤ) (at : ℕ)
    (from : List ℕ) (local : Local)
    → taking row words (placed at local) from ≡ option_map (placed at) (taking row words local from)
taking_placed row is words at [] local = refl
taking_placed row is words at (q ∷ from) local =
    ap₂ (λ b o. option_and_then (λ next. taking row words next from) (taken_where b o))
    (is.awaits local at q (length (words q))) (is.taken local at q (words q))
    ∙ by (row.awaits local q (length (words q))) (row.taken local q (words q))
    (λ next. taking_placed row is words at from next)
  where
    by : (b : Bool) (o : Option Local)
        → ((next : Local) → taking row words (placed at next) from
        ≡ option_map (placed at) (taking row words next from))
        → option_and_then (λ next. taking row words next from)
        (taken_where b (option_map (placed at) o))
        ≡ option_map (placed at)
        (option_and_then (λ next. taking row words next from) (taken_where b o))
    by true None rest = refl
    by true (Some next) rest = rest next
    by false o rest = refl

-- ---- a state with other stores
abbrev stored_in : Local → List Array → Local
stored_in local stores = record local { stores = stores }

stored_placed : (local : Local) (n : ℕ) (o : Option (List Array))
    → option_map (stored_in (placed n local)) o
    ≡ option_map (placed n) (option_map (stored_in local) o)
stored_placed local n None = refl
stored_placed local n (Some stores) = refl

-- ---- deliveries
module _ (code : Tables) (p : ℕ) (d : Delivery) (by : IsBySlots d)
    (same_word : (local : Local) (n : ℕ) → d.word (placed n local) ≡ d.word local) where
  abbrev stages_by : (ℕ → ℕ → List (List ℤ)) → List Stage
  stages_by targets =
      Alone ∷ (map Sends (others_where code p (λ q. length (targets p q)))
      ++ (map TakesFrom (others_where code p (λ q. length (targets q p))) ++ Last ∷ []))

  own_placed : (local : Local) (n : ℕ) (tuples : List (List ℤ)) (o : Option (List ℤ))
      → option_and_then (with_words d (placed n local) tuples) o
      ≡ option_map (placed n) (option_and_then (with_words d local tuples) o)
  own_placed local n tuples None = refl
  own_placed local n tuples (Some words) = stored_placed local n
      (with_values d.array tuples words local.stores)

  pub delivered_placeless : IsPlaceless (delivered code p d)
  delivered_placeless = record {
    stages = λ local n. ap stages_by (by.targets (placed n local) local refl);
    alone = λ local n.
        ap₂ (λ own word. option_and_then (with_words d (placed n local) own) (each_word word own))
        (by.own (placed n local) local refl) (same_word local n)
        ∙ own_placed local n (d.own local) (each_word (d.word local) (d.own local));
    words_to = λ local n q.
        ap₂ (λ targets word. each_word word (targets p q)) (by.targets (placed n local) local refl)
        (same_word local n);
    awaits = λ local n q many. ap (λ targets. many == length (targets q p))
        (by.targets (placed n local) local refl);
    taken = λ local n q words.
        ap (λ targets. with_combined d (placed n local) (targets q p) words)
        (by.targets (placed n local) local refl)
        ∙ stored_placed local n (combined_into d (d.targets local q p) words local.stores);
    last = λ local at. goes_left local local at [];
  }

pub edging_placeless : (code : Tables) (p : ℕ) (kind : Border) (array slot : ℕ) (shift : List ℤ)
    → IsPlaceless (delivered code p (edging code p kind array slot shift))
edging_placeless code p kind array slot shift =
    delivered_placeless code p (edging code p kind array slot shift)
    (edging_by_slots code p kind array slot shift) (λ local n. refl)

pub flooding_placeless : (code : Tables) (p array target from source : ℕ)
    → IsPlaceless (delivered code p (flooding code p array target from source))
flooding_placeless code p array target from source =
    delivered_placeless code p (flooding code p array target from source)
    (flooding_by_slots code p array target from source) (λ local n. refl)

pub parting_placeless : (code : Tables) (p array target : ℕ) (f : Fold) (from source : ℕ)
    → IsPlaceless (delivered code p (parting code p array target f from source))
parting_placeless code p array target f from source =
    delivered_placeless code p (parting code p array target f from source)
    (parting_by_slots code p array target f from source) (λ local n. refl)

-- ---- exchanges
pub started_placeless : (code : Tables) (p exchange : ℕ) (items : List Item)
    → IsPlaceless (started code p exchange items)
started_placeless code p exchange items = record {
  stages = λ local n. refl;
  alone = λ local n. refl;
  words_to = λ local n q. refl;
  awaits = λ local n q many. refl;
  taken = λ local n q words. refl;
  last = λ local at. goes_left local local at [];
}

pub finished_placeless : (code : Tables) (p exchange : ℕ) (items : List Item)
    → IsPlaceless (finished code p exchange items)
finished_placeless code p exchange items = record {
  stages = λ local n. refl;
  alone = λ local n. refl;
  words_to = λ local n q. refl;
  awaits = λ local n q many. refl;
  taken = λ local n q words. stored_placed local n
      (words_written code local q p items words local.stores);
  last = λ local at. goes_left local local at [];
}

-- ---- rows that keep words
prints_left : (code : Tables) (truth : Bool) (region : Region) (local : Local) (at : ℕ)
    (o : Option (List ℤ))
    → IsLeft at local (prints_gathered code truth region local o)
    (prints_gathered code truth region (placed at local) o)
prints_left code truth region local at None leaves = cc
prints_left code truth region local at (Some own) leaves = goes_left local local at _ leaves

gather_left : (code : Tables) (p : ℕ) (truth : Bool) (array : ℕ) (region : Region)
    (local : Local) (at : ℕ)
    → IsLeft at local (gather_last code p truth array region local)
    (gather_last code p truth array region (placed at local))
gather_left code zero truth array region local at leaves =
    prints_left code truth region local at (values_at local.stores array (tuples_of code 0 region))
    leaves
gather_left code (suc p) truth array region local at leaves = goes_left local local at [] leaves

pub gathered_placeless : (code : Tables) (p : ℕ) (truth : Bool) (array slot : ℕ)
    → IsPlaceless (gathered code p truth array slot)
gathered_placeless code p truth array slot = record {
  stages = λ local n. refl;
  alone = λ local n. refl;
  words_to = λ local n q. refl;
  awaits = λ local n q many. refl;
  taken = λ local n q words. refl;
  last = λ local at. gather_left code p truth array (region_in local slot) local at;
}

-- ---- `scan`
scan_value_placed : (local : Local) (n from : ℕ) (mask : Option ℕ) (t : List ℤ)
    → scan_value (placed n local) from mask t ≡ scan_value local from mask t
scan_value_placed local n from None t = refl
scan_value_placed local n from (Some mask) t = refl

scan_values_placed : (local : Local) (n from : ℕ) (mask : Option ℕ) (tuples : List (List ℤ))
    → scan_values (placed n local) from mask tuples ≡ scan_values local from mask tuples
scan_values_placed local n from mask [] = refl
scan_values_placed local n from mask (t ∷ tuples) =
    ap₂ (λ value rest. option_and_then (λ v. option_map (λ r. v ∷ r) rest) value)
    (scan_value_placed local n from mask t) (scan_values_placed local n from mask tuples)

module _ (code : Tables) (p : ℕ) (f : Fold) (along from : ℕ) (mask : Option ℕ) where
  totals_placed : (local : Local) (n : ℕ) (region : Region)
      → line_totals code p f along from mask (placed n local) region
      ≡ line_totals code p f along from mask local region
  totals_placed local n region =
      ap (λ total. each_word total (line_heads code p region (line_dim region along)))
      (fun_ext (λ head. ap (option_map (λ values. folded f (kept_values values)))
      (scan_values_placed local n from mask (line_of code p region (line_dim region along) head))))

  abbrev IsLines : ℕ → Local → Region → List ℤ → ℕ → List (List ℤ) → Local → Type 0
  IsLines array old region own n heads local =
      with_lines code p f along from mask array (placed n old) region own heads (placed n local)
      ≡ option_map (placed n)
      (with_lines code p f along from mask array old region own heads local)

  lines_placed : (array : ℕ) (old : Local) (region : Region) (own : List ℤ) (n : ℕ)
      (heads : List (List ℤ)) (local : Local)
      → IsLines array old region own n heads local
  lines_placed array old region own n [] local = refl
  lines_placed array old region own n (head ∷ heads) local =
      ap (λ o. option_and_then
      (with_lines code p f along from mask array (placed n old) region own heads)
      (option_and_then (λ values. option_map (stored_in (placed n local))
      (with_values array tuples (running f before values) local.stores)) o))
      (scan_values_placed old n from mask tuples)
      ∙ by (scan_values old from mask tuples) (λ l. lines_placed array old region own n heads l)
    where
      tuples : List (List ℤ)
      tuples = line_of code p region (line_dim region along) head

      before : ℤ
      before = before_line code p f along from mask old region own head

      by : (o : Option (List (Option ℤ))) → ((l : Local) → IsLines array old region own n heads l)
          → option_and_then (with_lines code p f along from mask array (placed n old) region own
          heads)
          (option_and_then (λ values. option_map (stored_in (placed n local))
          (with_values array tuples (running f before values) local.stores)) o)
          ≡ option_map (placed n)
          (option_and_then (with_lines code p f along from mask array old region own heads)
          (option_and_then (λ values. option_map (stored_in local)
          (with_values array tuples (running f before values) local.stores)) o))
      by None further = refl
      by (Some values) further = each
          (with_values array tuples (running f before values) local.stores) further
        where
          each : (o : Option (List Array)) → ((l : Local) → IsLines array old region own n heads l)
              → option_and_then (with_lines code p f along from mask array (placed n old) region
              own heads) (option_map (stored_in (placed n local)) o)
              ≡ option_map (placed n)
              (option_and_then (with_lines code p f along from mask array old region own heads)
              (option_map (stored_in local) o))
          each None further = refl
          each (Some stores) further = further (stored_in local stores)

  done_left : (at : ℕ) (near : Local) (o : Option Local)
      → IsLeft at near (scan_done code p f along from mask o)
      (scan_done code p f along from mask (option_map (placed at) o))
  done_left at near None leaves = cc
  done_left at near (Some local) leaves = goes_left local near at [] leaves

  scan_left : (array : ℕ) (local : Local) (at : ℕ) (region : Region)
      → IsLeft at local (scan_last code p f along from mask array local region)
      (scan_last code p f along from mask array (placed at local) region)
  scan_left array local at region leaves =
      ap (scan_done code p f along from mask)
      (ap (λ o. option_and_then (λ own. with_lines code p f along from mask array
      (placed at local) region own heads (placed at local)) o) (totals_placed local at region)
      ∙ by (line_totals code p f along from mask local region))
      ∙ done_left at local (option_and_then (λ own. with_lines code p f along from mask array local
      region own heads local) (line_totals code p f along from mask local region)) leaves
    where
      heads : List (List ℤ)
      heads = line_heads code p region (line_dim region along)

      by : (o : Option (List ℤ))
          → option_and_then (λ own. with_lines code p f along from mask array (placed at local)
          region own heads (placed at local)) o
          ≡ option_map (placed at) (option_and_then (λ own. with_lines code p f along from mask
          array local region own heads local) o)
      by None = refl
      by (Some own) = lines_placed array local region own at heads local

pub scanned_placeless : (code : Tables) (p : ℕ) (f : Fold) (along from : ℕ) (mask : Option ℕ)
    (array slot : ℕ)
    → IsPlaceless (scanned_row code p f along from mask array slot)
scanned_placeless code p f along from mask array slot = record {
  stages = λ local n. refl;
  alone = λ local n. refl;
  words_to = λ local n q. totals_placed code p f along from mask local n (region_in local slot);
  awaits = λ local n q many. refl;
  taken = λ local n q words. refl;
  last = λ local at. scan_left code p f along from mask array local at (region_in local slot);
}
