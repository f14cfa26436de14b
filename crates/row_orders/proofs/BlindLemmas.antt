-- Each row but `remap` is blind: it sees the turns that were made in its stages alone.
use Rattle.std.proofs.Common.{◌≡◌, ℕ, zero, suc, ◌==◌, Bool, ℤ, List, [], ◌∷◌, ◌++◌, length, map, Option, Some, None, option_map, option_and_then, slice_get, refl, ◌∙◌, ap, ap₂, subst}
use Rattle.std.specs.Prelude.{unwrap_or}
use Rattle.std.proofs.Math.Path.{fun_ext}
use Rattle.grid_meaning.specs.of_zpl_arrays.Row.{kept_values, running}
use Rattle.zpl_nums.specs.Fold.{folded}
use Rattle.zpl_nums.specs.declared.ends.Border.{Border}
use Rattle.zpl_nums.specs.declared.folds.Fold.{Fold}
use Rattle.zpl_region.specs.declared.regions.Region.{Region}
use Rattle.grid_meaning.specs.of_zpl_arrays.Array.{Array}
use Rattle.grid_meaning.specs.of_node_form.declared.arrays.Item.{Item}
use Rattle.grid_meaning.specs.of_node_form.declared.tables.Tables.{Tables}
use Rattle.grid_meaning.specs.Collective.{Collective, Stage, Alone, Sends, TakesFrom, Last, others_where, keeping}
use Rattle.grid_meaning.specs.Delivery.{Delivery, delivered, each_word, with_words, with_combined, combined_into, edging, flooding, parting, border_targets, flood_targets, part_targets}
use Rattle.grid_meaning.specs.Exchange.{started, finished, words_written}
use Rattle.grid_meaning.specs.Gather.{gathered, gather_last, prints_gathered}
use Rattle.grid_meaning.specs.Local.{Local}
use Rattle.grid_meaning.specs.Owner.{region_in, tuples_of}
use Rattle.grid_meaning.specs.Place.{values_at, with_values}
use Rattle.grid_meaning.specs.Scan.{scanned_row, scan_value, scan_values, line_totals, line_heads, line_dim, line_of, with_lines, before_line, scan_last, scan_done}
use Rattle.grid_meaning.specs.Stored.{no_places}
use Rattle.row_orders.specs.Rows.{at_turn, KeepsRow, IsBlind}

-- ---- a state with other stores
abbrev stored_in : Local → List Array → Local
stored_in local stores = record local { stores = stores }

stored_blind : (local : Local) (n : ℕ) (o : Option (List Array))
    → option_map (stored_in (at_turn n local)) o
    ≡ option_map (at_turn n) (option_map (stored_in local) o)
stored_blind local n None = refl
stored_blind local n (Some stores) = refl

abbrev KeepsWhere : Collective → Local → Option Local → Type 0
KeepsWhere row local o = (next : Local) → o ≡ Some next → KeepsRow row local next

stored_keeps : (row : Collective) (local : Local)
    → ((stores : List Array) → KeepsRow row local (stored_in local stores))
    → (o : Option (List Array)) → KeepsWhere row local (option_map (stored_in local) o)
stored_keeps row local keeps None next e = cc
stored_keeps row local keeps (Some stores) next e =
    let same : stored_in local stores ≡ next = cc in subst (KeepsRow row local) same (keeps stores)

kept_keeps : (row : Collective) (local : Local) (q : ℕ) (words : List ℤ)
    → KeepsRow row local (keeping local q words)
    → KeepsWhere row local (Some (keeping local q words))
kept_keeps row local q words keeps next e = let same : keeping local q words
    ≡ next = cc in subst (KeepsRow row local) same keeps

-- ---- deliveries: what is sent to whom goes by the slots
pub record IsBySlots (d : Delivery) : Type 0 where
  pub targets : (a b : Local) → a.slots ≡ b.slots → d.targets a ≡ d.targets b
  pub own : (a b : Local) → a.slots ≡ b.slots → d.own a ≡ d.own b
  pub word : (local : Local) (n : ℕ) → d.word (at_turn n local) ≡ d.word local

module _ (code : Tables) (p : ℕ) (d : Delivery) (by : IsBySlots d) where
  abbrev stages_by : (ℕ → ℕ → List (List ℤ)) → List Stage
  stages_by targets =
      Alone ∷ (map Sends (others_where code p (λ q. length (targets p q)))
      ++ (map TakesFrom (others_where code p (λ q. length (targets q p))) ++ Last ∷ []))

  stays : (local : Local) (stores : List Array)
      → KeepsRow (delivered code p d) local (stored_in local stores)
  stays local stores = record {
    at = refl;
    ended = refl;
    stages = ap stages_by (by.targets (stored_in local stores) local refl);
    tag = refl;
  }

  own_blind : (local : Local) (n : ℕ) (tuples : List (List ℤ)) (o : Option (List ℤ))
      → option_and_then (with_words d (at_turn n local) tuples) o
      ≡ option_map (at_turn n) (option_and_then (with_words d local tuples) o)
  own_blind local n tuples None = refl
  own_blind local n tuples (Some words) = stored_blind local n
      (with_values d.array tuples words local.stores)

  own_keeps : (local : Local) (tuples : List (List ℤ)) (o : Option (List ℤ))
      → KeepsWhere (delivered code p d) local (option_and_then (with_words d local tuples) o)
  own_keeps local tuples None next e = cc
  own_keeps local tuples (Some words) next e =
      stored_keeps (delivered code p d) local (stays local)
      (with_values d.array tuples words local.stores) next e

  pub delivered_blind : IsBlind (delivered code p d)
  delivered_blind = record {
    stages = λ local n. ap stages_by (by.targets (at_turn n local) local refl);
    tag = λ local n. refl;
    alone = λ local n.
        ap₂ (λ own word. option_and_then (with_words d (at_turn n local) own) (each_word word own))
        (by.own (at_turn n local) local refl) (by.word local n)
        ∙ own_blind local n (d.own local) (each_word (d.word local) (d.own local));
    words_to = λ local n q.
        ap₂ (λ targets word. each_word word (targets p q)) (by.targets (at_turn n local) local refl)
        (by.word local n);
    awaits = λ local n q many. ap (λ targets. many == length (targets q p))
        (by.targets (at_turn n local) local refl);
    taken = λ local n q words.
        ap (λ targets. with_combined d (at_turn n local) (targets q p) words)
        (by.targets (at_turn n local) local refl)
        ∙ stored_blind local n (combined_into d (d.targets local q p) words local.stores);
    last = λ local n. refl;
    keeps_alone = λ local next e. own_keeps local (d.own local)
        (each_word (d.word local) (d.own local)) next e;
    keeps_taken = λ local next q words e.
        stored_keeps (delivered code p d) local (stays local)
        (combined_into d (d.targets local q p) words local.stores) next e;
  }

abbrev region_of : List Region → ℕ → Region
region_of slots slot = unwrap_or (slice_get slots slot) (no_places 1)

pub edging_by_slots : (code : Tables) (p : ℕ) (kind : Border) (array slot : ℕ) (shift : List ℤ)
    → IsBySlots (edging code p kind array slot shift)
edging_by_slots code p kind array slot shift = record {
  targets = λ a b same. ap (λ slots. border_targets code kind (region_of slots slot) shift) same;
  own = λ a b same. ap (λ slots. border_targets code kind (region_of slots slot) shift p p) same;
  word = λ local n. refl;
}

pub flooding_by_slots : (code : Tables) (p array target from source : ℕ)
    → IsBySlots (flooding code p array target from source)
flooding_by_slots code p array target from source = record {
  targets = λ a b same. ap
      (λ slots. flood_targets code (region_of slots target) (region_of slots source)) same;
  own = λ a b same. ap (λ slots. flood_targets code (region_of slots target)
      (region_of slots source) p p) same;
  word = λ local n. refl;
}

pub parting_by_slots : (code : Tables) (p array target : ℕ) (f : Fold) (from source : ℕ)
    → IsBySlots (parting code p array target f from source)
parting_by_slots code p array target f from source = record {
  targets = λ a b same. ap
      (λ slots. part_targets code (region_of slots target) (region_of slots source)) same;
  own = λ a b same. ap (λ slots. tuples_of code p (region_of slots target)) same;
  word = λ local n. refl;
}

-- ---- exchanges
pub started_blind : (code : Tables) (p exchange : ℕ) (items : List Item)
    → IsBlind (started code p exchange items)
started_blind code p exchange items = record {
  stages = λ local n. refl;
  tag = λ local n. refl;
  alone = λ local n. refl;
  words_to = λ local n q. refl;
  awaits = λ local n q many. refl;
  taken = λ local n q words. refl;
  last = λ local n. refl;
  keeps_alone = λ local next e. cc;
  keeps_taken = λ local next q words e. cc;
}

pub finished_blind : (code : Tables) (p exchange : ℕ) (items : List Item)
    → IsBlind (finished code p exchange items)
finished_blind code p exchange items = record {
  stages = λ local n. refl;
  tag = λ local n. refl;
  alone = λ local n. refl;
  words_to = λ local n q. refl;
  awaits = λ local n q many. refl;
  taken = λ local n q words. stored_blind local n
      (words_written code local q p items words local.stores);
  last = λ local n. refl;
  keeps_alone = λ local next e. cc;
  keeps_taken = λ local next q words e.
      stored_keeps (finished code p exchange items) local
      (λ stores. record { at = refl; ended = refl; stages = refl; tag = refl })
      (words_written code local q p items words local.stores) next e;
}

-- ---- rows that keep words
prints_blind : (code : Tables) (truth : Bool) (region : Region) (local : Local) (n : ℕ)
    (o : Option (List ℤ))
    → prints_gathered code truth region (at_turn n local) o
    ≡ prints_gathered code truth region local o
prints_blind code truth region local n None = refl
prints_blind code truth region local n (Some own) = refl

gather_last_blind : (code : Tables) (p : ℕ) (truth : Bool) (array : ℕ) (region : Region)
    (local : Local) (n : ℕ)
    → gather_last code p truth array region (at_turn n local)
    ≡ gather_last code p truth array region local
gather_last_blind code zero truth array region local n =
    prints_blind code truth region local n (values_at local.stores array (tuples_of code 0 region))
gather_last_blind code (suc p) truth array region local n = refl

pub gathered_blind : (code : Tables) (p : ℕ) (truth : Bool) (array slot : ℕ)
    → IsBlind (gathered code p truth array slot)
gathered_blind code p truth array slot = record {
  stages = λ local n. refl;
  tag = λ local n. refl;
  alone = λ local n. refl;
  words_to = λ local n q. refl;
  awaits = λ local n q many. refl;
  taken = λ local n q words. refl;
  last = λ local n. gather_last_blind code p truth array (region_in local slot) local n;
  keeps_alone = λ local next e. cc;
  keeps_taken = λ local next q words e.
      kept_keeps (gathered code p truth array slot) local q words
      (record { at = refl; ended = refl; stages = refl; tag = refl }) next e;
}

-- ---- `scan`
scan_value_blind : (local : Local) (n from : ℕ) (mask : Option ℕ) (t : List ℤ)
    → scan_value (at_turn n local) from mask t ≡ scan_value local from mask t
scan_value_blind local n from None t = refl
scan_value_blind local n from (Some mask) t = refl

scan_values_blind : (local : Local) (n from : ℕ) (mask : Option ℕ) (tuples : List (List ℤ))
    → scan_values (at_turn n local) from mask tuples ≡ scan_values local from mask tuples
scan_values_blind local n from mask [] = refl
scan_values_blind local n from mask (t ∷ tuples) =
    ap₂ (λ value rest. option_and_then (λ v. option_map (λ r. v ∷ r) rest) value)
    (scan_value_blind local n from mask t) (scan_values_blind local n from mask tuples)

module _ (code : Tables) (p : ℕ) (f : Fold) (along from : ℕ) (mask : Option ℕ) where
  totals_blind : (local : Local) (n : ℕ) (region : Region)
      → line_totals code p f along from mask (at_turn n local) region
      ≡ line_totals code p f along from mask local region
  totals_blind local n region =
      ap (λ total. each_word total (line_heads code p region (line_dim region along)))
      (fun_ext (λ head. ap (option_map (λ values. folded f (kept_values values)))
      (scan_values_blind local n from mask (line_of code p region (line_dim region along) head))))

  abbrev IsLines : ℕ → Local → Region → List ℤ → ℕ → List (List ℤ) → Local → Type 0
  IsLines array old region own n heads local =
      with_lines code p f along from mask array (at_turn n old) region own heads (at_turn n local)
      ≡ option_map (at_turn n)
      (with_lines code p f along from mask array old region own heads local)

  lines_blind : (array : ℕ) (old : Local) (region : Region) (own : List ℤ) (n : ℕ)
      (heads : List (List ℤ)) (local : Local)
      → IsLines array old region own n heads local
  lines_blind array old region own n [] local = refl
  lines_blind array old region own n (head ∷ heads) local =
      ap (λ o. option_and_then
      (with_lines code p f along from mask array (at_turn n old) region own heads)
      (option_and_then (λ values. option_map (stored_in (at_turn n local))
      (with_values array tuples (running f before values) local.stores)) o))
      (scan_values_blind old n from mask tuples)
      ∙ by (scan_values old from mask tuples) (λ l. lines_blind array old region own n heads l)
    where
      tuples : List (List ℤ)
      tuples = line_of code p region (line_dim region along) head

      before : ℤ
      before = before_line code p f along from mask old region own head

      by : (o : Option (List (Option ℤ))) → ((l : Local) → IsLines array old region own n heads l)
          → option_and_then (with_lines code p f along from mask array (at_turn n old) region own
          heads)
          (option_and_then (λ values. option_map (stored_in (at_turn n local))
          (with_values array tuples (running f before values) local.stores)) o)
          ≡ option_map (at_turn n)
          (option_and_then (with_lines code p f along from mask array old region own heads)
          (option_and_then (λ values. option_map (stored_in local)
          (with_values array tuples (running f before values) local.stores)) o))
      by None further = refl
      by (Some values) further = each
          (with_values array tuples (running f before values) local.stores) further
        where
          each : (o : Option (List Array)) → ((l : Local) → IsLines array old region own n heads l)
              → option_and_then (with_lines code p f along from mask array (at_turn n old) region
              own heads) (option_map (stored_in (at_turn n local)) o)
              ≡ option_map (at_turn n)
              (option_and_then (with_lines code p f along from mask array old region own heads)
              (option_map (stored_in local) o))
          each None further = refl
          each (Some stores) further = further (stored_in local stores)

  done_blind : (n : ℕ) (o : Option Local)
      → scan_done code p f along from mask (option_map (at_turn n) o)
      ≡ scan_done code p f along from mask o
  done_blind n None = refl
  done_blind n (Some local) = refl

  scan_last_blind : (array : ℕ) (local : Local) (n : ℕ) (region : Region)
      → scan_last code p f along from mask array (at_turn n local) region
      ≡ scan_last code p f along from mask array local region
  scan_last_blind array local n region =
      ap (λ o. scan_done code p f along from mask
      (option_and_then (λ own. with_lines code p f along from mask array (at_turn n local) region
      own heads (at_turn n local)) o)) (totals_blind local n region)
      ∙ by (line_totals code p f along from mask local region)
    where
      heads : List (List ℤ)
      heads = line_heads code p region (line_dim region along)

      by : (o : Option (List ℤ))
          → scan_done code p f along from mask
          (option_and_then (λ own. with_lines code p f along from mask array (at_turn n local)
          region own heads (at_turn n local)) o)
          ≡ scan_done code p f along from mask
          (option_and_then (λ own. with_lines code p f along from mask array local region own heads
          local) o)
      by None = refl
      by (Some own) =
          ap (scan_done code p f along from mask) (lines_blind array local region own n heads local)
          ∙ done_blind n (with_lines code p f along from mask array local region own heads local)

pub scanned_blind : (code : Tables) (p : ℕ) (f : Fold) (along from : ℕ) (mask : Option ℕ)
    (array slot : ℕ)
    → IsBlind (scanned_row code p f along from mask array slot)
scanned_blind code p f along from mask array slot = record {
  stages = λ local n. refl;
  tag = λ local n. refl;
  alone = λ local n. refl;
  words_to = λ local n q. totals_blind code p f along from mask local n (region_in local slot);
  awaits = λ local n q many. refl;
  taken = λ local n q words. refl;
  last = λ local n. scan_last_blind code p f along from mask array local n (region_in local slot);
  keeps_alone = λ local next e. cc;
  keeps_taken = λ local next q words e.
      kept_keeps (scanned_row code p f along from mask array slot) local q words
      (record { at = refl; ended = refl; stages = refl; tag = refl }) next e;
}
