-- Rows with messages don't look at cells, flags and members, nor, but for tags and the next row, at
-- the number of the instruction: so they leave them as they are.
use Rattle.std.proofs.Common.{◌≡◌, ℕ, zero, suc, ◌*◌, ◌==◌, Bool, true, false, ℤ, List}
use Rattle.std.proofs.Common.{[], ◌∷◌, ◌++◌, length, map, Option, Some, None, option_map}
use Rattle.std.proofs.Common.{option_and_then, refl, sym, ◌∙◌, ap, ap₂, if◌then◌else◌, subst}
use Rattle.std.proofs.Common.{true≢false}
use Rattle.std.proofs.Math.Path.{fun_ext}
use Rattle.std.specs.Prelude.{⊤, slice_get, slice_set}
use Rattle.std.specs.List.{filter_map}
use Rattle.zpl_arrays.specs.Row.{kept_values, running}
use Rattle.zpl_nums.specs.Fold.{folded as folded_values, joined}
use Rattle.zpl_nums.specs.declared.ends.Border.{Border}
use Rattle.zpl_nums.specs.declared.folds.Fold.{Fold}
use Rattle.zpl_region.specs.declared.regions.Region.{Region}
use Rattle.zpl_arrays.specs.Array.{Array}
use Rattle.grid_links.specs.Machine.{Blocked, Goes as Moves}
use Rattle.node_form.specs.declared.arrays.ArrayRow.{ArrayRow}
use Rattle.node_form.specs.declared.arrays.Item.{Item}
use Rattle.node_form.specs.declared.instructions.Instr.{Instr}
use Rattle.node_form.specs.declared.instructions.Instr.TheVariants as instr
use Rattle.node_form.specs.declared.tables.Tables.{Tables}
use Rattle.grid_meaning.specs.Action.{Action, StuckKind, Unheld, goes_on}
use Rattle.grid_meaning.specs.Collective.{Collective, Kin, Stage, scalar_at, value_for}
use Rattle.grid_meaning.specs.Collective.{value_of_all, Alone, Sends, TakesFrom, Last}
use Rattle.grid_meaning.specs.Collective.{folded, others_where, row_tag, keeping, star, tree}
use Rattle.grid_meaning.specs.Delivery.{Delivery, delivered, each_word, with_words, combined_into}
use Rattle.grid_meaning.specs.Delivery.{edging, flooding, parting, with_combined}
use Rattle.grid_meaning.specs.Exchange.{started, finished, words_written}
use Rattle.grid_meaning.specs.Gather.{gathered, gather_last, prints_gathered}
use Rattle.grid_meaning.specs.Local.{Local}
use Rattle.grid_meaning.specs.Owner.{region_in, tuples_of}
use Rattle.grid_meaning.specs.Place.{values_at, with_values}
use Rattle.grid_meaning.specs.Remap.{Want, first_values, owns_all, is_asking, remap_own, remapped}
use Rattle.grid_meaning.specs.Remap.{request_taken, some_wants, wants, wants_at_once, written}
use Rattle.grid_meaning.specs.Rows.{collective}
use Rattle.grid_meaning.specs.Scan.{scanned_row, scan_value, scan_values, line_totals, line_heads}
use Rattle.grid_meaning.specs.Scan.{line_dim, line_of, with_lines, before_line, scan_last}
use Rattle.grid_meaning.specs.Scan.{scan_done}
use Rattle.row_orders.proofs.BlindLemmas.{IsBySlots, edging_by_slots, flooding_by_slots}
use Rattle.row_orders.proofs.BlindLemmas.{parting_by_slots}

-- ---- other values of what such rows don't look at
pub record Wear : Type 0 where
  pub at : ℕ → ℕ
  pub member : ℕ → ℕ
  pub flag : Option ℕ → Option ℕ
  pub cells : List ℤ → List ℤ

abbrev pub worn : Wear → Local → Local
worn w local = record local {
  at = w.at local.at;
  member = w.member local.member;
  flag = w.flag local.flag;
  cells = w.cells local.cells;
}

-- a row is left, or the processor is stuck
pub data LastAlike (w : Wear) : Action → Action → Type 0 where
  BothLeave : (behind : Local) (bytes : List ℕ)
      → LastAlike w (Moves (goes_on behind) None bytes) (Moves (goes_on (worn w behind)) None bytes)
  BothBlocked : (kind : StuckKind) → LastAlike w (Blocked kind) (Blocked kind)

pub data HasTag (row : Collective) : Type 0 where
  OfRow : ((local : Local) → row.tag local ≡ row_tag local) → HasTag row
  OfExchange : (exchange : ℕ) → ((local : Local) → row.tag local ≡ 2 * exchange) → HasTag row

pub record IsWorn (row : Collective) : Type 0 where
  pub tag : HasTag row
  pub stages : (local : Local) (w : Wear) → row.stages (worn w local) ≡ row.stages local
  pub alone : (local : Local) (w : Wear)
      → row.alone (worn w local) ≡ option_map (worn w) (row.alone local)
  pub words_to : (local : Local) (w : Wear) (q : ℕ)
      → row.words_to (worn w local) q ≡ row.words_to local q
  pub awaits : (local : Local) (w : Wear) (q many : ℕ)
      → row.awaits (worn w local) q many ≡ row.awaits local q many
  pub taken : (local : Local) (w : Wear) (q : ℕ) (words : List ℤ)
      → row.taken (worn w local) q words ≡ option_map (worn w) (row.taken local q words)
  pub last : (local : Local) (w : Wear) → LastAlike w (row.last local) (row.last (worn w local))

-- ---- a state with other stores
abbrev stored_in : Local → List Array → Local
stored_in local stores = record local { stores = stores }

stored_worn : (local : Local) (w : Wear) (o : Option (List Array))
    → option_map (stored_in (worn w local)) o
    ≡ option_map (worn w) (option_map (stored_in local) o)
stored_worn local w None = refl
stored_worn local w (Some stores) = refl

-- ---- deliveries
module _ (code : Tables) (p : ℕ) (d : Delivery) (by : IsBySlots d)
    (same_word : (local : Local) (w : Wear) → d.word (worn w local) ≡ d.word local) where
  abbrev stages_by : (ℕ → ℕ → List (List ℤ)) → List Stage
  stages_by targets =
      Alone ∷ (map Sends (others_where code p (λ q. length (targets p q)))
      ++ (map TakesFrom (others_where code p (λ q. length (targets q p))) ++ Last ∷ []))

  own_worn : (local : Local) (w : Wear) (tuples : List (List ℤ)) (o : Option (List ℤ))
      → option_and_then (with_words d (worn w local) tuples) o
      ≡ option_map (worn w) (option_and_then (with_words d local tuples) o)
  own_worn local w tuples None = refl
  own_worn local w tuples (Some words) = stored_worn local w
      (with_values d.array tuples words local.stores)

  pub delivered_worn : IsWorn (delivered code p d)
  delivered_worn = record {
    tag = OfRow (λ local. refl);
    stages = λ local w. ap stages_by (by.targets (worn w local) local refl);
    alone = λ local w.
        ap₂ (λ own word. option_and_then (with_words d (worn w local) own) (each_word word own))
        (by.own (worn w local) local refl) (same_word local w)
        ∙ own_worn local w (d.own local) (each_word (d.word local) (d.own local));
    words_to = λ local w q.
        ap₂ (λ targets word. each_word word (targets p q)) (by.targets (worn w local) local refl)
        (same_word local w);
    awaits = λ local w q many. ap (λ targets. many == length (targets q p))
        (by.targets (worn w local) local refl);
    taken = λ local w q words.
        ap (λ targets. with_combined d (worn w local) (targets q p) words)
        (by.targets (worn w local) local refl)
        ∙ stored_worn local w (combined_into d (d.targets local q p) words local.stores);
    last = λ local w. BothLeave local [];
  }

pub edging_worn : (code : Tables) (p : ℕ) (kind : Border) (array slot : ℕ) (shift : List ℤ)
    → IsWorn (delivered code p (edging code p kind array slot shift))
edging_worn code p kind array slot shift =
    delivered_worn code p (edging code p kind array slot shift)
    (edging_by_slots code p kind array slot shift) (λ local w. refl)

pub flooding_worn : (code : Tables) (p array target from source : ℕ)
    → IsWorn (delivered code p (flooding code p array target from source))
flooding_worn code p array target from source =
    delivered_worn code p (flooding code p array target from source)
    (flooding_by_slots code p array target from source) (λ local w. refl)

pub parting_worn : (code : Tables) (p array target : ℕ) (f : Fold) (from source : ℕ)
    → IsWorn (delivered code p (parting code p array target f from source))
parting_worn code p array target f from source =
    delivered_worn code p (parting code p array target f from source)
    (parting_by_slots code p array target f from source) (λ local w. refl)

-- ---- exchanges
pub started_worn : (code : Tables) (p exchange : ℕ) (items : List Item)
    → IsWorn (started code p exchange items)
started_worn code p exchange items = record {
  tag = OfExchange exchange (λ local. refl);
  stages = λ local w. refl;
  alone = λ local w. refl;
  words_to = λ local w q. refl;
  awaits = λ local w q many. refl;
  taken = λ local w q words. refl;
  last = λ local w. BothLeave local [];
}

pub finished_worn : (code : Tables) (p exchange : ℕ) (items : List Item)
    → IsWorn (finished code p exchange items)
finished_worn code p exchange items = record {
  tag = OfExchange exchange (λ local. refl);
  stages = λ local w. refl;
  alone = λ local w. refl;
  words_to = λ local w q. refl;
  awaits = λ local w q many. refl;
  taken = λ local w q words. stored_worn local w
      (words_written code local q p items words local.stores);
  last = λ local w. BothLeave local [];
}

-- ---- rows that keep words
prints_alike : (code : Tables) (truth : Bool) (region : Region) (local : Local) (w : Wear)
    (o : Option (List ℤ))
    → LastAlike w (prints_gathered code truth region local o)
    (prints_gathered code truth region (worn w local) o)
prints_alike code truth region local w None = BothBlocked Unheld
prints_alike code truth region local w (Some own) = BothLeave local _

gather_alike : (code : Tables) (p : ℕ) (truth : Bool) (array : ℕ) (region : Region)
    (local : Local) (w : Wear)
    → LastAlike w (gather_last code p truth array region local)
    (gather_last code p truth array region (worn w local))
gather_alike code zero truth array region local w =
    prints_alike code truth region local w (values_at local.stores array (tuples_of code 0 region))
gather_alike code (suc p) truth array region local w = BothLeave local []

pub gathered_worn : (code : Tables) (p : ℕ) (truth : Bool) (array slot : ℕ)
    → IsWorn (gathered code p truth array slot)
gathered_worn code p truth array slot = record {
  tag = OfRow (λ local. refl);
  stages = λ local w. refl;
  alone = λ local w. refl;
  words_to = λ local w q. refl;
  awaits = λ local w q many. refl;
  taken = λ local w q words. refl;
  last = λ local w. gather_alike code p truth array (region_in local slot) local w;
}

-- ---- `scan`
scan_value_worn : (local : Local) (w : Wear) (from : ℕ) (mask : Option ℕ) (t : List ℤ)
    → scan_value (worn w local) from mask t ≡ scan_value local from mask t
scan_value_worn local w from None t = refl
scan_value_worn local w from (Some mask) t = refl

scan_values_worn : (local : Local) (w : Wear) (from : ℕ) (mask : Option ℕ) (tuples : List (List ℤ))
    → scan_values (worn w local) from mask tuples ≡ scan_values local from mask tuples
scan_values_worn local w from mask [] = refl
scan_values_worn local w from mask (t ∷ tuples) =
    ap₂ (λ value rest. option_and_then (λ v. option_map (λ r. v ∷ r) rest) value)
    (scan_value_worn local w from mask t) (scan_values_worn local w from mask tuples)

module _ (code : Tables) (p : ℕ) (f : Fold) (along from : ℕ) (mask : Option ℕ) where
  totals_worn : (local : Local) (w : Wear) (region : Region)
      → line_totals code p f along from mask (worn w local) region
      ≡ line_totals code p f along from mask local region
  totals_worn local w region =
      ap (λ total. each_word total (line_heads code p region (line_dim region along)))
      (fun_ext (λ head. ap (option_map (λ values. folded_values f (kept_values values)))
      (scan_values_worn local w from mask (line_of code p region (line_dim region along) head))))

  abbrev IsLines : ℕ → Local → Region → List ℤ → Wear → List (List ℤ) → Local → Type 0
  IsLines array old region own w heads local =
      with_lines code p f along from mask array (worn w old) region own heads (worn w local)
      ≡ option_map (worn w)
      (with_lines code p f along from mask array old region own heads local)

  lines_worn : (array : ℕ) (old : Local) (region : Region) (own : List ℤ) (w : Wear)
      (heads : List (List ℤ)) (local : Local)
      → IsLines array old region own w heads local
  lines_worn array old region own w [] local = refl
  lines_worn array old region own w (head ∷ heads) local =
      ap (λ o. option_and_then
      (with_lines code p f along from mask array (worn w old) region own heads)
      (option_and_then (λ values. option_map (stored_in (worn w local))
      (with_values array tuples (running f before values) local.stores)) o))
      (scan_values_worn old w from mask tuples)
      ∙ by (scan_values old from mask tuples) (λ l. lines_worn array old region own w heads l)
    where
      tuples : List (List ℤ)
      tuples = line_of code p region (line_dim region along) head

      before : ℤ
      before = before_line code p f along from mask old region own head

      by : (o : Option (List (Option ℤ))) → ((l : Local) → IsLines array old region own w heads l)
          → option_and_then (with_lines code p f along from mask array (worn w old) region own
          heads)
          (option_and_then (λ values. option_map (stored_in (worn w local))
          (with_values array tuples (running f before values) local.stores)) o)
          ≡ option_map (worn w)
          (option_and_then (with_lines code p f along from mask array old region own heads)
          (option_and_then (λ values. option_map (stored_in local)
          (with_values array tuples (running f before values) local.stores)) o))
      by None further = refl
      by (Some values) further = each
          (with_values array tuples (running f before values) local.stores) further
        where
          each : (o : Option (List Array)) → ((l : Local) → IsLines array old region own w heads l)
              → option_and_then (with_lines code p f along from mask array (worn w old) region
              own heads) (option_map (stored_in (worn w local)) o)
              ≡ option_map (worn w)
              (option_and_then (with_lines code p f along from mask array old region own heads)
              (option_map (stored_in local) o))
          each None further = refl
          each (Some stores) further = further (stored_in local stores)

  done_alike : (w : Wear) (o : Option Local)
      → LastAlike w (scan_done code p f along from mask o)
      (scan_done code p f along from mask (option_map (worn w) o))
  done_alike w None = BothBlocked Unheld
  done_alike w (Some local) = BothLeave local []

  scan_alike : (array : ℕ) (local : Local) (w : Wear) (region : Region)
      → LastAlike w (scan_last code p f along from mask array local region)
      (scan_last code p f along from mask array (worn w local) region)
  scan_alike array local w region =
      subst (LastAlike w (scan_last code p f along from mask array local region))
      (sym (ap (scan_done code p f along from mask)
      (ap (λ o. option_and_then (λ own. with_lines code p f along from mask array
      (worn w local) region own heads (worn w local)) o) (totals_worn local w region)
      ∙ by (line_totals code p f along from mask local region))))
      (done_alike w (option_and_then (λ own. with_lines code p f along from mask array local
      region own heads local) (line_totals code p f along from mask local region)))
    where
      heads : List (List ℤ)
      heads = line_heads code p region (line_dim region along)

      by : (o : Option (List ℤ))
          → option_and_then (λ own. with_lines code p f along from mask array (worn w local)
          region own heads (worn w local)) o
          ≡ option_map (worn w) (option_and_then (λ own. with_lines code p f along from mask
          array local region own heads local) o)
      by None = refl
      by (Some own) = lines_worn array local region own w heads local

pub scanned_worn : (code : Tables) (p : ℕ) (f : Fold) (along from : ℕ) (mask : Option ℕ)
    (array slot : ℕ)
    → IsWorn (scanned_row code p f along from mask array slot)
scanned_worn code p f along from mask array slot = record {
  tag = OfRow (λ local. refl);
  stages = λ local w. refl;
  alone = λ local w. refl;
  words_to = λ local w q. totals_worn code p f along from mask local w (region_in local slot);
  awaits = λ local w q many. refl;
  taken = λ local w q words. refl;
  last = λ local w. scan_alike code p f along from mask array local w (region_in local slot);
}

-- ---- a remap read
module _ (code : Tables) (p array slot from : ℕ) (parts : List ℕ) (row : ArrayRow) where
  abbrev Row : Collective
  Row = remapped code p array slot from parts row

  remap_alone : (local : Local) (w : Wear)
      → Row.alone (worn w local) ≡ option_map (worn w) (Row.alone local)
  remap_alone local w = by (wants code p array slot from parts row local)
    where
      valued : (first : List Want) (o : Option (List ℤ))
          → option_and_then (λ values. written code p array slot from parts row first values
          (worn w local)) o
          ≡ option_map (worn w) (option_and_then (λ values. written code p array slot from parts
          row first values local) o)
      valued first None = refl
      valued first (Some values) =
          stored_worn local w (with_values array (map (λ want. want.index) first) values
          local.stores)

      by : (o : Option (List Want))
          → option_and_then (remap_own code p array slot from parts row (worn w local)) o
          ≡ option_map (worn w)
          (option_and_then (remap_own code p array slot from parts row local) o)
      by None = refl
      by (Some all) =
          valued (wants_at_once code p array slot from parts row all)
          (first_values code p array slot from parts row local
          (wants_at_once code p array slot from parts row all))

  request_worn : (local : Local) (w : Wear) (q : ℕ) (words : List ℤ) (owns : Bool)
      → request_taken code p array slot from parts row (worn w local) q words owns
      ≡ option_map (worn w) (request_taken code p array slot from parts row local q words owns)
  request_worn local w q words true = by (length words == 0)
    where
      by : (b : Bool)
          → Some (if b then worn w local else keeping (worn w local) q words)
          ≡ option_map (worn w) (Some (if b then local else keeping local q words))
      by true = refl
      by false = refl
  request_worn local w q words false = refl

  remap_taken : (local : Local) (w : Wear) (q : ℕ) (words : List ℤ)
      → Row.taken (worn w local) q words ≡ option_map (worn w) (Row.taken local q words)
  remap_taken local w q words = by (is_asking code p array slot from parts row local)
    where
      which : List Want
      which = some_wants code p array slot from parts row
          (wants code p array slot from parts row local) q

      by : (b : Bool)
          → (if b then request_taken code p array slot from parts row (worn w local) q words
          (owns_all code p array slot from parts row words)
          else written code p array slot from parts row which words (worn w local))
          ≡ option_map (worn w)
          (if b then request_taken code p array slot from parts row local q words
          (owns_all code p array slot from parts row words)
          else written code p array slot from parts row which words local)
      by true = request_worn local w q words (owns_all code p array slot from parts row words)
      by false = stored_worn local w
          (with_values array (map (λ want. want.index) which) words local.stores)

  pub remapped_worn : IsWorn Row
  remapped_worn = record {
    tag = OfRow (λ local. refl);
    stages = λ local w. refl;
    alone = remap_alone;
    words_to = λ local w q. refl;
    awaits = λ local w q many. refl;
    taken = remap_taken;
    last = λ local w. BothLeave local [];
  }

-- ---- folds
pub folded_worn : (kin : Kin) (scalar : ℕ) (f : Fold) → IsWorn (folded kin scalar f)
folded_worn kin scalar f = record {
  tag = OfRow (λ local. refl);
  stages = λ local w. refl;
  alone = λ local w. refl;
  words_to = λ local w q. by kin.parent local w q;
  awaits = λ local w q many. refl;
  taken = λ local w q words. refl;
  last = λ local w. last kin.parent local w;
}
  where
    by : (parent : Option ℕ) (local : Local) (w : Wear) (q : ℕ)
        → Some (value_for kin (joined f) (scalar_at scalar) parent (worn w local) q ∷ [])
        ≡ Some (value_for kin (joined f) (scalar_at scalar) parent local q ∷ [])
    by None local w q = refl
    by (Some parent) local w q = refl

    last : (parent : Option ℕ) (local : Local) (w : Wear)
        → LastAlike w
        (Moves (goes_on (record local {
          scalars = slice_set local.scalars scalar
              (value_of_all kin (joined f) (scalar_at scalar) parent local);
        })) None [])
        (Moves (goes_on (record (worn w local) {
          scalars = slice_set local.scalars scalar
              (value_of_all kin (joined f) (scalar_at scalar) parent (worn w local));
        })) None [])
    last None local w = BothLeave (record local {
      scalars = slice_set local.scalars scalar
          (value_of_all kin (joined f) (scalar_at scalar) None local);
    }) []
    last (Some parent) local w = BothLeave (record local {
      scalars = slice_set local.scalars scalar
          (value_of_all kin (joined f) (scalar_at scalar) (Some parent) local);
    }) []

-- ---- all rows but votes
abbrev pub is_vote_row : Instr → Bool
is_vote_row (instr.Vote group) = true
is_vote_row (instr.TreeVote group) = true
is_vote_row row = false

by_some : {X : Type 0} (row : X → Collective) → ((x : X) → IsWorn (row x))
    → (o : Option X) (c : Collective)
    → option_map row o ≡ Some c → IsWorn c
by_some row worn None c e = cc
by_some row worn (Some x) c e = let same : row x ≡ c = cc in subst IsWorn same (worn x)

one_some : (c d : Collective) → IsWorn c → Some c ≡ Some d → IsWorn d
one_some c d is e = let same : c ≡ d = cc in subst IsWorn same is

pub row_worn : (code : Tables) (p : ℕ) (row : Instr) (c : Collective) → is_vote_row row ≡ false
    → collective code p row ≡ Some c → IsWorn c
row_worn code p (instr.Start exchange) c other e =
    by_some (started code p exchange) (started_worn code p exchange)
    (slice_get code.exchanges exchange) c e
row_worn code p (instr.Finish exchange) c other e =
    by_some (finished code p exchange) (finished_worn code p exchange)
    (slice_get code.exchanges exchange) c e
row_worn code p (instr.Edge kind array slot shift) c other e =
    one_some _ c (edging_worn code p kind array slot shift) e
row_worn code p (instr.Flood array target from source) c other e =
    one_some _ c (flooding_worn code p array target from source) e
row_worn code p (instr.Part array target f from source) c other e =
    one_some _ c (parting_worn code p array target f from source) e
row_worn code p (instr.Scan array slot f along from mask) c other e =
    one_some _ c (scanned_worn code p f along from mask array slot) e
row_worn code p (instr.Gather truth array slot) c other e =
    one_some _ c (gathered_worn code p truth array slot) e
row_worn code p (instr.Remap array slot from parts) c other e =
    by_some (remapped code p array slot from (filter_map (λ part. part) parts))
    (remapped_worn code p array slot from (filter_map (λ part. part) parts))
    (slice_get code.arrays from) c e
row_worn code p (instr.Vote group) c other e = absurd (true≢false other)
row_worn code p (instr.TreeVote group) c other e = absurd (true≢false other)
row_worn code p (instr.Fold scalar f) c other e =
    one_some _ c (folded_worn (star code p) scalar f) e
row_worn code p (instr.TreeFold scalar f) c other e =
    one_some _ c (folded_worn (tree code p) scalar f) e
row_worn code p row c other e = cc

-- ---- what such a row leaves
abbrev same_but : List ℤ → ℕ → Wear
same_but cells at = record { at = λ k. at; member = λ k. k; flag = λ f. f; cells = λ c. cells }

pub record IsKept (local next : Local) : Type 0 where
  pub at : next.at ≡ local.at
  pub cells : next.cells ≡ local.cells

kept_some : (local next : Local) (o : Option Local) → o
    ≡ option_map (worn (same_but local.cells local.at)) o
    → o ≡ Some next → IsKept local next
kept_some local next None e is = cc
kept_some local next (Some other) e is =
    let one : other ≡ worn (same_but local.cells local.at) other = cc in
    let same : other ≡ next = cc in
    record {
      at = ap (λ (l : Local). l.at) (sym same ∙ one);
      cells = ap (λ (l : Local). l.cells) (sym same ∙ one);
    }

pub alone_kept : (row : Collective) → IsWorn row → (local next : Local) → row.alone local
    ≡ Some next
    → IsKept local next
alone_kept row is local next e =
    kept_some local next (row.alone local) (is.alone local (same_but local.cells local.at)) e

pub taken_kept : (row : Collective) → IsWorn row → (local next : Local) (q : ℕ) (words : List ℤ)
    → row.taken local q words ≡ Some next → IsKept local next
taken_kept row is local next q words e =
    kept_some local next (row.taken local q words)
    (is.taken local (same_but local.cells local.at) q words) e

-- what is left has the cells that it had
abbrev pub IsLastKept : Local → Action → Type 0
IsLastKept local (Moves next sent shown) = next.cells ≡ local.cells
IsLastKept local action = ⊤

pub last_kept : (row : Collective) → IsWorn row → (local : Local)
    → IsLastKept local (row.last local)
last_kept row is local =
    by (row.last local) (row.last local) (is.last local (same_but local.cells local.at)) refl
  where
    by : (one other : Action) → LastAlike (same_but local.cells local.at) one other → one ≡ other
        → IsLastKept local one
    by _ _ (BothLeave behind bytes) e =
        let same : goes_on behind ≡ goes_on (worn (same_but local.cells local.at) behind) = cc in
        ap (λ (l : Local). l.cells) same
    by _ _ (BothBlocked kind) e = tt
