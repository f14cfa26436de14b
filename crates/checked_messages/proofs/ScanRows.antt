-- A scan goes on where each processor holds its places.
use Rattle.std.proofs.Common.{◌≡◌, refl, sym, ◌∙◌, ap, subst, inl, inr, ℕ, ◌<◌, ◌==◌, Bool, true}
use Rattle.std.proofs.Common.{false}
use Rattle.std.proofs.Common.{List, [], ◌∷◌, ◌++◌, ℤ, length, map, Option, Some, None, eq-eqb}
use Rattle.std.specs.Prelude.{option_and_then}
use Rattle.std.specs.Option.{option_map}
use Rattle.zpl_nums.specs.Integer.{is_true}
use Rattle.zpl_nums.specs.declared.folds.Fold.{Fold}
use Rattle.zpl_nums.specs.Fold.{folded}
use Rattle.zpl_region.specs.declared.regions.Region.{Region}
use Rattle.zpl_region.proofs.ListLemmas.{Among, among_filtered}
use Rattle.zpl_arrays.specs.Row.{kept_values, running}
use Rattle.node_form.specs.declared.tables.Tables.{Tables}
use Rattle.grid_meaning.specs.Action.{goes_on}
use Rattle.grid_meaning.specs.Collective.{Collective, Last, Sends, TakesFrom, keeping, others_where}
use Rattle.grid_meaning.specs.Local.{Local, processors}
use Rattle.grid_meaning.specs.Owner.{region_in, tuples_of}
use Rattle.grid_meaning.specs.Place.{value_at, with_values}
use Rattle.grid_meaning.specs.Scan as scan
use Rattle.grid_meaning.specs.Scan.{line_dim, line_heads, line_of, scan_done, scan_value}
use Rattle.grid_meaning.specs.Scan.{scan_values, unless_masked}
use Rattle.row_orders.specs.Rows.{taken_where}
use Rattle.row_orders.proofs.PartnerLemmas.{partners_by_words}
use Rattle.checked_rows.specs.of_plan_meaning.Abreast.{Abreast, locals_of}
use Rattle.checked_rows.specs.of_plan_meaning.Messages.{delivered}
use Rattle.checked_rows.specs.of_node_check.Told.{SlotHas}
use Rattle.checked_messages.specs.Going.{GoesOn, StandAlike}
use Rattle.checked_messages.proofs.GatherRows.{keeps_words}
use Rattle.checked_messages.proofs.GoLemmas.{Acts, Comes, IsBehind, Leaves, delivered_goes}
use Rattle.checked_messages.proofs.HeldLemmas.{IsHeld, Reads, ReadsAll, held_still, then_places}
use Rattle.checked_messages.proofs.HeldLemmas.{value_read}
use Rattle.checked_messages.proofs.HeldLemmas.{values_put, words_read}
use Rattle.checked_messages.proofs.OwnLemmas.{HoldsOver}
use Rattle.checked_messages.proofs.WorkLemmas.{behind_start, others_turned, region_is}

-- ---- what a state reads, where its places are held
read_at : (local : Local) (from : ℕ) (mask : Option ℕ) (t : List ℤ) → IsHeld local.stores from t
    → ((m : ℕ) → mask ≡ Some m → IsHeld local.stores m t) → Reads (scan_value local from mask t)
read_at local from None t held masked =
    let read = value_read local.stores from t held in
    record { value = Some read.value; is = ap (option_map Some) read.is }
read_at local from (Some m) t held masked =
    let read = value_read local.stores from t held in
    let kept = value_read local.stores m t (masked m refl) in
    let one = by (is_true kept.value) read in
    record {
      value = one.value;
      is =
          ap (option_and_then (λ kept. unless_masked (is_true kept) (value_at local.stores from t)))
          kept.is
          ∙ one.is;
    }
  where
    by : (b : Bool) → Reads (value_at local.stores from t)
        → Reads (unless_masked b (value_at local.stores from t))
    by true read = record { value = Some read.value; is = ap (option_map Some) read.is }
    by false read = record { value = None; is = refl }

read_all : (local : Local) (from : ℕ) (mask : Option ℕ) (ts : List (List ℤ))
    → ((t : List ℤ) → Among ts t → Reads (scan_value local from mask t))
    → Reads (scan_values local from mask ts)
read_all local from mask [] each = record { value = []; is = refl }
read_all local from mask (t ∷ ts) each =
    let one = each t (inl refl) in
    let rest = read_all local from mask ts (λ u later. each u (inr later)) in
    record {
      value = one.value ∷ rest.value;
      is =
          ap (option_and_then (λ value. option_map (λ rest. value ∷ rest)
          (scan_values local from mask ts))) one.is
          ∙ ap (option_map (λ rest. one.value ∷ rest)) rest.is;
    }

module _ (code : Tables) (all : Abreast) (alike : StandAlike code all) (quiet : all.flights ≡ [])
    (array slot : ℕ) (f : Fold) (along from : ℕ) (mask : Option ℕ) (region : Region)
    (here : SlotHas all slot region) (sets : HoldsOver code all array region)
    (reads : HoldsOver code all from region)
    (masks : (m : ℕ) → mask ≡ Some m → HoldsOver code all m region) where
  abbrev row : ℕ → Collective
  row p = scan.scanned_row code p f along from mask array slot

  abbrev State : ℕ → Local → Type 0
  State p local = IsBehind (all.shares p) local

  abbrev k : ℕ
  k = line_dim region along

  abbrev count : ℕ → ℕ
  count q = length (line_heads code q region k)

  abbrev many : ℕ → ℕ → ℕ
  many p q = count p

  module _ (p : ℕ) (below : p < processors code) where
    region_at : (local : Local) → State p local → region_in local slot ≡ region
    region_at local state = region_is code all alike slot region here p below local state

    line_read : (local : Local) → State p local → (head : List ℤ)
        → Reads (scan_values local from mask (line_of code p region k head))
    line_read local state head =
        read_all local from mask (line_of code p region k head) (λ t among.
        let own = (among_filtered _ (tuples_of code p region) t among).0 in
        read_at local from mask t
        (held_still (all.shares p).stores local.stores from t state.keeps.stores
        (reads p below t own))
        (λ m is. held_still (all.shares p).stores local.stores m t state.keeps.stores
        (masks m is p below t own)))

    totals_read : (local : Local) → State p local
        → ReadsAll (count p) (scan.line_totals code p f along from mask local region)
    totals_read local state =
        words_read (scan.line_total code p f along from mask local region)
        (line_heads code p region k) (λ head among.
        let read = line_read local state head in
        record {
          value = folded f (kept_values read.value);
          is = ap (option_map (λ values. folded f (kept_values values))) read.is;
        })

    -- ---- the last turn
    lines_set : (old : Local) → State p old → (own : List ℤ) (heads : List (List ℤ)) (local : Local)
        → State p local
        → Comes (State p) (scan.with_lines code p f along from mask array old region own heads
        local)
    lines_set old before own [] local state = record { local = local; is = refl; has = state }
    lines_set old before own (head ∷ heads) local state =
        let tuples = line_of code p region k head in
        let read = line_read old before head in
        let words = running f (scan.before_line code p f along from mask old region own head)
        read.value in
        let put = values_put array tuples words local.stores (λ t among.
        held_still (all.shares p).stores local.stores array t state.keeps.stores
        (sets p below t (among_filtered _ (tuples_of code p region) t among).0)) in
        let next : Local = record local { stores = put.next } in
        let rest = lines_set old before own heads next (record {
          running = state.running;
          keeps = record {
            scalars = state.keeps.scalars;
            slots = state.keeps.slots;
            cells = state.keeps.cells;
            stores =
                then_places (all.shares p).stores local.stores put.next state.keeps.stores
                put.places;
            flag = state.keeps.flag;
          };
        }) in
        record {
          local = rest.local;
          is =
              ap (λ o. option_and_then (scan.with_lines code p f along from mask array old region
              own heads)
              (option_and_then (λ values. option_map (λ stores. record local { stores = stores })
              (with_values array tuples
              (running f (scan.before_line code p f along from mask old region own head) values)
              local.stores)) o)) read.is
              ∙ (ap (λ o. option_and_then
              (scan.with_lines code p f along from mask array old region own heads)
              (option_map (λ stores. record local { stores = stores }) o)) put.is
              ∙ rest.is);
          has = rest.has;
        }

    ends : (local : Local) → State p local → Leaves (all.shares p) ((row p).last local)
    ends local state =
        let own = totals_read local state in
        let done = lines_set local state own.words (line_heads code p region k) local state in
        record {
          next = goes_on done.local;
          shown = [];
          is =
              ap (scan.scan_last code p f along from mask array local) (region_at local state)
              ∙ (ap (λ o. scan_done code p f along from mask (option_and_then (λ own.
              scan.with_lines code p f along from mask array local region own
              (line_heads code p region k) local) o)) own.is
              ∙ ap (scan_done code p f along from mask) done.is);
          running = done.has.running;
          keeps = done.has.keeps;
        }

  abbrev acts : Acts code row all State many
  acts = record {
    alone = λ p. false;
    to = λ p. others_where code p (λ q. count p);
    from = λ p. others_where code p count;
    stages = λ p below.
        ap (λ r. map Sends (others_where code p (λ q. length (line_heads code p r
        (line_dim r along)))) ++ (map TakesFrom (others_where code p
        (λ q. length (line_heads code q r (line_dim r along)))) ++ Last ∷ []))
        (region_at p below (locals_of all p) (behind_start (all.shares p)));
    begins = λ p below. record {
      local = locals_of all p;
      is = refl;
      has = behind_start (all.shares p);
    };
    says = λ p q below among local state.
        subst (λ r. ReadsAll (count p) (scan.line_totals code p f along from mask local r))
        (sym (region_at p below local state)) (totals_read p below local state);
    takes = λ p q below among local state words long. record {
      local = keeping local q words;
      is =
          ap (λ b. taken_where b (Some (keeping local q words)))
          (ap (λ r. length words == length (line_heads code q r (line_dim r along)))
          (region_at p below local state)
          ∙ eq-eqb (length words) (count q) long);
      has = keeps_words (all.shares p) local q words state;
    };
    ends = λ p below local state. ends p below local state;
  }

  pub scan_goes : GoesOn code all [] (delivered code row all)
  scan_goes =
      delivered_goes code row all State many acts quiet
      (partners_by_words code (λ p q. count p) (λ p q. count q) (λ p q a b. refl))
      (λ p q below among. others_turned code many p q below among)
