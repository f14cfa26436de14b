-- Prints, whose values have operators over regions: each stands at a site of its own.
use Rattle.std.proofs.Common.{◌≡◌, refl, sym, ◌∙◌, ap, subst, arith, ℕ, suc, ◌+◌, ◌≤◌, ◌<◌, Bool, true, false, List, [], ◌∷◌, ◌++◌, length, map, ℤ, pos, Option, Some, None, append_assoc, zero}
use Rattle.std.specs.Prelude.{All, slice_get, sum_by}
use Rattle.std.specs.List.{list_all}
use Rattle.zpl_nums.specs.declared.ends.End.TheVariants.{Trap}
use Rattle.zpl_nums.specs.declared.ends.TrapKind.{TrapKind}
use Rattle.zpl_nums.specs.Integer.{IsInteger}
use Rattle.zpl_text.specs.Escapes.{unescaped}
use Rattle.zpl_region.specs.declared.regions.Region.{Region}
use Rattle.zpl_region.specs.Dim.{HasStep}
use Rattle.zpl_region.specs.Region.{members}
use Rattle.zpl_region.proofs.HullLemmas.{has_steps}
use Rattle.zpl_arrays.specs.Array.{Array, element}
use Rattle.zpl_arrays.specs.ArrayText.{array_text}
use Rattle.zpl_arrays.proofs.ArrayLemmas.{array_of_is_array}
use Rattle.zpl_tree.specs.Syntax.{Base, Expr, Item, Str, Value, Write}
use Rattle.zpl_names.specs.Counts.{item_nodes}
use Rattle.zpl_names.specs.Kinds.{Rank}
use Rattle.zpl_names.specs.Sites.{Printed}
use Rattle.zpl_names.specs.Types.{type_of}
use Rattle.zpl_meaning.specs.Computed as mean
use Rattle.zpl_meaning.specs.Settled as phase
use Rattle.zpl_meaning.specs.Text as mean_text
use Rattle.zpl_meaning.specs.Outcome as out
use Rattle.zpl_meaning.specs.Statement as mean_statement
use Rattle.zpl_meaning.specs.Computed.{both_then, computed_then}
use Rattle.zpl_meaning.specs.Store.{Store}
use Rattle.zpl_meaning.specs.Context.{Place, over_at, rank_in}
use Rattle.zpl_meaning.specs.Fields.{Field, array_over, everywhere}
use Rattle.zpl_meaning.specs.Phases.{fields_in}
use Rattle.zpl_meaning.specs.Text.{field_text, items_text, print_text, value_text}
use Rattle.zpl_meaning.specs.Outcome.{Outcome}
use Rattle.node_form.specs.declared.instructions.Instr.TheVariants as instr
use Rattle.node_form.specs.Value as flat
use Rattle.node_form.specs.declared.tables.Tables.{Tables}
use Rattle.node_form.specs.Expression.{Expression, words_of, Variable}
use Rattle.node_form.specs.Value.{tree_value, scalar_operands, value_of}
use Rattle.node_form.proofs.ValueLemmas.{value_of-words_of}
use Rattle.row_runs.specs.Run as does_row
use Rattle.row_runs.specs.Structured as code
use Rattle.row_runs.specs.Run.{Ends, Step}
use Rattle.row_runs.specs.Straight.{Every}
use Rattle.row_runs.specs.Structured.{Course, by_step, rows_do}
use Rattle.grid_meaning.specs.Room.{zeros_at}
use Rattle.flat_form.specs.Row as row
use Rattle.flat_form.specs.Row.{Row}
use Rattle.flat_form.specs.Names.{word_reads}
use Rattle.flat_form.specs.Right.{can_read}
use Rattle.flat_form.specs.States.{IsStoreOf}
use Rattle.flat_form.specs.Whole.{Whole}
use Rattle.normal_runs.proofs.PlaceLemmas.{set_apart, set_there}
use Rattle.print_runs.specs.of_zpl_lowering.Statement as low
use Rattle.print_runs.specs.of_zpl_lowering.Where.{Slotted, Where, Next, is_flood, line_of, slotted_at}
use Rattle.print_runs.specs.of_zpl_lowering.Slate.{Placed, settled_each}
use Rattle.print_runs.specs.of_zpl_lowering.Hoist.{all_hoisted, kept_rows}
use Rattle.print_runs.specs.of_zpl_lowering.Lowered.{free_at, phased}
use Rattle.print_runs.specs.of_zpl_lowering.Statement.{Prints, is_truth, shown_at}
use Rattle.print_runs.specs.of_zpl_lowering.Tables.{temp_row}
use Rattle.print_runs.specs.of_lowering_runs.Seen.{Sight, seen_currents, seen_place, seen_store, numbered, scalar_in}
use Rattle.print_runs.specs.of_lowering_runs.Run.{decide, does, step}
use Rattle.print_runs.specs.of_lowering_runs.Agrees.{Agrees, Going, Trapping}
use Rattle.print_runs.specs.of_lowering_runs.Goes.{World, Goes}
use Rattle.print_runs.specs.of_lowering_runs.Stands.{AreStored, HasRoom, IsLike, Stands, TempsAt, Rises}
use Rattle.print_runs.proofs.of_lowering_runs.AgreeLemmas.{led_agrees, weaker_agrees}
use Rattle.print_runs.proofs.of_lowering_runs.FitLemmas.{anew_goes, temps_rest}
use Rattle.print_runs.proofs.of_lowering_runs.PrintLemmas.{end_prints, line_end, printing, rows_append, typed_step}
use Rattle.print_runs.proofs.of_lowering_runs.RowLemmas.{print_step, set_step, set_to}
use Rattle.print_runs.specs.of_lowering_runs.Scalars.{IsSameValue, BothGive, BothDivide}
use Rattle.print_runs.proofs.of_lowering_runs.NumberLemmas.{get_set_other, get_set_same, rises_on}
use Rattle.print_runs.specs.of_array_puts.Put.{assigned, put_group, with_array_in}
use Rattle.print_runs.specs.of_array_runs.Floods.{three_floods}
use Rattle.print_runs.proofs.of_array_runs.CodedLemmas.{current_of, region_of}
use Rattle.print_runs.proofs.of_array_runs.FloodLemmas.{current_floods}
use Rattle.print_runs.proofs.of_array_runs.StoredLemmas.{zip_at}
use Rattle.print_runs.specs.of_array_runs.Integers.{GivesIntegers}
use Rattle.call_runs.proofs.of_prefix_runs.UnderLemmas.{taken_at}
use Rattle.print_runs.specs.Printed.{HasNoFlood}
use Rattle.print_runs.proofs.TempLemmas.{all_written, computed_array, gather_step, loop_step, room_step, text_same}
use Rattle.operator_runs.specs.Meant.{InSlot, Under, Alone, Site, IsSite}
use Rattle.operator_runs.specs.Hoists.{HasValues, IsReadWell, Own, Spares, Unused, beyond, copies_of_all, unused_at, HaveValuesAt, MoreValues}
use Rattle.operator_runs.specs.Phases.{AreOwn, KeepsTaken, Phases, PassTo, OneTraps, IsTakenSite}
use Rattle.operator_runs.specs.Served.{ArePrintedOperated, IsPrintedOperated}
use Rattle.operator_runs.proofs.HoistLemmas.{every_map}
use Rattle.operator_runs.proofs.LikeLemmas.{like_taken, slot_taken, taken_spared, taken_then}
use Rattle.operator_runs.proofs.CurrentLemmas.{current_in}
use Rattle.operator_runs.proofs.MeantLemmas.{none_referred}
use Rattle.operator_runs.proofs.NodeLemmas.{printed_few}
use Rattle.operator_runs.proofs.PhaseLemmas.{phases_come, room_phases}
use Rattle.zpl_meaning.specs.Proper.{HasCurrent}
use Rattle.operator_runs.proofs.ReadLemmas.{Fits, ReadsUnder, fits_current, ReadsNone}
use Rattle.operator_runs.proofs.SettleLemmas.{AreOperated, placed_of, NoneOperated, MoreOperated}
use Rattle.operator_runs.proofs.SpareLemmas.{spares_all, spares_temp, spares_then, spares_total}
use Rattle.operator_runs.proofs.JoinLemmas.{with_total}
use Rattle.operator_runs.proofs.ScalarLemmas.{same_value}

abbrev cat : List ℕ → List ℕ → mean.Computed (List ℕ)
cat first rest = mean.Gives (first ++ rest)

abbrev ended : Bool → mean.Computed (List ℕ) → mean.Computed (List ℕ)
ended ends c = computed_then c (λ text. mean.Gives (text ++ line_end ends))

ended_both : (ends : Bool) (f c : mean.Computed (List ℕ))
    → both_then f (ended ends c) cat ≡ ended ends (both_then f c cat)
ended_both ends (mean.Gives a) (mean.Gives b) =
    ap (λ (t : List ℕ). mean.Gives t) (sym (append_assoc a b (line_end ends)))
ended_both ends (mean.Gives a) (mean.Traps kind) = refl
ended_both ends (mean.Traps kind) c = refl

one_more : (k : ℕ) → k + 1 ≡ suc k
one_more k = omega arith

none_more : (k : ℕ) → k + 0 ≡ k
none_more k = omega arith

-- where a value of a rank stands
abbrev pub site_of : Where → Place → Rank → Site
site_of w place (Some (suc below)) =
    Under (slotted_at w.currents (Some (suc below))) (over_at place.currents (Some (suc below))).region
site_of w place (Some zero) = Alone
site_of w place None = Alone

abbrev pub sites_of : Where → Place → List Item → List Site
sites_of w place [] = []
sites_of w place (Str bytes ∷ items) = sites_of w place items
sites_of w place (Value expr ∷ items) =
    site_of w place (rank_in place Printed expr) ∷ sites_of w place items

module _ (tables : Tables) (n : ℕ) (sight : Sight) (w : Where) (line : ℕ) (next : Next)
    (stands : Stands sight.spots w next) (start : Whole) (ends : Bool) (own : Own)
    (apart : AreOwn next.slots own) (free : Unused) (le : next.scalars ≤ free.scalars) (after : Whole)
    (stored : AreStored tables w.numbers.arrays) where
  abbrev place : Place
  place = seen_place sight w start

  abbrev Spared : Whole → Whole → Type 0
  Spared = Spares tables sight.spots w.numbers.arrays own free

  abbrev rows : List Row → Whole → Course Whole
  rows = rows_do (step tables n) (decide tables n)

  rises : Rises 0 (numbered sight.spots) free.scalars
  rises = rises_on 0 (numbered sight.spots) next.scalars free.scalars le stands.rises

  -- scalars and arrays with lower numbers are as they were
  record IsSameBelow (k temp : ℕ) (before end : Whole) : Type 0 where
    scalars : (j : ℕ) → j < k → scalar_in end j ≡ scalar_in before j
    stores : (j : ℕ) → j < temp → slice_get end.stores j ≡ slice_get before.stores j

  -- Rows of values come to a state in which all is printed; or they end with the trap that the text
  -- has.
  data Fills (k temp : ℕ) (before : Whole) (prints : List Row)
      : mean.Computed (List ℕ) → Course Whole → Type 0 where
    Filled : {text : List ℕ} {end : Whole} → Spared after end → IsSameBelow k temp before end
        → rows prints end ≡ printing text end
        → Fills k temp before prints (mean.Gives text) (code.goes_on end)
    Fails : {kind : TrapKind} {mid : Whole}
        → Fills k temp before prints (mean.Traps kind)
        (code.closes (code.Over (Ends (Trap kind line))) mid)

  led_by : (k temp : ℕ) (now : Whole) (bytes : List ℕ) (prints : List Row)
      (c : mean.Computed (List ℕ)) (course : Course Whole) → Fills k temp now prints c course
      → Fills k temp now (row.Print bytes ∷ prints) (both_then (mean.Gives bytes) c cat) course
  led_by k temp now bytes prints c course (Filled {text = text} {end = end} s below p) =
      Filled s below
      (ap (λ (x : Step Whole). by_step end x (rows prints))
      (print_step tables n end s.sound.settled bytes)
      ∙ ap (λ x. code.behind bytes 0 x) p)
  led_by k temp now bytes prints c course Fails = Fails

  -- ---- a scalar

  module _ (k temp : ℕ) (from : free.scalars ≤ k) (lt : k < tables.scalars) (now : Whole)
      (s : Spared after now) (type : Option Base) (rest : Prints) (c : mean.Computed (List ℕ))
      (others : (mid : Whole) → Spared after mid
      → Fills (suc k) temp mid rest.prints c (rows rest.values mid)) where
    abbrev prints : List Row
    prints = low.scalar_print (is_truth type) (words_of (Variable k)) ∷ rest.prints

    kept : (v : ℤ) → IsInteger v → (d : mean.Computed (List ℕ)) (course : Course Whole)
        → Fills (suc k) temp (with_total now k v) rest.prints d course
        → Fills k temp now prints (both_then (mean.Gives (value_text type v)) d cat) course
    kept v f d course (Filled {text = text} {end = end} l below p) =
        let inside : k < length now.scalars = omega (arith, lt, s.sound.filled.scalars) in
        Filled l
        (record {
          scalars = λ j b.
              below.scalars j (omega (arith, b))
              ∙ get_set_other now.scalars k j v (λ q. absurd (omega (arith, b, q)));
          stores = below.stores;
        })
        (ap (λ (x : Step Whole). by_step end x (rows rest.prints))
        (typed_step tables n end l.sound type k v lt
        (below.scalars k (omega arith) ∙ get_set_same now.scalars k v inside))
        ∙ ap (λ x. code.behind (value_text type v) 0 x) p)
    kept v f d course Fails = Fails

    by_value : (value : mean.Computed ℤ) (one : flat.Computed ℤ) → IsSameValue value one
        → Fills k temp now prints
        (both_then (computed_then value (λ v. mean.Gives (value_text type v))) c cat)
        (by_step now (set_to tables n now k line one) (rows rest.values))
    by_value value one (BothGive {value = v} f) =
        kept v f c (rows rest.values (with_total now k v))
        (others (with_total now k v)
        (spares_then tables sight.spots w.numbers.arrays own free free after now (with_total now k v)
        (record { scalars = omega arith; copies = omega arith; temps = omega arith }) s
        (spares_total tables sight.spots w.numbers.arrays own free now s.sound rises k from lt v f)))
    by_value value one BothDivide = Fails

    scalar_fills : (field : Field) (left : Expression)
        → HasValues tables sight.spots w.numbers.arrays own Alone free after field left
        → GivesIntegers field
        → Fills k temp now prints (both_then (field_text place type (Some 0) field) c cat)
        (rows (row.Set k (words_of left) line ∷ rest.values) now)
    scalar_fills field left h integers =
        subst (λ (x : Step Whole). Fills k temp now prints
        (both_then (field_text place type (Some 0) field) c cat) (by_step now x (rows rest.values)))
        (sym (set_step tables n now s.sound.settled k line (words_of left)))
        (by_value (field []) (value_of (scalar_operands now.scalars) (words_of left))
        (subst (λ (v : flat.Computed ℤ). IsSameValue (field []) v)
        (sym (value_of-words_of (scalar_operands now.scalars) left))
        (same_value (field []) (tree_value (scalar_operands now.scalars) left) (integers [] tt)
        (h.values now s [] [] refl))))

  -- ---- an array

  module _ (below : ℕ)
      (taken : (slotted_at w.currents (Some (suc below))).slot < next.slots) (tuples : Region)
      (there : InSlot after.slots (slotted_at w.currents (Some (suc below))) tuples)
      (plain : HasNoFlood (slotted_at w.currents (Some (suc below))).flood)
      (meant : (over_at place.currents (Some (suc below))).region ≡ tuples) where
    abbrev rank : Rank
    rank = Some (suc below)

    abbrev over : Slotted
    over = slotted_at w.currents rank

    floods : map is_flood tuples.dims ≡ three_floods 3 over.flood
    floods =
        current_floods after.slots tuples.rank over (current_in after.slots over tuples there)

    module _ (k temp : ℕ) (from : free.temps ≤ temp)
        (in_tables : slice_get tables.arrays temp ≡ Some (temp_row over.flood)) (now : Whole)
        (s : Spared after now) (type : Option Base) (field : Field) (left : Expression)
        (h : HasValues tables sight.spots w.numbers.arrays own (Under over tuples) free after field left)
        (rest : Prints) (c : mean.Computed (List ℕ))
        (others : (mid : Whole) → Spared after mid
        → Fills k (suc temp) mid rest.prints c (rows rest.values mid)) where
      abbrev gather : Row
      gather = row.Plain (instr.Gather (is_truth type) temp over.slot)

      steps : All HasStep tuples.dims
      steps = has_steps tuples.dims there.is.dims

      found : (later : Whole) → Spared after later → slice_get later.slots over.slot ≡ Some tuples
      found later s = s.slots over.slot (apart over.slot taken) ∙ there.found

      reads : (later : Whole) → Spared after later
          → Every (λ one. list_all (can_read tables later tuples) (word_reads one) ≡ true)
          (words_of left)
      reads later s =
          every_map (IsReadWell tables (Under over tuples) later free.scalars)
          (λ one. list_all (can_read tables later tuples) (word_reads one) ≡ true) (words_of left)
          (λ one r. r.reads) (h.reads later s)

      abbrev mid : Whole
      mid = with_array_in now temp (zeros_at tuples)

      old : (store : Array) × (slice_get now.stores temp ≡ Some store)
          × IsStoreOf (temp_row over.flood) store
      old = zip_at tables.arrays now.stores temp (temp_row over.flood) s.sound.filled.stores in_tables

      of_temp : (array : Array) → length array.values ≡ length (members array.storage)
          → IsStoreOf (temp_row over.flood) array
      of_temp array filled = record { filled = filled; placed = λ e. absurd (never e) }
        where
          never : false ≡ true → ⊥
          never e = cc

      -- with another value in the temporary
      with_temp : (begun : Whole) → Spared after begun → (array : Array)
          → length array.values ≡ length (members array.storage)
          → Spared after (with_array_in begun temp array)
      with_temp begun l array filled =
          spares_then tables sight.spots w.numbers.arrays own free free after begun
          (with_array_in begun temp array)
          (record { scalars = omega arith; copies = omega arith; temps = omega arith }) l
          (spares_temp tables sight.spots w.numbers.arrays own free begun l.sound stored temp from
          (temp_row over.flood) in_tables refl array (of_temp array filled))

      mid_spared : Spared after mid
      mid_spared =
          with_temp now s (zeros_at tuples) (array_of_is_array tuples (λ t. pos 0) steps).filled

      mid_there : slice_get mid.stores temp ≡ Some (zeros_at tuples)
      mid_there = set_there now.stores temp (zeros_at tuples) old.0 old.1

      abbrev put : Array → Whole
      put array = with_array_in mid temp array

      gathers : (array : Array) → array_over tuples everywhere field ≡ mean.Gives array
          → (d : mean.Computed (List ℕ)) (course : Course Whole)
          → Fills k (suc temp) (put array) rest.prints d course
          → Fills k temp now (gather ∷ rest.prints)
          (both_then (mean.Gives (array_text (value_text type) tuples (element array))) d cat) course
      gathers array e d course (Filled {text = text} {end = end} later kept p) =
          let a = computed_array tables n over.slot temp line tuples there.is over.flood in_tables floods
          left field array e in
          let bytes = array_text (value_text type) tuples (element array) in
          Filled later
          (record {
            scalars = kept.scalars;
            stores = λ j l.
                kept.stores j (omega (arith, l))
                ∙ set_apart mid.stores temp j array (λ q. absurd (omega (arith, l, q)))
                ∙ set_apart now.stores temp j (zeros_at tuples) (λ q. absurd (omega (arith, l, q)));
          })
          (ap (λ (x : Step Whole). by_step end x (rows rest.prints))
          (gather_step tables n over.slot temp line tuples there.is over.flood in_tables floods left field
          (is_truth type) end array later.sound.settled (found end later)
          (kept.stores temp (omega arith) ∙ set_there mid.stores temp array (zeros_at tuples) mid_there)
          a.storage plain
          ∙ ap (λ (f : ℤ → List ℕ). does_row.Goes (array_text f tuples (element array)) end)
          (text_same type))
          ∙ ap (λ x. code.behind bytes 0 x) p)
      gathers array e d course Fails = Fails

      by_values : (computed : mean.Computed Array) → array_over tuples everywhere field ≡ computed
          → Fills k temp now (gather ∷ rest.prints)
          (both_then (computed_then computed (λ array.
          mean.Gives (array_text (value_text type) tuples (element array)))) c cat)
          (by_step mid (assigned mid temp (zeros_at tuples) tuples everywhere line computed)
          (rows rest.values))
      by_values (mean.Gives array) e =
          let a = computed_array tables n over.slot temp line tuples there.is over.flood in_tables floods
          left field array e in
          subst (λ (b : Array). Fills k temp now (gather ∷ rest.prints)
          (both_then (mean.Gives (array_text (value_text type) tuples (element array))) c cat)
          (rows rest.values (put b)))
          (sym (all_written tables n over.slot temp line tuples there.is over.flood in_tables floods left
          field array a))
          (gathers array e c (rows rest.values (put array))
          (others (put array) (with_temp mid mid_spared array a.array_is.filled)))
      by_values (mean.Traps kind) e = Fails

      array_fills : Fills k temp now (gather ∷ rest.prints) (both_then (field_text place type rank field) c cat)
          (rows (kept_rows line temp over.slot left None ++ rest.values) now)
      array_fills =
          let loop = row.Loop over.slot (put_group temp (words_of left) None line) in
          subst (λ (x : Step Whole). Fills k temp now (gather ∷ rest.prints)
          (both_then (field_text place type rank field) c cat) (by_step now x (rows (loop ∷ rest.values))))
          (sym (room_step tables n over.slot temp line tuples there.is over.flood in_tables floods left
          field now s.sound.settled (found now s)))
          (subst (λ (x : Step Whole). Fills k temp now (gather ∷ rest.prints)
          (both_then (field_text place type rank field) c cat) (by_step mid x (rows rest.values)))
          (sym (loop_step tables n over.slot temp line tuples there.is over.flood in_tables floods left
          field mid mid_spared.sound.settled (found mid mid_spared) mid_there
          (λ cells t m. h.values mid mid_spared cells t m) (reads mid mid_spared)))
          (subst (λ (r : Region). Fills k temp now (gather ∷ rest.prints)
          (both_then (computed_then (array_over r everywhere field) (λ array.
          mean.Gives (array_text (value_text type) r (element array)))) c cat)
          (by_step mid (assigned mid temp (zeros_at tuples) tuples everywhere line
          (array_over tuples everywhere field)) (rows rest.values))) (sym meant)
          (by_values (array_over tuples everywhere field) refl)))

  -- ---- all items

  module _ (there : (rank : Rank) → HasCurrent place.currents rank
      → ((slotted_at w.currents rank).slot < next.slots)
      × InSlot after.slots (slotted_at w.currents rank) (over_at place.currents rank).region) where
    item_fills : (rank : Rank) (expr : Expr) → IsPrintedOperated rank expr w place
        → (type : Option Base) (field : Field) (left : Expression)
        → HasValues tables sight.spots w.numbers.arrays own (site_of w place rank) free after field left
        → GivesIntegers field → (k temp : ℕ) → free.scalars ≤ k → free.temps ≤ temp
        → (rest : ℕ → ℕ → Prints) (c : mean.Computed (List ℕ))
        → (let shown = shown_at line (is_truth type) k temp (slotted_at w.currents rank) rank left in
        let all = low.with_shown shown
        (rest (k + shown.scalars) (temp + length shown.temps)) in
        k + all.scalars ≤ tables.scalars → TempsAt tables.arrays temp all.temps → (now : Whole)
        → Spared after now
        → ((more other : ℕ) → free.scalars ≤ more → free.temps ≤ other
        → more + (rest more other).scalars ≤ tables.scalars
        → TempsAt tables.arrays other (rest more other).temps → (mid : Whole) → Spared after mid
        → Fills more other mid (rest more other).prints c (rows (rest more other).values mid))
        → Fills k temp now all.prints (both_then (field_text place type rank field) c cat)
        (rows all.values now))
    item_fills None expr h type field left v integers k temp from since rest c fits temps now s others =
        absurd h
    item_fills (Some zero) expr h type field left v integers k temp from since rest c fits temps now s
        others =
        scalar_fills k temp from (omega (arith, fits)) now s type (rest (k + 1) (temp + 0)) c
        (λ mid l.
        subst (λ (j : ℕ). Fills j temp mid (rest (k + 1) (temp + 0)).prints c
        (rows (rest (k + 1) (temp + 0)).values mid)) (one_more k)
        (subst (λ (j : ℕ). Fills (k + 1) j mid (rest (k + 1) (temp + 0)).prints c
        (rows (rest (k + 1) (temp + 0)).values mid)) (none_more temp)
        (others (k + 1) (temp + 0) (omega (arith, from)) (omega (arith, since)) (omega (arith, fits))
        (subst (λ (j : ℕ). TempsAt tables.arrays j (rest (k + 1) (temp + 0)).temps)
        (sym (none_more temp)) temps) mid l)))
        field left v integers
    item_fills (Some (suc below)) expr h type field left v integers k temp from since rest c fits temps
        now s others =
        let t = there (Some (suc below)) h.0 in
        array_fills below t.0 (over_at place.currents (Some (suc below))).region t.1 h.1 refl k temp
        since temps.0 now s type field left v (rest (k + 0) (temp + 1)) c
        (λ mid l.
        subst (λ (j : ℕ). Fills k j mid (rest (k + 0) (temp + 1)).prints c
        (rows (rest (k + 0) (temp + 1)).values mid)) (one_more temp)
        (subst (λ (j : ℕ). Fills j (temp + 1) mid (rest (k + 0) (temp + 1)).prints c
        (rows (rest (k + 0) (temp + 1)).values mid)) (none_more k)
        (others (k + 0) (temp + 1) (omega (arith, from)) (omega (arith, since)) (omega (arith, fits))
        (subst (λ (j : ℕ). TempsAt tables.arrays j (rest (k + 0) (temp + 1)).temps)
        (sym (one_more temp)) temps.1) mid l)))

    items_fill : (items : List Item) → ArePrintedOperated items w place → (fields : List Field)
        (lefts : List Expression)
        → HaveValuesAt tables sight.spots w.numbers.arrays own (sites_of w place items) free after fields lefts
        → Every GivesIntegers fields → (k temp : ℕ) → free.scalars ≤ k → free.temps ≤ temp
        → (let all = low.items_of w line k temp ends items lefts in
        k + all.scalars ≤ tables.scalars → TempsAt tables.arrays temp all.temps → (now : Whole)
        → Spared after now
        → Fills k temp now all.prints (ended ends (items_text place items fields)) (rows all.values now))
    items_fill [] h fields lefts v integers k temp from since fits temps now s =
        Filled s (record { scalars = λ j l. refl; stores = λ j l. refl })
        (end_prints tables n now s.sound ends)
    items_fill (Str bytes ∷ items) h fields lefts v integers k temp from since fits temps now s =
        let all = low.items_of w line k temp ends items lefts in
        subst (λ (c : mean.Computed (List ℕ)). Fills k temp now
        (row.Print (unescaped bytes) ∷ all.prints) c (rows all.values now))
        (ended_both ends (mean.Gives (unescaped bytes)) (items_text place items fields))
        (led_by k temp now (unescaped bytes) all.prints (ended ends (items_text place items fields))
        (rows all.values now)
        (items_fill items h fields lefts v integers k temp from since fits temps now s))
    items_fill (Value expr ∷ items) h _ _
        (MoreValues {field = field} {fields = fields} {left = left} {rest = lefts} v vs) integers k temp
        from since fits temps now s =
        let type = type_of w.scope expr in
        let rank = rank_in place Printed expr in
        let all = low.items_of w line k temp ends (Value expr ∷ items) (left ∷ lefts) in
        subst (λ (c : mean.Computed (List ℕ)). Fills k temp now all.prints c (rows all.values now))
        (ended_both ends (field_text place type rank field) (items_text place items fields))
        (item_fills rank expr h.0 type field left v integers.0 k temp from since
        (λ more other. low.items_of w line more other ends items lefts)
        (ended ends (items_text place items fields)) fits temps now s
        (λ more other from since fits temps mid l.
        items_fill items h.1 fields lefts vs integers.1 more other from since fits temps mid l))

-- ---- the statement

module _ (tables : Tables) (n : ℕ) (sight : Sight) (w : Where) (line : ℕ) (next : Next) (now : Whole)
    (stands : Stands sight.spots w next) (room : next.scalars ≤ tables.scalars)
    (like : IsLike tables sight.spots w next now (seen_store sight.spots w.numbers.arrays now) now)
    (ends : Bool) (items : List Item)
    (served : ArePrintedOperated items w (seen_place sight w now)) where
  abbrev here : Place
  here = seen_place sight w now

  abbrev store : Store
  store = seen_store sight.spots w.numbers.arrays now

  abbrev Like : Store → Whole → Type 0
  Like = IsLike tables sight.spots w next now

  abbrev exprs : List Placed
  exprs = low.printed_exprs w items

  items_meant : (items : List Item)
      → map placed_of (low.printed_exprs w items)
      ≡ mean_text.printed_exprs here items
  items_meant [] = refl
  items_meant (Str bytes ∷ items) = items_meant items
  items_meant (Value expr ∷ items) =
      ap (λ rest. record { rank = rank_in here Printed expr; expr = expr } ∷ rest) (items_meant items)

  -- the current region of a rank
  fits_here : (rank : Rank) → HasCurrent here.currents rank
      → Fits w.currents (seen_currents now w.currents) next.slots now.slots rank
      (slotted_at w.currents rank) (over_at here.currents rank).region
  fits_here rank h =
      let c = current_of tables w now rank like.held h in
      subst (λ (r : Region). Fits w.currents (seen_currents now w.currents) next.slots now.slots rank
      (slotted_at w.currents rank) r) (sym (region_of w now rank c))
      (fits_current w now rank next.slots (taken_at w.currents now rank next.slots stands.taken h) c)

  -- ---- where its values stand

  site_is : (rank : Rank) (expr : Expr) → IsPrintedOperated rank expr w here
      → IsSite now.slots (site_of w here rank)
  site_is None expr h = absurd h
  site_is (Some zero) expr h = tt
  site_is (Some (suc below)) expr h = (fits_here (Some (suc below)) h.0).in_slot

  each_site : (items : List Item) → ArePrintedOperated items w here
      → Every (IsSite now.slots) (sites_of w here items)
  each_site [] h = tt
  each_site (Str bytes ∷ items) h = each_site items h
  each_site (Value expr ∷ items) h =
      (site_is (rank_in here Printed expr) expr h.0, each_site items h.1)

  site_before : (rank : Rank) (expr : Expr) → IsPrintedOperated rank expr w here
      → IsTakenSite next.slots (site_of w here rank)
  site_before None expr h = absurd h
  site_before (Some zero) expr h = tt
  site_before (Some (suc below)) expr h = (fits_here (Some (suc below)) h.0).below

  each_before : (items : List Item) → ArePrintedOperated items w here
      → Every (IsTakenSite next.slots) (sites_of w here items)
  each_before [] h = tt
  each_before (Str bytes ∷ items) h = each_before items h
  each_before (Value expr ∷ items) h =
      (site_before (rank_in here Printed expr) expr h.0, each_before items h.1)

  item_operated : (rank : Rank) (expr : Expr) → IsPrintedOperated rank expr w here
      → (sites : List Site) (rest : List Placed) → AreOperated sight w next now sites rest
      → AreOperated sight w next now (site_of w here rank ∷ sites)
      (record { rank = rank; expr = expr } ∷ rest)
  item_operated None expr h sites rest k = absurd h
  item_operated (Some zero) expr h sites rest k = MoreOperated ReadsNone h k
  item_operated (Some (suc below)) expr h sites rest k =
      MoreOperated (ReadsUnder (fits_here (Some (suc below)) h.0)) h.2 k

  items_operated : (items : List Item) → ArePrintedOperated items w here
      → AreOperated sight w next now (sites_of w here items) (low.printed_exprs w items)
  items_operated [] h = NoneOperated
  items_operated (Str bytes ∷ items) h = items_operated items h
  items_operated (Value expr ∷ items) h =
      item_operated (rank_in here Printed expr) expr h.0 (sites_of w here items)
      (low.printed_exprs w items) (items_operated items h.1)

  -- ---- all of it

  abbrev text : mean.Computed (List Field) → mean.Computed (List ℕ)
  text c = computed_then c (λ fields. ended ends (items_text here items fields))

  abbrev outcome : mean.Computed (List ℕ) → Outcome
  outcome c = out.with_value c store line (out.prints store)

  finish : (mine : Own) (apart : AreOwn next.slots mine) (free : Unused)
      (le : next.scalars ≤ free.scalars) (k temp : ℕ) (after : Whole)
      → KeepsTaken tables sight.spots w.numbers.arrays next now after
      → (prints : List Row) (c : mean.Computed (List ℕ)) (course : Course Whole)
      → Fills tables n sight w line next stands now ends mine apart free le after like.held.stored k temp
      after prints c course
      → Agrees Like n 0 (outcome c)
      (code.then_do course (rows_do (step tables n) (decide tables n) prints))
  finish mine apart free le k temp after t prints c course
      (Filled {text = bytes} {end = end} l below p) =
      subst (λ (x : Course Whole). Agrees Like n 0 (out.prints store bytes) (code.behind [] 0 x)) (sym p)
      (Going (like_taken tables sight.spots w next now store now end stands like
      (taken_then tables sight.spots w.numbers.arrays next now after end t
      (taken_spared tables sight.spots w.numbers.arrays next mine free after end apart le l)))
      (omega arith))
  finish mine apart free le k temp after t prints c course Fails = Trapping (omega arith)

  came : (free : Unused) → next.scalars ≤ free.scalars → (lefts : List Expression) (k temp : ℕ)
      → free.scalars ≤ k → free.temps ≤ temp
      → (let all = low.items_of w line k temp ends items lefts in
      k + all.scalars ≤ tables.scalars → TempsAt tables.arrays temp all.temps
      → (c : mean.Computed (List Field)) (course : Course Whole) → (few most : ℕ) → few ≤ most
      → Phases tables sight.spots w.numbers.arrays (sites_of w here items) next free line few now lefts c
      course
      → Agrees Like n most (outcome (text c))
      (code.then_do course (rows_do (step tables n) (decide tables n) (all.values ++ all.prints))))
  came free le lefts k temp from since fits temps c course few most below (OneTraps less) =
      Trapping (omega (arith, less, below))
  came free le lefts k temp from since fits temps c course few most below
      (PassTo mine {after = after} {jumps = jumps} {fields = fields} apart t h integers less) =
      let all = low.items_of w line k temp ends items lefts in
      weaker_agrees Like n n (jumps + 0) most _ _ (omega arith) (omega (arith, less, below))
      (led_agrees Like n 0 jumps _ _
      (subst (λ (x : Course Whole). Agrees Like n 0 (outcome (text (mean.Gives fields))) x)
      (sym (rows_append tables n all.values all.prints after))
      (finish mine apart free le k temp after t all.prints (text (mean.Gives fields))
      (rows_do (step tables n) (decide tables n) all.values after)
      (items_fill tables n sight w line next stands now ends mine apart free le after like.held.stored
      (λ rank current.
      let f = fits_here rank current in (
        f.below,
        slot_taken tables sight.spots w.numbers.arrays next now after t.slots
            (slotted_at w.currents rank) (over_at here.currents rank).region f.below f.in_slot,
      ))
      items served fields lefts h integers k temp from since fits temps after
      (spares_all tables sight.spots w.numbers.arrays mine free after t.sound)))))

  pub write_agrees : (let own = low.lowered_write w line next ends items in
      HasRoom tables next own
      → Agrees Like n (sum_by item_nodes items) (outcome (print_text here store ends items))
      (does tables n own.code now))
  write_agrees space =
      let none = none_referred tables sight.spots w line like.held.stored now like.sound in
      let phases = phased w line next exprs in
      let temp = next.temps + length phases.lowered.temps in
      let all = low.items_of w line (next.scalars + phases.lowered.scalars) temp ends items phases.left in
      subst (λ (es : List phase.Placed). Agrees Like n (sum_by item_nodes items)
      (outcome (text (fields_in here store true es)))
      (does tables n (low.lowered_write w line next ends items).code now)) (items_meant items)
      (came
      (beyond (unused_at next) (copies_of_all (settled_each w line next exprs).slate)
      (all_hoisted w.numbers line (free_at next 0) (settled_each w line next exprs).slate))
      (omega arith) phases.left (next.scalars + phases.lowered.scalars) temp (omega arith) (omega arith)
      (omega (arith, space.scalars))
      (temps_rest tables.arrays next.temps phases.lowered.temps all.temps space.temps) _ _
      _ (sum_by item_nodes items) (printed_few items w line next)
      (phases_come tables n sight w line next now stands room like.sound like.held
      (sites_of w here items) (each_site items served) (each_before items served) [] true none tt [] true
      none tt exprs (items_operated items served) (room_phases tables next phases.lowered _ space)))

pub prints_go : (world : World) (at : ℕ) (ends : Bool) (items : List Item)
    → Goes world (ArePrintedOperated items)
    (λ c store. mean_statement.exec_form c world.turns at (Write ends items) store)
    (λ l next. low.lowered_form l next at (Write ends items)) (sum_by item_nodes items)
prints_go world at ends items =
    anew_goes world (ArePrintedOperated items)
    (λ c store. mean_statement.exec_form c world.turns at (Write ends items) store)
    (λ l next. low.lowered_form l next at (Write ends items)) (sum_by item_nodes items)
    (λ sight w next now stands served room like.
    write_agrees world.tables world.turns sight w (line_of w at) next now stands
    (let le : next.scalars ≤ world.tables.scalars = omega (arith, room.scalars) in le) like ends items
    served room)
