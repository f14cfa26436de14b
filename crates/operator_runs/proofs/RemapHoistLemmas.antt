-- The rows of a remap read, told alone: temporaries get the values of its indices, a fold says whether
-- one of their tuples is outside the storage, and the read's values come into a temporary.
use Rattle.std.proofs.Common.{◌≡◌, refl, sym, ◌∙◌, ap, subst, arith, ℕ, suc, ◌+◌, ◌<◌, ◌≤◌, Bool, true, false}
use Rattle.std.proofs.Common.{◌&&◌, not, List, [], ◌∷◌, ◌++◌, length, map, filter, ℤ, pos, Option, Some, inr}
use Rattle.std.specs.Prelude.{◌||◌, All, cond, fold, replicate, slice_get}
use Rattle.std.proofs.Math.Path.{fun_ext}
use Rattle.std.specs.List.{cons_option, filter_map, list_all}
use Rattle.zpl_nums.specs.declared.ends.End.TheVariants.{Trap}
use Rattle.zpl_nums.specs.declared.ends.TrapKind.TheVariants.{OutsideStorage}
use Rattle.zpl_nums.specs.declared.folds.Fold.TheVariants.{Any}
use Rattle.zpl_nums.specs.Fold.{joined, unit_of}
use Rattle.zpl_nums.specs.Integer.{IsInteger, is_true, truth}
use Rattle.zpl_nums.proofs.IntegerLemmas.{is_true-truth}
use Rattle.zpl_region.specs.declared.regions.Region.{Region}
use Rattle.zpl_region.specs.Dim.{HasStep}
use Rattle.zpl_region.specs.Hull.{IsBoxed}
use Rattle.zpl_region.specs.Region.{IsMember, IsRegion, members}
use Rattle.zpl_region.proofs.HullLemmas.{has_steps}
use Rattle.zpl_region.proofs.LawLemmas.{members_iff}
use Rattle.zpl_region.proofs.ListLemmas.{Contains-from_among}
use Rattle.zpl_arrays.specs.Array.{Array, array_of, element, has_place}
use Rattle.zpl_arrays.specs.Fold.{reduced}
use Rattle.zpl_arrays.proofs.ArrayLemmas.{array_of_is_array, element_of_member}
use Rattle.zpl_binding.specs.Vectors.{three_components}
use Rattle.zpl_meaning.specs.Computed as mean
use Rattle.zpl_meaning.specs.Computed.{both_then, computed_then, provided}
use Rattle.zpl_meaning.specs.Store.{Store, array_at}
use Rattle.zpl_meaning.specs.Context.{is_kept}
use Rattle.zpl_meaning.specs.Fields.{Field, array_over, arrays_over, constant_field, has_target, is_kept_in, remap_field, target_of, values_at}
use Rattle.node_form.specs.declared.tables.Tables.{Tables}
use Rattle.node_form.specs.declared.instructions.Instr.TheVariants as instr
use Rattle.node_form.specs.declared.words.ExprOp.{ExprOp}
use Rattle.node_form.specs.Expression as word
use Rattle.node_form.specs.Expression.{Expression, words_of}
use Rattle.node_form.specs.Value as flat
use Rattle.node_form.specs.Value.{scalar_operands, tree_value, unmoved, value_of}
use Rattle.node_form.proofs.ValueLemmas.{value_of-words_of}
use Rattle.row_runs.specs.Code.{Says}
use Rattle.row_runs.specs.Run.{Ends, Goes, Step}
use Rattle.row_runs.specs.Straight.{Every}
use Rattle.row_runs.specs.Structured as code
use Rattle.row_runs.specs.Structured.{Course, Over, by_step, closes, rows_do}
use Rattle.grid_meaning.specs.Remap.{padded}
use Rattle.grid_meaning.specs.Room.{zeros_at}
use Rattle.flat_form.specs.Loop.{looped, operands_at}
use Rattle.flat_form.specs.Moves as move
use Rattle.flat_form.specs.Moves.{found, moved_in, reads_in, remapped, wanted_at}
use Rattle.flat_form.specs.Names.{group_cells, group_words, word_reads}
use Rattle.flat_form.specs.Right.{can_read, no_flood}
use Rattle.flat_form.specs.Row as row
use Rattle.flat_form.specs.Row.{Member, Row, Words, mask_words}
use Rattle.flat_form.specs.States.{IsStoreOf}
use Rattle.flat_form.specs.Whole.{Whole}
use Rattle.normal_runs.proofs.PlaceLemmas.{set_apart, set_there}
use Rattle.normal_runs.proofs.PutLemmas.{start_point}
use Rattle.print_runs.specs.of_zpl_lowering.Where.{Stored, Slotted, Where}
use Rattle.print_runs.specs.of_zpl_lowering.Tables.{temp_row}
use Rattle.print_runs.specs.of_zpl_lowering.Reference.{over_reference}
use Rattle.print_runs.specs.of_zpl_lowering.Hoist.{index_puts, mask_code, outside_code, remap_code, rooms, temps_from, three_of, trap_if}
use Rattle.print_runs.specs.of_lowering_runs.Run.{decide, does, step, straight}
use Rattle.print_runs.specs.of_lowering_runs.Scalars.{IsSameValue, BothGive as BothGive_}
use Rattle.print_runs.specs.of_lowering_runs.Seen.{Spot, numbered}
use Rattle.print_runs.specs.of_lowering_runs.Stands.{AreStored, IsSound, Rises, TempsAt}
use Rattle.print_runs.proofs.of_lowering_runs.AgreeLemmas.{sum_of}
use Rattle.print_runs.proofs.of_lowering_runs.NumberLemmas.{get_same}
use Rattle.print_runs.proofs.of_lowering_runs.RowLemmas.{check_says, settled_act}
use Rattle.print_runs.specs.of_array_puts.Put.{IsMask, IsSame, BothGive, with_array_in}
use Rattle.print_runs.proofs.of_array_puts.PutLemmas.{choice, chosen, number_in}
use Rattle.print_runs.proofs.of_array_puts.WriteLemmas.{every_among}
use Rattle.print_runs.specs.of_array_runs.Elementwise.{IsReadableMask}
use Rattle.print_runs.specs.of_array_runs.Gates.{holds}
use Rattle.print_runs.proofs.of_array_runs.FloodLemmas.{current_floods}
use Rattle.print_runs.proofs.of_array_runs.MaskLemmas.{IsMasking}
use Rattle.print_runs.proofs.of_array_runs.StoredLemmas.{IsFound, found_array, zip_at}
use Rattle.print_runs.proofs.TempLemmas.{room_step}
use Rattle.print_runs.proofs.of_array_runs.IntegerLemmas.{unit_integer}
use Rattle.operator_runs.specs.Meant.{InSlot, Under}
use Rattle.operator_runs.specs.Hoists.{Own, Unused, operands_of, IsReadWell, Spares, HasValues, HaveValues, Hoists, Reaches, Stumbles, HoistAll, AllReach, OneStumbles}
use Rattle.operator_runs.proofs.StateLemmas.{AreApart, holds_in, mask_held, HasState, slot_in_state, spared_state}
use Rattle.operator_runs.proofs.JoinLemmas.{acc_group, with_total, IsJoining}
use Rattle.operator_runs.proofs.FoldLemmas.{with_fold, fold_course, fold_does}
use Rattle.operator_runs.proofs.SpareLemmas.{IsFreer, spares_all, spares_then, spares_total, spares_fold, spares_temp}
use Rattle.operator_runs.proofs.StandLemmas.{NamesBelow, acc_stands, mask_names}
use Rattle.operator_runs.proofs.CurrentLemmas.{current_in}
use Rattle.operator_runs.proofs.MeantLemmas.{mask_at}
use Rattle.operator_runs.proofs.IntegerLemmas.{any_integer}
use Rattle.operator_runs.proofs.TempLemmas.{array_is, can_put, can_take, moved_is, temp_value}
use Rattle.operator_runs.proofs.PutsLemmas.{AllFill, AreRoomed, AreWritable, all_filled, puts_fill, puts_stand, with_arrays}
use Rattle.operator_runs.proofs.OutsideLemmas.{AllHere, AreRead, outside_value, outside_words}

-- ---- lists

pub every_map : {X : Type 0} (P Q : X → Type 0) (xs : List X) → ((x : X) → P x → Q x) → Every P xs
    → Every Q xs
every_map P Q [] f h = tt
every_map P Q (x ∷ xs) f h = (f x h.0, every_map P Q xs f h.1)

three_is : (xs : List ℤ) → three_components xs ≡ padded xs
three_is [] = refl
three_is (x ∷ []) = refl
three_is (x ∷ y ∷ []) = refl
three_is (x ∷ y ∷ z ∷ xs) = refl

length_map : {A B : Type 0} (f : A → B) (xs : List A) → length (map f xs) ≡ length xs
length_map f [] = refl
length_map f (x ∷ xs) = ap suc (length_map f xs)

-- ---- values without a trap

value_total : (b : Bool) (v : ℤ)
    → choice b (mean.Gives v) ≡ mean.Gives (number_in (choice b (mean.Gives v)))
value_total true v = refl
value_total false v = refl

values_total : (is_in : List ℤ → Bool) (g : List ℤ → ℤ) (ts : List (List ℤ))
    → values_at is_in (λ t. mean.Gives (g t)) ts
    ≡ mean.Gives (map (λ t. number_in (choice (is_in t) (mean.Gives (g t)))) ts)
values_total is_in g [] = refl
values_total is_in g (t ∷ ts) =
    ap (λ c. both_then c (values_at is_in (λ t. mean.Gives (g t)) ts) (λ value values.
    mean.Gives (value ∷ values)))
    (chosen (is_in t) (λ t. mean.Gives (g t)) t ∙ value_total (is_in t) (g t))
    ∙ ap (λ c. both_then (mean.Gives (number_in (choice (is_in t) (mean.Gives (g t))))) c
    (λ value values. mean.Gives (value ∷ values))) (values_total is_in g ts)

pub total_array : (region : Region) (is_in : List ℤ → Bool) (g : List ℤ → ℤ)
    → array_over region is_in (λ t. mean.Gives (g t))
    ≡ mean.Gives (array_of region (λ t. number_in (choice (is_in t) (mean.Gives (g t)))))
total_array region is_in g =
    ap (λ c. computed_then c (λ values. mean.Gives (record { storage = region; values = values })))
    (values_total is_in g (members region))

-- ---- a fold says whether a tuple is outside

or_parts : (a p l : Bool) → ((a || not p) || not l) ≡ (a || not (p && l))
or_parts true p l = refl
or_parts false true l = refl
or_parts false false l = refl

module _ (is_in : List ℤ → Bool) (array : Array) (indices : List Array) (e : List ℤ → ℤ) where
  abbrev all_targets : List (List ℤ) → Bool
  all_targets ts = list_all (λ t. has_target (is_in t) array indices t) ts

  any_outside : (ts : List (List ℤ)) (own : ℤ)
      → Every (λ t. is_in t ≡ true
      → is_true (e t) ≡ not (has_place array.storage (target_of indices t))) ts
      → is_true (fold (joined Any) own (map e (filter is_in ts)))
      ≡ (is_true own || not (all_targets ts))
  any_outside [] own h = or_none (is_true own)
    where
      or_none : (b : Bool) → b ≡ (b || false)
      or_none true = refl
      or_none false = refl
  any_outside (t ∷ ts) own h = by (is_in t) h.0 (λ own. any_outside ts own h.1)
    where
      place : Bool
      place = has_place array.storage (target_of indices t)

      by : (b : Bool)
          → (b ≡ true → is_true (e t) ≡ not (has_place array.storage (target_of indices t)))
          → ((own : ℤ) → is_true (fold (joined Any) own (map e (filter is_in ts)))
          ≡ (is_true own || not (all_targets ts)))
          → is_true (fold (joined Any) own
          (map e (cond b (t ∷ filter is_in ts) (filter is_in ts))))
          ≡ (is_true own || not (has_target b array indices t && all_targets ts))
      by false here more = more own
      by true here more =
          more (truth (is_true own || is_true (e t)))
          ∙ ap (λ b. b || not (all_targets ts)) (is_true-truth (is_true own || is_true (e t)))
          ∙ ap (λ b. (is_true own || b) || not (all_targets ts)) (here refl)
          ∙ or_parts (is_true own) (has_place array.storage (target_of indices t)) (all_targets ts)

-- ---- rows of the tables, one after another, for as many temporaries as a list has

module _ (tables : Tables) (flood : List Bool) where
  abbrev pub RowsFor : {X : Type 0} → ℕ → List X → Type 0
  RowsFor k [] = Unit {0}
  RowsFor k (x ∷ xs) =
      (slice_get tables.arrays k ≡ Some (temp_row flood)) × RowsFor (suc k) xs

  pub rows_parts : {X : Type 0} (k : ℕ) (xs : List X)
      → TempsAt tables.arrays k (replicate (length xs + 1) flood)
      → RowsFor k xs × (slice_get tables.arrays (k + length xs) ≡ Some (temp_row flood))
  rows_parts k [] h = (
    tt,
    ap (λ i. slice_get tables.arrays i) (let q : k + 0 ≡ k = omega arith in q) ∙ h.0,
  )
  rows_parts k (x ∷ xs) h =
      let g : TempsAt tables.arrays k (flood ∷ replicate (length xs + 1) flood) =
      subst (λ (count : ℕ). TempsAt tables.arrays k (replicate count flood))
      (let q : suc (length xs) + 1 ≡ suc (length xs + 1) = omega arith in q) h in
      let rest = rows_parts (suc k) xs g.1 in (
        (g.0, rest.0),
        ap (λ i. slice_get tables.arrays i)
            (let q : k + suc (length xs) ≡ suc k + length xs = omega arith in q) ∙ rest.1,
      )

  rows_as : {X Y : Type 0} (k : ℕ) (xs : List X) (ys : List Y) → length xs ≡ length ys
      → RowsFor k xs → RowsFor k ys
  rows_as k [] [] e h = tt
  rows_as k [] (y ∷ ys) e h = absurd (omega (arith, e))
  rows_as k (x ∷ xs) [] e h = tt
  rows_as k (x ∷ xs) (y ∷ ys) e h = (h.0, rows_as (suc k) xs ys (omega (arith, e)) h.1)

-- ---- arrays over a region

abbrev pub AreOver : Region → List Array → Type 0
AreOver region [] = Unit {0}
AreOver region (array ∷ arrays) =
    ((f : List ℤ → ℤ) × (array ≡ array_of region f)) × AreOver region arrays

over_arrays : (region : Region) (is_in : List ℤ → Bool) (fields : List Field) (arrays : List Array)
    → arrays_over region is_in fields ≡ mean.Gives arrays
    → AreOver region arrays × (length arrays ≡ length fields)
over_arrays region is_in [] [] e = (tt, refl)
over_arrays region is_in [] (array ∷ arrays) e = absurd (let no : ⊥ = cc in no)
over_arrays region is_in (field ∷ fields) arrays e =
    by (array_over region is_in field) (arrays_over region is_in fields) refl refl arrays e
    (λ others f. over_arrays region is_in fields others f)
  where
    by : (c : mean.Computed Array) (d : mean.Computed (List Array))
        → array_over region is_in field ≡ c → arrays_over region is_in fields ≡ d
        → (arrays : List Array)
        → both_then c d (λ array arrays. mean.Gives (array ∷ arrays)) ≡ mean.Gives arrays
        → ((others : List Array) → arrays_over region is_in fields ≡ mean.Gives others
        → AreOver region others × (length others ≡ length fields))
        → AreOver region arrays × (length arrays ≡ suc (length fields))
    by (mean.Gives one) (mean.Gives others) p q [] e more = absurd (let no : ⊥ = cc in no)
    by (mean.Gives one) (mean.Gives others) p q (array ∷ arrays) e more =
        let first : one ≡ array = cc in
        let rest : others ≡ arrays = cc in
        let h = more arrays (q ∙ ap (λ xs. mean.Gives xs) rest) in (
          ((_, sym first ∙ array_is region is_in field one p), h.0),
          ap suc h.1,
        )
    by (mean.Gives one) (mean.Traps kind) p q arrays e more = absurd (let no : ⊥ = cc in no)
    by (mean.Traps kind) d p q arrays e more = absurd (let no : ⊥ = cc in no)

abbrev pub AreHeld : Whole → ℕ → List Array → Type 0
AreHeld whole k [] = Unit {0}
AreHeld whole k (array ∷ arrays) =
    (slice_get whole.stores k ≡ Some array) × AreHeld whole (suc k) arrays

arrays_below : (whole : Whole) (temp : ℕ) (arrays : List Array) (k : ℕ) → k < temp
    → slice_get (with_arrays whole temp arrays).stores k ≡ slice_get whole.stores k
arrays_below whole temp [] k lt = refl
arrays_below whole temp (array ∷ arrays) k lt =
    arrays_below (with_array_in whole temp array) (suc temp) arrays k (omega (arith, lt))
    ∙ set_apart whole.stores temp k array (λ q. absurd (omega (arith, lt, q)))

-- held in a state with the same arrays from a number on, below another one
held_as : (one other : Whole) (last k : ℕ) (arrays : List Array) → k + length arrays ≤ last
    → ((i : ℕ) → k ≤ i → i < last → slice_get other.stores i ≡ slice_get one.stores i)
    → AreHeld one k arrays → AreHeld other k arrays
held_as one other last k [] le same h = tt
held_as one other last k (array ∷ arrays) le same h = (
  same k (omega arith) (omega (arith, le)) ∙ h.0,
  held_as one other last (suc k) arrays (omega (arith, le))
      (λ i from below. same i (omega (arith, from)) below) h.1,
)

held_list : (whole : Whole) (k : ℕ) (left : List Expression) (arrays : List Array)
    → length arrays ≡ length left → AreHeld whole k arrays
    → filter_map (λ part. slice_get whole.stores part) (temps_from k left) ≡ arrays
held_list whole k [] [] e h = refl
held_list whole k [] (array ∷ arrays) e h = absurd (omega (arith, e))
held_list whole k (one ∷ left) [] e h = absurd (omega (arith, e))
held_list whole k (one ∷ left) (array ∷ arrays) e h =
    ap (λ o. cons_option o (filter_map (λ part. slice_get whole.stores part)
    (temps_from (suc k) left))) h.0
    ∙ ap (λ xs. array ∷ xs) (held_list whole (suc k) left arrays (omega (arith, e)) h.1)

three_temps : (temp : ℕ) (left : List Expression) → length left ≤ 3
    → filter_map (λ (part : Option ℕ). part) (three_of (temps_from temp left)) ≡ temps_from temp left
three_temps temp [] le = refl
three_temps temp (a ∷ []) le = refl
three_temps temp (a ∷ b ∷ []) le = refl
three_temps temp (a ∷ b ∷ c ∷ []) le = refl
three_temps temp (a ∷ b ∷ c ∷ d ∷ left) le = absurd (omega (arith, le))

-- ---- the rows

module _ (tables : Tables) (n : ℕ) (spots : List Spot) (w : Where) (line : ℕ)
    (all : AreStored tables w.numbers.arrays) (own : Own) (slots : List Region)
    (apart : AreApart own slots) (store : Store) where
  abbrev Spared : Unused → Whole → Whole → Type 0
  Spared = Spares tables spots w.numbers.arrays own

  abbrev State : Whole → Type 0
  State = HasState tables spots w.numbers.arrays own slots apart store

  abbrev rows : List Row → Whole → Course Whole
  rows = rows_do (step tables n) (decide tables n)

  module _ (over : Slotted) (region : Region) (j : InSlot slots over region) (mid : Unused) where
    pub steps : All HasStep region.dims
    steps = has_steps region.dims j.is.dims

    pub same_free : IsFreer mid mid
    same_free = record { scalars = omega arith; copies = omega arith; temps = omega arith }

    pub there : (whole : Whole) → State whole → InSlot whole.slots over region
    there whole here =
        slot_in_state tables spots w.numbers.arrays own slots apart store whole here over region j

    pub next_state : (whole after : Whole) → State whole → Spared mid whole after → State after
    next_state whole after here s =
        spared_state tables spots w.numbers.arrays own slots apart store mid whole after here s

    abbrev IsRow : ℕ → Type 0
    IsRow k = slice_get tables.arrays k ≡ Some (temp_row over.flood)

    of_temp : (f : List ℤ → ℤ) → IsStoreOf (temp_row over.flood) (array_of region f)
    of_temp f =
        record { filled = (array_of_is_array region f steps).filled; placed = λ e. absurd (never e) }
      where
        never : false ≡ true → ⊥
        never e = cc

    pub spared_array : (whole : Whole) → IsSound tables whole → (k : ℕ) → mid.temps ≤ k → IsRow k
        → (f : List ℤ → ℤ) → Spared mid whole (with_array_in whole k (array_of region f))
    spared_array whole sound k from at f =
        spares_temp tables spots w.numbers.arrays own mid whole sound all k from (temp_row over.flood) at refl
        (array_of region f) (of_temp f)

    pub array_there : (whole : Whole) → IsSound tables whole → (k : ℕ) → IsRow k → (array : Array)
        → slice_get (with_array_in whole k array).stores k ≡ Some array
    array_there whole sound k at array =
        let old = zip_at tables.arrays whole.stores k (temp_row over.flood) sound.filled.stores at in
        set_there whole.stores k array old.0 old.1

    -- ---- rooms

    abbrev all_roomed : Whole → ℕ → List Expression → Whole
    all_roomed whole temp [] = whole
    all_roomed whole temp (one ∷ left) =
        all_roomed (with_array_in whole temp (zeros_at region)) (suc temp) left

    abbrev Rows : {X : Type 0} → ℕ → List X → Type 0
    Rows k xs = RowsFor tables over.flood k xs

    pub one_room : (whole : Whole) → State whole → (k : ℕ) → IsRow k
        → step tables n (row.Plain (instr.Room k over.slot)) whole
        ≡ Goes [] (with_array_in whole k (zeros_at region))
    one_room whole here k at =
        room_step tables n over.slot k line region j.is over.flood at
        (current_floods slots region.rank over (current_in slots over region j))
        (word.Constant (pos 0)) (constant_field (pos 0)) whole here.sound.settled
        (there whole here).found

    rooms_do : (temp : ℕ) (left : List Expression) (whole : Whole) → State whole → mid.temps ≤ temp
        → Rows temp left → (rest : List Row)
        → rows (rooms over.slot (temps_from temp left) ++ rest) whole
        ≡ rows rest (all_roomed whole temp left)
    rooms_do temp [] whole here from at rest = refl
    rooms_do temp (one ∷ left) whole here from at rest =
        ap (λ s. by_step whole s (rows (rooms over.slot (temps_from (suc temp) left) ++ rest)))
        (one_room whole here temp at.0)
        ∙ rooms_do (suc temp) left (with_array_in whole temp (zeros_at region))
        (next_state whole (with_array_in whole temp (zeros_at region)) here
        (spared_array whole here.sound temp from at.0 (λ t. pos 0))) (omega (arith, from)) at.1 rest

    roomed_spares : (temp : ℕ) (left : List Expression) (whole : Whole) → State whole
        → mid.temps ≤ temp → Rows temp left → Spared mid whole (all_roomed whole temp left)
    roomed_spares temp [] whole here from at =
        spares_all tables spots w.numbers.arrays own mid whole here.sound
    roomed_spares temp (one ∷ left) whole here from at =
        let s = spared_array whole here.sound temp from at.0 (λ t. pos 0) in
        let next = with_array_in whole temp (zeros_at region) in
        spares_then tables spots w.numbers.arrays own mid mid whole next (all_roomed next (suc temp) left)
        same_free s
        (roomed_spares (suc temp) left next (next_state whole next here s) (omega (arith, from)) at.1)

    roomed_below : (temp : ℕ) (left : List Expression) (whole : Whole) (k : ℕ) → k < temp
        → slice_get (all_roomed whole temp left).stores k ≡ slice_get whole.stores k
    roomed_below temp [] whole k lt = refl
    roomed_below temp (one ∷ left) whole k lt =
        roomed_below (suc temp) left (with_array_in whole temp (zeros_at region)) k (omega (arith, lt))
        ∙ set_apart whole.stores temp k (zeros_at region) (λ q. absurd (omega (arith, lt, q)))

    roomed_there : (temp : ℕ) (left : List Expression) (whole : Whole) → State whole
        → mid.temps ≤ temp → Rows temp left
        → AreRoomed region (all_roomed whole temp left) temp left
    roomed_there temp [] whole here from at = tt
    roomed_there temp (one ∷ left) whole here from at =
        let next = with_array_in whole temp (zeros_at region) in (
          roomed_below (suc temp) left next temp (omega arith)
              ∙ array_there whole here.sound temp at.0 (zeros_at region),
          roomed_there (suc temp) left next (next_state whole next here
              (spared_array whole here.sound temp from at.0 (λ t. pos 0))) (omega (arith, from)) at.1,
        )

    -- ---- arrays

    arrays_spares : (temp : ℕ) (arrays : List Array) (whole : Whole) → State whole
        → mid.temps ≤ temp → Rows temp arrays → AreOver region arrays
        → Spared mid whole (with_arrays whole temp arrays)
    arrays_spares temp [] whole here from at are =
        spares_all tables spots w.numbers.arrays own mid whole here.sound
    arrays_spares temp (array ∷ arrays) whole here from at are =
        let next = with_array_in whole temp array in
        let s : Spared mid whole next =
        subst (λ (a : Array). Spared mid whole (with_array_in whole temp a)) (sym are.0.1)
        (spared_array whole here.sound temp from at.0 are.0.0) in
        spares_then tables spots w.numbers.arrays own mid mid whole next (with_arrays next (suc temp) arrays)
        same_free s
        (arrays_spares (suc temp) arrays next (next_state whole next here s) (omega (arith, from)) at.1
        are.1)

    arrays_held : (temp : ℕ) (arrays : List Array) (whole : Whole) → State whole
        → mid.temps ≤ temp → Rows temp arrays → AreOver region arrays
        → AreHeld (with_arrays whole temp arrays) temp arrays
    arrays_held temp [] whole here from at are = tt
    arrays_held temp (array ∷ arrays) whole here from at are =
        let next = with_array_in whole temp array in
        let s : Spared mid whole next =
        subst (λ (a : Array). Spared mid whole (with_array_in whole temp a)) (sym are.0.1)
        (spared_array whole here.sound temp from at.0 are.0.0) in (
          arrays_below next (suc temp) arrays temp (omega arith)
              ∙ array_there whole here.sound temp at.0 array,
          arrays_held (suc temp) arrays next (next_state whole next here s) (omega (arith, from)) at.1
              are.1,
        )

    -- they are read there
    held_read : (temp : ℕ) (arrays : List Array) (whole : Whole) → Rows temp arrays
        → AreOver region arrays → AreHeld whole temp arrays → (cells t : List ℤ) → IsMember region t
        → AreRead (operands_at whole t (record { cells = cells; log = [] })) temp
        (map (λ array. element array t) arrays)
    held_read temp [] whole at are held cells t m = tt
    held_read temp (array ∷ arrays) whole at are held cells t m = (
      temp_value tables n over region temp at.0 slots j whole are.0.0
          (held.0 ∙ ap (λ (a : Array). Some a) are.0.1) cells t m
          ∙ ap (λ v. flat.Gives v) (sym (ap (λ (a : Array). element a t) are.0.1
          ∙ element_of_member region are.0.0 t steps m)),
      held_read (suc temp) arrays whole at.1 are.1 held.1 cells t m,
    )

    held_take : (temp : ℕ) (array : Array) (whole : Whole) → IsRow temp
        → (f : List ℤ → ℤ) → array ≡ array_of region f → slice_get whole.stores temp ≡ Some array
        → can_read tables whole region (record { array = temp; shift = unmoved }) ≡ true
    held_take temp array whole at f e held =
        can_take tables n over region temp at slots j whole array held
        (ap (λ (a : Array). a.storage) e)

    abbrev Reads : Whole → ExprOp → Type 0
    Reads whole one = list_all (can_read tables whole region) (word_reads one) ≡ true

    held_here : (temp : ℕ) (arrays : List Array) (whole : Whole) → Rows temp arrays
        → AreOver region arrays → AreHeld whole temp arrays → AllHere (Reads whole) temp arrays
    held_here temp [] whole at are held = tt
    held_here temp (array ∷ arrays) whole at are held = (
      ap (λ b. b && true) (held_take temp array whole at.0 are.0.0 are.0.1 held.0),
      held_here (suc temp) arrays whole at.1 are.1 held.1,
    )

    no_names : {X : Type 0} (k temp : ℕ) (xs : List X) → AllHere (NamesBelow k) temp xs
    no_names k temp [] = tt
    no_names k temp (x ∷ xs) = (tt, no_names k (suc temp) xs)

    held_reads : (temp : ℕ) (left : List Expression) (arrays : List Array) (whole : Whole)
        → length arrays ≡ length left → Rows temp arrays → AreOver region arrays
        → AreHeld whole temp arrays
        → list_all (reads_in tables whole region) (temps_from temp left) ≡ true
    held_reads temp [] arrays whole e at are held = refl
    held_reads temp (one ∷ left) [] whole e at are held = absurd (omega (arith, e))
    held_reads temp (one ∷ left) (array ∷ arrays) whole e at are held =
        ap (λ b. b && list_all (reads_in tables whole region) (temps_from (suc temp) left))
        (held_take temp array whole at.0 are.0.0 are.0.1 held.0)
        ∙ held_reads (suc temp) left arrays whole (omega (arith, e)) at.1 are.1 held.1

    -- ---- the test

    abbrev trapped : Bool → Whole → Course Whole
    trapped true whole = code.jumping (closes (Over (Ends (Trap OutsideStorage line))) whole)
    trapped false whole = code.jumping (code.goes_on whole)

    trap_does : (k : ℕ) (v : ℤ) (whole : Whole) → State whole → slice_get whole.scalars k ≡ Some v
        → IsInteger v → does tables n (trap_if k line) whole ≡ trapped (is_true v) whole
    trap_does k v whole here held is =
        ap (λ d. code.choose d (λ inside.
        code.jumping (rows (row.Plain (instr.Trap OutsideStorage line) ∷ []) inside))
        (λ inside. code.jumping (code.goes_on inside)) whole)
        (check_says tables n whole here.sound.settled
        (record { expr = words_of (word.Variable k); line = line }) (mean.Gives v)
        (subst (λ (c : flat.Computed ℤ). IsSameValue (mean.Gives v) c)
        (sym (value_of-words_of (scalar_operands whole.scalars) (word.Variable k)
        ∙ ap flat.read held)) (BothGive_ is)))
        ∙ by (is_true v)
      where
        by : (b : Bool) → code.choose (Says b) (λ inside.
            code.jumping (rows (row.Plain (instr.Trap OutsideStorage line) ∷ []) inside))
            (λ inside. code.jumping (code.goes_on inside)) whole
            ≡ trapped b whole
        by false = refl
        by true =
            ap (λ s. code.jumping (by_step whole s code.goes_on))
            (ap straight (settled_act tables n whole here.sound.settled
            (row.Plain (instr.Trap OutsideStorage line))))

    -- ---- the row of the read

    module _ (place : ℕ) (stored : Stored) (in_numbers : slice_get w.numbers.arrays place ≡ Some stored)
        (left : List Expression) (few : length left ≤ 3) (temp : ℕ) (target : ℕ)
        (target_row : IsRow target) (arrays : List Array) (count : length arrays ≡ length left)
        (at : Rows temp arrays) (are : AreOver region arrays) (whole : Whole) (here : State whole)
        (held : AreHeld whole temp arrays)
        (room : slice_get whole.stores target ≡ Some (zeros_at region)) where
      abbrev pub value : List ℤ → ℤ
      value t = element (array_at store place) (target_of arrays t)

      found_here : IsFound tables spots w.numbers.arrays whole place stored
      found_here =
          found_array tables spots w.numbers.arrays whole place stored here.sound.filled all in_numbers

      same_array : found_here.array ≡ array_at store place
      same_array = sym found_here.seen ∙ ap (λ (x : Store). array_at x place) here.seen_is

      values_same : (λ t. element found_here.array (wanted_at arrays t)) ≡ value
      values_same =
          fun_ext (λ t. ap (λ (a : Array). element a (wanted_at arrays t)) same_array
          ∙ ap (element (array_at store place))
          (sym (three_is (map (λ index. element index t) arrays))))

      pub remap_does : step tables n (row.Plain (instr.Remap target over.slot stored.array
          (three_of (temps_from temp left)))) whole
          ≡ Goes [] (with_array_in whole target (array_of region value))
      remap_does =
          let temps = temps_from temp left in
          let last : List Array → Array → Step Whole = λ indices array.
          moved_in whole target region (λ t. element array (wanted_at indices t)) in
          ap straight (settled_act tables n whole here.sound.settled
          (row.Plain (instr.Remap target over.slot stored.array (three_of temps))))
          ∙ ap (λ o. found o (λ region. remapped tables whole target region stored.array
          (filter_map (λ part. part) (three_of temps)))) (there whole here).found
          ∙ ap (λ parts. remapped tables whole target region stored.array parts)
          (three_temps temp left few)
          ∙ ap (λ b. move.provided (b && list_all (reads_in tables whole region) temps)
          (found (slice_get whole.stores stored.array)
          (last (filter_map (λ part. slice_get whole.stores part) temps))))
          (can_put tables n over region target target_row slots j whole room)
          ∙ ap (λ b. move.provided b (found (slice_get whole.stores stored.array)
          (last (filter_map (λ part. slice_get whole.stores part) temps))))
          (held_reads temp left arrays whole count at are held)
          ∙ ap (λ o. found o (last (filter_map (λ part. slice_get whole.stores part) temps)))
          found_here.in_stores
          ∙ ap (λ indices. last indices found_here.array) (held_list whole temp left arrays count held)
          ∙ ap (λ (f : List ℤ → ℤ). moved_in whole target region f) values_same
          ∙ moved_is tables n over region target target_row slots j whole room value

  -- ---- the rows of one read

  module _ (over : Slotted) (region : Region) (j : InSlot slots over region)
      (readable : IsReadableMask w region over.mask) (no_floods : no_flood region ≡ true)
      (place : ℕ) (stored : Stored) (in_numbers : slice_get w.numbers.arrays place ≡ Some stored)
      (is : IsRegion stored.storage) (free mid last : Unused) (now : Whole) (here : State now)
      (le : IsFreer free mid) (ge : mid.scalars < last.scalars) (since : own.temps ≤ mid.temps)
      (rises : Rises 0 (numbered spots) mid.scalars) (lt : mid.scalars < tables.scalars)
      (left : List Expression) (ranked : length left ≡ stored.storage.rank)
      (more : mid.temps + (length left + 1) ≤ last.temps)
      (temps_at : TempsAt tables.arrays mid.temps (replicate (length left + 1) over.flood))
      (held : list_all (holds_in tables slots) (over_reference w.numbers over) ≡ true) where
    abbrev is_in : List ℤ → Bool
    is_in = is_kept_in store (record { region = region; mask = over.mask })

    abbrev mask : Option Words
    mask = mask_code w.numbers over.mask

    abbrev k : ℕ
    k = mid.scalars

    abbrev temp : ℕ
    temp = mid.temps

    abbrev target : ℕ
    target = mid.temps + length left

    abbrev source : Array
    source = array_at store place

    few : length left ≤ 3
    few = omega (arith, ranked, is.rank_below)

    rows_are : RowsFor tables over.flood temp left
        × (slice_get tables.arrays target ≡ Some (temp_row over.flood))
    rows_are = rows_parts tables over.flood temp left temps_at

    abbrev group : List Member
    group = index_puts line mask temp left

    abbrev cells : List ℤ
    cells = replicate (group_cells group) (pos 0)

    abbrev fold_rows : List Row
    fold_rows =
        row.Set k (words_of (word.Constant (pos 0))) line
        ∷ row.Loop over.slot
        (acc_group k Any (words_of (outside_code temp stored.storage)) mask line)
        ∷ row.Plain (instr.Fold k Any) ∷ []

    abbrev last_rows : List Row
    last_rows =
        row.Plain (instr.Room target over.slot)
        ∷ row.Plain (instr.Remap target over.slot stored.array (three_of (temps_from temp left))) ∷ []

    abbrev Hoist : ℕ → mean.Computed Field → Course Whole → Type 0
    Hoist most c course =
        Hoists tables spots w.numbers.arrays own (Under over region) free last line most now
        (word.Element target) c course

    module _ (after : Whole) (s : Spared free now after) (fields : List Field)
        (h : HaveValues tables spots w.numbers.arrays own (Under over region) mid after fields left) where
      alive : State after
      alive = spared_state tables spots w.numbers.arrays own slots apart store free now after here s

      good_state : (whole : Whole) → Spared mid after whole → State whole
      good_state whole good = next_state over region j mid after whole alive good

      held_in : (whole : Whole) → Spared mid after whole
          → list_all (holds tables whole) (over_reference w.numbers over) ≡ true
      held_in whole good =
          mask_held tables spots w.numbers.arrays own slots apart store w.numbers whole
          (good_state whole good) over region j over.mask held

      masking : (whole : Whole) (good : Spared mid after whole)
          → IsMasking tables spots w line whole region.rank over
          (current_in whole.slots over region
          (there over region j mid whole (good_state whole good))) over.mask
      masking whole good =
          mask_at tables spots w line all whole (good_state whole good).sound over region
          (there over region j mid whole (good_state whole good)) readable

      masked : (own : List ℤ) (whole : Whole) → Spared mid after whole → (t : List ℤ)
          → IsMember region t → IsMask (operands_at whole t (start_point own)) mask (is_in t)
      masked own whole good t e =
          subst (λ (x : Store). IsMask (operands_of (Under over region) whole own t) mask
          (is_kept x over.mask t)) (good_state whole good).seen_is
          ((masking whole good).masked (held_in whole good) own t e)

      mask_reads : (whole : Whole) → Spared mid after whole
          → Every (λ (words : Words). Every (Reads over region j mid whole) words) (mask_words mask)
      mask_reads whole good = (masking whole good).reads (held_in whole good)

      -- ---- the indices

      abbrev roomed : Whole
      roomed = all_roomed over region j mid after temp left

      sp_roomed : Spared mid after roomed
      sp_roomed = roomed_spares over region j mid temp left after alive (omega arith) rows_are.0

      at_roomed : State roomed
      at_roomed = good_state roomed sp_roomed

      room : AreRoomed region roomed temp left
      room = roomed_there over region j mid temp left after alive (omega arith) rows_are.0

      fill : (k : ℕ) (left : List Expression) (fields : List Field) → mid.temps ≤ k
          → RowsFor tables over.flood k left
          → HaveValues tables spots w.numbers.arrays own (Under over region) mid after fields left
          → AllFill n line mask (group_words group) region is_in (steps over region j mid) cells
          (Spared mid after) (masked cells) k left fields
      fill k [] [] from at h = tt
      fill k [] (field ∷ fields) from at h = absurd h
      fill k (one ∷ left) [] from at h = absurd h
      fill k (one ∷ left) (field ∷ fields) from at h = (
        record {
          values = λ whole good t m e.
              subst (λ (c : flat.Computed ℤ). IsSame (field t) c)
              (sym (value_of-words_of (operands_at whole t (start_point cells)) one))
              (h.0.values whole good cells t m);
          goes_on = λ whole good f.
              spares_then tables spots w.numbers.arrays own mid mid after whole
              (with_array_in whole k (array_of region f)) (same_free over region j mid) good
              (spared_array over region j mid whole good.sound k from at.0 f);
        },
        fill (suc k) left fields (omega (arith, from)) at.1 h.1,
      )

      left_reads : (left : List Expression) (fields : List Field)
          → HaveValues tables spots w.numbers.arrays own (Under over region) mid after fields left
          → Every (λ (one : Expression). Every (Reads over region j mid roomed) (words_of one)) left
      left_reads [] [] h = tt
      left_reads [] (field ∷ fields) h = absurd h
      left_reads (one ∷ left) [] h = absurd h
      left_reads (one ∷ left) (field ∷ fields) h = (
        every_map (IsReadWell tables (Under over region) roomed mid.scalars)
            (Reads over region j mid roomed) (words_of one) (λ one r. r.reads)
            (h.0.reads roomed sp_roomed),
        left_reads left fields h.1,
      )

      writes : (k : ℕ) (own : List Expression) → RowsFor tables over.flood k own
          → AreRoomed region roomed k own
          → AreWritable tables n line mask region is_in (steps over region j mid) temp left roomed k own
      writes k [] at zeros = tt
      writes k (one ∷ own) at zeros = (
        can_put tables n over region k at.0 slots j roomed zeros.0,
        writes (suc k) own at.1 zeros.1,
      )

      fields_count : (left : List Expression) (fields : List Field)
          → HaveValues tables spots w.numbers.arrays own (Under over region) mid after fields left
          → length fields ≡ length left
      fields_count [] [] h = refl
      fields_count [] (field ∷ fields) h = absurd h
      fields_count (one ∷ left) [] h = absurd h
      fields_count (one ∷ left) (field ∷ fields) h = ap suc (fields_count left fields h.1)

      loop_does : step tables n (row.Loop over.slot group) roomed
          ≡ all_filled line temp roomed (arrays_over region is_in fields)
      loop_does =
          ap straight (settled_act tables n roomed at_roomed.sound.settled (row.Loop over.slot group))
          ∙ ap (looped tables n group roomed) (there over region j mid roomed at_roomed).found
          ∙ puts_fill tables n line mask region is_in (steps over region j mid) temp left roomed
          (puts_stand tables n line mask region is_in (steps over region j mid) temp left roomed
          (mask_reads roomed sp_roomed) (left_reads left fields h) (writes temp left rows_are.0 room))
          fields (Spared mid after) (masked cells) sp_roomed
          (fill temp left fields (omega arith) rows_are.0 h) room

      -- ---- the fold, the trap and the read

      module _ (arrays : List Array) (given : arrays_over region is_in fields ≡ mean.Gives arrays)
        where
          are : AreOver region arrays
          are = (over_arrays region is_in fields arrays given).0

          count : length arrays ≡ length left
          count = (over_arrays region is_in fields arrays given).1 ∙ fields_count left fields h

          at : RowsFor tables over.flood temp arrays
          at = rows_as tables over.flood temp left arrays (sym count) rows_are.0

          abbrev filled : Whole
          filled = with_arrays roomed temp arrays

          sp_filled : Spared mid after filled
          sp_filled =
              spares_then tables spots w.numbers.arrays own mid mid after roomed filled
              (same_free over region j mid) sp_roomed
              (arrays_spares over region j mid temp arrays roomed at_roomed (omega arith) at are)

          at_filled : State filled
          at_filled = good_state filled sp_filled

          held_filled : AreHeld filled temp arrays
          held_filled = arrays_held over region j mid temp arrays roomed at_roomed (omega arith) at are

          abbrev begun : Whole
          begun = with_total filled k (unit_of Any)

          sp_begun : Spared mid after begun
          sp_begun =
              spares_then tables spots w.numbers.arrays own mid mid after filled begun
              (same_free over region j mid) sp_filled
              (spares_total tables spots w.numbers.arrays own mid filled at_filled.sound rises k (omega arith)
              lt (unit_of Any) (unit_integer Any))

          held_begun : AreHeld begun temp arrays
          held_begun =
              held_as filled begun (temp + length arrays) temp arrays (omega arith)
              (λ i from below. refl) held_filled

          found_filled : IsFound tables spots w.numbers.arrays filled place stored
          found_filled =
              found_array tables spots w.numbers.arrays filled place stored at_filled.sound.filled all
              in_numbers

          same_storage : source.storage ≡ stored.storage
          same_storage =
              ap (λ (a : Array). a.storage)
              (ap (λ (x : Store). array_at x place) (sym at_filled.seen_is) ∙ found_filled.seen)
              ∙ found_filled.storage

          abbrev outside : List ℤ → ℤ
          outside t = truth (not (has_place stored.storage (target_of arrays t)))

          abbrev outside_words_in : Words
          outside_words_in = words_of (outside_code temp stored.storage)

          reads : Every (λ (words : Words). Every (Reads over region j mid begun) words)
              (outside_words_in ∷ mask_words mask)
          reads = (
            outside_words (Reads over region j mid begun) (λ v. refl) (λ o. refl) temp stored.storage
                arrays (count ∙ ranked) (held_here over region j mid temp arrays begun at are held_begun),
            mask_reads begun sp_begun,
          )

          names : Every (λ (words : Words). Every (NamesBelow k) words)
              (outside_words_in ∷ mask_words mask)
          names = (
            outside_words (NamesBelow k) (λ v. tt) (λ o. tt) temp stored.storage arrays (count ∙ ranked)
                (no_names over region j mid k temp arrays),
            mask_names w.numbers k over.mask,
          )

          is_outside : (own t : List ℤ) → IsMember region t
              → tree_value (operands_at begun t (record { cells = own; log = [] }))
              (outside_code temp stored.storage)
              ≡ flat.Gives (outside t)
          is_outside own t m =
              outside_value (operands_at begun t (record { cells = own; log = [] })) temp stored.storage
              (map (λ array. element array t) arrays)
              (length_map (λ array. element array t) arrays ∙ count ∙ ranked)
              (subst (λ (r : Region). All IsBoxed r.dims) found_filled.storage found_filled.boxed)
              (ap (λ (r : Region). length r.dims) (sym found_filled.storage) ∙ found_filled.three)
              is.padded (held_read over region j mid temp arrays begun at are held_begun own t m)

          unit_there : slice_get begun.scalars k ≡ Some (unit_of Any)
          unit_there =
              get_same filled.scalars k (unit_of Any)
              (omega (arith, lt, at_filled.sound.filled.scalars))

          joining : IsJoining tables begun k Any region is_in (λ t. mean.Gives (outside t))
              outside_words_in mask line
          joining = record {
            steps = steps over region j mid;
            stands = acc_stands tables begun region k Any outside_words_in mask line no_floods unit_there
                reads names;
            masked = λ t m. masked _ begun sp_begun t m;
            values = λ t m e.
                subst (λ (c : flat.Computed ℤ). IsSame (mean.Gives (outside t)) c)
                (sym (value_of-words_of (operands_at begun t (record { cells = _; log = [] }))
                (outside_code temp stored.storage) ∙ is_outside _ t m)) BothGive;
          }

          abbrev outsides : Array
          outsides =
              array_of region (λ t. number_in (choice (is_in t) (mean.Gives (outside t))))

          abbrev total : ℤ
          total = reduced Any region is_in (element outsides)

          total_integer : IsInteger total
          total_integer = any_integer is_in (element outsides) (members region)

          abbrev told : Whole
          told = with_fold filled k Any total

          fold_is : rows fold_rows filled ≡ code.goes_on told
          fold_is =
              fold_does tables n filled at_filled.sound k lt Any over.slot region
              (there over region j mid filled at_filled).found is_in (λ t. mean.Gives (outside t))
              outside_words_in mask line joining
              ∙ ap (fold_course filled k Any region is_in line) (total_array region is_in outside)

          abbrev targets : Bool
          targets = list_all (λ t. has_target (is_in t) source arrays t) (members region)

          total_is : is_true total ≡ not targets
          total_is =
              any_outside is_in source arrays (element outsides) (members region) (pos 0)
              (every_among (λ t. is_in t ≡ true
              → is_true (element outsides t) ≡ not (has_place source.storage (target_of arrays t)))
              (members region) (λ t a e.
              ap is_true (element_of_member region
              (λ t. number_in (choice (is_in t) (mean.Gives (outside t)))) t (steps over region j mid)
              ((members_iff region t (steps over region j mid)).0
              (Contains-from_among (members region) t a))
              ∙ ap (λ b. number_in (choice b (mean.Gives (outside t)))) e)
              ∙ is_true-truth (not (has_place stored.storage (target_of arrays t)))
              ∙ ap (λ (r : Region). not (has_place r (target_of arrays t))) (sym same_storage)))

          sp_told : Spared mid after told
          sp_told =
              spares_then tables spots w.numbers.arrays own mid mid after filled told
              (same_free over region j mid) sp_filled
              (spares_fold tables spots w.numbers.arrays own mid filled at_filled.sound rises k (omega arith)
              lt total total_integer Any)

          at_told : State told
          at_told = good_state told sp_told

          abbrev empty : Whole
          empty = with_array_in told target (zeros_at region)

          sp_empty : Spared mid told empty
          sp_empty =
              spared_array over region j mid told at_told.sound target (omega arith) rows_are.1
              (λ t. pos 0)

          at_empty : State empty
          at_empty = next_state over region j mid told empty at_told sp_empty

          abbrev read : List ℤ → ℤ
          read t = element source (target_of arrays t)

          abbrev end : Whole
          end = with_array_in empty target (array_of region read)

          sp_end : Spared mid empty end
          sp_end =
              spared_array over region j mid empty at_empty.sound target (omega arith) rows_are.1 read

          held_empty : AreHeld empty temp arrays
          held_empty =
              held_as filled empty target temp arrays (omega (arith, count))
              (λ i from below.
              set_apart told.stores target i (zeros_at region) (λ q. absurd (omega (arith, q, below))))
              held_filled

          last_does : rows last_rows told ≡ code.goes_on end
          last_does =
              ap (λ x. by_step told x (rows (row.Plain (instr.Remap target over.slot stored.array
              (three_of (temps_from temp left))) ∷ [])))
              (one_room over region j mid told at_told target rows_are.1)
              ∙ ap (λ x. by_step empty x code.goes_on)
              (remap_does over region j mid place stored in_numbers left few temp target rows_are.1 arrays
              count at are empty at_empty held_empty
              (array_there over region j mid told at_told.sound target rows_are.1 (zeros_at region)))

          end_there : (later : Whole) → Spared last end later
              → slice_get later.stores target ≡ Some (array_of region read)
          end_there later l =
              l.stores target (omega (arith, more)) (inr (omega (arith, since)))
              ∙ array_there over region j mid empty at_empty.sound target rows_are.1 (array_of region read)

          end_values : HasValues tables spots w.numbers.arrays own (Under over region) last end
              (remap_field source arrays) (word.Element target)
          end_values = record {
            values = λ later l cells t m.
                subst (λ (c : flat.Computed ℤ). IsSame (mean.Gives (read t)) c)
                (sym (temp_value tables n over region target rows_are.1 slots j later read
                (end_there later l) cells t m)) BothGive;
            reads = λ later l. (
              record {
                reads = ap (λ b. b && true) (can_take tables n over region target rows_are.1 slots j later
                    (array_of region read) (end_there later l) refl);
                names = tt;
              },
              tt,
            );
          }

          all_spared : Spared free now end
          all_spared =
              spares_then tables spots w.numbers.arrays own free mid now after end le s
              (spares_then tables spots w.numbers.arrays own mid mid after empty end
              (same_free over region j mid)
              (spares_then tables spots w.numbers.arrays own mid mid after told empty
              (same_free over region j mid) sp_told sp_empty) sp_end)

          by_total : (most jumps : ℕ) → jumps ≤ most → (b : Bool) → targets ≡ b
              → Hoist (most + 1)
              (provided b OutsideStorage (λ _. mean.Gives (remap_field source arrays)))
              (code.behind [] jumps (code.then_do (trapped over region j mid (not b) told)
              (rows last_rows)))
          by_total most jumps less false e = Stumbles (omega (arith, less, sum_of jumps 1))
          by_total most jumps less true e =
              subst (λ (c : Course Whole). Hoist (most + 1)
              (mean.Gives (remap_field source arrays))
              (code.behind [] jumps (code.behind [] 1 c))) (sym last_does)
              (Reaches all_spared end_values (omega (arith, less, sum_of jumps 1)))

          pub told_hoists : (most jumps : ℕ) → jumps ≤ most
              → Hoist (most + 1)
              (provided targets OutsideStorage (λ _. mean.Gives (remap_field source arrays)))
              (code.behind [] jumps (code.then_do (rows fold_rows filled) (λ whole.
              code.then_do (does tables n (trap_if k line) whole) (rows last_rows))))
          told_hoists most jumps less =
              subst (λ (c : Course Whole). Hoist (most + 1)
              (provided targets OutsideStorage (λ _. mean.Gives (remap_field source arrays)))
              (code.behind [] jumps (code.then_do c (λ whole.
              code.then_do (does tables n (trap_if k line) whole) (rows last_rows))))) (sym fold_is)
              (subst (λ (c : Course Whole). Hoist (most + 1)
              (provided targets OutsideStorage (λ _. mean.Gives (remap_field source arrays)))
              (code.behind [] jumps (code.then_do c (rows last_rows))))
              (sym (trap_does over region j mid k total told at_told
              (get_same filled.scalars k total (omega (arith, lt, at_filled.sound.filled.scalars)))
              total_integer ∙ ap (λ b. trapped over region j mid b told) total_is))
              (by_total most jumps less targets refl))

      by_arrays : (most jumps : ℕ) → jumps ≤ most → (c : mean.Computed (List Array))
          → arrays_over region is_in fields ≡ c
          → Hoist (most + 1)
          (computed_then c (λ arrays. provided
          (list_all (λ t. has_target (is_in t) source arrays t) (members region)) OutsideStorage
          (λ _. mean.Gives (remap_field source arrays))))
          (code.behind [] jumps (code.then_do
          (by_step roomed (all_filled line temp roomed c) (rows fold_rows)) (λ whole.
          code.then_do (does tables n (trap_if k line) whole) (rows last_rows))))
      by_arrays most jumps less (mean.Gives arrays) e = told_hoists arrays e most jumps less
      by_arrays most jumps less (mean.Traps kind) e = Stumbles (omega (arith, less, sum_of jumps 0))

      read_hoists : (most jumps : ℕ) → jumps ≤ most
          → Hoist (most + 1)
          (computed_then (arrays_over region is_in fields) (λ arrays. provided
          (list_all (λ t. has_target (is_in t) source arrays t) (members region)) OutsideStorage
          (λ _. mean.Gives (remap_field source arrays))))
          (code.behind [] jumps
          (does tables n (remap_code w.numbers line k temp over stored.array stored.storage left) after))
      read_hoists most jumps less =
          subst (λ (c : Course Whole). Hoist (most + 1)
          (computed_then (arrays_over region is_in fields) (λ arrays. provided
          (list_all (λ t. has_target (is_in t) source arrays t) (members region)) OutsideStorage
          (λ _. mean.Gives (remap_field source arrays))))
          (code.behind [] jumps (code.then_do c (λ whole.
          code.then_do (does tables n (trap_if k line) whole) (rows last_rows)))))
          (sym (rooms_do over region j mid temp left after alive (omega arith) rows_are.0
          (row.Loop over.slot group ∷ fold_rows)
          ∙ ap (λ x. by_step roomed x (rows fold_rows)) loop_does))
          (by_arrays most jumps less (arrays_over region is_in fields) refl)

    pub remap_hoists : (most : ℕ) (c : mean.Computed (List Field)) (course : Course Whole)
        → HoistAll tables spots w.numbers.arrays own
        (HaveValues tables spots w.numbers.arrays own (Under over region)) free mid line most now left c
        course
        → Hoist (most + 1)
        (computed_then c (λ fields. computed_then (arrays_over region is_in fields) (λ arrays. provided
        (list_all (λ t. has_target (is_in t) source arrays t) (members region)) OutsideStorage
        (λ _. mean.Gives (remap_field source arrays)))))
        (code.then_do course
        (does tables n (remap_code w.numbers line k temp over stored.array stored.storage left)))
    remap_hoists most c course (OneStumbles less) = Stumbles (omega (arith, less))
    remap_hoists most c course (AllReach {after = after} {jumps = jumps} {fields = fields} s h less) =
        read_hoists after s fields h most jumps less
