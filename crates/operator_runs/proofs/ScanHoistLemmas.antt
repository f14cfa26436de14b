-- The rows of scans: one row puts a scan's values into a temporary, from another one that has the
-- operand's values, over the tuples that an array keeps. Under `without` that array is a temporary
-- with the complement of the mask, filled in the same loop as the operand's.
use Rattle.std.proofs.Common.{◌≡◌, refl, sym, ◌∙◌, ap, subst, arith, ℕ, zero, suc, ◌+◌, ◌-◌, ◌<◌, ◌≤◌, Bool, true, ◌&&◌}
use Rattle.std.proofs.Common.{List, [], ◌∷◌, map, filter, ℤ, pos, Option, Some, None, inl, inr}
use Rattle.std.specs.Prelude.{All, cond, if◌then◌else◌, option_and_then, replicate, slice_get, unsigned_abs}
use Rattle.std.proofs.Math.Path.{fun_ext}
use Rattle.std.specs.List.{list_all}
use Rattle.zpl_nums.specs.declared.ends.End.TheVariants.{Trap}
use Rattle.zpl_nums.specs.declared.folds.Fold.{Fold}
use Rattle.zpl_nums.specs.Fold.{folded}
use Rattle.zpl_nums.specs.Integer.{is_true}
use Rattle.zpl_region.specs.declared.regions.Region.{Region}
use Rattle.zpl_region.specs.Dim.{HasStep}
use Rattle.zpl_region.specs.Region.{IsMember, members}
use Rattle.zpl_region.proofs.HullLemmas.{has_steps}
use Rattle.zpl_region.proofs.LawLemmas.{members_iff}
use Rattle.zpl_region.proofs.ListLemmas.{Among, Contains-from_among}
use Rattle.zpl_arrays.specs.Array.{Array, array_of, element}
use Rattle.zpl_arrays.specs.Scan.{is_through, is_up_along, scanned_along}
use Rattle.zpl_arrays.proofs.ArrayLemmas.{element_of_member}
use Rattle.zpl_meaning.specs.Computed as mean
use Rattle.zpl_meaning.specs.Computed.{computed_then}
use Rattle.zpl_meaning.specs.Context.{is_kept}
use Rattle.zpl_meaning.specs.Fields.{Field, array_over, everywhere, is_kept_in, scan_field}
use Rattle.zpl_meaning.specs.Store.{Store}
use Rattle.node_form.specs.declared.tables.Tables.{Tables}
use Rattle.node_form.specs.declared.instructions.Instr.TheVariants as instr
use Rattle.node_form.specs.Nest.{Nest, Nothing, Putting}
use Rattle.nest_meaning.specs.Tree.{nest_of}
use Rattle.node_form.specs.Expression as word
use Rattle.node_form.specs.Expression.{Expression, words_of}
use Rattle.node_form.specs.Value as flat
use Rattle.node_form.specs.Value.{value_of}
use Rattle.node_form.proofs.ValueLemmas.{value_of-words_of}
use Rattle.row_runs.specs.Run.{Ends, Goes, Step, Stops, Wrong}
use Rattle.row_runs.specs.Straight.{Every}
use Rattle.row_runs.specs.Structured as code
use Rattle.row_runs.specs.Structured.{Course, by_step, rows_do}
use Rattle.grid_meaning.specs.Room.{zeros_at}
use Rattle.flat_form.specs.Loop.{Column, loop_stands, looped, operands_at, tree_does, units_do}
use Rattle.flat_form.specs.Moves.{found, kept_by, moved_in, provided, reads_in, reads_mask, scan_value, scanned_in}
use Rattle.flat_form.specs.Names.{group_cells, word_reads}
use Rattle.flat_form.specs.Right.{can_read, can_write, no_flood}
use Rattle.flat_form.specs.Row as row
use Rattle.flat_form.specs.Row.{Member, Row, Words, group_coded, mask_words}
use Rattle.flat_form.specs.Whole.{Whole}
use Rattle.normal_runs.proofs.PlaceLemmas.{set_apart}
use Rattle.normal_runs.proofs.PutLemmas.{start_point}
use Rattle.print_runs.specs.of_zpl_lowering.Where.{Stored, Slotted, Where}
use Rattle.print_runs.specs.of_zpl_lowering.Tables.{temp_row}
use Rattle.print_runs.specs.of_zpl_lowering.Reference.{over_reference}
use Rattle.print_runs.specs.of_zpl_lowering.Hoist.{along_of, array_code, mask_code, mask_word, scan_without}
use Rattle.print_runs.specs.of_lowering_runs.Run.{decide, step, straight}
use Rattle.print_runs.specs.of_lowering_runs.Seen.{Spot}
use Rattle.print_runs.specs.of_lowering_runs.Stands.{AreStored}
use Rattle.print_runs.proofs.of_lowering_runs.AgreeLemmas.{sum_of}
use Rattle.print_runs.proofs.of_lowering_runs.RowLemmas.{settled_act}
use Rattle.print_runs.specs.of_array_puts.Put.{IsMask, IsSame, BothGive, with_array_in}
use Rattle.print_runs.proofs.of_array_puts.PutLemmas.{choice, number_in}
use Rattle.print_runs.specs.of_array_runs.Elementwise.{IsReadableMask}
use Rattle.print_runs.specs.of_array_runs.Gates.{holds}
use Rattle.print_runs.proofs.of_array_runs.AssignLemmas.{all_read}
use Rattle.print_runs.proofs.of_array_runs.MaskLemmas.{IsMasking}
use Rattle.operator_runs.specs.Meant.{InSlot, IsAlong, Under}
use Rattle.operator_runs.specs.Hoists.{Own, Unused, operands_of, IsReadWell, Spares, HasValues, Hoists, Reaches, Stumbles}
use Rattle.operator_runs.proofs.StateLemmas.{AreApart, holds_in, mask_held, HasState, spared_state}
use Rattle.operator_runs.proofs.SpareLemmas.{IsFreer, spares_all, spares_then}
use Rattle.operator_runs.proofs.CurrentLemmas.{current_in}
use Rattle.operator_runs.proofs.MeantLemmas.{mask_in}
use Rattle.operator_runs.proofs.TempLemmas.{array_is, can_put, can_take, moved_is, temp_value}
use Rattle.operator_runs.proofs.PutsLemmas.{columns, filled, none_awaited, unit_fills}
use Rattle.operator_runs.proofs.RemapHoistLemmas.{array_there, every_map, next_state, one_room, same_free, spared_array, there, total_array}

-- ---- a scan looks at the tuples of its region alone

filter_same : {X : Type 0} (p q f : X → Bool) (xs : List X)
    → ((x : X) → Among xs x → p x ≡ q x)
    → filter (λ x. p x && f x) xs ≡ filter (λ x. q x && f x) xs
filter_same p q f [] h = refl
filter_same p q f (x ∷ xs) h =
    ap (λ b. cond (b && f x) (x ∷ filter (λ x. p x && f x) xs) (filter (λ x. p x && f x) xs))
    (h x (inl refl))
    ∙ ap (λ ys. cond (q x && f x) (x ∷ ys) ys) (filter_same p q f xs (λ y k. h y (inr k)))

scan_agrees : (along : ℕ) (operator : Fold) (region : Region) (p q : List ℤ → Bool)
    (e : List ℤ → ℤ) → All HasStep region.dims
    → ((t : List ℤ) → IsMember region t → p t ≡ q t)
    → scan_value along operator region p e ≡ scan_value along operator region q e
scan_agrees along operator region p q e steps h = fun_ext (λ x. by along x)
  where
    same : (f : List ℤ → Bool)
        → filter (λ t. p t && f t) (members region) ≡ filter (λ t. q t && f t) (members region)
    same f =
        filter_same p q f (members region) (λ t k.
        h t ((members_iff region t steps).0 (Contains-from_among (members region) t k)))

    by : (along : ℕ) (x : List ℤ)
        → scan_value along operator region p e x ≡ scan_value along operator region q e x
    by zero x = ap (λ ts. folded operator (map e ts)) (same (is_through x))
    by (suc k) x = ap (λ ts. folded operator (map e ts)) (same (is_up_along (suc k - 1) x))

pub scan_field_is : (operator : Fold) (along : Option ℤ) → IsAlong along → (region : Region)
    (is_in : List ℤ → Bool) (array : Array)
    → (λ t. mean.Gives (scan_value (along_of along) operator region is_in (element array) t))
    ≡ scan_field operator along region is_in array
scan_field_is operator None h region is_in array = refl
scan_field_is operator (Some k) h region is_in array =
    fun_ext (λ t. ap (λ v. mean.Gives v) (by t (unsigned_abs k) h))
  where
    by : (t : List ℤ) (j : ℕ) → 1 ≤ j
        → scan_value j operator region is_in (element array) t
        ≡ scanned_along j operator region is_in (element array) t
    by t zero h = absurd (omega (arith, h))
    by t (suc j) h = refl

-- ---- a loop of two puts, the first of them under a mask

abbrev pub two_puts : ℕ → ℕ → Words → Words → ℕ → Words → List Member
two_puts line from expr mask to other =
    row.Put from expr (Some mask) line ∷ row.Put to other None line ∷ []

module _ (tables : Tables) (n line : ℕ) (region : Region) (steps : All HasStep region.dims)
    (from to : ℕ) (apart : from < to) (whole : Whole) (is_in : List ℤ → Bool) (field : Field)
    (expr mask other : Words) (f : List ℤ → ℤ) where
  abbrev two_group : List Member
  two_group = two_puts line from expr mask to other

  abbrev pub two_cells : List ℤ
  two_cells = replicate (group_cells two_group) (pos 0)

  abbrev two_words : List Words
  two_words = expr ∷ mask ∷ other ∷ []

  abbrev one : Nest
  one = Putting from 0 (Some 1) line Nothing

  abbrev two : Nest
  two = Putting to 2 None line Nothing

  abbrev cols : List Column
  cols = columns two_cells (members region)

  -- the state with the first array, and with both
  abbrev pub first_filled : Whole
  first_filled =
      with_array_in whole from (array_of region (λ t. number_in (choice (is_in t) (field t))))

  abbrev pub both_filled : mean.Computed Array → Step Whole
  both_filled (mean.Gives array) =
      Goes [] (with_array_in (with_array_in whole from array) to (array_of region f))
  both_filled (mean.Traps kind) = Stops (Ends (Trap kind line))

  pub two_stand : Every (λ (words : Words). Every (λ one.
      list_all (can_read tables whole region) (word_reads one) ≡ true) words) two_words
      → can_write tables whole region from ≡ true → can_write tables whole region to ≡ true
      → loop_stands tables whole region two_group ≡ true
  two_stand reads one two =
      ap (λ b. b && ((can_write tables whole region from && (can_write tables whole region to && true))
      && true)) (all_read (can_read tables whole region) two_words reads)
      ∙ ap (λ b. (b && (can_write tables whole region to && true)) && true) one
      ∙ ap (λ b. (b && true) && true) two

  pub two_fill : loop_stands tables whole region two_group ≡ true
      → slice_get whole.stores from ≡ Some (zeros_at region)
      → slice_get whole.stores to ≡ Some (zeros_at region)
      → ((t : List ℤ) → IsMember region t
      → IsMask (operands_at whole t (start_point two_cells)) (Some mask) (is_in t))
      → ((t : List ℤ) → IsMember region t → is_in t ≡ true
      → IsSame (field t) (value_of (operands_at whole t (start_point two_cells)) expr))
      → ((t : List ℤ) → IsMember region t
      → value_of (operands_at first_filled t (start_point two_cells)) other ≡ flat.Gives (f t))
      → looped tables n two_group whole (Some region) ≡ both_filled (array_over region is_in field)
  two_fill stands one_room two_room masked values others =
      ap (λ b. if b then tree_does n region two_group whole (nest_of (group_coded 0 two_group))
      else Stops Wrong) stands
      ∙ none_awaited (units_do n two_words (one ∷ two ∷ []) cols whole)
      ∙ unit_fills n line (Some mask) two_words region is_in steps two_cells from whole field expr one_room
      masked values (λ columns whole. units_do n two_words (two ∷ []) columns whole) 0 refl refl
      ∙ by (array_over region is_in field) refl
    where
      second : units_do n two_words (two ∷ []) cols first_filled
          ≡ Goes [] (with_array_in first_filled to (array_of region f))
      second =
          unit_fills n line None two_words region everywhere steps two_cells to first_filled
          (λ t. mean.Gives (f t)) other
          (set_apart whole.stores from to _ (λ q. absurd (omega (arith, apart, q))) ∙ two_room)
          (λ t m. refl)
          (λ t m e.
          subst (λ (c : flat.Computed ℤ). IsSame (mean.Gives (f t)) c) (sym (others t m)) BothGive)
          (λ columns whole. Goes [] whole) 2 refl tt
          ∙ ap (filled n line None two_words region everywhere steps two_cells to first_filled
          (λ columns whole. Goes [] whole)) (total_array region everywhere f)

      by : (c : mean.Computed Array) → array_over region is_in field ≡ c
          → filled n line (Some mask) two_words region is_in steps two_cells from whole
          (λ columns whole. units_do n two_words (two ∷ []) columns whole) c
          ≡ both_filled c
      by (mean.Traps kind) e = refl
      by (mean.Gives array) e =
          let same = array_is region is_in field array e in
          subst (λ (a : Array). units_do n two_words (two ∷ []) cols (with_array_in whole from a)
          ≡ Goes [] (with_array_in (with_array_in whole from a) to (array_of region f))) (sym same)
          second

-- ---- rows

module _ (tables : Tables) (n : ℕ) (spots : List Spot) (w : Where) (line : ℕ)
    (all : AreStored tables w.numbers.arrays) (own : Own) (slots : List Region)
    (apart : AreApart own slots) (store : Store) where
  abbrev Spared : Unused → Whole → Whole → Type 0
  Spared = Spares tables spots w.numbers.arrays own

  abbrev State : Whole → Type 0
  State = HasState tables spots w.numbers.arrays own slots apart store

  abbrev rows : List Row → Whole → Course Whole
  rows = rows_do (step tables n) (decide tables n)

  module _ (over : Slotted) (region : Region) (j : InSlot slots over region) (mid : Unused) where
    abbrev IsRow : ℕ → Type 0
    IsRow k = slice_get tables.arrays k ≡ Some (temp_row over.flood)

    pub scan_row_does : (from to : ℕ) → IsRow from → IsRow to → (operator : Fold)
        (along : Option ℤ) → no_flood region ≡ true → (mask : Option ℕ) → (state : Whole)
        → State state → reads_mask tables state region mask ≡ true → (is_in : List ℤ → Bool)
        → ((t : List ℤ) → IsMember region t
        → kept_by (option_and_then (λ mask. slice_get state.stores mask) mask) t ≡ is_in t)
        → (f : List ℤ → ℤ) → slice_get state.stores from ≡ Some (array_of region f)
        → slice_get state.stores to ≡ Some (zeros_at region)
        → step tables n (row.Plain (instr.Scan to over.slot operator (along_of along) from mask)) state
        ≡ Goes [] (with_array_in state to (array_of region
        (scan_value (along_of along) operator region is_in (element (array_of region f)))))
    scan_row_does from to from_row to_row operator along no_floods mask state here reads is_in kept f
        held room =
        let last : Array → Step Whole =
        λ store. moved_in state to region (scan_value (along_of along) operator region
        (kept_by (option_and_then (λ mask. slice_get state.stores mask) mask)) (element store)) in
        ap straight (settled_act tables n state here.sound.settled
        (row.Plain (instr.Scan to over.slot operator (along_of along) from mask)))
        ∙ ap (λ o. found o (λ region.
        scanned_in tables state to region operator (along_of along) from mask))
        (there tables n spots w line all own slots apart store over region j mid state here).found
        ∙ ap (λ b. provided (b && (can_write tables state region to
        && (reads_in tables state region from && reads_mask tables state region mask)))
        (found (slice_get state.stores from) last)) no_floods
        ∙ ap (λ b. provided (b
        && (reads_in tables state region from && reads_mask tables state region mask))
        (found (slice_get state.stores from) last))
        (can_put tables n over region to to_row slots j state room)
        ∙ ap (λ b. provided (b && reads_mask tables state region mask)
        (found (slice_get state.stores from) last))
        (can_take tables n over region from from_row slots j state (array_of region f) held refl)
        ∙ ap (λ b. provided b (found (slice_get state.stores from) last)) reads
        ∙ ap (λ o. found o last) held
        ∙ ap (moved_in state to region)
        (scan_agrees (along_of along) operator region
        (kept_by (option_and_then (λ mask. slice_get state.stores mask) mask)) is_in
        (element (array_of region f)) (has_steps region.dims j.is.dims) kept)
        ∙ moved_is tables n over region to to_row slots j state room
        (scan_value (along_of along) operator region is_in (element (array_of region f)))

  -- ---- a scan under `without`

  abbrev number_given : flat.Computed ℤ → ℤ
  number_given (flat.Gives v) = v
  number_given flat.Divides = pos 0
  number_given flat.Lacks = pos 0

  module _ (over : Slotted) (region : Region) (j : InSlot slots over region) (place : ℕ)
      (stored : Stored) (in_numbers : slice_get w.numbers.arrays place ≡ Some stored)
      (masked_by : over.mask ≡ Some (record { array = place; without = true }))
      (readable : IsReadableMask w region over.mask) (no_floods : no_flood region ≡ true)
      (operator : Fold) (along : Option ℤ) (is_along : IsAlong along) (free mid last : Unused)
      (now : Whole) (here : State now) (le : IsFreer free mid) (ge : mid.scalars ≤ last.scalars)
      (more : mid.temps + 3 ≤ last.temps) (since : own.temps ≤ mid.temps)
      (one_row : IsRow over region j mid mid.temps)
      (two_row : IsRow over region j mid (suc mid.temps))
      (three_row : IsRow over region j mid (suc (suc mid.temps)))
      (held : list_all (holds_in tables slots) (over_reference w.numbers over) ≡ true)
      (left : Expression) where
    abbrev is_in : List ℤ → Bool
    is_in = is_kept_in store (record { region = region; mask = over.mask })

    abbrev temp : ℕ
    temp = mid.temps

    -- what both puts read of the mask
    abbrev words : Words
    words = words_of (word.Denial (word.Element stored.array))

    mask_is : mask_code w.numbers over.mask ≡ Some words
    mask_is =
        ap (mask_code w.numbers) masked_by
        ∙ ap (λ o. Some (words_of (mask_word true (array_code o)))) in_numbers

    abbrev group : List Member
    group = two_puts line temp (words_of left) words (suc temp) words

    abbrev cells : List ℤ
    cells = replicate (group_cells group) (pos 0)

    abbrev last_rows : List Row
    last_rows =
        row.Plain (instr.Room (suc (suc temp)) over.slot)
        ∷ row.Plain (instr.Scan (suc (suc temp)) over.slot operator (along_of along) temp
        (Some (suc temp))) ∷ []

    abbrev own_rows : List Row
    own_rows =
        row.Plain (instr.Room temp over.slot) ∷ row.Plain (instr.Room (suc temp) over.slot)
        ∷ row.Loop over.slot group ∷ last_rows

    rows_are : own_rows ≡ scan_without w.numbers line temp operator along over left stored.array
    rows_are =
        ap (λ (mask : Option Words). row.Plain (instr.Room temp over.slot)
        ∷ row.Plain (instr.Room (suc temp) over.slot)
        ∷ row.Loop over.slot
        (row.Put temp (words_of left) mask line ∷ row.Put (suc temp) words None line ∷ [])
        ∷ last_rows) (sym mask_is)

    abbrev result : Array → List ℤ → ℤ
    result array t = scan_value (along_of along) operator region is_in (element array) t

    abbrev Hoist : ℕ → mean.Computed Field → Course Whole → Type 0
    Hoist most c course =
        Hoists tables spots w.numbers.arrays own (Under over region) free last line most now
        (word.Element (suc (suc temp))) c course

    module _ (after : Whole) (s : Spared free now after) (field : Field)
        (h : HasValues tables spots w.numbers.arrays own (Under over region) mid after field left) where
      alive : State after
      alive = spared_state tables spots w.numbers.arrays own slots apart store free now after here s

      good_state : (whole : Whole) → Spared mid after whole → State whole
      good_state whole good =
          next_state tables n spots w line all own slots apart store over region j mid after whole alive good

      held_in : (whole : Whole) → Spared mid after whole
          → list_all (holds tables whole) (over_reference w.numbers over) ≡ true
      held_in whole good =
          mask_held tables spots w.numbers.arrays own slots apart store w.numbers whole
          (good_state whole good) over region j over.mask held

      in_slot : (whole : Whole) → Spared mid after whole → InSlot whole.slots over region
      in_slot whole good =
          there tables n spots w line all own slots apart store over region j mid whole (good_state whole good)

      masking : (whole : Whole) (good : Spared mid after whole)
          → IsMasking tables spots w line whole region.rank over
          (current_in whole.slots over region (in_slot whole good)) over.mask
      masking whole good =
          mask_in tables spots w line all whole (good_state whole good).sound over region
          (in_slot whole good) over.mask readable

      masked : (whole : Whole) → Spared mid after whole → (t : List ℤ) → IsMember region t
          → IsMask (operands_at whole t (start_point cells)) (Some words) (is_in t)
      masked whole good t e =
          subst (λ (m : Option Words). IsMask (operands_at whole t (start_point cells)) m (is_in t))
          mask_is
          (subst (λ (x : Store). IsMask (operands_of (Under over region) whole cells t)
          (mask_code w.numbers over.mask) (is_kept x over.mask t)) (good_state whole good).seen_is
          ((masking whole good).masked (held_in whole good) cells t e))

      abbrev Reads : Whole → Words → Type 0
      Reads whole words =
          Every (λ one. list_all (can_read tables whole region) (word_reads one) ≡ true) words

      mask_reads : (whole : Whole) → Spared mid after whole → Reads whole words
      mask_reads whole good =
          (subst (λ (m : Option Words). Every (Reads whole) (mask_words m)) mask_is
          ((masking whole good).reads (held_in whole good))).0

      -- ---- states

      put_array : (whole : Whole) → Spared mid after whole → (k : ℕ) → mid.temps ≤ k
          → IsRow over region j mid k → (f : List ℤ → ℤ)
          → Spared mid after (with_array_in whole k (array_of region f))
      put_array whole good k from at f =
          spares_then tables spots w.numbers.arrays own mid mid after whole
          (with_array_in whole k (array_of region f))
          (same_free tables n spots w line all own slots apart store over region j mid) good
          (spared_array tables n spots w line all own slots apart store over region j mid whole
          (good_state whole good).sound k from at f)

      has_array : (whole : Whole) → Spared mid after whole → (k : ℕ) → IsRow over region j mid k
          → (array : Array) → slice_get (with_array_in whole k array).stores k ≡ Some array
      has_array whole good k at array =
          array_there tables n spots w line all own slots apart store over region j mid whole
          (good_state whole good).sound k at array

      room_does : (whole : Whole) → Spared mid after whole → (k : ℕ) → IsRow over region j mid k
          → step tables n (row.Plain (instr.Room k over.slot)) whole
          ≡ Goes [] (with_array_in whole k (zeros_at region))
      room_does whole good k at =
          one_room tables n spots w line all own slots apart store over region j mid whole (good_state whole good)
          k at

      none : Spared mid after after
      none = spares_all tables spots w.numbers.arrays own mid after alive.sound

      abbrev one_roomed : Whole
      one_roomed = with_array_in after temp (zeros_at region)

      sp_one : Spared mid after one_roomed
      sp_one = put_array after none temp (omega arith) one_row (λ t. pos 0)

      abbrev two_roomed : Whole
      two_roomed = with_array_in one_roomed (suc temp) (zeros_at region)

      sp_two : Spared mid after two_roomed
      sp_two = put_array one_roomed sp_one (suc temp) (omega arith) two_row (λ t. pos 0)

      -- the operand's values are there
      abbrev value : List ℤ → ℤ
      value t = number_in (choice (is_in t) (field t))

      abbrev valued : Whole
      valued = with_array_in two_roomed temp (array_of region value)

      sp_valued : Spared mid after valued
      sp_valued = put_array two_roomed sp_two temp (omega arith) one_row value

      -- the complement of the mask, too
      abbrev complement : List ℤ → ℤ
      complement t = number_given (value_of (operands_at valued t (start_point cells)) words)

      abbrev complemented : Whole
      complemented = with_array_in valued (suc temp) (array_of region complement)

      sp_complemented : Spared mid after complemented
      sp_complemented = put_array valued sp_valued (suc temp) (omega arith) two_row complement

      abbrev all_roomed : Whole
      all_roomed = with_array_in complemented (suc (suc temp)) (zeros_at region)

      sp_roomed : Spared mid after all_roomed
      sp_roomed =
          put_array complemented sp_complemented (suc (suc temp)) (omega arith) three_row (λ t. pos 0)

      abbrev end : Whole
      end = with_array_in all_roomed (suc (suc temp)) (array_of region (result (array_of region value)))

      sp_end : Spared mid after end
      sp_end =
          put_array all_roomed sp_roomed (suc (suc temp)) (omega arith) three_row
          (result (array_of region value))

      one_there : slice_get two_roomed.stores temp ≡ Some (zeros_at region)
      one_there =
          set_apart one_roomed.stores (suc temp) temp (zeros_at region) (λ q. absurd (omega (arith, q)))
          ∙ has_array after none temp one_row (zeros_at region)

      two_there : slice_get two_roomed.stores (suc temp) ≡ Some (zeros_at region)
      two_there = has_array one_roomed sp_one (suc temp) two_row (zeros_at region)

      value_there : slice_get all_roomed.stores temp ≡ Some (array_of region value)
      value_there =
          set_apart complemented.stores (suc (suc temp)) temp (zeros_at region)
          (λ q. absurd (omega (arith, q)))
          ∙ set_apart valued.stores (suc temp) temp (array_of region complement)
          (λ q. absurd (omega (arith, q)))
          ∙ has_array two_roomed sp_two temp one_row (array_of region value)

      complement_there : slice_get all_roomed.stores (suc temp) ≡ Some (array_of region complement)
      complement_there =
          set_apart complemented.stores (suc (suc temp)) (suc temp) (zeros_at region)
          (λ q. absurd (omega (arith, q)))
          ∙ has_array valued sp_valued (suc temp) two_row (array_of region complement)

      complement_is : (t : List ℤ) → IsMember region t
          → (value_of (operands_at valued t (start_point cells)) words ≡ flat.Gives (complement t))
          × (is_true (complement t) ≡ is_in t)
      complement_is t m =
          let h = masked valued sp_valued t m in
          let same : complement t ≡ h.0 = ap number_given h.1 in
          (h.1 ∙ ap (λ v. flat.Gives v) (sym same), ap is_true same ∙ h.2)

      -- ---- what the rows do

      stands : loop_stands tables two_roomed region group ≡ true
      stands =
          two_stand tables n line region (has_steps region.dims j.is.dims) temp (suc temp) (omega arith)
          two_roomed is_in field (words_of left) words words complement (
            every_map (IsReadWell tables (Under over region) two_roomed mid.scalars)
                (λ one. list_all (can_read tables two_roomed region) (word_reads one) ≡ true)
                (words_of left) (λ one r. r.reads) (h.reads two_roomed sp_two),
            (mask_reads two_roomed sp_two, (mask_reads two_roomed sp_two, tt)),
          ) (can_put tables n over region temp one_row slots j two_roomed one_there)
          (can_put tables n over region (suc temp) two_row slots j two_roomed two_there)

      loop_does : step tables n (row.Loop over.slot group) two_roomed
          ≡ both_filled tables n line region (has_steps region.dims j.is.dims) temp (suc temp)
          (omega arith) two_roomed is_in field (words_of left) words words complement
          (array_over region is_in field)
      loop_does =
          ap straight (settled_act tables n two_roomed (good_state two_roomed sp_two).sound.settled
          (row.Loop over.slot group))
          ∙ ap (looped tables n group two_roomed) (in_slot two_roomed sp_two).found
          ∙ two_fill tables n line region (has_steps region.dims j.is.dims) temp (suc temp) (omega arith)
          two_roomed is_in field (words_of left) words words complement stands one_there two_there
          (masked two_roomed sp_two)
          (λ t m e.
          subst (λ (c : flat.Computed ℤ). IsSame (field t) c)
          (sym (value_of-words_of (operands_at two_roomed t (start_point cells)) left))
          (h.values two_roomed sp_two cells t m))
          (λ t m. (complement_is t m).0)

      last_does : rows last_rows complemented ≡ code.goes_on end
      last_does =
          ap (λ x. by_step complemented x (rows (row.Plain (instr.Scan (suc (suc temp)) over.slot operator
          (along_of along) temp (Some (suc temp))) ∷ [])))
          (room_does complemented sp_complemented (suc (suc temp)) three_row)
          ∙ ap (λ x. by_step all_roomed x code.goes_on)
          (scan_row_does over region j mid temp (suc (suc temp)) one_row three_row operator along
          no_floods (Some (suc temp)) all_roomed (good_state all_roomed sp_roomed)
          (can_take tables n over region (suc temp) two_row slots j all_roomed
          (array_of region complement) complement_there refl) is_in
          (λ t m.
          ap (λ o. kept_by o t) complement_there
          ∙ ap is_true (element_of_member region complement t (has_steps region.dims j.is.dims) m)
          ∙ (complement_is t m).1)
          value value_there
          (has_array complemented sp_complemented (suc (suc temp)) three_row (zeros_at region)))

      -- ---- what is left

      end_there : (later : Whole) → Spared last end later
          → slice_get later.stores (suc (suc temp))
          ≡ Some (array_of region (result (array_of region value)))
      end_there later l =
          l.stores (suc (suc temp)) (omega (arith, more)) (inr (omega (arith, since)))
          ∙ has_array all_roomed sp_roomed (suc (suc temp)) three_row
          (array_of region (result (array_of region value)))

      end_values : HasValues tables spots w.numbers.arrays own (Under over region) last end
          (λ t. mean.Gives (result (array_of region value) t)) (word.Element (suc (suc temp)))
      end_values = record {
        values = λ later l cells t m.
            subst (λ (c : flat.Computed ℤ).
            IsSame (mean.Gives (result (array_of region value) t)) c)
            (sym (temp_value tables n over region (suc (suc temp)) three_row slots j later
            (result (array_of region value)) (end_there later l) cells t m)) BothGive;
        reads = λ later l. (
          record {
            reads = ap (λ b. b && true) (can_take tables n over region (suc (suc temp)) three_row slots j
                later (array_of region (result (array_of region value))) (end_there later l) refl);
            names = tt;
          },
          tt,
        );
      }

      all_spared : Spared free now end
      all_spared = spares_then tables spots w.numbers.arrays own free mid now after end le s sp_end

      by_filled : (most jumps : ℕ) → jumps ≤ most → (c : mean.Computed Array)
          → array_over region is_in field ≡ c
          → Hoist most (computed_then c (λ array. mean.Gives (λ t. mean.Gives (result array t))))
          (code.behind [] jumps
          (by_step two_roomed (both_filled tables n line region (has_steps region.dims j.is.dims) temp
          (suc temp) (omega arith) two_roomed is_in field (words_of left) words words complement c)
          (rows last_rows)))
      by_filled most jumps few (mean.Traps kind) e = Stumbles (omega (arith, few, sum_of jumps 0))
      by_filled most jumps few (mean.Gives array) e =
          subst (λ (a : Array). Hoist most (mean.Gives (λ t. mean.Gives (result a t)))
          (code.behind [] jumps (rows last_rows
          (with_array_in (with_array_in two_roomed temp a) (suc temp) (array_of region complement)))))
          (sym (array_is region is_in field array e))
          (subst (λ (x : Course Whole).
          Hoist most (mean.Gives (λ t. mean.Gives (result (array_of region value) t)))
          (code.behind [] jumps x)) (sym last_does)
          (Reaches all_spared end_values (omega (arith, few, sum_of jumps 0))))

      own_hoists : (most jumps : ℕ) → jumps ≤ most
          → Hoist most
          (computed_then (array_over region is_in field) (λ array.
          mean.Gives (λ t. mean.Gives (result array t))))
          (code.behind [] jumps (rows own_rows after))
      own_hoists most jumps few =
          subst (λ (x : Course Whole). Hoist most
          (computed_then (array_over region is_in field) (λ array.
          mean.Gives (λ t. mean.Gives (result array t)))) (code.behind [] jumps x))
          (sym (ap (λ x. by_step after x (rows (row.Plain (instr.Room (suc temp) over.slot)
          ∷ row.Loop over.slot group ∷ last_rows))) (room_does after none temp one_row)
          ∙ ap (λ x. by_step one_roomed x (rows (row.Loop over.slot group ∷ last_rows)))
          (room_does one_roomed sp_one (suc temp) two_row)
          ∙ ap (λ x. by_step two_roomed x (rows last_rows)) loop_does))
          (by_filled most jumps few (array_over region is_in field) refl)

    by_course : (most : ℕ) (c : mean.Computed Field) (course : Course Whole)
        → Hoists tables spots w.numbers.arrays own (Under over region) free mid line most now left c course
        → Hoist most
        (computed_then c (λ field. computed_then (array_over region is_in field) (λ array.
        mean.Gives (λ t. mean.Gives (result array t))))) (code.then_do course (rows own_rows))
    by_course most c course (Stumbles few) = Stumbles few
    by_course most c course (Reaches {after = after} {jumps = jumps} {field = field} s h few) =
        own_hoists after s field h most jumps few

    pub without_hoists : (most : ℕ) (c : mean.Computed Field) (course : Course Whole)
        → Hoists tables spots w.numbers.arrays own (Under over region) free mid line most now left c course
        → Hoist most
        (computed_then c (λ field. computed_then (array_over region is_in field) (λ array.
        mean.Gives (scan_field operator along region is_in array))))
        (code.then_do course
        (rows (scan_without w.numbers line temp operator along over left stored.array)))
    without_hoists most c course h =
        subst (λ (g : Array → Field). Hoist most
        (computed_then c (λ field. computed_then (array_over region is_in field) (λ array.
        mean.Gives (g array)))) (code.then_do course
        (rows (scan_without w.numbers line temp operator along over left stored.array))))
        (fun_ext (λ array. scan_field_is operator along is_along region is_in array))
        (subst (λ (rs : List Row). Hoist most
        (computed_then c (λ field. computed_then (array_over region is_in field) (λ array.
        mean.Gives (λ t. mean.Gives (result array t))))) (code.then_do course (rows rs))) rows_are
        (by_course most c course h))
