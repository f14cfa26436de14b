-- Temporaries: rooms, values of a field in one, and values that a row puts into one.
use Rattle.std.proofs.Common.{◌≡◌, refl, sym, ◌∙◌, ap, subst, ℕ, Bool, true, false, ◌&&◌}
use Rattle.std.proofs.Common.{List, [], ◌∷◌, map, ℤ, pos, Option, Some, append-nil}
use Rattle.std.specs.Prelude.{All, if◌then◌else◌, flat_map, option_and_then, slice_get, slice_set}
use Rattle.std.specs.Option.{option_map}
use Rattle.std.specs.List.{list_all}
use Rattle.zpl_region.specs.declared.regions.Region.{Region}
use Rattle.zpl_region.specs.Dim.{HasStep}
use Rattle.zpl_region.specs.Region.{IsMember, members}
use Rattle.zpl_region.proofs.HullLemmas.{has_steps}
use Rattle.zpl_region.proofs.LawLemmas.{members_iff}
use Rattle.zpl_region.proofs.ListLemmas.{Contains-from_among}
use Rattle.zpl_region.proofs.TestLemmas.{is_member_iff}
use Rattle.zpl_arrays.specs.Array.{Array, array_of, element, has_place, updated}
use Rattle.zpl_arrays.proofs.ArrayLemmas.{array_of_is_array, element_of_member, flattened_is, place_of_member, same_elements}
use Rattle.zpl_meaning.specs.Computed as mean
use Rattle.zpl_meaning.specs.Computed.{both_then, computed_then}
use Rattle.zpl_meaning.specs.Fields.{Field, array_over, everywhere, value_if, values_at}
use Rattle.zpl_meaning.specs.Statement.{written}
use Rattle.node_form.specs.declared.tables.Tables.{Tables}
use Rattle.node_form.specs.Expression as word
use Rattle.node_form.specs.Expression.{Expression, words_of}
use Rattle.node_form.specs.Value as flat
use Rattle.node_form.specs.Value.{tree_value, unmoved, value_of}
use Rattle.node_form.proofs.ValueLemmas.{value_of-words_of}
use Rattle.row_runs.specs.Run.{Goes}
use Rattle.row_runs.specs.Straight.{Every}
use Rattle.grid_meaning.specs.Place.{held_value, held_with, moved_by, value_at, where_held, with_values}
use Rattle.grid_meaning.specs.Room.{zeros_at}
use Rattle.flat_form.specs.Loop.{loop_stands, looped, operands_at}
use Rattle.flat_form.specs.Moves.{found, moved_in, with_stores}
use Rattle.flat_form.specs.Names.{word_reads}
use Rattle.flat_form.specs.Right as right
use Rattle.flat_form.specs.Right.{can_read, can_write, has_places, matches, reads_well, writes_well}
use Rattle.flat_form.specs.Row as row
use Rattle.flat_form.specs.Row.{Row, Words, mask_words}
use Rattle.flat_form.specs.Whole.{Whole}
use Rattle.normal_runs.proofs.PlaceLemmas.{moved_none, set_same, set_there, set_twice}
use Rattle.print_runs.specs.of_zpl_lowering.Where.{Slotted}
use Rattle.print_runs.specs.of_zpl_lowering.Tables.{temp_row}
use Rattle.print_runs.specs.of_lowering_runs.Run.{step, straight}
use Rattle.print_runs.proofs.of_lowering_runs.RowLemmas.{settled_act}
use Rattle.print_runs.specs.of_array_puts.Put.{IsMask, IsPutting, IsSame, assigned, put_group, with_array_in}
use Rattle.print_runs.proofs.of_array_puts.PutLemmas.{choice, number_in, put_assigns}
use Rattle.print_runs.proofs.of_array_puts.WriteLemmas.{all_written, every_among, put_all}
use Rattle.print_runs.proofs.of_array_runs.AssignLemmas.{all_read}
use Rattle.print_runs.proofs.of_array_runs.ElementLemmas.{all_members}
use Rattle.print_runs.proofs.of_array_runs.FloodLemmas.{current_floods}
use Rattle.print_runs.proofs.TempLemmas.{temp_matches}
use Rattle.operator_runs.specs.Meant.{InSlot}
use Rattle.operator_runs.proofs.CurrentLemmas.{current_in}

-- ---- the array of a field's values

value_is : (b : Bool) (field : Field) (t : List ℤ) (v : ℤ) → value_if b field t ≡ mean.Gives v
    → v ≡ number_in (choice b (field t))
value_is true field t v e = sym (ap number_in e)
value_is false field t v e = cc

values_are : (is_in : List ℤ → Bool) (field : Field) (ts : List (List ℤ)) (vs : List ℤ)
    → values_at is_in field ts ≡ mean.Gives vs
    → vs ≡ map (λ t. number_in (choice (is_in t) (field t))) ts
values_are is_in field [] vs e = cc
values_are is_in field (t ∷ ts) vs e =
    by (value_if (is_in t) field t) (values_at is_in field ts)
    (λ v f. value_is (is_in t) field t v f) (λ xs f. values_are is_in field ts xs f) e
  where
    by : (one : mean.Computed ℤ) (rest : mean.Computed (List ℤ))
        → ((v : ℤ) → one ≡ mean.Gives v → v ≡ number_in (choice (is_in t) (field t)))
        → ((xs : List ℤ) → rest ≡ mean.Gives xs
        → xs ≡ map (λ t. number_in (choice (is_in t) (field t))) ts)
        → both_then one rest (λ value values. mean.Gives (value ∷ values)) ≡ mean.Gives vs
        → vs ≡ map (λ t. number_in (choice (is_in t) (field t))) (t ∷ ts)
    by (mean.Gives v) (mean.Gives xs) f g e =
        let same : v ∷ xs ≡ vs = cc in
        sym same ∙ ap (λ y. y ∷ xs) (f v refl)
        ∙ ap (λ ys. number_in (choice (is_in t) (field t)) ∷ ys) (g xs refl)
    by (mean.Gives v) (mean.Traps kind) f g e = absurd (let no : ⊥ = cc in no)
    by (mean.Traps kind) rest f g e = absurd (let no : ⊥ = cc in no)

pub array_is : (region : Region) (is_in : List ℤ → Bool) (field : Field) (array : Array)
    → array_over region is_in field ≡ mean.Gives array
    → array ≡ array_of region (λ t. number_in (choice (is_in t) (field t)))
array_is region is_in field array e =
    by (values_at is_in field (members region)) refl e
  where
    by : (c : mean.Computed (List ℤ)) → values_at is_in field (members region) ≡ c
        → computed_then c (λ values. mean.Gives (record { storage = region; values = values }))
        ≡ mean.Gives array
        → array ≡ array_of region (λ t. number_in (choice (is_in t) (field t)))
    by (mean.Gives vs) f e =
        let same : record { storage = region; values = vs } ≡ array = cc in
        sym same
        ∙ ap (λ (xs : List ℤ). record { storage = region; values = xs })
        (values_are is_in field (members region) vs f)
    by (mean.Traps kind) f e = absurd (let no : ⊥ = cc in no)

-- a temporary with 0 everywhere becomes that array
fresh_written : (region : Region) (is_in : List ℤ → Bool) (f : List ℤ → ℤ) → All HasStep region.dims
    → ((t : List ℤ) → is_in t ≡ false → f t ≡ pos 0)
    → written (zeros_at region) region is_in (element (array_of region f)) ≡ array_of region f
fresh_written region is_in f steps none =
    same_elements (written (zeros_at region) region is_in (element (array_of region f)))
    (array_of region f) (array_of_is_array region _ steps) (array_of_is_array region f steps) refl
    (λ t m.
    element_of_member region _ t steps m
    ∙ ap (λ b. if b && is_in t then element (array_of region f) t else element (zeros_at region) t)
    ((is_member_iff region t steps).1 m)
    ∙ by t m (is_in t) refl)
  where
    by : (t : List ℤ) → IsMember region t → (b : Bool) → is_in t ≡ b
        → (if b then element (array_of region f) t else element (zeros_at region) t)
        ≡ element (array_of region f) t
    by t m true e = refl
    by t m false e =
        element_of_member region (λ t. pos 0) t steps m ∙ sym (none t e)
        ∙ sym (element_of_member region f t steps m)

masked_zero : (is_in : List ℤ → Bool) (field : Field) (t : List ℤ) → is_in t ≡ false
    → number_in (choice (is_in t) (field t)) ≡ pos 0
masked_zero is_in field t e = ap (λ b. number_in (choice b (field t))) e

pub kept_written : (region : Region) (is_in : List ℤ → Bool) (field : Field) (array : Array)
    → All HasStep region.dims → array_over region is_in field ≡ mean.Gives array
    → written (zeros_at region) region is_in (element array) ≡ array
kept_written region is_in field array steps e =
    let same = array_is region is_in field array e in
    subst (λ (a : Array). written (zeros_at region) region is_in (element a) ≡ a) (sym same)
    (fresh_written region is_in (λ t. number_in (choice (is_in t) (field t))) steps
    (masked_zero is_in field))

-- ---- values that are set one after another

set_values : (k : ℕ) (a : Array) (ts : List (List ℤ)) (f : List ℤ → ℤ) (stores : List Array)
    → slice_get stores k ≡ Some a → Every (λ t. has_place a.storage t ≡ true) ts
    → with_values k ts (map f ts) stores
    ≡ Some (slice_set stores k (put_all a ts (map (λ t. Some (f t)) ts)))
set_values k a [] f stores e h = ap (λ (xs : List Array). Some xs) (sym (set_same stores k a e))
set_values k a (t ∷ ts) f stores e h =
    let b = updated a t (f t) in
    ap (option_and_then (with_values k ts (map f ts)))
    (ap (λ o. option_map (slice_set stores k) (option_and_then (held_with t (f t)) o)) e
    ∙ ap (λ c. option_map (slice_set stores k) (where_held c b)) h.0)
    ∙ set_values k b ts f (slice_set stores k b) (set_there stores k b a e) h.1
    ∙ ap (λ (xs : List Array). Some xs)
    (set_twice stores k b (put_all b ts (map (λ t. Some (f t)) ts)))

-- ---- a slot's region, and a temporary with its flood dimensions

module _ (tables : Tables) (n : ℕ) (over : Slotted) (region : Region) (temp : ℕ)
    (in_tables : slice_get tables.arrays temp ≡ Some (temp_row over.flood)) where
  module _ (slots : List Region) (i : InSlot slots over region) where
    steps : All HasStep region.dims
    steps = has_steps region.dims i.is.dims

    pub row_matches : matches (temp_row over.flood) region ≡ true
    row_matches =
        temp_matches 3 over.flood region.dims
        (current_floods slots region.rank over (current_in slots over region i))

    -- ---- it may be written where it has a room

    pub can_put : (now : Whole) → slice_get now.stores temp ≡ Some (zeros_at region)
        → can_write tables now region temp ≡ true
    can_put now room =
        ap (λ o. writes_well o (slice_get now.stores temp) region) in_tables
        ∙ ap (λ o. writes_well (Some (temp_row over.flood)) o region) room
        ∙ ap (λ b. b && has_places (zeros_at region) region unmoved) row_matches
        ∙ all_members region (λ t. has_place region (moved_by unmoved t)) steps
        (λ t m. ap (has_place region) (moved_none t) ∙ place_of_member region.dims t steps m)

    -- values of a function
    pub moved_is : (now : Whole) → slice_get now.stores temp ≡ Some (zeros_at region)
        → (f : List ℤ → ℤ)
        → moved_in now temp region f ≡ Goes [] (with_array_in now temp (array_of region f))
    moved_is now room f =
        ap (λ o. found o (with_stores now))
        (set_values temp (zeros_at region) (members region) f now.stores room
        (every_among (λ t. has_place region t ≡ true) (members region)
        (λ t m. place_of_member region.dims t steps
        ((members_iff region t steps).0 (Contains-from_among (members region) t m)))))
        ∙ ap (λ (a : Array). Goes [] (with_array_in now temp a))
        (all_written (zeros_at region) region everywhere f (array_of_is_array region (λ t. pos 0) steps)
        steps (λ t m. place_of_member region.dims t steps m) (λ t m. flattened_is region.dims t m)
        ∙ ap (λ (g : List ℤ → ℤ). written (zeros_at region) region everywhere g) refl
        ∙ every_written f)
      where
        every_written : (f : List ℤ → ℤ)
            → written (zeros_at region) region everywhere f ≡ array_of region f
        every_written f =
            same_elements (written (zeros_at region) region everywhere f) (array_of region f)
            (array_of_is_array region _ (has_steps region.dims i.is.dims))
            (array_of_is_array region f (has_steps region.dims i.is.dims)) refl
            (λ t m.
            element_of_member region _ t (has_steps region.dims i.is.dims) m
            ∙ ap (λ b. if b && true then f t else element (zeros_at region) t)
            ((is_member_iff region t (has_steps region.dims i.is.dims)).1 m)
            ∙ sym (element_of_member region f t (has_steps region.dims i.is.dims) m))

    -- ---- it is read

    pub can_take : (now : Whole) (array : Array) → slice_get now.stores temp ≡ Some array
        → array.storage ≡ region
        → can_read tables now region (record { array = temp; shift = unmoved }) ≡ true
    can_take now array held storage =
        ap (λ o. reads_well o (slice_get now.stores temp) region unmoved) in_tables
        ∙ ap (λ o. reads_well (Some (temp_row over.flood)) o region unmoved) held
        ∙ ap (λ b. (true && b) && has_places array region unmoved) row_matches
        ∙ all_members region (λ t. has_place array.storage (moved_by unmoved t)) steps
        (λ t m. ap (has_place array.storage) (moved_none t)
        ∙ ap (λ (r : Region). has_place r t) storage ∙ place_of_member region.dims t steps m)

    pub temp_value : (now : Whole) (f : List ℤ → ℤ)
        → slice_get now.stores temp ≡ Some (array_of region f) → (cells t : List ℤ)
        → IsMember region t
        → tree_value (operands_at now t (record { cells = cells; log = [] })) (word.Element temp)
        ≡ flat.Gives (f t)
    temp_value now f held cells t m =
        ap (λ u. flat.read (value_at now.stores temp u)) (moved_none t)
        ∙ ap (λ o. flat.read (option_and_then (held_value t) o)) held
        ∙ ap (λ b. flat.read (where_held b (element (array_of region f) t)))
        (place_of_member region.dims t steps m)
        ∙ ap (λ v. flat.Gives v) (element_of_member region f t steps m)

    -- ---- values of a field

    module _ (now : Whole) (settled : (k : ℕ) → right.is_settled now k ≡ true)
        (there : slice_get now.slots over.slot ≡ Some region)
        (room : slice_get now.stores temp ≡ Some (zeros_at region)) (is_in : List ℤ → Bool)
        (field : Field) (left : Expression) (mask : Option Words) (line : ℕ)
        (values : (cells t : List ℤ) → IsMember region t
        → IsSame (field t) (tree_value (operands_at now t (record { cells = cells; log = [] })) left))
        (masked : (cells t : List ℤ) → IsMember region t
        → IsMask (operands_at now t (record { cells = cells; log = [] })) mask (is_in t))
        (reads : Every (λ (words : Words). Every (λ one.
        list_all (can_read tables now region) (word_reads one) ≡ true) words)
        (words_of left ∷ mask_words mask)) where
      stands : loop_stands tables now region (put_group temp (words_of left) mask line) ≡ true
      stands =
          ap (λ t. t && ((can_write tables now region temp && true) && true))
          (ap (λ exprs. list_all (can_read tables now region)
          (flat_map (λ expr. flat_map word_reads expr) exprs))
          (append-nil (words_of left ∷ mask_words mask))
          ∙ all_read (can_read tables now region) (words_of left ∷ mask_words mask) reads)
          ∙ ap (λ t. (t && true) && true) (can_put now room)

      putting : IsPutting tables now temp (zeros_at region) region is_in field (words_of left) mask line
      putting = record {
        found = room;
        filled = array_of_is_array region (λ t. pos 0) steps;
        steps = steps;
        places = λ t m. place_of_member region.dims t steps m;
        apart = λ t m. flattened_is region.dims t m;
        stands = stands;
        masked = λ t m. masked _ t m;
        values = λ t m e.
            subst (λ (v : flat.Computed ℤ). IsSame (field t) v)
            (sym (value_of-words_of (operands_at now t (record { cells = _; log = [] })) left))
            (values _ t m);
      }

      pub loop_step : step tables n (row.Loop over.slot (put_group temp (words_of left) mask line)) now
          ≡ assigned now temp (zeros_at region) region is_in line (array_over region is_in field)
      loop_step =
          ap straight (settled_act tables n now settled
          (row.Loop over.slot (put_group temp (words_of left) mask line)))
          ∙ ap (looped tables n (put_group temp (words_of left) mask line) now) there
          ∙ put_assigns tables n now temp (zeros_at region) region is_in field (words_of left) mask line
          putting
