-- What all tuples have put: in a loop all logs are written, one after another; in the meaning each
-- array takes what each tuple has left.
use Rattle.std.proofs.Common.{◌≡◌, ◌≢◌, refl, sym, ◌∙◌, ap, subst, ℕ, Bool, true, false}
use Rattle.std.proofs.Common.{List, [], ◌∷◌, map, ℤ, pos, All, Some, ◌⊎◌, inl, inr}
use Rattle.std.proofs.lemmas.Bool.{cases_eq}
use Rattle.zpl_nums.specs.Integer.{IsInteger}
use Rattle.array_runs.proofs.IntegerLemmas.{updated_integers}
use Rattle.std.specs.Prelude.{◌==◌, if◌then◌else◌, option_and_then, slice_get, slice_set, slice_index_or}
use Rattle.std.specs.List.{AllZip}
use Rattle.std.specs.Option.{option_map}
use Rattle.std.proofs.lemmas.Bool.{false≢true}
use Rattle.std.proofs.lemmas.Bool.Decides.{Decides-eqb}
use Rattle.std.proofs.lemmas.List.{set-get_or}
use Rattle.zpl_nums.specs.declared.ends.End.TheVariants.{Done}
use Rattle.zpl_region.specs.declared.regions.Region.{Region}
use Rattle.zpl_region.specs.Dim.{HasStep}
use Rattle.zpl_region.specs.Region.{IsMember}
use Rattle.zpl_region.proofs.ListLemmas.{Among}
use Rattle.zpl_arrays.specs.Array.{Array, IsArray, element, flattened, has_place, place_among, updated}
use Rattle.zpl_arrays.proofs.ArrayLemmas.{updated_elsewhere, updated_is_array}
use Rattle.zpl_meaning.specs.Store.{Store, no_array}
use Rattle.zpl_meaning.specs.Points.{Run, all_left_at, left_at, merged}
use Rattle.node_form.specs.declared.arrays.ArrayRow.{ArrayRow}
use Rattle.node_form.specs.declared.tables.Tables.{Tables}
use Rattle.node_form.specs.Fits.{storage_of}
use Rattle.row_runs.specs.Straight.{Every}
use Rattle.grid_meaning.specs.Place.{held_with, where_held}
use Rattle.flat_form.specs.Loop as loop
use Rattle.flat_form.specs.Loop.{Column, Log, Point, Puts, Joins, all_written, log_written}
use Rattle.flat_form.specs.States.{IsStoreOf}
use Rattle.flat_form.specs.Whole.{Whole}
use Rattle.normal_runs.proofs.PlaceLemmas.{Apart, set_apart, set_there, set_twice}
use Rattle.array_runs.specs.of_zpl_lowering.Where.{Stored}
use Rattle.array_runs.specs.of_lowering_runs.Seen.{Spot, array_in, seen_store}
use Rattle.array_runs.proofs.StoredLemmas.{index_of_found, zip_at}
use Rattle.array_runs.proofs.LikeLemmas.{index_if, index_is, zip_new}
use Rattle.point_runs.specs.Own.{value_behind, own_array, own_store}
use Rattle.point_runs.proofs.CutLemmas.{one_element}
use Rattle.point_runs.proofs.AlikeLemmas.{PutsAlone}

every_at : {X : Type 0} (P : X → Type 0) (xs : List X) (x : X) → Every P xs → Among xs x → P x
every_at P [] x h k = absurd k
every_at P (y ∷ xs) x h (inl e) = subst P e h.0
every_at P (y ∷ xs) x h (inr k) = every_at P xs x h.1 k

abbrev pub at_number : List Array → ℕ → Array
at_number stores k = slice_index_or stores k no_array

-- ---- an array behind a log

module _ (t : List ℤ) where
  abbrev pub array_behind : Log → ℕ → Array → Array
  array_behind [] k array = array
  array_behind (Puts other value ∷ log) k array =
      if other == k then updated (array_behind log k array) t value else array_behind log k array
  array_behind (Joins scalar operator value ∷ log) k array = array_behind log k array

  -- what is put there last counts
  put_last : (log : Log) (k : ℕ) (array : Array) (value : ℤ)
      → updated (array_behind log k array) t value ≡ updated array t value
  put_last [] k array value = refl
  put_last (Puts other old ∷ log) k array value =
      by (other == k) (array_behind log k array) ∙ put_last log k array value
    where
      by : (b : Bool) (a : Array)
          → updated (if b then updated a t old else a) t value ≡ updated a t value
      by true a =
          ap (λ (xs : List ℤ). record a { values = xs })
          (set_twice a.values (place_among a.storage.dims t) old value)
      by false a = refl
  put_last (Joins scalar operator old ∷ log) k array value = put_last log k array value

  same_put : (array : Array) → has_place array.storage t ≡ true
      → updated array t (element array t) ≡ array
  same_put array e =
      ap (λ (v : ℤ). updated array t v)
      (ap (λ b. if b then slice_index_or array.values (place_among array.storage.dims t) (pos 0)
      else pos 0) e)
      ∙ ap (λ (xs : List ℤ). record array { values = xs })
      (set-get_or array.values (place_among array.storage.dims t) (pos 0))

  left_same : (b : Bool) (array : Array) → has_place array.storage t ≡ b
      → left_at b array t (element array t) ≡ array
  left_same true array e = same_put array e
  left_same false array e = refl

  -- the array takes what a tuple has left, where all that is put has a place
  left_behind : (log : Log) (k : ℕ) (array : Array)
      → PutsAlone (λ j. j ≡ k → has_place array.storage t ≡ true) log
      → left_at (has_place array.storage t) array t (value_behind log k (element array t))
      ≡ array_behind log k array
  left_behind [] k array h = left_same (has_place array.storage t) array refl
  left_behind (Joins scalar operator value ∷ log) k array h = absurd h
  left_behind (Puts other value ∷ log) k array h = by (other == k) refl (left_behind log k array h.1)
    where
      by : (b : Bool) → (other == k) ≡ b
          → left_at (has_place array.storage t) array t (value_behind log k (element array t))
          ≡ array_behind log k array
          → left_at (has_place array.storage t) array t
          (if b then value else value_behind log k (element array t))
          ≡ (if b then updated (array_behind log k array) t value else array_behind log k array)
      by true e same =
          ap (λ b. left_at b array t value) (h.0.0 ((Decides-eqb other k).0 e))
          ∙ sym (put_last log k array value)
      by false e same = same

  behind_is_array : (log : Log) (k : ℕ) (array : Array) → IsArray array
      → IsArray (array_behind log k array)
  behind_is_array [] k array is = is
  behind_is_array (Puts other value ∷ log) k array is =
      by (other == k) (behind_is_array log k array is)
    where
      by : (b : Bool) → IsArray (array_behind log k array)
          → IsArray (if b then updated (array_behind log k array) t value
          else array_behind log k array)
      by true h = updated_is_array (array_behind log k array) t value h
      by false h = h
  behind_is_array (Joins scalar operator value ∷ log) k array is = behind_is_array log k array is

  behind_storage : (log : Log) (k : ℕ) (array : Array)
      → (array_behind log k array).storage ≡ array.storage
  behind_storage [] k array = refl
  behind_storage (Puts other value ∷ log) k array =
      by (other == k) ∙ behind_storage log k array
    where
      by : (b : Bool) → (if b then updated (array_behind log k array) t value
          else array_behind log k array).storage ≡ (array_behind log k array).storage
      by true = refl
      by false = refl
  behind_storage (Joins scalar operator value ∷ log) k array = behind_storage log k array

  -- what is put at a tuple leaves the value at another one
  record IsApart (array : Array) (u : List ℤ) : Type 0 where
    is : IsArray array
    here : has_place array.storage t ≡ true
    there : has_place array.storage u ≡ true
    apart : flattened array.storage.dims u ≢ flattened array.storage.dims t

  behind_elsewhere : (log : Log) (k : ℕ) (array : Array) (u : List ℤ)
      → PutsAlone (λ j. j ≡ k → IsApart array u) log
      → element (array_behind log k array) u ≡ element array u
  behind_elsewhere [] k array u h = refl
  behind_elsewhere (Joins scalar operator value ∷ log) k array u h = absurd h
  behind_elsewhere (Puts other value ∷ log) k array u h =
      by (other == k) refl ∙ behind_elsewhere log k array u h.1
    where
      by : (b : Bool) → (other == k) ≡ b
          → element (if b then updated (array_behind log k array) t value
          else array_behind log k array) u ≡ element (array_behind log k array) u
      by true e =
          let a = h.0.0 ((Decides-eqb other k).0 e) in
          let s = behind_storage log k array in
          updated_elsewhere (array_behind log k array) t u value (behind_is_array log k array a.is)
          (ap (λ (r : Region). has_place r t) s ∙ a.here)
          (ap (λ (r : Region). has_place r u) s ∙ a.there)
          (subst (λ (r : Region). flattened r.dims u ≢ flattened r.dims t) (sym s) a.apart)
      by false e = refl

puts_more : (P Q : ℕ → Type 0) → ((k : ℕ) → P k → Q k) → (log : Log) → PutsAlone P log
    → PutsAlone Q log
puts_more P Q f [] h = tt
puts_more P Q f (Puts array value ∷ log) h = ((f array h.0.0, h.0.1), puts_more P Q f log h.1)
puts_more P Q f (Joins scalar operator value ∷ log) h = absurd h

-- ---- all arrays

module _ (tables : Tables) (region : Region) where
  -- an array that members put: it has a place of its own for each tuple
  pub record IsTarget (k : ℕ) : Type 0 where
    pub row : ArrayRow
    pub found : slice_get tables.arrays k ≡ Some row
    pub kept : row.stored ≡ true
    pub steps : All HasStep (storage_of row).dims
    pub places : (t : List ℤ) → IsMember region t → has_place (storage_of row) t ≡ true
    pub flat : (t : List ℤ) → IsMember region t → flattened (storage_of row).dims t ≡ t

  abbrev Filled : List Array → Type 0
  Filled stores = AllZip IsStoreOf tables.arrays stores

  record IsTargetIn (k : ℕ) (row : ArrayRow) (stores : List Array) : Type 0 where
    array : Array
    found : slice_get stores k ≡ Some array
    at : at_number stores k ≡ array
    is : IsArray array
    storage : array.storage ≡ storage_of row

  target_in : (k : ℕ) (h : IsTarget k) (stores : List Array) → Filled stores
      → IsTargetIn k h.row stores
  target_in k h stores filled =
      let z = zip_at tables.arrays stores k h.row filled h.found in
      let same : z.0.storage ≡ storage_of h.row = z.2.placed h.kept in
      record {
        array = z.0;
        found = z.1;
        at = index_of_found stores k z.0 no_array z.1;
        is = record {
          filled = z.2.filled;
          steps = subst (λ (r : Region). All HasStep r.dims) (sym same) h.steps;
        };
        storage = same;
      }

  module _ (t : List ℤ) (m : IsMember region t) where
    abbrev stores_behind : Log → List Array → List Array
    stores_behind [] stores = stores
    stores_behind (Puts k value ∷ log) stores =
        slice_set (stores_behind log stores) k
        (updated (at_number (stores_behind log stores) k) t value)
    stores_behind (Joins scalar operator value ∷ log) stores = stores_behind log stores

    stay_filled : (log : Log) (stores : List Array) → PutsAlone IsTarget log → Filled stores
        → Filled (stores_behind log stores)
    stay_filled [] stores h filled = filled
    stay_filled (Joins scalar operator value ∷ log) stores h filled = absurd h
    stay_filled (Puts k value ∷ log) stores h filled =
        let before = stay_filled log stores h.1 filled in
        let there = target_in k h.0.0 (stores_behind log stores) before in
        let old = at_number (stores_behind log stores) k in
        let is : IsArray old = subst IsArray (sym there.at) there.is in
        zip_new tables.arrays (stores_behind log stores) k h.0.0.row (updated old t value) h.0.0.found
        (record {
          filled = (updated_is_array old t value is).filled;
          placed = λ e. ap (λ (a : Array). a.storage) there.at ∙ there.storage;
        }) before

    -- arrays that have integers have them still
    stay_integers : (log : Log) (stores : List Array) → PutsAlone IsTarget log → Filled stores
        → (j : ℕ) → Every IsInteger (at_number stores j).values
        → Every IsInteger (at_number (stores_behind log stores) j).values
    stay_integers [] stores h filled j is = is
    stay_integers (Joins scalar operator value ∷ log) stores h filled j is = absurd h
    stay_integers (Puts k value ∷ log) stores h filled j is =
        by (cases_eq j k) (stay_integers log stores h.1 filled j is)
      where
        by : (j ≡ k) ⊎ (j ≡ k → ⊥) → Every IsInteger (at_number (stores_behind log stores) j).values
            → Every IsInteger (at_number (slice_set (stores_behind log stores) k
            (updated (at_number (stores_behind log stores) k) t value)) j).values
        by (inl same) more =
            let there = target_in k h.0.0 (stores_behind log stores)
            (stay_filled log stores h.1 filled) in
            let new = updated (at_number (stores_behind log stores) k) t value in
            subst (λ (a : Array). Every IsInteger a.values)
            (sym (ap (at_number (slice_set (stores_behind log stores) k new)) same
            ∙ index_of_found (slice_set (stores_behind log stores) k new) k new no_array
            (set_there (stores_behind log stores) k new there.array there.found)))
            (updated_integers (at_number (stores_behind log stores) k) t value
            (subst (λ (i : ℕ). Every IsInteger (at_number (stores_behind log stores) i).values) same
            more) h.0.1)
        by (inr ne) more =
            let new = updated (at_number (stores_behind log stores) k) t value in
            subst (λ (a : Array). Every IsInteger a.values)
            (sym (index_is (slice_set (stores_behind log stores) k new) j no_array
            ∙ ap (index_if no_array) (set_apart (stores_behind log stores) k j new (λ q. ne (sym q)))
            ∙ sym (index_is (stores_behind log stores) j no_array))) more

    -- the stores of a state
    abbrev with_stores : Whole → List Array → Whole
    with_stores whole stores = record whole { stores = stores }

    written_once : (whole : Whole) (k : ℕ) (a : Array) (v : ℤ)
        → slice_get whole.stores k ≡ Some a → has_place a.storage t ≡ true
        → loop.written t (Puts k v) whole
        ≡ Some (with_stores whole (slice_set whole.stores k (updated a t v)))
    written_once whole k a v e h =
        ap (λ o. option_map (λ stores. record whole { stores = stores })
        (option_map (slice_set whole.stores k) (option_and_then (held_with t v) o))) e
        ∙ ap (λ b. option_map (λ stores. record whole { stores = stores })
        (option_map (slice_set whole.stores k) (where_held b (updated a t v)))) h

    writes : (whole : Whole) (log : Log) (stores : List Array) → PutsAlone IsTarget log
        → Filled stores → log_written t log (with_stores whole stores)
        ≡ Some (with_stores whole (stores_behind log stores))
    writes whole [] stores h filled = refl
    writes whole (Joins scalar operator value ∷ log) stores h filled = absurd h
    writes whole (Puts k value ∷ log) stores h filled =
        let now = stores_behind log stores in
        let there = target_in k h.0.0 now (stay_filled log stores h.1 filled) in
        ap (option_and_then (loop.written t (Puts k value))) (writes whole log stores h.1 filled)
        ∙ written_once (with_stores whole now) k there.array value there.found
        (ap (λ (r : Region). has_place r t) there.storage ∙ h.0.0.places t m)
        ∙ ap (λ (a : Array). Some (with_stores whole (slice_set now k (updated a t value))))
        (sym there.at)

    number_apart : (stores : List Array) (k j : ℕ) (a : Array) → (k ≡ j → ⊥)
        → at_number (slice_set stores k a) j ≡ at_number stores j
    number_apart stores k j a ne =
        index_is (slice_set stores k a) j no_array
        ∙ ap (index_if no_array) (set_apart stores k j a ne)
        ∙ sym (index_is stores j no_array)

    each_behind : (log : Log) (stores : List Array) (j : ℕ) → PutsAlone IsTarget log
        → Filled stores
        → at_number (stores_behind log stores) j ≡ array_behind t log j (at_number stores j)
    each_behind [] stores j h filled = refl
    each_behind (Joins scalar operator value ∷ log) stores j h filled = absurd h
    each_behind (Puts k value ∷ log) stores j h filled =
        by (k == j) refl (each_behind log stores j h.1 filled)
      where
        by : (b : Bool) → (k == j) ≡ b
            → at_number (stores_behind log stores) j ≡ array_behind t log j (at_number stores j)
            → at_number (slice_set (stores_behind log stores) k
            (updated (at_number (stores_behind log stores) k) t value)) j
            ≡ (if b then updated (array_behind t log j (at_number stores j)) t value
            else array_behind t log j (at_number stores j))
        by true e same =
            let there = target_in k h.0.0 (stores_behind log stores)
            (stay_filled log stores h.1 filled) in
            let is : k ≡ j = (Decides-eqb k j).0 e in
            let new = updated (at_number (stores_behind log stores) k) t value in
            ap (λ (i : ℕ). at_number (slice_set (stores_behind log stores) k new) i) (sym is)
            ∙ index_of_found (slice_set (stores_behind log stores) k new) k new no_array
            (set_there (stores_behind log stores) k new there.array there.found)
            ∙ ap (λ (i : ℕ). updated (at_number (stores_behind log stores) i) t value) is
            ∙ ap (λ (a : Array). updated a t value) same
        by false e same =
            number_apart (stores_behind log stores) k j _
            (λ q. false≢true (sym e ∙ (Decides-eqb k j).1 q)) ∙ same

    places_of : (log : Log) (stores : List Array) (j : ℕ) → PutsAlone IsTarget log → Filled stores
        → PutsAlone (λ k. k ≡ j → has_place (at_number stores j).storage t ≡ true) log
    places_of log stores j h filled =
        puts_more IsTarget (λ k. k ≡ j → has_place (at_number stores j).storage t ≡ true)
        (λ k is e.
        let there = target_in k is stores filled in
        ap (λ (i : ℕ). has_place (at_number stores i).storage t) (sym e)
        ∙ ap (λ (a : Array). has_place a.storage t) there.at
        ∙ ap (λ (r : Region). has_place r t) there.storage ∙ is.places t m) log h

    -- other tuples have what they had
    elsewhere : (log : Log) (stores : List Array) (j : ℕ) (u : List ℤ) → IsMember region u
        → u ≢ t → PutsAlone IsTarget log → Filled stores
        → element (at_number (stores_behind log stores) j) u ≡ element (at_number stores j) u
    elsewhere log stores j u n ne h filled =
        ap (λ (a : Array). element a u) (each_behind log stores j h filled)
        ∙ behind_elsewhere t log j (at_number stores j) u
        (puts_more IsTarget (λ k. k ≡ j → IsApart t (at_number stores j) u)
        (λ k is e.
        subst (λ (i : ℕ). IsApart t (at_number stores i) u) e
        (let there = target_in k is stores filled in
        subst (λ (a : Array). IsApart t a u) (sym there.at)
        (record {
          is = there.is;
          here = ap (λ (r : Region). has_place r t) there.storage ∙ is.places t m;
          there = ap (λ (r : Region). has_place r u) there.storage ∙ is.places u n;
          apart = λ q. ne (sym (ap (λ (r : Region). flattened r.dims u) there.storage
              ∙ is.flat u n) ∙ q ∙ ap (λ (r : Region). flattened r.dims t) there.storage
              ∙ is.flat t m);
        }))) log h)

  -- ---- all tuples

  module _ (spots : List Spot) (arrays : List Stored) (now : Whole) (cells : List ℤ) where
    abbrev own : List ℤ → Log → Store
    own t log = own_store spots arrays now t log

    abbrev seen : List Array → Store
    seen stores = seen_store spots arrays (record now { stores = stores })

    abbrev pub columns : List (List ℤ) → List Column
    columns ts = map (λ t. record { at = t; cells = cells }) ts

    -- the runs of the tuples that aren't masked out, and what each tuple comes to
    pub data Left : List (List ℤ) → List Run → List Point → Type 0 where
      NoneLeft : Left [] [] []
      OneLeft : {ts : List (List ℤ)} {runs : List Run} {points : List Point} (t : List ℤ) {log : Log}
          {own_cells : List ℤ} {bytes : List ℕ} {steps : ℕ} → PutsAlone IsTarget log
          → Left ts runs points
          → Left (t ∷ ts)
          (record {
            tuple = t;
            outcome = record { store = own t log; bytes = bytes; ending = Done; steps = steps };
          } ∷ runs)
          (record { cells = own_cells; log = log } ∷ points)
      OneOut : {ts : List (List ℤ)} {runs : List Run} {points : List Point} (t : List ℤ)
          {own_cells : List ℤ} → Left ts runs points
          → Left (t ∷ ts) runs (record { cells = own_cells; log = [] } ∷ points)

    -- the tuples that are still to come have what they had
    abbrev Fresh : List (List ℤ) → List Array → Type 0
    Fresh ts stores =
        (u : List ℤ) → Among ts u → (k : ℕ)
        → element (at_number stores k) u ≡ element (array_in now k) u

    abbrev AreMembers : List (List ℤ) → Type 0
    AreMembers ts = (u : List ℤ) → Among ts u → IsMember region u

    left_seen : (t : List ℤ) (m : IsMember region t) (log : Log) (stores : List Array)
        → PutsAlone IsTarget log → Filled stores
        → ((k : ℕ) → element (at_number stores k) t ≡ element (array_in now k) t)
        → (some : List Stored)
        → all_left_at t (map (λ (one : Stored). at_number stores one.array) some)
        (map (own_array spots arrays now t log) some)
        ≡ map (λ (one : Stored). at_number (stores_behind t m log stores) one.array) some
    left_seen t m log stores h filled fresh [] = refl
    left_seen t m log stores h filled fresh (one ∷ some) =
        let k = one.array in
        let a = at_number stores k in
        let rest = all_left_at t (map (λ (one : Stored). at_number stores one.array) some)
        (map (own_array spots arrays now t log) some) in
        ap (λ (v : ℤ). left_at (has_place a.storage t) a t v ∷ rest)
        (one_element t (array_in now k) (value_behind log k (element (array_in now k) t))
        ∙ ap (value_behind log k) (sym (fresh k)))
        ∙ ap (λ (b : Array). b ∷ rest)
        (left_behind t log k a (places_of t m log stores k h filled)
        ∙ sym (each_behind t m log stores k h filled))
        ∙ ap (λ bs. at_number (stores_behind t m log stores) k ∷ bs)
        (left_seen t m log stores h filled fresh some)

    pub record Merged (ts : List (List ℤ)) (runs : List Run) (points : List Point)
        (before : List Array) : Type 0 where
      pub stores : List Array
      pub filled : Filled stores
      pub written : all_written (columns ts) points (record now { stores = before })
          ≡ Some (record now { stores = stores })
      pub is : merged (seen before) runs ≡ seen stores
      pub integers : (j : ℕ) → Every IsInteger (at_number before j).values
          → Every IsInteger (at_number stores j).values

    pub merges : (ts : List (List ℤ)) (runs : List Run) (points : List Point)
        → Left ts runs points → AreMembers ts → Apart ts → (stores : List Array) → Filled stores
        → Fresh ts stores → Merged ts runs points stores
    merges ts runs points NoneLeft members apart stores filled fresh =
        record {
          stores = stores;
          filled = filled;
          written = refl;
          is = refl;
          integers = λ j is. is;
        }
    merges ts runs points (OneOut {ts = rest} {runs = same} {points = others} t left) members apart
        stores filled fresh =
        let more = merges rest same others left (λ u k. members u (inr k)) apart.1 stores filled
        (λ u k. fresh u (inr k)) in
        record {
          stores = more.stores;
          filled = more.filled;
          written = more.written;
          is = more.is;
          integers = more.integers;
        }
    merges ts runs points (OneLeft {ts = rest} {runs = others} {points = more_points} t {log = log} puts left)
        members apart stores filled fresh =
        let m = members t (inl refl) in
        let after = stores_behind t m log stores in
        let more = merges rest others more_points left (λ u k. members u (inr k)) apart.1 after
        (stay_filled t m log stores puts filled)
        (λ u k j.
        elsewhere t m log stores j u (members u (inr k))
        (every_at (λ u. u ≡ t → ⊥) rest u apart.0 k) puts filled ∙ fresh u (inr k) j) in
        record {
          stores = more.stores;
          filled = more.filled;
          written = ap (option_and_then (all_written (columns rest) more_points))
              (writes t m now log stores puts filled) ∙ more.written;
          is = ap (λ (xs : List Array). merged (record (seen stores) { arrays = xs }) others)
              (left_seen t m log stores puts filled (fresh t (inl refl)) arrays) ∙ more.is;
          integers = λ j is. more.integers j (stay_integers t m log stores puts filled j is);
        }
