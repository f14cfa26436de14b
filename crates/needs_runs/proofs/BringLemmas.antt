-- Values that come from other processors, written where they are needed.
use Rattle.std.proofs.Common.{◌≡◌, ◌⊎◌, inl, inr, refl, sym, ◌∙◌, ap, subst, arith, ℕ}
use Rattle.std.proofs.Common.{true, List, [], ◌∷◌, length, map, ℤ, pos}
use Rattle.std.proofs.Common.{◌<ℤ◌, Some}
use Rattle.std.specs.Prelude.{option_and_then, slice_get, slice_set}
use Rattle.std.specs.List.{AllZip}
use Rattle.std.specs.Option.{option_map}
use Rattle.std.proofs.lemmas.Int.{ints}
use Rattle.zpl_region.specs.declared.dims.Dim.{Dim}
use Rattle.zpl_region.specs.declared.dims.Dim.TheVariants as dim
use Rattle.zpl_region.specs.declared.regions.Region.{Region}
use Rattle.zpl_region.proofs.ListLemmas.{cases_order_z, cons_same}
use Rattle.zpl_arrays.specs.Array.{Array, IsArray, element, flattened, has_place, updated}
use Rattle.zpl_arrays.proofs.ArrayLemmas.{array_of-element, element-array_of, updated_elsewhere, updated_here, updated_is_array}
use Rattle.plan_meaning.specs.of_grid_meaning.Place.{held_value, held_with, value_at, values_at, where_held, with_value, with_values}
use Rattle.plan_meaning.specs.of_grid_meaning.State.{IsStore}
use Rattle.node_form.specs.declared.arrays.ArrayDim.{ArrayDim}
use Rattle.node_form.specs.declared.arrays.ArrayDim.TheVariants.{Range, Star}
use Rattle.node_form.specs.declared.arrays.ArrayRow.{ArrayRow}
use Rattle.node_form.specs.declared.tables.Tables.{Tables}
use Rattle.node_form.specs.Fits.{storage_dim}
use Rattle.row_runs.specs.Straight.{Every}
use Rattle.normal_runs.proofs.PlaceLemmas.{set_apart, set_there}
use Rattle.needs_runs.proofs.OwnerLemmas.{KindsAs}
use Rattle.needs_runs.proofs.PlaceLemmas.{element_of_held, held_there, place_of_held}
use Rattle.needs_runs.proofs.SlotLemmas.{zip_set, zip_there}

-- ---- tuples are the same or not
int_cases : (x y : ℤ) → (x ≡ y) ⊎ (x ≡ y → ⊥)
int_cases x y = by (cases_order_z x y)
  where
    by : (x <ℤ y) ⊎ ((x ≡ y) ⊎ (y <ℤ x)) → (x ≡ y) ⊎ (x ≡ y → ⊥)
    by (inl less) = inr (λ same. omega (arith, ints, less, same))
    by (inr (inl same)) = inl same
    by (inr (inr more)) = inr (λ same. omega (arith, ints, more, same))

pub tuple_cases : (t u : List ℤ) → (t ≡ u) ⊎ (t ≡ u → ⊥)
tuple_cases [] [] = inl refl
tuple_cases [] (y ∷ u) = inr (λ same. cc)
tuple_cases (x ∷ t) [] = inr (λ same. cc)
tuple_cases (x ∷ t) (y ∷ u) = by (int_cases x y) (tuple_cases t u)
  where
    by : (x ≡ y) ⊎ (x ≡ y → ⊥) → (t ≡ u) ⊎ (t ≡ u → ⊥) → (x ∷ t ≡ y ∷ u) ⊎ (x ∷ t ≡ y ∷ u → ⊥)
    by (inl one) (inl rest) = inl (cons_same one rest)
    by (inl one) (inr apart) = inr (λ same. apart (let e : t ≡ u = cc in e))
    by (inr apart) rest = inr (λ same. apart (let e : x ≡ y = cc in e))

-- two storages with the same flood dimensions flatten alike
pub flattened_as : (rows : List ArrayDim) (dims : List Dim) (t : List ℤ) → KindsAs rows dims
    → length dims ≡ length rows → flattened dims t ≡ flattened (map storage_dim rows) t
flattened_as [] [] t kinds long = refl
flattened_as [] (d ∷ dims) t kinds long = absurd (omega (arith, long))
flattened_as (row ∷ rows) [] t kinds long = absurd (omega (arith, long))
flattened_as (Star ∷ rows) (dim.Flood ∷ dims) [] kinds long = refl
flattened_as (Star ∷ rows) (dim.Flood ∷ dims) (x ∷ t) kinds long =
    ap (λ u. pos 0 ∷ u) (flattened_as rows dims t kinds (omega (arith, long)))
flattened_as (Star ∷ rows) (dim.Range lo hi step align ∷ dims) t kinds long = absurd kinds
flattened_as (Range a b c e ∷ rows) (dim.Flood ∷ dims) t kinds long = absurd kinds
flattened_as (Range a b c e ∷ rows) (dim.Range lo hi step align ∷ dims) [] kinds long = refl
flattened_as (Range a b c e ∷ rows) (dim.Range lo hi step align ∷ dims) (x ∷ t) kinds long =
    ap (λ u. x ∷ u) (flattened_as rows dims t kinds (omega (arith, long)))

-- an element goes by the flattened tuple
by_flattened : (a : Array) (t : List ℤ) → IsArray a → has_place a.storage t ≡ true
    → element a t ≡ element a (flattened a.storage.dims t)
by_flattened a t is place =
    ap (λ b. element b t) (array_of-element a is)
    ∙ element-array_of a.storage (element a) t is.steps place

pub element_alike : (a : Array) (t u : List ℤ) → IsArray a → has_place a.storage t ≡ true
    → has_place a.storage u ≡ true → flattened a.storage.dims t ≡ flattened a.storage.dims u
    → element a t ≡ element a u
element_alike a t u is here there same =
    by_flattened a t is here ∙ (ap (element a) same ∙ sym (by_flattened a u is there))

-- a value of an array among stores
pub value_held : (stores : List Array) (array : ℕ) (store : Array) (t : List ℤ)
    → slice_get stores array ≡ Some store → value_at stores array t ≡ held_value t store
value_held stores array store t there = ap (λ o. option_and_then (held_value t) o) there

-- ---- one array: `whole` on the one side, and the stores of a processor on the other
module _ (code : Tables) (p array : ℕ) (row : ArrayRow) (store : Array)
    (there : slice_get code.arrays array ≡ Some row) (is_array : IsArray store)
    (alike : (own : Array) → IsStore code p row own → (t : List ℤ)
    → flattened own.storage.dims t ≡ flattened store.storage.dims t) where
  -- the place holds what the whole array has there
  abbrev pub Holding : List Array → List ℤ → Type 0
  Holding stores u = value_at stores array u ≡ Some (element store u)

  pub record IsFuller (stores next : List Array) : Type 0 where
    pub stores_are : AllZip (IsStore code p) code.arrays next
    pub same : (other : ℕ) → (array ≡ other → ⊥) → slice_get next other ≡ slice_get stores other
    pub keeps : (u : List ℤ) → has_place store.storage u ≡ true → Holding stores u → Holding next u
    pub own : (old : Array) → slice_get stores array ≡ Some old
        → (mine : Array) × (slice_get next array ≡ Some mine) × (mine.storage ≡ old.storage)

  pub record IsBrought (stores : List Array) (places : List (List ℤ)) : Type 0 where
    pub next : List Array
    pub is : with_values array places (map (element store) places) stores ≡ Some next
    pub fuller : IsFuller stores next
    pub here : Every (Holding next) places

  one_brought : (stores : List Array) (own : Array) (u : List ℤ)
      → AllZip (IsStore code p) code.arrays stores → slice_get stores array ≡ Some own
      → IsStore code p row own → has_place own.storage u ≡ true → has_place store.storage u ≡ true
      → (with_value stores array u (element store u)
      ≡ Some (slice_set stores array (updated own u (element store u))))
      × IsFuller stores (slice_set stores array (updated own u (element store u)))
      × Holding (slice_set stores array (updated own u (element store u))) u
  one_brought stores own u are mine is place whole_place =
      let v = element store u in
      let next = slice_set stores array (updated own u v) in
      let set : slice_get next array ≡ Some (updated own u v) = set_there stores array (updated own u v) own mine in (
        ap (λ o. option_map (slice_set stores array) (option_and_then (held_with u v) o)) mine
            ∙ ap (λ b. option_map (slice_set stores array) (where_held b (updated own u v))) place,
        record {
          stores_are = zip_set (IsStore code p) code.arrays stores array row (updated own u v) are there
              (record { filled = updated_is_array own u v is.filled; places = is.places });
          same = λ other apart. set_apart stores array other (updated own u v) apart;
          keeps = λ w whole_has old.
              let has_own = place_of_held w own (element store w) (sym (value_held stores array own w mine) ∙ old) in
              value_held next array (updated own u v) w set
              ∙ (held_there w (updated own u v) has_own
              ∙ ap Some (kept w has_own whole_has (element_of_held w own (element store w) (sym (value_held stores array own w mine) ∙ old))
              (tuple_cases (flattened own.storage.dims w) (flattened own.storage.dims u))));
          own = λ old e. (updated own u v, set, ap (λ (a : Array). a.storage) (let same : own ≡ old = some_is (sym mine ∙ e) in same));
        },
        value_held next array (updated own u v) u set
            ∙ (held_there u (updated own u v) place ∙ ap Some (updated_here own u v is.filled place)),
      )
    where
      some_is : {x y : Array} → Some x ≡ Some y → x ≡ y
      some_is e = cc

      kept : (w : List ℤ) → has_place own.storage w ≡ true → has_place store.storage w ≡ true
          → element own w ≡ element store w
          → (flattened own.storage.dims w ≡ flattened own.storage.dims u) ⊎ (flattened own.storage.dims w ≡ flattened own.storage.dims u → ⊥)
          → element (updated own u (element store u)) w ≡ element store w
      kept w has_own whole_has old (inl same) =
          element_alike (updated own u (element store u)) w u (updated_is_array own u (element store u) is.filled) has_own place same
          ∙ (updated_here own u (element store u) is.filled place
          ∙ element_alike store u w is_array whole_place whole_has
          (sym (alike own is u) ∙ (sym same ∙ alike own is w)))
      kept w has_own whole_has old (inr apart) =
          updated_elsewhere own u w (element store u) is.filled place has_own apart ∙ old

  pub nothing_brought : (stores : List Array) → AllZip (IsStore code p) code.arrays stores
      → IsFuller stores stores
  nothing_brought stores are = record {
    stores_are = are;
    same = λ other apart. refl;
    keeps = λ u place old. old;
    own = λ old e. (old, e, refl);
  }

  pub then_brought : (a b c : List Array) → IsFuller a b → IsFuller b c → IsFuller a c
  then_brought a b c first second = record {
    stores_are = second.stores_are;
    same = λ other apart. second.same other apart ∙ first.same other apart;
    keeps = λ u place old. second.keeps u place (first.keeps u place old);
    own = λ old e.
        let one = first.own old e in
        let two = second.own one.0 one.1 in
        (two.0, two.1, two.2 ∙ one.2);
  }

  -- all places of a piece, which are in the held box
  module _ (held : Region) (placed : (own : Array) → IsStore code p row own → own.storage ≡ held) where
    pub all_brought : (places : List (List ℤ)) (stores : List Array)
        → AllZip (IsStore code p) code.arrays stores
        → Every (λ u. (has_place held u ≡ true) × (has_place store.storage u ≡ true)) places
        → IsBrought stores places
    all_brought [] stores are has = record {
      next = stores;
      is = refl;
      fuller = nothing_brought stores are;
      here = tt;
    }
    all_brought (u ∷ places) stores are has =
        let found = zip_there (IsStore code p) code.arrays stores array row are there in
        let one = one_brought stores found.0 u are found.1 found.2
        (subst (λ (r : Region). has_place r u ≡ true) (sym (placed found.0 found.2)) has.0.0) has.0.1 in
        let rest = all_brought places (slice_set stores array (updated found.0 u (element store u))) one.1.stores_are has.1 in
        record {
          next = rest.next;
          is = ap (option_and_then (with_values array places (map (element store) places))) one.0 ∙ rest.is;
          fuller = then_brought stores (slice_set stores array (updated found.0 u (element store u))) rest.next one.1 rest.fuller;
          here = (rest.fuller.keeps u has.0.1 one.2, rest.here);
        }

  -- what a processor says of places that it has
  pub all_said : (stores : List Array) (places : List (List ℤ)) → Every (Holding stores) places
      → values_at stores array places ≡ Some (map (element store) places)
  all_said stores [] all = refl
  all_said stores (u ∷ places) all =
      ap (λ v. option_and_then (λ value. option_map (λ rest. value ∷ rest) (values_at stores array places)) v) all.0
      ∙ ap (λ vs. option_map (λ rest. element store u ∷ rest) vs) (all_said stores places all.1)
