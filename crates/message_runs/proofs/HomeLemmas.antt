-- Who owns a tuple of a stored array without flood dimension has its value.
use Rattle.std.proofs.Common.{◌≡◌, refl, sym, ◌∙◌, ap, subst, ℕ, ◌<◌, Bool, true, false, List, [], ◌∷◌, ℤ, pos, length, map, All, Some, arith, eqb-true}
use Rattle.std.specs.Prelude.{slice_get}
use Rattle.std.specs.List.{AllZip}
use Rattle.std.proofs.lemmas.Int.{ints}
use Rattle.std.proofs.lemmas.List.{length-map}
use Rattle.std.proofs.lemmas.List.Elements.{All-cons, All-head, All-nil, All-tail}
use Rattle.zpl_region.specs.declared.dims.Dim.TheVariants as dim
use Rattle.zpl_region.specs.declared.regions.Region.{Region}
use Rattle.zpl_region.specs.Dim.{HasStep, IsCoordinate}
use Rattle.zpl_region.specs.Region.{members}
use Rattle.zpl_region.proofs.LawLemmas.{members_iff}
use Rattle.zpl_region.proofs.ListLemmas.{Among, among_from_Contains}
use Rattle.zpl_arrays.specs.Array.{Array, element, flattened, has_place}
use Rattle.zpl_arrays.proofs.ArrayLemmas.{element_outside, flattened_member}
use Rattle.node_form.specs.declared.arrays.ArrayDim.{ArrayDim}
use Rattle.node_form.specs.declared.arrays.ArrayDim.TheVariants.{Range, Star}
use Rattle.node_form.specs.declared.arrays.ArrayRow.{ArrayRow}
use Rattle.node_form.specs.declared.tables.Tables.{Tables}
use Rattle.node_form.specs.Fits.{IsRange, storage_dim, storage_of}
use Rattle.grid_meaning.specs.Local.{processors}
use Rattle.grid_meaning.specs.Owner.{owner_for, tuples_of}
use Rattle.grid_meaning.specs.Place.{value_at}
use Rattle.grid_meaning.specs.Remap.{home, home_where, is_none, is_number}
use Rattle.grid_meaning.specs.State.{IsSlot}
use Rattle.grid_meaning.proofs.BoxLemmas.{box_is}
use Rattle.flat_form.specs.Right.{each_matches}
use Rattle.flat_form.specs.States.{IsStoreOf}
use Rattle.flat_form.specs.Whole.{Whole}
use Rattle.plan_orders.specs.of_plan_meaning.Abreast.{Abreast}
use Rattle.needs_runs.specs.Agree.{HasLayout}
use Rattle.needs_runs.specs.Holds.{Holds}
use Rattle.needs_runs.proofs.BringLemmas.{value_held}
use Rattle.needs_runs.proofs.FlatLemmas.{are_blocks, fit, three}
use Rattle.needs_runs.proofs.HoldsLemmas.{some_processors}
use Rattle.needs_runs.proofs.PlaceLemmas.{held_there}
use Rattle.needs_runs.proofs.SlotLemmas.{zip_there}
use Rattle.message_runs.proofs.FlatLemmas.{lies_there}
use Rattle.message_runs.proofs.OwnerLemmas.{owner_below, owner_has}
use Rattle.message_runs.proofs.WorkLemmas.{mine, mine_there}

storage_steps : (rows : List ArrayDim) → All HasStep (map storage_dim rows)
storage_steps [] = All-nil HasStep
storage_steps (Star ∷ rows) = All-cons HasStep dim.Flood (map storage_dim rows) tt (storage_steps rows)
storage_steps (Range a b c d ∷ rows) =
    All-cons HasStep (dim.Range a b (pos 1) a) (map storage_dim rows) (omega (arith, ints))
    (storage_steps rows)

storage_matches : (rows : List ArrayDim) → each_matches rows (map storage_dim rows) ≡ true
storage_matches [] = refl
storage_matches (Star ∷ rows) = storage_matches rows
storage_matches (Range a b c d ∷ rows) = storage_matches rows

-- without flood dimension a tuple with a place is a member
range_flat : (rows : List ArrayDim) (t : List ℤ) → All IsRange rows
    → flattened (map storage_dim rows) t ≡ t
range_flat [] t all = refl
range_flat (Star ∷ rows) t all = absurd (All-head IsRange Star rows all)
range_flat (Range a b c d ∷ rows) [] all = refl
range_flat (Range a b c d ∷ rows) (x ∷ t) all =
    ap (λ rest. x ∷ rest) (range_flat rows t (All-tail IsRange (Range a b c d) rows all))

some_is : {X : Type 0} {x y : X} → Some x ≡ Some y → x ≡ y
some_is e = cc

-- what is at home with a processor
pub home_is : (code : Tables) (row : ArrayRow) (x : List ℤ) (p : ℕ)
    → is_number (home code (storage_of row) x) p ≡ true
    → (has_place (storage_of row) x ≡ true) × (owner_for code (storage_of row) 0 x ≡ p)
home_is code row x p = by (has_place (storage_of row) x)
  where
    by : (b : Bool) → is_number (home_where b (owner_for code (storage_of row) 0 x)) p ≡ true
        → (b ≡ true) × (owner_for code (storage_of row) 0 x ≡ p)
    by true e = (refl, eqb-true (owner_for code (storage_of row) 0 x) p e)
    by false e = cc

pub no_home : (code : Tables) (row : ArrayRow) (x : List ℤ)
    → is_none (home code (storage_of row) x) ≡ true → has_place (storage_of row) x ≡ false
no_home code row x = by (has_place (storage_of row) x)
  where
    by : (b : Bool) → is_none (home_where b (owner_for code (storage_of row) 0 x)) ≡ true
        → b ≡ false
    by true e = cc
    by false e = refl

module _ (code : Tables) (layout : HasLayout code) (whole : Whole) (all : Abreast)
    (holds : Holds code whole all) (array : ℕ) (row : ArrayRow) (store : Array)
    (there : slice_get code.arrays array ≡ Some row)
    (here : slice_get whole.stores array ≡ Some store) (told : row.stored ≡ true)
    (plain : All IsRange row.dims) where
  abbrev storage : Region
  storage = storage_of row

  store_storage : store.storage ≡ storage
  store_storage =
      let found = zip_there IsStoreOf code.arrays whole.stores array row holds.is_whole.stores there in
      let old : IsStoreOf row store = subst (IsStoreOf row) (some_is (sym found.1 ∙ here)) found.2 in
      old.placed told

  long : length storage.dims ≡ length row.dims
  long = length-map row.dims storage_dim

  its_slot : IsSlot row.rank storage
  its_slot = record {
    ranked = refl;
    many = long ∙ three code layout array row there;
    fits = record {
      rank = (fit code layout array row there).rank;
      steps = storage_steps row.dims;
      padded = (box_is row (three code layout array row there) told (fit code layout array row there)).region.padded;
      limit = (fit code layout array row there).limit told;
    };
  }

  pub home_below : (p : ℕ) (x : List ℤ) → is_number (home code storage x) p ≡ true
      → p < processors code
  home_below p x at_home =
      subst (λ q. q < processors code) (home_is code row x p at_home).1
      (owner_below code (are_blocks code layout array row there) row.rank storage its_slot 0
      (some_processors code) x)

  -- outside the storage the value is 0
  pub outside_is : (x : List ℤ) → is_none (home code storage x) ≡ true → element store x ≡ pos 0
  outside_is x none =
      element_outside store x
      (subst (λ (r : Region). has_place r x ≡ false) (sym store_storage) (no_home code row x none))

  -- and inside its owner has it
  pub home_value : (p : ℕ) → p < processors code → (x : List ℤ)
      → is_number (home code storage x) p ≡ true
      → value_at (all.shares p).stores array x ≡ Some (element store x)
  home_value p below x at_home =
      let is = home_is code row x p at_home in
      let member : Among (members storage) x =
      among_from_Contains (members storage) x ((members_iff storage x (storage_steps row.dims)).1
      (subst (AllZip IsCoordinate storage.dims) (range_flat row.dims x plain)
      (flattened_member storage.dims x (storage_steps row.dims) is.0))) in
      let owned : Among (tuples_of code p storage) x =
      subst (λ q. Among (tuples_of code q storage) x) is.1
      (owner_has code (are_blocks code layout array row there) row.rank storage its_slot 0
      (some_processors code) x member) in
      let its = mine code whole all holds array row there p in
      value_held (all.shares p).stores array its x
      (mine_there code whole all holds array row there p below)
      ∙ ((holds.own p below).arrays array row store its there here
      (mine_there code whole all holds array row there p below)).has x (element store x)
      (lies_there code row storage refl long (storage_matches row.dims) p x owned)
      (held_there x store (subst (λ (r : Region). has_place r x ≡ true) (sym store_storage) is.0))
