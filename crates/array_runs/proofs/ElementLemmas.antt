-- Elements of arrays: what code reads is what the meaning reads.
use Rattle.std.proofs.Common.{◌≡◌, refl, sym, ◌∙◌, ap, subst, ℕ, Bool, true, false, ◌&&◌}
use Rattle.std.proofs.Common.{List, [], ◌∷◌, map, ℤ, Option, Some, inl, inr}
use Rattle.std.specs.Prelude.{option_and_then, slice_get, if◌then◌else◌}
use Rattle.std.specs.List.{list_all}
use Rattle.zpl_region.specs.declared.dims.Dim.{Dim}
use Rattle.zpl_region.specs.declared.dims.Dim.TheVariants.{Range, Flood}
use Rattle.zpl_region.specs.declared.regions.Region.{Region}
use Rattle.std.specs.Prelude.{All}
use Rattle.zpl_region.specs.Dim.{HasStep}
use Rattle.zpl_region.specs.Region.{IsMember, members, tuple_moved}
use Rattle.zpl_region.proofs.HullLemmas.{has_steps}
use Rattle.zpl_region.proofs.LawLemmas.{members_iff}
use Rattle.zpl_region.proofs.ListLemmas.{Among, Contains-from_among}
use Rattle.zpl_arrays.specs.Array.{Array, element, has_place}
use Rattle.zpl_arrays.specs.Reference.{is_reference}
use Rattle.array_puts.specs.of_zpl_meaning.Computed as mean
use Rattle.array_puts.specs.of_zpl_meaning.Store.{array_at}
use Rattle.array_puts.specs.of_zpl_meaning.Term as term
use Rattle.node_form.specs.declared.tables.Tables.{Tables}
use Rattle.node_form.specs.declared.arrays.ArrayDim.{ArrayDim}
use Rattle.node_form.specs.declared.arrays.ArrayDim.TheVariants as dims
use Rattle.node_form.specs.Expression.{Expression, words_of}
use Rattle.node_form.specs.Fits.{storage_dim}
use Rattle.node_form.specs.Value as flat
use Rattle.node_form.specs.Value.{Operands, tree_value, unmoved}
use Rattle.row_runs.specs.Straight.{Every}
use Rattle.lowering_runs.specs.of_grid_meaning.Place.{held_value, moved_by, value_at, where_held}
use Rattle.lowering_runs.specs.of_flat_form.Loop.{element_at}
use Rattle.lowering_runs.specs.of_flat_form.Right as right
use Rattle.lowering_runs.specs.of_flat_form.Right.{can_read, each_covers, has_places, may_read, reads_well}
use Rattle.lowering_runs.specs.of_flat_form.Whole.{Whole}
use Rattle.array_puts.proofs.of_normal_runs.PlaceLemmas.{moved_none}
use Rattle.lowering_runs.specs.of_zpl_lowering.Where.{Stored, Slotted, Where}
use Rattle.lowering_runs.specs.of_zpl_lowering.Slate as slate
use Rattle.lowering_runs.specs.of_zpl_lowering.Reference.{Reference, refer_to, referred, vector_over, is_unmoved}
use Rattle.lowering_runs.specs.of_zpl_lowering.Hoist.{element_code, neighbour_if, stored_element}
use Rattle.lowering_runs.specs.Seen.{Spot}
use Rattle.lowering_runs.specs.Stands.{IsCurrent}
use Rattle.array_puts.specs.Put.{IsSame, BothGive}
use Rattle.array_runs.specs.Reads.{EachCovers, IsShift}
use Rattle.array_runs.specs.Gates.{IsThere, lies, holds}
use Rattle.array_runs.proofs.PlaceLemmas.{reference_same}
use Rattle.array_runs.proofs.StoredLemmas.{IsFound, read_same, zeros_move}
use Rattle.array_runs.proofs.PartLemmas.{IsPart, IsStill, CanRead, operands, store}

-- ---- tests of rows, by storages

pub covers_row : (rows : List ArrayDim) (own : List Dim) → EachCovers (map storage_dim rows) own
    → each_covers rows own ≡ true
covers_row [] [] h = refl
covers_row [] (d ∷ own) h = refl
covers_row (row ∷ rows) [] h = refl
covers_row (dims.Star ∷ rows) (d ∷ own) h = covers_row rows own h.1
covers_row (dims.Range lo hi low high ∷ rows) (Flood ∷ own) h = absurd h.0
covers_row (dims.Range lo hi low high ∷ rows) (Range from to every base ∷ own) h =
    covers_row rows own h.1

pub all_members : (region : Region) (f : List ℤ → Bool) → All HasStep region.dims
    → ((t : List ℤ) → IsMember region t → f t ≡ true) → list_all f (members region) ≡ true
all_members region f steps h =
    each (members region) (λ t k. h t ((members_iff region t steps).0
    (Contains-from_among (members region) t k)))
  where
    each : (xs : List (List ℤ)) → ((t : List ℤ) → Among xs t → f t ≡ true) → list_all f xs ≡ true
    each [] h = refl
    each (x ∷ xs) h = ap (λ b. b && list_all f xs) (h x (inl refl)) ∙ each xs (λ y k. h y (inr k))

module _ (tables : Tables) (spots : List Spot) (w : Where) (line : ℕ) (now : Whole) (rank : ℕ)
    (over : Slotted) (current : IsCurrent now.slots rank over) (place : ℕ) (stored : Stored)
    (found : slice_get w.numbers.arrays place ≡ Some stored)
    (f : IsFound tables spots w.numbers.arrays now place stored)
    (covers : EachCovers stored.storage.dims current.region.dims) where
  abbrev region : Region
  region = current.region

  abbrev k : ℕ
  k = stored.array

  pub own_covers : EachCovers f.array.storage.dims region.dims
  own_covers = subst (λ (r : Region). EachCovers r.dims region.dims) (sym f.storage) covers

  -- it may be read with a vector, where it has all places
  pub can_with : (shift : List ℤ)
      → ((t : List ℤ) → IsMember region t → has_place f.array.storage (moved_by shift t) ≡ true)
      → can_read tables now region (record { array = k; shift = shift }) ≡ true
  can_with shift h =
      ap (λ o. reads_well o (slice_get now.stores k) region shift) f.in_tables
      ∙ ap (λ o. reads_well (Some f.row) o region shift) f.in_stores
      ∙ ap (λ b. (if b then each_covers f.row.dims region.dims
      else right.is_unmoved shift && right.matches f.row region) && has_places f.array region shift)
      f.kept
      ∙ ap (λ b. b && has_places f.array region shift)
      (covers_row f.row.dims region.dims
      (subst (λ (r : Region). EachCovers r.dims region.dims) (sym f.storage_row) covers))
      ∙ all_members region (λ t. has_place f.array.storage (moved_by shift t))
      (has_steps region.dims current.is.dims) h

  -- ---- one value

  plain : (t : List ℤ) (shift : List ℤ)
      → element_at now t [] k shift ≡ value_at now.stores k (moved_by shift t)
  plain t shift = choice (right.is_unmoved shift) (value_at now.stores k (moved_by shift t))
    where
      choice : (c : Bool) (v : Option ℤ) → (if c then v else v) ≡ v
      choice true v = refl
      choice false v = refl

  held_at : (u : List ℤ) → has_place f.array.storage u ≡ true
      → value_at now.stores k u ≡ Some (element f.array u)
  held_at u h =
      ap (λ o. option_and_then (held_value u) o) f.in_stores
      ∙ ap (λ b. where_held b (element f.array u)) h

  pub element_value : (cells t shift : List ℤ) → has_place f.array.storage (moved_by shift t) ≡ true
      → tree_value (operands tables spots w line now rank over current cells t) (element_code k shift)
      ≡ flat.Gives (element f.array (moved_by shift t))
  element_value cells t shift h = by (is_unmoved shift) refl
    where
      by : (b : Bool) → is_unmoved shift ≡ b
          → tree_value (operands tables spots w line now rank over current cells t)
          (neighbour_if b k shift) ≡ flat.Gives (element f.array (moved_by shift t))
      by true e =
          ap flat.read (plain t unmoved
          ∙ ap (value_at now.stores k) (moved_none t ∙ sym (zeros_move shift t e))
          ∙ held_at (moved_by shift t) h)
      by false e = ap flat.read (plain t shift ∙ held_at (moved_by shift t) h)

  -- ---- a read as a part

  module _ (d : List ℤ) (is_shift : IsShift region.rank d) where
    abbrev shift : List ℤ
    shift = vector_over stored.storage d

    abbrev ref : Reference
    ref = record { slot = over.slot; array = k; shift = shift }

    abbrev one : slate.Slate
    one = slate.Element over.slot place d

    refs_are : referred w.numbers one ≡ ref ∷ []
    refs_are = ap (refer_to over.slot d) found

    right_true : (b : Bool) → (b && true) ≡ b
    right_true true = refl
    right_true false = refl

    pub holds_is : holds tables now ref ≡ is_reference d region f.array.storage
    holds_is =
        ap (λ o. lies shift o (slice_get tables.arrays k)) current.found
        ∙ ap (lies shift (Some region)) f.in_tables
        ∙ ap (is_reference shift region) f.storage_row
        ∙ reference_same region stored.storage d is_shift
        ∙ ap (is_reference d region) (sym f.storage)

    pub ref_there : IsThere tables now ref
    ref_there =
        record { region = region; row = f.row; in_slot = current.found; in_tables = f.in_tables }

    pub holding_is : list_all (holds tables now) (referred w.numbers one)
        ≡ is_reference d region f.array.storage
    holding_is =
        ap (list_all (holds tables now)) refs_are ∙ right_true (holds tables now ref) ∙ holds_is

    read : is_reference d region f.array.storage ≡ true → (t : List ℤ) → IsMember region t
        → (has_place f.array.storage (moved_by shift t) ≡ true)
        × (element f.array (moved_by shift t) ≡ element f.array (tuple_moved d region t))
    read e t m =
        subst (λ (r : Region). (has_place f.array.storage (moved_by (vector_over r d) t) ≡ true)
        × (element f.array (moved_by (vector_over r d) t) ≡ element f.array (tuple_moved d region t)))
        f.storage
        (read_same f.array region current.is current.three f.boxed f.three own_covers d is_shift e t m)

    words_read : is_reference d region f.array.storage ≡ true
        → Every (CanRead tables spots w line now rank over current) (words_of (element_code k shift))
    words_read e = by (is_unmoved shift) refl
      where
        by : (b : Bool) → is_unmoved shift ≡ b
            → Every (CanRead tables spots w line now rank over current)
            (words_of (neighbour_if b k shift))
        by true q = (
          right_true (can_read tables now region (record { array = k; shift = unmoved }))
              ∙ can_with unmoved (λ t m.
              ap (has_place f.array.storage) (moved_none t ∙ sym (zeros_move shift t q))
              ∙ (read e t m).0),
          tt,
        )
        by false q = (
          right_true (can_read tables now region (record { array = k; shift = shift }))
              ∙ can_with shift (λ t m. (read e t m).0),
          tt,
        )

    pub element_part : IsPart tables spots w line now rank over current one
        (term.Element region place d) (element_code k shift)
    element_part = record {
      conforming_is = refl;
      conformed = refl;
      hoists = λ free.
          subst (λ (o : Option Stored). IsStill Expression (stored_element o d)
          (element_code k shift)) (sym found)
          (record { left_is = refl; scalars = refl; temps = refl; still = λ tables n whole. refl });
      there = subst (λ (rs : List Reference). Every (IsThere tables now) rs) (sym refs_are)
          (ref_there, tt);
      gate = holding_is ∙ ap (λ (a : Array). is_reference d region a.storage) (sym f.seen);
      field = λ t. mean.Gives (element (array_at (store tables spots w line now rank over current)
          place) (tuple_moved d region t));
      fielded = refl;
      values = λ e cells t m.
          let r = read (sym holding_is ∙ e) t m in
          subst (λ (c : flat.Computed ℤ). IsSame (mean.Gives (element
          (array_at (store tables spots w line now rank over current) place)
          (tuple_moved d region t))) c)
          (sym (element_value cells t shift r.0 ∙ ap (λ v. flat.Gives v) r.1))
          (subst (λ (a : Array). IsSame (mean.Gives (element a (tuple_moved d region t)))
          (flat.Gives (element f.array (tuple_moved d region t)))) (sym f.seen) BothGive);
      reads = λ e. words_read (sym holding_is ∙ e);
    }
