-- Arrays set at the tuples of a region, on the whole and on all processors.
use Rattle.std.proofs.Common.{◌≡◌, ◌⊎◌, refl, sym, ◌∙◌, ap, subst, inl, inr, ℕ, ◌<◌, Bool, true, false, true≢false, List, ℤ, length, All, Some}
use Rattle.zpl_region.specs.declared.regions.Region.{Region}
use Rattle.zpl_region.specs.Dim.{HasStep}
use Rattle.zpl_region.specs.Region.{members}
use Rattle.zpl_region.proofs.ListLemmas.{Among}
use Rattle.zpl_arrays.specs.Array.{Array, IsArray, element, flattened, has_place}
use Rattle.node_form.specs.declared.arrays.ArrayRow.{ArrayRow}
use Rattle.node_form.specs.declared.tables.Tables.{Tables}
use Rattle.grid_meaning.specs.Delivery.{replaced}
use Rattle.grid_meaning.specs.Local.{processors}
use Rattle.grid_meaning.specs.Owner.{tuples_of}
use Rattle.grid_meaning.specs.Place.{held_value}
use Rattle.grid_meaning.specs.State.{ArePlaces}
use Rattle.grid_meaning.specs.Stored.{no_places}
use Rattle.flat_form.specs.Right.{matches}
use Rattle.flat_form.specs.States.{IsStoreOf}
use Rattle.flat_form.specs.Whole.{Whole}
use Rattle.plan_orders.specs.of_plan_meaning.Abreast.{Abreast}
use Rattle.needs_runs.specs.Agree.{HasLayout}
use Rattle.needs_runs.specs.Holds.{HasFloodsOf, HasPart, Holds, lies_in_own}
use Rattle.needs_runs.proofs.BringLemmas.{element_alike}
use Rattle.needs_runs.proofs.FlatLemmas.{fit, flat_of, floods_of, matching_flat, mine_flat, whole_flat}
use Rattle.needs_runs.proofs.PlaceLemmas.{element_of_held, held_there, place_of_held}
use Rattle.needs_runs.proofs.RoomRows.{IsSet, all_get}
use Rattle.needs_runs.proofs.SlotLemmas.{zip_there}
use Rattle.message_runs.proofs.FlatLemmas.{IsWritable, in_own, lies_there, member_flat, member_place, of_region, place_alike}
use Rattle.message_runs.proofs.WorkLemmas.{mine, mine_is, mine_there}
use Rattle.message_runs.proofs.WriteLemmas.{IsAt, written, written_array, written_is, written_storage}

some_is : {X : Type 0} {x y : X} → Some x ≡ Some y → x ≡ y
some_is e = cc

module _ (code : Tables) (layout : HasLayout code) (whole : Whole) (all : Abreast)
    (holds : Holds code whole all) (array : ℕ) (dest : Region)
    (writes : IsWritable code whole dest array) (ranked : dest.rank ≡ writes.row.rank)
    (long : length dest.dims ≡ length writes.row.dims) (steps : All HasStep dest.dims) where
  abbrev row : ArrayRow
  row = writes.row

  abbrev store : Array
  store = writes.store

  abbrev pub flat : List ℤ → List ℤ
  flat t = flat_of row t

  abbrev pub own_mine : ℕ → Array
  own_mine p = mine code whole all holds array row writes.there p

  pub store_is : IsArray store
  store_is = all_get IsArray whole.stores array store holds.arrays writes.here

  floods_are : HasFloodsOf row store
  floods_are = floods_of code whole all holds array row store writes.there writes.here

  pub mine_at : (p : ℕ) → p < processors code → (t : List ℤ) → lies_in_own code p row t ≡ true
      → has_place store.storage t ≡ true → held_value t (own_mine p) ≡ Some (element store t)
  mine_at p below t lies place =
      ((holds.own p below).arrays array row store (own_mine p) writes.there writes.here
      (mine_there code whole all holds array row writes.there p below)).has t (element store t)
      lies (held_there t store place)

  pub dest_member : (p : ℕ) (t : List ℤ) → Among (tuples_of code p dest) t → Among (members dest) t
  dest_member p t among = of_region code row dest ranked long writes.match p t among

  pub tuple_place : (p : ℕ) → p < processors code → (t : List ℤ) → Among (tuples_of code p dest) t
      → has_place (own_mine p).storage t ≡ true
  tuple_place p below t among =
      place_of_held t (own_mine p) (element store t)
      (mine_at p below t (lies_there code row dest ranked long writes.match p t among)
      (writes.places t (dest_member p t among)))

  pub mine_array : (p : ℕ) → p < processors code → IsArray (own_mine p)
  mine_array p below = (mine_is code whole all holds array row writes.there p below).filled

  pub mine_alike : (p : ℕ) → p < processors code → (u : List ℤ)
      → has_place (own_mine p).storage u ≡ true → (t : List ℤ)
      → flattened (own_mine p).storage.dims t ≡ flat t
  mine_alike p below u place t =
      mine_flat code layout array row writes.there p below (own_mine p)
      (mine_is code whole all holds array row writes.there p below) u place t

  pub is_flat : (t : List ℤ) → Among (members dest) t → flat t ≡ t
  is_flat t among = member_flat code row dest ranked long writes.match steps t among

  module _ (value : List ℤ → ℤ) (final : ℕ → Array) where
    abbrev pub new : Array
    new = written replaced value (members dest) store

    -- a processor's array has the value at each tuple in its own block, and elsewhere what it had
    pub record IsFinal : Type 0 where
      pub storage : (p : ℕ) → (final p).storage ≡ (own_mine p).storage
      pub is_array : (p : ℕ) → p < processors code → IsArray (final p)
      pub sets : (p : ℕ) → p < processors code → (u : List ℤ) → Among (tuples_of code p dest) u
          → element (final p) u ≡ value u
      pub keeps : (p : ℕ) → p < processors code → (t : List ℤ)
          → has_place (own_mine p).storage t ≡ true
          → ((u : List ℤ) → Among (tuples_of code p dest) u → flat u ≡ flat t → ⊥)
          → element (final p) t ≡ element (own_mine p) t

    module _ (is : IsFinal) where
      -- both sides have this value there
      record Both (p : ℕ) (t : List ℤ) : Type 0 where
        v : ℤ
        whole_is : element new t ≡ v
        own_is : element (final p) t ≡ v

      module _ (p : ℕ) (below : p < processors code) (t : List ℤ)
          (lies : lies_in_own code p row t ≡ true) (place : has_place store.storage t ≡ true) where
        old : held_value t (own_mine p) ≡ Some (element store t)
        old = mine_at p below t lies place

        mine_place : has_place (own_mine p).storage t ≡ true
        mine_place = place_of_held t (own_mine p) (element store t) old

        final_place : (u : List ℤ) → has_place (own_mine p).storage u ≡ true
            → has_place (final p).storage u ≡ true
        final_place u has =
            subst (λ (r : Region). has_place r u ≡ true) (sym (is.storage p)) has

        new_is : (v : ℤ) → ((u : List ℤ) → Among (members dest) u → flat u ≡ flat t → value u ≡ v)
            → (element store t ≡ v) ⊎ IsAt flat (members dest) t → element new t ≡ v
        new_is v each given =
            written_is flat value t v (members dest) store store_is
            (whole_flat row store (fit code layout array row writes.there) floods_are t place)
            writes.places place each given

        both : (b : Bool) → has_place dest t ≡ b → Both p t
        both false e = record {
          v = element store t;
          whole_is = new_is (element store t) (λ u among same. absurd (none u among same)) (inl refl);
          own_is = is.keeps p below t mine_place (λ u among. none u (dest_member p u among))
              ∙ element_of_held t (own_mine p) (element store t) old;
        }
          where
            none : (u : List ℤ) → Among (members dest) u → flat u ≡ flat t → ⊥
            none u among same =
                true≢false (sym (place_alike code row dest ranked long writes.match u t same
                (member_place code row dest ranked long writes.match steps u among)) ∙ e)
        both true e = record {
          v = value u;
          whole_is = new_is (value u) only
              (inr (record { t = u; among = dest_member p u tuple; same = same }));
          own_is = element_alike (final p) t u (is.is_array p below) (final_place t mine_place)
              (final_place u (tuple_place p below u tuple))
              (ap (λ (r : Region). flattened r.dims t) (is.storage p)
              ∙ (mine_alike p below t mine_place t
              ∙ (sym same
              ∙ (sym (mine_alike p below t mine_place u)
              ∙ sym (ap (λ (r : Region). flattened r.dims u) (is.storage p))))))
              ∙ is.sets p below u tuple;
        }
          where
            u : List ℤ
            u = flattened dest.dims t

            tuple : Among (tuples_of code p dest) u
            tuple = in_own code row dest ranked long writes.match steps p t lies e

            same : flat u ≡ flat t
            same = is_flat u (dest_member p u tuple) ∙ matching_flat row dest writes.match long t

            only : (w : List ℤ) → Among (members dest) w → flat w ≡ flat t → value w ≡ value u
            only w among alike =
                ap value (sym (is_flat w among)
                ∙ (alike ∙ sym (matching_flat row dest writes.match long t)))

      part_is : (p : ℕ) → p < processors code → HasPart code p row new (final p)
      part_is p below = record {
        has = λ t w lies held.
            let place : has_place store.storage t ≡ true =
            subst (λ (r : Region). has_place r t ≡ true)
            (written_storage replaced value (members dest) store) (place_of_held t new w held) in
            let two = both p below t lies place (has_place dest t) refl in
            held_there t (final p) (final_place p below t lies place t (mine_place p below t lies place))
            ∙ ap Some (two.own_is ∙ (sym two.whole_is ∙ element_of_held t new w held));
      }

      new_array : IsArray new
      new_array = written_array replaced value (members dest) store store_is

      pub final_set : IsSet code whole all holds array row new final
      final_set = record {
        there = writes.there;
        is_array = new_array;
        whole_is =
            let found = zip_there IsStoreOf code.arrays whole.stores array row holds.is_whole.stores
            writes.there in
            let old : IsStoreOf row store =
            subst (IsStoreOf row) (some_is (sym found.1 ∙ writes.here)) found.2 in
            record {
              filled = new_array.filled;
              placed = λ told.
                  written_storage replaced value (members dest) store ∙ old.placed told;
            };
        floods =
            subst (λ (r : Region). (r ≡ no_places row.rank)
            ⊎ ((length r.dims ≡ length row.dims) × (matches row r ≡ true)))
            (sym (written_storage replaced value (members dest) store)) floods_are;
        own_is = λ p below. record {
          filled = is.is_array p below;
          places = subst (ArePlaces code p row row.stored) (sym (is.storage p))
              (mine_is code whole all holds array row writes.there p below).places;
        };
        part = part_is;
      }
