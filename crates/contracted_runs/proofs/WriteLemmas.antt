-- What a unit has written at all tuples: an array that is a cell's has at each tuple what was put
-- there last, and all else is as where the cell takes its place.
use Rattle.std.proofs.Common.{◌≡◌, refl, sym, ◌∙◌, ap, subst, ℕ, Bool}
use Rattle.std.proofs.Common.{true, false, true≢false, List, [], ◌∷◌, map, ℤ, Option, Some}
use Rattle.std.proofs.Common.{None, eqb-true, inl, inr}
use Rattle.std.specs.Prelude.{◌==◌, if◌then◌else◌, option_and_then, slice_get, slice_set, ⊤}
use Rattle.std.specs.Option.{option_map}
use Rattle.zpl_nums.specs.declared.folds.Fold.{Fold}
use Rattle.zpl_nums.specs.Fold.{joined}
use Rattle.zpl_region.specs.declared.regions.Region.{Region}
use Rattle.zpl_region.proofs.ListLemmas.{Among}
use Rattle.zpl_arrays.specs.Array.{Array, IsArray, element, flattened, has_place, updated}
use Rattle.zpl_arrays.proofs.ArrayLemmas.{updated_elsewhere, updated_here, updated_is_array}
use Rattle.row_runs.specs.Straight.{Every}
use Rattle.node_form.specs.declared.tables.Tables.{Tables}
use Rattle.node_form.specs.declared.touches.Thing.{Thing}
use Rattle.node_form.specs.declared.touches.Thing.TheVariants as thing
use Rattle.node_form.specs.Value.{unmoved}
use Rattle.grid_meaning.specs.Place.{held_value, held_with, moved_by, value_at, where_held}
use Rattle.normal_runs.specs.of_flat_form.Loop.{Column, Joins, Log, Point, Puts, Write, all_written, log_written}
use Rattle.normal_runs.specs.of_flat_form.Loop.{logged, written}
use Rattle.normal_runs.specs.of_flat_form.Whole.{Whole}
use Rattle.normal_runs.proofs.of_flat_form.AgreeLemmas.{Agree}
use Rattle.normal_runs.proofs.of_flat_form.AgreeLemmas.{set_scalar, set_store}
use Rattle.normal_runs.proofs.PlaceLemmas.{Apart, moved_none, set_apart, set_there}
use Rattle.contracted_runs.proofs.PointLemmas.{IsOther, differ, drop_if, other_array, same_number}
use Rattle.contracted_runs.proofs.PointLemmas.{without}

-- ---- an array with a place of its own for each of some tuples
pub record IsPlaced (ts : List (List ℤ)) (store : Array) : Type 0 where
  pub is_array : IsArray store
  pub has : Every (λ t. has_place store.storage t ≡ true) ts
  pub flat : Every (λ t. flattened store.storage.dims t ≡ t) ts

-- the value of an array at a tuple
abbrev pub value_of_array : Whole → ℕ → List ℤ → Option ℤ
value_of_array s array t = value_at s.stores array (moved_by unmoved t)

module _ (array : ℕ) (ts : List (List ℤ)) where
  pub record Has (s : Whole) : Type 0 where
    pub store : Array
    pub there : slice_get s.stores array ≡ Some store
    pub placed : IsPlaced ts store

  value_there : (s : Whole) (store : Array) (t : List ℤ)
      → slice_get s.stores array ≡ Some store → has_place store.storage t ≡ true
      → value_of_array s array t ≡ Some (element store t)
  value_there s store t there has =
      ap (value_at s.stores array) (moved_none t)
      ∙ (ap (λ o. option_and_then (held_value t) o) there
      ∙ ap (λ b. where_held b (element store t)) has)

  -- ---- one write
  record IsWritten (u : List ℤ) (write : Write) (s next : Whole) : Type 0 where
    has : Has next
    own : value_of_array next array u ≡ logged (write ∷ []) array (value_of_array s array u)
    elsewhere : (t : List ℤ) → (t ≡ u → ⊥)
        → (store : Array) → slice_get s.stores array ≡ Some store
        → has_place store.storage t ≡ true → flattened store.storage.dims t ≡ t
        → value_of_array next array t ≡ value_of_array s array t

  some_is : {X : Type 0} {x y : X} → Some x ≡ Some y → x ≡ y
  some_is e = cc

  put_here : (u : List ℤ) (v : ℤ) (s : Whole) (has : Has s) → has_place has.store.storage u ≡ true
      → flattened has.store.storage.dims u ≡ u
      → IsWritten u (Puts array v) s
      (record s { stores = slice_set s.stores array (updated has.store u v) })
  put_here u v s has place flat =
      let next = record s { stores = slice_set s.stores array (updated has.store u v) } in
      let there : slice_get next.stores array ≡ Some (updated has.store u v) =
      set_there s.stores array (updated has.store u v) has.store has.there in
      record {
        has = record {
          store = updated has.store u v;
          there = there;
          placed = record {
            is_array = updated_is_array has.store u v has.placed.is_array;
            has = has.placed.has;
            flat = has.placed.flat;
          };
        };
        own = value_there next (updated has.store u v) u there place
            ∙ (ap Some (updated_here has.store u v has.placed.is_array place)
            ∙ sym (ap (λ b. if b then Some v else value_of_array s array u) (same_number array)));
        elsewhere = λ t apart store is fine flat_t.
            let same : has.store ≡ store = some_is (sym has.there ∙ is) in
            let fine_here : has_place has.store.storage t ≡ true =
            subst (λ (a : Array). has_place a.storage t ≡ true) (sym same) fine in
            let flat_here : flattened has.store.storage.dims t ≡ t =
            subst (λ (a : Array). flattened a.storage.dims t ≡ t) (sym same) flat_t in
            value_there next (updated has.store u v) t there fine_here
            ∙ (ap Some (updated_elsewhere has.store u t v has.placed.is_array place fine_here
            (λ e. apart (sym flat_here ∙ (e ∙ flat))))
            ∙ sym (value_there s has.store t has.there fine_here));
      }

  put_other : (u : List ℤ) (v : ℤ) (s : Whole) (other : ℕ) (store : Array) → Has s
      → (other ≡ array → ⊥)
      → IsWritten u (Puts other v) s (record s { stores = slice_set s.stores other store })
  put_other u v s other store has apart =
      let next = record s { stores = slice_set s.stores other store } in
      let same : slice_get next.stores array ≡ slice_get s.stores array =
      set_apart s.stores other array store apart in
      let values : (t : List ℤ) → value_of_array next array t ≡ value_of_array s array t =
      λ t. ap (λ o. option_and_then (held_value (moved_by unmoved t)) o) same in
      record {
        has = record { store = has.store; there = same ∙ has.there; placed = has.placed };
        own = values u
            ∙ sym (ap (λ b. if b then Some v else value_of_array s array u)
            (differ other array apart));
        elsewhere = λ t far old is fine flat. values t;
      }

  join_written : (u : List ℤ) (scalar : ℕ) (operator : Fold) (v own : ℤ) (s : Whole) → Has s
      → IsWritten u (Joins scalar operator v) s
      (record s { scalars = slice_set s.scalars scalar (joined operator own v) })
  join_written u scalar operator v own s has = record {
    has = record { store = has.store; there = has.there; placed = has.placed };
    own = refl;
    elsewhere = λ t far old is fine flat. refl;
  }

  -- where it succeeds
  is_written : (u : List ℤ) (write : Write) (s next : Whole) (has : Has s)
      → has_place has.store.storage u ≡ true → flattened has.store.storage.dims u ≡ u
      → written u write s ≡ Some next → IsWritten u write s next
  is_written u (Puts other v) s next has place flat e =
      by (other == array) refl (slice_get s.stores other) refl e
    where
      by_place : (store : Array) (b : Bool) → (t : Bool) → (other == array) ≡ t
          → slice_get s.stores other ≡ Some store
          → option_map (λ (stores : List Array). record s { stores = stores })
          (option_map (slice_set s.stores other) (where_held b (updated store u v))) ≡ Some next
          → IsWritten u (Puts other v) s next
      by_place store false t is there e = cc
      by_place store true true is there e =
          let number : other ≡ array = eqb-true other array is in
          let same : store ≡ has.store =
          some_is (sym there ∙ (ap (slice_get s.stores) number ∙ has.there)) in
          subst (IsWritten u (Puts other v) s) (some_is e)
          (subst (λ k. IsWritten u (Puts k v) s
          (record s { stores = slice_set s.stores k (updated store u v) })) (sym number)
          (subst (λ (a : Array). IsWritten u (Puts array v) s
          (record s { stores = slice_set s.stores array (updated a u v) })) (sym same)
          (put_here u v s has place flat)))
      by_place store true false is there e =
          subst (IsWritten u (Puts other v) s) (some_is e)
          (put_other u v s other (updated store u v) has
          (λ same. true≢false (sym (same_number other)
          ∙ (ap (λ k. other == k) same ∙ is))))

      by : (t : Bool) → (other == array) ≡ t → (found : Option Array)
          → slice_get s.stores other ≡ found
          → option_map (λ (stores : List Array). record s { stores = stores })
          (option_map (slice_set s.stores other) (option_and_then (held_with u v) found))
          ≡ Some next → IsWritten u (Puts other v) s next
      by t is None there e = cc
      by t is (Some store) there e =
          by_place store (has_place store.storage u) t is there e
  is_written u (Joins scalar operator v) s next has place flat e =
      by (slice_get s.scalars scalar) e
    where
      by : (own : Option ℤ) → option_map
          (λ own. record s { scalars = slice_set s.scalars scalar (joined operator own v) }) own
          ≡ Some next → IsWritten u (Joins scalar operator v) s next
      by None e = cc
      by (Some own) e =
          subst (IsWritten u (Joins scalar operator v) s) (some_is e)
          (join_written u scalar operator v own s has)

  -- ---- what a tuple has written
  every_at : (P : List ℤ → Type 0) (us : List (List ℤ)) (t : List ℤ) → Every P us → Among us t → P t
  every_at P [] t all k = absurd k
  every_at P (u ∷ us) t all (inl same) = subst P same all.0
  every_at P (u ∷ us) t all (inr k) = every_at P us t all.1 k

  record IsLogged (u : List ℤ) (log : Log) (s next : Whole) : Type 0 where
    has : Has next
    own : value_of_array next array u ≡ logged log array (value_of_array s array u)
    elsewhere : (t : List ℤ) → Among ts t → (t ≡ u → ⊥)
        → value_of_array next array t ≡ value_of_array s array t

  one_more : (write : Write) (log : Log) (value : Option ℤ)
      → logged (write ∷ []) array (logged log array value) ≡ logged (write ∷ log) array value
  one_more (Puts other v) log value = refl
  one_more (Joins scalar operator v) log value = refl

  then_logged : (u : List ℤ) (write : Write) (log : Log) (s between next : Whole) → Among ts u
      → Has s → IsLogged u log s between → written u write between ≡ Some next
      → IsLogged u (write ∷ log) s next
  then_logged u write log s between next inside has before e =
      let one = is_written u write between next before.has
      (every_at (λ t. has_place before.has.store.storage t ≡ true) ts u before.has.placed.has
      inside)
      (every_at (λ t. flattened before.has.store.storage.dims t ≡ t) ts u before.has.placed.flat
      inside) e in
      record {
        has = one.has;
        own = one.own
            ∙ (ap (logged (write ∷ []) array) before.own
            ∙ one_more write log (value_of_array s array u));
        elsewhere = λ t k apart.
            one.elsewhere t apart before.has.store before.has.there
            (every_at (λ t. has_place before.has.store.storage t ≡ true) ts t
            before.has.placed.has k)
            (every_at (λ t. flattened before.has.store.storage.dims t ≡ t) ts t
            before.has.placed.flat k)
            ∙ before.elsewhere t k apart;
      }

  is_logged : (u : List ℤ) (log : Log) (s next : Whole) → Among ts u → Has s
      → log_written u log s ≡ Some next → IsLogged u log s next
  is_logged u [] s next inside has e =
      subst (IsLogged u [] s) (some_is e)
      (record { has = has; own = refl; elsewhere = λ t k apart. refl })
  is_logged u (write ∷ log) s next inside has e =
      by (log_written u log s) (λ between e. is_logged u log s between inside has e) refl e
    where
      by : (found : Option Whole)
          → ((between : Whole) → log_written u log s ≡ Some between → IsLogged u log s between)
          → log_written u log s ≡ found → option_and_then (written u write) found ≡ Some next
          → IsLogged u (write ∷ log) s next
      by None before is e = cc
      by (Some between) before is e =
          then_logged u write log s between next inside has (before between is) e

  -- ---- what all tuples have written
  abbrev pub AreOwn : Whole → Whole → List Column → List Point → Type 0
  AreOwn s next (column ∷ columns) (point ∷ points) =
      (value_of_array next array column.at
      ≡ logged point.log array (value_of_array s array column.at))
      × AreOwn s next columns points
  AreOwn s next [] points = ⊤
  AreOwn s next (column ∷ columns) [] = ⊤

  own_before : (s between next : Whole) (columns : List Column) (points : List Point)
      → Every (λ (column : Column). value_of_array between array column.at
      ≡ value_of_array s array column.at) columns
      → AreOwn between next columns points → AreOwn s next columns points
  own_before s between next [] points same own = tt
  own_before s between next (column ∷ columns) [] same own = tt
  own_before s between next (column ∷ columns) (point ∷ points) same own = (
    own.0 ∙ ap (logged point.log array) same.0,
    own_before s between next columns points same.1 own.1,
  )

  pub record AllAreWritten (columns : List Column) (points : List Point) (s next : Whole)
      : Type 0 where
    pub has : Has next
    pub own : AreOwn s next columns points
    pub elsewhere : (t : List ℤ) → Among ts t
        → Every (λ (column : Column). t ≡ column.at → ⊥) columns
        → value_of_array next array t ≡ value_of_array s array t

  abbrev AreApart : List Column → Type 0
  AreApart columns = Apart (map (λ (column : Column). column.at) columns)

  -- the first of some columns is at none of the others' tuples
  from_first : (t : List ℤ) (columns : List Column)
      → Every (λ u. u ≡ t → ⊥) (map (λ (column : Column). column.at) columns)
      → Every (λ (column : Column). t ≡ column.at → ⊥) columns
  from_first t [] all = tt
  from_first t (column ∷ columns) all = (λ same. all.0 (sym same), from_first t columns all.1)

  to_others : (s between : Whole) (t : List ℤ) (columns : List Column)
      → Every (λ (column : Column). Among ts column.at) columns
      → Every (λ u. u ≡ t → ⊥) (map (λ (column : Column). column.at) columns)
      → ((u : List ℤ) → Among ts u → (u ≡ t → ⊥)
      → value_of_array between array u ≡ value_of_array s array u)
      → Every (λ (column : Column). value_of_array between array column.at
      ≡ value_of_array s array column.at) columns
  to_others s between t [] inside all same = tt
  to_others s between t (column ∷ columns) inside all same = (
    same column.at inside.0 all.0,
    to_others s between t columns inside.1 all.1 same,
  )

  pub all_are_written : (columns : List Column) (points : List Point) (s next : Whole) → Has s
      → Every (λ (column : Column). Among ts column.at) columns → AreApart columns
      → all_written columns points s ≡ Some next → AllAreWritten columns points s next
  all_are_written [] points s next has inside apart e =
      subst (AllAreWritten [] points s) (some_is e)
      (record { has = has; own = tt; elsewhere = λ t k far. refl })
  all_are_written (column ∷ columns) [] s next has inside apart e =
      subst (AllAreWritten (column ∷ columns) [] s) (some_is e)
      (record { has = has; own = tt; elsewhere = λ t k far. refl })
  all_are_written (column ∷ columns) (point ∷ points) s next has inside apart e =
      by (log_written column.at point.log s)
      (λ between e. is_logged column.at point.log s between inside.0 has e)
      (λ between has e. all_are_written columns points between next has inside.1 apart.1 e) refl e
    where
      by : (found : Option Whole)
          → ((between : Whole) → log_written column.at point.log s ≡ Some between
          → IsLogged column.at point.log s between)
          → ((between : Whole) → Has between → all_written columns points between ≡ Some next
          → AllAreWritten columns points between next)
          → log_written column.at point.log s ≡ found
          → option_and_then (all_written columns points) found ≡ Some next
          → AllAreWritten (column ∷ columns) (point ∷ points) s next
      by None first rest is e = cc
      by (Some between) first rest is e =
          let one = first between is in
          let more = rest between one.has e in
          record {
            has = more.has;
            own = (
              more.elsewhere column.at inside.0 (from_first column.at columns apart.0) ∙ one.own,
              own_before s between next columns points
                  (to_others s between column.at columns inside.1 apart.0 one.elsewhere) more.own,
            );
            elsewhere = λ t k far. more.elsewhere t k far.1 ∙ one.elsewhere t k far.0;
          }

-- ---- two states that are alike but for arrays that are cells
module _ (cell_of : ℕ → Option ℕ) (tables other : Tables) where
  abbrev pub Other : Thing → Type 0
  Other = IsOther cell_of

  abbrev pub storage_in : Whole → ℕ → Option Region
  storage_in s array = option_map (λ (store : Array). store.storage) (slice_get s.stores array)

  pub record AreStates (s s' : Whole) : Type 0 where
    pub agree : Agree tables other Other s s'
    pub storages : (array cell : ℕ) → cell_of array ≡ Some cell
        → storage_in s array ≡ storage_in s' array

  pub record NextStates (next : Whole) (found : Option Whole) : Type 0 where
    pub state : Whole
    pub is : found ≡ Some state
    pub alike : AreStates next state

  same_some : {X : Type 0} {x y : X} → Some x ≡ Some y → x ≡ y
  same_some e = cc

  -- both stores of an array that is no cell's
  both_put : (s s' : Whole) (array : ℕ) (store : Array) → cell_of array ≡ None → AreStates s s'
      → AreStates (record s { stores = slice_set s.stores array store })
      (record s' { stores = slice_set s'.stores array store })
  both_put s s' array store none alike = record {
    agree = set_store tables other Other s s' array store none alike.agree;
    storages = λ kept cell is.
        let apart : array ≡ kept → ⊥ = λ same. other_array cell_of kept array cell is none
        (sym same) in
        ap (option_map (λ (a : Array). a.storage)) (set_apart s.stores array kept store apart)
        ∙ (alike.storages kept cell is
        ∙ sym (ap (option_map (λ (a : Array). a.storage))
        (set_apart s'.stores array kept store apart)));
  }

  -- the old store of one that is
  one_put : (s s' : Whole) (array cell : ℕ) (old store : Array) → cell_of array ≡ Some cell
      → slice_get s.stores array ≡ Some old → store.storage ≡ old.storage → AreStates s s'
      → AreStates (record s { stores = slice_set s.stores array store }) s'
  one_put s s' array cell old store is there same alike = record {
    agree = agree;
    storages = λ kept number has. by kept number has (array == kept) refl;
  }
    where
      next : Whole
      next = record s { stores = slice_set s.stores array store }

      agree : Agree tables other Other (record s { stores = slice_set s.stores array store }) s'
      agree (thing.Scalar k) q = alike.agree (thing.Scalar k) q
      agree (thing.Slot k) q = alike.agree (thing.Slot k) q
      agree (thing.Array k) q = (
        (alike.agree (thing.Array k) q).0,
        set_apart s.stores array k store (other_array cell_of array k cell is q)
            ∙ (alike.agree (thing.Array k) q).1,
      )

      by : (kept number : ℕ) → cell_of kept ≡ Some number → (b : Bool) → (array == kept) ≡ b
          → storage_in (record s { stores = slice_set s.stores array store }) kept
          ≡ storage_in s' kept
      by kept number has true e =
          let one : array ≡ kept = eqb-true array kept e in
          subst (λ k. storage_in (record s { stores = slice_set s.stores array store }) k
          ≡ storage_in s' k) one
          (ap (option_map (λ (a : Array). a.storage)) (set_there s.stores array store old there)
          ∙ (ap Some same
          ∙ (sym (ap (option_map (λ (a : Array). a.storage)) there)
          ∙ alike.storages array cell is)))
      by kept number has false e =
          ap (option_map (λ (a : Array). a.storage))
          (set_apart s.stores array kept store (λ one. true≢false (sym (same_number array)
          ∙ (ap (λ k. array == k) one ∙ e))))
          ∙ alike.storages kept number has

  -- ---- one write
  put_alike_by : (u : List ℤ) (array : ℕ) (v : ℤ) (s s' next : Whole) → cell_of array ≡ None
      → AreStates s s' → (found : Option Array) → slice_get s.stores array ≡ found
      → option_map (λ (stores : List Array). record s { stores = stores })
      (option_map (slice_set s.stores array) (option_and_then (held_with u v) found)) ≡ Some next
      → NextStates next (written u (Puts array v) s')
  put_alike_by u array v s s' next none alike None there e = cc
  put_alike_by u array v s s' next none alike (Some store) there e =
      by (has_place store.storage u) refl e
    where
      there' : slice_get s'.stores array ≡ Some store
      there' = sym (alike.agree (thing.Array array) none).1 ∙ there

      by : (b : Bool) → has_place store.storage u ≡ b
          → option_map (λ (stores : List Array). record s { stores = stores })
          (option_map (slice_set s.stores array) (where_held b (updated store u v))) ≡ Some next
          → NextStates next (written u (Puts array v) s')
      by false place e = cc
      by true place e = record {
        state = record s' { stores = slice_set s'.stores array (updated store u v) };
        is = ap (λ o. option_map (λ (stores : List Array). record s' { stores = stores })
            (option_map (slice_set s'.stores array) (option_and_then (held_with u v) o))) there'
            ∙ ap (λ b. option_map (λ (stores : List Array). record s' { stores = stores })
            (option_map (slice_set s'.stores array) (where_held b (updated store u v)))) place;
        alike = subst (λ w. AreStates w
            (record s' { stores = slice_set s'.stores array (updated store u v) })) (same_some e)
            (both_put s s' array (updated store u v) none alike);
      }

  drop_by : (u : List ℤ) (array cell : ℕ) (v : ℤ) (s s' next : Whole) → cell_of array ≡ Some cell
      → AreStates s s' → (found : Option Array) → slice_get s.stores array ≡ found
      → option_map (λ (stores : List Array). record s { stores = stores })
      (option_map (slice_set s.stores array) (option_and_then (held_with u v) found)) ≡ Some next
      → AreStates next s'
  drop_by u array cell v s s' next is alike None there e = cc
  drop_by u array cell v s s' next is alike (Some store) there e =
      by (has_place store.storage u) e
    where
      by : (b : Bool) → option_map (λ (stores : List Array). record s { stores = stores })
          (option_map (slice_set s.stores array) (where_held b (updated store u v))) ≡ Some next
          → AreStates next s'
      by false e = cc
      by true e =
          subst (λ w. AreStates w s') (same_some e)
          (one_put s s' array cell store (updated store u v) is there refl alike)

  join_by : (u : List ℤ) (scalar : ℕ) (operator : Fold) (v : ℤ) (s s' next : Whole)
      → AreStates s s' → (found : Option ℤ) → slice_get s.scalars scalar ≡ found
      → option_map (λ own. record s {
        scalars = slice_set s.scalars scalar
            (joined operator own v);
      })
      found ≡ Some next
      → NextStates next (written u (Joins scalar operator v) s')
  join_by u scalar operator v s s' next alike None there e = cc
  join_by u scalar operator v s s' next alike (Some own) there e = record {
    state = record s' { scalars = slice_set s'.scalars scalar (joined operator own v) };
    is = ap (option_map (λ own. record s' {
      scalars = slice_set s'.scalars scalar (joined operator own v);
    })) (sym (alike.agree (thing.Scalar scalar) tt).0 ∙ there);
    alike = subst (λ w. AreStates w
        (record s' { scalars = slice_set s'.scalars scalar (joined operator own v) })) (same_some e)
        (record {
          agree = set_scalar tables other Other s s' scalar (joined operator own v) tt alike.agree;
          storages = alike.storages;
        });
  }

  -- ---- a log
  then_alike : (u : List ℤ) (write : Write) (log : Log) (between next s' : Whole)
      → NextStates between (log_written u (without cell_of log) s')
      → written u write between ≡ Some next
      → NextStates next (log_written u (without cell_of (write ∷ log)) s')
  then_alike u (Joins scalar operator v) log between next s' before e =
      let more = join_by u scalar operator v between before.state next before.alike
      (slice_get between.scalars scalar) refl e in
      record {
        state = more.state;
        is = ap (option_and_then (written u (Joins scalar operator v))) before.is ∙ more.is;
        alike = more.alike;
      }
  then_alike u (Puts array v) log between next s' before e = by (cell_of array) refl
    where
      by : (found : Option ℕ) → cell_of array ≡ found
          → NextStates next (log_written u
          (drop_if cell_of found (Puts array v) (without cell_of log)) s')
      by None none =
          let more = put_alike_by u array v between before.state next none before.alike
          (slice_get between.stores array) refl e in
          record {
            state = more.state;
            is = ap (option_and_then (written u (Puts array v))) before.is ∙ more.is;
            alike = more.alike;
          }
      by (Some cell) is = record {
        state = before.state;
        is = before.is;
        alike = drop_by u array cell v between before.state next is before.alike
            (slice_get between.stores array) refl e;
      }

  log_alike : (u : List ℤ) (log : Log) (s s' next : Whole) → AreStates s s'
      → log_written u log s ≡ Some next → NextStates next (log_written u (without cell_of log) s')
  log_alike u [] s s' next alike e = record {
    state = s';
    is = refl;
    alike = subst (λ w. AreStates w s') (same_some e) alike;
  }
  log_alike u (write ∷ log) s s' next alike e =
      by (log_written u log s) (λ between e. log_alike u log s s' between alike e) refl e
    where
      by : (found : Option Whole)
          → ((between : Whole) → log_written u log s ≡ Some between
          → NextStates between (log_written u (without cell_of log) s'))
          → log_written u log s ≡ found → option_and_then (written u write) found ≡ Some next
          → NextStates next (log_written u (without cell_of (write ∷ log)) s')
      by None before is e = cc
      by (Some between) before is e =
          then_alike u write log between next s' (before between is) e

  -- ---- all logs
  abbrev pub AreLogs : List Column → List Column → List Point → List Point → Type 0
  AreLogs (column ∷ columns) (one ∷ ones) (p ∷ ps) (q ∷ qs) =
      (one.at ≡ column.at) × (q.log ≡ without cell_of p.log) × AreLogs columns ones ps qs
  AreLogs [] [] ps qs = ⊤
  AreLogs (column ∷ columns) (one ∷ ones) [] [] = ⊤
  AreLogs columns ones ps qs = ⊥

  pub all_alike : (columns ones : List Column) (ps qs : List Point) (s s' next : Whole)
      → AreLogs columns ones ps qs → AreStates s s' → all_written columns ps s ≡ Some next
      → NextStates next (all_written ones qs s')
  all_alike [] [] ps qs s s' next logs alike e = record {
    state = s';
    is = refl;
    alike = subst (λ w. AreStates w s') (same_some e) alike;
  }
  all_alike (column ∷ columns) (one ∷ ones) [] [] s s' next logs alike e = record {
    state = s';
    is = refl;
    alike = subst (λ w. AreStates w s') (same_some e) alike;
  }
  all_alike (column ∷ columns) (one ∷ ones) (p ∷ ps) (q ∷ qs) s s' next logs alike e =
      by (log_written column.at p.log s)
      (λ between e. log_alike column.at p.log s s' between alike e)
      (λ between state alike e. all_alike columns ones ps qs between state next logs.2 alike e)
      refl e
    where
      by : (found : Option Whole)
          → ((between : Whole) → log_written column.at p.log s ≡ Some between
          → NextStates between (log_written column.at (without cell_of p.log) s'))
          → ((between state : Whole) → AreStates between state
          → all_written columns ps between ≡ Some next
          → NextStates next (all_written ones qs state))
          → log_written column.at p.log s ≡ found
          → option_and_then (all_written columns ps) found ≡ Some next
          → NextStates next (all_written (one ∷ ones) (q ∷ qs) s')
      by None first rest is e = cc
      by (Some between) first rest is e =
          let before = first between is in
          let after = rest between before.state before.alike e in
          record {
            state = after.state;
            is = ap (option_and_then (all_written ones qs))
                (ap (λ at. log_written at q.log s') logs.0
                ∙ (ap (λ log. log_written column.at log s') logs.1 ∙ before.is))
                ∙ after.is;
            alike = after.alike;
          }
  all_alike [] (one ∷ ones) ps qs s s' next logs alike e = absurd logs
  all_alike (column ∷ columns) [] ps qs s s' next logs alike e = absurd logs
  all_alike (column ∷ columns) (one ∷ ones) [] (q ∷ qs) s s' next logs alike e = absurd logs
  all_alike (column ∷ columns) (one ∷ ones) (p ∷ ps) [] s s' next logs alike e = absurd logs
