-- Rows that set the tuples of a region, each from its source, agree: borders and floods.
use Rattle.std.proofs.Common.{◌≡◌, ◌⊎◌, refl, sym, ◌∙◌, ap, subst, inl, inr, ℕ, ◌<◌, ◌==◌, Bool, true, false, true≢false, List, [], ◌∷◌, ℤ, length, All, Option, Some, arith, eq-eqb, eqb-true}
use Rattle.std.specs.Prelude.{filter, option_and_then, slice_get, slice_set}
use Rattle.zpl_region.specs.declared.regions.Region.{Region}
use Rattle.zpl_region.specs.Dim.{HasStep}
use Rattle.zpl_region.specs.Region.{members}
use Rattle.zpl_region.proofs.ListLemmas.{Among, Among-filter, among_filtered}
use Rattle.zpl_arrays.specs.Array.{Array, IsArray, element, flattened, has_place}
use Rattle.node_form.specs.declared.arrays.ArrayRow.{ArrayRow}
use Rattle.node_form.specs.declared.tables.Tables.{Tables}
use Rattle.grid_meaning.specs.Delivery.{replaced}
use Rattle.grid_meaning.specs.Local.{Local, processors}
use Rattle.grid_meaning.specs.Owner.{tuples_of}
use Rattle.grid_meaning.specs.Place.{held_value, value_at}
use Rattle.row_runs.specs.Run.{Does}
use Rattle.row_runs.specs.Rows.{AreEffects}
use Rattle.flat_form.specs.Moves.{moved_in}
use Rattle.flat_form.specs.Whole.{Whole}
use Rattle.plan_orders.specs.of_plan_meaning.Abreast.{Abreast, locals_of}
use Rattle.plan_orders.specs.of_plan_meaning.Messages as plan
use Rattle.normal_runs.proofs.PlaceLemmas.{set_apart, set_there}
use Rattle.needs_runs.specs.Agree.{HasLayout}
use Rattle.needs_runs.specs.Holds.{Holds}
use Rattle.needs_runs.proofs.BringLemmas.{element_alike, value_held}
use Rattle.needs_runs.proofs.FlatLemmas.{fit, flat_of, floods_of, whole_flat}
use Rattle.needs_runs.proofs.PlaceLemmas.{element_of_held, held_there, place_of_held}
use Rattle.needs_runs.proofs.RoomRows.{all_get}
use Rattle.message_runs.proofs.FlatLemmas.{IsWritable}
use Rattle.message_runs.proofs.OwnLemmas.{IsRead, own_value, read_place}
use Rattle.message_runs.proofs.SetLemmas.{IsFinal, dest_member, final_set, is_flat, mine_alike, mine_array, tuple_place}
use Rattle.message_runs.proofs.WorkLemmas.{IsWork, after, final, final_is, final_storage, from_all, mine, mine_there, moved_step, others_among, work, work_agrees}
use Rattle.message_runs.proofs.WriteLemmas.{IsAt, written, written_array, written_is, written_storage}

some_is : {X : Type 0} {x y : X} → Some x ≡ Some y → x ≡ y
some_is e = cc

some_among : {X : Type 0} (xs : List X) (x : X) → Among xs x → 0 < length xs
some_among [] x among = absurd among
some_among (y ∷ xs) x among = omega arith

module _ (code : Tables) (layout : HasLayout code) (whole : Whole) (all : Abreast)
    (holds : Holds code whole all) (array from : ℕ) (dest src : Region)
    (source : List ℤ → List ℤ) (owner : ℕ → List ℤ → ℕ)
    (targets_in : Local → ℕ → ℕ → List (List ℤ)) (source_in : Local → List ℤ → List ℤ) where
  -- the tuples of a processor whose sources another one owns
  abbrev targets : ℕ → ℕ → List (List ℤ)
  targets q p = filter (λ t. owner p t == q) (tuples_of code p dest)

  abbrev own_in : ℕ → Local → List (List ℤ)
  own_in p local = targets_in local p p

  abbrev own : ℕ → List (List ℤ)
  own p = targets p p

  abbrev word_in : ℕ → Local → List ℤ → Option ℤ
  word_in p local t = value_at local.stores from (source_in local t)

  pub record IsSourced : Type 0 where
    pub targets_are : (local : Local) → local.slots ≡ whole.slots → targets_in local ≡ targets
    pub source_are : (local : Local) → local.slots ≡ whole.slots → source_in local ≡ source
    pub writes : IsWritable code whole dest array
    pub reads : IsRead code whole src from
    pub dest_ranked : dest.rank ≡ writes.row.rank
    pub dest_long : length dest.dims ≡ length writes.row.dims
    pub dest_steps : All HasStep dest.dims
    pub src_ranked : src.rank ≡ reads.row.rank
    pub src_long : length reads.row.dims ≡ length src.dims
    pub lies : (t : List ℤ) → Among (members dest) t → Among (members src) (source t)
    pub owned : (p : ℕ) → p < processors code → (t : List ℤ) → Among (tuples_of code p dest) t
        → (owner p t < processors code) × Among (tuples_of code (owner p t) src) (source t)
    pub settles : (t u : List ℤ) → Among (members dest) t → Among (members dest) u
        → flat_of writes.row t ≡ flat_of writes.row (source u)
        → flat_of writes.row (source t) ≡ flat_of writes.row (source u)

  module _ (is : IsSourced) where
    abbrev row : ArrayRow
    row = is.writes.row

    abbrev store : Array
    store = is.writes.store

    abbrev flat : List ℤ → List ℤ
    flat t = flat_of row t

    abbrev value : List ℤ → ℤ
    value t = element is.reads.store (source t)

    abbrev own_mine : ℕ → Array
    own_mine p = mine code whole all holds array row is.writes.there p

    abbrev own_put : ℕ → Array
    own_put p = written replaced value (own p) (own_mine p)

    abbrev own_after : ℕ → List ℕ → Array → Array
    own_after p qs a =
        after code whole all holds array row is.writes.there targets_in word_in own_in replaced
        targets own (λ q. value) p qs a

    abbrev own_final : ℕ → Array
    own_final p =
        final code whole all holds array row is.writes.there targets_in word_in own_in replaced
        targets own (λ q. value) p

    abbrev senders : ℕ → List ℕ
    senders p =
        from_all code whole all holds array row is.writes.there targets_in word_in own_in replaced
        targets own (λ q. value) p

    abbrev new : Array
    new = written replaced value (members dest) store

    -- ---- places
    tuple_place_of : (p : ℕ) → p < processors code → (t : List ℤ) → Among (tuples_of code p dest) t
        → has_place (own_mine p).storage t ≡ true
    tuple_place_of p below t among =
        tuple_place code layout whole all holds array dest is.writes is.dest_ranked is.dest_long
        is.dest_steps p below t among

    of_targets : (q p : ℕ) (t : List ℤ) → Among (targets q p) t
        → Among (tuples_of code p dest) t × (owner p t ≡ q)
    of_targets q p t among =
        let parts = among_filtered (λ t. owner p t == q) (tuples_of code p dest) t among in
        (parts.0, eqb-true (owner p t) q parts.1)

    dest_member_of : (p : ℕ) (t : List ℤ) → Among (tuples_of code p dest) t → Among (members dest) t
    dest_member_of p t among =
        dest_member code layout whole all holds array dest is.writes is.dest_ranked is.dest_long
        is.dest_steps p t among

    -- ---- words
    at_start : (p q : ℕ) → p < processors code → q < processors code → (t : List ℤ)
        → Among (targets p q) t → value_at (all.shares p).stores from (source t) ≡ Some (value t)
    at_start p q below q_below t among =
        let (tuple, owned) = of_targets p q t among in
        own_value code whole all holds src from is.reads is.src_ranked is.src_long p below (source t)
        (subst (λ r. Among (tuples_of code r src) (source t)) owned (is.owned q q_below t tuple).1)

    mine_alike_of : (p : ℕ) → p < processors code → (u : List ℤ)
        → has_place (own_mine p).storage u ≡ true → (t : List ℤ)
        → flattened (own_mine p).storage.dims t ≡ flat t
    mine_alike_of p below u place t =
        mine_alike code layout whole all holds array dest is.writes is.dest_ranked is.dest_long
        is.dest_steps p below u place t

    mine_array_of : (p : ℕ) → p < processors code → IsArray (own_mine p)
    mine_array_of p below =
        mine_array code layout whole all holds array dest is.writes is.dest_ranked is.dest_long
        is.dest_steps p below

    same_value : array ≡ from → (t u : List ℤ) → Among (members dest) t → Among (members dest) u
        → flat t ≡ flat (source u) → value t ≡ value u
    same_value same t u one two e =
        let read_array : IsArray is.reads.store =
        all_get IsArray whole.stores from is.reads.store holds.arrays is.reads.here in
        let alike : (v : List ℤ) → flattened is.reads.store.storage.dims v ≡ flat v =
        let row_is : is.reads.row ≡ row =
        some_is (sym is.reads.there ∙ (ap (slice_get code.arrays) (sym same) ∙ is.writes.there)) in
        λ v.
        whole_flat is.reads.row is.reads.store
        (fit code layout from is.reads.row is.reads.there)
        (floods_of code whole all holds from is.reads.row is.reads.store is.reads.there is.reads.here)
        (source u) (read_place code whole src from is.reads (source u) (is.lies u two)) v
        ∙ ap (λ r. flat_of r v) row_is in
        element_alike is.reads.store (source t) (source u) read_array
        (read_place code whole src from is.reads (source t) (is.lies t one))
        (read_place code whole src from is.reads (source u) (is.lies u two))
        (alike (source t) ∙ (is.settles t u one two e ∙ sym (alike (source u))))

    says_by : (p q : ℕ) → p < processors code → q < processors code → (t : List ℤ)
        → Among (targets p q) t → (b : Bool) → (array == from) ≡ b
        → value_at (slice_set (all.shares p).stores array (own_put p)) from (source t)
        ≡ Some (value t)
    says_by p q below q_below t among false e =
        ap (λ o. option_and_then (held_value (source t)) o)
        (set_apart (all.shares p).stores array from (own_put p)
        (λ same. true≢false (sym (eq-eqb array from same) ∙ e)))
        ∙ at_start p q below q_below t among
    says_by p q below q_below t among true e =
        let same : array ≡ from = eqb-true array from e in
        let (tuple, owned) = of_targets p q t among in
        let old : held_value (source t) (own_mine p) ≡ Some (value t) =
        sym (value_held (all.shares p).stores array (own_mine p) (source t)
        (mine_there code whole all holds array row is.writes.there p below))
        ∙ (ap (λ k. value_at (all.shares p).stores k (source t)) same
        ∙ at_start p q below q_below t among) in
        let place = place_of_held (source t) (own_mine p) (value t) old in
        ap (λ k. value_at (slice_set (all.shares p).stores array (own_put p)) k (source t)) (sym same)
        ∙ (value_held (slice_set (all.shares p).stores array (own_put p)) array (own_put p) (source t)
        (set_there (all.shares p).stores array (own_put p) (own_mine p)
        (mine_there code whole all holds array row is.writes.there p below))
        ∙ (held_there (source t) (own_put p)
        (subst (λ (r : Region). has_place r (source t) ≡ true)
        (sym (written_storage replaced value (own p) (own_mine p))) place)
        ∙ ap Some (written_is flat value (source t) (value t) (own p) (own_mine p)
        (mine_array_of p below)
        (mine_alike_of p below (source t) place)
        (λ u in_own. tuple_place_of p below u (of_targets p p u in_own).0) place
        (λ u in_own alike. same_value same u t (dest_member_of p u (of_targets p p u in_own).0)
        (dest_member_of q t tuple) alike)
        (inl (element_of_held (source t) (own_mine p) (value t) old)))))

    works : IsWork code whole all holds array row is.writes.there targets_in word_in own_in replaced
        targets own (λ q. value)
    works = record {
      targets_are = is.targets_are;
      own_are = λ p local same. ap (λ ts. ts p p) (is.targets_are local same);
      own_places = λ p below t among. tuple_place_of p below t (of_targets p p t among).0;
      target_places = λ q p below t among. tuple_place_of p below t (of_targets q p t among).0;
      begins = λ p below t among.
          ap (λ s. value_at (all.shares p).stores from (s t))
          (is.source_are (locals_of all p) (holds.own p below).slots)
          ∙ at_start p p below below t among;
      says = λ p q below q_below t among.
          ap (λ s. value_at (slice_set (all.shares p).stores array (own_put p)) from (s t))
          (is.source_are (record (locals_of all p) {
            stores = slice_set (all.shares p).stores array (own_put p);
          }) (holds.own p below).slots)
          ∙ says_by p q below q_below t among (array == from) refl;
    }

    -- ---- what stands at a place then
    record IsFrom (p : ℕ) (qs : List ℕ) (u : List ℤ) : Type 0 where
      q : ℕ
      among : Among qs q
      at : IsAt flat (targets q p) u

    after_is : (p : ℕ) → p < processors code → (u : List ℤ) (v : ℤ)
        → has_place (own_mine p).storage u ≡ true
        → ((t : List ℤ) → Among (tuples_of code p dest) t → flat t ≡ flat u → value t ≡ v)
        → (qs : List ℕ) (a : Array) → IsArray a → a.storage ≡ (own_mine p).storage
        → (element a u ≡ v) ⊎ IsFrom p qs u → element (own_after p qs a) u ≡ v
    after_is p below u v place each [] a is_array same (inl stands) = stands
    after_is p below u v place each [] a is_array same (inr from) = absurd from.among
    after_is p below u v place each (q ∷ qs) a is_array same given =
        after_is p below u v place each qs next
        (written_array replaced value (targets q p) a is_array)
        (written_storage replaced value (targets q p) a ∙ same) (by given)
      where
        next : Array
        next = written replaced value (targets q p) a

        one : (element a u ≡ v) ⊎ IsAt flat (targets q p) u → element next u ≡ v
        one given =
            written_is flat value u v (targets q p) a is_array
            (λ t. ap (λ (r : Region). flattened r.dims t) same ∙ mine_alike_of p below u place t)
            (λ t among. subst (λ (r : Region). has_place r t ≡ true) (sym same)
            (tuple_place_of p below t (of_targets q p t among).0))
            (subst (λ (r : Region). has_place r u ≡ true) (sym same) place)
            (λ t among alike. each t (of_targets q p t among).0 alike) given

        by : (element a u ≡ v) ⊎ IsFrom p (q ∷ qs) u → (element next u ≡ v) ⊎ IsFrom p qs u
        by (inl stands) = inl (one (inl stands))
        by (inr from) = left from.q from.among from.at
          where
            left : (r : ℕ) → (q ≡ r) ⊎ Among qs r → IsAt flat (targets r p) u
                → (element next u ≡ v) ⊎ IsFrom p qs u
            left r (inl here) at =
                inl (one (inr (subst (λ k. IsAt flat (targets k p) u) (sym here) at)))
            left r (inr later) at = inr (record { q = r; among = later; at = at })

    put_is : (p : ℕ) → p < processors code → (t : List ℤ) (v : ℤ)
        → has_place (own_mine p).storage t ≡ true
        → ((u : List ℤ) → Among (tuples_of code p dest) u → flat u ≡ flat t → value u ≡ v)
        → (element (own_mine p) t ≡ v) ⊎ IsAt flat (own p) t → element (own_put p) t ≡ v
    put_is p below t v place each given =
        written_is flat value t v (own p) (own_mine p) (mine_array_of p below)
        (mine_alike_of p below t place)
        (λ u among. tuple_place_of p below u (of_targets p p u among).0) place
        (λ u among alike. each u (of_targets p p u among).0 alike) given

    final_at : (p : ℕ) → p < processors code → (t : List ℤ) (v : ℤ)
        → has_place (own_mine p).storage t ≡ true
        → ((u : List ℤ) → Among (tuples_of code p dest) u → flat u ≡ flat t → value u ≡ v)
        → (element (own_put p) t ≡ v) ⊎ IsFrom p (senders p) t → element (own_final p) t ≡ v
    final_at p below t v place each given =
        after_is p below t v place each (senders p) (own_put p)
        (written_array replaced value (own p) (own_mine p) (mine_array_of p below))
        (written_storage replaced value (own p) (own_mine p)) given

    is_final : IsFinal code layout whole all holds array dest is.writes is.dest_ranked is.dest_long
        is.dest_steps value own_final
    is_final = record {
      storage = final_storage code whole all holds array row is.writes.there targets_in word_in own_in
          replaced targets own (λ q. value);
      is_array = λ p below.
          (final_is code whole all holds array row is.writes.there targets_in word_in own_in replaced
          targets own (λ q. value) p below).filled;
      sets = λ p below u tuple.
          let only : (w : List ℤ) → Among (tuples_of code p dest) w → flat w ≡ flat u
          → value w ≡ value u =
          λ w among same.
          ap value (sym (is_flat_of w (dest_member_of p w among))
          ∙ (same ∙ is_flat_of u (dest_member_of p u tuple))) in
          final_at p below u (value u) (tuple_place_of p below u tuple) only
          (sets_by p below u tuple only (owner p u == p) refl);
      keeps = λ p below t place none.
          final_at p below t (element (own_mine p) t) place
          (λ u among same. absurd (none u among same))
          (inl (put_is p below t (element (own_mine p) t) place
          (λ u among same. absurd (none u among same)) (inl refl)));
    }
      where
        is_flat_of : (t : List ℤ) → Among (members dest) t → flat t ≡ t
        is_flat_of t among =
            is_flat code layout whole all holds array dest is.writes is.dest_ranked is.dest_long
            is.dest_steps t among

        sets_by : (p : ℕ) (below : p < processors code) (u : List ℤ)
            → Among (tuples_of code p dest) u
            → ((w : List ℤ) → Among (tuples_of code p dest) w → flat w ≡ flat u
            → value w ≡ value u) → (b : Bool) → (owner p u == p) ≡ b
            → (element (own_put p) u ≡ value u) ⊎ IsFrom p (senders p) u
        sets_by p below u tuple only true here =
            inl (put_is p below u (value u) (tuple_place_of p below u tuple) only (inr (record {
              t = u;
              among = Among-filter (λ w. owner p w == p) (tuples_of code p dest) u tuple here;
              same = refl;
            })))
        sets_by p below u tuple only false apart =
            let q = owner p u in
            let there : Among (targets q p) u =
            Among-filter (λ w. owner p w == q) (tuples_of code p dest) u tuple
            (eq-eqb (owner p u) q refl) in
            inr (record {
              q = q;
              among = others_among code p (λ r. length (targets r p)) q (is.owned p below u tuple).0
                  apart (some_among (targets q p) u there);
              at = record { t = u; among = there; same = refl };
            })

    pub sourced_agrees : AreEffects (Holds code) (Does (moved_in whole array dest value))
        (Does (plan.delivered code (work code whole all holds array row is.writes.there targets_in
        word_in own_in replaced targets own (λ q. value)) all))
    sourced_agrees =
        subst (λ step. AreEffects (Holds code) (Does step)
        (Does (plan.delivered code (work code whole all holds array row is.writes.there targets_in
        word_in own_in replaced targets own (λ q. value)) all)))
        (sym (moved_step whole array dest value store is.writes.here is.writes.places))
        (work_agrees code whole all holds array row is.writes.there targets_in word_in own_in
        replaced targets own (λ q. value) works new
        (final_set code layout whole all holds array dest is.writes is.dest_ranked is.dest_long
        is.dest_steps value own_final is_final))
