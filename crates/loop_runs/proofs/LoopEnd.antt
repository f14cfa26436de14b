-- Behind a loop that no zero divisor and no wanted turn has ended, each processor has its share of what
-- the flat loop has made.
--
--   end_at, done_at   what a tuple has come to, in the one and the other
--   part_has          arrays
--   ends_sum, done_sum   what is accumulated
use Rattle.std.proofs.Common.{◌≡◌, ◌⊎◌, inl, inr, refl, sym, ◌∙◌, ap, subst, ℕ, ◌<◌}
use Rattle.std.proofs.Common.{Bool, true, false, List, [], ◌∷◌, map, ℤ}
use Rattle.std.proofs.Common.{Option, Some, None}
use Rattle.std.specs.Prelude.{slice_get}
use Rattle.zpl_nums.specs.declared.folds.Fold.{Fold}
use Rattle.zpl_nums.specs.Fold.{folded, joined}
use Rattle.zpl_nums.proofs.FoldLemmas.{folded-append, folded-cons}
use Rattle.zpl_region.specs.declared.regions.Region.{Region}
use Rattle.zpl_region.specs.Region.{IsMember}
use Rattle.zpl_region.proofs.ListLemmas.{Among}
use Rattle.zpl_arrays.specs.Array.{Array, each_has_place, element, flattened, has_place}
use Rattle.zpl_arrays.proofs.ArrayLemmas.{place_of_member}
use Rattle.row_runs.specs.Straight.{Every}
use Rattle.node_form.specs.declared.arrays.ArrayRow.{ArrayRow}
use Rattle.node_form.specs.declared.tables.Tables.{Tables}
use Rattle.node_form.specs.Fits.{storage_of}
use Rattle.node_form.specs.Group as group_of
use Rattle.grid_meaning.specs.Local.{processors}
use Rattle.grid_meaning.specs.Place.{own_part, value_at}
use Rattle.flat_form.specs.Loop.{Column, Log, Point, log_ways, logged}
use Rattle.flat_form.specs.Whole.{Whole}
use Rattle.needs_runs.specs.of_plan_meaning.Abreast.{Abreast}
use Rattle.needs_runs.specs.of_plan_meaning.Loops.{point_of}
use Rattle.normal_runs.proofs.PlaceLemmas.{members_apart}
use Rattle.normal_runs.proofs.PlaceLemmas.{Apart as AreApart}
use Rattle.needs_runs.specs.Holds.{HasPart, lies_in_own}
use Rattle.needs_runs.proofs.BringLemmas.{tuple_cases, value_held}
use Rattle.needs_runs.proofs.ExchangeLemmas.{has_flattened}
use Rattle.needs_runs.proofs.FlatLemmas.{fit, floods_of, matching_flat, three, whole_flat}
use Rattle.needs_runs.proofs.PlaceLemmas.{held_there, in_own_part}
use Rattle.loop_runs.proofs.ColumnLemmas.{Gone, Keeps, Own, Waits, own_run}
use Rattle.loop_runs.proofs.FlatLemmas.{Ends, Kept, MoreEnds, NoEnd, Stage, kept_joins}
use Rattle.loop_runs.proofs.LoopStart.{C, D, Given, J, K, P, R, S, Zp, Zw, are, brought_here, distinct}
use Rattle.loop_runs.proofs.LoopStart.{far, kept_at, low, one, part, state, tuples, units, zeros}
use Rattle.loop_runs.proofs.LoopStart.{has_tuple, zeros_long}
use Rattle.loop_runs.proofs.MemberLemmas.{put_ranked}
use Rattle.loop_runs.proofs.PartLemmas.{inside_region, member_coordinates, member_part}
use Rattle.loop_runs.proofs.PlaceLemmas.{own_has}
use Rattle.loop_runs.proofs.SpotLemmas.{IsWritable, held_of_value, is_written, own_flat, slot_of}
use Rattle.loop_runs.proofs.SpotLemmas.{storage_or}
use Rattle.loop_runs.proofs.TupleLemmas.{Done, IsThrough, MoreDone, NoneDone}
use Rattle.loop_runs.proofs.TupleLemmas.{bare_column, whole_of}
use Rattle.loop_runs.proofs.WriteLemmas.{AllWrote, AreOwn, FarFrom, HasOwn, all_joins, all_wrote, joins}
use Rattle.loop_runs.proofs.WriteLemmas.{Apart, some_is}

-- ---- a tuple is one of some
among_cases : (ts : List (List ℤ)) (v : List ℤ) → Among ts v ⊎ Every (λ t. v ≡ t → ⊥) ts
among_cases [] v = inr tt
among_cases (t ∷ ts) v = by (tuple_cases v t) (among_cases ts v)
  where
    by : (v ≡ t) ⊎ (v ≡ t → ⊥) → Among ts v ⊎ Every (λ t. v ≡ t → ⊥) ts
        → Among (t ∷ ts) v ⊎ Every (λ t. v ≡ t → ⊥) (t ∷ ts)
    by (inl same) rest = inl (inl (sym same))
    by (inr apart) (inl among) = inl (inr among)
    by (inr apart) (inr all) = inr (apart, all)

every_at : {X : Type 0} (Q : X → Type 0) (xs : List X) (x : X) → Every Q xs → Among xs x → Q x
every_at Q [] x all among = absurd among
every_at Q (y ∷ xs) x all (inl same) = subst Q same all.0
every_at Q (y ∷ xs) x all (inr among) = every_at Q xs x all.1 among

abbrev pub log_of : Own Point → Log
log_of (Keeps q flag) = q.log
log_of Waits = []
log_of Gone = []

module _ (code : Tables) (slot group n : ℕ) (whole : Whole) (all : Abreast)
    (g : Given code slot group n whole all) where
  -- what a tuple comes to by itself
  abbrev pub OwnAt : List ℤ → Own Point
  OwnAt t = own_run (log_ways code.exprs whole t) n 0 (units code slot group n whole all g)
      (record { cells = zeros code slot group n whole all g; log = [] })

  abbrev pub EndsAre : List (List ℤ) → List Kept → Type 0
  EndsAre ts news =
      Ends code g.rank n code.exprs whole (R code slot group n whole all g)
      (S code slot group n whole all g) (C code slot group n whole all g)
      (P code slot group n whole all g) (J code slot group n whole all g)
      (Zw code slot group n whole all g) (one code slot group n whole all g)
      (far code slot group n whole all g) (distinct code slot group n whole all g) 0
      (units code slot group n whole all g) (map (kept_at code slot group n whole all g) ts) news

  pub record EndAt (v : List ℤ) (Q : Kept → Type 0) : Type 0 where
    pub point : Point
    pub own : OwnAt v ≡ Keeps point None
    pub has : Q (record { at = v; point = point })

  pub end_at : (Q : Kept → Type 0) (ts : List (List ℤ)) (news : List Kept) → EndsAre ts news
      → Every Q news → (v : List ℤ) → Among ts v → EndAt v Q
  end_at Q [] news ends all v among = absurd among
  end_at Q (t ∷ ts) news (MoreEnds {q = q} own rest) all v (inl same) =
      subst (λ u. EndAt u Q) same (record { point = q; own = own; has = all.0 })
  end_at Q (t ∷ ts) news (MoreEnds {news = more} own rest) all v (inr among) =
      end_at Q ts more rest all.1 v among

  -- at each tuple
  pub end_places : (Q : List ℤ → Type 0) (ts : List (List ℤ)) (news : List Kept) → EndsAre ts news
      → Every Q ts → Every (λ (k : Kept). Q k.at) news
  end_places Q [] news NoEnd all = tt
  end_places Q (t ∷ ts) news (MoreEnds {news = more} own rest) all =
      (all.0, end_places Q ts more rest all.1)

  -- ---- what is accumulated
  abbrev pub sum_at : Fold → ℕ → List ℤ → ℤ
  sum_at f k t = folded f (joins k (log_of (OwnAt t)))

  pub ends_sum : (f : Fold) (k : ℕ) (ts : List (List ℤ)) (news : List Kept) → EndsAre ts news
      → folded f (kept_joins k news) ≡ folded f (map (sum_at f k) ts)
  ends_sum f k [] news NoEnd = refl
  ends_sum f k (t ∷ ts) news (MoreEnds {q = q} {news = more} own rest) =
      folded-append f (joins k q.log) (kept_joins k more)
      ∙ (ap (joined f (folded f (joins k q.log))) (ends_sum f k ts more rest)
      ∙ (ap (λ o. joined f (folded f (joins k (log_of o))) (folded f (map (sum_at f k) ts))) (sym own)
      ∙ sym (folded-cons f (sum_at f k t) (map (sum_at f k) ts))))

  -- ---- a processor
  module _ (p : ℕ) (below : p < processors code) where
    abbrev pub DoneAre : List (List ℤ) → List Point → Type 0
    DoneAre ts points =
        Done code g.rank n (K code slot group n whole all g) whole (R code slot group n whole all g)
        (S code slot group n whole all g) (P code slot group n whole all g)
        (J code slot group n whole all g) (Zp code slot group n whole all g p below)
        (one code slot group n whole all g) (far code slot group n whole all g)
        (distinct code slot group n whole all g) (low code slot group n whole all g)
        (D code slot group n whole all g) (zeros code slot group n whole all g)
        (zeros_long code slot group n whole all g) (units code slot group n whole all g)
        (all.shares p).stores
        (are code slot group n whole all g (Zp code slot group n whole all g p below)) ts points

    pub done_sum : (f : Fold) (k : ℕ) (ts : List (List ℤ)) (points : List Point) → DoneAre ts points
        → folded f (all_joins k (map bare_column ts) points) ≡ folded f (map (sum_at f k) ts)
    done_sum f k [] points NoneDone = refl
    done_sum f k (t ∷ ts) points (MoreDone {q = q} {qs = more} own divides rest) =
        folded-append f (joins k q.log) (all_joins k (map bare_column ts) more)
        ∙ (ap (joined f (folded f (joins k q.log))) (done_sum f k ts more rest)
        ∙ (ap (λ o. joined f (folded f (joins k (log_of o))) (folded f (map (sum_at f k) ts)))
        (sym own)
        ∙ sym (folded-cons f (sum_at f k t) (map (sum_at f k) ts))))

    pub record DoneAt (v : List ℤ) (a : ℕ) (s next : Whole) : Type 0 where
      pub point : Point
      pub flag : Option ℕ
      pub own : OwnAt v ≡ Keeps point flag
      pub has : (u : List ℤ) → has_place (Zp code slot group n whole all g p below a) u ≡ true
          → flattened (Zp code slot group n whole all g p below a).dims u ≡ v
          → value_at next.stores a u ≡ logged point.log a (value_at s.stores a u)

    pub done_at : (a : ℕ) (s next : Whole) (ts : List (List ℤ)) (points : List Point)
        → DoneAre ts points
        → AreOwn (P code slot group n whole all g) (J code slot group n whole all g)
        (Zp code slot group n whole all g p below) (one code slot group n whole all g) a s next
        (map bare_column ts) points
        → (v : List ℤ) → Among ts v → DoneAt v a s next
    done_at a s next [] points done own v among = absurd among
    done_at a s next (t ∷ ts) points (MoreDone {q = q} {flag = flag} is divides rest) own v (inl same) =
        subst (λ u. DoneAt u a s next) same
        (record { point = q; flag = flag; own = is; has = own.0 })
    done_at a s next (t ∷ ts) points (MoreDone {qs = more} is divides rest) own v (inr among) =
        done_at a s next ts more rest own.1 v among

    -- ---- what it has written
    abbrev pub ThroughTo : group_of.Point (List Array) → Type 0
    ThroughTo to =
        IsThrough code g.rank n (K code slot group n whole all g) whole
        (R code slot group n whole all g) (S code slot group n whole all g)
        (P code slot group n whole all g) (J code slot group n whole all g)
        (Zp code slot group n whole all g p below) (one code slot group n whole all g)
        (far code slot group n whole all g) (distinct code slot group n whole all g)
        (low code slot group n whole all g) (D code slot group n whole all g)
        (zeros code slot group n whole all g) (zeros_long code slot group n whole all g)
        (units code slot group n whole all g) (all.shares p).stores
        (are code slot group n whole all g (Zp code slot group n whole all g p below))
        (point_of code n (all.shares p)) to (part code slot group n whole all g p)

    columns_own : (ts : List (List ℤ))
        → ((t : List ℤ) → Among ts t → Among (part code slot group n whole all g p) t)
        → Every (λ (column : Column). HasOwn (P code slot group n whole all g)
        (J code slot group n whole all g) (Zp code slot group n whole all g p below)
        (one code slot group n whole all g) column.at) (map bare_column ts)
    columns_own [] within = tt
    columns_own (t ∷ ts) within = (
      (has_tuple code slot group n whole all g p below t (within t (inl refl))).owns,
      columns_own ts (λ u k. within u (inr k)),
    )

    columns_apart : (ts : List (List ℤ)) → AreApart ts
        → Apart (P code slot group n whole all g)
        (J code slot group n whole all g) (Zp code slot group n whole all g p below)
        (one code slot group n whole all g) (map bare_column ts)
    columns_apart [] apart = tt
    columns_apart (t ∷ ts) apart = (others t ts apart.0, columns_apart ts apart.1)
      where
        others : (t : List ℤ) (ts : List (List ℤ)) → Every (λ u. u ≡ t → ⊥) ts
            → Every (λ (other : Column). t ≡ other.at → ⊥) (map bare_column ts)
        others t [] all = tt
        others t (u ∷ ts) all = ((λ same. all.0 (sym same)), others t ts all.1)

    abbrev pub WroteTo : group_of.Point (List Array) → List Point → Type 0
    WroteTo to points =
        AllWrote (P code slot group n whole all g) (J code slot group n whole all g)
        (Zp code slot group n whole all g p below) (one code slot group n whole all g)
        (map bare_column (part code slot group n whole all g p)) points
        (whole_of (point_of code n (all.shares p))) (whole_of to)

    pub wrote_to : (to : group_of.Point (List Array)) (through : ThroughTo to)
        → WroteTo to through.points
    wrote_to to through =
        all_wrote (P code slot group n whole all g) (J code slot group n whole all g)
        (Zp code slot group n whole all g p below) (one code slot group n whole all g)
        (map bare_column (part code slot group n whole all g p)) through.points
        (whole_of (point_of code n (all.shares p))) (whole_of to)
        (state code slot group n whole all g p below).placed
        (columns_own (part code slot group n whole all g p) (λ t k. k))
        (columns_apart (part code slot group n whole all g p)
        (members_apart (own_part code p g.region))) through.logs through.wrote

    -- ---- arrays
    abbrev pub StageIs : Whole → List Kept → Type 0
    StageIs next news =
        Stage code g.rank n code.exprs whole (R code slot group n whole all g)
        (S code slot group n whole all g) (C code slot group n whole all g)
        (P code slot group n whole all g) (J code slot group n whole all g)
        (Zw code slot group n whole all g) (one code slot group n whole all g)
        (far code slot group n whole all g) (distinct code slot group n whole all g) next news

    module _ (to : group_of.Point (List Array)) (through : ThroughTo to) (next : Whole)
        (news : List Kept) (ends : EndsAre (tuples code slot group n whole all g) news)
        (stage : StageIs next news) where
      wrote : WroteTo to through.points
      wrote = wrote_to to through

      -- an array that is put
      put_has : (a : ℕ) → P code slot group n whole all g a ≡ true → (u : List ℤ) (value : ℤ)
          → (row : ArrayRow) → slice_get code.arrays a ≡ Some row
          → lies_in_own code p row u ≡ true → value_at next.stores a u ≡ Some value
          → value_at to.store a u ≡ Some value
      put_has a is u value row there lies found = by (among_cases (tuples code slot group n whole all g) v)
        where
          writes : IsWritable code whole g.region a
          writes = is_written code g.layout g.exprs_fit slot group g.rank g.group_members g.there g.fit
              g.apart whole all g.holds g.region g.slot_is g.settled g.stands p below
              (brought_here code slot group n whole all g p below) a is

          same_row : writes.row ≡ row
          same_row = some_is (sym writes.there ∙ there)

          lies_here : lies_in_own code p writes.row u ≡ true
          lies_here = subst (λ r. lies_in_own code p r u ≡ true) (sym same_row) lies

          zone : Region
          zone = Zw code slot group n whole all g a

          v : List ℤ
          v = flattened (Zw code slot group n whole all g a).dims u

          place : has_place (Zw code slot group n whole all g a) u ≡ true
          place =
              let at = stage.placed a is in
              let held = held_of_value next.stores a u value found in
              subst (λ r. has_place r u ≡ true)
              (ap (λ (x : Array). x.storage) (some_is (sym held.there ∙ at.there)) ∙ at.storage) held.has

          place_whole : has_place writes.store.storage u ≡ true
          place_whole = subst (λ r. has_place r u ≡ true) (ap storage_or writes.here) place

          base : value_at whole.stores a u ≡ Some (element writes.store u)
          base = value_held whole.stores a writes.store u writes.here
              ∙ held_there u writes.store place_whole

          own_base : value_at (all.shares p).stores a u ≡ Some (element writes.store u)
          own_base = own_has code g.layout p below a writes.row writes.there whole all g.holds writes.store
              writes.here u lies_here place_whole

          own_place : has_place (Zp code slot group n whole all g p below a) u ≡ true
          own_place =
              let held = held_of_value (all.shares p).stores a u (element writes.store u) own_base in
              subst (λ r. has_place r u ≡ true) (sym (ap storage_or held.there)) held.has

          shape_is : flattened (Zw code slot group n whole all g a).dims u
              ≡ flattened (storage_of writes.row).dims u
          shape_is =
              ap (λ (r : Region). flattened r.dims u) (ap storage_or writes.here)
              ∙ whole_flat writes.row writes.store (fit code g.layout a writes.row writes.there)
              (floods_of code whole all g.holds a writes.row writes.store writes.there writes.here) u
              place_whole u

          own_same : flattened (Zp code slot group n whole all g p below a).dims u
              ≡ flattened (Zw code slot group n whole all g a).dims u
          own_same =
              own_flat code g.layout g.exprs_fit slot group g.rank g.group_members g.there g.fit
              g.apart whole all g.holds g.region g.slot_is g.settled g.stands p below
              (brought_here code slot group n whole all g p below) a is u own_place
              ∙ sym shape_is

          region_same : flattened g.region.dims u ≡ flattened (Zw code slot group n whole all g a).dims u
          region_same =
              matching_flat writes.row g.region writes.match
              (g.slot_is.many ∙ sym (three code g.layout a writes.row writes.there)) u
              ∙ sym shape_is

          in_part : Among (tuples code slot group n whole all g)
              (flattened (Zw code slot group n whole all g a).dims u)
              → Among (part code slot group n whole all g p)
              (flattened (Zw code slot group n whole all g a).dims u)
          in_part among =
              let has_it : each_has_place g.region.dims (flattened (Zw code slot group n whole all g a).dims u)
              ≡ true =
              place_of_member g.region.dims (flattened (Zw code slot group n whole all g a).dims u)
              g.slot_is.fits.steps
              (member_coordinates code g.layout g.rank g.region g.slot_is _ among) in
              let has_u : has_place g.region u ≡ true =
              sym (has_flattened g.region.dims u) ∙ (ap (each_has_place g.region.dims) region_same ∙ has_it) in
              member_part code g.layout g.rank g.region g.slot_is p _
              (subst (IsMember (own_part code p g.region)) region_same
              (in_own_part code p writes.row g.region
              (three code g.layout a writes.row writes.there)
              (slot_of code g.layout g.exprs_fit slot group g.rank g.group_members g.there g.fit
              g.apart whole all g.holds g.region g.slot_is g.settled g.stands p below
              (brought_here code slot group n whole all g p below) a writes.row writes.there
              (put_ranked code g.exprs_fit slot group g.rank g.group_members g.there g.fit g.apart whole
              g.region a is)) u writes.match lies_here has_u))

          both : (one other : Point) (flag : Option ℕ)
              → OwnAt (flattened (Zw code slot group n whole all g a).dims u) ≡ Keeps one None
              → OwnAt (flattened (Zw code slot group n whole all g a).dims u) ≡ Keeps other flag
              → one ≡ other
          both one other flag e f = kept_point (sym e ∙ f)
            where
              kept_point : {x y : Point} {c d : Option ℕ} → Keeps x c ≡ Keeps y d → x ≡ y
              kept_point e = cc

          far_part : (ts : List (List ℤ))
              → ((t : List ℤ) → Among ts t → Among (tuples code slot group n whole all g) t)
              → Every (λ t. flattened (Zw code slot group n whole all g a).dims u ≡ t → ⊥)
              (tuples code slot group n whole all g)
              → FarFrom (P code slot group n whole all g) (J code slot group n whole all g)
              (Zp code slot group n whole all g p below) (one code slot group n whole all g) a u
              (map bare_column ts)
          far_part [] within none = tt
          far_part (t ∷ ts) within none = (
            (λ same. every_at (λ t. flattened (Zw code slot group n whole all g a).dims u ≡ t → ⊥)
                (tuples code slot group n whole all g) t none (within t (inl refl)) (sym own_same ∙ same)),
            far_part ts (λ t k. within t (inr k)) none,
          )

          by : Among (tuples code slot group n whole all g)
              (flattened (Zw code slot group n whole all g a).dims u)
              ⊎ Every (λ t. flattened (Zw code slot group n whole all g a).dims u ≡ t → ⊥)
              (tuples code slot group n whole all g)
              → value_at to.store a u ≡ Some value
          by (inl among) =
              let flat = end_at
              (λ (k : Kept). (u : List ℤ) → has_place (Zw code slot group n whole all g a) u ≡ true
              → flattened (Zw code slot group n whole all g a).dims u ≡ k.at
              → value_at next.stores a u ≡ logged k.point.log a (value_at whole.stores a u))
              (tuples code slot group n whole all g) news ends (stage.own a is) _ among in
              let mine = done_at a (whole_of (point_of code n (all.shares p))) (whole_of to)
              (part code slot group n whole all g p) through.points through.done (wrote.own a is) _
              (in_part among) in
              mine.has u own_place own_same
              ∙ (ap (logged mine.point.log a) (own_base ∙ sym base)
              ∙ (ap (λ (q : Point). logged q.log a (value_at whole.stores a u))
              (sym (both flat.point mine.point mine.flag flat.own mine.own))
              ∙ (sym (flat.has u place refl) ∙ found)))
          by (inr none) =
              wrote.elsewhere a u is own_place
              (far_part (part code slot group n whole all g p)
              (λ t k. (inside_region code g.layout g.rank g.region g.slot_is p t k).0) none)
              ∙ (own_base ∙ (sym base
              ∙ (sym (stage.elsewhere a u is place
              (end_places (λ t. flattened (Zw code slot group n whole all g a).dims u ≡ t → ⊥)
              (tuples code slot group n whole all g) news ends none)) ∙ found)))

      pub part_has : (a : ℕ) (row : ArrayRow) (store own : Array)
          → slice_get code.arrays a ≡ Some row → slice_get next.stores a ≡ Some store
          → slice_get to.store a ≡ Some own → HasPart code p row store own
      part_has a row store own there here mine = by (P code slot group n whole all g a) refl
        where
          by : (b : Bool) → P code slot group n whole all g a ≡ b → HasPart code p row store own
          by false e =
              (g.holds.own p below).arrays a row store own there
              (sym (stage.stays.unput a e) ∙ here) (sym (wrote.stays.unput a e) ∙ mine)
          by true e = record {
            has = λ u value lies held.
                sym (value_held to.store a own u mine)
                ∙ put_has a e u value row there lies (value_held next.stores a store u here ∙ held);
          }
