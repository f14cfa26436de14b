-- A statement under prefixes goes as its code, where what stands behind them does.
use Rattle.std.proofs.Common.{◌≡◌, refl, sym, ◌∙◌, ap, subst, arith, ℕ, zero, suc, ◌≤◌, ◌<◌}
use Rattle.std.proofs.Common.{Bool, true, false, ℤ, pos, List, [], ◌∷◌, length, Option, Some, None}
use Rattle.std.specs.Prelude.{IsSome, slice_get, slice_index_or, option_and_then, is_none}
use Rattle.std.specs.Option.{option_map}
use Rattle.std.specs.List.{AllZip}
use Rattle.zpl_nums.specs.Integer.{IsInteger}
use Rattle.zpl_nums.specs.declared.folds.Fold.{Fold}
use Rattle.zpl_region.specs.declared.regions.Region.{Region}
use Rattle.zpl_arrays.specs.Array.{Array}
use Rattle.zpl_tree.specs.Syntax.{Name, Mask as MaskText, RegionBase, NamedRegion, Ditto, NamedDir, Inner, Rexpr, Dims, NoPost, ThenPost, Prefix}
use Rattle.zpl_names.specs.Kinds.{Rank}
use Rattle.zpl_names.specs.Ranks.{inner_rank, mask_rank}
use Rattle.zpl_names.specs.Shapes.{prefix_rank}
use Rattle.zpl_binding.specs.Outcome.{Outcome as BoundOutcome, value_or}
use Rattle.zpl_binding.specs.Regions.{Known, no_region}
use Rattle.array_runs.specs.of_zpl_meaning.Computed as mean_computed
use Rattle.array_runs.specs.of_zpl_meaning.Computed.{computed_then}
use Rattle.row_runs.specs.Straight.{Every}
use Rattle.array_runs.specs.of_zpl_meaning.Store.{Thing, Scalar, ArrayAt, Fixed, Store, no_array, thing_of}
use Rattle.array_runs.specs.of_zpl_meaning.Context.{Mask, Currents, Over, over_at, with_over, Edge, Place}
use Rattle.array_runs.specs.of_zpl_meaning.Proper.{HasCurrent, IsArrayRank}
use Rattle.array_runs.specs.of_zpl_meaning.Regions.{vector_in, inner_over, mask_thing, mask_in, base_in, edge_in}
use Rattle.array_runs.specs.of_zpl_meaning.Regions as mean_regions
use Rattle.array_runs.specs.of_zpl_meaning.Outcome as out
use Rattle.array_runs.specs.of_zpl_meaning.Outcome.{Outcome}
use Rattle.array_runs.specs.of_zpl_meaning.Statement as mean
use Rattle.array_runs.specs.of_zpl_meaning.Statement.{Context}
use Rattle.node_form.specs.declared.tables.Tables.{Tables}
use Rattle.row_runs.specs.Structured as code
use Rattle.row_runs.specs.Structured.{Course, rows_do}
use Rattle.array_runs.specs.of_flat_form.States.{IsStoreOf}
use Rattle.array_runs.specs.of_flat_form.Whole.{Whole}
use Rattle.array_runs.specs.of_zpl_lowering.Where.{Stored, Slotted, SlotCurrents, SlotEdge, slotted_or, slotted_at, with_slotted, Where, Next, line_of}
use Rattle.array_runs.specs.of_zpl_lowering.Lowered.{Lowered, behind}
use Rattle.array_runs.specs.of_zpl_lowering.Bracket.{Opened, region_slot}
use Rattle.array_runs.specs.of_zpl_lowering.Statement as low
use Rattle.array_runs.specs.of_zpl_lowering.Statement.{Lowering, of_opened}
use Rattle.array_runs.specs.of_lowering_runs.Seen.{slot_in, Spot, Sight, numbered, seen_thing, seen_names, seen_over, seen_currents, seen_edge, seen_place, seen_store}
use Rattle.array_runs.specs.of_lowering_runs.Run.{step, decide, does}
use Rattle.array_runs.specs.of_lowering_runs.Agrees.{Agrees, Trapping}
use Rattle.array_runs.specs.of_lowering_runs.Stands.{IsBefore, IsTaken, IsTakenEdge, AreTaken, Stands, HasRoom, IsCurrent, IsHeld, IsSound, IsLike}
use Rattle.array_runs.specs.of_lowering_runs.Goes.{World, context, lowering, Goes, GoesTo}
use Rattle.array_runs.proofs.of_lowering_runs.AgreeLemmas.{alike_agrees}
use Rattle.array_runs.proofs.of_lowering_runs.ValueLemmas.{thing_seen}
use Rattle.array_runs.proofs.of_lowering_runs.FitLemmas.{IsCarried, anew_goes_to, currents_kept, held_on, stands_on, before_behind, keeps_all, room_coded, room_first, room_rest, room_here}
use Rattle.array_runs.proofs.CodedLemmas.{current_of, region_of}
use Rattle.array_runs.proofs.StoredLemmas.{index_of_found}
use Rattle.prefix_runs.specs.Opens.{IsOpenedAs, IsGivenRegion, Opens}
use Rattle.prefix_runs.specs.Filled.{IsFilled}
use Rattle.prefix_runs.specs.Under.{OpensPrefix, opened_at, over_of, mean_under, IsUnder}
use Rattle.prefix_runs.proofs.ShapedLemmas.{Told}
use Rattle.prefix_runs.proofs.SpanLemmas.{CurrentIf}
use Rattle.prefix_runs.proofs.FillLemmas.{Filling, Fills, Refuses, declared_first, region_below}
use Rattle.prefix_runs.proofs.OpenLemmas.{Comes, computed_comes, bracket_comes}

-- ---- the place behind a prefix

pub over_with : (currents : SlotCurrents) (rank : Rank) (whole : Whole) (slotted : Slotted)
    → with_over (seen_currents whole currents) rank (seen_over whole slotted)
    ≡ seen_currents whole (with_slotted currents rank slotted)
over_with currents (Some (suc zero)) whole slotted = refl
over_with currents (Some (suc (suc zero))) whole slotted = refl
over_with currents (Some (suc (suc (suc zero)))) whole slotted = refl
over_with currents (Some zero) whole slotted = refl
over_with currents (Some (suc (suc (suc (suc n))))) whole slotted = refl
over_with currents None whole slotted = refl

-- another current region of a rank is its current region
pub slotted_with : (currents : SlotCurrents) (rank : ℕ) (slotted : Slotted)
    → IsArrayRank (Some rank) → slotted_at (with_slotted currents (Some rank) slotted) (Some rank) ≡ slotted
slotted_with currents (suc zero) slotted r = refl
slotted_with currents (suc (suc zero)) slotted r = refl
slotted_with currents (suc (suc (suc zero))) slotted r = refl
slotted_with currents zero slotted r = absurd r
slotted_with currents (suc (suc (suc (suc k)))) slotted r = absurd r

pub over_with_itself : (currents : Currents) (rank : ℕ) (over : Over) → IsArrayRank (Some rank)
    → over_at (with_over currents (Some rank) over) (Some rank) ≡ over
over_with_itself currents (suc zero) over r = refl
over_with_itself currents (suc (suc zero)) over r = refl
over_with_itself currents (suc (suc (suc zero))) over r = refl
over_with_itself currents zero over r = absurd r
over_with_itself currents (suc (suc (suc (suc k)))) over r = absurd r

pub taken_with : (currents : SlotCurrents) (rank : Rank) (slotted : Slotted) (slots : ℕ)
    → slotted.slot < slots → AreTaken currents slots
    → AreTaken (with_slotted currents rank slotted) slots
taken_with currents (Some (suc zero)) slotted slots l h =
    record { one = l; two = h.two; three = h.three }
taken_with currents (Some (suc (suc zero))) slotted slots l h =
    record { one = h.one; two = l; three = h.three }
taken_with currents (Some (suc (suc (suc zero)))) slotted slots l h =
    record { one = h.one; two = h.two; three = l }
taken_with currents (Some zero) slotted slots l h = h
taken_with currents (Some (suc (suc (suc (suc n))))) slotted slots l h = h
taken_with currents None slotted slots l h = h

pub held_with : (tables : Tables) (w : Where) (slots : List Region) (rank : ℕ) (slotted : Slotted)
    → IsArrayRank (Some rank) → IsCurrent slots rank slotted
    → IsHeld tables w.setup.known w.numbers.arrays w.currents slots
    → IsHeld tables w.setup.known w.numbers.arrays (with_slotted w.currents (Some rank) slotted) slots
held_with tables w slots (suc zero) slotted r c h = record {
  stored = h.stored;
  apart = h.apart;
  one = c;
  two = h.two;
  three = h.three;
  declared = h.declared;
}
held_with tables w slots (suc (suc zero)) slotted r c h = record {
  stored = h.stored;
  apart = h.apart;
  one = h.one;
  two = c;
  three = h.three;
  declared = h.declared;
}
held_with tables w slots (suc (suc (suc zero))) slotted r c h = record {
  stored = h.stored;
  apart = h.apart;
  one = h.one;
  two = h.two;
  three = c;
  declared = h.declared;
}
held_with tables w slots zero slotted r c h = absurd r
held_with tables w slots (suc (suc (suc (suc k)))) slotted r c h = absurd r

pub rank_above : (rank : ℕ) → IsArrayRank (Some rank) → 1 ≤ rank
rank_above zero r = absurd r
rank_above (suc rank) r = omega arith

pub rank_few : (rank : ℕ) → IsArrayRank (Some rank) → rank ≤ 3
rank_few zero r = omega arith
rank_few (suc zero) r = omega arith
rank_few (suc (suc zero)) r = omega arith
rank_few (suc (suc (suc zero))) r = omega arith
rank_few (suc (suc (suc (suc k)))) r = absurd r

slot_taken : (whole : Whole) (slots : ℕ) (o : Option Slotted) → IsTaken o slots
    → IsSome (option_map (seen_over whole) o) → (slotted_or o).slot < slots
slot_taken whole slots None t h = absurd (let bad : false ≡ true = h in cc)
slot_taken whole slots (Some one) t h = t

pub taken_at : (currents : SlotCurrents) (whole : Whole) (rank : Rank) (slots : ℕ)
    → AreTaken currents slots → HasCurrent (seen_currents whole currents) rank
    → (slotted_at currents rank).slot < slots
taken_at currents whole (Some (suc zero)) slots t h =
    slot_taken whole slots currents.one t.one h
taken_at currents whole (Some (suc (suc zero))) slots t h =
    slot_taken whole slots currents.two t.two h
taken_at currents whole (Some (suc (suc (suc zero)))) slots t h =
    slot_taken whole slots currents.three t.three h
taken_at currents whole (Some zero) slots t h = absurd h
taken_at currents whole (Some (suc (suc (suc (suc k))))) slots t h = absurd h
taken_at currents whole None slots t h = absurd h

-- the current region of a rank, which there is
pub current_if : (tables : Tables) (w : Where) (now : Whole) (rank : ℕ)
    → IsHeld tables w.setup.known w.numbers.arrays w.currents now.slots
    → HasCurrent (seen_currents now w.currents) (Some rank)
    → (c : IsCurrent now.slots rank (slotted_at w.currents (Some rank)))
    × (c.region ≡ (over_at (seen_currents now w.currents) (Some rank)).region)
current_if tables w now rank held h =
    let c = current_of tables w now (Some rank) held h in
    same c.of (rank_of c.is_of) c.current (region_of w now (Some rank) c)
  where
    rank_of : {a b : ℕ} → Some a ≡ Some b → b ≡ a
    rank_of e = cc

    same : (k : ℕ) → k ≡ rank → (c : IsCurrent now.slots k (slotted_at w.currents (Some rank)))
        → (over_at (seen_currents now w.currents) (Some rank)).region ≡ c.region
        → (c : IsCurrent now.slots rank (slotted_at w.currents (Some rank)))
        × (c.region ≡ (over_at (seen_currents now w.currents) (Some rank)).region)
    same k e c is = (
      record {
        region = c.region;
        found = c.found;
        is = c.is;
        three = c.three;
        ranked = c.ranked ∙ e;
        flood = c.flood;
      },
      sym is,
    )

-- ---- masks, and the border that a prefix is

mask_same : (spots : List Spot) (w : Where) (mask : Option MaskText)
    → mask_in (record { names = seen_names spots w.environment.names }) mask
    ≡ mask_in w.environment mask
mask_same spots w None = refl
mask_same spots w (Some mask) =
    ap (mask_thing mask.without) (thing_seen spots w.environment.names mask.name.text)
    ∙ by (thing_of w.environment mask.name.text)
  where
    by : (o : Option Thing)
        → mask_thing mask.without (option_map (seen_thing spots) o) ≡ mask_thing mask.without o
    by None = refl
    by (Some (Scalar p)) = refl
    by (Some (ArrayAt p home)) = refl
    by (Some (Fixed value)) = refl

module _ (w : Where) (after : Whole) (slotted : Slotted) (current : Region) where
  abbrev known : Known
  known = w.setup.known

  edge_pre : (dir : Name) (outside : Bool) (base : RegionBase)
      → slot_in after (low.base_slot known slotted
      (Rexpr (record { dir = dir; outside = outside } ∷ []) base NoPost))
      ≡ base_in known current base
      → option_map (seen_edge after) (low.edge_of known slotted
      (Rexpr (record { dir = dir; outside = outside } ∷ []) base NoPost))
      ≡ edge_in known current (Rexpr (record { dir = dir; outside = outside } ∷ []) base NoPost)
  edge_pre dir true base h =
      ap (λ (r : Region). let e : Edge = record { shift = vector_in known (NamedDir dir); region = r }
      in Some e) h
  edge_pre dir false base h = refl

  edge_pre_taken : (dir : Name) (outside : Bool) (base : RegionBase) (slots : ℕ)
      → low.base_slot known slotted
      (Rexpr (record { dir = dir; outside = outside } ∷ []) base NoPost) < slots
      → IsTakenEdge (low.edge_of known slotted
      (Rexpr (record { dir = dir; outside = outside } ∷ []) base NoPost)) slots
  edge_pre_taken dir true base slots h = h
  edge_pre_taken dir false base slots h = tt

  -- the slot of a border's region has it, and is taken
  abbrev HasBase : ℕ → RegionBase → Type 0
  HasBase slots (NamedRegion name) =
      (slot_in after (region_slot known name) ≡ base_in known current (NamedRegion name))
      × (region_slot known name < slots)
  HasBase slots (Ditto at) = (slot_in after slotted.slot ≡ current) × (slotted.slot < slots)

  abbrev HasEdge : ℕ → Inner → Type 0
  HasEdge slots (Rexpr (pre ∷ []) base NoPost) = HasBase slots base
  HasEdge slots inner = Unit {0}

  edge_same : (slots : ℕ) (inner : Inner) → HasEdge slots inner
      → option_map (seen_edge after) (low.edge_of known slotted inner) ≡ edge_in known current inner
  edge_same slots (Rexpr (pre ∷ []) (NamedRegion name) NoPost) h =
      edge_pre pre.dir pre.outside (NamedRegion name) h.0
  edge_same slots (Rexpr (pre ∷ []) (Ditto at) NoPost) h =
      edge_pre pre.dir pre.outside (Ditto at) h.0
  edge_same slots (Rexpr [] base post) h = refl
  edge_same slots (Rexpr (pre ∷ []) base (ThenPost stride dir rest)) h = refl
  edge_same slots (Rexpr (pre ∷ second ∷ rest) base post) h = refl
  edge_same slots (Dims dims) h = refl

  edge_taken : (slots : ℕ) (inner : Inner) → HasEdge slots inner
      → IsTakenEdge (low.edge_of known slotted inner) slots
  edge_taken slots (Rexpr (pre ∷ []) (NamedRegion name) NoPost) h =
      edge_pre_taken pre.dir pre.outside (NamedRegion name) slots h.1
  edge_taken slots (Rexpr (pre ∷ []) (Ditto at) NoPost) h =
      edge_pre_taken pre.dir pre.outside (Ditto at) slots h.1
  edge_taken slots (Rexpr [] base post) h = tt
  edge_taken slots (Rexpr (pre ∷ []) base (ThenPost stride dir rest)) h = tt
  edge_taken slots (Rexpr (pre ∷ second ∷ rest) base post) h = tt
  edge_taken slots (Dims dims) h = tt

-- ---- a state in which slots were filled

index_same : (xs ys : List Region) (k : ℕ) → slice_get ys k ≡ slice_get xs k
    → slice_index_or ys k no_region ≡ slice_index_or xs k no_region
index_same xs ys k e =
    index_is ys k ∙ ap or_none e ∙ sym (index_is xs k)
  where
    or_none : Option Region → Region
    or_none None = no_region
    or_none (Some region) = region

    index_is : (zs : List Region) (k : ℕ)
        → slice_index_or zs k no_region ≡ or_none (slice_get zs k)
    index_is [] zero = refl
    index_is [] (suc k) = refl
    index_is (z ∷ zs) zero = refl
    index_is (z ∷ zs) (suc k) = index_is zs k

module _ (tables : Tables) (bottom : ℕ) (now after : Whole) (filled : IsFilled bottom now after) where
  pub slots_kept : (k : ℕ) → k < bottom → slot_in after k ≡ slot_in now k
  slots_kept k lt = index_same now.slots after.slots k (filled.below k lt)

  pub filled_sound : IsSound tables now → IsSound tables after
  filled_sound h = record {
    filled = record {
      scalars = ap (λ (xs : List ℤ). length xs) filled.scalars ∙ h.filled.scalars;
      awaited = ap (λ (xs : List (Option Fold)). length xs) filled.awaited ∙ h.filled.awaited;
      slots = filled.many ∙ h.filled.slots;
      stores = subst (λ (xs : List Array). AllZip IsStoreOf tables.arrays xs) (sym filled.stores)
          h.filled.stores;
    };
    settled = λ k. ap (λ (xs : List (Option Fold)). is_none (option_and_then (λ awaited. awaited)
        (slice_get xs k))) filled.awaited ∙ h.settled k;
    integers = λ k. subst (λ (xs : List ℤ). IsInteger (slice_index_or xs k (pos 0)))
        (sym filled.scalars) (h.integers k);
    elements = λ k row e kept. subst (λ (xs : List Array). Every IsInteger (slice_index_or xs k no_array).values)
        (sym filled.stores) (h.elements k row e kept);
  }

  pub store_kept : (spots : List Spot) (arrays : List Stored)
      → seen_store spots arrays after ≡ seen_store spots arrays now
  store_kept spots arrays =
      ap (λ (xs : List ℤ). seen_store spots arrays (record after { scalars = xs })) filled.scalars
      ∙ ap (λ (xs : List Array). seen_store spots arrays (record now { stores = xs })) filled.stores

-- ---- one prefix

module _ (world : World) (Ended : Sight → Where → Next → Whole → Store → Whole → Type 0)
    (carried : IsCarried world.tables Ended) (borders : Bool) (prefix : Prefix) (rest : List Prefix)
    (IsServed : Where → Place → Type 0) (run : Context → Store → Outcome)
    (made : Lowering → Next → Lowered) (spare : ℕ)
    (goes : GoesTo world Ended (IsUnder borders rest IsServed)
    (λ c store. mean.under c rest store (λ inner. run inner store))
    (λ l next. low.lowered_under borders l next rest made) spare)
    (sight : Sight) (w : Where) (next : Next) (now : Whole) (stands : Stands sight.spots w next)
    (served : IsUnder borders (prefix ∷ rest) IsServed w (seen_place sight w now))
    (room : HasRoom world.tables next
    (low.lowered_under borders (lowering world w) next (prefix ∷ rest) made))
    (like : IsLike world.tables sight.spots w next now
    (seen_store sight.spots w.numbers.arrays now) now) where
  abbrev tables : Tables
  tables = world.tables

  abbrev p : Place
  p = seen_place sight w now

  abbrev store : Store
  store = seen_store sight.spots w.numbers.arrays now

  abbrev line : ℕ
  line = line_of w prefix.at

  abbrev last : Bool
  last = low.is_last borders rest

  abbrev o : OpensPrefix prefix p
  o = served.0

  abbrev hint : Rank
  hint = mask_rank w.scope prefix.mask

  abbrev bracket_rank : Rank
  bracket_rank = inner_rank w.scope hint w.prefix prefix.region

  abbrev slotted : Slotted
  slotted = low.current_for w prefix

  abbrev current : Region
  current = (over_at p.currents bracket_rank).region

  abbrev opened : Opened
  opened = opened_at last w next.slots line prefix

  abbrev more : Next
  more = behind next (of_opened opened)

  abbrev inner_w : Where
  inner_w = low.under_prefix w prefix opened

  abbrev inner_made : Lowered
  inner_made = low.lowered_under borders (lowering world inner_w) more rest made

  here : next.scalars ≤ tables.scalars
  here = room_here tables next (low.lowered_under borders (lowering world w) next (prefix ∷ rest) made)
      room

  has : CurrentIf now p o.rank slotted current
  has = subst (λ (r : Rank). CurrentIf now p o.rank (slotted_at w.currents r)
      (over_at p.currents r).region) (sym o.ranked)
      (λ h. current_if tables w now o.rank like.held h)

  slot_free : HasCurrent p.currents (Some o.rank) → slotted.slot < next.slots
  slot_free = subst (λ (r : Rank). HasCurrent p.currents (Some o.rank)
      → (slotted_at w.currents r).slot < next.slots) (sym o.ranked)
      (λ h. taken_at w.currents now (Some o.rank) next.slots stands.taken h)

  abbrev value : mean_computed.Computed Region
  value = inner_over p store current prefix.region

  abbrev IsComing : Opened → mean_computed.Computed Region → Type 0
  IsComing = Comes tables world.turns sight w next now stands here like.sound like.held.declared line
      o.rank (rank_above o.rank o.is_rank) (rank_few o.rank o.is_rank) slotted current has slot_free

  comes : IsComing opened value
  comes = by last
    where
      by : (b : Bool)
          → IsComing (low.prefix_opened b w next.slots line slotted prefix.region) value
      by true =
          computed_comes tables world.turns sight w next now stands here like.sound
          like.held.declared line o.rank (rank_above o.rank o.is_rank) (rank_few o.rank o.is_rank)
          slotted current has slot_free prefix.region o.opens
      by false =
          bracket_comes tables world.turns sight w next now stands here like.sound
          like.held.declared line o.rank (rank_above o.rank o.is_rank) (rank_few o.rank o.is_rank)
          slotted current has slot_free prefix.region o.opens

  -- ---- behind it

  module _ (region : Region) (after : Whole) (found : slice_get after.slots opened.slot ≡ Some region)
      (filled : IsFilled next.slots now after) (told : IsOpenedAs opened.flood region)
      (meant : value ≡ mean_computed.Gives region) where
    abbrev inner_p : Place
    inner_p = mean_under p prefix region

    kept : (k : ℕ) → k < next.slots → slot_in after k ≡ slot_in now k
    kept = slots_kept tables next.slots now after filled

    named_base : (name : Name) → IsGivenRegion w.setup.known name
        → HasBase w after slotted current next.slots (NamedRegion name)
    named_base name g =
        let known = w.setup.known in
        let below = region_below known.regions (region_slot known name) g.one g.in_slot in
        let lt : region_slot known name < next.slots = omega (arith, below, stands.declared) in (
          kept (region_slot known name) lt
              ∙ index_of_found now.slots (region_slot known name) g.region no_region
              (declared_first known.regions now.slots (region_slot known name) g.one
              like.held.declared g.in_slot
              ∙ ap (λ (x : BoundOutcome Region). Some (value_or no_region x)) g.outcome)
              ∙ sym (ap (λ (x : BoundOutcome Region). value_or no_region x) g.named),
          lt,
        )

    ditto_base : HasCurrent p.currents (Some o.rank)
        → (slot_in after slotted.slot ≡ current) × (slotted.slot < next.slots)
    ditto_base h =
        let c = has h in
        let lt = slot_free h in (
          kept slotted.slot lt
              ∙ index_of_found now.slots slotted.slot c.0.region no_region c.0.found ∙ c.1,
          lt,
        )

    has_edge : (inner : Inner) → Opens p o.rank inner → HasEdge w after slotted current next.slots inner
    has_edge (Rexpr (pre ∷ []) (NamedRegion name) NoPost) h = named_base name h.0
    has_edge (Rexpr (pre ∷ []) (Ditto at) NoPost) h = ditto_base h.0
    has_edge (Rexpr [] base post) h = tt
    has_edge (Rexpr (pre ∷ []) base (ThenPost stride dir rest)) h = tt
    has_edge (Rexpr (pre ∷ second ∷ rest) base post) h = tt
    has_edge (Dims dims) h = tt

    edge : HasEdge w after slotted current next.slots prefix.region
    edge = has_edge prefix.region o.opens

    abbrev own_rank : Rank
    own_rank = prefix_rank w.scope w.prefix prefix

    abbrev inner_slotted : Slotted
    inner_slotted = record {
      slot = opened.slot;
      flood = opened.flood;
      mask = mask_in w.environment prefix.mask;
    }

    currents_are : seen_currents after (with_slotted w.currents own_rank inner_slotted)
        ≡ inner_p.currents
    currents_are =
        sym (over_with w.currents own_rank after inner_slotted)
        ∙ ap (λ (c : Currents). with_over c own_rank (seen_over after inner_slotted))
        (currents_kept now after next.slots kept w.currents stands.taken)
        ∙ ap (λ (r : Region). with_over p.currents own_rank
        (record { region = r; mask = mask_in w.environment prefix.mask }))
        (index_of_found after.slots opened.slot region no_region found)
        ∙ ap (λ (m : Option Mask). with_over p.currents own_rank
        (record { region = region; mask = m })) (sym (mask_same sight.spots w prefix.mask))

    place_is : seen_place sight inner_w after ≡ inner_p
    place_is =
        ap (λ (c : Currents). record (seen_place sight inner_w after) { currents = c }) currents_are
        ∙ ap (λ (e : Option Edge). record inner_p { edge = e })
        (edge_same w after slotted current next.slots prefix.region edge)

    before : IsBefore next more
    before = before_behind next (of_opened opened)

    inner_stands : Stands sight.spots inner_w more
    inner_stands =
        let s = stands_on sight.spots w next more before stands in
        record {
          numbers = s.numbers;
          rises = s.rises;
          known = s.known;
          globals = s.globals;
          unmoved = s.unmoved;
          taken = taken_with w.currents own_rank inner_slotted more.slots comes.slot s.taken;
          edge = edge_on w.setup.known
              (edge_taken w after slotted current next.slots prefix.region edge);
          declared = s.declared;
          stored = s.stored;
        }
      where
        edge_on : (known : Known) → IsTakenEdge (low.edge_of known slotted prefix.region) next.slots
            → IsTakenEdge (low.edge_of known slotted prefix.region) more.slots
        edge_on known h = later (low.edge_of known slotted prefix.region) h
          where
            later : (e : Option SlotEdge) → IsTakenEdge e next.slots → IsTakenEdge e more.slots
            later None h = tt
            later (Some e) h = omega (arith, h)

    sound : IsSound tables after
    sound = filled_sound tables next.slots now after filled like.sound

    inner_current : IsCurrent after.slots o.rank inner_slotted
    inner_current = record {
      region = region;
      found = found;
      is = told.is;
      three = told.three;
      ranked = told.ranked ∙ comes.ranked;
      flood = told.flood_is;
    }

    inner_like : IsLike tables sight.spots inner_w more after store after
    inner_like = record {
      seen = sym (store_kept tables next.slots now after filled sight.spots w.numbers.arrays);
      sound = sound;
      kept = keeps_all (numbered sight.spots) more after;
      held = subst (λ (r : Rank). IsHeld tables w.setup.known w.numbers.arrays
          (with_slotted w.currents r inner_slotted) after.slots) (sym o.ranked)
          (held_with tables w after.slots o.rank inner_slotted o.is_rank inner_current
          (held_on tables w.setup.known w.numbers.arrays w.currents next.slots now after filled.many
          kept stands.taken stands.declared like.held));
    }

    -- back to where the prefixes stand
    outer_like : (s : Store) (v : Whole) → IsLike tables sight.spots inner_w more after s v
        → IsLike tables sight.spots w next now s v
    outer_like s v l =
        let back : (k : ℕ) → k < next.slots → slot_in v k ≡ slot_in now k =
        λ k lt. l.kept.slots k (omega (arith, lt)) ∙ kept k lt in
        record {
          seen = l.seen;
          sound = l.sound;
          kept = record {
            hidden = λ k lt m. l.kept.hidden k (omega (arith, lt)) m
                ∙ ap (λ (xs : List ℤ). slice_index_or xs k (pos 0)) filled.scalars;
            slots = back;
          };
          held = held_on tables w.setup.known w.numbers.arrays w.currents next.slots now v
              (l.sound.filled.slots ∙ sym like.sound.filled.slots) back stands.taken stands.declared
              like.held;
        }

    behind_agrees : HasRoom tables more inner_made
        → Agrees (Ended sight w next now) world.turns spare
        (mean.under (record { place = inner_p; call = world.call }) rest store
        (λ inner. run inner store))
        (does tables world.turns inner_made.code after)
    behind_agrees inner_room =
        subst (λ (q : Place). Agrees (Ended sight w next now) world.turns spare
        (mean.under (record { place = q; call = world.call }) rest store (λ inner. run inner store))
        (does tables world.turns inner_made.code after)) place_is
        (alike_agrees (Ended sight inner_w more after) (Ended sight w next now) world.turns spare _ _
        (carried sight w inner_w next more now after refl outer_like)
        (goes sight inner_w more after inner_stands
        (subst (λ (q : Place). IsUnder borders rest IsServed inner_w q) (sym place_is)
        (served.1 next.slots line store region
        (ap (λ (c : mean_computed.Computed Region).
        computed_then c (λ r. mean_computed.Gives (over_of p prefix r))) meant) told)) inner_room store after inner_like))

  -- ---- all of it

  fills_agree : (v : mean_computed.Computed Region) (course : Course Whole) → value ≡ v
      → Filling next.slots opened.slot line now v course → Told opened.flood v
      → Agrees (Ended sight w next now) world.turns spare
      (out.with_value (computed_then v (λ region. mean_computed.Gives (over_of p prefix region))) store
      line
      (λ over. mean.under
      (record { place = mean_regions.under_prefix p prefix over; call = world.call }) rest store
      (λ inner. run inner store)))
      (code.then_do course (does tables world.turns inner_made.code))
  fills_agree v course e Refuses told = Trapping (omega arith)
  fills_agree v course e (Fills {region = region} {after = after} found filled) told =
      behind_agrees region after found filled told e
      (room_rest tables next (code.Rows []) (of_opened opened) inner_made
      (room_coded tables next (code.Rows []) _ room))

  pub under_agrees : Agrees (Ended sight w next now) world.turns spare
      (mean.under (context world sight w now) (prefix ∷ rest) store (λ inner. run inner store))
      (does tables world.turns
      (low.lowered_under borders (lowering world w) next (prefix ∷ rest) made).code now)
  under_agrees =
      fills_agree value (rows_do (step tables world.turns) (decide tables world.turns) opened.rows now) refl
      (comes.fills (room_first tables next (code.Rows []) (of_opened opened) inner_made
      (room_coded tables next (code.Rows []) _ room)).slots) comes.told

-- ---- all prefixes

pub under_goes_to : (world : World) (Ended : Sight → Where → Next → Whole → Store → Whole → Type 0)
    → IsCarried world.tables Ended → (borders : Bool) (prefixes : List Prefix)
    (IsServed : Where → Place → Type 0) (run : Context → Store → Outcome)
    (made : Lowering → Next → Lowered) (spare : ℕ) → GoesTo world Ended IsServed run made spare
    → GoesTo world Ended (IsUnder borders prefixes IsServed)
    (λ c store. mean.under c prefixes store (λ inner. run inner store))
    (λ l next. low.lowered_under borders l next prefixes made) spare
under_goes_to world Ended carried borders [] IsServed run made spare goes = goes
under_goes_to world Ended carried borders (prefix ∷ rest) IsServed run made spare goes =
    anew_goes_to world Ended carried (IsUnder borders (prefix ∷ rest) IsServed)
    (λ c store. mean.under c (prefix ∷ rest) store (λ inner. run inner store))
    (λ l next. low.lowered_under borders l next (prefix ∷ rest) made) spare
    (λ sight w next now stands served room like.
    under_agrees world Ended carried borders prefix rest IsServed run made spare
    (under_goes_to world Ended carried borders rest IsServed run made spare goes) sight w next now
    stands served room like)

pub under_goes : (world : World) (borders : Bool) (prefixes : List Prefix)
    (IsServed : Where → Place → Type 0) (run : Context → Store → Outcome)
    (made : Lowering → Next → Lowered) (spare : ℕ) → Goes world IsServed run made spare
    → Goes world (IsUnder borders prefixes IsServed)
    (λ c store. mean.under c prefixes store (λ inner. run inner store))
    (λ l next. low.lowered_under borders l next prefixes made) spare
under_goes world borders prefixes IsServed run made spare goes =
    under_goes_to world (λ sight w next start. IsLike world.tables sight.spots w next start)
    (λ sight w inner next more start now same f. f) borders prefixes IsServed run made spare goes
