-- A flat loop and the loop of each processor, each up to where it ends.
--
--   Given        what is known in front of the loop
--   flat_to      what the flat loop comes to
--   own_to       what a processor comes to
use Rattle.std.proofs.Common.{◌≡◌, inl, inr, refl, sym, ◌∙◌, ap, subst, arith, ℕ, zero, suc, ◌<◌, ◌≤◌}
use Rattle.std.proofs.Common.{Bool, true, false, List, [], ◌∷◌, length, map, All, ℤ, pos}
use Rattle.std.proofs.Common.{Option, Some, None, replicate, append-nil}
use Rattle.std.specs.Prelude.{slice_get}
use Rattle.std.specs.Ordering.{int_eq}
use Rattle.std.proofs.lemmas.Int.{ints}
use Rattle.zpl_nums.specs.declared.folds.Fold.{Fold}
use Rattle.zpl_nums.specs.Fold.{folded, unit_of}
use Rattle.zpl_region.specs.declared.regions.Region.{Region}
use Rattle.zpl_region.specs.Region.{IsMember, members}
use Rattle.zpl_region.proofs.ListLemmas.{Among}
use Rattle.zpl_arrays.specs.Array.{IsArray, flattened, has_place}
use Rattle.row_runs.specs.Run.{Step}
use Rattle.row_runs.specs.Straight.{Every}
use Rattle.node_form.specs.declared.members.Member as number
use Rattle.node_form.specs.declared.tables.Tables.{Tables}
use Rattle.node_form.specs.Fits.{FitsExpr, FitsMember}
use Rattle.node_form.specs.Nest.{Nest, members_of}
use Rattle.node_form.specs.Value.{unmoved}
use Rattle.code_parts.specs.Uses as uses
use Rattle.comm_needs.specs.Needs.{is_voted_on, needs_of}
use Rattle.grid_meaning.specs.Local.{processors}
use Rattle.grid_meaning.specs.Place.{moved_by, own_part, value_at}
use Rattle.grid_meaning.specs.State.{IsSlot}
use Rattle.nest_meaning.specs.Tree.{nest_of}
use Rattle.nest_meaning.specs.Units.{units_of}
use Rattle.nest_meaning.proofs.Spelled.{spelled_is}
use Rattle.nest_meaning.proofs.TreeLemmas.{reads_only}
use Rattle.flat_form.specs.Loop.{Column, logged, loop_stands, start_columns, units_do}
use Rattle.flat_form.specs.Right.{are_settled, is_unmoved, is_value}
use Rattle.flat_form.specs.Row.{Loop, Member, member_inlined}
use Rattle.flat_form.specs.Static.{keeps_from}
use Rattle.flat_form.specs.Whole.{Whole}
use Rattle.needs_runs.specs.of_plan_meaning.Abreast.{Abreast}
use Rattle.needs_runs.specs.of_plan_meaning.Loops.{Shared, part_shared, point_of, shared, tuples_shared}
use Rattle.normal_runs.proofs.PlaceLemmas.{members_apart, moved_none}
use Rattle.needs_runs.specs.Agree.{HasLayout}
use Rattle.needs_runs.specs.Holds.{Holds}
use Rattle.needs_runs.proofs.FlatLemmas.{fit, floods_of, whole_flat}
use Rattle.needs_runs.proofs.RoomRows.{all_get}
use Rattle.loop_runs.proofs.ColumnLemmas.{LoopsFirst}
use Rattle.loop_runs.proofs.FlatLemmas.{FlatTo, Kept, Stage, UnitOf, column_of, flat_goes, kept_joins}
use Rattle.loop_runs.proofs.GroupLemmas.{all_at, can_put, one_total, total_apart, total_value}
use Rattle.loop_runs.proofs.KeepLemmas.{UnitsKeep, units_keep}
use Rattle.loop_runs.proofs.LineLemmas.{unit_inside}
use Rattle.loop_runs.proofs.MemberLemmas.{Cell, Puts, Read, Settled, Total, count, total_low}
use Rattle.loop_runs.proofs.MemberLemmas.{unit_good, unit_reads}
use Rattle.loop_runs.proofs.NestLemmas.{NestOf}
use Rattle.loop_runs.proofs.PartLemmas.{inside_region, member_coordinates, tuple_long}
use Rattle.loop_runs.proofs.PlaceLemmas.{matched_flat}
use Rattle.loop_runs.proofs.ShareLemmas.{AreUnitsOf, ExprGood, IsHeld, known_behind}
use Rattle.loop_runs.proofs.SpotLemmas.{held_of_value, put_held, put_own, put_placed, read_there}
use Rattle.loop_runs.proofs.SpotLemmas.{storage_at, storage_or, writable}
use Rattle.loop_runs.proofs.TupleLemmas.{AreApart, HasState, HasTuple, Is, TuplesTo, flags, tuples_go}
use Rattle.loop_runs.proofs.WordLemmas.{LeafOf}
use Rattle.loop_runs.proofs.WriteLemmas.{Apart, HasOwn, Placed, WriteOf, stays_same}

int_same : (x y : ℤ) → int_eq x y ≡ true → x ≡ y
int_same x y e = grind (arith, ints)

pub record Given (code : Tables) (slot group n : ℕ) (whole : Whole) (all : Abreast) : Type 0 where
  pub layout : HasLayout code
  pub exprs_fit : All (FitsExpr code) code.exprs
  pub rank : ℕ
  pub group_members : List number.Member
  pub there : slice_get code.groups group ≡ Some group_members
  pub fit : All (FitsMember code rank) group_members
  pub apart : uses.share (uses.put_arrays code group) (uses.shifted_arrays code group) ≡ false
  pub holds : Holds code whole all
  pub region : Region
  pub slot_is : IsSlot rank region
  pub in_slot : slice_get whole.slots slot ≡ Some region
  pub settled : are_settled whole (Loop slot (map (member_inlined code) group_members)) ≡ true
  pub stands : loop_stands code whole region (map (member_inlined code) group_members) ≡ true
  pub nest : Nest
  pub is_nest : nest_of group_members ≡ Some nest
  pub loops : LoopsFirst (units_of nest)
  pub keeps : keeps_from code 0 [] group_members ≡ true
  pub brought : (a : ℕ) (shift : List ℤ)
      → Among (needs_of code slot group) (record { array = a; slot = slot; shift = shift })
      → (p : ℕ) → p < processors code → (t : List ℤ) → IsMember (own_part code p region) t
      → value_at (all.shares p).stores a (moved_by shift t)
      ≡ value_at whole.stores a (moved_by shift t)

module _ (code : Tables) (slot group n : ℕ) (whole : Whole) (all : Abreast)
    (g : Given code slot group n whole all) where
  abbrev pub R : ℕ → List ℤ → Type 0
  R = Read code g.exprs_fit slot group g.rank g.group_members g.there g.fit g.apart whole g.region

  abbrev pub S : ℕ → Type 0
  S = Settled code g.exprs_fit slot group g.rank g.group_members g.there g.fit g.apart whole g.region

  abbrev pub P : ℕ → Bool
  P = Puts code g.exprs_fit slot group g.rank g.group_members g.there g.fit g.apart whole g.region

  abbrev pub J : ℕ → Fold → Type 0
  J = Total code g.exprs_fit slot group g.rank g.group_members g.there g.fit g.apart whole g.region

  abbrev pub C : ℕ → Type 0
  C = Cell code g.exprs_fit slot group g.rank g.group_members g.there g.fit g.apart whole g.region

  abbrev pub K : ℕ
  K = count code g.exprs_fit slot group g.rank g.group_members g.there g.fit g.apart whole g.region

  abbrev pub one : (k : ℕ) (f h : Fold) → J k f → J k h → f ≡ h
  one = one_total code g.exprs_fit slot group g.rank K g.group_members g.there g.fit g.apart whole
      g.region g.settled g.stands

  abbrev pub far : (a : ℕ) (shift : List ℤ) → R a shift → is_unmoved shift ≡ false → P a ≡ false
  far = λ a shift r e. r.far e

  abbrev pub low : (k : ℕ) (f : Fold) → J k f → k < code.scalars
  low = total_low code g.exprs_fit slot group g.rank g.group_members g.there g.fit g.apart whole
      g.region

  abbrev pub distinct : (k : ℕ) → S k → (f : Fold) → J k f → ⊥
  distinct = total_apart code g.exprs_fit slot group g.rank K g.group_members g.there g.fit g.apart
      whole g.region g.settled g.stands

  abbrev pub D : Type 0
  D = is_voted_on code group ≡ true

  abbrev pub zeros : List ℤ
  zeros = replicate K (pos 0)

  pub zeros_long : length zeros ≡ K
  zeros_long = long K
    where
      long : (k : ℕ) → length (replicate k (pos 0)) ≡ k
      long zero = refl
      long (suc k) = ap suc (long k)

  abbrev pub units : List Nest
  units = units_of g.nest

  abbrev pub tuples : List (List ℤ)
  tuples = members g.region

  abbrev pub part : ℕ → List (List ℤ)
  part p = members (own_part code p g.region)

  abbrev pub kept_at : List ℤ → Kept
  kept_at t = record { at = t; point = record { cells = zeros; log = [] } }

  -- ---- units
  pub inside : (unit : Nest) → Among units unit → (m : number.Member) → Among (members_of unit) m
      → Among g.group_members m
  inside unit is m among =
      subst (λ l. Among l m) (reads_only g.group_members g.nest g.is_nest)
      (unit_inside g.nest unit is m among)

  keep : UnitsKeep code [] units
  keep =
      units_keep code g.nest []
      (subst (λ l. keeps_from code 0 [] l ≡ true)
      (sym (spelled_is g.nest [] ∙ (append-nil (members_of g.nest)
      ∙ reads_only g.group_members g.nest g.is_nest))) g.keeps)

  module _ (Z : ℕ → Region) where
    are_from : (known : List ℕ) (us : List Nest) → ((unit : Nest) → Among us unit → Among units unit)
        → UnitsKeep code known us
        → AreUnitsOf code g.rank n K whole R S P J Z one far low known us
    are_from known [] within keeps = tt
    are_from known (unit ∷ us) within keeps = (
      (
        keeps.0.0,
        unit_reads code g.exprs_fit slot group g.rank g.group_members g.there g.fit g.apart whole
            g.region g.settled g.stands known unit (inside unit (within unit (inl refl))) keeps.0.1,
      ),
      are_from (known_behind known unit) us (λ other k. within other (inr k)) keeps.1,
    )

    pub are : AreUnitsOf code g.rank n K whole R S P J Z one far low [] units
    are = are_from [] units (λ unit k. k) keep

    of_from : (known : List ℕ) (us : List Nest) → ((unit : Nest) → Among us unit → Among units unit)
        → UnitsKeep code known us
        → Every (UnitOf code g.rank n code.exprs whole R S C P J Z one far distinct) us
    of_from known [] within keeps = tt
    of_from known (unit ∷ us) within keeps = (
      record {
        known = known;
        is = unit_reads code g.exprs_fit slot group g.rank g.group_members g.there g.fit g.apart
            whole g.region g.settled g.stands known unit (inside unit (within unit (inl refl)))
            keeps.0.1;
      },
      of_from (known_behind known unit) us (λ other k. within other (inr k)) keeps.1,
    )

  -- ---- the whole arrays
  abbrev pub Zw : ℕ → Region
  Zw a = storage_at whole.stores a

  pub whole_placed : Placed P J Zw one whole
  whole_placed a is =
      let found = writable code whole g.region a
      (can_put code g.exprs_fit slot group g.rank K g.group_members g.there g.fit g.apart whole
      g.region g.settled g.stands a is) in record {
        store = found.store;
        there = found.here;
        storage = sym (ap storage_or found.here);
        is_array = all_get IsArray whole.stores a found.store g.holds.arrays found.here;
      }

  pub whole_own : (t : List ℤ) → Among tuples t → HasOwn P J Zw one t
  whole_own t among a is =
      let found = writable code whole g.region a
      (can_put code g.exprs_fit slot group g.rank K g.group_members g.there g.fit g.apart whole
      g.region g.settled g.stands a is) in
      let place : has_place found.store.storage t ≡ true =
      subst (λ u. has_place found.store.storage u ≡ true) (moved_none t)
      (all_at (λ t. has_place found.store.storage (moved_by unmoved t)) tuples t found.places among) in
      let here : has_place (Zw a) t ≡ true =
      subst (λ r. has_place r t ≡ true) (sym (ap storage_or found.here)) place in (
        here,
        ap (λ (r : Region). flattened r.dims t) (ap storage_or found.here)
            ∙ (whole_flat found.row found.store (fit code g.layout a found.row found.there)
            (floods_of code whole all g.holds a found.row found.store found.there found.here) t place t
            ∙ matched_flat found.row.dims g.region.dims t found.match
            (member_coordinates code g.layout g.rank g.region g.slot_is t among)
            (all_get (λ row. length row.dims ≡ 3) code.arrays a found.row g.layout.three found.there
            ∙ sym g.slot_is.many)),
      )

  owners : (ts : List (List ℤ)) → ((t : List ℤ) → Among ts t → Among tuples t)
      → Every (λ (k : Kept). HasOwn P J Zw one k.at) (map kept_at ts)
  owners [] within = tt
  owners (t ∷ ts) within =
      (whole_own t (within t (inl refl)), owners ts (λ u k. within u (inr k)))

  columns_apart : (ts : List (List ℤ)) → AreApart code g.rank n K whole R S P J Zw one far distinct low D
      zeros zeros_long units whole.stores (are Zw) ts
      → Apart P J Zw one (map column_of (map kept_at ts))
  columns_apart [] apart = tt
  columns_apart (t ∷ ts) apart = (others t ts apart.0, columns_apart ts apart.1)
    where
      others : (t : List ℤ) (ts : List (List ℤ)) → Every (λ u. u ≡ t → ⊥) ts
          → Every (λ (other : Column). t ≡ other.at → ⊥) (map column_of (map kept_at ts))
      others t [] all = tt
      others t (u ∷ ts) all = ((λ same. all.0 (sym same)), others t ts all.1)

  -- nothing is written yet
  no_joins : (k : ℕ) (ts : List (List ℤ)) → kept_joins k (map kept_at ts) ≡ []
  no_joins k [] = refl
  no_joins k (t ∷ ts) = no_joins k ts

  own_stage : (a : ℕ) (ts : List (List ℤ))
      → Every (λ (k : Kept). (u : List ℤ) → has_place (Zw a) u ≡ true
      → flattened (Zw a).dims u ≡ k.at
      → value_at whole.stores a u
      ≡ logged k.point.log a (value_at whole.stores a u)) (map kept_at ts)
  own_stage a [] = tt
  own_stage a (t ∷ ts) = ((λ u has flat. refl), own_stage a ts)

  unit_is : (k : ℕ) (f : Fold) → J k f → slice_get whole.scalars k ≡ Some (unit_of f)
  unit_is k f is = by (slice_get whole.scalars k) refl
      (total_value code g.exprs_fit slot group g.rank K g.group_members g.there g.fit g.apart whole
      g.region g.settled g.stands k f is)
    where
      by : (o : Option ℤ) → slice_get whole.scalars k ≡ o → is_value (unit_of f) o ≡ true
          → o ≡ Some (unit_of f)
      by None e is = cc
      by (Some v) e is = ap Some (int_same v (unit_of f) is)

  pub begins_unit : (k : ℕ) (f : Fold) → J k f → slice_get whole.scalars k ≡ Some (unit_of f)
  begins_unit = unit_is

  writes_stage : (ts : List (List ℤ))
      → Every (λ (k : Kept). Every (WriteOf P J Zw one) k.point.log)
      (map kept_at ts)
  writes_stage [] = tt
  writes_stage (t ∷ ts) = (tt, writes_stage ts)

  stage : Stage code g.rank n code.exprs whole R S C P J Zw one far distinct whole (map kept_at tuples)
  stage = record {
    placed = whole_placed;
    stays = stays_same P J Zw one whole;
    own = λ a is. own_stage a tuples;
    elsewhere = λ a u is has apart. refl;
    totals = λ k f is.
        unit_is k f is ∙ ap (λ xs. Some (folded f xs)) (sym (no_joins k tuples));
    writes = writes_stage tuples;
  }

  columns_are : (ts : List (List ℤ))
      → map column_of (map kept_at ts) ≡ map (λ t. record { at = t; cells = zeros }) ts
  columns_are [] = refl
  columns_are (t ∷ ts) = ap (λ rest. record { at = t; cells = zeros } ∷ rest) (columns_are ts)

  abbrev pub FlatIs : Step Whole → Type 0
  FlatIs = FlatTo code g.rank n code.exprs whole R S C P J Zw one far distinct 0 units
      (map kept_at tuples)

  pub flat_to : FlatTo code g.rank n code.exprs whole R S C P J Zw one far distinct 0 units
      (map kept_at tuples)
      (units_do n code.exprs units
      (start_columns g.region (map (member_inlined code) g.group_members)) whole)
  flat_to =
      subst (λ columns. FlatTo code g.rank n code.exprs whole R S C P J Zw one far distinct 0 units
      (map kept_at tuples) (units_do n code.exprs units columns whole))
      (columns_are tuples)
      (flat_goes code g.rank n code.exprs whole R S C P J Zw one far distinct units 0
      (of_from Zw [] units (λ unit k. k) keep) g.loops (map kept_at tuples)
      (owners tuples (λ t k. k)) (columns_apart tuples (members_apart g.region)) whole stage)

  -- ---- a processor
  module _ (p : ℕ) (below : p < processors code) where
    abbrev pub Zp : ℕ → Region
    Zp a = storage_at (all.shares p).stores a

    abbrev pub brought_here : (a : ℕ) (shift : List ℤ)
        → Among (needs_of code slot group) (record { array = a; slot = slot; shift = shift })
        → (t : List ℤ) → IsMember (own_part code p g.region) t
        → value_at (all.shares p).stores a (moved_by shift t)
        ≡ value_at whole.stores a (moved_by shift t)
    brought_here = λ a shift needed t is. g.brought a shift needed p below t is

    rank_low : (t : List ℤ) → Among (part p) t → g.rank ≤ length t
    rank_low t among =
        let three = tuple_long code g.layout g.rank g.region g.slot_is t
        (inside_region code g.layout g.rank g.region g.slot_is p t among).0 in
        let few = g.slot_is.fits.rank.1 in
        let same = g.slot_is.ranked in omega (arith, three, few, same)

    pub has_tuple : (t : List ℤ) → Among (part p) t
        → HasTuple code g.rank n K whole R S P J Zp one far distinct low D zeros zeros_long units
        (all.shares p).stores (are Zp) t
    has_tuple t among =
        let reads = λ (a : ℕ) (shift : List ℤ) (r : R a shift).
        let found = read_there code g.layout g.exprs_fit slot group g.rank g.group_members g.there g.fit
        g.apart whole all g.holds g.region g.slot_is g.settled g.stands p below brought_here a shift t r
        among in
        held_of_value (all.shares p).stores a (moved_by shift t) found.value found.own_has_it in
        let writes = λ (a : ℕ) (is : P a ≡ true).
        put_held code g.layout g.exprs_fit slot group g.rank g.group_members g.there g.fit
        g.apart whole all g.holds g.region g.slot_is g.settled g.stands p below brought_here a t is among in
        record {
          long = rank_low t among;
          owns = put_own code g.layout g.exprs_fit slot group g.rank g.group_members g.there g.fit
              g.apart whole all g.holds g.region g.slot_is g.settled g.stands p below brought_here t among;
          reads = reads;
          writes = writes;
          good = all_good units (λ unit k. k) reads writes;
        }
      where
        all_good : (us : List Nest) → ((unit : Nest) → Among us unit → Among units unit)
            → (reads : (a : ℕ) (shift : List ℤ) → R a shift
            → IsHeld (all.shares p).stores a (moved_by shift t))
            → (writes : (a : ℕ) → P a ≡ true
            → IsHeld (all.shares p).stores a t)
            → Every (NestOf
            (ExprGood code g.rank n R P J C D (all.shares p).stores t
            (rank_low t among) reads writes low)
            (LeafOf P J C)) us
        all_good [] within reads writes = tt
        all_good (unit ∷ us) within reads writes = (
          unit_good code g.exprs_fit slot group g.rank g.group_members g.there g.fit g.apart whole
              g.region g.settled g.stands n (all.shares p).stores t (rank_low t among) reads writes unit
              (inside unit (within unit (inl refl))),
          all_good us (λ other k. within other (inr k)) reads writes,
        )

    all_have : (ts : List (List ℤ)) → ((t : List ℤ) → Among ts t → Among (part p) t)
        → Every (HasTuple code g.rank n K whole R S P J Zp one far distinct low D zeros zeros_long units
        (all.shares p).stores (are Zp)) ts
    all_have [] within = tt
    all_have (t ∷ ts) within =
        (has_tuple t (within t (inl refl)), all_have ts (λ u k. within u (inr k)))

    now : (ts : List (List ℤ)) → ((t : List ℤ) → Among ts t → Among (part p) t)
        → Every (λ t. Is code g.rank n K whole R S P J Zp one far distinct low D zeros zeros_long units
        (all.shares p).stores (are Zp) t (all.shares p).scalars (all.shares p).stores) ts
    now [] within = tt
    now (t ∷ ts) within = (
      λ a shift r.
          let found = read_there code g.layout g.exprs_fit slot group g.rank g.group_members g.there g.fit
          g.apart whole all g.holds g.region g.slot_is g.settled g.stands p below brought_here a shift t r
          (within t (inl refl)) in found.own_has_it ∙ sym found.whole_has,
      now ts (λ u k. within u (inr k)),
    )

    pub state : HasState code g.rank n K whole R S P J Zp one far distinct low D zeros zeros_long units
        (all.shares p).stores (are Zp) (point_of code n (all.shares p))
    state = record {
      placed = put_placed code g.layout g.exprs_fit slot group g.rank g.group_members g.there g.fit
          g.apart whole all g.holds g.region g.slot_is g.settled g.stands p below brought_here
          (all.shares p) refl;
      same = λ k s. (g.holds.own p below).scalars k s.settled;
      scalars = (g.holds.own p below).parts.scalars;
      cells = (g.holds.own p below).parts.cells;
      held = λ a u is. is;
    }

    pub own_to : TuplesTo code g.rank n K whole R S P J Zp one far distinct low D zeros zeros_long units
        (all.shares p).stores (are Zp) (point_of code n (all.shares p)) None (part p)
        (shared code n units slot all p)
    own_to =
        subst (TuplesTo code g.rank n K whole R S P J Zp one far distinct low D zeros zeros_long units
        (all.shares p).stores (are Zp) (point_of code n (all.shares p)) None (part p))
        (sym (ap (part_shared code n units (all.shares p) p)
        (ap (λ slots. slice_get slots slot) (g.holds.own p below).slots ∙ g.in_slot)
        ∙ ap (λ flag. tuples_shared code n units (part p) flag (point_of code n (all.shares p)))
        (g.holds.own p below).flag))
        (tuples_go code g.rank n K whole R S P J Zp one far distinct low D zeros zeros_long units
        (all.shares p).stores (are Zp) (part p) (all_have (part p) (λ t k. k))
        (members_apart (own_part code p g.region)) (point_of code n (all.shares p)) state
        (now (part p) (λ t k. k)) None)

    -- the same, by a name
    abbrev pub OwnTo : Shared → Type 0
    OwnTo = TuplesTo code g.rank n K whole R S P J Zp one far distinct low D zeros zeros_long units
        (all.shares p).stores (are Zp) (point_of code n (all.shares p)) None (part p)

    abbrev pub FlagsOf : Option ℕ → List (List ℤ) → Option ℕ
    FlagsOf = flags code g.rank n K whole R S P J Zp one far distinct low D zeros zeros_long units
        (all.shares p).stores (are Zp)
