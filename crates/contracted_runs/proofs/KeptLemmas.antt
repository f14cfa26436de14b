-- A program whose arrays become cells shows what it showed before.
use Rattle.std.proofs.Common.{◌≡◌, refl, sym, ◌∙◌, ap, subst, arith, ℕ, zero, suc, ◌+◌, ◌-◌, ◌≤◌}
use Rattle.std.proofs.Common.{Bool, true, false, true≢false, List, [], ◌∷◌, ◌++◌, length, map, All}
use Rattle.std.proofs.Common.{Option, Some, None, ◌⊎◌, inl, inr, replicate, ℤ, pos, eqb-true}
use Rattle.std.proofs.Common.{length-append}
use Rattle.std.specs.Prelude.{◌&&◌, ◌||◌, ◌==◌, flat_map, if◌then◌else◌, not, slice_get}
use Rattle.std.specs.Prelude.{slice_index_or, slice_set, ⊤}
use Rattle.std.specs.Option.{IsSomeAnd, option_map}
use Rattle.std.specs.List.{AllByRecursion, list_any}
use Rattle.std.proofs.lemmas.Int.{ints}
use Rattle.std.proofs.lemmas.List.Elements.{All-cons, All-from_recursion, All-head, All-nil}
use Rattle.std.proofs.lemmas.List.Elements.{All-tail}
use Rattle.std.proofs.lemmas.List.Elements.{recursion_from_All}
use Rattle.zpl_nums.specs.declared.ends.TrapKind.TheVariants.{OutsideStorage}
use Rattle.zpl_region.specs.declared.dims.Dim.{Dim}
use Rattle.zpl_region.specs.declared.dims.Dim.TheVariants as dim
use Rattle.zpl_region.specs.declared.regions.Region.{Region}
use Rattle.zpl_region.specs.Dim.{HasStep}
use Rattle.zpl_region.specs.Hull.{all_from}
use Rattle.zpl_region.specs.Region.{padding}
use Rattle.zpl_region.proofs.ListLemmas.{Among}
use Rattle.zpl_arrays.specs.Array.{Array}
use Rattle.zpl_arrays.specs.Reference.{is_reference}
use Rattle.row_runs.specs.Run.{Does, Effect, Goes, Leaps, Passes, Stop, Stops, Wrong, runs}
use Rattle.row_runs.specs.Rows as like
use Rattle.row_runs.specs.Rows.{AreEffects, AreLike, AreLikeRows, MoreRows, NoRows, OldWrong}
use Rattle.row_runs.specs.Segments.{Keeps}
use Rattle.row_runs.proofs.RowLemmas.{rows_keep_runs}
use Rattle.node_form.specs.declared.arrays.ArrayDim.{ArrayDim}
use Rattle.node_form.specs.declared.arrays.ArrayDim.TheVariants as axis
use Rattle.node_form.specs.declared.arrays.ArrayRow.{ArrayRow}
use Rattle.node_form.specs.declared.instructions.Instr.{Instr}
use Rattle.node_form.specs.declared.instructions.Instr.TheVariants as instr
use Rattle.node_form.specs.declared.members.Member as number
use Rattle.node_form.specs.declared.tables.Tables.{Tables}
use Rattle.node_form.specs.declared.touches.Thing.{Thing}
use Rattle.node_form.specs.declared.touches.Thing.TheVariants as thing
use Rattle.node_form.specs.Control as control
use Rattle.node_form.specs.Fits.{Fits, FitsArray, FitsGroup, FitsInstr, FitsMember}
use Rattle.node_form.specs.Fits.{IsRank, storage_dim, storage_of}
use Rattle.node_form.specs.Touch.{IsNamed, IsWritten}
use Rattle.grid_meaning.specs.Room.{zeros_at}
use Rattle.grid_meaning.specs.Stored.{no_places}
use Rattle.grid_meaning.proofs.RegionLemmas.{no_steps}
use Rattle.normal_runs.specs.of_flat_form.Act.{act, controlled, flat_run}
use Rattle.normal_runs.specs.of_flat_form.Moves.{found, provided, roomed}
use Rattle.normal_runs.specs.of_flat_form.Right.{each_matches, matches}
use Rattle.normal_runs.specs.of_flat_form.Row.{Loop}
use Rattle.normal_runs.specs.of_flat_form.Row.{inlined, member_inlined}
use Rattle.normal_runs.specs.of_flat_form.Touches.{DoSame}
use Rattle.normal_runs.specs.of_flat_form.Touches as same
use Rattle.normal_runs.specs.of_flat_form.Whole.{Whole, registers_of, start_places, start_whole, with_store}
use Rattle.normal_runs.proofs.of_flat_form.AgreeLemmas.{Agree, set_alike, set_store}
use Rattle.normal_runs.proofs.of_flat_form.ChangeLemmas.{change_written}
use Rattle.normal_runs.proofs.of_flat_form.TouchLemmas.{acts_same}
use Rattle.normal_runs.proofs.of_flat_form.WholeLemmas.{begin_whole, stay_whole}
use Rattle.fuse_contract.proofs.of_flat_passes.SeenLemmas.{runs_seen}
use Rattle.fuse_contract.specs.Contracting.{arrays_of_row, becomes_cell, cell_among, contracted}
use Rattle.fuse_contract.specs.Contracting.{contracted_arrays, contracted_from, fits_a_cell}
use Rattle.fuse_contract.specs.Contracting.{is_among, is_begun, is_named_in}
use Rattle.fuse_contract.specs.Contracting.{is_shifted_in, member_contracted, naming_group}
use Rattle.fuse_contract.specs.Contracting.{with_cells}
use Rattle.normal_runs.proofs.PlaceLemmas.{set_apart}
use Rattle.normal_runs.proofs.SlotLemmas.{begins_with_steps, keeps_steps}
use Rattle.contracted_runs.specs.Three.{HaveThreeDims}
use Rattle.contracted_runs.proofs.FineLemmas.{there_is}
use Rattle.contracted_runs.proofs.InlineLemmas.{members_are}
use Rattle.contracted_runs.proofs.LoopLemmas.{EffectsAlike, FloodsIn, Going, HasShape, IsAlike}
use Rattle.contracted_runs.proofs.LoopLemmas.{IsGiven, Stopping, Wrongly, loops_alike}
use Rattle.contracted_runs.proofs.PointLemmas.{IsOther, other_array}
use Rattle.contracted_runs.proofs.RowLemmas.{IsOrdinary, named_among, row_same, written_among}
use Rattle.contracted_runs.proofs.ShortLemmas.{begins_short, keeps_short}
use Rattle.contracted_runs.proofs.StorageLemmas.{loop_same, set_storage, storage_of_array}
use Rattle.contracted_runs.proofs.WriteLemmas.{AreStates}

-- ---- tests
and_first : (a b : Bool) → (a && b) ≡ true → a ≡ true
and_first true b e = refl
and_first false b e = e

and_second : (a b : Bool) → (a && b) ≡ true → b ≡ true
and_second true b e = e
and_second false b e = absurd (true≢false (sym e))

not_true : (b : Bool) → not b ≡ true → b ≡ false
not_true true e = absurd (true≢false (sym e))
not_true false e = refl

or_first : (a b : Bool) → (a || b) ≡ false → a ≡ false
or_first true b e = e
or_first false b e = refl

or_second : (a b : Bool) → (a || b) ≡ false → b ≡ false
or_second true b e = absurd (true≢false e)
or_second false b e = e

among_first : (k : ℕ) (xs ys : List ℕ) → is_among k (xs ++ ys) ≡ false → is_among k xs ≡ false
among_first k [] ys e = refl
among_first k (x ∷ xs) ys e =
    by (x == k) (or_first (x == k) (is_among k (xs ++ ys)) e)
    (among_first k xs ys (or_second (x == k) (is_among k (xs ++ ys)) e))
  where
    by : (b : Bool) → b ≡ false → is_among k xs ≡ false → (b || is_among k xs) ≡ false
    by true e f = absurd (true≢false e)
    by false e f = f

among_second : (k : ℕ) (xs ys : List ℕ) → is_among k (xs ++ ys) ≡ false → is_among k ys ≡ false
among_second k [] ys e = e
among_second k (x ∷ xs) ys e = among_second k xs ys (or_second (x == k) (is_among k (xs ++ ys)) e)

-- ---- shapes
floods_match : (rows : List ArrayDim) (dims : List Dim) → each_matches rows dims ≡ true
    → length dims ≤ length rows → FloodsIn rows dims
floods_match rows [] e less = tt
floods_match [] (d ∷ dims) e less = absurd (omega (arith, less))
floods_match (axis.Star ∷ rows) (d ∷ dims) e less =
    floods_match rows dims (and_second _ (each_matches rows dims) e) (omega (arith, less))
floods_match (axis.Range lo hi low high ∷ rows) (dim.Flood ∷ dims) e less =
    absurd (true≢false (sym e))
floods_match (axis.Range lo hi low high ∷ rows) (dim.Range from to step align ∷ dims) e less =
    floods_match rows dims e (omega (arith, less))

floods_stored : (rows : List ArrayDim) → FloodsIn rows (map storage_dim rows)
floods_stored [] = tt
floods_stored (axis.Star ∷ rows) = floods_stored rows
floods_stored (axis.Range lo hi low high ∷ rows) = floods_stored rows

steps_stored : (rows : List ArrayDim) → AllByRecursion HasStep (map storage_dim rows)
steps_stored [] = tt
steps_stored (axis.Star ∷ rows) = (tt, steps_stored rows)
steps_stored (axis.Range lo hi low high ∷ rows) = (omega (arith, ints), steps_stored rows)

abbrev IsRangeDim : Dim → Type 0
IsRangeDim (dim.Range lo hi step align) = ⊤
IsRangeDim dim.Flood = ⊥

floods_none : (rows : List ArrayDim) (dims : List Dim) → AllByRecursion IsRangeDim dims
    → length dims ≤ length rows → FloodsIn rows dims
floods_none rows [] all less = tt
floods_none [] (d ∷ dims) all less = absurd (omega (arith, less))
floods_none (axis.Star ∷ rows) (d ∷ dims) all less =
    floods_none rows dims all.1 (omega (arith, less))
floods_none (axis.Range lo hi low high ∷ rows) (dim.Flood ∷ dims) all less = absurd all.0
floods_none (axis.Range lo hi low high ∷ rows) (dim.Range from to step align ∷ dims) all less =
    floods_none rows dims all.1 (omega (arith, less))

ranges : (n : ℕ) (d : Dim) → IsRangeDim d → AllByRecursion IsRangeDim (replicate n d)
ranges zero d is = tt
ranges (suc n) d is = (is, ranges n d is)

ranges_both : (xs ys : List Dim) → AllByRecursion IsRangeDim xs → AllByRecursion IsRangeDim ys
    → AllByRecursion IsRangeDim (xs ++ ys)
ranges_both [] ys all more = more
ranges_both (x ∷ xs) ys all more = (all.0, ranges_both xs ys all.1 more)

long : {X : Type 0} (n : ℕ) (x : X) → length (replicate n x) ≡ n
long zero x = refl
long (suc n) x = ap suc (long n x)

start_shape : (row : ArrayRow) → length row.dims ≡ 3 → IsRank row.rank → (b : Bool)
    → HasShape row (start_places row b)
start_shape row three rank true = record {
  steps = All-from_recursion HasStep (map storage_dim row.dims) (steps_stored row.dims);
  floods = floods_stored row.dims;
}
start_shape row three rank false = record {
  steps = no_steps row.rank;
  floods = floods_none row.dims (no_places row.rank).dims
      (ranges_both (replicate row.rank (all_from (pos 1) (pos 0))) (replicate
      (3 - row.rank) padding)
      (ranges row.rank (all_from (pos 1) (pos 0)) tt) (ranges (3 - row.rank) padding tt))
      (omega (
        arith,
        three,
        rank.1,
        length-append (replicate row.rank (all_from (pos 1) (pos 0))) (replicate
            (3 - row.rank) padding),
        long row.rank (all_from (pos 1) (pos 0)),
        long (3 - row.rank) padding,
      ));
}

start_shapes : (rows : List ArrayRow) → All (λ (row : ArrayRow). length row.dims ≡ 3) rows
    → All (λ (row : ArrayRow). IsRank row.rank) rows → (k : ℕ) (row : ArrayRow) (store : Array)
    → slice_get rows k ≡ Some row
    → slice_get (map (λ (row : ArrayRow). zeros_at (start_places row row.stored)) rows) k ≡ Some
    store
    → HasShape row store.storage
start_shapes [] three ranks k row store e f = cc
start_shapes (one ∷ rows) three ranks zero row store e f =
    let is : one ≡ row = cc in
    let made : zeros_at (start_places one one.stored) ≡ store = cc in
    subst (λ (a : Array). HasShape row a.storage) made
    (subst (λ (r : ArrayRow). HasShape r (start_places one one.stored)) is
    (start_shape one (All-head (λ (row : ArrayRow). length row.dims ≡ 3) one rows three)
    (All-head (λ (row : ArrayRow). IsRank row.rank) one rows ranks) one.stored))
start_shapes (one ∷ rows) three ranks (suc k) row store e f =
    start_shapes rows (All-tail (λ (row : ArrayRow). length row.dims ≡ 3) one rows three)
    (All-tail (λ (row : ArrayRow). IsRank row.rank) one rows ranks) k row store e f

at_three : (rows : List ArrayRow) → All (λ (row : ArrayRow). length row.dims ≡ 3) rows → (k : ℕ)
    (row : ArrayRow) → slice_get rows k ≡ Some row → length row.dims ≡ 3
at_three [] all k row e = cc
at_three (one ∷ rows) all zero row e =
    let is : one ≡ row = cc in
    subst (λ (r : ArrayRow). length r.dims ≡ 3) is
    (All-head (λ (row : ArrayRow). length row.dims ≡ 3) one rows all)
at_three (one ∷ rows) all (suc k) row e =
    at_three rows (All-tail (λ (row : ArrayRow). length row.dims ≡ 3) one rows all) k row e

all_ranks : (rows : List ArrayRow) → All FitsArray rows
    → All (λ (row : ArrayRow). IsRank row.rank) rows
all_ranks [] all = All-nil (λ (row : ArrayRow). IsRank row.rank)
all_ranks (row ∷ rows) all =
    All-cons (λ (row : ArrayRow). IsRank row.rank) row rows
    (All-head FitsArray row rows all).rank
    (all_ranks rows (All-tail FitsArray row rows all))

-- ---- which arrays are cells'
cell_listed : (first : ℕ) (arrays : List ℕ) (array cell : ℕ)
    → cell_among first arrays array ≡ Some cell → Among arrays array
cell_listed first [] array cell e = absurd (none e)
  where
    none : (let n : Option ℕ = None in n) ≡ Some cell → ⊥
    none e = cc
cell_listed first (other ∷ arrays) array cell e =
    by (other == array) refl e (λ e. cell_listed (first + 1) arrays array cell e)
  where
    by : (b : Bool) → (other == array) ≡ b
        → (if b then Some first else cell_among (first + 1) arrays array) ≡ Some cell
        → (cell_among (first + 1) arrays array ≡ Some cell → Among arrays array)
        → Among (other ∷ arrays) array
    by true is e more = inl (eqb-true other array is)
    by false is e more = inr (more e)

module _ (tables : Tables) where
  listed_becomes : (from count array : ℕ) → Among (contracted_from tables from count) array
      → becomes_cell tables array ≡ true
  listed_becomes from zero array k = absurd k
  listed_becomes from (suc count) array k =
      by (becomes_cell tables from) refl k (listed_becomes (from + 1) count array)
    where
      by : (b : Bool) → becomes_cell tables from ≡ b
          → Among ((if b then from ∷ [] else []) ++ contracted_from tables (from + 1) count) array
          → (Among (contracted_from tables (from + 1) count) array
          → becomes_cell tables array ≡ true)
          → becomes_cell tables array ≡ true
      by true is (inl here) more = ap (becomes_cell tables) (sym here) ∙ is
      by true is (inr later) more = more later
      by false is later more = more later

  abbrev cell_of : ℕ → Option ℕ
  cell_of = cell_among tables.cells (contracted_arrays tables)

  becomes : (array cell : ℕ) → cell_of array ≡ Some cell → becomes_cell tables array ≡ true
  becomes array cell is =
      listed_becomes 0 (length tables.arrays) array
      (cell_listed tables.cells (contracted_arrays tables) array cell is)

  -- ---- the groups
  abbrev GroupGiven : ℕ → List number.Member → Type 0
  GroupGiven array group =
      (list_any (is_named_in tables array) group ≡ false)
      ⊎ ((is_shifted_in tables array group ≡ false) × (is_begun tables array 0 group ≡ true))

  none_named : (array : ℕ) (groups : List (List number.Member))
      → flat_map (naming_group tables array) groups ≡ []
      → AllByRecursion (GroupGiven array) groups
  none_named array [] e = tt
  none_named array (group ∷ groups) e =
      by (list_any (is_named_in tables array) group) refl e (none_named array groups)
    where
      by : (b : Bool) → list_any (is_named_in tables array) group ≡ b
          → (if b then group ∷ [] else []) ++ flat_map (naming_group tables array) groups ≡ []
          → (flat_map (naming_group tables array) groups ≡ []
          → AllByRecursion (GroupGiven array) groups)
          → AllByRecursion (GroupGiven array) (group ∷ groups)
      by true is e more = cc
      by false is e more = (inl is, more e)

  one_named : (array : ℕ) (groups : List (List number.Member))
      → fits_a_cell tables array (flat_map (naming_group tables array) groups) ≡ true
      → AllByRecursion (GroupGiven array) groups
  one_named array [] e = tt
  one_named array (group ∷ groups) e =
      by (list_any (is_named_in tables array) group) refl e (one_named array groups)
    where
      alone : (others : List (List number.Member))
          → flat_map (naming_group tables array) groups ≡ others
          → fits_a_cell tables array (group ∷ others) ≡ true
          → AllByRecursion (GroupGiven array) (group ∷ groups)
      alone [] is e = (
        inr (
          not_true (is_shifted_in tables array group)
              (and_first (not (is_shifted_in tables array group))
              (is_begun tables array 0 group) e),
          and_second (not (is_shifted_in tables array group)) (is_begun tables array 0 group) e,
        ),
        none_named array groups is,
      )
      alone (other ∷ others) is e = absurd (true≢false (sym e))

      by : (b : Bool) → list_any (is_named_in tables array) group ≡ b
          → fits_a_cell tables array ((if b then group ∷ [] else [])
          ++ flat_map (naming_group tables array) groups) ≡ true
          → (fits_a_cell tables array (flat_map (naming_group tables array) groups) ≡ true
          → AllByRecursion (GroupGiven array) groups)
          → AllByRecursion (GroupGiven array) (group ∷ groups)
      by true is e more = alone (flat_map (naming_group tables array) groups) refl e
      by false is e more = (inl is, more e)

  group_at : (P : List number.Member → Type 0) (groups : List (List number.Member)) (k : ℕ)
      (group : List number.Member) → AllByRecursion P groups → slice_get groups k ≡ Some group
      → P group
  group_at P [] k group all e = cc
  group_at P (one ∷ groups) zero group all e = let is : one ≡ group = cc in subst P is all.0
  group_at P (one ∷ groups) (suc k) group all e = group_at P groups k group all.1 e

  module _ (fits : Fits tables) where
    given_at : (k : ℕ) (group : List number.Member) → slice_get tables.groups k ≡ Some group
        → IsGiven tables (contracted_arrays tables) group
    given_at k group e = record {
      fits = group_at (FitsGroup tables) tables.groups k group
          (recursion_from_All (FitsGroup tables) tables.groups fits.groups) e;
      cells = λ array cell is.
          group_at (GroupGiven array) tables.groups k group
          (one_named array tables.groups
          (and_second (not (is_among array (flat_map arrays_of_row tables.code)))
          (fits_a_cell tables array (flat_map (naming_group tables array) tables.groups))
          (becomes array cell is))) e;
    }

    -- ---- the rows
    pub record IsOfCode (row : Instr) : Type 0 where
      pub row_fits : FitsInstr tables row
      pub unnamed : (array cell : ℕ) → cell_of array ≡ Some cell
          → is_among array (arrays_of_row row) ≡ false

    each_unnamed : (array : ℕ) (rows : List Instr)
        → is_among array (flat_map arrays_of_row rows) ≡ false
        → AllByRecursion (λ row. is_among array (arrays_of_row row) ≡ false) rows
    each_unnamed array [] e = tt
    each_unnamed array (row ∷ rows) e = (
      among_first array (arrays_of_row row) (flat_map arrays_of_row rows) e,
      each_unnamed array rows (among_second array (arrays_of_row row)
          (flat_map arrays_of_row rows) e),
    )

    all_of_code : (rows : List Instr) → AllByRecursion (FitsInstr tables) rows
        → ((array cell : ℕ) → cell_of array ≡ Some cell
        → AllByRecursion (λ row. is_among array (arrays_of_row row) ≡ false) rows)
        → AllByRecursion IsOfCode rows
    all_of_code [] fit each = tt
    all_of_code (row ∷ rows) fit each = (
      record { row_fits = fit.0; unnamed = λ array cell is. (each array cell is).0 },
      all_of_code rows fit.1 (λ array cell is. (each array cell is).1),
    )

    code_is : AllByRecursion IsOfCode tables.code
    code_is =
        all_of_code tables.code (recursion_from_All (FitsInstr tables) tables.code fits.code)
        (λ array cell is. each_unnamed array tables.code
        (not_true (is_among array (flat_map arrays_of_row tables.code))
        (and_first (not (is_among array (flat_map arrays_of_row tables.code)))
        (fits_a_cell tables array (flat_map (naming_group tables array) tables.groups))
        (becomes array cell is))))

    module _ (three : HaveThreeDims tables) (n : ℕ) where
      abbrev new : Tables
      new = with_cells tables (contracted_arrays tables)

      abbrev Alike : Whole → Whole → Type 0
      Alike = IsAlike tables (contracted_arrays tables)

      abbrev States : Whole → Whole → Type 0
      States = AreStates cell_of tables new

      abbrev does : Instr → Whole → Effect Whole
      does row whole = act tables n (inlined tables row) whole

      abbrev new_does : Instr → Whole → Effect Whole
      new_does row whole = act new n (inlined new row) whole

      abbrev ShapesOf : Whole → Type 0
      ShapesOf s =
          (array cell : ℕ) → cell_of array ≡ Some cell → (row : ArrayRow) (store : Array)
          → slice_get tables.arrays array ≡ Some row → slice_get s.stores array ≡ Some store
          → HasShape row store.storage

      data Alikes : Effect Whole → Effect Whole → Type 0 where
        WasWrong : {effect : Effect Whole} → Alikes (Does (Stops Wrong)) effect
        BothStop : {stop : Stop} → Alikes (Does (Stops stop)) (Does (Stops stop))
        BothGo : {bytes : List ℕ} {a b : Whole} → States a b
            → Alikes (Does (Goes bytes a)) (Does (Goes bytes b))
        BothLeap : {goal : ℕ} → Alikes (Leaps goal) (Leaps goal)
        BothPass : Alikes Passes Passes

      -- what is left to say of a row
      finish : (row : Instr) → FitsInstr tables row → (s t : Whole) → Alike s t
          → (e f : Effect Whole) → does row s ≡ e → Alikes e f
          → ((bytes : List ℕ) (next : Whole) → does row s ≡ Does (Goes bytes next) → ShapesOf next)
          → AreEffects Alike e f
      finish row fit s t alike e f is WasWrong shapes = OldWrong
      finish row fit s t alike e f is BothStop shapes = like.BothStop
      finish row fit s t alike e f is (BothGo {bytes = bytes} {a = a} {b = b} states) shapes =
          like.BothGo (record {
            states = states;
            slots = keeps_steps tables n row fit s a bytes is alike.slots;
            short = (keeps_short tables fits.slots n row fit s a bytes is
                (record { short = alike.short })).short;
            whole = stay_whole tables n row s a bytes alike.whole is;
            shapes = shapes bytes a is;
          })
      finish row fit s t alike e f is BothLeap shapes = like.BothLeap
      finish row fit s t alike e f is BothPass shapes = like.BothPass

      -- ---- storages stay, and so do shapes
      shapes_by : (s next : Whole) → ShapesOf s
          → ((array cell : ℕ) → cell_of array ≡ Some cell
          → storage_of_array next.stores array ≡ storage_of_array s.stores array) → ShapesOf next
      shapes_by s next shapes same array cell is row store row_is store_is =
          by (slice_get s.stores array) refl
          (sym (same array cell is) ∙ ap (option_map (λ (a : Array). a.storage)) store_is)
        where
          by : (found : Option Array) → slice_get s.stores array ≡ found
              → option_map (λ (a : Array). a.storage) found ≡ Some store.storage
              → HasShape row store.storage
          by None e f = cc
          by (Some old) e f =
              let is_same : old.storage ≡ store.storage = cc in
              subst (HasShape row) is_same (shapes array cell is row old row_is e)

      -- ---- rows that name no array of a cell
      other_of : (row : Instr) → IsOrdinary row → IsOfCode row → (it : Thing)
          → IsNamed tables row it → IsOther cell_of it
      other_of row o of (thing.Scalar k) named = tt
      other_of row o of (thing.Slot k) named = tt
      other_of row o of (thing.Array k) named = by (cell_of k) refl
        where
          by : (found : Option ℕ) → cell_of k ≡ found → found ≡ None
          by None is = refl
          by (Some cell) is =
              absurd (true≢false (sym (there_is k (arrays_of_row row)
              (named_among tables k of.row_fits.rank row o of.row_fits.fit named))
              ∙ of.unnamed k cell is))

      unwritten : (T : Tables) (row : Instr) → IsOrdinary row → IsOfCode row → (array cell : ℕ)
          → cell_of array ≡ Some cell → IsWritten T row (thing.Array array) → ⊥
      unwritten T row o of array cell is written =
          true≢false (sym (there_is array (arrays_of_row row) (written_among T array row o written))
          ∙ of.unnamed array cell is)

      ordinary_by : (row : Instr) → IsOrdinary row → IsOfCode row → (s t : Whole) → Alike s t
          → (e f : Effect Whole) → does row s ≡ e → new_does row t ≡ f
          → DoSame (Agree tables new (IsOther cell_of)) e f → Alikes e f
      ordinary_by row o of s t alike e f old_is new_is
          (same.BothGo {bytes = bytes} {one = a} {two = b} agree) =
          BothGo (record {
            agree = agree;
            storages = λ array cell is.
                ap (option_map (λ (store : Array). store.storage))
                (sym (change_written tables n row s a bytes old_is (thing.Array array)
                (unwritten tables row o of array cell is)).1)
                ∙ (alike.states.storages array cell is
                ∙ ap (option_map (λ (store : Array). store.storage))
                (change_written new n row t b bytes new_is (thing.Array array)
                (unwritten new row o of array cell is)).1);
          })
      ordinary_by row o of s t alike e f old_is new_is same.BothStop = BothStop
      ordinary_by row o of s t alike e f old_is new_is same.BothLeap = BothLeap
      ordinary_by row o of s t alike e f old_is new_is same.BothPass = BothPass

      ordinary : (row : Instr) → IsOrdinary row → IsOfCode row → (s t : Whole) → Alike s t
          → AreEffects Alike (does row s) (new_does row t)
      ordinary row o of s t alike =
          finish row of.row_fits s t alike (does row s) (new_does row t) refl
          (ordinary_by row o of s t alike (does row s) (new_does row t) refl refl
          (subst (λ r. DoSame (Agree tables new (IsOther cell_of)) (does row s) (act new n r t))
          (sym (row_same tables (contracted_arrays tables) of.row_fits.rank row o of.row_fits.fit))
          (acts_same tables new (IsOther cell_of) s t alike.states.agree n row
          (other_of row o of))))
          (λ bytes next goes. shapes_by s next alike.shapes
          (λ array cell is. ap (option_map (λ (store : Array). store.storage))
          (sym (change_written tables n row s next bytes goes (thing.Array array)
          (unwritten tables row o of array cell is)).1)))

      -- ---- stores that become the same in both
      storages_all : (s t : Whole) → States s t → (array : ℕ)
          → storage_of_array s.stores array ≡ storage_of_array t.stores array
      storages_all s t states array = by (cell_of array) refl
        where
          by : (found : Option ℕ) → cell_of array ≡ found
              → storage_of_array s.stores array ≡ storage_of_array t.stores array
          by (Some cell) is = states.storages array cell is
          by None is =
              ap (option_map (λ (store : Array). store.storage)) (states.agree
              (thing.Array array) is).1

      mapped_set : (stores : List Array) (k : ℕ) (store : Array)
          → map (λ (a : Array). a.storage) (slice_set stores k store)
          ≡ slice_set (map (λ (a : Array). a.storage) stores) k store.storage
      mapped_set [] k store = refl
      mapped_set (one ∷ stores) zero store = refl
      mapped_set (one ∷ stores) (suc k) store = ap (λ rest. one.storage ∷ rest)
          (mapped_set stores k store)

      mapped_get : (stores : List Array) (k : ℕ)
          → storage_of_array stores k ≡ slice_get (map (λ (a : Array). a.storage) stores) k
      mapped_get [] k = refl
      mapped_get (one ∷ stores) zero = refl
      mapped_get (one ∷ stores) (suc k) = mapped_get stores k

      both_set : (s t : Whole) (array : ℕ) (store : Array) → States s t
          → States (with_store s array store) (with_store t array store)
      both_set s t array store states = record {
        agree = by (cell_of array) refl;
        storages = λ kept cell is.
            mapped_get (slice_set s.stores array store) kept
            ∙ (ap (λ rs. slice_get rs kept) (mapped_set s.stores array store)
            ∙ (set_alike (map (λ (a : Array). a.storage) s.stores)
            (map (λ (a : Array). a.storage) t.stores) array kept store.storage (there array)
            (there kept)
            ∙ (sym (ap (λ rs. slice_get rs kept) (mapped_set t.stores array store))
            ∙ sym (mapped_get (slice_set t.stores array store) kept))));
      }
        where
          there : (k : ℕ) → slice_get (map (λ (a : Array). a.storage) s.stores) k
              ≡ slice_get (map (λ (a : Array). a.storage) t.stores) k
          there k = sym (mapped_get s.stores k) ∙ (storages_all s t states k
              ∙ mapped_get t.stores k)

          beside : (cell : ℕ) → cell_of array ≡ Some cell
              → Agree tables new (IsOther cell_of) (with_store s array store)
              (with_store t array store)
          beside cell is (thing.Scalar k) q = states.agree (thing.Scalar k) q
          beside cell is (thing.Slot k) q = states.agree (thing.Slot k) q
          beside cell is (thing.Array k) q = (
            (states.agree (thing.Array k) q).0,
            set_apart s.stores array k store (other_array cell_of array k cell is q)
                ∙ ((states.agree (thing.Array k) q).1
                ∙ sym (set_apart t.stores array k store (other_array cell_of array k cell is q))),
          )

          by : (found : Option ℕ) → cell_of array ≡ found
              → Agree tables new (IsOther cell_of) (with_store s array store)
              (with_store t array store)
          by None is = set_store tables new (IsOther cell_of) s t array store is states.agree
          by (Some cell) is = beside cell is

      -- ---- rows that name an array beside its group
      data Shaped : Effect Whole → Effect Whole → Type 0 where
        ShapedWrong : {effect : Effect Whole} → Shaped (Does (Stops Wrong)) effect
        ShapedStop : {stop : Stop} → Shaped (Does (Stops stop)) (Does (Stops stop))
        ShapedGo : {bytes : List ℕ} {a b : Whole} → States a b → ShapesOf a
            → Shaped (Does (Goes bytes a)) (Does (Goes bytes b))

      finish_shaped : (row : Instr) → FitsInstr tables row → (s t : Whole) → Alike s t
          → (e f : Effect Whole) → does row s ≡ e → Shaped e f → AreEffects Alike e f
      finish_shaped row fit s t alike e f is ShapedWrong = OldWrong
      finish_shaped row fit s t alike e f is ShapedStop = like.BothStop
      finish_shaped row fit s t alike e f is (ShapedGo {bytes = bytes} {a = a} {b = b} states
          shapes) =
          like.BothGo (record {
            states = states;
            slots = keeps_steps tables n row fit s a bytes is alike.slots;
            short = (keeps_short tables fits.slots n row fit s a bytes is
                (record { short = alike.short })).short;
            whole = stay_whole tables n row s a bytes alike.whole is;
            shapes = shapes;
          })

      -- ---- `room`
      set_either : {X : Type 0} (xs : List X) (i j : ℕ) (v w : X)
          → slice_get (slice_set xs i v) j ≡ Some w
          → ((i ≡ j) × (v ≡ w)) ⊎ (slice_get xs j ≡ Some w)
      set_either [] i j v w e = inr e
      set_either (x ∷ xs) zero zero v w e = inl (refl, some e)
        where
          some : Some v ≡ Some w → v ≡ w
          some e = cc
      set_either (x ∷ xs) zero (suc j) v w e = inr e
      set_either (x ∷ xs) (suc i) zero v w e = inr e
      set_either (x ∷ xs) (suc i) (suc j) v w e = more (set_either xs i j v w e)
        where
          more : ((i ≡ j) × (v ≡ w)) ⊎ (slice_get xs j ≡ Some w)
              → ((suc i ≡ suc j) × (v ≡ w)) ⊎ (slice_get xs j ≡ Some w)
          more (inl both) = inl (ap suc both.0, both.1)
          more (inr there) = inr there

      room_shapes : (s t : Whole) → Alike s t → (array slot : ℕ) (row : ArrayRow) (region : Region)
          → slice_get tables.arrays array ≡ Some row → slice_get s.slots slot ≡ Some region
          → matches row region ≡ true → ShapesOf (with_store s array (zeros_at region))
      room_shapes s t alike array slot row region row_is region_is fine kept cell is other store
          other_is
          store_is =
          by (set_either s.stores array kept (zeros_at region) store store_is)
        where
          some_is : {X : Type 0} {x y : X} → Some x ≡ Some y → x ≡ y
          some_is e = cc

          by : ((array ≡ kept) × (zeros_at region ≡ store)) ⊎ (slice_get s.stores kept ≡ Some store)
              → HasShape other store.storage
          by (inl both) =
              let same_row : row ≡ other =
              some_is (sym row_is ∙ (ap (slice_get tables.arrays) both.0 ∙ other_is)) in
              subst (λ (a : Array). HasShape other a.storage) both.1
              (subst (λ (r : ArrayRow). HasShape r region) same_row
              (record {
                steps = alike.slots.steps slot region region_is;
                floods = floods_match row.dims region.dims fine
                    (omega (
                      arith,
                      alike.short slot region region_is,
                      at_three tables.arrays three array row row_is,
                    ));
              }))
          by (inr there) = alike.shapes kept cell is other store other_is there

      room_by : (s t : Whole) → Alike s t → (array slot : ℕ)
          → (o : Option ArrayRow) → slice_get tables.arrays array ≡ o
          → (p : Option Region) → slice_get s.slots slot ≡ p
          → Shaped (Does (found o (λ row. found p (λ region. roomed tables s array region row))))
          (Does (found o (λ row. found p (λ region. roomed new t array region row))))
      room_by s t alike array slot None row_is p region_is = ShapedWrong
      room_by s t alike array slot (Some row) row_is None region_is = ShapedWrong
      room_by s t alike array slot (Some row) row_is (Some region) region_is =
          by (not row.stored && matches row region) refl
        where
          by : (b : Bool) → (not row.stored && matches row region) ≡ b
              → Shaped (Does (provided b (Goes [] (with_store s array (zeros_at region)))))
              (Does (provided b (Goes [] (with_store t array (zeros_at region)))))
          by false e = ShapedWrong
          by true e =
              ShapedGo (both_set s t array (zeros_at region) alike.states)
              (room_shapes s t alike array slot row region row_is region_is
              (and_second (not row.stored) (matches row region) e))

      room_alike : (s t : Whole) → Alike s t → (array slot : ℕ)
          → Shaped (does (instr.Room array slot) s) (new_does (instr.Room array slot) t)
      room_alike s t alike array slot =
          subst (λ p. Shaped (does (instr.Room array slot) s)
          (Does (found (slice_get tables.arrays array) (λ row. found p (λ region.
          roomed new t array region row)))))
          (alike.states.agree (thing.Slot slot) tt).1
          (room_by s t alike array slot (slice_get tables.arrays array) refl
          (slice_get s.slots slot)
          refl)

      -- ---- `clear`
      clear_by : (s t : Whole) → Alike s t → (array : ℕ) → (o p : Option Array)
          → slice_get s.stores array ≡ o
          → option_map (λ (a : Array). a.storage) o ≡ option_map (λ (a : Array). a.storage) p
          → Shaped (Does (found o (λ store. Goes [] (with_store s array (zeros_at store.storage)))))
          (Does (found p (λ store. Goes [] (with_store t array (zeros_at store.storage)))))
      clear_by s t alike array None p is e = ShapedWrong
      clear_by s t alike array (Some a) None is e = cc
      clear_by s t alike array (Some a) (Some b) is e =
          let storage : a.storage ≡ b.storage = cc in
          subst (λ r. Shaped (Does (Goes [] (with_store s array (zeros_at a.storage))))
          (Does (Goes [] (with_store t array (zeros_at r))))) storage
          (ShapedGo (both_set s t array (zeros_at a.storage) alike.states)
          (shapes_by s (with_store s array (zeros_at a.storage)) alike.shapes
          (λ kept cell has. set_storage s.stores array kept a (zeros_at a.storage) is refl)))

      clear_alike : (s t : Whole) → Alike s t → (array : ℕ)
          → Shaped (does (instr.Clear array) s) (new_does (instr.Clear array) t)
      clear_alike s t alike array =
          clear_by s t alike array (slice_get s.stores array) (slice_get t.stores array) refl
          (storages_all s t alike.states array)

      -- ---- `need`
      need_by : (s t : Whole) → Alike s t → (line : ℕ)
          → (p : Option Region) (o : Option ArrayRow) (test : Region → ArrayRow → Bool)
          → Shaped (controlled s (control.with_row p (λ region. control.with_row o (λ row.
          control.checked (registers_of s) (test region row) OutsideStorage line))))
          (controlled t (control.with_row p (λ region. control.with_row o (λ row.
          control.checked (registers_of t) (test region row) OutsideStorage line))))
      need_by s t alike line None o test = ShapedWrong
      need_by s t alike line (Some region) None test = ShapedWrong
      need_by s t alike line (Some region) (Some row) test = by (test region row)
        where
          by : (b : Bool)
              → Shaped (controlled s (control.checked (registers_of s) b OutsideStorage line))
              (controlled t (control.checked (registers_of t) b OutsideStorage line))
          by true = ShapedGo alike.states alike.shapes
          by false = ShapedStop

      need_alike : (s t : Whole) → Alike s t → (slot array : ℕ) (shift : List ℤ) (line : ℕ)
          → Shaped (does (instr.Need slot array shift line) s)
          (new_does (instr.Need slot array shift line) t)
      need_alike s t alike slot array shift line =
          subst (λ p. Shaped (does (instr.Need slot array shift line) s)
          (controlled t (control.with_row p (λ region.
          control.with_row (slice_get tables.arrays array) (λ row.
          control.checked (registers_of t) (is_reference shift region (storage_of row))
          OutsideStorage line)))))
          (alike.states.agree (thing.Slot slot) tt).1
          (need_by s t alike line (slice_get s.slots slot) (slice_get tables.arrays array)
          (λ region row. is_reference shift region (storage_of row)))

      -- ---- a loop
      group_in : (groups : List (List number.Member)) (k : ℕ)
          → slice_index_or (map (map (member_contracted cell_of)) groups) k []
          ≡ map (member_contracted cell_of) (slice_index_or groups k [])
      group_in [] k = refl
      group_in (group ∷ groups) zero = refl
      group_in (group ∷ groups) (suc k) = group_in groups k

      index_found : (groups : List (List number.Member)) (k : ℕ) (group : List number.Member)
          → slice_get groups k ≡ Some group → slice_index_or groups k [] ≡ group
      index_found [] k group e = cc
      index_found (one ∷ groups) zero group e = let is : one ≡ group = cc in is
      index_found (one ∷ groups) (suc k) group e = index_found groups k group e

      loop_by : (slot k : ℕ) → FitsInstr tables (instr.Loop slot k)
          → (group : List number.Member) → slice_index_or tables.groups k [] ≡ group
          → IsGiven tables (contracted_arrays tables) group → (s t : Whole) → Alike s t
          → AreEffects Alike (does (instr.Loop slot k) s) (new_does (instr.Loop slot k) t)
      loop_by slot k fit group is given s t alike =
          finish (instr.Loop slot k) fit s t alike (does (instr.Loop slot k) s)
          (new_does (instr.Loop slot k) t) refl
          (subst (λ e. Alikes e (new_does (instr.Loop slot k) t))
          (ap (λ g. act tables n (Loop slot (map (member_inlined tables) g)) s) (sym is))
          (subst (λ f. Alikes (act tables n (Loop slot (map (member_inlined tables) group)) s) f)
          (ap (λ g. act new n (Loop slot g) t)
          (sym (ap (map (member_inlined new)) (group_in tables.groups k
          ∙ ap (map (member_contracted cell_of)) is)
          ∙ members_are cell_of tables new refl group)))
          (by (act tables n (Loop slot (map (member_inlined tables) group)) s) _
          (loops_alike tables (contracted_arrays tables) group given s t alike n slot))))
          (λ bytes next goes. shapes_by s next alike.shapes
          (λ array cell has. (loop_same tables n slot
          (map (member_inlined tables) (slice_index_or tables.groups k [])) s next bytes goes).same
          array))
        where
          by : (e f : Effect Whole)
              → EffectsAlike tables (contracted_arrays tables) group given s t alike e f
              → Alikes e f
          by e f Wrongly = WasWrong
          by e f Stopping = BothStop
          by e f (Going states) = BothGo states

      loop_alike : (slot k : ℕ) → FitsInstr tables (instr.Loop slot k) → (s t : Whole) → Alike s t
          → AreEffects Alike (does (instr.Loop slot k) s) (new_does (instr.Loop slot k) t)
      loop_alike slot k fit s t alike = by (slice_get tables.groups k) refl fit.fit.1
        where
          by : (found : Option (List number.Member)) → slice_get tables.groups k ≡ found
              → IsSomeAnd found (All (FitsMember tables fit.rank))
              → AreEffects Alike (does (instr.Loop slot k) s) (new_does (instr.Loop slot k) t)
          by None e has = absurd has
          by (Some group) e has =
              loop_by slot k fit group (index_found tables.groups k group e)
              (given_at k group e) s t
              alike

      -- ---- any row
      row_alike : (row : Instr) → IsOfCode row → (s t : Whole) → Alike s t
          → AreEffects Alike (does row s) (new_does row t)
      row_alike (instr.Loop slot k) of s t alike = loop_alike slot k of.row_fits s t alike
      row_alike (instr.Room array slot) of s t alike =
          finish_shaped (instr.Room array slot) of.row_fits s t alike (does
          (instr.Room array slot) s)
          (new_does (instr.Room array slot) t) refl (room_alike s t alike array slot)
      row_alike (instr.Clear array) of s t alike =
          finish_shaped (instr.Clear array) of.row_fits s t alike (does (instr.Clear array) s)
          (new_does (instr.Clear array) t) refl (clear_alike s t alike array)
      row_alike (instr.Need slot array shift line) of s t alike =
          finish_shaped (instr.Need slot array shift line) of.row_fits s t alike
          (does (instr.Need slot array shift line) s) (new_does
          (instr.Need slot array shift line) t)
          refl (need_alike s t alike slot array shift line)
      row_alike (instr.Start exchange) of s t alike = OldWrong
      row_alike (instr.Finish exchange) of s t alike = OldWrong
      row_alike (instr.Vote group) of s t alike = OldWrong
      row_alike (instr.TreeVote group) of s t alike = OldWrong
      row_alike (instr.TreeFold scalar operator) of s t alike = OldWrong
      row_alike row of s t alike = ordinary row tt of s t alike

      rows_alike : (rows : List Instr) → AllByRecursion IsOfCode rows
          → AreLikeRows does new_does Alike rows rows
      rows_alike [] of = NoRows
      rows_alike (row ∷ rows) of =
          MoreRows (record { like = row_alike row of.0 }) (rows_alike rows of.1)

      -- ---- the program
      begins : Alike (start_whole tables) (start_whole new)
      begins = record {
        states = record { agree = by; storages = λ array cell is. refl };
        slots = begins_with_steps tables;
        short = (begins_short tables fits.slots).short;
        whole = begin_whole tables;
        shapes = λ array cell is. start_shapes tables.arrays three
            (all_ranks tables.arrays fits.arrays) array;
      }
        where
          by : Agree tables new (IsOther cell_of) (start_whole tables) (start_whole new)
          by (thing.Scalar k) q = (refl, refl)
          by (thing.Slot k) q = (refl, refl)
          by (thing.Array k) q = (refl, refl)

      pub runs_kept : (a : ℕ) → Keeps (flat_run tables a n) (flat_run (contracted tables) a n)
      runs_kept a =
          let begin = start_whole tables in
          let old : flat_run tables a n ≡ runs does tables.code a 0 begin =
          runs_seen (act tables n) (inlined tables) tables.code a 0 begin in
          let after : flat_run (contracted tables) a n ≡ runs new_does tables.code a 0 begin =
          runs_seen (act new n) (inlined new) tables.code a 0 begin in
          subst (λ r. Keeps r (flat_run (contracted tables) a n)) (sym old)
          (subst (λ r. Keeps (runs does tables.code a 0 begin) r) (sym after)
          (rows_keep_runs does new_does Alike tables.code tables.code
          (rows_alike tables.code code_is) a 0 begin begin begins))
