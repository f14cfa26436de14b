-- A program shows with joined loops what it shows with each loop alone.
use Rattle.std.proofs.Common.{◌≡◌, refl, sym, ◌∙◌, ap, subst, arith, ℕ, Bool, true, false}
use Rattle.std.proofs.Common.{true≢false, List, [], ◌∷◌, ◌++◌, map, Option, Some, None}
use Rattle.std.specs.Prelude.{◌&&◌, ◌==◌, flat_map, if◌then◌else◌, is_none, option_and_then}
use Rattle.std.specs.Prelude.{slice_get, ⊤}
use Rattle.std.specs.List.{AllByRecursion, list_all}
use Rattle.std.proofs.lemmas.Bool.Decides.{nat_tests}
use Rattle.std.proofs.lemmas.Grind.{flat_map-append}
use Rattle.std.proofs.lemmas.List.Elements.{recursion_from_All}
use Rattle.zpl_region.specs.declared.regions.Region.{Region}
use Rattle.row_runs.specs.Run.{Does, Effect, Goes, Leaps, Passes, Stops, Wrong, runs}
use Rattle.row_runs.specs.Segments.{Keeps}
use Rattle.row_runs.specs.Straight.{Flow, Halts, IsStep, OnTo, Stepping, Tied, TiedHalt, TiedOn}
use Rattle.row_runs.specs.Straight.{TiedWrong, flow_behind, flow_step, through}
use Rattle.node_form.specs.declared.arrays.Item.{Item}
use Rattle.node_form.specs.declared.instructions.Instr.{Instr}
use Rattle.node_form.specs.declared.instructions.Instr.TheVariants as instr
use Rattle.node_form.specs.declared.members.Member.{Member}
use Rattle.node_form.specs.declared.tables.Tables.{Tables}
use Rattle.node_form.specs.Fits.{Fits, FitsInstr}
use Rattle.nest_meaning.specs.Tree.{nest_of}
use Rattle.code_parts.specs.Stretch.{ends_stretch}
use Rattle.code_parts.specs.Uses.{accumulated_by, members_of}
use Rattle.flat_form.specs.Act.{act, flat_run}
use Rattle.flat_form.specs.Loop.{loop_stands, looped, tree_does}
use Rattle.flat_form.specs.Right.{are_settled}
use Rattle.flat_form.specs.Row as row
use Rattle.flat_form.specs.Row.{inlined}
use Rattle.flat_form.specs.States.{IsWhole}
use Rattle.flat_form.specs.Whole.{Whole, start_whole}
use Rattle.flat_form.proofs.WholeLemmas.{stay_whole}
use Rattle.flat_passes.specs.Grouped as grouped
use Rattle.flat_passes.specs.Grouped.{Grouped, Plain, Runs, all_numbered, ended_by}
use Rattle.flat_passes.specs.Kept.{EndsAlike}
use Rattle.flat_passes.proofs.FlatRowLemmas.{does, ends_alike, steps_in, straight}
use Rattle.flat_passes.proofs.SeenLemmas.{runs_seen}
use Rattle.contracted_runs.specs.of_fuse_contract.Behind.{FitsReference}
use Rattle.contracted_runs.specs.of_fuse_contract.Fusing.{Loop, all_accumulated, both, can_join, fused, joined, joins}
use Rattle.contracted_runs.specs.of_fuse_contract.Fusing.{known_behind, last_rows, lies_within, references_of}
use Rattle.contracted_runs.specs.of_fuse_contract.Fusing.{stands_with}
use Rattle.contracted_runs.proofs.of_fuse_contract.ReferenceLemmas.{references_fit}
use Rattle.normal_runs.proofs.InlineLemmas.{laid_read, seen}
use Rattle.normal_runs.proofs.PassLemmas.{AreControlled, KeepsFronts, pass_keeps_runs}
use Rattle.contracted_runs.specs.Three.{HaveThreeDims}
use Rattle.fused_runs.specs.Typed.{IsTyped}
use Rattle.fused_runs.proofs.BareLemmas.{IsBare, both_bare, no_cells, rows_fine}
use Rattle.fused_runs.proofs.BeginLemmas.{NotAmong, inline}
use Rattle.fused_runs.proofs.ForwardLemmas.{turns_are_joined}
use Rattle.fused_runs.proofs.HoldsLemmas.{Holds, IsGood, all_good, groups_apart, holds_first}
use Rattle.fused_runs.proofs.HoldsLemmas.{holds_on, is_one_of}
use Rattle.fused_runs.proofs.JoinedLemmas.{IsSame, same_flow, scalar_left, slot_left, storages}
use Rattle.fused_runs.proofs.KeptLemmas.{IsFront, all_laid, all_mapped, each_of, front_row}
use Rattle.fused_runs.proofs.KeptLemmas.{goals_within, grouped_front, joined_hold, old_rows, rewrite}
use Rattle.fused_runs.proofs.KeptLemmas.{rows}
use Rattle.fused_runs.proofs.KnownLemmas.{IsNoLoop, Lies, all_lie_on, all_within, row_lies}
use Rattle.fused_runs.proofs.ReadyLemmas.{all_both, both_settled, both_stand, first_stands}
use Rattle.fused_runs.proofs.ReadyLemmas.{loop_lies, second_lies}
use Rattle.fused_runs.proofs.WalkLemmas.{apart, row_does, then_same}
use Rattle.fused_runs.proofs.ZeroLemmas.{nest_meets}

four_parts : (a b c d : Bool) → (a && b && c && d) ≡ true
    → (a ≡ true) × (b ≡ true) × (c ≡ true) × (d ≡ true)
four_parts true true true true e = (refl, refl, refl, refl)
four_parts true true true false e = absurd (true≢false (sym e))
four_parts true true false d e = absurd (true≢false (sym e))
four_parts true false c d e = absurd (true≢false (sym e))
four_parts false b c d e = absurd (true≢false (sym e))

tied_behind : (bytes : List ℕ) (f g : Flow Whole) → IsSame f g
    → IsSame (flow_behind bytes f) (flow_behind bytes g)
tied_behind bytes f g TiedWrong = TiedWrong
tied_behind bytes f g (TiedOn like) = TiedOn like
tied_behind bytes f g TiedHalt = TiedHalt

-- a step that both make, by where it goes
step_by : (effect : Effect Whole) (f g : Whole → Flow Whole)
    → ((bytes : List ℕ) (next : Whole) → effect ≡ Does (Goes bytes next)
    → IsSame (f next) (g next))
    → IsSame (flow_step effect f) (flow_step effect g)
step_by (Does (Goes bytes next)) f g more =
    tied_behind bytes (f next) (g next) (more bytes next refl)
step_by (Does (Stops stop)) f g more = TiedHalt
step_by (Leaps goal) f g more = TiedWrong
step_by Passes f g more = TiedWrong

module _ (tables : Tables) (n : ℕ) (typed : HaveThreeDims tables) where
  abbrev rows_do : List Grouped → Whole → Flow Whole
  rows_do list s = through (row_does tables n) list s

  -- ---- loops
  -- what the group accumulates is among what is
  abbrev IsWithin : List Member → Type 0
  IsWithin group =
      (k : ℕ) → is_one_of (all_accumulated tables) k ≡ false
      → NotAmong (flat_map accumulated_by group) k

  both_within : (one other : List Member) → IsWithin one → IsWithin other
      → IsWithin (one ++ other)
  both_within one other first second k free =
      subst (λ l. NotAmong l k) (sym (append one))
      (all_both (λ other. other ≡ k → ⊥) (flat_map accumulated_by one)
      (flat_map accumulated_by other) (first k free) (second k free))
    where
      append : (one : List Member) → flat_map accumulated_by (one ++ other)
          ≡ flat_map accumulated_by one ++ flat_map accumulated_by other
      append one = flat_map-append accumulated_by one other

  abbrev loop_does : ℕ → List Member → Whole → Effect Whole
  loop_does slot group s = row_does tables n (Runs slot group) s

  -- where a loop goes on, it stood
  stood : (slot : ℕ) (group : List Member) (s next : Whole) (bytes : List ℕ)
      → loop_does slot group s ≡ Does (Goes bytes next) → (region : Region)
      → slice_get s.slots slot ≡ Some region
      → loop_stands tables s region (inline tables group) ≡ true
  stood slot group s next bytes goes region here =
      by (are_settled s (row.Loop slot (inline tables group))) goes
    where
      by_stands : (b : Bool) → loop_stands tables s region (inline tables group) ≡ b
          → Does (if b then tree_does n region (inline tables group) s (nest_of (row.group_coded 0 (inline tables group)))
          else Stops Wrong) ≡ Does (Goes bytes next) → b ≡ true
      by_stands true e goes = refl
      by_stands false e goes = cc

      by : (b : Bool) → (if b then Does (looped tables n (inline tables group) s (slice_get s.slots slot))
          else Does (Stops Wrong)) ≡ Does (Goes bytes next)
          → loop_stands tables s region (inline tables group) ≡ true
      by true goes =
          by_stands (loop_stands tables s region (inline tables group)) refl
          (subst (λ o. Does (looped tables n (inline tables group) s o) ≡ Does (Goes bytes next)) here goes)
      by false goes = cc

  -- and it has a region
  had_region : (slot : ℕ) (group : List Member) (s next : Whole) (bytes : List ℕ)
      → loop_does slot group s ≡ Does (Goes bytes next)
      → (region : Region) × (slice_get s.slots slot ≡ Some region)
  had_region slot group s next bytes goes =
      by (are_settled s (row.Loop slot (inline tables group))) (slice_get s.slots slot) refl goes
    where
      by : (b : Bool) (o : Option Region) → slice_get s.slots slot ≡ o
          → (if b then Does (looped tables n (inline tables group) s o) else Does (Stops Wrong))
          ≡ Does (Goes bytes next) → (region : Region) × (slice_get s.slots slot ≡ Some region)
      by true (Some region) here goes = (region, here)
      by true None here goes = cc
      by false o here goes = cc

  loop_holds : (slot : ℕ) (group : List Member) → IsWithin group → (s next : Whole)
      (bytes : List ℕ) → loop_does slot group s ≡ Does (Goes bytes next) → Holds tables n s
      → Holds tables n next
  loop_holds slot group within s next bytes goes holds =
      let alone : Tables = record tables { groups = group ∷ [] } in
      let slots : (k : ℕ) → slice_get s.slots k ≡ slice_get next.slots k =
      λ k. slot_left tables n slot group s next bytes goes k in
      let whole : IsWhole alone next =
      stay_whole alone n (instr.Loop slot 0) s next bytes (record {
        scalars = holds.whole.scalars;
        awaited = holds.whole.awaited;
        slots = holds.whole.slots;
        stores = holds.whole.stores;
      }) goes in
      record {
        whole = record {
          scalars = whole.scalars;
          awaited = whole.awaited;
          slots = whole.slots;
          stores = whole.stores;
        };
        steps = record {
          steps = λ k region e. holds.steps.steps k region (slots k ∙ e);
        };
        sized = record {
          sized = λ k rank region known e. holds.sized.sized k rank region known (slots k ∙ e);
        };
        passing = record {
          passing = λ k array shift region stored e.
              holds.passing.passing k array shift region stored (slots k ∙ e);
        };
        settled = record {
          settled = λ k free.
              ap (λ o. is_none (option_and_then (λ fold. fold) o))
              (sym (scalar_left tables n slot group s next bytes goes k (within k free)).1)
              ∙ holds.settled.settled k free;
        };
      }

  -- what is known behind it
  abbrev IsReady : Option Loop → Whole → List Item → Type 0
  IsReady None s known = AllByRecursion (Lies tables s) known
  IsReady (Some loop) s known =
      (region : Region) → slice_get s.slots loop.slot ≡ Some region
      → loop_stands tables s region (inline tables loop.group) ≡ true
      → AllByRecursion (Lies tables s) known

  behind_it : (loop : Loop) (s next : Whole) (bytes : List ℕ)
      → loop_does loop.slot loop.group s ≡ Does (Goes bytes next) → (known : List Item)
      → IsReady (Some loop) s known → AllByRecursion (Lies tables next) known
  behind_it loop s next bytes goes known ready =
      let had = had_region loop.slot loop.group s next bytes goes in
      all_lie_on tables s next known
      (λ k. slot_left tables n loop.slot loop.group s next bytes goes k)
      (storages tables n loop.slot loop.group s next bytes goes)
      (ready had.0 had.1 (stood loop.slot loop.group s next bytes goes had.0 had.1))

  -- ---- rows of the code
  record IsRun (slot : ℕ) (group : List Member) : Type 0 where
    bare : IsBare tables group
    within : IsWithin group
    fits : AllByRecursion (FitsReference tables) (references_of tables slot group)

  record IsPlain (row : Instr) : Type 0 where
    good : IsGood tables n row
    plain : IsNoLoop row

  abbrev RowFine : Grouped → Type 0
  RowFine (Runs slot group) = IsRun slot group
  RowFine (Plain row) = IsPlain row

  record IsOpen (loop : Loop) : Type 0 where
    bare : IsBare tables loop.group
    within : IsWithin loop.group

  abbrev LastFine : Option Loop → Type 0
  LastFine (Some loop) = IsOpen loop
  LastFine None = ⊤

  -- ---- two loops
  module _ (known : List Item) (last : Loop) (slot : ℕ) (group : List Member)
      (e : joins tables known last (record { slot = slot; group = group }) ≡ true)
      (first : IsOpen last) (second : IsRun slot group) where
    parts : ((last.slot == slot) ≡ true) × (can_join tables last.group group ≡ true)
        × (stands_with tables last.group group ≡ true)
        × (list_all (lies_within tables known) (references_of tables slot group) ≡ true)
    parts =
        four_parts (last.slot == slot) (can_join tables last.group group)
        (stands_with tables last.group group)
        (list_all (lies_within tables known) (references_of tables slot group)) e

    same_slot : last.slot ≡ slot
    same_slot = grind (arith, nat_tests, parts.0)

    in_turn : (list : List Grouped) (s : Whole) → Holds tables n s → IsReady (Some last) s known
        → IsSame (rows_do (Runs last.slot last.group ∷ Runs slot group ∷ list) s)
        (rows_do (Runs last.slot (last.group ++ group) ∷ list) s)
    in_turn list s holds ready =
        let free = apart tables last.group group parts.1 in
        subst (λ k. IsSame (rows_do (Runs last.slot last.group ∷ Runs k group ∷ list) s)
        (rows_do (Runs last.slot (last.group ++ group) ∷ list) s)) same_slot
        (turns_are_joined tables n last.slot last.group group free.totals free.reads free.back
        free.straight (no_cells tables last.group first.bare)
        (no_cells tables group second.bare)
        (no_cells tables (last.group ++ group)
        (both_bare tables last.group group first.bare second.bare)) first.bare.tree
        second.bare.tree first.bare.read second.bare.read s
        (λ region here settled stands line zero. (
          both_settled tables n last.slot last.group group s holds.settled parts.2 settled,
          both_stand tables n last.slot last.group group s holds.settled parts.2
              (lie (ready region here stands)) region here
              (nest_meets tables n region (nest_of last.group) s line zero) stands,
        )) (λ next. rows_do list next))
      where
        lie : AllByRecursion (Lies tables s) known
            → AllByRecursion (Lies tables s) (references_of tables last.slot group)
        lie all =
            subst (λ k. AllByRecursion (Lies tables s) (references_of tables k group))
            (sym same_slot)
            (all_within tables s holds.whole holds.steps holds.sized typed n holds.passing known
            all (references_of tables slot group) second.fits parts.3)

  -- ---- all rows
  plain_step : (known : List Item) (row : Instr) → IsPlain row → (f g : Whole → Flow Whole)
      → (s : Whole) → Holds tables n s → AllByRecursion (Lies tables s) known → Fits tables
      → ((next : Whole) → Holds tables n next
      → AllByRecursion (Lies tables next) (known_behind known row) → IsSame (f next) (g next))
      → IsSame (flow_step (row_does tables n (Plain row) s) f)
      (flow_step (row_does tables n (Plain row) s) g)
  plain_step known row is f g s holds all fits more =
      step_by (row_does tables n (Plain row) s) f g
      (λ bytes next goes. more next
      (holds_on tables n fits row is.good s next bytes goes holds)
      (row_lies tables n s next bytes row is.plain goes is.good.fits holds.whole holds.steps
      holds.sized typed known all))

  module _ (fits : Fits tables) where
    joined_same : (known : List Item) (last : Option Loop) (list : List Grouped)
        → LastFine last → AllByRecursion RowFine list → (s : Whole) → Holds tables n s
        → IsReady last s known
        → IsSame (rows_do (last_rows last ++ list) s) (rows_do (joined tables known last list) s)
    joined_same known None [] fine all s holds ready = same_flow (rows_do [] s)
    joined_same known (Some last) [] fine all s holds ready =
        same_flow (rows_do (last_rows (Some last)) s)
    joined_same known None (Plain row ∷ list) fine all s holds ready =
        plain_step known row all.0 (λ next. rows_do list next)
        (λ next. rows_do (joined tables (known_behind known row) None list) next) s holds ready
        fits
        (λ next holds ready. joined_same (known_behind known row) None list tt all.1 next holds
        ready)
    joined_same known (Some last) (Plain row ∷ list) fine all s holds ready =
        step_by (loop_does last.slot last.group s) (λ next. rows_do (Plain row ∷ list) next)
        (λ next. rows_do (Plain row ∷ joined tables (known_behind known row) None list) next)
        (λ bytes mid goes. plain_step known row all.0 (λ next. rows_do list next)
        (λ next. rows_do (joined tables (known_behind known row) None list) next) mid
        (loop_holds last.slot last.group fine.within s mid bytes goes holds)
        (behind_it last s mid bytes goes known ready) fits
        (λ next holds ready. joined_same (known_behind known row) None list tt all.1 next holds
        ready))
    joined_same known None (Runs slot group ∷ list) fine all s holds ready =
        joined_same (references_of tables slot group ++ known)
        (Some (record { slot = slot; group = group })) list
        (record { bare = all.0.bare; within = all.0.within }) all.1 s holds
        (λ region here stands. all_both (Lies tables s) (references_of tables slot group) known
        (loop_lies tables s region slot here group stands) ready)
    joined_same known (Some last) (Runs slot group ∷ list) fine all s holds ready =
        by (joins tables known last loop) refl
        (λ some is next holds ready.
        joined_same (references_of tables slot group ++ known) (Some some) list is all.1 next
        holds ready)
      where
        loop : Loop
        loop = record { slot = slot; group = group }

        more : Loop → List Grouped
        more some = joined tables (references_of tables slot group ++ known) (Some some) list

        by : (b : Bool) → joins tables known last loop ≡ b
            → ((some : Loop) → IsOpen some → (next : Whole) → Holds tables n next
            → IsReady (Some some) next (references_of tables slot group ++ known)
            → IsSame (rows_do (Runs some.slot some.group ∷ list) next)
            (rows_do (more some) next))
            → IsSame (rows_do (Runs last.slot last.group ∷ Runs slot group ∷ list) s)
            (rows_do (if b then more (both tables last loop)
            else Runs last.slot last.group ∷ more loop) s)
        by true e rest =
            then_same (rows_do (Runs last.slot last.group ∷ Runs slot group ∷ list) s)
            (rows_do (Runs last.slot (last.group ++ group) ∷ list) s)
            (rows_do (more (both tables last loop)) s)
            (in_turn known last slot group e fine all.0 list s holds ready)
            (rest (both tables last loop) (record {
              bare = both_bare tables last.group group fine.bare all.0.bare;
              within = both_within last.group group fine.within all.0.within;
            }) s holds
            (λ region here stands.
            all_both (Lies tables s) (references_of tables slot group) known
            (second_lies tables s region slot
            (ap (slice_get s.slots) (sym (same_slot known last slot group e fine all.0)) ∙ here)
            last.group group stands)
            (ready region here
            (first_stands tables s region last.group group stands))))
        by false e rest =
            step_by (loop_does last.slot last.group s)
            (λ next. rows_do (Runs slot group ∷ list) next) (λ next. rows_do (more loop) next)
            (λ bytes next goes. rest loop
            (record { bare = all.0.bare; within = all.0.within }) next
            (loop_holds last.slot last.group fine.within s next bytes goes holds)
            (λ region here stands.
            all_both (Lies tables next) (references_of tables slot group) known
            (loop_lies tables next region slot here group stands)
            (behind_it last s next bytes goes known ready)))

    -- ---- states
    abbrev IsLike : Whole → Whole → Type 0
    IsLike s t = (s ≡ t) × Holds tables n s

    data HoldsBehind : Flow Whole → Type 0 where
      HoldsOn : {bytes : List ℕ} {s : Whole} → Holds tables n s → HoldsBehind (OnTo bytes s)
      HoldsHalt : {bytes : List ℕ} {stop : _} → HoldsBehind (Halts bytes stop)

    more_hold : (bytes : List ℕ) (flow : Flow Whole) → HoldsBehind flow
        → HoldsBehind (flow_behind bytes flow)
    more_hold bytes flow (HoldsOn holds) = HoldsOn holds
    more_hold bytes flow HoldsHalt = HoldsHalt

    all_hold : (front : List Instr) → AllByRecursion (IsGood tables n) front
        → AllByRecursion (λ row. ends_stretch row ≡ false) front → (s : Whole)
        → Holds tables n s → HoldsBehind (through (does tables n) front s)
    all_hold [] good even s holds = HoldsOn holds
    all_hold (row ∷ front) good even s holds =
        by (does tables n row s) refl (steps_in tables n row even.0 s)
        (λ next holds. all_hold front good.1 even.1 next holds)
      where
        by : (effect : Effect Whole) → does tables n row s ≡ effect → IsStep effect
            → ((next : Whole) → Holds tables n next
            → HoldsBehind (through (does tables n) front next))
            → HoldsBehind (flow_step effect (λ next. through (does tables n) front next))
        by effect e (Stepping {step = Goes bytes next}) rest =
            more_hold bytes (through (does tables n) front next)
            (rest next (holds_on tables n fits row good.0 s next bytes e holds))
        by effect e (Stepping {step = Stops stop}) rest = HoldsHalt

    tied_both : (f g : Flow Whole) → IsSame f g → HoldsBehind f → Tied IsLike f g
    tied_both f g TiedWrong holds = TiedWrong
    tied_both f g (TiedOn same) (HoldsOn holds) = TiedOn (same, holds)
    tied_both f g TiedHalt holds = TiedHalt

    controlled : AreControlled (does tables n) (row_does tables n) IsLike (IsGood tables n) IsFront
        (rewrite tables n) ended_by
    controlled = record {
      old = λ row e. straight tables n row e;
      new = λ row is. front_row tables n row is;
      ends = λ row good e moved s t like.
          subst (λ u. EndsAlike row moved (does tables n row s)
          (row_does tables n (ended_by moved row) u)) like.0
          (ends_alike tables n moved s row e);
    }

    module _ (none : tables.cells ≡ 0) where
      row_fine : (row : Instr) → IsGood tables n row → RowFine (grouped.grouped tables row)
      row_fine (instr.Loop slot group) good = record {
        bare = rows_fine tables fits none (instr.Loop slot group);
        within = λ k free. groups_apart tables n k group free;
        fits = recursion_from_All (FitsReference tables)
            (references_of tables slot (members_of tables group))
            (references_fit tables slot group good.fits);
      }
      row_fine row good = record { good = good; plain = tt }

      keeps_fronts : KeepsFronts (does tables n) (row_does tables n) IsLike (IsGood tables n)
          IsFront (rewrite tables n) ended_by
      keeps_fronts = record {
        straight = λ front good even.
            joined_hold tables IsFront (λ slot group. tt) [] None
            (map (grouped.grouped tables) front)
            (all_mapped tables IsFront front
            (each_of (λ row. ends_stretch row ≡ false)
            (λ row. IsFront (grouped.grouped tables row)) (grouped_front tables n) front even));
        ties = λ front good even s t like.
            subst (λ u. Tied IsLike (through (does tables n) front s)
            (rows_do (rewrite tables n front) u)) like.0
            (tied_both (through (does tables n) front s) (rows_do (rewrite tables n front) s)
            (subst (λ flow. IsSame flow (rows_do (rewrite tables n front) s))
            (old_rows tables n front s)
            (joined_same [] None (map (grouped.grouped tables) front) tt
            (all_mapped tables RowFine front
            (each_of (IsGood tables n) (λ row. RowFine (grouped.grouped tables row)) row_fine front
            good)) s like.1 tt))
            (all_hold front good even s like.1));
      }

-- ---- the program
pub fused_shows : (tables : Tables) (n : ℕ) → Fits tables → IsTyped tables → tables.cells ≡ 0
    → (a : ℕ) → Keeps (flat_run tables a n) (flat_run (fused tables) a n)
fused_shows tables n fits typed none a =
    let begin = start_whole tables in
    let made = rows tables n fits none in
    let old : flat_run tables a n ≡ runs (does tables n) tables.code a 0 begin =
    runs_seen (act tables n) (inlined tables) tables.code a 0 begin in
    let new : flat_run (fused tables) a n ≡ runs (row_does tables n) made a 0 begin =
    ap (λ code. runs (act (fused tables) n) code a 0 begin)
    (laid_read tables (all_numbered 0 made) made (all_laid tables n fits none))
    ∙ runs_seen (act (fused tables) n) (seen tables) made a 0 begin in
    subst (λ r. Keeps r (flat_run (fused tables) a n)) (sym old)
    (subst (λ r. Keeps (runs (does tables n) tables.code a 0 begin) r) (sym new)
    (pass_keeps_runs (does tables n) (row_does tables n) (IsLike tables n typed.arrays fits)
    (IsGood tables n) IsFront (rewrite tables n) ended_by tables.code
    (controlled tables n typed.arrays fits) (keeps_fronts tables n typed.arrays fits none)
    (all_good tables n fits typed)
    (goals_within tables n fits none tables.code
    (recursion_from_All (FitsInstr tables) tables.code fits.code)) a begin begin
    (refl, holds_first tables n fits)))
