-- A loop with what it needs before it, and its vote behind it, does what the flat loop does.
--
--   loops_agree
use Rattle.std.proofs.Common.{◌≡◌, inl, inr, refl, sym, ◌∙◌, ap, subst, ℕ, zero, suc}
use Rattle.std.proofs.Common.{Bool, true, false, ◌&&◌, List, [], ◌∷◌, ◌++◌, map, All}
use Rattle.std.proofs.Common.{ℤ, pos, Option, Some, None}
use Rattle.std.specs.Prelude.{drop, fold, if◌then◌else◌, slice_get, slice_index_or}
use Rattle.std.specs.List.{flat_map, list_all}
use Rattle.std.specs.Option.{IfSome, IsSomeAnd}
use Rattle.std.proofs.lemmas.Grind.{flat_map-append}
use Rattle.std.proofs.lemmas.List.Elements.{All-head, All-tail}
use Rattle.zpl_region.specs.declared.regions.Region.{Region}
use Rattle.zpl_region.specs.Region.{components}
use Rattle.zpl_region.specs.Region.{members as tuples_of}
use Rattle.zpl_region.proofs.ListLemmas.{Among}
use Rattle.zpl_arrays.specs.Array.{has_place}
use Rattle.row_runs.specs.Run.{Does, Effect, Step, Stops, Wrong}
use Rattle.row_runs.specs.Straight.{Every, Flow, Halts, OnTo, Tied, TiedWrong, flow_behind, flow_of, flow_step}
use Rattle.row_runs.specs.Straight.{flow_then, through}
use Rattle.row_runs.proofs.StraightLemmas.{through_append}
use Rattle.node_form.specs.declared.arrays.Item.{Item}
use Rattle.node_form.specs.declared.instructions.Instr.TheVariants as instr
use Rattle.node_form.specs.declared.members.Member as number
use Rattle.node_form.specs.declared.members.Member.TheVariants as member
use Rattle.node_form.specs.declared.tables.Tables.{Tables}
use Rattle.node_form.specs.declared.words.ExprOp.{ExprOp}
use Rattle.node_form.specs.declared.words.ExprOp.TheVariants as word
use Rattle.node_form.specs.Fits.{FitsInstr, FitsMember, FitsWord, HasExpr}
use Rattle.node_form.specs.Nest.{Nest}
use Rattle.code_parts.specs.Early.{is_roomy}
use Rattle.code_parts.specs.Exchanged as exchanged
use Rattle.code_parts.specs.Uses as uses
use Rattle.grid_meaning.specs.Place.{moved_by}
use Rattle.grid_meaning.specs.State.{IsSlot}
use Rattle.nest_meaning.specs.Tree.{nest_of}
use Rattle.nest_meaning.specs.Units.{units_of}
use Rattle.nest_meaning.proofs.TreeLemmas.{reads_only}
use Rattle.flat_form.specs.Act.{act}
use Rattle.flat_form.specs.Loop.{all_awaiting, loop_stands, looped, start_columns, tree_does, units_do}
use Rattle.flat_form.specs.Names.{group_totals, group_words}
use Rattle.flat_form.specs.Right.{are_settled, each_covers, is_unmoved, matches}
use Rattle.flat_form.specs.Row.{Loop, Member, Words, group_coded, inlined, member_inlined}
use Rattle.flat_form.specs.Static.{array_has_fringe, has_one_unit, keeps_from, word_has_fringe}
use Rattle.flat_form.specs.Whole.{Whole}
use Rattle.flat_form.proofs.WholeLemmas.{stay_whole}
use Rattle.flat_form.proofs.WordLemmas.{every_flat}
use Rattle.plan_form.specs.Units.{Other, PlanRow, Single, unit_rows, with_item}
use Rattle.comm_needs.specs.Needs.{is_voted_on, loop_with_needs, needed_alone, needed_by, needs_of}
use Rattle.comm_needs.specs.Needs.{vote_if}
use Rattle.needs_runs.specs.of_plan_meaning.Abreast.{Abreast}
use Rattle.needs_runs.specs.Agree.{HasLayout}
use Rattle.needs_runs.specs.Holds.{Holds}
use Rattle.needs_runs.specs.Planned.{LoopAgrees, planned_does}
use Rattle.stored_shifts.specs.Stored.{IsStoredRead}
use Rattle.needs_runs.specs.Sharable.{HasThreeIn, IsSharable}
use Rattle.needs_runs.proofs.NeedRows.{AreBrought, HasBrought, IsNeeded, needs_brought}
use Rattle.needs_runs.proofs.SlotLemmas.{zip_there}
use Rattle.loop_runs.proofs.GroupLemmas.{all_at, all_member, among_get, read_far}
use Rattle.loop_runs.proofs.LineLemmas.{loops_first}
use Rattle.loop_runs.proofs.LoopRows.{loop_tied}
use Rattle.loop_runs.proofs.LoopStart.{Given}
use Rattle.loop_runs.proofs.NumberLemmas.{AreRead, NoneRead, SomeRead, renumbered}
use Rattle.loop_runs.proofs.PartLemmas.{inside_region, member_part}
use Rattle.loop_runs.proofs.SpotLemmas.{readable}

-- ---- lists
index_there : {X : Type 0} (xs : List (List X)) (k : ℕ) (x : List X) → slice_get xs k ≡ Some x
    → slice_index_or xs k [] ≡ x
index_there [] k x e = cc
index_there (y ∷ xs) zero x e = let same : y ≡ x = cc in same
index_there (y ∷ xs) (suc k) x e = index_there xs k x e

every_of : {X : Type 0} (Q : X → Type 0) (xs : List X) → ((x : X) → Among xs x → Q x) → Every Q xs
every_of Q [] all = tt
every_of Q (x ∷ xs) all = (all x (inl refl), every_of Q xs (λ y k. all y (inr k)))

every_in : {X : Type 0} (Q : X → Type 0) (xs : List X) (x : X) → Every Q xs → Among xs x → Q x
every_in Q [] x all among = absurd among
every_in Q (y ∷ xs) x all (inl same) = subst Q same all.0
every_in Q (y ∷ xs) x all (inr among) = every_in Q xs x all.1 among

every_both : {X : Type 0} (Q : X → Type 0) (xs ys : List X) → Every Q xs → Every Q ys
    → Every Q (xs ++ ys)
every_both Q [] ys one other = other
every_both Q (x ∷ xs) ys one other = (one.0, every_both Q xs ys one.1 other)

items_hold : (Q : Item → Type 0) (found items : List Item) → Every Q found → Every Q items
    → Every Q (fold with_item found items)
items_hold Q found [] one other = one
items_hold Q found (item ∷ items) one other =
    items_hold Q (with_item found item) items (by (exchanged.is_among found item))
    other.1
  where
    by : (b : Bool) → Every Q (if b then found else found ++ item ∷ [])
    by true = one
    by false = every_both Q found (item ∷ []) one (other.0, tt)

-- a vector is 0 past the rank
components_same : (rank : ℕ) (v : List ℤ) → All (λ c. c ≡ pos 0) (drop rank v)
    → components rank v ≡ v
components_same zero [] zeros = refl
components_same (suc rank) [] zeros = refl
components_same zero (x ∷ v) zeros =
    ap (λ y. y ∷ components zero v) (sym (All-head (λ c. c ≡ pos 0) x v zeros))
    ∙ ap (λ rest. x ∷ rest)
    (components_same zero v (All-tail (λ c. c ≡ pos 0) x v zeros))
components_same (suc rank) (x ∷ v) zeros = ap (λ rest. x ∷ rest) (components_same rank v zeros)

nothing_behind : {S : Type 0} (flow : Flow S) → flow_behind [] flow ≡ flow
nothing_behind (OnTo bytes s) = refl
nothing_behind (Halts bytes stop) = refl

-- the expressions of a member fit
mask_fits : (code : Tables) (rank e : ℕ) (mask : Option ℕ) → IfSome mask (HasExpr code rank)
    → Among (uses.as_list mask) e → HasExpr code rank e
mask_fits code rank e None fits among = absurd among
mask_fits code rank e (Some m) fits (inl same) = subst (HasExpr code rank) same fits
mask_fits code rank e (Some m) fits (inr among) = absurd among

expr_fits : (code : Tables) (rank : ℕ) (m : number.Member) → FitsMember code rank m → (e : ℕ)
    → Among (uses.exprs_of m) e → HasExpr code rank e
expr_fits code rank (member.Put a expr mask line) fits e (inl same) =
    subst (HasExpr code rank) same fits.1
expr_fits code rank (member.Put a expr mask line) fits e (inr among) =
    mask_fits code rank e mask fits.2 among
expr_fits code rank (member.Cell c expr mask line) fits e (inl same) =
    subst (HasExpr code rank) same fits.1
expr_fits code rank (member.Cell c expr mask line) fits e (inr among) =
    mask_fits code rank e mask fits.2 among
expr_fits code rank (member.Acc k f expr mask line) fits e (inl same) =
    subst (HasExpr code rank) same fits.1
expr_fits code rank (member.Acc k f expr mask line) fits e (inr among) =
    mask_fits code rank e mask fits.2 among
expr_fits code rank (member.OpenIf expr mask line) fits e (inl same) =
    subst (HasExpr code rank) same fits.0
expr_fits code rank (member.OpenIf expr mask line) fits e (inr among) =
    mask_fits code rank e mask fits.1 among
expr_fits code rank member.Otherwise fits e among = absurd among
expr_fits code rank member.CloseIf fits e among = absurd among
expr_fits code rank (member.OpenWhile expr mask line) fits e (inl same) =
    subst (HasExpr code rank) same fits.0
expr_fits code rank (member.OpenWhile expr mask line) fits e (inr among) =
    mask_fits code rank e mask fits.1 among
expr_fits code rank member.CloseWhile fits e among = absurd among
expr_fits code rank (member.OpenRepeat mask line) fits e among =
    mask_fits code rank e mask fits among
expr_fits code rank (member.Until expr) fits e (inl same) = subst (HasExpr code rank) same fits
expr_fits code rank (member.Until expr) fits e (inr among) = absurd among

module _ (code : Tables) (layout : HasLayout code) (sharable : IsSharable code) (links : Option ℕ)
    (roomy : is_roomy links 0 ≡ true) (n slot group : ℕ) (rank : ℕ)
    (has_slot : slice_get code.slots slot ≡ Some rank) (members : List number.Member)
    (there : slice_get code.groups group ≡ Some members)
    (fit : All (FitsMember code rank) members) (whole : Whole) (all : Abreast)
    (holds : Holds code whole all) where
  abbrev G : List Member
  G = map (member_inlined code) members

  abbrev Flat : Effect Whole
  Flat = act code n (Loop slot G) whole

  abbrev Plan : Flow Abreast
  Plan = through (planned_does code links n) (flat_map unit_rows (loop_with_needs code slot group)) all

  abbrev Goal : Type 0
  Goal = Tied (Holds code) (flow_step Flat (λ next. OnTo [] next)) Plan

  wrong : Flat ≡ Does (Stops Wrong) → Goal
  wrong e = subst (λ effect. Tied (Holds code) (flow_step effect (λ next. OnTo [] next)) Plan) (sym e)
      TiedWrong

  pub inlined_is : inlined code (instr.Loop slot group) ≡ Loop slot G
  inlined_is = ap (λ l. Loop slot (map (member_inlined code) l)) (index_there code.groups group members there)

  among_groups : Among code.groups members
  among_groups = among_get code.groups group members there

  module _ (region : Region) (in_slot : slice_get whole.slots slot ≡ Some region)
      (settled : are_settled whole (Loop slot G) ≡ true)
      (stands : loop_stands code whole region G ≡ true) where
    slot_is : IsSlot rank region
    slot_is =
        let found = zip_there IsSlot code.slots whole.slots slot rank holds.slots has_slot in
        let same : found.0 ≡ region = some_same (sym found.1 ∙ in_slot) in
        subst (IsSlot rank) same found.2
      where
        some_same : {x y : Region} → Some x ≡ Some y → x ≡ y
        some_same e = cc

    apart : uses.share (uses.put_arrays code group) (uses.shifted_arrays code group) ≡ false
    apart = sharable.apart group

    -- ---- what is needed is there
    abbrev Needed : Item → Type 0
    Needed = IsNeeded code layout links roomy n whole region

    module _ (m : number.Member) (among : Among members m) (e : ℕ) (expr : Among (uses.exprs_of m) e)
        (words : Words) (is : slice_get code.exprs e ≡ Some words)
        (word_fits : All (FitsWord code rank) words) where
      in_exprs : Among code.exprs words
      in_exprs = among_get code.exprs e words is

      needed_far : (a : ℕ) (shift : List ℤ) → Among words (word.Shifted a shift)
          → Needed (record { array = a; slot = slot; shift = shift })
      needed_far a shift inside =
          let read = read_far code sharable.fits.exprs slot group rank 0 members there fit apart whole
          region settled stands m among e expr words is word_fits a shift inside in
          let found = readable code whole region a shift read.can in
          let fits = all_member (FitsWord code rank) words (word.Shifted a shift) word_fits inside in
          let same_rank : found.row.rank ≡ rank =
          subst (λ o. IsSomeAnd o (λ row. row.rank ≡ rank)) found.there read.ranked in
          let told : found.row.stored ≡ true =
          subst (λ o. IsSomeAnd o (λ row. row.stored ≡ true)) found.there
          (all_member (IsStoredRead code) words (word.Shifted a shift)
          (all_member (All (IsStoredRead code)) code.exprs words sharable.stored in_exprs)
          inside) in record {
            row = found.row;
            there = found.there;
            told = told;
            long = all_member HasThreeIn words (word.Shifted a shift)
                (all_member (λ words. All HasThreeIn words) code.exprs words sharable.three_words in_exprs)
                inside;
            flat_shift = subst (λ r. components r shift ≡ shift) (sym same_rank)
                (components_same rank shift fits.1.1);
            slot_is = subst (λ r. IsSlot r region) (sym same_rank) slot_is;
            in_slot = in_slot;
            store = found.store;
            held_whole = found.here;
            covers = sym (ap (λ b. if b then each_covers found.row.dims region.dims
                else is_unmoved shift && matches found.row region)
                told) ∙ found.may;
            fringe = ap (λ o. array_has_fringe o shift) (sym found.there)
                ∙ all_at (word_has_fringe code) words (word.Shifted a shift)
                (all_member (λ words. list_all (word_has_fringe code) words ≡ true) code.exprs words
                sharable.fringes in_exprs) inside;
            places = λ p below t own.
                all_at (λ t. has_place found.store.storage (moved_by shift t))
                (tuples_of region) t found.places
                (inside_region code layout rank region slot_is p t
                (member_part code layout rank region slot_is p t own)).0;
          }

      needed_word : (w : ExprOp) → Among words w → Every Needed (needed_by slot w)
      needed_word (word.Shifted a shift) inside = (needed_far a shift inside, tt)
      needed_word (word.Const value) inside = tt
      needed_word (word.Scalar k) inside = tt
      needed_word (word.Here a) inside = tt
      needed_word (word.Cell c) inside = tt
      needed_word (word.Coord dimension) inside = tt
      needed_word (word.Pair op) inside = tt
      needed_word word.Neg inside = tt
      needed_word word.Not inside = tt
      needed_word word.Abs inside = tt

    needed_expr : (m : number.Member) → Among members m → (e : ℕ) → Among (uses.exprs_of m) e
        → Every (λ w. Every Needed (needed_by slot w)) (uses.words_of code e)
    needed_expr m among e expr =
        by (slice_get code.exprs e) refl
        (expr_fits code rank m (all_member (FitsMember code rank) members m fit among) e expr)
      where
        by : (o : Option Words) → slice_get code.exprs e ≡ o → IsSomeAnd o (All (FitsWord code rank))
            → Every (λ w. Every Needed (needed_by slot w)) (uses.rows_or_none o)
        by None is fits = absurd fits
        by (Some words) is fits =
            every_of (λ w. Every Needed (needed_by slot w)) words
            (λ w inside. needed_word m among e expr words is fits w inside)

    pub needed_all : Every Needed (needs_of code slot group)
    needed_all =
        items_hold Needed [] (flat_map (needed_by slot) (uses.group_words code group)) tt
        (every_flat Needed (needed_by slot) (uses.group_words code group)
        (subst (λ l. Every (λ w. Every Needed (needed_by slot w)) (flat_map (uses.member_words code) l))
        (sym (ap uses.rows_or_none there))
        (every_flat (λ w. Every Needed (needed_by slot w)) (uses.member_words code) members
        (every_of (λ m. Every (λ w. Every Needed (needed_by slot w)) (uses.member_words code m)) members
        (λ m among. every_flat (λ w. Every Needed (needed_by slot w)) (uses.words_of code)
        (uses.exprs_of m)
        (every_of (λ e. Every (λ w. Every Needed (needed_by slot w)) (uses.words_of code e))
        (uses.exprs_of m) (λ e expr. needed_expr m among e expr)))))))

    pub brought : AreBrought code layout links roomy n whole region all (needs_of code slot group)
    brought = needs_brought code layout links roomy n whole region (needs_of code slot group) needed_all
        all holds

    -- ---- the loop
    module _ (nest : Nest) (is_nest : nest_of members ≡ Some nest) where
      abbrev given : Given code slot group n whole brought.next
      given = record {
        layout = layout;
        exprs_fit = sharable.fits.exprs;
        rank = rank;
        group_members = members;
        there = there;
        fit = fit;
        apart = apart;
        holds = brought.holds;
        region = region;
        slot_is = slot_is;
        in_slot = in_slot;
        settled = settled;
        stands = stands;
        nest = nest;
        is_nest = is_nest;
        loops = loops_first nest
            (subst (λ l. has_one_unit l ≡ true)
            (sym (reads_only members nest is_nest))
            (all_member (λ group. has_one_unit group ≡ true) code.groups members sharable.units
            among_groups));
        keeps = all_member (λ group. keeps_from code 0 [] group ≡ true) code.groups members
            sharable.cells among_groups;
        brought = λ a shift needed p below t own.
            every_in (HasBrought code layout links roomy n whole region brought.next)
            (needs_of code slot group) (record { array = a; slot = slot; shift = shift }) brought.has needed
            p below t own;
      }

      abbrev LoopStep : Step Whole
      LoopStep = all_awaiting (group_totals G)
          (units_do n code.exprs (units_of nest) (start_columns region G) whole)

      plan_is : Plan
          ≡ through (planned_does code links n)
          (Other (instr.Loop slot group) ∷ flat_map unit_rows (vote_if (is_voted_on code group) group))
          brought.next
      plan_is =
          let first : List PlanRow = flat_map unit_rows (map needed_alone (needs_of code slot group)) in
          let rest : List PlanRow = Other (instr.Loop slot group)
          ∷ flat_map unit_rows (vote_if (is_voted_on code group) group) in
          ap (λ rows. through (planned_does code links n) rows all)
          (flat_map-append unit_rows (map needed_alone (needs_of code slot group))
          (Single (instr.Loop slot group) ∷ vote_if (is_voted_on code group) group))
          ∙ (through_append (planned_does code links n) first rest all
          ∙ (ap (λ flow. flow_then flow (λ next. through (planned_does code links n) rest next)) brought.goes
          ∙ nothing_behind (through (planned_does code links n) rest brought.next)))

      tied : Flat ≡ Does LoopStep → Goal
      tied is =
          subst (λ effect. Tied (Holds code) (flow_step effect (λ next. OnTo [] next)) Plan) (sym is)
          (subst (λ flow. Tied (Holds code) (flow_of LoopStep (λ next. OnTo [] next)) flow) (sym plan_is)
          (loop_tied code links slot group n whole brought.next given
          (λ w goes. stay_whole code n (instr.Loop slot group) whole w [] holds.is_whole
          (ap (λ row. act code n row whole) inlined_is ∙ (is ∙ ap Does goes)))))

  -- ---- all cases
  goal : Goal
  goal = by_settled (are_settled whole (Loop slot G)) refl
    where
      by_tree : (region : Region) → slice_get whole.slots slot ≡ Some region
          → are_settled whole (Loop slot G) ≡ true → loop_stands code whole region G ≡ true
          → Flat ≡ Does (tree_does n region G whole (nest_of (group_coded 0 G)))
          → (o : Option Nest) → nest_of (group_coded 0 G) ≡ o
          → AreRead code n members (start_columns region G) whole o → Goal
      by_tree region in_slot settled stands is o read NoneRead =
          wrong (is ∙ ap (λ o. Does (tree_does n region G whole o)) read)
      by_tree region in_slot settled stands is o read (SomeRead nest is_nest same) =
          tied region in_slot settled stands nest is_nest
          (is ∙ (ap (λ o. Does (tree_does n region G whole o)) read
          ∙ ap (λ step. Does (all_awaiting (group_totals G) step)) same))

      by_stands : (region : Region) → slice_get whole.slots slot ≡ Some region
          → are_settled whole (Loop slot G) ≡ true
          → Flat ≡ Does (looped code n G whole (Some region))
          → (b : Bool) → loop_stands code whole region G ≡ b → Goal
      by_stands region in_slot settled is false stands =
          wrong (is ∙ ap (λ b. Does (if b then tree_does n region G whole (nest_of (group_coded 0 G))
          else Stops Wrong)) stands)
      by_stands region in_slot settled is true stands =
          by_tree region in_slot settled stands
          (is ∙ ap (λ b. Does (if b then tree_does n region G whole (nest_of (group_coded 0 G))
          else Stops Wrong)) stands)
          (nest_of (group_coded 0 G)) refl
          (renumbered code n members (start_columns region G) whole)

      by_slot : are_settled whole (Loop slot G) ≡ true
          → Flat ≡ Does (looped code n G whole (slice_get whole.slots slot))
          → (o : Option Region) → slice_get whole.slots slot ≡ o → Goal
      by_slot settled is None in_slot = wrong (is ∙ ap (λ o. Does (looped code n G whole o)) in_slot)
      by_slot settled is (Some region) in_slot =
          by_stands region in_slot settled (is ∙ ap (λ o. Does (looped code n G whole o)) in_slot)
          (loop_stands code whole region G) refl

      by_settled : (b : Bool) → are_settled whole (Loop slot G) ≡ b → Goal
      by_settled false settled =
          wrong (ap (λ b. if b then Does (looped code n G whole (slice_get whole.slots slot))
          else Does (Stops Wrong)) settled)
      by_settled true settled =
          by_slot settled
          (ap (λ b. if b then Does (looped code n G whole (slice_get whole.slots slot))
          else Does (Stops Wrong)) settled)
          (slice_get whole.slots slot) refl

  pub loop_agrees : Tied (Holds code)
      (flow_step (act code n (inlined code (instr.Loop slot group)) whole) (λ next. OnTo [] next)) Plan
  loop_agrees =
      subst (λ row. Tied (Holds code) (flow_step (act code n row whole) (λ next. OnTo [] next)) Plan)
      (sym inlined_is) goal

-- from all states of which one holds the other
pub loops_agree : (code : Tables) → HasLayout code → IsSharable code → (links : Option ℕ)
    → is_roomy links 0 ≡ true → (n slot group : ℕ) → FitsInstr code (instr.Loop slot group)
    → LoopAgrees code links n slot group
loops_agree code layout sharable links roomy n slot group fits whole all holds =
    by (slice_get code.groups group) refl fits.fit.1
  where
    by : (o : Option (List number.Member)) → slice_get code.groups group ≡ o
        → IsSomeAnd o (All (FitsMember code fits.rank))
        → Tied (Holds code)
        (flow_step (act code n (inlined code (instr.Loop slot group)) whole) (λ next. OnTo [] next))
        (through (planned_does code links n) (flat_map unit_rows (loop_with_needs code slot group)) all)
    by None there fit = absurd fit
    by (Some members) there fit =
        loop_agrees code layout sharable links roomy n slot group fits.rank fits.fit.0 members there fit
        whole all holds
