-- A program whose loops go through temporaries shows what it showed before.
use Rattle.std.proofs.Common.{◌≡◌, refl, sym, ◌∙◌, ap, subst, arith, ℕ, zero, suc, ◌+◌, ◌<◌, ◌≤◌}
use Rattle.std.proofs.Common.{Bool, true, false, true≢false, List, [], ◌∷◌, ◌++◌, length, map, All}
use Rattle.std.proofs.Common.{Any, Option, Some, None}
use Rattle.std.specs.Prelude.{◌||◌, cond, flat_map, if◌then◌else◌, not, slice_get, slice_index_or}
use Rattle.std.specs.Prelude.{⊤}
use Rattle.std.specs.Option.{IsSomeAnd, option_map}
use Rattle.std.specs.List.{AllByRecursion, list_any, position_or_len}
use Rattle.std.proofs.lemmas.List.Elements.{All-head, recursion_from_All}
use Rattle.temp_norm.specs.of_row_runs.Run.{Effect, Does, Goes, runs}
use Rattle.temp_norm.specs.of_row_runs.Segments.{Keeps}
use Rattle.temp_norm.specs.of_row_runs.Cut.{Stretch, moved_by}
use Rattle.temp_norm.specs.of_row_runs.Straight.{Every, Flow, IsRewriting, IsStep, IsStraight, OnTo}
use Rattle.temp_norm.specs.of_row_runs.Straight.{Tied, TiedHalt, TiedOn, TiedWrong, flow_step, rewritten}
use Rattle.temp_norm.specs.of_row_runs.Straight.{through}
use Rattle.temp_norm.proofs.of_row_runs.StraightLemmas.{rewritten_ties}
use Rattle.temp_norm.specs.of_node_form.declared.arrays.ArrayRow.{ArrayRow}
use Rattle.temp_norm.specs.of_node_form.declared.instructions.Instr.{Instr}
use Rattle.temp_norm.specs.of_node_form.declared.instructions.Instr.TheVariants as instr
use Rattle.temp_norm.specs.of_node_form.declared.members.Member as number
use Rattle.temp_norm.specs.of_node_form.declared.members.Member.TheVariants as member
use Rattle.temp_norm.specs.of_node_form.declared.tables.Tables.{Tables}
use Rattle.temp_norm.specs.of_node_form.declared.touches.Thing.{Thing}
use Rattle.temp_norm.specs.of_node_form.declared.touches.Thing.TheVariants as thing
use Rattle.temp_norm.specs.of_node_form.declared.words.ExprOp.TheVariants as word
use Rattle.temp_norm.specs.of_node_form.Fits.{Fits, FitsInstr, FitsMember}
use Rattle.temp_norm.specs.of_node_form.Touch.{IsNamed, IsNamedByMember}
use Rattle.temp_norm.specs.of_code_parts.Stretch.{ends_stretch, is_goal}
use Rattle.temp_norm.specs.of_code_parts.Uses.{members_of, rows_or_none}
use Rattle.temp_norm.specs.of_flat_form.Act.{act, flat_run}
use Rattle.temp_norm.specs.of_flat_form.Flat.{IsFlatRow}
use Rattle.temp_norm.specs.of_flat_form.Row.{Loop, Member, Row, Words, inlined, member_inlined, words_at}
use Rattle.temp_norm.specs.of_flat_form.Touches.{BothGo, DoSame}
use Rattle.temp_norm.specs.of_flat_form.Touches as same
use Rattle.temp_norm.specs.of_flat_form.Whole.{Whole, start_whole}
use Rattle.temp_norm.proofs.of_flat_form.AgreeLemmas.{Agree}
use Rattle.temp_norm.proofs.of_flat_form.NamedLemmas.{GroupNamed, members_named}
use Rattle.temp_norm.proofs.of_flat_form.StepLemmas.{EffectOnly, Respects, act_change, next_state}
use Rattle.temp_norm.proofs.of_flat_form.TouchLemmas.{acts_same}
use Rattle.temp_norm.specs.of_flat_passes.Kept.{BothLeap, BothPass, BothStop, EndsAlike, OldWrong, goal_of}
use Rattle.temp_norm.specs.of_flat_passes.Rewritten.{has_goal, stretches_of, with_moved_goal}
use Rattle.temp_norm.specs.of_flat_passes.Grouped.{Grouped, Runs, all_numbered, ended_by, groups_of}
use Rattle.temp_norm.specs.of_flat_passes.Grouped.{rewritten_rows}
use Rattle.temp_norm.specs.of_flat_passes.Grouped as grouped
use Rattle.temp_norm.proofs.of_flat_passes.FlatRowLemmas.{does, ends_alike, steps_in, straight}
use Rattle.temp_norm.proofs.of_flat_passes.SeenLemmas.{runs_seen}
use Rattle.temp_norm.proofs.of_flat_passes.StretchLemmas.{HoldsOf, IsCut, all_cut, every_append, news_hold}
use Rattle.temp_norm.specs.Normalised.{is_like, normalised, place_among, read_each, row_through}
use Rattle.temp_norm.specs.Normalised.{temporaries}
use Rattle.temp_norm.specs.Pieces.{kind_put, kind_through, mask_reads, reads_shifted}
use Rattle.temp_norm.specs.Pieces.{row_written, self_put, through_rows}
use Rattle.temp_norm.proofs.FitLemmas.{IsKind, all_have_one, temporaries_fit}
use Rattle.temp_norm.proofs.PieceLemmas.{by_steps}
use Rattle.normal_runs.proofs.InlineLemmas.{IsLaid, laid_read, same_row, seen}
use Rattle.normal_runs.proofs.InlineLemmas.{seen_grouped}
use Rattle.normal_runs.proofs.NameLemmas.{any_all, member_in, named_in}
use Rattle.normal_runs.proofs.PassLemmas.{AreControlled, KeepsFronts, pass_keeps_runs}
use Rattle.normal_runs.proofs.PlaceLemmas.{set_length}
use Rattle.normal_runs.proofs.PutLemmas.{put_group}
use Rattle.normal_runs.proofs.SlotLemmas.{begins_with_steps, keeps_steps}
use Rattle.normal_runs.proofs.ThroughLemmas.{IsAlike, IsOld, mid, through_tied}

-- ---- lists
get_append : {X : Type 0} (xs ys : List X) (k : ℕ) → k < length xs
    → slice_get xs k ≡ slice_get (xs ++ ys) k
get_append [] ys k below = absurd (omega (arith, below))
get_append (x ∷ xs) ys zero below = refl
get_append (x ∷ xs) ys (suc k) below = get_append xs ys k (omega (arith, below))

map_append : {X Y : Type 0} (f : X → Y) (xs ys : List X) (k : ℕ) → k < length xs
    → slice_get (map f xs) k ≡ slice_get (map f (xs ++ ys)) k
map_append f [] ys k below = absurd (omega (arith, below))
map_append f (x ∷ xs) ys zero below = refl
map_append f (x ∷ xs) ys (suc k) below = map_append f xs ys k (omega (arith, below))

map_length : {X Y : Type 0} (f : X → Y) (xs : List X) → length (map f xs) ≡ length xs
map_length f [] = refl
map_length f (x ∷ xs) = ap suc (map_length f xs)

get_behind : {X : Type 0} (xs ys : List X) (k : ℕ)
    → slice_get (xs ++ ys) (length xs + k) ≡ slice_get ys k
get_behind [] ys k = let e : 0 + k ≡ k = omega arith in ap (slice_get ys) e
get_behind (x ∷ xs) ys k =
    let e : length (x ∷ xs) + k ≡ suc (length xs + k) = omega arith in
    ap (slice_get (x ∷ (xs ++ ys))) e ∙ get_behind xs ys k

index_behind : {X : Type 0} (xs ys : List X) (k : ℕ) (d : X)
    → slice_index_or (xs ++ ys) (length xs + k) d ≡ slice_index_or ys k d
index_behind [] ys k d = let e : 0 + k ≡ k = omega arith in ap (λ j. slice_index_or ys j d) e
index_behind (x ∷ xs) ys k d =
    let e : length (x ∷ xs) + k ≡ suc (length xs + k) = omega arith in
    ap (λ j. slice_index_or (x ∷ (xs ++ ys)) j d) e ∙ index_behind xs ys k d

-- the expression that reads a temporary
read_at : (first : ℕ) (rows : List ArrayRow) (k : ℕ) (row : ArrayRow)
    → slice_get rows k ≡ Some row
    → slice_index_or (read_each first rows) k [] ≡ word.Here (first + k) ∷ []
read_at first [] k row e = absurd (none row e)
  where
    none : (row : ArrayRow) → (let n : Option ArrayRow = None in n) ≡ Some row → ⊥
    none row e = cc
read_at first (one ∷ rows) zero row e =
    let same : first ≡ first + 0 = omega arith in ap (λ k. word.Here k ∷ []) same
read_at first (one ∷ rows) (suc k) row e =
    let same : first + 1 + k ≡ first + suc k = omega arith in
    read_at (first + 1) rows k row e ∙ ap (λ k. word.Here k ∷ []) same

-- ---- the temporary of a kind
record Found (test : ArrayRow → Bool) (rows : List ArrayRow) : Type 0 where
  row : ArrayRow
  at : slice_get rows (position_or_len test rows) ≡ Some row
  like : test row ≡ true
  bare : row.stored ≡ false

found : (test : ArrayRow → Bool) (rows : List ArrayRow) → AllByRecursion IsKind rows
    → list_any test rows ≡ true → Found test rows
found test [] all e = absurd (true≢false (sym e))
found test (row ∷ rows) all e = by (test row) refl e (found test rows all.1)
  where
    by : (b : Bool) → test row ≡ b → (b || list_any test rows) ≡ true
        → (list_any test rows ≡ true → Found test rows) → Found test (row ∷ rows)
    by true is e more = record {
      row = row;
      at = ap (λ b. slice_get (row ∷ rows) (cond (not b) (1 + position_or_len test rows) 0)) is;
      like = is;
      bare = all.0.temporary;
    }
    by false is e more =
        let one : Found test rows = more e in
        let next : 1 + position_or_len test rows ≡ suc (position_or_len test rows) = omega arith in
        record {
          row = one.row;
          at =
              ap (λ b. slice_get (row ∷ rows) (cond (not b) (1 + position_or_len test rows) 0)) is
              ∙ (ap (slice_get (row ∷ rows)) next ∙ one.at);
          like = one.like;
          bare = one.bare;
        }

-- ---- how many stores there are
module _ (tables : Tables) where
  abbrev AsLong : Whole → Whole → Type 0
  AsLong whole next = length next.stores ≡ length whole.stores

  abbrev Anything : Thing → Type 0
  Anything it = ⊤

  as_long : Respects tables Anything AsLong
  as_long = record {
    nothing = λ whole. refl;
    one_more = λ a b c first second. second ∙ first;
    set_scalar = λ whole k v is. refl;
    set_awaited = λ whole k v is. refl;
    set_slot = λ whole k v is. refl;
    put = λ whole k t v store e is. set_length whole.stores k _;
    room = λ whole k row region e bare is. set_length whole.stores k _;
    clear = λ whole k store e is. set_length whole.stores k _;
  }

  stays_long : (n : ℕ) (row : Instr) (whole next : Whole) (bytes : List ℕ)
      → act tables n (inlined tables row) whole ≡ Does (Goes bytes next)
      → length next.stores ≡ length whole.stores
  stays_long n row whole next bytes goes =
      next_state tables Anything AsLong as_long whole next bytes
      (subst (λ e. EffectOnly tables Anything AsLong as_long whole e) goes
      (act_change tables Anything AsLong as_long n row whole (λ it is. tt)))

-- ---- the rows
module _ (tables : Tables) (fits : Fits tables) (n : ℕ) where
  abbrev extra : List ArrayRow
  extra = temporaries tables

  abbrev new : Tables
  new = mid tables extra

  abbrev Alike : Whole → Whole → Type 0
  Alike = IsAlike tables extra

  abbrev new_does : Grouped → Whole → Effect Whole
  new_does row whole = act new n (seen new row) whole

  record IsOfCode (row : Instr) : Type 0 where
    row_fits : FitsInstr tables row
    kinds : (kind : ArrayRow) → kind_through tables row ≡ Some kind
        → list_any (is_like kind) extra ≡ true

  named_old : (row : Instr) → IsFlatRow row → FitsInstr tables row → (it : Thing)
      → IsNamed tables row it → IsOld tables it
  named_old row flat fit (thing.Scalar k) is = tt
  named_old row flat fit (thing.Slot k) is = tt
  named_old row flat fit (thing.Array k) is = named_in tables k fit.rank row flat fit.fit is

  kept_inline : (row : Instr) → FitsInstr tables row → inlined new row ≡ inlined tables row
  kept_inline row fit =
      same_row tables (tables.arrays ++ extra) (read_each (length tables.arrays) extra) fit.rank row
      fit.fit

  -- a row that stays
  kept_tied : (row : Instr) → FitsInstr tables row → (s t : Whole) → Alike s t
      → (e f : Effect Whole) → act tables n (inlined tables row) s ≡ e
      → act new n (inlined new row) t ≡ f → IsStep e
      → DoSame (Agree tables new (IsOld tables)) e f
      → Tied Alike (flow_step e (λ s. OnTo [] s)) (flow_step f (λ t. OnTo [] t))
  kept_tied row fit s t alike e f old_is new_is step
      (BothGo {bytes = bytes} {one = s'} {two = t'} agree) =
      TiedOn (record {
        agree = agree;
        steps = keeps_steps tables n row fit s s' bytes old_is alike.steps;
        long = stays_long new n row t t' bytes new_is ∙ alike.long;
      })
  kept_tied row fit s t alike e f old_is new_is step same.BothStop = TiedHalt
  kept_tied row fit s t alike e f old_is new_is step same.BothLeap = elim step [ ]
  kept_tied row fit s t alike e f old_is new_is step same.BothPass = elim step [ ]

  stays_tied : (row : Instr) → IsFlatRow row → FitsInstr tables row → ends_stretch row ≡ false
      → (s t : Whole) → Alike s t
      → Tied Alike (flow_step (act tables n (inlined tables row) s) (λ s. OnTo [] s))
      (flow_step (act new n (inlined new row) t) (λ t. OnTo [] t))
  stays_tied row flat fit straight s t alike =
      kept_tied row fit s t alike (act tables n (inlined tables row) s)
      (act new n (inlined new row) t) refl refl (steps_in tables n row straight s)
      (subst (λ r. DoSame (Agree tables new (IsOld tables)) (act tables n (inlined tables row) s)
      (act new n r t)) (sym (kept_inline row fit))
      (acts_same tables new (IsOld tables) s t alike.agree n row (named_old row flat fit)))

  -- ---- a loop
  abbrev IsTiedTo : Instr → List Grouped → Whole → Whole → Type 0
  IsTiedTo row rows s t =
      Tied Alike (flow_step (act tables n (inlined tables row) s) (λ s. OnTo [] s))
      (through new_does rows t)

  module _ (slot group : ℕ) (fit : FitsInstr tables (instr.Loop slot group)) where
    abbrev members : List number.Member
    members = members_of tables group

    all_fit : (o : Option (List number.Member)) → IsSomeAnd o (All (FitsMember tables fit.rank))
        → All (FitsMember tables fit.rank) (rows_or_none o)
    all_fit None is = absurd is
    all_fit (Some ms) is = is

    old_is : inlined tables (instr.Loop slot group)
        ≡ Loop slot (map (member_inlined new) members)
    old_is = sym (kept_inline (instr.Loop slot group) fit) ∙ sym (seen_grouped new
        (instr.Loop slot group))

    stays : (s t : Whole) → Alike s t
        → IsTiedTo (instr.Loop slot group) (Runs slot members ∷ []) s t
    stays s t alike =
        subst (λ r. Tied Alike
        (flow_step (act tables n (inlined tables (instr.Loop slot group)) s) (λ s. OnTo [] s))
        (flow_step (act new n r t) (λ t. OnTo [] t)))
        (sym (seen_grouped new (instr.Loop slot group)))
        (stays_tied (instr.Loop slot group) tt fit refl s t alike)

    module _ (array expr_number : ℕ) (mask_number : Option ℕ) (line : ℕ)
        (is : members ≡ member.Put array expr_number mask_number line ∷ []) where
      one_fits : FitsMember tables fit.rank (member.Put array expr_number mask_number line)
      one_fits =
          All-head (FitsMember tables fit.rank)
          (member.Put array expr_number mask_number line) []
          (subst (All (FitsMember tables fit.rank)) is
          (all_fit (slice_get tables.groups group) fit.fit.1))

      abbrev own_words : Words
      own_words = words_at new expr_number

      abbrev mask_own : Option Words
      mask_own = option_map (words_at new) mask_number

      old_named : GroupNamed (IsOld tables) (put_group array own_words mask_own line)
      old_named =
          subst (GroupNamed (IsOld tables)) same
          (members_named (IsOld tables) tables members (λ it any. named it any))
        where
          named : (it : Thing) → Any (IsNamedByMember tables it) members → IsOld tables it
          named (thing.Scalar k) any = tt
          named (thing.Slot k) any = tt
          named (thing.Array k) any =
              any_all (FitsMember tables fit.rank) (IsNamedByMember tables (thing.Array k))
              (k < length tables.arrays) members (member_in tables k fit.rank)
              (all_fit (slice_get tables.groups group) fit.fit.1) any

          loop_group : Row → List Member
          loop_group (Loop slot group) = group
          loop_group row = []

          same : map (member_inlined tables) members ≡ put_group array own_words mask_own line
          same =
              ap loop_group (seen_grouped tables (instr.Loop slot group) ∙ old_is)
              ∙ ap (map (member_inlined new)) is

      abbrev place : ℕ
      place = place_among extra (slice_get tables.arrays array)

      abbrev temporary : ℕ
      temporary = length tables.arrays + place

      abbrev read : ℕ
      read = length tables.exprs + place

      abbrev three_rows : List Grouped
      three_rows =
          grouped.Plain (instr.Room temporary slot)
          ∷ Runs slot (member.Put temporary expr_number mask_number line ∷ [])
          ∷ Runs slot (member.Put array read mask_number line ∷ [])
          ∷ []

      goes_through : (kind : ArrayRow) → slice_get tables.arrays array ≡ Some kind
          → list_any (is_like kind) extra ≡ true → (s t : Whole) → Alike s t
          → IsTiedTo (instr.Loop slot group) three_rows s t
      goes_through kind kind_is any s t alike =
          subst (λ r. Tied Alike (flow_step (act tables n r s) (λ s. OnTo [] s))
          (through new_does three_rows t))
          (sym (old_is ∙ ap (λ g. Loop slot (map (member_inlined new) g)) is))
          (subst (λ words. Tied Alike
          (flow_step (act tables n (Loop slot (put_group array own_words mask_own line)) s)
          (λ s. OnTo [] s))
          (flow_step (new_does (grouped.Plain (instr.Room temporary slot)) t)
          (λ next. flow_step (act new n (Loop slot (put_group temporary own_words mask_own line))
          next)
          (λ next. flow_step (act new n (Loop slot (put_group array words mask_own line)) next)
          (λ next. OnTo [] next)))))
          (sym read_is)
          (through_tied tables extra n slot array own_words mask_own line temporary kind one.row
          old_named (omega arith) kind_is
          (get_behind tables.arrays extra place ∙ at) one.like one.bare s t alike))
        where
          one : Found (is_like kind) extra
          one = found (is_like kind) extra (temporaries_fit tables fits) any

          at : slice_get extra place ≡ Some one.row
          at = ap (λ o. slice_get extra (place_among extra o)) kind_is ∙ one.at

          read_is : words_at new read ≡ word.Here temporary ∷ []
          read_is =
              index_behind tables.exprs (read_each (length tables.arrays) extra) place []
              ∙ read_at (length tables.arrays) extra place one.row at

      by_kind : ((kind : ArrayRow) → slice_get tables.arrays array ≡ Some kind
          → list_any (is_like kind) extra ≡ true)
          → (o : Option ArrayRow) → slice_get tables.arrays array ≡ o
          → IsSomeAnd o (λ (row : ArrayRow). row.rank ≡ fit.rank)
          → (s t : Whole) → Alike s t → IsTiedTo (instr.Loop slot group) three_rows s t
      by_kind has None kind_is any s t alike = absurd any
      by_kind has (Some kind) kind_is any s t alike =
          goes_through kind kind_is (has kind kind_is) s t alike

      by_test : (b : Bool)
          → ((kind : ArrayRow) → kind_put tables (if b then Some (record {
            array = array;
            expr = expr_number;
            mask = mask_number;
            line = line;
          }) else None) ≡ Some kind → list_any (is_like kind) extra ≡ true)
          → (s t : Whole) → Alike s t
          → IsTiedTo (instr.Loop slot group) (through_rows tables extra slot members
          (if b then Some (record {
            array = array;
            expr = expr_number;
            mask = mask_number;
            line = line;
          }) else None)) s t
      by_test true has s t alike =
          by_kind has (slice_get tables.arrays array) refl one_fits.0 s t alike
      by_test false has s t alike = stays s t alike

    by_members : (ms : List number.Member) → members ≡ ms
        → ((kind : ArrayRow) → kind_put tables (self_put tables ms) ≡ Some kind
        → list_any (is_like kind) extra ≡ true)
        → (s t : Whole) → Alike s t
        → IsTiedTo (instr.Loop slot group)
        (through_rows tables extra slot members (self_put tables ms)) s t
    by_members [] is has s t alike = stays s t alike
    by_members (member.Put array own kept line ∷ []) is has s t alike =
        by_test array own kept line is
        (reads_shifted tables array own || mask_reads tables array kept) has s t alike
    by_members (member.Put array own kept line ∷ two ∷ ms) is has s t alike = stays s t alike
    by_members (one ∷ ms) is has s t alike = stays s t alike

  -- ---- any row
  row_tied : (row : Instr) → IsOfCode row → ends_stretch row ≡ false → (s t : Whole) → Alike s t
      → IsTiedTo row (row_written tables extra row) s t
  row_tied (instr.Loop slot group) of straight s t alike =
      by_members slot group of.row_fits (members_of tables group) refl of.kinds s t alike
  row_tied (instr.Start exchange) of straight s t alike = TiedWrong
  row_tied (instr.Finish exchange) of straight s t alike = TiedWrong
  row_tied (instr.Vote group) of straight s t alike = TiedWrong
  row_tied (instr.TreeVote group) of straight s t alike = TiedWrong
  row_tied (instr.TreeFold scalar operator) of straight s t alike = TiedWrong
  row_tied row of straight s t alike = stays_tied row tt of.row_fits straight s t alike

  -- ---- straight rows
  no_facts : Unit {0} → Instr → Unit {0}
  no_facts facts row = tt

  abbrev step : Unit {0} → Instr → List Grouped
  step facts row = row_written tables extra row

  steps_are : (rows : List Instr) → rewritten step no_facts tt rows
      ≡ flat_map (row_written tables extra) rows
  steps_are [] = refl
  steps_are (row ∷ rows) = ap (λ more. row_written tables extra row ++ more) (steps_are rows)

  abbrev Anyhow : Unit {0} → Whole → Whole → Type 0
  Anyhow facts s t = ⊤

  with_facts : (f : Flow Whole) (g : Flow Whole) → Tied Alike f g
      → Tied (λ s t. Alike s t × ⊤) f g
  with_facts f g TiedWrong = TiedWrong
  with_facts f g (TiedOn alike) = TiedOn (alike, tt)
  with_facts f g TiedHalt = TiedHalt

  all_ties : (rows : List Instr) → AllByRecursion IsOfCode rows
      → AllByRecursion (λ row. ends_stretch row ≡ false) rows
      → Every (IsRewriting (does tables n) new_does step no_facts Alike Anyhow) rows
  all_ties [] of straight = tt
  all_ties (row ∷ rows) of straight = (
    record {
      ties = λ facts s t knows alike.
          with_facts (flow_step (does tables n row s) (λ s. OnTo [] s))
          (through new_does (row_written tables extra row) t)
          (row_tied row of.0 straight.0 s t alike);
    },
    all_ties rows of.1 straight.1,
  )

  abbrev rewrite : List Instr → List Grouped
  rewrite rows = flat_map (row_through tables extra) (map (grouped.grouped tables) rows)

  fronts_tied : (front : List Instr) → AllByRecursion IsOfCode front
      → AllByRecursion (λ row. ends_stretch row ≡ false) front → (s t : Whole) → Alike s t
      → Tied Alike (through (does tables n) front s) (through new_does (rewrite front) t)
  fronts_tied front of straight s t alike =
      subst (λ rows. Tied Alike (through (does tables n) front s) (through new_does rows t))
      (steps_are front ∙ sym (by_steps tables extra front))
      (rewritten_ties (does tables n) new_does step no_facts Alike Anyhow tt front s t
      (all_ties front of straight) tt alike)

  -- ---- new rows are straight, and laid out
  abbrev IsFront : Grouped → Type 0
  IsFront (Runs slot group) = ⊤
  IsFront (grouped.Plain row) = ends_stretch row ≡ false

  front_row : (row : Grouped) → IsFront row → IsStraight new_does row
  front_row (Runs slot group) is = record {
    straight = λ s. (straight (record new { groups = group ∷ [] }) n
        (instr.Loop slot 0) refl).straight s;
  }
  front_row (grouped.Plain row) is = record { straight = λ s. (straight new n row is).straight s }

  pub loop_front : (P : Grouped → Type 0) → ((slot : ℕ) (group : List number.Member)
      → P (Runs slot group))
      → ((array slot : ℕ) → P (grouped.Plain (instr.Room array slot)))
      → (slot group : ℕ) → AllByRecursion P (row_written tables extra (instr.Loop slot group))
  loop_front P runs room slot group = by (members_of tables group)
    where
      by_if : (ms : List number.Member) (array expr : ℕ) (mask : Option ℕ) (line : ℕ) (b : Bool)
          → AllByRecursion P (through_rows tables extra slot ms (if b then Some (record {
            array = array;
            expr = expr;
            mask = mask;
            line = line;
          }) else None))
      by_if ms array expr mask line true =
          (room _ slot, (runs slot _, (runs slot _, tt)))
      by_if ms array expr mask line false = (runs slot ms, tt)

      by : (ms : List number.Member)
          → AllByRecursion P (through_rows tables extra slot ms (self_put tables ms))
      by [] = (runs slot [], tt)
      by (member.Put array expr mask line ∷ []) =
          by_if (member.Put array expr mask line ∷ []) array expr mask line
          (reads_shifted tables array expr || mask_reads tables array mask)
      by (member.Put array expr mask line ∷ two ∷ ms) =
          (runs slot (member.Put array expr mask line ∷ two ∷ ms), tt)
      by (one ∷ ms) = (runs slot (one ∷ ms), tt)

  row_front : (row : Instr) → ends_stretch row ≡ false
      → AllByRecursion IsFront (row_written tables extra row)
  row_front (instr.Loop slot group) e =
      loop_front IsFront (λ slot group. tt) (λ array slot. refl) slot group
  row_front row e = (e, tt)

  row_laid : (row : Instr) → AllByRecursion IsLaid (row_written tables extra row)
  row_laid (instr.Loop slot group) =
      loop_front IsLaid (λ slot group. tt) (λ array slot. tt) slot group
  row_laid row = (tt, tt)

  pub rows_hold : (P : Grouped → Type 0) (rows : List Instr)
      → AllByRecursion (λ row. AllByRecursion P (row_written tables extra row)) rows
      → AllByRecursion P (rewrite rows)
  rows_hold P rows all =
      subst (AllByRecursion P) (sym (by_steps tables extra rows)) (by rows all)
    where
      by : (rows : List Instr)
          → AllByRecursion (λ row. AllByRecursion P (row_written tables extra row)) rows
          → AllByRecursion P (flat_map (row_written tables extra) rows)
      by [] all = tt
      by (row ∷ rows) all =
          every_append P (row_written tables extra row) (flat_map (row_written tables extra) rows)
          all.0 (by rows all.1)

  pub each_of : (P Q : Instr → Type 0) → ((row : Instr) → P row → Q row) → (rows : List Instr)
      → AllByRecursion P rows → AllByRecursion Q rows
  each_of P Q one [] all = tt
  each_of P Q one (row ∷ rows) all = (one row all.0, each_of P Q one rows all.1)

  any_of : (Q : Instr → Type 0) → ((row : Instr) → Q row) → (rows : List Instr)
      → AllByRecursion Q rows
  any_of Q one [] = tt
  any_of Q one (row ∷ rows) = (one row, any_of Q one rows)

  keeps_fronts : KeepsFronts (does tables n) new_does Alike IsOfCode IsFront rewrite ended_by
  keeps_fronts = record {
    straight = λ front of straight.
        rows_hold IsFront front
        (each_of (λ row. ends_stretch row ≡ false)
        (λ row. AllByRecursion IsFront (row_written tables extra row)) row_front front straight);
    ties = fronts_tied;
  }

  -- ---- rows that end a stretch
  both_end : (row : Instr) (moved : ℕ → ℕ) (e f g : Effect Whole)
      → DoSame (Agree tables new (IsOld tables)) e f → EndsAlike row moved f g
      → EndsAlike row moved e g
  both_end row moved e f g (BothGo agree) ends = elim ends [ ]
  both_end row moved e f g same.BothLeap (BothLeap has) = BothLeap has
  both_end row moved e f g same.BothPass BothPass = BothPass
  both_end row moved e f g same.BothStop BothStop = BothStop
  both_end row moved e f g same.BothStop OldWrong = OldWrong

  flat_end : (row : Instr) → ends_stretch row ≡ true → IsFlatRow row
  flat_end (instr.Jump goal) e = tt
  flat_end (instr.Unless expr goal line) e = tt
  flat_end (instr.Trap kind line) e = tt
  flat_end instr.End e = tt
  flat_end row e = absurd (true≢false (sym e))

  row_ends : (row : Instr) → IsOfCode row → ends_stretch row ≡ true → (moved : ℕ → ℕ)
      → (s t : Whole) → Alike s t
      → EndsAlike row moved (does tables n row s) (new_does (ended_by moved row) t)
  row_ends row of ends moved s t alike =
      both_end row moved (does tables n row s) (act new n (inlined new row) t)
      (act new n (inlined new (with_moved_goal moved row)) t)
      (subst (λ r. DoSame (Agree tables new (IsOld tables)) (does tables n row s) (act new n r t))
      (sym (kept_inline row of.row_fits))
      (acts_same tables new (IsOld tables) s t alike.agree n row
      (named_old row (flat_end row ends) of.row_fits)))
      (ends_alike new n moved t row ends)

  controlled : AreControlled (does tables n) new_does Alike IsOfCode IsFront rewrite ended_by
  controlled = record {
    old = straight tables n;
    new = front_row;
    ends = row_ends;
  }

  -- ---- rows of the code
  all_of_code : (rows : List Instr) → AllByRecursion (FitsInstr tables) rows
      → AllByRecursion (λ one. (kind : ArrayRow) → kind_through tables one ≡ Some kind
      → list_any (is_like kind) extra ≡ true) rows
      → AllByRecursion IsOfCode rows
  all_of_code [] fit kinds = tt
  all_of_code (row ∷ rows) fit kinds =
      (record { row_fits = fit.0; kinds = kinds.0 }, all_of_code rows fit.1 kinds.1)

  goals_within : (rows : List Instr) → AllByRecursion (FitsInstr tables) rows
      → AllByRecursion (λ row. has_goal row ≡ true → goal_of row ≤ length tables.code) rows
  goals_within [] all = tt
  goals_within (row ∷ rows) all = (one row all.0, goals_within rows all.1)
    where
      one : (row : Instr) → FitsInstr tables row → has_goal row ≡ true
          → goal_of row ≤ length tables.code
      one (instr.Jump goal) fits e = fits.fit
      one (instr.Unless expr goal line) fits e = fits.fit.1
      one row fits e = absurd (true≢false (sym e))

  abbrev rows : List Grouped
  rows = rewritten_rows tables (flat_map (row_through tables extra))

  ended_laid : (moved : ℕ → ℕ) (row : Instr) → ends_stretch row ≡ true
      → IsLaid (ended_by moved row)
  ended_laid moved (instr.Jump goal) e = tt
  ended_laid moved (instr.Unless expr goal line) e = tt
  ended_laid moved (instr.Trap kind line) e = tt
  ended_laid moved instr.End e = tt
  ended_laid moved row e = absurd (true≢false (sym e))

  abbrev moved : ℕ → ℕ
  moved = moved_by rewrite ended_by (stretches_of tables.code)

  all_hold : (some : List (Stretch Instr))
      → AllByRecursion (IsCut ends_stretch (is_goal tables.code)) some
      → AllByRecursion (HoldsOf IsLaid rewrite ended_by moved) some
  all_hold [] are = tt
  all_hold (stretch ∷ some) are = (
    record {
      front = rows_hold IsLaid stretch.front
          (any_of (λ row. AllByRecursion IsLaid (row_written tables extra row)) row_laid
          stretch.front);
      last = λ row last. ended_laid moved row (are.0.last row last);
    },
    all_hold some are.1,
  )

  all_laid : AllByRecursion IsLaid rows
  all_laid =
      news_hold IsLaid rewrite ended_by moved (stretches_of tables.code)
      (all_hold (stretches_of tables.code)
      (all_cut ends_stretch (is_goal tables.code) 0 tables.code))

  -- ---- the program
  begins : Alike (start_whole tables) (start_whole new)
  begins = record {
    agree = by;
    steps = begins_with_steps tables;
    long = map_length _ new.arrays;
  }
    where
      by : Agree tables new (IsOld tables) (start_whole tables) (start_whole new)
      by (thing.Scalar k) is = (refl, refl)
      by (thing.Slot k) is = (refl, refl)
      by (thing.Array k) is =
          (get_append tables.arrays extra k is, map_append _ tables.arrays extra k is)

  pub runs_kept : (a : ℕ) → Keeps (flat_run tables a n) (flat_run (normalised tables) a n)
  runs_kept a =
      let begin = start_whole tables in
      let first = start_whole new in
      let old : flat_run tables a n ≡ runs (does tables n) tables.code a 0 begin =
      runs_seen (act tables n) (inlined tables) tables.code a 0 begin in
      let seen_new : flat_run (normalised tables) a n ≡ runs new_does rows a 0 first =
      ap (λ code. runs (act (normalised tables) n) code a 0 first)
      (laid_read new (all_numbered 0 rows) rows all_laid)
      ∙ runs_seen (act (normalised tables) n) (seen new) rows a 0 first in
      subst (λ r. Keeps r (flat_run (normalised tables) a n)) (sym old)
      (subst (λ r. Keeps (runs (does tables n) tables.code a 0 begin) r) (sym seen_new)
      (pass_keeps_runs (does tables n) new_does Alike IsOfCode IsFront rewrite ended_by tables.code
      controlled keeps_fronts
      (all_of_code tables.code (recursion_from_All (FitsInstr tables) tables.code fits.code)
      (all_have_one tables fits))
      (goals_within tables.code (recursion_from_All (FitsInstr tables) tables.code fits.code))
      a begin first begins))
