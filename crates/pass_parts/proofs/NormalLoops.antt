-- Where values go through temporaries, checks still stand where loops could be joined.
use Rattle.std.proofs.Common.{◌≡◌, ◌⊎◌, inl, inr, refl, sym, ap, ◌∙◌, subst, arith, ℕ, zero, suc, ◌+◌}
use Rattle.std.proofs.Common.{◌<◌, ◌==◌, Bool, true, false, not, true≢false, List, [], ◌∷◌, ◌++◌, ℤ}
use Rattle.std.proofs.Common.{length, length-append, append_assoc, map}
use Rattle.std.specs.Prelude.{◌&&◌, ◌||◌, All, flat_map, if◌then◌else◌, slice_get, Option, Some, None}
use Rattle.std.specs.Option.{IfSome, IsSomeAnd}
use Rattle.std.specs.List.{AllByRecursion, list_all, list_any}
use Rattle.std.proofs.Math.Path.{fun_ext}
use Rattle.std.proofs.lemmas.Bool.{and_parts}
use Rattle.std.proofs.lemmas.Bool.Decides.{Decides-eqb}
use Rattle.std.proofs.lemmas.List.Elements.{recursion_from_All}
use Rattle.std.proofs.lemmas.List.Folds.{list_any-append}
use Rattle.std.proofs.lemmas.Option.{slice_get_within}
use Rattle.node_form.specs.declared.arrays.ArrayRow.{ArrayRow}
use Rattle.node_form.specs.declared.arrays.Item.{Item}
use Rattle.node_form.specs.declared.words.ExprOp.{ExprOp}
use Rattle.node_form.specs.declared.members.Member.{Member}
use Rattle.node_form.specs.declared.members.Member.TheVariants as member
use Rattle.node_form.specs.declared.instructions.Instr.{Instr}
use Rattle.node_form.specs.declared.instructions.Instr.TheVariants as instr
use Rattle.node_form.specs.declared.tables.Tables.{Tables}
use Rattle.node_form.specs.Value.{unmoved}
use Rattle.node_form.specs.Fits.{Fits, FitsGroup, FitsMember, FitsWord, HasExpr}
use Rattle.row_runs.specs.Cut.{passed}
use Rattle.code_parts.specs.Fused.{are_joinable}
use Rattle.code_parts.specs.Stretch.{ends_stretch, is_goal, is_right_throughout, right_from}
use Rattle.code_parts.specs.Uses.{accumulated_by, as_list, exprs_of, member_words, members_of}
use Rattle.code_parts.specs.Uses.{put_by, rows_or_none, scalars_in, share, shifted_in, words_of}
use Rattle.code_parts.proofs.WalkLemmas.{both_left, both_right}
use Rattle.node_emit.specs.of_flat_passes.Rewritten.{stretches_of, with_moved_goal}
use Rattle.node_emit.specs.of_flat_passes.Grouped.{Grouped, Plain, Runs, all_numbered, ended_by, grouped, groups_of}
use Rattle.node_emit.specs.of_flat_passes.Grouped.{with_grouped}
use Rattle.pass_sizes.proofs.of_plan_form.WalkLemmas as walks
use Rattle.pass_sizes.proofs.of_comm_combine.ReachLemmas.{GoalsMoved}
use Rattle.pass_sizes.specs.of_temp_norm.Normalised.{loop_through, normalised, place_among, put_alone}
use Rattle.pass_sizes.specs.of_temp_norm.Normalised.{read_each, reads_itself, row_through, temporaries}
use Rattle.pass_sizes.specs.of_temp_norm.Normalised.{with_temporaries}
use Rattle.pass_sizes.specs.of_fuse_contract.Fusing.{all_accumulated, are_like, are_put_alike, are_rows_like}
use Rattle.pass_sizes.specs.of_fuse_contract.Fusing.{can_join, is_accumulating, reference, references_in}
use Rattle.pass_sizes.specs.of_fuse_contract.Fusing.{references_of, stands_with}
use Rattle.pass_parts.specs.Checks.{ChecksWhatFollows, ChecksWhatItJoins, StandsBehindChecks}
use Rattle.pass_parts.specs.Checks.{StandsWithWhatFollows, is_one_of}
use Rattle.pass_parts.proofs.CheckedLemmas.{Since, are_needed, needed_behind, old_learn, old_right}
use Rattle.pass_parts.proofs.CheckedLemmas.{checks_back, old_throughout, stands_back}
use Rattle.pass_parts.proofs.GoalLemmas as goals
use Rattle.pass_parts.proofs.GoalLemmas.{all_moved, group_there, new}
use Rattle.pass_parts.proofs.JoinableLemmas.{apart}
use Rattle.pass_parts.proofs.NearLemmas.{ends_moved}
use Rattle.pass_parts.proofs.StandLemmas.{all_four, four}

both : (a b : Bool) → a ≡ true → b ≡ true → (a && b) ≡ true
both true b one other = other
both false b one other = one

-- ---- expressions that are there
within_more : {X : Type 0} (xs ys : List X) (k : ℕ) → k < length xs
    → slice_get (xs ++ ys) k ≡ slice_get xs k
within_more [] ys k less = absurd (omega (arith, less))
within_more (x ∷ xs) ys zero less = refl
within_more (x ∷ xs) ys (suc k) less = within_more xs ys k (omega (arith, less))

module _ (tables : Tables) where
  abbrev IsThere : ℕ → Type 0
  IsThere expr = expr < length tables.exprs

  abbrev AreThere : Member → Type 0
  AreThere one = AllByRecursion IsThere (exprs_of one)

  found : (rank expr : ℕ) (words : Option (List ExprOp)) → slice_get tables.exprs expr ≡ words
      → (P : List ExprOp → Type 0) → IsSomeAnd words P → IsThere expr
  found rank expr None there P has = absurd has
  found rank expr (Some words) there P has = slice_get_within tables.exprs expr words there

  has_expr : (rank expr : ℕ) → HasExpr tables rank expr → IsThere expr
  has_expr rank expr has = found rank expr (slice_get tables.exprs expr) refl (All (FitsWord tables rank)) has

  has_mask : (rank : ℕ) (mask : Option ℕ) → IfSome mask (HasExpr tables rank)
      → AllByRecursion IsThere (as_list mask)
  has_mask rank None has = tt
  has_mask rank (Some expr) has = (has_expr rank expr has, tt)

  member_there : (rank : ℕ) (one : Member) → FitsMember tables rank one → AreThere one
  member_there rank (member.Put array expr mask line) fits =
      (has_expr rank expr fits.1, has_mask rank mask fits.2)
  member_there rank (member.Cell cell expr mask line) fits =
      (has_expr rank expr fits.1, has_mask rank mask fits.2)
  member_there rank (member.Acc scalar operator expr mask line) fits =
      (has_expr rank expr fits.1, has_mask rank mask fits.2)
  member_there rank (member.OpenIf expr mask line) fits =
      (has_expr rank expr fits.0, has_mask rank mask fits.1)
  member_there rank member.Otherwise fits = tt
  member_there rank member.CloseIf fits = tt
  member_there rank (member.OpenWhile expr mask line) fits =
      (has_expr rank expr fits.0, has_mask rank mask fits.1)
  member_there rank member.CloseWhile fits = tt
  member_there rank (member.OpenRepeat mask line) fits = has_mask rank mask fits
  member_there rank (member.Until expr) fits = (has_expr rank expr fits, tt)

  members_there : (rank : ℕ) (group : List Member)
      → AllByRecursion (FitsMember tables rank) group → AllByRecursion AreThere group
  members_there rank [] fits = tt
  members_there rank (one ∷ group) fits =
      (member_there rank one fits.0, members_there rank group fits.1)

  group_fits : (groups : List (List Member)) → AllByRecursion (FitsGroup tables) groups → (k : ℕ)
      → AllByRecursion AreThere (rows_or_none (slice_get groups k))
  group_fits [] fits k = tt
  group_fits (group ∷ groups) fits zero =
      members_there fits.0.rank group
      (recursion_from_All (FitsMember tables fits.0.rank) group fits.0.fit)
  group_fits (group ∷ groups) fits (suc k) = group_fits groups fits.1 k

  -- ---- the new tables
  abbrev extra : List ArrayRow
  extra = temporaries tables

  abbrev base : Tables
  base = with_temporaries tables extra

  abbrev step : Unit {0} → Instr → List Grouped
  step facts row = row_through tables extra (grouped tables row)

  abbrev made : List Grouped
  made = new {F = Unit {0}} tables tt step (λ facts row. tt) (λ facts. []) refl

  abbrev plan : Tables
  plan = with_grouped base made

  through_is : (rows : List Instr)
      → flat_map (row_through tables extra) (map (grouped tables) rows)
      ≡ walks.closed {F = Unit {0}} {Old = Instr} {New = Grouped} ends_stretch
      (is_goal tables.code) tt step (λ facts row. tt) (λ facts. []) ended_by tt rows
  through_is [] = refl
  through_is (row ∷ rows) =
      ap (λ l. row_through tables extra (grouped tables row) ++ l) (through_is rows)

  normalised_is : normalised tables ≡ plan
  normalised_is =
      ap (λ f. with_grouped base (passed f ended_by (stretches_of tables.code)))
      (fun_ext through_is)
      ∙ ap (with_grouped base)
      (walks.passed_walk {F = Unit {0}} {Old = Instr} {New = Grouped} ends_stretch
      (is_goal tables.code) tt step (λ facts row. tt) (λ facts. []) ended_by refl tables.code)

  abbrev walked : ℕ → List Instr → List Grouped
  walked at rows =
      goals.walk {F = Unit {0}} tables tt step (λ facts row. tt) (λ facts. []) refl tt at rows

  abbrev counted : ℕ → ℕ → List Instr → List ℕ
  counted at n rows =
      goals.numbers {F = Unit {0}} tables tt step (λ facts row. tt) (λ facts. []) refl tt at n rows

  abbrev moves : ℕ → ℕ
  moves = goals.moved {F = Unit {0}} tables tt step (λ facts row. tt) (λ facts. []) refl

  abbrev put : Bool → (ℕ → ℕ) → Instr → List Grouped
  put e m row =
      goals.put {F = Unit {0}} tables tt step (λ facts row. tt) (λ facts. []) refl e m tt row

  abbrev front : Bool → List Grouped
  front b = goals.in_front {F = Unit {0}} tables tt step (λ facts row. tt) (λ facts. []) refl b tt

  -- ---- words are the same
  same_words : (expr : ℕ) → IsThere expr → words_of plan expr ≡ words_of tables expr
  same_words expr there =
      ap rows_or_none
      (within_more tables.exprs (read_each (length tables.arrays) extra) expr there)

  all_words : (exprs : List ℕ) → AllByRecursion IsThere exprs
      → flat_map (words_of plan) exprs ≡ flat_map (words_of tables) exprs
  all_words [] there = refl
  all_words (expr ∷ exprs) there =
      ap (λ l. l ++ flat_map (words_of plan) exprs) (same_words expr there.0)
      ∙ ap (λ l. words_of tables expr ++ l) (all_words exprs there.1)

  group_same : (group : List Member) → AllByRecursion AreThere group
      → flat_map (member_words plan) group ≡ flat_map (member_words tables) group
  group_same [] there = refl
  group_same (one ∷ group) there =
      ap (λ l. l ++ flat_map (member_words plan) group) (all_words (exprs_of one) there.0)
      ∙ ap (λ l. member_words tables one ++ l) (group_same group there.1)

  same_references : (slot : ℕ) (group : List Member) → AllByRecursion AreThere group
      → references_of plan slot group ≡ references_of tables slot group
  same_references slot group there =
      ap (λ words. map (λ array. reference slot array unmoved)
      (flat_map put_by group) ++ flat_map (references_in slot) words)
      (group_same group there)

  -- ---- what a loop becomes
  abbrev the_put : ℕ → ℕ → Option ℕ → ℕ → List Member
  the_put array expr mask line = member.Put array expr mask line ∷ []

  record IsSplit (slot : ℕ) (group : List Member) : Type 0 where
    temporary : ℕ
    read : ℕ
    array : ℕ
    expr : ℕ
    mask : Option ℕ
    line : ℕ
    is : group ≡ the_put array expr mask line
    itself : reads_itself tables group ≡ true
    rows : row_through tables extra (Runs slot group)
        ≡ Plain (instr.Room temporary slot) ∷ Runs slot (the_put temporary expr mask line)
        ∷ Runs slot (the_put array read mask line) ∷ []

  abbrev IsKept : ℕ → List Member → Type 0
  IsKept slot group = row_through tables extra (Runs slot group) ≡ Runs slot group ∷ []

  abbrev through : ℕ → List Member → Bool → List Grouped
  through slot group b =
      loop_through tables extra slot group (if b then put_alone group else [])

  not_through : (slot : ℕ) (group : List Member) → reads_itself tables group ≡ false
      → IsKept slot group
  not_through slot group out = ap (through slot group) out

  split : (slot : ℕ) (group : List Member) (itself : reads_itself tables group ≡ true)
      → IsKept slot group ⊎ IsSplit slot group
  split slot [] itself = inl (ap (through slot []) itself)
  split slot (member.Put array expr mask line ∷ []) itself =
      inr (record {
        temporary = length tables.arrays + place_among extra (slice_get tables.arrays array);
        read = length tables.exprs + place_among extra (slice_get tables.arrays array);
        array = array;
        expr = expr;
        mask = mask;
        line = line;
        is = refl;
        itself = itself;
        rows = ap (through slot (member.Put array expr mask line ∷ [])) itself;
      })
  split slot (one ∷ group) itself = inl (ap (through slot (one ∷ group)) itself)

  seen : (slot : ℕ) (group : List Member) → IsKept slot group ⊎ IsSplit slot group
  seen slot group = by (reads_itself tables group) refl
    where
      by : (b : Bool) → reads_itself tables group ≡ b → IsKept slot group ⊎ IsSplit slot group
      by true itself = split slot group itself
      by false out = inl (not_through slot group out)

  -- the two loops that it is split into can't be joined again
  never_joined : (temporary read array expr : ℕ) (mask : Option ℕ) (line : ℕ)
      → AllByRecursion AreThere (the_put array expr mask line)
      → reads_itself tables (the_put array expr mask line) ≡ true
      → can_join plan (the_put temporary expr mask line) (the_put array read mask line) ≡ true
      → ⊥
  never_joined temporary read array expr mask line there itself joins =
      true≢false (sym itself
      ∙ (ap (λ words. share (array ∷ []) (flat_map shifted_in words))
      (sym (group_same (the_put array expr mask line) there))
      ∙ (apart plan (the_put temporary expr mask line) (the_put array read mask line)
      joins).other_shifted))

  -- ---- along both
  abbrev always : ℕ → ℕ → Bool
  always one other = true

  abbrev old_from : ℕ → Option Since → List Instr → Bool
  old_from at since rows =
      right_from None (old_learn tables always) (old_right tables always) tables.code at since rows

  abbrev from : ℕ → Option Since → List Instr → Bool
  from n since rows =
      right_from None (old_learn plan (are_joinable plan)) (old_right plan (are_joinable plan))
      plan.code n since rows

  abbrev reset : ℕ → Option Since → Option Since
  reset n since = if is_goal plan.code n then None else since

  -- what may stand wherever the old group does may stand wherever the new one does
  abbrev StandsOn : List Member → List Member → Type 0
  StandsOn one old =
      (other : List Member) → AllByRecursion AreThere other
      → stands_with tables old other ≡ true → stands_with plan one other ≡ true

  abbrev Goes : Option Since → Option Since → Type 0
  Goes None past = Unit {0}
  Goes (Some since) None = ⊥
  Goes (Some since) (Some past) =
      (since.loop.0 ≡ past.loop.0) × (since.items ≡ past.items)
      × StandsOn (members_of plan since.loop.1) (members_of tables past.loop.1)

  reset_goes : (n : ℕ) (since past : Option Since) → Goes since past → Goes (reset n since) past
  reset_goes n since past goes = by (is_goal plan.code n)
    where
      by : (b : Bool) → Goes (if b then None else since) past
      by true = tt
      by false = goes

  none_goes : (n : ℕ) (past : Option Since) → Goes (reset n None) past
  none_goes n past = reset_goes n None past tt

  need_goes : (since past : Option Since) (item : Item) → Goes since past
      → Goes (needed_behind plan (are_joinable plan) since item)
      (needed_behind tables always past item)
  need_goes None past item goes = tt
  need_goes (Some since) None item goes = absurd goes
  need_goes (Some since) (Some past) item goes =
      (goes.0, ap (λ items. items ++ item ∷ []) goes.1, goes.2)

  fewer : (a b x y z w : Bool) → (x ≡ true → z ≡ true) → (y ≡ true → w ≡ true)
      → (not (a && true) || (x && y)) ≡ true → (not (a && b) || (z && w)) ≡ true
  fewer true true x y z w one other known =
      let parts = and_parts x y known in both z w (one parts.0) (other parts.1)
  fewer true false x y z w one other known = refl
  fewer false b x y z w one other known = refl

  loop_right : (since past : Option Since) (slot group number : ℕ)
      → members_of plan number ≡ members_of tables group
      → AllByRecursion AreThere (members_of tables group) → Goes since past
      → are_needed tables always past slot group ≡ true
      → are_needed plan (are_joinable plan) since slot number ≡ true
  loop_right None past slot group number same there goes needed = refl
  loop_right (Some since) None slot group number same there goes needed = absurd goes
  loop_right (Some since) (Some past) slot group number same there goes needed =
      let members = members_of tables group in
      fewer (since.loop.0 == slot) (are_joinable plan since.loop.1 number)
      (list_all (is_one_of past.items) (references_of tables slot members))
      (stands_with tables (members_of tables past.loop.1) members)
      (list_all (is_one_of since.items) (references_of plan slot (members_of plan number)))
      (stands_with plan (members_of plan since.loop.1) (members_of plan number))
      (λ e. ap (λ members. list_all (is_one_of since.items) (references_of plan slot members)) same
      ∙ (ap (list_all (is_one_of since.items)) (same_references slot members there)
      ∙ (ap (λ items. list_all (is_one_of items) (references_of tables slot members)) goes.1
      ∙ e)))
      (λ e. ap (stands_with plan (members_of plan since.loop.1)) same ∙ goes.2 members there e)
      (ap (λ n. not ((n == slot) && true)
      || (list_all (is_one_of past.items) (references_of tables slot members)
      && stands_with tables (members_of tables past.loop.1) members)) goes.0
      ∙ needed)

  -- ---- groups that accumulate and put the same
  front_get : {X : Type 0} (xs ys : List X) (k : ℕ) (x : X) → slice_get xs k ≡ Some x
      → slice_get (xs ++ ys) k ≡ Some x
  front_get [] ys k x e = absurd (none e)
    where
      none : {X : Type 0} {x : X} → (let n : Option X = None in n) ≡ Some x → ⊥
      none e = cc
  front_get (y ∷ xs) ys zero x e = e
  front_get (y ∷ xs) ys (suc k) x e = front_get xs ys k x e

  still_like : (array other : ℕ) → are_like tables array other ≡ true
      → are_like plan array other ≡ true
  still_like array other e =
      by (slice_get tables.arrays array) refl (slice_get tables.arrays other) refl e
    where
      by : (one : Option ArrayRow) → slice_get tables.arrays array ≡ one
          → (two : Option ArrayRow) → slice_get tables.arrays other ≡ two
          → are_rows_like one two ≡ true → are_like plan array other ≡ true
      by None e two f like = absurd (true≢false (sym like))
      by (Some row) e None f like = absurd (true≢false (sym like))
      by (Some row) e (Some two) f like =
          ap (λ o. are_rows_like o (slice_get plan.arrays other))
          (front_get tables.arrays extra array row e)
          ∙ (ap (are_rows_like (Some row)) (front_get tables.arrays extra other two f) ∙ like)

  all_like : (array : ℕ) (others : List ℕ) → list_all (are_like tables array) others ≡ true
      → list_all (are_like plan array) others ≡ true
  all_like array [] e = refl
  all_like array (other ∷ others) e =
      let parts = and_parts (are_like tables array other)
      (list_all (are_like tables array) others) e in
      both (are_like plan array other) (list_all (are_like plan array) others)
      (still_like array other parts.0) (all_like array others parts.1)

  still_alike : (arrays others : List ℕ) → are_put_alike tables arrays others ≡ true
      → are_put_alike plan arrays others ≡ true
  still_alike [] [] e = refl
  still_alike [] (other ∷ others) e = absurd (true≢false (sym e))
  still_alike (array ∷ arrays) others e = all_like array others e

  -- ---- no other scalar is accumulated
  abbrev Among : ℕ → Type 0
  Among k = list_any (λ other. k == other) (all_accumulated tables) ≡ true

  abbrev AllAmong : List Member → Type 0
  AllAmong group = AllByRecursion Among (flat_map accumulated_by group)

  all_append : {X : Type 0} (P : X → Type 0) (xs ys : List X) → AllByRecursion P xs
      → AllByRecursion P ys → AllByRecursion P (xs ++ ys)
  all_append P [] ys left right = right
  all_append P (x ∷ xs) ys left right = (left.0, all_append P xs ys left.1 right)

  either_first : (a b : Bool) → a ≡ true → (a || b) ≡ true
  either_first true b e = refl
  either_first false b e = absurd (true≢false (sym e))

  either_last : (a b : Bool) → b ≡ true → (a || b) ≡ true
  either_last true b e = refl
  either_last false b e = e

  any_first : (k : ℕ) (xs ys : List ℕ) → list_any (λ other. k == other) xs ≡ true
      → list_any (λ other. k == other) (xs ++ ys) ≡ true
  any_first k xs ys e =
      list_any-append (λ other. k == other) xs ys ∙ either_first _ _ e

  any_last : (k : ℕ) (xs ys : List ℕ) → list_any (λ other. k == other) ys ≡ true
      → list_any (λ other. k == other) (xs ++ ys) ≡ true
  any_last k xs ys e =
      list_any-append (λ other. k == other) xs ys ∙ either_last _ _ e

  own : (all : List ℕ) (numbers : List ℕ)
      → ((k : ℕ) → list_any (λ other. k == other) numbers ≡ true
      → list_any (λ other. k == other) all ≡ true)
      → AllByRecursion (λ k. list_any (λ other. k == other) all ≡ true) numbers
  own all [] more = tt
  own all (k ∷ numbers) more = (
    more k (either_first (k == k) _ ((Decides-eqb k k).1 refl)),
    own all numbers (λ j e. more j (either_last (j == k) _ e)),
  )

  found_among : (groups : List (List Member)) (k group : ℕ)
      → list_any (λ other. k == other)
      (flat_map accumulated_by (rows_or_none (slice_get groups group))) ≡ true
      → list_any (λ other. k == other) (flat_map (flat_map accumulated_by) groups) ≡ true
  found_among [] k group e = e
  found_among (first ∷ groups) k zero e =
      any_first k (flat_map accumulated_by first) (flat_map (flat_map accumulated_by) groups) e
  found_among (first ∷ groups) k (suc group) e =
      any_last k (flat_map accumulated_by first) (flat_map (flat_map accumulated_by) groups)
      (found_among groups k group e)

  group_among : (group : ℕ) → AllAmong (members_of tables group)
  group_among group =
      own (all_accumulated tables) (flat_map accumulated_by (members_of tables group))
      (λ k e. found_among tables.groups k group e)

  abbrev RowAmong : Grouped → Type 0
  RowAmong (Runs slot group) = AllAmong group
  RowAmong (Plain row) = Unit {0}

  loop_among : (slot group : ℕ)
      → IsKept slot (members_of tables group) ⊎ IsSplit slot (members_of tables group)
      → AllByRecursion RowAmong (row_through tables extra (Runs slot (members_of tables group)))
  loop_among slot group (inl kept) =
      subst (AllByRecursion RowAmong) (sym kept) (group_among group, tt)
  loop_among slot group (inr s) =
      subst (AllByRecursion RowAmong) (sym s.rows) (tt, (tt, (tt, tt)))

  row_among : (row : Instr)
      → AllByRecursion RowAmong (row_through tables extra (grouped tables row))
  row_among (instr.Loop slot group) =
      loop_among slot group (seen slot (members_of tables group))
  row_among row = (tt, tt)

  put_among : (e : Bool) (row : Instr) → AllByRecursion RowAmong (put e moves row)
  put_among true row = (tt, tt)
  put_among false row = row_among row

  front_among : (b : Bool) → AllByRecursion RowAmong (front b)
  front_among true = tt
  front_among false = tt

  walked_among : (at : ℕ) (rows : List Instr) → AllByRecursion RowAmong (walked at rows)
  walked_among at [] = tt
  walked_among at (row ∷ rows) =
      all_append RowAmong (front (is_goal tables.code at))
      (put (ends_stretch row) moves row ++ walked (at + 1) rows)
      (front_among (is_goal tables.code at))
      (all_append RowAmong (put (ends_stretch row) moves row) (walked (at + 1) rows)
      (put_among (ends_stretch row) row) (walked_among (at + 1) rows))

  groups_among : (rows : List Grouped) → AllByRecursion RowAmong rows
      → AllByRecursion Among (flat_map (flat_map accumulated_by) (groups_of rows))
  groups_among [] all = tt
  groups_among (Runs slot group ∷ rows) all =
      all_append Among (flat_map accumulated_by group)
      (flat_map (flat_map accumulated_by) (groups_of rows)) all.0 (groups_among rows all.1)
  groups_among (Plain row ∷ rows) all = groups_among rows all.1

  none_of : (k : ℕ) (numbers : List ℕ) → AllByRecursion Among numbers
      → list_any (λ other. k == other) (all_accumulated tables) ≡ false
      → list_any (λ other. k == other) numbers ≡ false
  none_of k [] all none = refl
  none_of k (other ∷ numbers) all none =
      by (k == other) refl (none_of k numbers all.1 none)
    where
      by : (b : Bool) → (k == other) ≡ b → list_any (λ other. k == other) numbers ≡ false
          → (b || list_any (λ other. k == other) numbers) ≡ false
      by false e rest = rest
      by true e rest =
          absurd (true≢false (sym (subst Among (sym ((Decides-eqb k other).0 e)) all.0) ∙ none))

  shares_none : (numbers all : List ℕ) → AllByRecursion Among all
      → share numbers (all_accumulated tables) ≡ false → share numbers all ≡ false
  shares_none [] all among none = refl
  shares_none (k ∷ numbers) all among none =
      let parts = neither (list_any (λ other. k == other) (all_accumulated tables))
      (share numbers (all_accumulated tables)) none in
      ap (λ b. b || share numbers all) (none_of k all among parts.0)
      ∙ shares_none numbers all among parts.1
    where
      neither : (a b : Bool) → (a || b) ≡ false → (a ≡ false) × (b ≡ false)
      neither true b e = absurd (true≢false e)
      neither false b e = (refl, e)

  new_among : AllByRecursion Among (all_accumulated plan)
  new_among = groups_among made (walked_among 0 tables.code)

  still_none : (numbers : List ℕ) → not (share numbers (all_accumulated tables)) ≡ true
      → not (share numbers (all_accumulated plan)) ≡ true
  still_none numbers e =
      ap not (shares_none numbers (all_accumulated plan) new_among
      (denied (share numbers (all_accumulated tables)) e))
    where
      denied : (b : Bool) → not b ≡ true → b ≡ false
      denied true e = sym e
      denied false e = refl

  -- so a group that accumulates and puts the same stands on
  stands_on : (one old : List Member)
      → list_any is_accumulating one ≡ list_any is_accumulating old
      → flat_map put_by one ≡ flat_map put_by old → StandsOn one old
  stands_on one old totals puts other there e =
      let words = λ (tables : Tables). flat_map scalars_in (flat_map (member_words tables) other) in
      let parts = four (not (list_any is_accumulating old)) (not (list_any is_accumulating other))
      (not (share (words tables) (all_accumulated tables)))
      (are_put_alike tables (flat_map put_by old) (flat_map put_by other)) e in
      all_four (not (list_any is_accumulating one)) (not (list_any is_accumulating other))
      (not (share (words plan) (all_accumulated plan)))
      (are_put_alike plan (flat_map put_by one) (flat_map put_by other))
      (ap not totals ∙ parts.0) parts.1
      (ap (λ words. not (share (flat_map scalars_in words) (all_accumulated plan)))
      (group_same other there) ∙ still_none (words tables) parts.2)
      (ap (λ l. are_put_alike plan l (flat_map put_by other)) puts
      ∙ still_alike (flat_map put_by old) (flat_map put_by other) parts.3)

  same_stands : (one old : List Member) → one ≡ old → StandsOn one old
  same_stands one old same =
      stands_on one old (ap (list_any is_accumulating) same) (ap (flat_map put_by) same)

  module _ (all_there : (group : ℕ) → AllByRecursion AreThere (members_of tables group)) where
    abbrev AreRight : ℕ → ℕ → Option Since → List (List Member) → List Grouped → Type 0
    AreRight n count since before rows =
        plan.groups ≡ before ++ groups_of rows → length before ≡ count
        → from n since (all_numbered count rows) ≡ true

    abbrev IsLater : ℕ → Option Since → List Instr → Type 0
    IsLater at past rows =
        (n count : ℕ) (since : Option Since) (before : List (List Member))
        → GoalsMoved tables.code plan.code at (counted at n rows)
        → Goes (reset n since) past → old_from at past rows ≡ true
        → AreRight n count since before (walked at rows)

    abbrev one_since : ℕ → ℕ → Option Since
    one_since slot number = Some (record { loop = (slot, number); items = [] })

    plus_none : (k other : ℕ) → k ≡ other → k ≡ other + 0
    plus_none k other same = omega (arith, same)

    -- a loop that stays
    kept_loop : (slot group at : ℕ) (rows : List Instr) (past : Option Since)
        → IsLater (at + 1) (one_since slot group) rows
        → (n count : ℕ) (since : Option Since) (before : List (List Member))
        → GoalsMoved tables.code plan.code (at + 1) (counted (at + 1) (n + 1) rows)
        → Goes (reset n since) past → are_needed tables always past slot group ≡ true
        → old_from (at + 1) (one_since slot group) rows ≡ true
        → AreRight n count since before
        (Runs slot (members_of tables group) ∷ walked (at + 1) rows)
    kept_loop slot group at rows past later n count since before goals goes needed right is size =
        let members = members_of tables group in
        both (are_needed plan (are_joinable plan) (reset n since) slot count) _
        (loop_right (reset n since) past slot group count
        (group_there plan before (groups_of (walked (at + 1) rows)) members count is size)
        (all_there group) goes needed)
        (later (n + 1) (count + 1) (one_since slot count) (before ++ members ∷ []) goals
        (reset_goes (n + 1) (one_since slot count) (one_since slot group) (
          refl,
          refl,
          same_stands (members_of plan count) members
              (group_there plan before (groups_of (walked (at + 1) rows)) members count is size),
        )) right
        (is ∙ sym (append_assoc before (members ∷ []) (groups_of (walked (at + 1) rows))))
        (length-append before (members ∷ []) ∙ ap (λ k. k + 1) size))

    -- a loop that is split
    none_needed : (n slot number : ℕ)
        → are_needed plan (are_joinable plan) (reset n None) slot number ≡ true
    none_needed n slot number = by (is_goal plan.code n)
      where
        by : (b : Bool)
            → are_needed plan (are_joinable plan) (if b then None else None) slot number ≡ true
        by true = refl
        by false = refl

    apart_needed : (n slot one other : ℕ) → (are_joinable plan one other ≡ true → ⊥)
        → are_needed plan (are_joinable plan) (reset n (one_since slot one)) slot other ≡ true
    apart_needed n slot one other never = by (is_goal plan.code n)
      where
        cases : (a b x : Bool) → (b ≡ true → ⊥) → (not (a && b) || x) ≡ true
        cases true true x never = absurd (never refl)
        cases true false x never = refl
        cases false b x never = refl

        by : (b : Bool)
            → are_needed plan (are_joinable plan) (if b then None else one_since slot one) slot other
            ≡ true
        by true = refl
        by false =
            cases (slot == slot) (are_joinable plan one other)
            (list_all (is_one_of []) (references_of plan slot (members_of plan other))
            && stands_with plan (members_of plan one) (members_of plan other)) never

    split_loop : (slot group temporary read array expr : ℕ) (mask : Option ℕ) (line at : ℕ)
        (rows : List Instr) → members_of tables group ≡ the_put array expr mask line
        → AllByRecursion AreThere (the_put array expr mask line)
        → reads_itself tables (the_put array expr mask line) ≡ true
        → IsLater (at + 1) (one_since slot group) rows
        → (n count : ℕ) (since : Option Since) (before : List (List Member))
        → GoalsMoved tables.code plan.code (at + 1) (counted (at + 1) (n + 3) rows)
        → old_from (at + 1) (one_since slot group) rows ≡ true
        → AreRight n count since before (Plain (instr.Room temporary slot)
        ∷ Runs slot (the_put temporary expr mask line)
        ∷ Runs slot (the_put array read mask line) ∷ walked (at + 1) rows)
    split_loop slot group temporary read array expr mask line at rows is_put there itself later n count
        since before goals right is size =
        both (are_needed plan (are_joinable plan) (reset (n + 1) None) slot first) _
        (none_needed (n + 1) slot first)
        (both (are_needed plan (are_joinable plan) (reset (n + 1 + 1) (one_since slot first)) slot
        (first + 1)) _
        (apart_needed (n + 1 + 1) slot first (first + 1)
        (λ joins. never_joined temporary read array expr mask line there itself
        (sym (same_joins) ∙ joins)))
        (later (n + 1 + 1 + 1) (first + 1 + 1) (one_since slot (first + 1))
        ((before ++ one ∷ []) ++ other ∷ [])
        (subst (λ k. GoalsMoved tables.code plan.code (at + 1) (counted (at + 1) k rows)) three
        goals)
        (reset_goes (n + 1 + 1 + 1) (one_since slot (first + 1)) (one_since slot group) (
          refl,
          refl,
          stands_on (members_of plan (first + 1)) (members_of tables group)
              (ap (list_any is_accumulating) put_there ∙ ap (list_any is_accumulating) (sym is_put))
              (ap (flat_map put_by) put_there ∙ ap (flat_map put_by) (sym is_put)),
        )) right
        (second_is ∙ sym (append_assoc (before ++ one ∷ []) (other ∷ []) more))
        (length-append (before ++ one ∷ []) (other ∷ []) ∙ ap (λ k. k + 1) second_size)))
      where
        one : List Member
        one = the_put temporary expr mask line

        other : List Member
        other = the_put array read mask line

        more : List (List Member)
        more = groups_of (walked (at + 1) rows)

        first : ℕ
        first = count + 0

        three : n + 3 ≡ n + 1 + 1 + 1
        three = omega arith

        second_is : plan.groups ≡ (before ++ one ∷ []) ++ other ∷ more
        second_is = is ∙ sym (append_assoc before (one ∷ []) (other ∷ more))

        second_size : length (before ++ one ∷ []) ≡ first + 1
        second_size =
            length-append before (one ∷ []) ∙ ap (λ k. k + 1) (plus_none (length before) count size)

        put_there : members_of plan (first + 1) ≡ other
        put_there = group_there plan (before ++ one ∷ []) more other (first + 1) second_is second_size

        same_joins : are_joinable plan first (first + 1) ≡ can_join plan one other
        same_joins =
            ap (λ members. can_join plan members (members_of plan (first + 1)))
            (group_there plan before (other ∷ more) one first is
            (plus_none (length before) count size))
            ∙ ap (can_join plan one)
            (group_there plan (before ++ one ∷ []) more other (first + 1) second_is second_size)

    -- ---- rows
    loop_row : (slot group at : ℕ) (rows : List Instr) (past : Option Since)
        → IsKept slot (members_of tables group) ⊎ IsSplit slot (members_of tables group)
        → IsLater (at + 1) (one_since slot group) rows
        → (n count : ℕ) (since : Option Since) (before : List (List Member))
        → GoalsMoved tables.code plan.code (at + 1) (counted (at + 1)
        (n + length (row_through tables extra (Runs slot (members_of tables group)))) rows)
        → Goes (reset n since) past → are_needed tables always past slot group ≡ true
        → old_from (at + 1) (one_since slot group) rows ≡ true
        → AreRight n count since before
        (row_through tables extra (Runs slot (members_of tables group)) ++ walked (at + 1) rows)
    loop_row slot group at rows past (inl kept) later n count since before goals goes needed right =
        subst (λ l. AreRight n count since before (l ++ walked (at + 1) rows)) (sym kept)
        (kept_loop slot group at rows past later n count since before
        (subst (λ l. GoalsMoved tables.code plan.code (at + 1) (counted (at + 1) (n + length l) rows))
        kept goals) goes needed right)
    loop_row slot group at rows past (inr s) later n count since before goals goes needed right =
        subst (λ l. AreRight n count since before (l ++ walked (at + 1) rows)) (sym s.rows)
        (split_loop slot group s.temporary s.read s.array s.expr s.mask s.line at rows s.is
        (subst (AllByRecursion AreThere) s.is (all_there group))
        (ap (reads_itself tables) (sym s.is) ∙ s.itself) later n count since before
        (subst (λ l. GoalsMoved tables.code plan.code (at + 1) (counted (at + 1) (n + length l) rows))
        s.rows goals) right)

    -- a row that is neither a loop nor a check
    plain_row : (row : Instr) (at : ℕ) (rows : List Instr)
        → ((m : ℕ) (now : Option Since) (more : List Instr)
        → from m now (row ∷ more) ≡ from (m + 1) None more)
        → IsLater (at + 1) None rows
        → (n count : ℕ) (since : Option Since) (before : List (List Member))
        → GoalsMoved tables.code plan.code (at + 1) (counted (at + 1) (n + 1) rows)
        → old_from (at + 1) None rows ≡ true
        → AreRight n count since before (Plain row ∷ walked (at + 1) rows)
    plain_row row at rows past later n count since before goals right is size =
        past n since (all_numbered (count + 0) (walked (at + 1) rows))
        ∙ later (n + 1) (count + 0) None before goals (none_goes (n + 1) None) right is
        (plus_none (length before) count size)

    need_row : (slot array : ℕ) (shift : List ℤ) (line at : ℕ) (rows : List Instr)
        (past : Option Since)
        → IsLater (at + 1) (needed_behind tables always past (reference slot array shift)) rows
        → (n count : ℕ) (since : Option Since) (before : List (List Member))
        → GoalsMoved tables.code plan.code (at + 1) (counted (at + 1) (n + 1) rows)
        → Goes (reset n since) past
        → old_from (at + 1) (needed_behind tables always past (reference slot array shift)) rows
        ≡ true
        → AreRight n count since before
        (Plain (instr.Need slot array shift line) ∷ walked (at + 1) rows)
    need_row slot array shift line at rows past later n count since before goals goes right is size =
        later (n + 1) (count + 0)
        (needed_behind plan (are_joinable plan) (reset n since) (reference slot array shift)) before
        goals
        (reset_goes (n + 1)
        (needed_behind plan (are_joinable plan) (reset n since) (reference slot array shift))
        (needed_behind tables always past (reference slot array shift))
        (need_goes (reset n since) past (reference slot array shift) goes)) right is
        (plus_none (length before) count size)

    ended_row : (row : Instr) (at : ℕ) (rows : List Instr) → ends_stretch row ≡ true
        → IsLater (at + 1) None rows
        → (n count : ℕ) (since : Option Since) (before : List (List Member))
        → GoalsMoved tables.code plan.code (at + 1) (counted (at + 1) (n + 1) rows)
        → old_from (at + 1) None rows ≡ true
        → AreRight n count since before (ended_by moves row ∷ walked (at + 1) rows)
    ended_row row at rows ends later n count since before goals right is size =
        ap (λ b. (b || old_right plan (are_joinable plan) (reset n since)
        (with_moved_goal moves row))
        && from (n + 1) (if b then None else old_learn plan (are_joinable plan) (reset n since)
        (with_moved_goal moves row)) (all_numbered (count + 0) (walked (at + 1) rows)))
        (ends_moved moves row ∙ ends)
        ∙ later (n + 1) (count + 0) None before goals (none_goes (n + 1) None) right is
        (plus_none (length before) count size)

    straight_row : (row : Instr) (at : ℕ) (rows : List Instr) (past : Option Since)
        → ends_stretch row ≡ false → ((now : Option Since) → IsLater (at + 1) now rows)
        → (n count : ℕ) (since : Option Since) (before : List (List Member))
        → GoalsMoved tables.code plan.code (at + 1) (counted (at + 1)
        (n + length (row_through tables extra (grouped tables row))) rows)
        → Goes (reset n since) past → old_right tables always past row ≡ true
        → old_from (at + 1) (old_learn tables always past row) rows ≡ true
        → AreRight n count since before
        (row_through tables extra (grouped tables row) ++ walked (at + 1) rows)
    straight_row (instr.Loop slot group) at rows past ends later n count since before goals goes
        there right =
        loop_row slot group at rows past (seen slot (members_of tables group))
        (later (one_since slot group)) n count since before goals goes there right
    straight_row (instr.Need slot array shift line) at rows past ends later n count since before
        goals goes there right =
        need_row slot array shift line at rows past
        (later (needed_behind tables always past (reference slot array shift))) n count since before
        goals goes right
    straight_row (instr.Jump goal) at rows past ends later n count since before goals goes there
        right = absurd (true≢false ends)
    straight_row (instr.Unless expr goal line) at rows past ends later n count since before goals
        goes there right = absurd (true≢false ends)
    straight_row (instr.Trap kind line) at rows past ends later n count since before goals goes
        there right = absurd (true≢false ends)
    straight_row instr.End at rows past ends later n count since before goals goes there right =
        absurd (true≢false ends)
    straight_row row at rows past ends later n count since before goals goes there right =
        plain_row row at rows (λ m now more. refl) (later None) n count since before goals right

    one_row : (row : Instr) (at : ℕ) (rows : List Instr) (past : Option Since)
        → ((now : Option Since) → IsLater (at + 1) now rows)
        → (n count : ℕ) (since : Option Since) (before : List (List Member))
        → (e : Bool) → ends_stretch row ≡ e
        → GoalsMoved tables.code plan.code (at + 1) (counted (at + 1)
        (n + length (put e (λ g. g) row)) rows)
        → Goes (reset n since) past
        → ((e || old_right tables always past row)
        && old_from (at + 1) (if e then None else old_learn tables always past row) rows) ≡ true
        → AreRight n count since before (put e moves row ++ walked (at + 1) rows)
    one_row row at rows past later n count since before true ends goals goes right =
        ended_row row at rows ends (later None) n count since before goals right
    one_row row at rows past later n count since before false ends goals goes right =
        straight_row row at rows past ends later n count since before goals goes
        (both_left (old_right tables always past row) _ right)
        (both_right (old_right tables always past row) _ right)

    at_row : (b : Bool) (row : Instr) (at : ℕ) (rows : List Instr) (past : Option Since)
        → is_goal tables.code at ≡ b → ((now : Option Since) → IsLater (at + 1) now rows)
        → (n count : ℕ) (since : Option Since) (before : List (List Member))
        → ((is_goal tables.code at ≡ true → is_goal plan.code (n + length (front b)) ≡ true)
        × GoalsMoved tables.code plan.code (at + 1) (counted (at + 1)
        ((n + length (front b)) + length (put (ends_stretch row) (λ g. g) row)) rows))
        → Goes (reset n since) past
        → ((ends_stretch row || old_right tables always (if b then None else past) row)
        && old_from (at + 1) (if ends_stretch row then None
        else old_learn tables always (if b then None else past) row) rows) ≡ true
        → AreRight n count since before
        (front b ++ (put (ends_stretch row) moves row ++ walked (at + 1) rows))
    at_row true row at rows past goal later n count since before goals goes right =
        one_row row at rows None later n count since before (ends_stretch row) refl
        (subst (λ k. GoalsMoved tables.code plan.code (at + 1) (counted (at + 1)
        (k + length (put (ends_stretch row) (λ g. g) row)) rows)) none goals.1)
        (subst (λ b. Goes (if b then None else since) None)
        (sym (ap (is_goal plan.code) (sym none) ∙ goals.0 goal)) tt) right
      where
        none : n + 0 ≡ n
        none = omega arith
    at_row false row at rows past inner later n count since before goals goes right =
        one_row row at rows past later n count since before (ends_stretch row) refl
        (subst (λ k. GoalsMoved tables.code plan.code (at + 1) (counted (at + 1)
        (k + length (put (ends_stretch row) (λ g. g) row)) rows)) none goals.1) goes right
      where
        none : n + 0 ≡ n
        none = omega arith

    all_right : (rows : List Instr) (at : ℕ) (past : Option Since) → IsLater at past rows
    all_right [] at past n count since before goals goes right is size = refl
    all_right (row ∷ rows) at past n count since before goals goes right is size =
        at_row (is_goal tables.code at) row at rows past refl
        (λ now. all_right rows (at + 1) now) n count since before goals goes right is size

  module _ (fits : Fits tables) (checks : ChecksWhatFollows tables)
      (stand : StandsWithWhatFollows tables) where
    new_throughout : is_right_throughout None (old_learn plan (are_joinable plan))
        (old_right plan (are_joinable plan)) plan.code ≡ true
    new_throughout =
        all_right
        (group_fits tables.groups (recursion_from_All (FitsGroup tables) tables.groups fits.groups))
        tables.code 0 None 0 0 None []
        (all_moved {F = Unit {0}} tables tt step (λ facts row. tt) (λ facts. []) refl)
        (none_goes 0 None) (old_throughout tables always checks stand) refl refl

    pub normal_checks : ChecksWhatItJoins (normalised tables)
    normal_checks =
        subst ChecksWhatItJoins (sym normalised_is)
        (checks_back plan (are_joinable plan) new_throughout)

    pub normal_stands : StandsBehindChecks (normalised tables)
    normal_stands =
        subst StandsBehindChecks (sym normalised_is)
        (stands_back plan (are_joinable plan) new_throughout)
