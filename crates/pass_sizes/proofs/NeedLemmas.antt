-- Plans: an exchange for each different place that a loop reads of others, and votes.
use Rattle.std.proofs.Common.{◌≡◌, refl, sym, ap, ◌∙◌, arith, ℕ, ◌+◌, ◌*◌, ◌≤◌, Bool, true, false}
use Rattle.std.proofs.Common.{List, [], ◌∷◌, ◌++◌, length, map, length-append}
use Rattle.std.specs.Prelude.{cond, count_by, flat_map, fold, sum_by}
use Rattle.std.proofs.lemmas.List.Concat.{length-flat_map}
use Rattle.std.proofs.lemmas.List.Sums.{sum_by-append, sum_by-cons, sum_by-le-sum_by}
use Rattle.row_runs.specs.Cut.{passed}
use Rattle.node_form.specs.declared.arrays.Item.{Item}
use Rattle.node_form.specs.declared.words.ExprOp.{ExprOp}
use Rattle.node_form.specs.declared.words.ExprOp.TheVariants as word
use Rattle.node_form.specs.declared.members.Member.{Member}
use Rattle.node_form.specs.declared.instructions.Instr.{Instr}
use Rattle.node_form.specs.declared.instructions.Instr.TheVariants as instr
use Rattle.node_form.specs.declared.tables.Tables.{Tables}
use Rattle.code_parts.specs.Counts.{count_of, is_loop, is_vote}
use Rattle.code_parts.specs.Exchanged.{is_among}
use Rattle.code_parts.specs.Stretch.{ends_stretch}
use Rattle.code_parts.specs.Uses.{exprs_of, group_words, member_words, members_of, shifted_in}
use Rattle.code_parts.specs.Uses.{words_of}
use Rattle.comm_needs.specs.of_flat_passes.Grouped.{grouped}
use Rattle.comm_needs.specs.of_flat_passes.Rewritten.{stretches_of, with_moved_goal}
use Rattle.comm_needs.specs.of_plan_form.Units.{PlanUnit, Exchange, Single, PlanRow, unit_of, unit_rows, units_of}
use Rattle.comm_needs.specs.of_plan_form.Units.{with_item}
use Rattle.comm_needs.specs.of_plan_form.Rewrite.{ended_by, rows_by}
use Rattle.comm_needs.specs.Needs.{is_voted_on, needed_alone, needed_by, needs_of, planned, vote_if}
use Rattle.comm_needs.specs.Needs.{with_needs}
use Rattle.pass_sizes.specs.Sizes.{IsBlind, PassesNoExchange, expr_shifts, group_shifts, is_unflat}
use Rattle.pass_sizes.specs.Sizes.{loop_shifts, member_shifts, pair_size, plan_size}
use Rattle.pass_sizes.specs.Sizes.{run_by}
use Rattle.pass_sizes.proofs.SumLemmas.{flat_sum, map_sum, passed_most, passed_same, same_sum}
use Rattle.pass_sizes.proofs.SumLemmas.{two_sums}
use Rattle.pass_sizes.proofs.UnitLemmas.{laid_count, laid_pairs, laid_size, off, row_count}
use Rattle.pass_sizes.proofs.UnitLemmas.{row_pair}
use Rattle.pass_sizes.proofs.UnitLemmas.{row_size, unit_weight}

-- ---- needs
needed_one : (slot : ℕ) (one : ExprOp) → length (needed_by slot one) ≡ length (shifted_in one)
needed_one slot (word.Shifted array shift) = refl
needed_one slot one = refl

needed_all : (slot : ℕ) (words : List ExprOp) →
    length (flat_map (needed_by slot) words) ≡ length (flat_map shifted_in words)
needed_all slot [] = refl
needed_all slot (one ∷ words) =
    omega (
      arith,
      length-append (needed_by slot one) (flat_map (needed_by slot) words),
      length-append (shifted_in one) (flat_map shifted_in words),
      needed_one slot one,
      needed_all slot words,
    )

each_once : (items more : List Item) →
    length (fold with_item items more) ≤ length items + length more
each_once items [] = omega arith
each_once items (item ∷ more) =
    omega (arith, each_once (with_item items item) more, by (is_among items item))
  where
    by : (b : Bool) → length (cond b items (items ++ item ∷ [])) ≤ length items + 1
    by true = omega arith
    by false = omega (arith, length-append items (item ∷ []))

module _ (tables : Tables) where
  words_shifts : (words : List ExprOp) →
      length (flat_map shifted_in words) ≡ sum_by (λ one. length (shifted_in one)) words
  words_shifts words = length-flat_map shifted_in words

  member_words_shifts : (one : Member) →
      sum_by (λ one. length (shifted_in one)) (member_words tables one) ≡ member_shifts tables one
  member_words_shifts one =
      flat_sum (λ one. length (shifted_in one)) (words_of tables) (exprs_of one)
      ∙ same_sum (λ expr. sum_by (λ one. length (shifted_in one)) (words_of tables expr))
      (expr_shifts tables) (λ expr. sym (words_shifts (words_of tables expr))) (exprs_of one)

  group_words_shifts : (group : ℕ) →
      length (flat_map shifted_in (group_words tables group))
      ≡ group_shifts tables (members_of tables group)
  group_words_shifts group =
      words_shifts (group_words tables group)
      ∙ flat_sum (λ one. length (shifted_in one)) (member_words tables) (members_of tables group)
      ∙ same_sum (λ one. sum_by (λ one. length (shifted_in one)) (member_words tables one))
      (member_shifts tables) member_words_shifts (members_of tables group)

  few_needs : (slot group : ℕ) →
      length (needs_of tables slot group) ≤ group_shifts tables (members_of tables group)
  few_needs slot group =
      omega (
        arith,
        each_once [] (flat_map (needed_by slot) (group_words tables group)),
        needed_all slot (group_words tables group),
        group_words_shifts group,
      )

  -- ---- what comes of a row
  abbrev row_sum : (PlanUnit → ℕ) → Instr → ℕ
  row_sum w row = sum_by (λ unit. sum_by w (with_needs tables unit)) (unit_of tables row)

  front_sum : (f : PlanRow → ℕ) (rows : List Instr) →
      sum_by f (rows_by tables (flat_map (with_needs tables)) rows)
      ≡ sum_by (row_sum (unit_weight f)) rows
  front_sum f rows =
      flat_sum f unit_rows (flat_map (with_needs tables) (units_of tables rows))
      ∙ flat_sum (unit_weight f) (with_needs tables) (units_of tables rows)
      ∙ flat_sum (λ unit. sum_by (unit_weight f) (with_needs tables unit)) (unit_of tables) rows

  -- the units of a loop
  loop_sum : (w : PlanUnit → ℕ) (each : ℕ) → ((items : List Item) → w (Exchange items) ≡ each) →
      (slot group : ℕ) →
      row_sum w (instr.Loop slot group)
      ≡ each * length (needs_of tables slot group) + w (Single (instr.Loop slot group))
      + sum_by w (vote_if (is_voted_on tables group) group)
  loop_sum w each same slot group =
      omega (
        arith,
        sum_by-append w (map needed_alone (needs_of tables slot group))
            (Single (instr.Loop slot group) ∷ vote_if (is_voted_on tables group) group),
        map_sum w needed_alone (needs_of tables slot group),
        all_alike (needs_of tables slot group),
        sum_by-cons w (Single (instr.Loop slot group))
            (vote_if (is_voted_on tables group) group),
      )
    where
      all_alike : (items : List Item) →
          sum_by (λ item. w (needed_alone item)) items ≡ each * length items
      all_alike [] = omega arith
      all_alike (item ∷ items) =
          omega (
            arith,
            same (item ∷ []),
            all_alike items,
            sum_by-cons (λ item. w (needed_alone item)) item items,
          )

  -- ---- the size
  abbrev pub need_cost : Instr → ℕ
  need_cost (instr.Loop slot group) = 2 + 3 * group_shifts tables (members_of tables group)
  need_cost (instr.Start exchange) = 3
  need_cost row = 1

  vote_most : (w : PlanUnit → ℕ) → ((group : ℕ) → w (Single (instr.Vote group)) ≤ 1) → (b : Bool)
      (group : ℕ) → sum_by w (vote_if b group) ≤ 1
  vote_most w each true group = omega (arith, each group)
  vote_most w each false group = omega arith

  row_sized : (row : Instr) → row_sum (unit_weight row_size) row ≤ need_cost row
  row_sized (instr.Loop slot group) =
      omega (
        arith,
        loop_sum (unit_weight row_size) 3 (λ items. refl) slot group,
        few_needs slot group,
        vote_most (unit_weight row_size) (λ group. omega arith) (is_voted_on tables group) group,
      )
  row_sized (instr.Start exchange) = omega arith
  row_sized (instr.Finish exchange) = omega arith
  row_sized row = omega arith

  row_paired : (row : Instr) → row_sum (unit_weight row_pair) row ≤ need_cost row
  row_paired (instr.Loop slot group) =
      omega (
        arith,
        loop_sum (unit_weight row_pair) 3 (λ items. refl) slot group,
        few_needs slot group,
        vote_most (unit_weight row_pair) (λ group. omega arith) (is_voted_on tables group) group,
      )
  row_paired (instr.Start exchange) = omega arith
  row_paired (instr.Finish exchange) = omega arith
  row_paired row = omega arith

  last_sized : (moved : ℕ → ℕ) (row : Instr) → ends_stretch row ≡ true →
      row_size (ended_by moved row) ≤ need_cost row
  last_sized moved (instr.Loop slot group) e = omega arith
  last_sized moved (instr.Start exchange) e = omega arith
  last_sized moved row e = omega arith

  last_paired : (moved : ℕ → ℕ) (row : Instr) → ends_stretch row ≡ true →
      row_pair (ended_by moved row) ≤ need_cost row
  last_paired moved (instr.Jump goal) e = omega arith
  last_paired moved (instr.Unless expr goal line) e = omega arith
  last_paired moved (instr.Loop slot group) e = omega arith
  last_paired moved (instr.Start exchange) e = omega arith
  last_paired moved (instr.Finish exchange) e = omega arith
  last_paired moved row e = omega arith

  abbrev new_rows : List PlanRow
  new_rows =
      passed (rows_by tables (flat_map (with_needs tables))) ended_by (stretches_of tables.code)

  cost_most : (f : PlanRow → ℕ) → ((row : Instr) → row_sum (unit_weight f) row ≤ need_cost row) →
      ((moved : ℕ → ℕ) (row : Instr) → ends_stretch row ≡ true →
      f (ended_by moved row) ≤ need_cost row) →
      sum_by f new_rows ≤ sum_by need_cost tables.code
  cost_most f each last =
      passed_most f need_cost (rows_by tables (flat_map (with_needs tables))) ended_by
      (λ rows straight. omega (
        arith,
        front_sum f rows,
        sum_by-le-sum_by (row_sum (unit_weight f)) need_cost rows each,
      ))
      last tables.code

  -- what that comes to: two rows more for each row that isn't flat
  cost_of : (row : Instr) →
      need_cost row
      ≤ 1 + (cond (is_loop row) 1 0 + (2 * cond (is_unflat row) 1 0
      + 3 * run_by (group_shifts tables) (grouped tables row)))
  cost_of (instr.Loop slot group) = omega arith
  cost_of (instr.Start exchange) = omega arith
  cost_of row = omega arith

  cost_sum : (rows : List Instr) →
      sum_by need_cost rows
      ≤ length rows + (count_by is_loop rows + (2 * count_by is_unflat rows
      + 3 * sum_by (λ row. run_by (group_shifts tables) (grouped tables row)) rows))
  cost_sum [] = omega arith
  cost_sum (row ∷ rows) =
      omega (
        arith,
        cost_of row,
        cost_sum rows,
        sum_by-cons need_cost row rows,
        sum_by-cons (λ row. cond (is_loop row) 1 0) row rows,
        sum_by-cons (λ row. cond (is_unflat row) 1 0) row rows,
        sum_by-cons (λ row. run_by (group_shifts tables) (grouped tables row)) row rows,
      )

  pub planned_size : (grid : List ℕ) →
      plan_size (planned grid tables)
      ≤ length tables.code + (count_of is_loop tables + (2 * count_of is_unflat tables
      + 3 * loop_shifts tables))
  planned_size grid =
      omega (
        arith,
        laid_size 0 new_rows,
        cost_most row_size row_sized last_sized,
        cost_sum tables.code,
      )

  pub planned_pairs : (grid : List ℕ) →
      pair_size (planned grid tables)
      ≤ length tables.code + (count_of is_loop tables + (2 * count_of is_unflat tables
      + 3 * loop_shifts tables))
  planned_pairs grid =
      omega (
        arith,
        laid_pairs 0 new_rows,
        cost_most row_pair row_paired last_paired,
        cost_sum tables.code,
      )

  -- each start has its finish and its exchange
  same_votes : (b : Bool) (group : ℕ) →
      sum_by (unit_weight row_pair) (vote_if b group)
      ≡ sum_by (unit_weight row_size) (vote_if b group)
  same_votes true group = refl
  same_votes false group = refl

  pair_row : (row : Instr) →
      row_sum (unit_weight row_pair) row ≡ row_sum (unit_weight row_size) row
  pair_row (instr.Loop slot group) =
      omega (
        arith,
        loop_sum (unit_weight row_pair) 3 (λ items. refl) slot group,
        loop_sum (unit_weight row_size) 3 (λ items. refl) slot group,
        same_votes (is_voted_on tables group) group,
      )
  pair_row row = refl

  pair_last : (moved : ℕ → ℕ) (row : Instr) → ends_stretch row ≡ true →
      row_pair (ended_by moved row) ≡ row_sum (unit_weight row_size) row
  pair_last moved (instr.Loop slot group) e = cc
  pair_last moved (instr.Start exchange) e = cc
  pair_last moved (instr.Finish exchange) e = cc
  pair_last moved (instr.Jump goal) e = refl
  pair_last moved (instr.Unless expr goal line) e = refl
  pair_last moved (instr.Trap kind line) e = refl
  pair_last moved instr.End e = refl
  pair_last moved row e = cc

  size_last : (moved : ℕ → ℕ) (row : Instr) → ends_stretch row ≡ true →
      row_size (ended_by moved row) ≡ row_sum (unit_weight row_size) row
  size_last moved (instr.Loop slot group) e = cc
  size_last moved (instr.Start exchange) e = cc
  size_last moved (instr.Finish exchange) e = cc
  size_last moved row e = refl

  pub planned_paired : (grid : List ℕ) →
      pair_size (planned grid tables) ≡ plan_size (planned grid tables)
  planned_paired grid =
      let rewrite = rows_by tables (flat_map (with_needs tables)) in
      let sum = row_sum (unit_weight row_size) in
      laid_pairs 0 new_rows
      ∙ passed_same row_pair sum rewrite ended_by
      (λ rows straight. front_sum row_pair rows
      ∙ same_sum (row_sum (unit_weight row_pair)) sum pair_row rows)
      pair_last tables.code
      ∙ sym (passed_same row_size sum rewrite ended_by
      (λ rows straight. front_sum row_size rows) size_last tables.code)
      ∙ sym (laid_size 0 new_rows)

  -- ---- counts
  module _ (test : Instr → Bool) (none : PassesNoExchange test) (blind : IsBlind test) where
    abbrev votes : ℕ → ℕ
    votes group = cond (test (instr.Vote group)) 1 0

    vote_sum : (b : Bool) (group : ℕ) →
        sum_by (unit_weight (row_count test)) (vote_if b group) ≡ cond b (votes group) 0
    vote_sum true group = omega arith
    vote_sum false group = refl

    -- a vote counts where it is one that is counted
    abbrev need_count : Instr → ℕ
    need_count (instr.Loop slot group) =
        cond (test (instr.Loop slot group)) 1 0 + cond (is_voted_on tables group) (votes group) 0
    need_count row = cond (test row) 1 0

    row_counted : (row : Instr) → row_sum (unit_weight (row_count test)) row ≡ need_count row
    row_counted (instr.Loop slot group) =
        omega (
          arith,
          loop_sum (unit_weight (row_count test)) 0 (λ items. refl) slot group,
          vote_sum (is_voted_on tables group) group,
        )
    row_counted (instr.Start exchange) =
        sym (off test none (test (instr.Start exchange)) (none.starts exchange))
    row_counted (instr.Finish exchange) =
        sym (off test none (test (instr.Finish exchange)) (none.finishes exchange))
    row_counted row = omega arith

    last_counted : (moved : ℕ → ℕ) (row : Instr) → ends_stretch row ≡ true →
        row_count test (ended_by moved row) ≡ need_count row
    last_counted moved (instr.Loop slot group) e = cc
    last_counted moved (instr.Jump goal) e =
        ap {B = ℕ} (λ b. cond b 1 0) (blind.goals moved (instr.Jump goal))
    last_counted moved (instr.Unless expr goal line) e =
        ap {B = ℕ} (λ b. cond b 1 0) (blind.goals moved (instr.Unless expr goal line))
    last_counted moved row e = refl

    counted_sum : (grid : List ℕ) →
        count_of test (planned grid tables) ≡ sum_by need_count tables.code
    counted_sum grid =
        laid_count test none 0 new_rows
        ∙ passed_same (row_count test) need_count (rows_by tables (flat_map (with_needs tables)))
        ended_by
        (λ rows straight. front_sum (row_count test) rows
        ∙ same_sum (row_sum (unit_weight (row_count test))) need_count row_counted rows)
        last_counted tables.code

    pub planned_count : ((group : ℕ) → test (instr.Vote group) ≡ false) → (grid : List ℕ) →
        count_of test (planned grid tables) ≡ count_of test tables
    planned_count quiet grid =
        counted_sum grid ∙ same_sum need_count (λ row. cond (test row) 1 0) each tables.code
      where
        silent : (b c : Bool) → c ≡ false → cond {A = ℕ} b (cond c 1 0) 0 ≡ 0
        silent true true e = cc
        silent true false e = refl
        silent false c e = refl

        each : (row : Instr) → need_count row ≡ cond (test row) 1 0
        each (instr.Loop slot group) =
            omega (arith, silent (is_voted_on tables group) (test (instr.Vote group)) (quiet group))
        each row = refl

  votes_pass : PassesNoExchange is_vote
  votes_pass = record { starts = λ exchange. refl; finishes = λ exchange. refl }

  votes_blind : IsBlind is_vote
  votes_blind = record { goals = moved_votes; loops = λ slot group other. refl }
    where
      moved_votes : (moved : ℕ → ℕ) (row : Instr) →
          is_vote (with_moved_goal moved row) ≡ is_vote row
      moved_votes moved (instr.Jump goal) = refl
      moved_votes moved (instr.Unless expr goal line) = refl
      moved_votes moved row = refl

  pub planned_votes : (grid : List ℕ) →
      count_of is_vote (planned grid tables) ≤ count_of is_vote tables + count_of is_loop tables
  planned_votes grid =
      omega (
        arith,
        counted_sum is_vote votes_pass votes_blind grid,
        sum_by-le-sum_by (need_count is_vote votes_pass votes_blind)
            (λ row. cond (is_vote row) 1 0 + cond (is_loop row) 1 0) tables.code each,
        two_sums (λ row. cond (is_vote row) 1 0) (λ row. cond (is_loop row) 1 0) tables.code,
      )
    where
      one_most : (b : Bool) → cond {A = ℕ} b 1 0 ≤ 1
      one_most true = omega arith
      one_most false = omega arith

      each : (row : Instr) →
          need_count is_vote votes_pass votes_blind row
          ≤ cond (is_vote row) 1 0 + cond (is_loop row) 1 0
      each (instr.Loop slot group) = omega (arith, one_most (is_voted_on tables group))
      each row = omega arith
