-- Sizes through all passes.
use Rattle.std.proofs.Common.{◌≡◌, refl, ◌∙◌, arith, ℕ, ◌+◌, ◌*◌, ◌≤◌, Bool, true, false}
use Rattle.std.proofs.Common.{List, length, length-append, Option}
use Rattle.std.specs.Prelude.{cond, fold, sum_by}
use Rattle.std.proofs.lemmas.List.Sums.{count_by-le-length, sum_by-le-sum_by}
use Rattle.node_form.specs.declared.instructions.Instr.{Instr}
use Rattle.node_form.specs.declared.instructions.Instr.TheVariants as instr
use Rattle.node_form.specs.declared.tables.Tables.{Tables}
use Rattle.code_parts.specs.Counts.{code_size, count_of, is_counted, is_loop, is_vote}
use Rattle.flat_passes.specs.Grouped.{loop_members}
use Rattle.temp_norm.specs.Normalised.{loops_on_themselves, normalised, temporaries}
use Rattle.temp_norm.proofs.SizeLemmas.{size_of_normalised}
use Rattle.bound_check.specs.Checked.{checked}
use Rattle.bound_check.proofs.SizeLemmas.{no_larger}
use Rattle.zpl_compile.specs.of_fuse_contract.Contracting.{contracted}
use Rattle.zpl_compile.specs.of_fuse_contract.Fusing.{fused}
use Rattle.zpl_compile.proofs.of_fuse_contract.CellLemmas.{size_with_cells}
use Rattle.zpl_compile.proofs.of_fuse_contract.JoinLemmas.{size_of_fused}
use Rattle.comm_needs.specs.Needs.{planned}
use Rattle.comm_combine.specs.Merge.{neighbours_merged}
use Rattle.comm_combine.specs.Repeats.{repeats_dropped}
use Rattle.comm_early.specs.Send.{sent_early}
use Rattle.comm_early.proofs.SumLemmas.{rows_stay, size_stays}
use Rattle.node_emit.proofs.TreeLemmas as tree
use Rattle.lowering_checks.specs.of_pass_sizes.Sizes.{RunsOnce, is_unflat, loop_shifts, pair_size, plan_size}
use Rattle.lowering_checks.proofs.of_pass_sizes.CombineLemmas.{dropped_count, dropped_pairs, dropped_size}
use Rattle.lowering_checks.proofs.of_pass_sizes.CombineLemmas.{merged_count, merged_pairs, merged_size}
use Rattle.lowering_checks.proofs.of_pass_sizes.NeedLemmas.{planned_count, planned_pairs, planned_size, planned_votes}
use Rattle.lowering_checks.proofs.of_pass_sizes.NormalLemmas.{few_temporaries, normal_count, normal_once}
use Rattle.lowering_checks.proofs.of_pass_sizes.NormalLemmas.{normal_shifts, splits_are_loops}
use Rattle.lowering_checks.proofs.of_pass_sizes.SettledLemmas.{checked_count, checked_once, checked_shifts}
use Rattle.lowering_checks.proofs.of_pass_sizes.SettledLemmas.{contracted_shifts, fused_count, fused_fewer}
use Rattle.lowering_checks.proofs.of_pass_sizes.SettledLemmas.{fused_shifts}
use Rattle.lowering_checks.proofs.of_pass_sizes.TestLemmas.{counted_blind, counted_pass, loop_blind, loop_pass}
use Rattle.lowering_checks.proofs.of_pass_sizes.TestLemmas.{no_loop_blind, uncounted_blind, unflat_blind, vote_blind}
use Rattle.lowering_checks.proofs.of_pass_sizes.TestLemmas.{vote_pass}
use Rattle.zpl_claims.specs.Build.{Build}
use Rattle.zpl_compile.specs.Compile.{emitted_for, if_asked, plan_of, settled}

-- ---- flat programs on their way
pub record IsWithin (code : Tables) (size arrays loops shifts counted : ℕ) : Type 0 where
  pub sized : code_size code ≤ size
  pub few_arrays : length code.arrays ≤ arrays
  pub few_loops : count_of is_loop code ≤ loops
  pub few_shifts : loop_shifts code ≤ shifts
  pub few_rows : count_of is_counted code ≤ counted
  pub flat : count_of is_unflat code ≡ 0

module _ (flat : Tables) (once : loop_members flat ≤ sum_by (λ group. length group) flat.groups)
    (none : count_of is_unflat flat ≡ 0) where
  abbrev splits : ℕ
  splits = loops_on_themselves flat

  abbrev size : ℕ
  size = code_size flat + 5 * splits

  abbrev arrays : ℕ
  arrays = length flat.arrays + splits

  abbrev loops : ℕ
  loops = count_of is_loop flat + splits

  abbrev shifts : ℕ
  shifts = 2 * loop_shifts flat

  abbrev rows : ℕ
  rows = count_of is_counted flat + 2 * splits

  normal : IsWithin (normalised flat) size arrays loops shifts rows
  normal = record {
    sized = omega (arith, size_of_normalised flat once, few_temporaries flat);
    few_arrays = omega (
      arith,
      length-append flat.arrays (temporaries flat),
      few_temporaries flat,
    );
    few_loops = omega (
      arith,
      normal_count flat is_loop loop_blind 0 1 (λ array slot. omega arith) (λ slot. omega arith),
    );
    few_shifts = normal_shifts flat;
    few_rows = normal_count flat is_counted counted_blind 1 1 (λ array slot. omega arith)
        (λ slot. omega arith);
    flat = omega (
      arith,
      normal_count flat is_unflat unflat_blind 0 0 (λ array slot. omega arith)
          (λ slot. omega arith),
      none,
    );
  }

  check : IsWithin (checked (normalised flat)) size arrays loops shifts rows
  check =
      let code = normalised flat in
      record {
        sized = omega (arith, no_larger code, normal.sized);
        few_arrays = normal.few_arrays;
        few_loops = omega (arith, checked_count code is_loop loop_blind, normal.few_loops);
        few_shifts = omega (arith, checked_shifts code, normal.few_shifts);
        few_rows = omega (arith, checked_count code is_counted counted_blind, normal.few_rows);
        flat = omega (arith, checked_count code is_unflat unflat_blind, normal.flat);
      }

  check_once : RunsOnce (checked (normalised flat))
  check_once = checked_once (normalised flat) (normal_once flat)

  fuse : (b : Bool) →
      IsWithin (if_asked b fused (checked (normalised flat))) size arrays loops shifts rows
  fuse true =
      let code = checked (normalised flat) in
      record {
        sized = omega (arith, size_of_fused code (check_once (λ group. length group)), check.sized);
        few_arrays = check.few_arrays;
        few_loops = omega (
          arith,
          fused_fewer code is_loop no_loop_blind (λ slot group. refl),
          check.few_loops,
        );
        few_shifts = omega (arith, fused_shifts code, check.few_shifts);
        few_rows = omega (
          arith,
          fused_fewer code is_counted uncounted_blind (λ slot group. refl),
          check.few_rows,
        );
        flat = fused_count code is_unflat unflat_blind (λ slot group. refl) ∙ check.flat;
      }
  fuse false = check

  contract : (b : Bool) (code : Tables) → IsWithin code size arrays loops shifts rows →
      IsWithin (if_asked b contracted code) (size + arrays) arrays loops shifts rows
  contract true code within = record {
    sized = omega (arith, size_with_cells code, within.sized, within.few_arrays);
    few_arrays = within.few_arrays;
    few_loops = within.few_loops;
    few_shifts = omega (arith, contracted_shifts code, within.few_shifts);
    few_rows = within.few_rows;
    flat = within.flat;
  }
  contract false code within = record {
    sized = omega (arith, within.sized);
    few_arrays = within.few_arrays;
    few_loops = within.few_loops;
    few_shifts = within.few_shifts;
    few_rows = within.few_rows;
    flat = within.flat;
  }

  pub settle : (build : Build) →
      IsWithin (settled build flat) (size + arrays) arrays loops shifts rows
  settle build =
      contract build.options.contract
      (if_asked build.options.fuse fused (checked (normalised flat))) (fuse build.options.fuse)

-- ---- plans on their way
-- what is neither a row nor an exchange
abbrev rest : Tables → ℕ
rest code =
    code.scalars + length code.slots + code.cells + length code.arrays
    + sum_by length code.groups + sum_by length code.exprs + sum_by length code.texts

pub record IsPlanned (plan : Tables) (other size counted : ℕ) : Type 0 where
  pub rest_is : rest plan ≡ other
  pub by_rows : plan_size plan ≤ size
  pub by_pairs : pair_size plan ≤ size
  pub few_rows : count_of is_counted plan ≤ counted
  pub few_votes : count_of is_vote plan ≤ count_of is_loop plan

module _ (code : Tables) (none : count_of is_unflat code ≡ 0) where
  abbrev planned_rows : ℕ
  planned_rows = length code.code + (count_of is_loop code + 3 * loop_shifts code)

  vote_off : (b : Bool) (row : Instr) → cond {A = ℕ} (is_vote row) 1 0 ≤ cond (is_unflat row) 1 0
  vote_off b (instr.Vote group) = omega arith
  vote_off b (instr.TreeVote group) = omega arith
  vote_off b (instr.Start exchange) = omega arith
  vote_off b (instr.Finish exchange) = omega arith
  vote_off b (instr.TreeFold scalar fold) = omega arith
  vote_off b row = omega arith

  no_votes : count_of is_vote code ≤ 0
  no_votes =
      omega (
        arith,
        none,
        sum_by-le-sum_by (λ row. cond (is_vote row) 1 0) (λ row. cond (is_unflat row) 1 0)
            code.code (vote_off true),
      )

  needed : (grid : List ℕ) →
      IsPlanned (planned grid code) (rest code) planned_rows (count_of is_counted code)
  needed grid = record {
    rest_is = refl;
    by_rows = omega (arith, planned_size code grid, none);
    by_pairs = omega (arith, planned_pairs code grid, none);
    few_rows = omega (
      arith,
      planned_count code is_counted counted_pass counted_blind (λ group. refl) grid,
    );
    few_votes = omega (
      arith,
      planned_votes code grid,
      no_votes,
      planned_count code is_loop loop_pass loop_blind (λ group. refl) grid,
    );
  }

  module _ (other size counted : ℕ) where
    drop : (b : Bool) (plan : Tables) → IsPlanned plan other size counted →
        IsPlanned (if_asked b repeats_dropped plan) other size counted
    drop true plan is = record {
      rest_is = is.rest_is;
      by_rows = omega (arith, dropped_size plan, is.by_pairs);
      by_pairs = omega (arith, dropped_pairs plan, is.by_pairs);
      few_rows = omega (
        arith,
        dropped_count plan is_counted counted_pass counted_blind,
        is.few_rows,
      );
      few_votes = omega (
        arith,
        dropped_count plan is_vote vote_pass vote_blind,
        dropped_count plan is_loop loop_pass loop_blind,
        is.few_votes,
      );
    }
    drop false plan is = is

    merge : (b : Bool) (plan : Tables) → IsPlanned plan other size counted →
        IsPlanned (if_asked b neighbours_merged plan) other size counted
    merge true plan is = record {
      rest_is = is.rest_is;
      by_rows = omega (arith, merged_size plan, is.by_pairs);
      by_pairs = omega (arith, merged_pairs plan, is.by_pairs);
      few_rows = omega (
        arith,
        merged_count plan is_counted counted_pass counted_blind,
        is.few_rows,
      );
      few_votes = omega (
        arith,
        merged_count plan is_vote vote_pass vote_blind,
        merged_count plan is_loop loop_pass loop_blind,
        is.few_votes,
      );
    }
    merge false plan is = is

-- ---- code
pub record IsEnded (code : Tables) (size counted : ℕ) : Type 0 where
  pub sized : code_size code ≤ size
  pub few_rows : count_of is_counted code ≤ counted
  pub few_votes : count_of is_vote code ≤ count_of is_loop code

module _ (other size counted : ℕ) where
  early : (b : Bool) (links : Option ℕ) (plan : Tables) → IsPlanned plan other size counted →
      IsEnded (if_asked b (sent_early links) plan) (other + size) counted
  early true links plan is = record {
    sized = omega (arith, size_stays links plan, is.rest_is, is.by_rows);
    few_rows = omega (arith, rows_stay links plan is_counted, is.few_rows);
    few_votes = omega (
      arith,
      rows_stay links plan is_vote,
      rows_stay links plan is_loop,
      is.few_votes,
    );
  }
  early false links plan is = record {
    sized = omega (arith, is.rest_is, is.by_rows);
    few_rows = is.few_rows;
    few_votes = is.few_votes;
  }

  emit : (build : Build) (plan : Tables) → IsEnded plan (other + size) counted →
      IsEnded (emitted_for build plan) (other + size) counted
  emit build plan is = record {
    sized = omega (arith, tree.size_stays build.options.tree build.grid plan, is.sized);
    few_rows = omega (arith, tree.counted_stay build.options.tree build.grid plan, is.few_rows);
    few_votes = omega (
      arith,
      tree.votes_stay build.options.tree build.grid plan,
      tree.loops_stay build.options.tree build.grid plan,
      is.few_votes,
    );
  }

pub all_planned : (build : Build) (code : Tables) → count_of is_unflat code ≡ 0 →
    IsEnded (emitted_for build (plan_of build code))
    (code_size code + (count_of is_loop code + 3 * loop_shifts code)) (count_of is_counted code)
all_planned build code none =
    let size = planned_rows code none in
    let counted = count_of is_counted code in
    let first = planned build.grid code in
    let second = if_asked build.options.redundant repeats_dropped first in
    let third = if_asked build.options.merge neighbours_merged second in
    let fourth = if_asked build.options.early (sent_early build.links) third in
    let all = emit (rest code) size counted build fourth
    (early (rest code) size counted build.options.early build.links third
    (merge code none (rest code) size counted build.options.merge second
    (drop code none (rest code) size counted build.options.redundant first
    (needed code none build.grid)))) in
    record {
      sized = omega (arith, all.sized);
      few_rows = all.few_rows;
      few_votes = all.few_votes;
    }

-- ---- all of it: nine times at most
pub all_compiled : (build : Build) (flat : Tables) →
    loop_members flat ≤ sum_by (λ group. length group) flat.groups →
    loop_shifts flat ≤ sum_by (λ words. length words) flat.exprs →
    count_of is_unflat flat ≡ 0 →
    IsEnded (emitted_for build (plan_of build (settled build flat))) (9 * code_size flat)
    (count_of is_counted flat + 2 * loops_on_themselves flat)
all_compiled build flat once few none =
    let within = settle flat once none build in
    let all = all_planned build (settled build flat) within.flat in
    record {
      sized = omega (
        arith,
        all.sized,
        within.sized,
        within.few_loops,
        within.few_shifts,
        few,
        splits_are_loops flat,
        count_by-le-length is_loop flat.code,
      );
      few_rows = omega (arith, all.few_rows, within.few_rows);
      few_votes = all.few_votes;
    }
