use Rattle.std.proofs.Common.{arith, length, ◌≡◌, ◌≤◌, ◌*◌, ℕ, List}
use Rattle.std.specs.Prelude.{sum_by}
use Rattle.std.proofs.lemmas.List.Sums.{count_by-le-length}
use Rattle.node_form.specs.declared.tables.Tables.{Tables}
use Rattle.code_parts.specs.Counts.{code_size, count_of, is_loop}
use Rattle.comm_needs.specs.Needs.{planned}
use Rattle.pass_sizes.specs.Sizes.{is_unflat, loop_shifts}
use Rattle.pass_sizes.proofs.NeedLemmas.{planned_count, planned_paired, planned_pairs}
use Rattle.pass_sizes.proofs.NeedLemmas.{planned_size, planned_votes}
use Rattle.pass_sizes.proofs.laws.needs_are_few.Goals as goal

factor_law : (grid : List ℕ) (code : Tables) → count_of is_unflat code ≡ 0 →
    loop_shifts code ≤ sum_by length code.exprs →
    code_size (planned grid code) ≤ 4 * code_size code
factor_law grid code none once =
    omega (arith, planned_size code grid, none, once, count_by-le-length is_loop code.code)

pub returns : goal.returns
returns c = record {
  size = λ grid code. omega (arith, planned_size code grid);
  factor = factor_law;
  pairs = λ grid code. planned_pairs code grid;
  paired = λ grid code. planned_paired code grid;
  votes = λ grid code. planned_votes code grid;
  rows = λ grid code test none blind quiet. planned_count code test none blind quiet grid;
}
