-- What goes into the size of a plan.
--
--   loop_shifts    how many words loops read with a shift
--   RunsOnce       what loops run is no more than what groups have
--   plan_size      the rows of a plan, and its exchanges
--   pair_size      the same by its starts, each with its finish and its exchange
use Rattle.std.specs.Prelude.{◌≡◌, ℕ, ◌+◌, ◌≤◌, Bool, true, false, List, flat_map, length, sum_by}
use Rattle.node_form.specs.declared.members.Member.{Member}
use Rattle.node_form.specs.declared.instructions.Instr.{Instr}
use Rattle.node_form.specs.declared.instructions.Instr.TheVariants as instr
use Rattle.node_form.specs.declared.tables.Tables.{Tables}
use Rattle.code_parts.specs.Uses.{exprs_of, shifted_in, words_of}
use Rattle.comm_needs.specs.of_flat_passes.Rewritten.{with_moved_goal}
use Rattle.comm_needs.specs.of_flat_passes.Grouped.{Grouped, Runs, Plain, grouped}

-- ---- words that are read with a shift
abbrev pub expr_shifts : Tables → ℕ → ℕ
expr_shifts tables expr = length (flat_map shifted_in (words_of tables expr))

abbrev pub member_shifts : Tables → Member → ℕ
member_shifts tables one = sum_by (expr_shifts tables) (exprs_of one)

abbrev pub group_shifts : Tables → List Member → ℕ
group_shifts tables group = sum_by (member_shifts tables) group

-- what a row runs, by a weight of groups
abbrev pub run_by : (List Member → ℕ) → Grouped → ℕ
run_by weight (Runs slot group) = weight group
run_by weight (Plain row) = 0

abbrev pub all_run : (List Member → ℕ) → Tables → ℕ
all_run weight tables = sum_by (λ row. run_by weight (grouped tables row)) tables.code

abbrev pub loop_shifts : Tables → ℕ
loop_shifts tables = all_run (group_shifts tables) tables

-- whatever is weighed, loops run no more of it than the groups have: no two loops run one group
abbrev pub RunsOnce : Tables → Type 0
RunsOnce tables = (weight : List Member → ℕ) → all_run weight tables ≤ sum_by weight tables.groups

-- ---- rows
-- it is no row of a flat program
abbrev pub is_unflat : Instr → Bool
is_unflat (instr.Start exchange) = true
is_unflat (instr.Finish exchange) = true
is_unflat (instr.Vote group) = true
is_unflat (instr.TreeVote group) = true
is_unflat (instr.TreeFold scalar fold) = true
is_unflat row = false

-- it prepares for a loop that puts an array: a check of places, a place that is made for a
-- temporary, or a slot that is filled
abbrev pub is_preparing : Instr → Bool
is_preparing (instr.Need slot array shift line) = true
is_preparing (instr.Room array slot) = true
is_preparing (instr.Fix slot region) = true
is_preparing row = false

-- the test looks neither at where jumps lead, nor at which group a loop runs
pub record IsBlind (test : Instr → Bool) : Type 0 where
  pub goals : (moved : ℕ → ℕ) (row : Instr) → test (with_moved_goal moved row) ≡ test row
  pub loops : (slot group other : ℕ) →
      test (instr.Loop slot group) ≡ test (instr.Loop slot other)

-- no start and no finish of an exchange passes it
pub record PassesNoExchange (test : Instr → Bool) : Type 0 where
  pub starts : (exchange : ℕ) → test (instr.Start exchange) ≡ false
  pub finishes : (exchange : ℕ) → test (instr.Finish exchange) ≡ false

-- ---- plans
abbrev pub plan_size : Tables → ℕ
plan_size plan = length plan.code + length plan.exchanges

abbrev pub pair_weight : Instr → ℕ
pair_weight (instr.Start exchange) = 3
pair_weight (instr.Finish exchange) = 0
pair_weight row = 1

abbrev pub pair_size : Tables → ℕ
pair_size plan = sum_by pair_weight plan.code
