-- Sound code whose demands are met without decided checks: such as pass wherever they stand, since
-- `fix` rows alone write their slots.
use Rattle.std.specs.Prelude.{◌≡◌, ℕ, true, false, List, [], slice_get, Some}
use Rattle.zpl_lowering.specs.of_node_form.declared.instructions.Instr.{Instr}
use Rattle.zpl_lowering.specs.of_node_form.declared.tables.Tables.{Tables}
use Rattle.node_check.specs.declared.facts.Fact.{Fact}
use Rattle.node_check.specs.Path.{AreFacts, Comes, nexts}
use Rattle.node_check.specs.Learn.{learnt, start_facts}
use Rattle.node_check.specs.Demand.{is_met}
use Rattle.code_parts.proofs.ListLemmas.{In}
use Rattle.sound_lowering.specs.Goes.{is_decided_held}

-- Sets of facts in front of all rows, whether a path leads there or not, which meet each demand
-- where no exchange is open. None tells what a decided check does.
pub record IsUndecidedSound (code : Tables) : Type 0 where
  pub facts : ℕ → List Fact
  pub start : (fact : Fact) → In (facts 0) fact → In (start_facts code) fact
  pub behind : (at next : ℕ) (row : Instr) (fact : Fact) → slice_get code.code at ≡ Some row
      → In (nexts at row) next → In (facts next) fact → In (learnt code (facts at) row) fact
  pub met : (at : ℕ) (row : Instr) → slice_get code.code at ≡ Some row
      → is_met code (facts at) [] row ≡ true
  pub undecided : (at : ℕ) (fact : Fact) → In (facts at) fact → is_decided_held code fact ≡ false
