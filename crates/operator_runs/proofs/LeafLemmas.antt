-- Statements of scalars and arrays, whose values may have operators over regions.
use Rattle.std.proofs.Common.{inl, inr, arith, ℕ, ◌+◌, List}
use Rattle.std.specs.Prelude.{sum_by}
use Rattle.zpl_tree.specs.Syntax.{Stmt, Form, Assign, Invoke, Block, If, While, Repeat, For, Border, Write, Return}
use Rattle.zpl_names.specs.Counts.{expr_nodes, item_nodes, own_nodes}
use Rattle.zpl_meaning.specs.Context.{Setup, Place}
use Rattle.zpl_meaning.specs.Statement as mean
use Rattle.print_runs.specs.of_zpl_lowering.Where.{Where}
use Rattle.print_runs.specs.of_zpl_lowering.Statement as low
use Rattle.print_runs.specs.of_lowering_runs.Seen.{seen_place}
use Rattle.print_runs.specs.of_lowering_runs.Goes.{World, Goes, TestsGo}
use Rattle.print_runs.specs.of_lowering_runs.Called.{CallsAgree}
use Rattle.print_runs.specs.of_lowering_runs.Suits.{SuitsStmtBy}
use Rattle.print_runs.proofs.of_lowering_runs.ControlLemmas.{scalar_tests}
use Rattle.print_runs.proofs.of_lowering_runs.SuitLemmas.{either_goes, leaf_goes, spare_more, LeafGoes}
use Rattle.call_runs.specs.of_prefix_runs.Plain.{PlainLeaf}
use Rattle.call_runs.specs.of_prefix_runs.Under.{IsUnder}
use Rattle.call_runs.proofs.of_prefix_runs.PlainLemmas.{plain_leaves, suited_agrees_by}
use Rattle.operator_runs.specs.Served.{IsScalarOperated, IsArrayOperated, OperatedLeaf, OperatedValue, AnyLeaf, AnyTest}
use Rattle.operator_runs.proofs.TestLemmas.{tests_go}
use Rattle.operator_runs.proofs.FormLemmas.{scalar_goes, array_goes}
use Rattle.operator_runs.proofs.PrintLemmas.{prints_go}
use Rattle.operator_runs.proofs.ValueLemmas.{operated_values}

module _ (world : World) where
  no_leaf : (at : ℕ) (form : Form) → ((w : Where) (p : Place) → OperatedLeaf at form w p → ⊥)
      → LeafGoes world OperatedLeaf at form
  no_leaf at form never sight w next start stands served room store now like =
      absurd (never w (seen_place sight w start) served)

  pub operated_leaves : (at : ℕ) (form : Form) → LeafGoes world OperatedLeaf at form
  operated_leaves at (Assign name op value) =
      spare_more world (OperatedLeaf at (Assign name op value))
      (λ c store. mean.exec_form c world.turns at (Assign name op value) store)
      (λ l next. low.lowered_form l next at (Assign name op value)) (expr_nodes value)
      (1 + expr_nodes value) (omega arith)
      (either_goes world (IsScalarOperated name op value) (IsArrayOperated name op value)
      (λ c store. mean.exec_form c world.turns at (Assign name op value) store)
      (λ l next. low.lowered_form l next at (Assign name op value)) (expr_nodes value)
      (scalar_goes world at name op value) (array_goes world at name op value))
  operated_leaves at (Invoke name actuals) = no_leaf at (Invoke name actuals) (λ w p h. h)
  operated_leaves at (Block body) = no_leaf at (Block body) (λ w p h. h)
  operated_leaves at (If arms otherwise) = no_leaf at (If arms otherwise) (λ w p h. h)
  operated_leaves at (While test body) = no_leaf at (While test body) (λ w p h. h)
  operated_leaves at (Repeat body until test) = no_leaf at (Repeat body until test) (λ w p h. h)
  operated_leaves at (For head body) = no_leaf at (For head body) (λ w p h. h)
  operated_leaves at (Border kind names) = no_leaf at (Border kind names) (λ w p h. h)
  operated_leaves at (Write ends items) =
      spare_more world (OperatedLeaf at (Write ends items))
      (λ c store. mean.exec_form c world.turns at (Write ends items) store)
      (λ l next. low.lowered_form l next at (Write ends items)) (sum_by item_nodes items)
      (1 + sum_by item_nodes items) (omega arith)
      (prints_go world at ends items)
  operated_leaves at (Return value) = no_leaf at (Return value) (λ w p h. h)

  any_tests : TestsGo world AnyTest
  any_tests sight w next from start at test stands before (inl scalar) room store now like =
      scalar_tests world sight w next from start at test stands before scalar room store now like
  any_tests sight w next from start at test stands before (inr operated) room store now like =
      tests_go world.tables world.turns sight w next from start at test stands before operated room
      store now like

  pub statements_agree : (setup : Setup) (IsCallable : List ℕ → Type 0)
      → CallsAgree world setup IsCallable → (stmt : Stmt)
      → Goes world (SuitsStmtBy IsUnder AnyTest OperatedValue (AnyLeaf setup IsCallable) stmt)
      (λ c store. mean.exec c world.turns stmt store) (λ l next. low.lowered l next stmt) 0
  statements_agree setup IsCallable calls stmt =
      suited_agrees_by world AnyTest OperatedValue (AnyLeaf setup IsCallable) any_tests
      (operated_values world)
      (λ at form. either_goes world (PlainLeaf setup IsCallable at form) (OperatedLeaf at form)
      (λ c store. mean.exec_form c world.turns at form store)
      (λ l next. low.lowered_form l next at form) (1 + own_nodes form)
      (leaf_goes world (PlainLeaf setup IsCallable) at form
      (plain_leaves world setup IsCallable calls at form)) (operated_leaves at form)) stmt
