-- Statements of scalars and arrays, under prefixes.
use Rattle.std.proofs.Common.{ℕ, ◌+◌, List}
use Rattle.zpl_tree.specs.Syntax.{Expr, Stmt, Form, Assign, Invoke, Block, If, While, Repeat, For, Border, Write, Return}
use Rattle.zpl_names.specs.Counts.{own_nodes}
use Rattle.array_runs.specs.of_zpl_meaning.Context.{Setup, Place}
use Rattle.array_runs.specs.of_zpl_meaning.Statement as mean
use Rattle.array_runs.specs.of_zpl_meaning.Statement.{Context}
use Rattle.array_runs.specs.of_zpl_lowering.Where.{Where}
use Rattle.array_runs.specs.of_zpl_lowering.Statement as low
use Rattle.array_runs.specs.of_zpl_lowering.Statement.{Lowering}
use Rattle.array_runs.specs.of_lowering_runs.Seen.{seen_place}
use Rattle.array_runs.specs.of_lowering_runs.Goes.{World, Goes, TestsGo, ValuesGo}
use Rattle.array_runs.specs.of_lowering_runs.Called.{CallsAgree}
use Rattle.array_runs.specs.of_lowering_runs.Suits.{ScalarBound, ScalarTest, SuitsStmt, SuitsStmtBy}
use Rattle.array_runs.specs.of_lowering_runs.Leaves.{ScalarLeaf}
use Rattle.array_runs.proofs.of_lowering_runs.ControlLemmas.{scalar_tests}
use Rattle.array_runs.proofs.of_lowering_runs.HeadLemmas.{scalar_values}
use Rattle.array_runs.proofs.of_lowering_runs.SuitLemmas.{goes_more, either_goes, leaf_goes, FormGoes, suited_goes}
use Rattle.array_runs.proofs.of_lowering_runs.StatementLemmas.{scalar_leaves}
use Rattle.array_runs.specs.Floods.{IsArrayServed}
use Rattle.array_runs.proofs.FloodLemmas.{served_goes}
use Rattle.prefix_runs.specs.Under.{IsUnder}
use Rattle.prefix_runs.specs.Plain.{ArrayLeaf, PlainLeaf}
use Rattle.prefix_runs.proofs.UnderLemmas.{under_goes}

pub suited_agrees_by : (world : World) (IsTest IsBound : Expr → Where → Place → Type 0)
    (IsLeaf : ℕ → Form → Where → Place → Type 0) → TestsGo world IsTest → ValuesGo world IsBound
    → ((at : ℕ) (form : Form) → Goes world (IsLeaf at form)
    (λ c store. mean.exec_form c world.turns at form store)
    (λ l next. low.lowered_form l next at form) (1 + own_nodes form)) → (stmt : Stmt)
    → Goes world (SuitsStmtBy IsUnder IsTest IsBound IsLeaf stmt)
    (λ c store. mean.exec c world.turns stmt store) (λ l next. low.lowered l next stmt) 0
suited_agrees_by world IsTest IsBound IsLeaf tests bounds leaves stmt =
    suited_goes world IsUnder IsTest IsBound IsLeaf
    (λ borders prefixes IsServed run made spare goes.
    under_goes world borders prefixes IsServed run made spare goes) tests bounds leaves stmt

pub suited_agrees : (world : World) (IsLeaf : ℕ → Form → Where → Place → Type 0)
    → ((at : ℕ) (form : Form) → Goes world (IsLeaf at form)
    (λ c store. mean.exec_form c world.turns at form store)
    (λ l next. low.lowered_form l next at form) (1 + own_nodes form)) → (stmt : Stmt)
    → Goes world (SuitsStmt IsUnder IsLeaf stmt) (λ c store. mean.exec c world.turns stmt store)
    (λ l next. low.lowered l next stmt) 0
suited_agrees world IsLeaf leaves stmt =
    suited_agrees_by world ScalarTest ScalarBound IsLeaf (scalar_tests world) (scalar_values world)
    leaves stmt

module _ (world : World) where
  no_array : (at : ℕ) (form : Form) → ((w : Where) (p : Place) → ArrayLeaf at form w p → ⊥)
      → FormGoes world ArrayLeaf at form
  no_array at form never sight w next start stands served room store now like =
      absurd (never w (seen_place sight w start) served)

  pub array_leaves : (at : ℕ) (form : Form) → FormGoes world ArrayLeaf at form
  array_leaves at (Assign name op value) =
      goes_more world (IsArrayServed name op value)
      (λ c store. mean.exec_form c world.turns at (Assign name op value) store)
      (λ l next. low.lowered_form l next at (Assign name op value))
      (served_goes world at name op value)
  array_leaves at (Invoke name actuals) = no_array at (Invoke name actuals) (λ w p h. h)
  array_leaves at (Block body) = no_array at (Block body) (λ w p h. h)
  array_leaves at (If arms otherwise) = no_array at (If arms otherwise) (λ w p h. h)
  array_leaves at (While test body) = no_array at (While test body) (λ w p h. h)
  array_leaves at (Repeat body until test) = no_array at (Repeat body until test) (λ w p h. h)
  array_leaves at (For head body) = no_array at (For head body) (λ w p h. h)
  array_leaves at (Border kind names) = no_array at (Border kind names) (λ w p h. h)
  array_leaves at (Write ends items) = no_array at (Write ends items) (λ w p h. h)
  array_leaves at (Return value) = no_array at (Return value) (λ w p h. h)

  pub plain_leaves : (setup : Setup) (IsCallable : List ℕ → Type 0)
      → CallsAgree world setup IsCallable → (at : ℕ) (form : Form)
      → FormGoes world (PlainLeaf setup IsCallable) at form
  plain_leaves setup IsCallable calls at form =
      either_goes world (ScalarLeaf setup IsCallable at form) (ArrayLeaf at form)
      (λ c store. mean.exec_form c world.turns at form store)
      (λ l next. low.lowered_form l next at form) 1
      (scalar_leaves world setup IsCallable calls at form) (array_leaves at form)

  pub plain_agrees : (setup : Setup) (IsCallable : List ℕ → Type 0)
      → CallsAgree world setup IsCallable → (stmt : Stmt)
      → Goes world (SuitsStmt IsUnder (PlainLeaf setup IsCallable) stmt)
      (λ c store. mean.exec c world.turns stmt store) (λ l next. low.lowered l next stmt) 0
  plain_agrees setup IsCallable calls stmt =
      suited_agrees world (PlainLeaf setup IsCallable)
      (λ at form. leaf_goes world (PlainLeaf setup IsCallable) at form
      (plain_leaves setup IsCallable calls at form)) stmt
