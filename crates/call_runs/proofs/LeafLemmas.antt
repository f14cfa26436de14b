-- Calls among other forms.
use Rattle.std.proofs.Common.{ℕ, ◌+◌, List, Option, None, Some, arith}
use Rattle.zpl_nums.specs.declared.operators.Op.{Op}
use Rattle.zpl_tree.specs.Syntax.{Name, Expr, Number, Truth, Coord, Named, Shifted, Around, Remap, Call, Paren, Neg, Not, Abs, Pair, Reduce, Scan, Flood, Form, Assign, Invoke, Block, If, While, Repeat, For, Border, Write, Return}
use Rattle.zpl_names.specs.Counts.{exprs_nodes}
use Rattle.zpl_meaning.specs.Context.{Place}
use Rattle.zpl_meaning.specs.Calls.{Called}
use Rattle.zpl_meaning.specs.Statement as mean
use Rattle.prefix_runs.specs.of_zpl_lowering.Where.{Where}
use Rattle.prefix_runs.specs.of_zpl_lowering.Statement as low
use Rattle.prefix_runs.specs.of_zpl_lowering.Statement.{Given}
use Rattle.prefix_runs.specs.of_lowering_runs.Seen.{seen_place}
use Rattle.prefix_runs.specs.of_lowering_runs.Goes.{World, ValuesGo}
use Rattle.prefix_runs.proofs.of_lowering_runs.SuitLemmas.{LeafGoes, spare_more}
use Rattle.call_runs.specs.Answered.{CallsAnswer, IsAnswered}
use Rattle.call_runs.specs.Leaf.{CallLeaf}
use Rattle.call_runs.specs.Taken.{CallsGo, IsInvoked}
use Rattle.call_runs.proofs.AnswerLemmas.{answer_goes}
use Rattle.call_runs.proofs.InvokeLemmas.{invoke_goes}

module _ (IsCalled IsAsked : Where → List Given → Called → Type 0)
    (IsValue : Expr → Where → Place → Type 0) (world : World) (calls : CallsGo IsCalled world)
    (answers : CallsAnswer IsAsked world) (valued : ValuesGo world IsValue) where
  no_call : (at : ℕ) (form : Form)
      → ((w : Where) (p : Place) → CallLeaf IsCalled IsAsked IsValue at form w p → ⊥)
      → LeafGoes world (CallLeaf IsCalled IsAsked IsValue) at form
  no_call at form never sight w next start stands served room store now like =
      absurd (never w (seen_place sight w start) served)

  assigned : (at : ℕ) (name : Name) (op : Option Op) (value : Expr)
      → LeafGoes world (CallLeaf IsCalled IsAsked IsValue) at (Assign name op value)
  assigned at name None (Call offset callee actuals) =
      spare_more world (IsAnswered IsAsked IsValue name callee actuals)
      (λ c store. mean.exec_form c world.turns at (Assign name None (Call offset callee actuals))
      store)
      (λ l next. low.lowered_form l next at (Assign name None (Call offset callee actuals)))
      (exprs_nodes actuals) (1 + (1 + exprs_nodes actuals)) (omega arith)
      (answer_goes IsAsked IsValue world answers valued at offset name callee actuals)
  assigned at name (Some op) value = no_call at (Assign name (Some op) value) (λ w p h. h)
  assigned at name None (Number o value) = no_call at (Assign name None (Number o value)) (λ w p h. h)
  assigned at name None (Truth o value) = no_call at (Assign name None (Truth o value)) (λ w p h. h)
  assigned at name None (Coord o k) = no_call at (Assign name None (Coord o k)) (λ w p h. h)
  assigned at name None (Named o it) = no_call at (Assign name None (Named o it)) (λ w p h. h)
  assigned at name None (Shifted o it shift) =
      no_call at (Assign name None (Shifted o it shift)) (λ w p h. h)
  assigned at name None (Around o it shift) =
      no_call at (Assign name None (Around o it shift)) (λ w p h. h)
  assigned at name None (Remap o it indices) =
      no_call at (Assign name None (Remap o it indices)) (λ w p h. h)
  assigned at name None (Paren o inside) = no_call at (Assign name None (Paren o inside)) (λ w p h. h)
  assigned at name None (Neg o operand) = no_call at (Assign name None (Neg o operand)) (λ w p h. h)
  assigned at name None (Not o operand) = no_call at (Assign name None (Not o operand)) (λ w p h. h)
  assigned at name None (Abs o operand) = no_call at (Assign name None (Abs o operand)) (λ w p h. h)
  assigned at name None (Pair o op left right) =
      no_call at (Assign name None (Pair o op left right)) (λ w p h. h)
  assigned at name None (Reduce o operator over operand) =
      no_call at (Assign name None (Reduce o operator over operand)) (λ w p h. h)
  assigned at name None (Scan o operator along operand) =
      no_call at (Assign name None (Scan o operator along operand)) (λ w p h. h)
  assigned at name None (Flood o source operand) =
      no_call at (Assign name None (Flood o source operand)) (λ w p h. h)

  pub call_leaves : (at : ℕ) (form : Form) → LeafGoes world (CallLeaf IsCalled IsAsked IsValue) at form
  call_leaves at (Invoke name actuals) =
      spare_more world (IsInvoked IsCalled IsValue name actuals)
      (λ c store. mean.exec_form c world.turns at (Invoke name actuals) store)
      (λ l next. low.lowered_form l next at (Invoke name actuals)) (exprs_nodes actuals)
      (1 + exprs_nodes actuals) (omega arith)
      (invoke_goes IsCalled IsValue world calls valued at name actuals)
  call_leaves at (Assign name op value) = assigned at name op value
  call_leaves at (Block body) = no_call at (Block body) (λ w p h. h)
  call_leaves at (If arms otherwise) = no_call at (If arms otherwise) (λ w p h. h)
  call_leaves at (While test body) = no_call at (While test body) (λ w p h. h)
  call_leaves at (Repeat body until test) = no_call at (Repeat body until test) (λ w p h. h)
  call_leaves at (For head body) = no_call at (For head body) (λ w p h. h)
  call_leaves at (Border kind names) = no_call at (Border kind names) (λ w p h. h)
  call_leaves at (Write ends items) = no_call at (Write ends items) (λ w p h. h)
  call_leaves at (Return value) = no_call at (Return value) (λ w p h. h)
