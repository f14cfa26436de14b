-- What is asked of forms that are calls.
use Rattle.std.specs.Prelude.{ℕ, List, Option, Some, None}
use Rattle.zpl_nums.specs.declared.operators.Op.{Op}
use Rattle.zpl_tree.specs.Syntax.{Name, Expr, Number, Truth, Coord, Named, Shifted, Around, Remap, Call, Paren, Neg, Not, Abs, Pair, Reduce, Scan, Flood, Form, Assign, Invoke, Block, If, While, Repeat, For, Border, Write, Return}
use Rattle.zpl_meaning.specs.Context.{Place}
use Rattle.zpl_meaning.specs.Calls.{Called}
use Rattle.prefix_runs.specs.of_zpl_lowering.Where.{Where}
use Rattle.prefix_runs.specs.of_zpl_lowering.Statement.{Given}
use Rattle.call_runs.specs.Answered.{IsAnswered}
use Rattle.call_runs.specs.Taken.{IsInvoked}

-- What is said of calls as statements, and of those whose answers are assigned; and of the values that
-- they take.
module _ (IsCalled IsAsked : Where → List Given → Called → Type 0)
    (IsValue : Expr → Where → Place → Type 0) where
  abbrev pub IsAnsweredBy : Name → Option Op → Expr → Where → Place → Type 0
  IsAnsweredBy name None (Call at callee actuals) w p =
      IsAnswered IsAsked IsValue name callee actuals w p
  IsAnsweredBy name None (Number at value) w p = ⊥
  IsAnsweredBy name None (Truth at value) w p = ⊥
  IsAnsweredBy name None (Coord at k) w p = ⊥
  IsAnsweredBy name None (Named at it) w p = ⊥
  IsAnsweredBy name None (Shifted at it shift) w p = ⊥
  IsAnsweredBy name None (Around at it shift) w p = ⊥
  IsAnsweredBy name None (Remap at it indices) w p = ⊥
  IsAnsweredBy name None (Paren at inside) w p = ⊥
  IsAnsweredBy name None (Neg at operand) w p = ⊥
  IsAnsweredBy name None (Not at operand) w p = ⊥
  IsAnsweredBy name None (Abs at operand) w p = ⊥
  IsAnsweredBy name None (Pair at op left right) w p = ⊥
  IsAnsweredBy name None (Reduce at operator over operand) w p = ⊥
  IsAnsweredBy name None (Scan at operator along operand) w p = ⊥
  IsAnsweredBy name None (Flood at source operand) w p = ⊥
  IsAnsweredBy name (Some op) value w p = ⊥

  -- of forms that have no statements in them
  abbrev pub CallLeaf : ℕ → Form → Where → Place → Type 0
  CallLeaf at (Invoke name actuals) w p = IsInvoked IsCalled IsValue name actuals w p
  CallLeaf at (Assign name op value) w p = IsAnsweredBy name op value w p
  CallLeaf at (Block body) w p = ⊥
  CallLeaf at (If arms otherwise) w p = ⊥
  CallLeaf at (While test body) w p = ⊥
  CallLeaf at (Repeat body until test) w p = ⊥
  CallLeaf at (For head body) w p = ⊥
  CallLeaf at (Border kind names) w p = ⊥
  CallLeaf at (Write ends items) w p = ⊥
  CallLeaf at (Return value) w p = ⊥
