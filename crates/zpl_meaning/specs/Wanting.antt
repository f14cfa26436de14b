-- When a loop wants a turn more than it may make; and statements that have no loop.
use Rattle.std.specs.Prelude.{◌≡◌, ◌≢◌, ℕ, zero, suc, Bool, true, false, ℤ, List, All, Contains}
use Rattle.zpl_binding.specs.of_zpl_nums.declared.ends.End.TheVariants.{Done, More}
use Rattle.zpl_binding.specs.of_zpl_nums.Integer.{is_true}
use Rattle.zpl_binding.specs.of_zpl_tree.Syntax.{Stmt, Prefixed, Stmts, NoStmt, ThenStmt, Form, Assign, Invoke}
use Rattle.zpl_binding.specs.of_zpl_tree.Syntax.{Block, If, While, Repeat, For, Border, Write, Return, Arm, Tested}
use Rattle.zpl_binding.specs.of_zpl_tree.Syntax.{Arms, NoArm, ThenArm, Otherwise, NoElse, Else, Program}
use Rattle.zpl_binding.specs.of_zpl_names.Declared.{routines_of}
use Rattle.zpl_meaning.specs.Computed.{Gives}
use Rattle.zpl_meaning.specs.Store.{Store}
use Rattle.zpl_meaning.specs.Outcome.{Outcome, Test, Count, is_past, next_value}
use Rattle.zpl_meaning.specs.Points.{Run}
use Rattle.zpl_meaning.specs.Calls.{Called}

-- the test has a value, which stands for true, or for false
pub record Holds (test : Test) (store : Store) (truth : Bool) : Type 0 where
  pub value : ℤ
  pub has : test.value store ≡ Gives value
  pub so : is_true value ≡ truth

-- Of two things one after the other: the first wants more, or it goes on and the second does.
pub data ThenWants (first : Outcome) (next : Store → Outcome) : Type 0 where
  at_first : first.ending ≡ More → ThenWants first next
  at_next : first.ending ≡ Done → (next first.store).ending ≡ More → ThenWants first next

-- Of two choices: the one that the test chooses.
pub data ChoiceWants (test : Test) (one other : Store → Outcome) (store : Store) : Type 0 where
  at_one : Holds test store true → (one store).ending ≡ More → ChoiceWants test one other store
  at_other : Holds test store false → (other store).ending ≡ More →
      ChoiceWants test one other store

-- Of the tuples of a shattered statement: one of them.
pub record SomeRunWants (runs : List Run) : Type 0 where
  pub run : Run
  pub there : Contains runs run
  pub wants : run.outcome.ending ≡ More

-- A loop that tests before each turn wants one more where its test holds when it may make no more;
-- or one of its turns wants more.
pub data WhileWants (test : Test) (body : Store → Outcome) : ℕ → Store → Type 0 where
  no_turn_left : {store : Store} → Holds test store true → WhileWants test body zero store
  in_a_turn : {n : ℕ} {store : Store} → Holds test store true → (body store).ending ≡ More →
      WhileWants test body (suc n) store
  later : {n : ℕ} {store : Store} → Holds test store true → (body store).ending ≡ Done →
      WhileWants test body n (body store).store → WhileWants test body (suc n) store

-- One that tests after each turn: where its test doesn't hold, or at the start.
pub data RepeatWants (test : Test) (body : Store → Outcome) : ℕ → Store → Type 0 where
  no_turn_left : {store : Store} → RepeatWants test body zero store
  in_a_turn : {n : ℕ} {store : Store} → (body store).ending ≡ More →
      RepeatWants test body (suc n) store
  later : {n : ℕ} {store : Store} → (body store).ending ≡ Done →
      Holds test (body store).store false → RepeatWants test body n (body store).store →
      RepeatWants test body (suc n) store

-- One that counts: where the next value isn't past the last.
pub data ForWants (count : Count) (set : ℤ → Store → Store) (body : Store → Outcome) : ℕ → ℤ →
    Store → Type 0 where
  no_turn_left : {value : ℤ} {store : Store} → is_past count value ≡ false →
      ForWants count set body zero value store
  in_a_turn : {n : ℕ} {value : ℤ} {store : Store} → is_past count value ≡ false →
      (body (set value store)).ending ≡ More → ForWants count set body (suc n) value store
  later : {n : ℕ} {value : ℤ} {store : Store} → is_past count value ≡ false →
      (body (set value store)).ending ≡ Done →
      ForWants count set body n (next_value count value) (body (set value store)).store →
      ForWants count set body (suc n) value store

-- ---- no loop

abbrev mutual
  pub HasNoLoop : Stmt → Type 0
  HasNoLoop (Prefixed at prefixes form) = HasNoLoopIn form

  pub HaveNoLoop : Stmts → Type 0
  HaveNoLoop NoStmt = Unit {0}
  HaveNoLoop (ThenStmt first rest) = HasNoLoop first × HaveNoLoop rest

  pub HasNoLoopIn : Form → Type 0
  HasNoLoopIn (Block body) = HaveNoLoop body
  HasNoLoopIn (If arms otherwise) = ArmsHaveNoLoop arms × ElseHasNoLoop otherwise
  HasNoLoopIn (While test body) = ⊥
  HasNoLoopIn (Repeat body until test) = ⊥
  HasNoLoopIn (For head body) = ⊥
  HasNoLoopIn (Assign name op value) = Unit {0}
  HasNoLoopIn (Invoke name actuals) = Unit {0}
  HasNoLoopIn (Border kind names) = Unit {0}
  HasNoLoopIn (Write line items) = Unit {0}
  HasNoLoopIn (Return value) = Unit {0}

  pub ArmsHaveNoLoop : Arms → Type 0
  ArmsHaveNoLoop NoArm = Unit {0}
  ArmsHaveNoLoop (ThenArm first rest) = ArmHasNoLoop first × ArmsHaveNoLoop rest

  pub ArmHasNoLoop : Arm → Type 0
  ArmHasNoLoop (Tested at test body) = HaveNoLoop body

  pub ElseHasNoLoop : Otherwise → Type 0
  ElseHasNoLoop NoElse = Unit {0}
  ElseHasNoLoop (Else body) = HaveNoLoop body

-- no procedure of the program has one
abbrev pub IsWithoutLoops : Program → Type 0
IsWithoutLoops program = All (λ routine. HasNoLoop routine.procedure.body) (routines_of program)

-- what is called doesn't want more
abbrev pub CallsEnd : (Called → Store → Outcome) → Type 0
CallsEnd call = (called : Called) (store : Store) → (call called store).ending ≢ More
