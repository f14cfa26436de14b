-- A form with other statements in it wants more where a statement that it comes to does, or where
-- it is a loop that wants a turn which it may not make.
use Rattle.std.proofs.Common.{◌≡◌, ℕ, zero, suc, sym, ap, ◌∙◌}
use Rattle.zpl_nums.specs.declared.ends.End.TheVariants.{Done, More}
use Rattle.zpl_meaning.specs.of_zpl_tree.Syntax.{Expr, Stmt, Stmts, NoStmt, ThenStmt, Form, Assign, Invoke, Block}
use Rattle.zpl_meaning.specs.of_zpl_tree.Syntax.{If, While, Repeat, For, Border, Write, Return, Tested, Arms}
use Rattle.zpl_meaning.specs.of_zpl_tree.Syntax.{NoArm, ThenArm, Otherwise, NoElse, Else}
use Rattle.zpl_meaning.specs.Store.{Store}
use Rattle.zpl_meaning.specs.Outcome.{Outcome, goes_on, then_do, tested, while_turns, repeat_turns}
use Rattle.zpl_meaning.specs.Statement.{arms_at}
use Rattle.zpl_meaning.specs.Wanting.{ThenWants, ChoiceWants, WhileWants, RepeatWants}
use Rattle.zpl_meaning.proofs.MoreLemmas.{sequence_exact, choice_exact, while_exact, repeat_exact}
use Rattle.meaning_runs.specs.Runner.{Runner}
use Rattle.meaning_runs.specs.Comes.{ComesInAll, ComesInArms, ComesIn}
use Rattle.meaning_runs.specs.Comes.{WantsTurn}
use Rattle.meaning_runs.specs.Comes.{ComesInAll as in_all, ComesInArms as in_arms}
use Rattle.meaning_runs.specs.Comes.{ComesIn as in_form}
use Rattle.meaning_runs.proofs.LoopLemmas.{while_finds, while_wants, repeat_finds, repeat_wants}

pub done_no_more : {A : Type 0} → Done ≡ More → A
done_no_more e = cc

-- how statements and arms are run
pub record Runs (runner : Runner) : Type 0 where
  pub arms : ℕ → Arms → (Store → Outcome) → Store → Outcome
  pub none : (store : Store) → runner.all NoStmt store ≡ goes_on store
  pub next : (first : Stmt) (rest : Stmts) (store : Store) →
      runner.all (ThenStmt first rest) store ≡ then_do (runner.one first store) (runner.all rest)
  pub last_arm : (at : ℕ) (last : Store → Outcome) (store : Store) →
      arms at NoArm last store ≡ last store
  pub first_arm : (at own : ℕ) (test : Expr) (body : Stmts) (rest : Arms) (last : Store → Outcome)
      (store : Store) →
      arms at (ThenArm (Tested own test body) rest) last store ≡
      tested (runner.test test at) (runner.all body) (arms (arms_at rest) rest last) store

abbrev pub else_run : Runner → Otherwise → Store → Outcome
else_run runner NoElse store = goes_on store
else_run runner (Else body) store = runner.all body store

module _ (runner : Runner) (runs : Runs runner) where
  -- the run of a form with other statements in it, without those of a `for`
  abbrev pub Wants : ℕ → Form → Store → Type 0
  Wants at (Block body) store = (runner.all body store).ending ≡ More
  Wants at (If arms otherwise) store =
      (runs.arms at arms (else_run runner otherwise) store).ending ≡ More
  Wants at (While test body) store =
      (while_turns runner.bound (runner.test test at) (runner.all body) store).ending ≡ More
  Wants at (Repeat body until test) store =
      (repeat_turns runner.bound (runner.test test until) (runner.all body) store).ending ≡ More
  Wants at (Assign name op value) store = ⊥
  Wants at (Invoke name actuals) store = ⊥
  Wants at (For head body) store = ⊥
  Wants at (Border kind names) store = ⊥
  Wants at (Write line items) store = ⊥
  Wants at (Return value) store = ⊥

  -- ---- forth
  pub all_finds : (Goal : Type 0) (stmts : Stmts) (store : Store)
      → (runner.all stmts store).ending ≡ More
      → ((part : Stmt) (later : Store) → ComesInAll runner stmts store part later
      → (runner.one part later).ending ≡ More → Goal)
      → Goal
  all_finds Goal NoStmt store e found =
      done_no_more (sym (ap (λ (o : Outcome). o.ending) (runs.none store)) ∙ e)
  all_finds Goal (ThenStmt first rest) store e found =
      by ((sequence_exact (runner.one first store) (runner.all rest)).0
      (sym (ap (λ (o : Outcome). o.ending) (runs.next first rest store)) ∙ e))
      (all_finds Goal rest (runner.one first store).store)
    where
      by : ThenWants (runner.one first store) (runner.all rest)
          → ((runner.all rest (runner.one first store).store).ending ≡ More
          → ((part : Stmt) (later : Store)
          → ComesInAll runner rest (runner.one first store).store part later
          → (runner.one part later).ending ≡ More → Goal) → Goal)
          → Goal
      by (ThenWants.at_first more) deeper = found first store (in_all.First first rest store) more
      by (ThenWants.at_next done more) deeper =
          deeper more (λ part later comes. found part later
          (in_all.Later first part rest store later done comes))

  else_finds : (Goal : Type 0) (at : ℕ) (otherwise : Otherwise) (store : Store)
      → (else_run runner otherwise store).ending ≡ More
      → ((part : Stmt) (later : Store) → ComesInArms runner at NoArm otherwise store part later
      → (runner.one part later).ending ≡ More → Goal)
      → Goal
  else_finds Goal at NoElse store e found = done_no_more e
  else_finds Goal at (Else body) store e found =
      all_finds Goal body store e (λ part later comes. found part later
      (in_arms.InElse at body store part later comes))

  arms_find : (Goal : Type 0) (arms : Arms) (at : ℕ) (otherwise : Otherwise) (store : Store)
      → (runs.arms at arms (else_run runner otherwise) store).ending ≡ More
      → ((part : Stmt) (later : Store) → ComesInArms runner at arms otherwise store part later
      → (runner.one part later).ending ≡ More → Goal)
      → Goal
  arms_find Goal NoArm at otherwise store e found =
      else_finds Goal at otherwise store
      (sym (ap (λ (o : Outcome). o.ending) (runs.last_arm at (else_run runner otherwise) store))
      ∙ e) found
  arms_find Goal (ThenArm (Tested own test body) rest) at otherwise store e found =
      by ((choice_exact (runner.test test at) (runner.all body)
      (runs.arms (arms_at rest) rest (else_run runner otherwise)) store).0
      (sym (ap (λ (o : Outcome). o.ending)
      (runs.first_arm at own test body rest (else_run runner otherwise) store)) ∙ e))
      (arms_find Goal rest (arms_at rest) otherwise store)
    where
      by : ChoiceWants (runner.test test at) (runner.all body)
          (runs.arms (arms_at rest) rest (else_run runner otherwise)) store
          → ((runs.arms (arms_at rest) rest (else_run runner otherwise) store).ending ≡ More
          → ((part : Stmt) (later : Store)
          → ComesInArms runner (arms_at rest) rest otherwise store part later
          → (runner.one part later).ending ≡ More → Goal) → Goal)
          → Goal
      by (ChoiceWants.at_one holds more) deeper =
          all_finds Goal body store more (λ part later comes. found part later
          (in_arms.InFirst at own test body rest otherwise store part later holds comes))
      by (ChoiceWants.at_other holds more) deeper =
          deeper more (λ part later comes. found part later
          (in_arms.InRest at own test body rest otherwise store part later holds comes))

  pub finds : (Goal : Type 0) (at : ℕ) (form : Form) (store : Store) → Wants at form store
      → (WantsTurn runner at form store → Goal)
      → ((part : Stmt) (later : Store) → ComesIn runner at form store part later
      → (runner.one part later).ending ≡ More → Goal)
      → Goal
  finds Goal at (Block body) store wants stops found =
      all_finds Goal body store wants (λ part later comes. found part later
      (in_form.InBlock at body store part later comes))
  finds Goal at (If arms otherwise) store wants stops found =
      arms_find Goal arms at otherwise store wants (λ part later comes. found part later
      (in_form.InChoice at arms otherwise store part later comes))
  finds Goal at (While test body) store wants stops found =
      while_finds (runner.test test at) (runner.all body) Goal runner.bound store
      ((while_exact (runner.test test at) (runner.all body) runner.bound store).0 wants)
      (λ last comes holds. stops (WantsTurn.BeforeTurns at test body store last comes holds))
      (λ left turn to holds more. all_finds Goal body turn more (λ part later comes.
      found part later
      (in_form.InWhile at test body store left turn part later to holds comes)))
  finds Goal at (Repeat body until test) store wants stops found =
      repeat_finds (runner.test test until) (runner.all body) Goal runner.bound store
      ((repeat_exact (runner.test test until) (runner.all body) runner.bound store).0 wants)
      (λ last comes. stops (WantsTurn.AfterTurns at body until test store last comes))
      (λ left turn to more. all_finds Goal body turn more (λ part later comes. found part later
      (in_form.InRepeat at body until test store left turn part later to comes)))
  finds Goal at (Assign name op value) store wants stops found = absurd wants
  finds Goal at (Invoke name actuals) store wants stops found = absurd wants
  finds Goal at (For head body) store wants stops found = absurd wants
  finds Goal at (Border kind names) store wants stops found = absurd wants
  finds Goal at (Write line items) store wants stops found = absurd wants
  finds Goal at (Return value) store wants stops found = absurd wants

  -- ---- back
  pub all_wants : (stmts : Stmts) (store : Store) (part : Stmt) (later : Store)
      → ComesInAll runner stmts store part later → (runner.one part later).ending ≡ More
      → (runner.all stmts store).ending ≡ More
  all_wants stmts store part later (in_all.First first rest same) more =
      ap (λ (o : Outcome). o.ending) (runs.next first rest same)
      ∙ (sequence_exact (runner.one first same) (runner.all rest)).1 (ThenWants.at_first more)
  all_wants stmts store part later (in_all.Later first next rest same after done comes) more =
      ap (λ (o : Outcome). o.ending) (runs.next first rest same)
      ∙ (sequence_exact (runner.one first same) (runner.all rest)).1 (ThenWants.at_next done
      (all_wants rest (runner.one first same).store next after comes more))

  arms_want : (at : ℕ) (arms : Arms) (otherwise : Otherwise) (store : Store) (part : Stmt)
      (later : Store) → ComesInArms runner at arms otherwise store part later
      → (runner.one part later).ending ≡ More
      → (runs.arms at arms (else_run runner otherwise) store).ending ≡ More
  arms_want at arms otherwise store part later
      (in_arms.InFirst offset own test body rest last same next after holds comes) more =
      ap (λ (o : Outcome). o.ending)
      (runs.first_arm offset own test body rest (else_run runner last) same)
      ∙ (choice_exact (runner.test test offset) (runner.all body)
      (runs.arms (arms_at rest) rest (else_run runner last)) same).1
      (ChoiceWants.at_one holds (all_wants body same next after comes more))
  arms_want at arms otherwise store part later
      (in_arms.InRest offset own test body rest last same next after holds comes) more =
      ap (λ (o : Outcome). o.ending)
      (runs.first_arm offset own test body rest (else_run runner last) same)
      ∙ (choice_exact (runner.test test offset) (runner.all body)
      (runs.arms (arms_at rest) rest (else_run runner last)) same).1
      (ChoiceWants.at_other holds
      (arms_want (arms_at rest) rest last same next after comes more))
  arms_want at arms otherwise store part later
      (in_arms.InElse offset body same next after comes) more =
      ap (λ (o : Outcome). o.ending) (runs.last_arm offset (else_run runner (Else body)) same)
      ∙ all_wants body same next after comes more

  pub comes_wants : (at : ℕ) (form : Form) (store : Store) (part : Stmt) (later : Store)
      → ComesIn runner at form store part later → (runner.one part later).ending ≡ More
      → Wants at form store
  comes_wants at form store part later (in_form.InBlock offset body same next after comes) more =
      all_wants body same next after comes more
  comes_wants at form store part later
      (in_form.InChoice offset arms otherwise same next after comes) more =
      arms_want offset arms otherwise same next after comes more
  comes_wants at form store part later
      (in_form.InWhile offset test body same left turn next after to holds comes) more =
      (while_exact (runner.test test offset) (runner.all body) runner.bound same).1
      (while_wants (runner.test test offset) (runner.all body) runner.bound same (suc left) turn to
      (WhileWants.in_a_turn holds (all_wants body turn next after comes more)))
  comes_wants at form store part later
      (in_form.InRepeat offset body until test same left turn next after to comes) more =
      (repeat_exact (runner.test test until) (runner.all body) runner.bound same).1
      (repeat_wants (runner.test test until) (runner.all body) runner.bound same (suc left) turn to
      (RepeatWants.in_a_turn (all_wants body turn next after comes more)))

  pub turn_wants : (at : ℕ) (form : Form) (store : Store) → WantsTurn runner at form store
      → Wants at form store
  turn_wants at form store (WantsTurn.BeforeTurns offset test body same last comes holds) =
      (while_exact (runner.test test offset) (runner.all body) runner.bound same).1
      (while_wants (runner.test test offset) (runner.all body) runner.bound same zero last comes
      (WhileWants.no_turn_left holds))
  turn_wants at form store (WantsTurn.AfterTurns offset body until test same last comes) =
      (repeat_exact (runner.test test until) (runner.all body) runner.bound same).1
      (repeat_wants (runner.test test until) (runner.all body) runner.bound same zero last comes
      RepeatWants.no_turn_left)
