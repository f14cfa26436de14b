-- The statements in a statement: induction over them, and a run comes to no others.
use Rattle.std.proofs.Common.{ℕ, List, ◌⊎◌, inl, inr, refl, subst}
use Rattle.zpl_meaning.specs.of_zpl_tree.Syntax.{Prefix, Stmt, Prefixed, Stmts, NoStmt, ThenStmt, Form, Assign}
use Rattle.zpl_meaning.specs.of_zpl_tree.Syntax.{Invoke, Block, If, While, Repeat, For, Border, Write, Return}
use Rattle.zpl_meaning.specs.of_zpl_tree.Syntax.{Tested, Arms, NoArm, ThenArm, Otherwise, NoElse, Else}
use Rattle.zpl_meaning.proofs.of_zpl_names.ListLemmas.{Among}
use Rattle.zpl_meaning.proofs.of_zpl_names.FaultlessLemmas.{split, left-among, right-among}
use Rattle.zpl_meaning.specs.Store.{Store}
use Rattle.zpl_meaning.specs.Statement.{Context}
use Rattle.zpl_meaning.specs.Visited.{list_of, arms_parts, else_parts, parts_of}
use Rattle.meaning_runs.specs.Runner.{Runner, runner_at}
use Rattle.meaning_runs.specs.Comes.{ComesInAll, ComesInArms, ComesIn}
use Rattle.meaning_runs.specs.Comes.{ComesInAll as in_all, ComesInArms as in_arms}
use Rattle.meaning_runs.specs.Comes.{ComesIn as in_form}
use Rattle.meaning_runs.specs.Met.{GoesTo}

-- ---- induction
module _ (P : Stmt → Type 0)
    (step : (at : ℕ) (prefixes : List Prefix) (form : Form)
    → ((part : Stmt) → Among (parts_of form) part → P part) → P (Prefixed at prefixes form)) where
  mutual
    pub by_parts : (stmt : Stmt) → P stmt
    by_parts (Prefixed at prefixes form) = step at prefixes form (of_form form)

    of_all : (stmts : Stmts) (part : Stmt) → Among (list_of stmts) part → P part
    of_all NoStmt part m = absurd m
    of_all (ThenStmt first rest) part (inl e) = subst P e (by_parts first)
    of_all (ThenStmt first rest) part (inr m) = of_all rest part m

    of_form : (form : Form) (part : Stmt) → Among (parts_of form) part → P part
    of_form (Block body) part m = of_all body part m
    of_form (If arms otherwise) part m =
        elim (split (arms_parts arms) (else_parts otherwise) part m) [
          | inl h ↦ of_arms arms part h
          | inr h ↦ of_else otherwise part h
        ]
    of_form (While test body) part m = of_all body part m
    of_form (Repeat body until test) part m = of_all body part m
    of_form (For head body) part m = of_all body part m
    of_form (Assign name op value) part m = absurd m
    of_form (Invoke name actuals) part m = absurd m
    of_form (Border kind names) part m = absurd m
    of_form (Write line items) part m = absurd m
    of_form (Return value) part m = absurd m

    of_arms : (arms : Arms) (part : Stmt) → Among (arms_parts arms) part → P part
    of_arms NoArm part m = absurd m
    of_arms (ThenArm (Tested at test body) rest) part m =
        elim (split (list_of body) (arms_parts rest) part m) [
          | inl h ↦ of_all body part h
          | inr h ↦ of_arms rest part h
        ]

    of_else : (otherwise : Otherwise) (part : Stmt) → Among (else_parts otherwise) part → P part
    of_else NoElse part m = absurd m
    of_else (Else body) part m = of_all body part m

-- ---- what a run comes to
module _ (runner : Runner) where
  pub all_among : (stmts : Stmts) (store : Store) (part : Stmt) (later : Store)
      → ComesInAll runner stmts store part later → Among (list_of stmts) part
  all_among stmts store part later (in_all.First first rest same) = inl refl
  all_among stmts store part later (in_all.Later first next rest same after done comes) =
      inr (all_among rest (runner.one first same).store next after comes)

  arms_among : (at : ℕ) (arms : Arms) (otherwise : Otherwise) (store : Store) (part : Stmt)
      (later : Store) → ComesInArms runner at arms otherwise store part later
      → Among (arms_parts arms) part ⊎ Among (else_parts otherwise) part
  arms_among at arms otherwise store part later
      (in_arms.InFirst offset own test body rest last same next after holds comes) =
      inl (left-among (list_of body) (arms_parts rest) next (all_among body same next after comes))
  arms_among at arms otherwise store part later
      (in_arms.InRest offset own test body rest last same next after holds comes) =
      elim (arms_among _ rest last same next after comes) [
        | inl m ↦ inl (right-among (list_of body) (arms_parts rest) next m)
        | inr m ↦ inr m
      ]
  arms_among at arms otherwise store part later (in_arms.InElse offset body same next after comes) =
      inr (all_among body same next after comes)

  pub form_among : (at : ℕ) (form : Form) (store : Store) (part : Stmt) (later : Store)
      → ComesIn runner at form store part later → Among (parts_of form) part
  form_among at form store part later (in_form.InBlock offset body same next after comes) =
      all_among body same next after comes
  form_among at form store part later
      (in_form.InChoice offset arms otherwise same next after comes) =
      elim (arms_among offset arms otherwise same next after comes) [
        | inl m ↦ left-among (arms_parts arms) (else_parts otherwise) next m
        | inr m ↦ right-among (arms_parts arms) (else_parts otherwise) next m
      ]
  form_among at form store part later
      (in_form.InWhile offset test body same left turn next after to_turn holds comes) =
      all_among body turn next after comes
  form_among at form store part later
      (in_form.InRepeat offset body until test same left turn next after to_turn comes) =
      all_among body turn next after comes

pub goes_among : (context : Context) (n at : ℕ) (form : Form) (store : Store) (part : Stmt)
    (later : Store) → GoesTo context n at form store part later → Among (parts_of form) part
goes_among context n at form store part later
    (GoesTo.InForm offset same from next after whole comes) =
    form_among (runner_at context n) offset same from next after comes
goes_among context n at form store part later
    (GoesTo.InFor offset head body from left value turn next after counting to past comes) =
    all_among (runner_at context n) body _ next after comes
