-- Statements by their forms, and the arms of choices.
use Rattle.std.proofs.Common.{◌≡◌, ◌<◌, ◌≤◌, ◌+◌, ℕ, Bool, true, false, List, [], ◌∷◌, drop, length}
use Rattle.std.proofs.Common.{get_or, refl, sym, ap, ◌∙◌, true≢false, subst, zero, suc, arith}
use Rattle.std.proofs.Common.{Option, Some, None, Bor}
use Rattle.std.specs.Prelude.{is_none}
use Rattle.std.proofs.lemmas.List.{drop_all, drop_more}
use Rattle.zpl_tree.specs.Syntax.{Expr, Stmts, Form, If, While, Repeat, Arms, ThenArm, Tested}
use Rattle.zpl_tree.specs.Syntax.{Otherwise, NoElse, Else}
use Rattle.zpl_tree.specs.View.{arm_of, arms_of, else_of, expr_of, stmts_of}
use Rattle.zpl_tree.specs.declared.statements.Arm.{Arm, out-Arm}
use Rattle.zpl_tree.specs.declared.statements.Stmt.{Stmt}
use Rattle.zpl_tree.proofs.Views.{arm_of-parts}
use Rattle.zpl_names.specs.Sites.{is_shattered}
use Rattle.zpl_meaning.specs.Statement.{arms_at}
use Rattle.zpl_lowering.specs.Lowered.{Lowered}
use Rattle.zpl_lowering.specs.Statement.{Lowering, choose_code, chosen, ends_arms, lowered_all}
use Rattle.zpl_lowering.specs.Statement.{lowered_arm, lowered_arms, lowered_form}
use Rattle.zpl_lowering.specs.Statement.{lowered_otherwise, repeat_code, shattered, test_of, when}
use Rattle.zpl_lowering.specs.Statement.{while_code}
use Rattle.zpl_lowering.specs.Where.{Next, Where, line_of, reach_of}
use Rattle.lower_draft.specs.Drafted.{Drafted, grown}

-- a form in memory
pub form_grown : (context : Lowering) (old new : Drafted) (at : ℕ) (form plain : Form)
    (made : Lowered) → form ≡ plain → lowered_form context old.next at plain ≡ made →
    new ≡ grown old made → new ≡ grown old (lowered_form context old.next at form)
form_grown context old new at form plain made is same grows =
    grows ∙ ap (grown old) (sym same)
    ∙ ap (λ f. grown old (lowered_form context old.next at f)) (sym is)

-- at the line of a statement
pub at_line : (w : Where) (at line : ℕ) (old new : Drafted) (code : ℕ → Lowered) →
    line ≡ line_of w at → new ≡ grown old (code line) → new ≡ grown old (code (line_of w at))
at_line w at line old new code is had = had ∙ ap (λ l. grown old (code l)) is

choose_false : (b : Bool) (one other : Lowered) → b ≡ false → choose_code b one other ≡ other
choose_false false one other is = refl
choose_false true one other is = absurd (true≢false is)

-- ---- statements that aren't shattered

module _ (context : Lowering) (next : Next) (at : ℕ) where
  pub whole_if : (arms : Arms) (otherwise : Otherwise) →
      is_shattered (reach_of context.place) (If arms otherwise) ≡ false →
      lowered_form context next at (If arms otherwise) ≡
      lowered_arms context next at arms otherwise
      (λ after. lowered_otherwise context after otherwise)
  whole_if arms otherwise is =
      choose_false (is_shattered (reach_of context.place) (If arms otherwise))
      (shattered context.place (line_of context.place at) next (If arms otherwise)) _ is

  pub whole_while : (test : Expr) (body : Stmts) →
      is_shattered (reach_of context.place) (While test body) ≡ false →
      lowered_form context next at (While test body) ≡
      while_code next (test_of context.place next test at)
      (λ after. lowered_all context after body)
  whole_while test body is =
      choose_false (is_shattered (reach_of context.place) (While test body))
      (shattered context.place (line_of context.place at) next (While test body)) _ is

  pub whole_repeat : (body : Stmts) (until : ℕ) (test : Expr) →
      is_shattered (reach_of context.place) (Repeat body until test) ≡ false →
      lowered_form context next at (Repeat body until test) ≡
      repeat_code next (lowered_all context next body)
      (λ after. test_of context.place after test until)
  whole_repeat body until test is =
      choose_false (is_shattered (reach_of context.place) (Repeat body until test))
      (shattered context.place (line_of context.place at) next (Repeat body until test)) _ is

-- ---- arms

pub arm_more : (arms : List Arm) (k : ℕ) (d : Arm) → k < length arms →
    (out-Arm (get_or arms k d)).at ≡ arms_at (arms_of (drop k arms))
arm_more arms k d less =
    sym (ap (λ l. arms_at (arms_of l)) (drop_more arms k d less)
    ∙ ap (λ a. arms_at (ThenArm a (arms_of (drop (k + 1) arms)))) (arm_of-parts (get_or arms k d)))

pub ends_more : (arms : List Arm) (k : ℕ) (otherwise : Otherwise) → k < length arms →
    false ≡ ends_arms (arms_of (drop k arms)) otherwise
ends_more [] k otherwise less = absurd (omega (arith, less))
ends_more (arm ∷ arms) zero otherwise less = refl
ends_more (arm ∷ arms) (suc k) otherwise less =
    ends_more arms k otherwise (omega (arith, less))

module _ (context : Lowering) (otherwise : Otherwise) (arms : List Arm) (i at : ℕ)
    (d0 d1 : Drafted) where
  abbrev last : Next → Lowered
  last after = lowered_otherwise context after otherwise

  abbrev code : Arms → Lowered
  code arms = lowered_arms context d0.next at arms otherwise last

  module _ (arm : Arm) (less : i < length arms) (stands : arm ≡ get_or arms i arm) where
    abbrev later : Arms
    later = arms_of (drop (i + 1) arms)

    abbrev test : Expr
    test = expr_of (out-Arm arm).test.now

    abbrev body : Next → Lowered
    body after = lowered_all context after (stmts_of (out-Arm arm).body.now)

    abbrev others : Next → Lowered
    others after = lowered_arms context after (arms_at later) later otherwise last

    arms_here : arms_of (drop i arms) ≡
        ThenArm (Tested (out-Arm arm).at test (stmts_of (out-Arm arm).body.now)) later
    arms_here =
        ap arms_of (drop_more arms i arm less)
        ∙ ap (λ a. ThenArm (arm_of a) later) (sym stands)
        ∙ ap (λ a. ThenArm a later) (arm_of-parts arm)

    code_is : (ends : Bool) → ends_arms later otherwise ≡ ends →
        code (arms_of (drop i arms)) ≡
        lowered_arm context d0.next at
        (Tested (out-Arm arm).at test (stmts_of (out-Arm arm).body.now)) ends others
    code_is ends is =
        ap code arms_here
        ∙ ap (λ b. lowered_arm context d0.next at
        (Tested (out-Arm arm).at test (stmts_of (out-Arm arm).body.now)) b others) is

    pub arms_last : ends_arms later otherwise ≡ true →
        d1 ≡ grown d0 (when d0.next (test_of context.place d0.next test at) body) →
        d1 ≡ grown d0 (code (arms_of (drop i arms)))
    arms_last ends made = made ∙ ap (grown d0) (sym (code_is true ends))

    abbrev others_at : ℕ → Next → Lowered
    others_at at after = lowered_arms context after at later otherwise last

    pub arms_chosen : (next : ℕ) → next ≡ arms_at later → ends_arms later otherwise ≡ false →
        d1 ≡ grown d0 (chosen d0.next (test_of context.place d0.next test at) body
        (others_at next)) → d1 ≡ grown d0 (code (arms_of (drop i arms)))
    arms_chosen next is ends made =
        made
        ∙ ap (λ n. grown d0 (chosen d0.next (test_of context.place d0.next test at) body
        (others_at n))) is
        ∙ ap (grown d0) (sym (code_is false ends))
