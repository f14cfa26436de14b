use Rattle.std.proofs.Common.{◌≡◌, ◌-◌, ◌<◌, map, length, Some, true, false, is_ok, sym, ap, subst, ◌∙◌, arith, rules}
use Rattle.std.proofs.ResultArms.{chosen}
use Rattle.zpl_tokens.specs.declared.Kind.TheVariants as kind
use Rattle.zpl_tokens.specs.declared.keywords.Key.TheVariants as key
use Rattle.zpl_tree.specs.Syntax.{Prefixed, NoStmt, ThenStmt, NoArm, Tested, Block, If, While, Repeat, For, Else}
use Rattle.zpl_tree.specs.View.{prefix_of, expr_of, head_of, stmts_of, arm_of, arms_of, statement_of}
use Rattle.zpl_tree.proofs.Views.{statement_of-Block, statement_of-While, statement_of-Repeat, statement_of-For, arm_of-made, statement_of-Choice}
use Rattle.zpl_parse.specs.declared.classes.Start.TheVariants as start
use Rattle.zpl_parse.specs.Classes.{begins_stmt, start_of}
use Rattle.zpl_parse.specs.Following.{IsFaultOf}
use Rattle.zpl_grammar.specs.Lexeme.{lexemes_of, head_kind, head_at, behind}
use Rattle.zpl_parse.specs.Outcome.{Done, and_then, made}
use Rattle.zpl_parse.specs.Tokens.{next_is}
use Rattle.zpl_parse.specs.Statements.{stmt, stmts, body_end, while_loop, repeat_loop, for_loop}
use Rattle.zpl_tree.specs.View.{else_of}
use Rattle.zpl_parse.specs.Whole.{any_expr}
use Rattle.zpl_parse.proofs.Follows.{passed, fault_then, fault_made}
use Rattle.zpl_parse.proofs.Loops.{gathered_none, gathered_more, gathered_done, gathered_last, gathered_fault}
use Rattle.zpl_parse.proofs.Lists.{stmts-prepended, arms-prepended}
use Rattle.zpl_parse.proofs.StatementBase.{stmts_goes, stmts_ends, arms_go, arms_end, arm_body, choice_arms, choice_otherwise, otherwise_goes, while_do, repeat_until, for_do, stmt_deeper, stmt_form, started, follows_same}
use Rattle.zpl_parse.proofs.statements.+statement.Goals as goal

-- ---- statements in a row
pub stmts-loop-alloc-init : goal.stmts-loop-alloc-init
stmts-loop-alloc-init t c = record {
  within = omega arith;
  gathered = λ few most enough much. rw c.new-stmts.ensures.items (gathered_none _ _ few _ _ enough);
}

pub stmts-returns-in_err-next-clause-follows : goal.stmts-returns-in_err-next-clause-follows
stmts-returns-in_err-next-clause-follows t c = λ few most enough much.
    let text = c.args.bytes.now in
    let left = lexemes_of text c.loop-alloc.rest.now in
    let is : c.begins_statement.result ≡ true = search rules in
    let goes : begins_stmt (head_kind left) ≡ true = ap begins_stmt (sym (c.first_kind.ensures text)) ∙ sym c.begins_statement.ensures ∙ is in
    let short : length c.loop-alloc.rest.now < few = omega (arith, c.loop-alloc.invariant.within) in
    let shorter : length c.loop-alloc.rest.now < most = omega (arith, c.loop-alloc.invariant.within) in
    passed _ _ _ _ c.from_residual.ensures.1
    (gathered_fault _ _ few _ _ _ _ _ (c.loop-alloc.invariant.gathered few most enough much)
    (λ less fits.
    subst (IsFaultOf c.in_err-next.field-0.0) (sym (stmts_goes less (stmt few (any_expr most) c.args.deep) left goes))
    (fault_then _ _ _ ((c.in_err-next.ensures {u = tt}).follows few most short shorter))))

pub stmts-loop-alloc-preserved : goal.stmts-loop-alloc-preserved
stmts-loop-alloc-preserved t c =
    let text = c.args.bytes.now in
    let left = lexemes_of text c.loop-alloc.rest.now in
    let pushed = chosen _ _ _ _ c.push.ensures.items (ap is_ok c.in_ok-push.was) in
    let is : c.begins_statement.result ≡ true = search rules in
    let goes : begins_stmt (head_kind left) ≡ true = ap begins_stmt (sym (c.first_kind.ensures text)) ∙ sym c.begins_statement.ensures ∙ is in
    let fewer = c.in_ok-next.ensures.shorter in
    record {
      within = omega (arith, c.loop-alloc.invariant.within, fewer);
      gathered = λ few most enough much.
          let short : length c.loop-alloc.rest.now < few = omega (arith, c.loop-alloc.invariant.within) in
          let shorter : length c.loop-alloc.rest.now < most = omega (arith, c.loop-alloc.invariant.within) in
          let one = stmt few (any_expr most) c.args.deep in
          rw pushed
          (gathered_more _ _ few _ _ _ _ c.in_ok-next.next _ _ (c.loop-alloc.invariant.gathered few most enough much) fewer
          (λ less fits. stmts_goes less one left goes
          ∙ ap (λ o. and_then o (λ first rest. made (ThenStmt first) (stmts less one rest))) (c.in_ok-next.ensures.follows few most short shorter)));
    }

pub stmts-returns-clause-follows : goal.stmts-returns-clause-follows
stmts-returns-clause-follows t c = λ few most enough much.
    let text = c.args.bytes.now in
    let left = lexemes_of text c.loop-alloc.rest.now in
    let not : c.begins_statement.result ≡ false = search rules in
    let ends : begins_stmt (head_kind left) ≡ false = ap begins_stmt (sym (c.first_kind.ensures text)) ∙ sym c.begins_statement.ensures ∙ not in
    rw (c.in_ok-stmts.ensures {u = tt}, c.as_slice.ensures.value, stmts-prepended)
    (gathered_done _ _ few _ _ _ _ NoStmt _ (c.loop-alloc.invariant.gathered few most enough much)
    (λ less fits. stmts_ends less (stmt few (any_expr most) c.args.deep) left ends))

-- ---- arms of an `if`
pub arm-returns-in_err-body-clause-follows : goal.arm-returns-in_err-body-clause-follows
arm-returns-in_err-body-clause-follows t c = λ few most enough much.
    let text = c.args.bytes.now in
    let tokens = lexemes_of text c.args.tokens.now in
    let body = stmts few (stmt few (any_expr most) c.args.deep) in
    let inside : length c.behind.result.now < most = omega (arith, c.behind.ensures.shorter) in
    let test = ap (any_expr most) (sym (c.behind.ensures.rest text)) ∙ c.in_ok-test.ensures.follows most inside in
    let less : length c.in_ok-rest.rest.now < few = omega (arith, c.behind.ensures.shorter, c.in_ok-test.ensures.shorter, c.in_ok-rest.ensures.shorter) in
    let short : length c.in_ok-rest.rest.now < most = omega (arith, c.behind.ensures.shorter, c.in_ok-test.ensures.shorter, c.in_ok-rest.ensures.shorter) in
    passed _ _ _ _ c.from_residual-in_err-body.ensures.1
    (subst (IsFaultOf c.in_err-body.field-0.0) (sym (arm_body (any_expr most) body (head_at tokens) (behind tokens) (lexemes_of text c.in_ok-test.rest.now) (lexemes_of text c.in_ok-rest.rest.now) (expr_of c.in_ok-test.test.now) _ test (c.in_ok-rest.ensures.follows text)))
    (fault_made _ _ _ ((c.in_err-body.ensures {u = tt}).follows few most less short)))

pub arm-returns-clause-follows : goal.arm-returns-clause-follows
arm-returns-clause-follows t c = λ few most enough much.
    let text = c.args.bytes.now in
    let tokens = lexemes_of text c.args.tokens.now in
    let body = stmts few (stmt few (any_expr most) c.args.deep) in
    let inside : length c.behind.result.now < most = omega (arith, c.behind.ensures.shorter) in
    let test = ap (any_expr most) (sym (c.behind.ensures.rest text)) ∙ c.in_ok-test.ensures.follows most inside in
    let less : length c.in_ok-rest.rest.now < few = omega (arith, c.behind.ensures.shorter, c.in_ok-test.ensures.shorter, c.in_ok-rest.ensures.shorter) in
    let short : length c.in_ok-rest.rest.now < most = omega (arith, c.behind.ensures.shorter, c.in_ok-test.ensures.shorter, c.in_ok-rest.ensures.shorter) in
    let tested = expr_of c.in_ok-test.test.now in
    let those = stmts_of c.in_ok-body.body.now in
    let last = lexemes_of text c.in_ok-body.rest.now in
    arm_body (any_expr most) body (head_at tokens) (behind tokens) (lexemes_of text c.in_ok-test.rest.now) (lexemes_of text c.in_ok-rest.rest.now) tested _ test (c.in_ok-rest.ensures.follows text)
    ∙ ap (made (Tested (head_at tokens) tested)) (c.in_ok-body.ensures.follows few most less short)
    ∙ ap (λ at. Done (Tested at tested those) last) (sym (c.offset-at.ensures text))
    ∙ ap (λ arm. Done arm last) (sym (arm_of-made c.offset-at.result c.in_ok-test.test c.in_ok-body.body))

pub arms-loop-arms-init : goal.arms-loop-arms-init
arms-loop-arms-init t c = record {
  within = omega arith;
  gathered = λ few most enough much. rw c.new-arms.ensures.items (gathered_none _ _ few _ _ enough);
}

pub arms-returns-in_err-next-clause-follows : goal.arms-returns-in_err-next-clause-follows
arms-returns-in_err-next-clause-follows t c = λ few most enough much.
    let less : length c.loop-arms.rest.now < few = omega (arith, c.loop-arms.invariant.within) in
    let short : length c.loop-arms.rest.now < most = omega (arith, c.loop-arms.invariant.within) in
    passed _ _ _ _ c.from_residual.ensures.1
    (gathered_fault _ _ few _ _ _ _ _ (c.loop-arms.invariant.gathered few most enough much)
    (λ fuel fits. fault_then _ _ _ ((c.in_err-next.ensures {u = tt}).follows few most less short)))

pub arms-returns-then-not-begins_with-clause-follows : goal.arms-returns-then-not-begins_with-clause-follows
arms-returns-then-not-begins_with-clause-follows t c = λ few most enough much.
    let text = c.args.bytes.now in
    let left = lexemes_of text c.loop-arms.rest.now in
    let after = lexemes_of text c.in_ok-next.after.now in
    let pushed = chosen _ _ _ _ c.push.ensures.items (ap is_ok c.in_ok-push.was) in
    let body = stmts few (stmt few (any_expr most) c.args.deep) in
    let less : length c.loop-arms.rest.now < few = omega (arith, c.loop-arms.invariant.within) in
    let short : length c.loop-arms.rest.now < most = omega (arith, c.loop-arms.invariant.within) in
    let not : c.begins_with.result ≡ false = search rules in
    let ends : next_is (kind.Word key.Elsif) after ≡ false = sym (c.begins_with.ensures.is text) ∙ not in
    rw (c.in_ok-arms.ensures {u = tt}, c.as_slice.ensures.value, pushed, arms-prepended)
    (gathered_last _ _ few _ _ _ _ c.in_ok-next.next NoArm _ (c.loop-arms.invariant.gathered few most enough much)
    (λ fuel fits. arms_end fuel (any_expr most) body (head_at left) (behind left) after (arm_of c.in_ok-next.next) (c.in_ok-next.ensures.follows few most less short) ends))

pub arms-loop-arms-preserved : goal.arms-loop-arms-preserved
arms-loop-arms-preserved t c =
    let text = c.args.bytes.now in
    let left = lexemes_of text c.loop-arms.rest.now in
    let after = lexemes_of text c.in_ok-next.after.now in
    let pushed = chosen _ _ _ _ c.push.ensures.items (ap is_ok c.in_ok-push.was) in
    let is : c.begins_with.result ≡ true = search rules in
    let goes : next_is (kind.Word key.Elsif) after ≡ true = sym (c.begins_with.ensures.is text) ∙ is in
    let fewer = c.in_ok-next.ensures.shorter in
    record {
      within = omega (arith, c.loop-arms.invariant.within, fewer);
      gathered = λ few most enough much.
          let body = stmts few (stmt few (any_expr most) c.args.deep) in
          let less : length c.loop-arms.rest.now < few = omega (arith, c.loop-arms.invariant.within) in
          let short : length c.loop-arms.rest.now < most = omega (arith, c.loop-arms.invariant.within) in
          rw pushed
          (gathered_more _ _ few _ _ _ _ c.in_ok-next.next _ _ (c.loop-arms.invariant.gathered few most enough much) fewer
          (λ fuel fits. arms_go fuel (any_expr most) body (head_at left) (behind left) after (arm_of c.in_ok-next.next) (c.in_ok-next.ensures.follows few most less short) goes));
    }

-- ---- an `if`
pub choice-returns-in_err-otherwise-clause-follows : goal.choice-returns-in_err-otherwise-clause-follows
choice-returns-in_err-otherwise-clause-follows t c = λ few most enough much.
    let text = c.args.bytes.now in
    let tokens = lexemes_of text c.args.tokens.now in
    let body = stmts few (stmt few (any_expr most) c.args.deep) in
    let less : length c.in_ok-arms.rest.now < few = omega (arith, c.in_ok-arms.ensures.shorter) in
    let short : length c.in_ok-arms.rest.now < most = omega (arith, c.in_ok-arms.ensures.shorter) in
    passed _ _ _ _ c.from_residual-in_err-otherwise.ensures.1
    (subst (IsFaultOf c.in_err-otherwise.field-0.0) (sym (choice_arms few (any_expr most) body (head_at tokens) (behind tokens) (lexemes_of text c.in_ok-arms.rest.now) (arms_of c.in_ok-arms.arms.now) (c.in_ok-arms.ensures.follows few most enough much)))
    (fault_then _ _ _ ((c.in_err-otherwise.ensures {u = tt}).follows few most less short)))

pub choice-returns-in_err-rest-clause-follows : goal.choice-returns-in_err-rest-clause-follows
choice-returns-in_err-rest-clause-follows t c = λ few most enough much.
    let text = c.args.bytes.now in
    let tokens = lexemes_of text c.args.tokens.now in
    let body = stmts few (stmt few (any_expr most) c.args.deep) in
    let less : length c.in_ok-arms.rest.now < few = omega (arith, c.in_ok-arms.ensures.shorter) in
    let short : length c.in_ok-arms.rest.now < most = omega (arith, c.in_ok-arms.ensures.shorter) in
    passed _ _ _ _ c.from_residual-in_err-rest.ensures.1
    (subst (IsFaultOf c.in_err-rest.field-0.0) (sym (choice_otherwise few (any_expr most) body (head_at tokens) (behind tokens) (lexemes_of text c.in_ok-arms.rest.now) (lexemes_of text c.in_ok-otherwise.rest.now) (arms_of c.in_ok-arms.arms.now) (else_of c.in_ok-otherwise.otherwise) (c.in_ok-arms.ensures.follows few most enough much) (c.in_ok-otherwise.ensures.follows few most less short)))
    (fault_made _ _ _ ((c.in_err-rest.ensures {u = tt}).follows text)))

pub choice-returns-clause-follows : goal.choice-returns-clause-follows
choice-returns-clause-follows t c = λ few most enough much.
    let text = c.args.bytes.now in
    let tokens = lexemes_of text c.args.tokens.now in
    let body = stmts few (stmt few (any_expr most) c.args.deep) in
    let less : length c.in_ok-arms.rest.now < few = omega (arith, c.in_ok-arms.ensures.shorter) in
    let short : length c.in_ok-arms.rest.now < most = omega (arith, c.in_ok-arms.ensures.shorter) in
    let seen = If (arms_of c.in_ok-arms.arms.now) (else_of c.in_ok-otherwise.otherwise) in
    choice_otherwise few (any_expr most) body (head_at tokens) (behind tokens) (lexemes_of text c.in_ok-arms.rest.now) (lexemes_of text c.in_ok-otherwise.rest.now) (arms_of c.in_ok-arms.arms.now) (else_of c.in_ok-otherwise.otherwise) (c.in_ok-arms.ensures.follows few most enough much) (c.in_ok-otherwise.ensures.follows few most less short)
    ∙ ap (made (λ end. seen)) (c.in_ok-rest.ensures.follows text)
    ∙ ap (λ form. Done form (lexemes_of text c.in_ok-rest.rest.now)) (sym (statement_of-Choice c.in_ok-arms.arms c.in_ok-otherwise.otherwise))

pub otherwise-returns-in_err-body-clause-follows : goal.otherwise-returns-in_err-body-clause-follows
otherwise-returns-in_err-body-clause-follows t c = λ few most enough much.
    let text = c.args.bytes.now in
    let tokens = lexemes_of text c.args.tokens.now in
    let body = stmts few (stmt few (any_expr most) c.args.deep) in
    let is : c.begins_with.result ≡ true = search rules in
    let goes : next_is (kind.Word key.Else) tokens ≡ true = sym (c.begins_with.ensures.is text) ∙ is in
    let less : length c.behind.result.now < few = omega (arith, c.behind.ensures.shorter) in
    let short : length c.behind.result.now < most = omega (arith, c.behind.ensures.shorter) in
    let whole = otherwise_goes body tokens goes ∙ ap (λ l. made Else (body l)) (sym (c.behind.ensures.rest text)) in
    passed _ _ _ _ c.from_residual.ensures.1
    (subst (IsFaultOf c.in_err-body.field-0.0) (sym whole) (fault_made _ _ _ ((c.in_err-body.ensures {u = tt}).follows few most less short)))

pub otherwise-returns-clause-follows : goal.otherwise-returns-clause-follows
otherwise-returns-clause-follows t c = λ few most enough much.
    let text = c.args.bytes.now in
    let tokens = lexemes_of text c.args.tokens.now in
    let body = stmts few (stmt few (any_expr most) c.args.deep) in
    let is : c.begins_with.result ≡ true = search rules in
    let goes : next_is (kind.Word key.Else) tokens ≡ true = sym (c.begins_with.ensures.is text) ∙ is in
    let less : length c.behind.result.now < few = omega (arith, c.behind.ensures.shorter) in
    let short : length c.behind.result.now < most = omega (arith, c.behind.ensures.shorter) in
    otherwise_goes body tokens goes ∙ ap (λ l. made Else (body l)) (sym (c.behind.ensures.rest text))
    ∙ ap (made Else) (c.in_ok-body.ensures.follows few most less short)

-- ---- loops
pub while_loop-returns-in_err-body-clause-follows : goal.while_loop-returns-in_err-body-clause-follows
while_loop-returns-in_err-body-clause-follows t c = λ few most enough much.
    let text = c.args.bytes.now in
    let body = stmts few (stmt few (any_expr most) c.args.deep) in
    let less : length c.in_ok-rest.rest.now < few = omega (arith, c.in_ok-test.ensures.shorter, c.in_ok-rest.ensures.shorter) in
    let short : length c.in_ok-rest.rest.now < most = omega (arith, c.in_ok-test.ensures.shorter, c.in_ok-rest.ensures.shorter) in
    passed _ _ _ _ c.from_residual-in_err-body.ensures.1
    (subst (IsFaultOf c.in_err-body.field-0.0) (sym (while_do (any_expr most) body (lexemes_of text c.args.tokens.now) (lexemes_of text c.in_ok-test.rest.now) (lexemes_of text c.in_ok-rest.rest.now) (expr_of c.in_ok-test.test.now) _ (c.in_ok-test.ensures.follows most much) (c.in_ok-rest.ensures.follows text)))
    (fault_made _ _ _ ((c.in_err-body.ensures {u = tt}).follows few most less short)))

pub while_loop-returns-clause-follows : goal.while_loop-returns-clause-follows
while_loop-returns-clause-follows t c = λ few most enough much.
    let text = c.args.bytes.now in
    let body = stmts few (stmt few (any_expr most) c.args.deep) in
    let less : length c.in_ok-rest.rest.now < few = omega (arith, c.in_ok-test.ensures.shorter, c.in_ok-rest.ensures.shorter) in
    let short : length c.in_ok-rest.rest.now < most = omega (arith, c.in_ok-test.ensures.shorter, c.in_ok-rest.ensures.shorter) in
    while_do (any_expr most) body (lexemes_of text c.args.tokens.now) (lexemes_of text c.in_ok-test.rest.now) (lexemes_of text c.in_ok-rest.rest.now) (expr_of c.in_ok-test.test.now) _ (c.in_ok-test.ensures.follows most much) (c.in_ok-rest.ensures.follows text)
    ∙ ap (made (While (expr_of c.in_ok-test.test.now))) (c.in_ok-body.ensures.follows few most less short)
    ∙ ap (λ form. Done form (lexemes_of text c.in_ok-body.rest.now)) (sym (statement_of-While c.in_ok-test.test c.in_ok-body.body))

pub repeat_loop-returns-clause-follows : goal.repeat_loop-returns-clause-follows
repeat_loop-returns-clause-follows t c = λ few most enough much.
    let text = c.args.bytes.now in
    let body = stmts few (stmt few (any_expr most) c.args.deep) in
    let short : length c.in_ok-until.rest.now < most = omega (arith, c.in_ok-body.ensures.shorter, c.in_ok-until.ensures.shorter) in
    let those = stmts_of c.in_ok-body.body.now in
    let tested = expr_of c.in_ok-test.test.now in
    repeat_until (any_expr most) body (lexemes_of text c.args.tokens.now) (lexemes_of text c.in_ok-body.rest.now) (lexemes_of text c.in_ok-until.rest.now) (lexemes_of text c.in_ok-test.rest.now) those c.in_ok-until.until tested (c.in_ok-body.ensures.follows few most enough much) (c.in_ok-until.ensures.follows text) (c.in_ok-test.ensures.follows most short)
    ∙ ap (made (λ end. Repeat those c.in_ok-until.until tested)) (c.in_ok-rest.ensures.follows text)
    ∙ ap (λ form. Done form (lexemes_of text c.in_ok-rest.rest.now)) (sym (statement_of-Repeat c.in_ok-body.body c.in_ok-until.until c.in_ok-test.test))

pub for_loop-returns-in_err-body-clause-follows : goal.for_loop-returns-in_err-body-clause-follows
for_loop-returns-in_err-body-clause-follows t c = λ few most enough much.
    let text = c.args.bytes.now in
    let body = stmts few (stmt few (any_expr most) c.args.deep) in
    let less : length c.in_ok-rest.rest.now < few = omega (arith, c.in_ok-head.ensures.shorter, c.in_ok-rest.ensures.shorter) in
    let short : length c.in_ok-rest.rest.now < most = omega (arith, c.in_ok-head.ensures.shorter, c.in_ok-rest.ensures.shorter) in
    passed _ _ _ _ c.from_residual-in_err-body.ensures.1
    (subst (IsFaultOf c.in_err-body.field-0.0) (sym (for_do (any_expr most) body (lexemes_of text c.args.tokens.now) (lexemes_of text c.in_ok-head.rest.now) (lexemes_of text c.in_ok-rest.rest.now) (head_of c.in_ok-head.head) _ (c.in_ok-head.ensures.follows most much) (c.in_ok-rest.ensures.follows text)))
    (fault_made _ _ _ ((c.in_err-body.ensures {u = tt}).follows few most less short)))

pub for_loop-returns-clause-follows : goal.for_loop-returns-clause-follows
for_loop-returns-clause-follows t c = λ few most enough much.
    let text = c.args.bytes.now in
    let body = stmts few (stmt few (any_expr most) c.args.deep) in
    let less : length c.in_ok-rest.rest.now < few = omega (arith, c.in_ok-head.ensures.shorter, c.in_ok-rest.ensures.shorter) in
    let short : length c.in_ok-rest.rest.now < most = omega (arith, c.in_ok-head.ensures.shorter, c.in_ok-rest.ensures.shorter) in
    let last = lexemes_of text c.in_ok-body.rest.now in
    for_do (any_expr most) body (lexemes_of text c.args.tokens.now) (lexemes_of text c.in_ok-head.rest.now) (lexemes_of text c.in_ok-rest.rest.now) (head_of c.in_ok-head.head) _ (c.in_ok-head.ensures.follows most much) (c.in_ok-rest.ensures.follows text)
    ∙ ap (made (For (head_of c.in_ok-head.head))) (c.in_ok-body.ensures.follows few most less short)
    ∙ ap (λ head. Done (For (head_of head) (stmts_of c.in_ok-body.body.now)) last) (sym (c.in_ok-head-2.ensures))
    ∙ ap (λ form. Done form last) (sym (statement_of-For c.in_ok-head-2.head c.in_ok-body.body))

-- ---- one statement
pub stmt-returns-in_err-prefixes-clause-follows : goal.stmt-returns-in_err-prefixes-clause-follows
stmt-returns-in_err-prefixes-clause-follows t c = λ few most enough much.
    let text = c.args.bytes.now in
    let tokens = lexemes_of text c.args.tokens.now in
    let deep : 0 < c.args.deep = omega arith in
    passed _ _ _ _ c.from_residual.ensures.1
    (subst (IsFaultOf c.in_err-prefixes.field-0.0) (sym (stmt_deeper few (any_expr most) c.args.deep tokens deep))
    (fault_then _ _ _ ((c.in_err-prefixes.ensures {u = tt}).follows few most enough much)))

pub stmt-returns-in_err-form-clause-follows : goal.stmt-returns-in_err-form-clause-follows
stmt-returns-in_err-form-clause-follows t c = λ few most enough much.
    let text = c.args.bytes.now in
    let tokens = lexemes_of text c.args.tokens.now in
    let rest = lexemes_of text c.in_ok-prefixes.rest.now in
    let deep : 0 < c.args.deep = omega arith in
    let body = stmts few (stmt few (any_expr most) (c.args.deep - 1)) in
    let less : length c.in_ok-prefixes.rest.now < few = omega (arith, c.in_ok-prefixes.ensures.shorter) in
    let short : length c.in_ok-prefixes.rest.now < most = omega (arith, c.in_ok-prefixes.ensures.shorter) in
    let whole = stmt_deeper few (any_expr most) c.args.deep tokens deep
    ∙ stmt_form few (any_expr most) body tokens rest (map prefix_of c.in_ok-prefixes.prefixes.now) (c.in_ok-prefixes.ensures.follows few most enough much) in
    passed _ _ _ _ c.from_residual-in_err-form.ensures.1
    (subst (IsFaultOf c.in_err-form.field-0.0) (sym whole)
    (fault_made _ _ _ ((c.in_err-form.ensures {u = tt}).follows few most less short)))

pub stmt-returns-clause-follows : goal.stmt-returns-clause-follows
stmt-returns-clause-follows t c = λ few most enough much.
    let text = c.args.bytes.now in
    let tokens = lexemes_of text c.args.tokens.now in
    let rest = lexemes_of text c.in_ok-prefixes.rest.now in
    let deep : 0 < c.args.deep = omega arith in
    let body = stmts few (stmt few (any_expr most) (c.args.deep - 1)) in
    let before = map prefix_of c.in_ok-prefixes.prefixes.now in
    let less : length c.in_ok-prefixes.rest.now < few = omega (arith, c.in_ok-prefixes.ensures.shorter) in
    let short : length c.in_ok-prefixes.rest.now < most = omega (arith, c.in_ok-prefixes.ensures.shorter) in
    stmt_deeper few (any_expr most) c.args.deep tokens deep
    ∙ stmt_form few (any_expr most) body tokens rest before (c.in_ok-prefixes.ensures.follows few most enough much)
    ∙ ap (made (Prefixed (head_at rest) before)) (c.in_ok-form.ensures.follows few most less short)
    ∙ ap (λ at. Done (Prefixed at before (statement_of c.in_ok-form.form)) (lexemes_of text c.in_ok-form.rest.now)) (sym (c.offset-at.ensures text))

-- ---- a statement behind its prefixes
pub form-returns-in_err-body-in-Block-clause-follows : goal.form-returns-in_err-body-in-Block-clause-follows
form-returns-in_err-body-in-Block-clause-follows t c = λ few most enough much.
    let text = c.args.bytes.now in
    let tokens = lexemes_of text c.args.tokens.now in
    let body = stmts few (stmt few (any_expr most) c.args.deep) in
    let is : start_of (head_kind tokens) ≡ Some start.Block =
    ap start_of (sym (c.first_kind.ensures text)) ∙ sym c.started_by.ensures ∙ c.in-Some.is ∙ ap Some c.in-Block.is in
    let less : length c.behind-rest.result.now < few = omega (arith, c.behind-rest.ensures.shorter) in
    let short : length c.behind-rest.result.now < most = omega (arith, c.behind-rest.ensures.shorter) in
    let whole = started few (any_expr most) body tokens (Some start.Block) is ∙ ap (λ l. made Block (body_end body l)) (sym (c.behind-rest.ensures.rest text)) in
    passed _ _ _ _ c.from_residual.ensures.1
    (subst (IsFaultOf c.in_err-body-in-Block.field-0.0) (sym whole)
    (fault_made _ _ _ ((c.in_err-body-in-Block.ensures {u = tt}).follows few most less short)))

pub form-returns-in_ok-body-in-Block-clause-follows : goal.form-returns-in_ok-body-in-Block-clause-follows
form-returns-in_ok-body-in-Block-clause-follows t c = λ few most enough much.
    let text = c.args.bytes.now in
    let tokens = lexemes_of text c.args.tokens.now in
    let body = stmts few (stmt few (any_expr most) c.args.deep) in
    let is : start_of (head_kind tokens) ≡ Some start.Block =
    ap start_of (sym (c.first_kind.ensures text)) ∙ sym c.started_by.ensures ∙ c.in-Some.is ∙ ap Some c.in-Block.is in
    let less : length c.behind-rest.result.now < few = omega (arith, c.behind-rest.ensures.shorter) in
    let short : length c.behind-rest.result.now < most = omega (arith, c.behind-rest.ensures.shorter) in
    started few (any_expr most) body tokens (Some start.Block) is
    ∙ ap (λ l. made Block (body_end body l)) (sym (c.behind-rest.ensures.rest text))
    ∙ ap (made Block) (c.in_ok-body-in-Block.ensures.follows few most less short)
    ∙ ap (λ form. Done form (lexemes_of text c.in_ok-body-in-Block.rest.now)) (sym (statement_of-Block c.in_ok-body-in-Block.body))

pub form-returns-in-If-clause-follows : goal.form-returns-in-If-clause-follows
form-returns-in-If-clause-follows t c = λ few most enough much.
    let text = c.args.bytes.now in
    let tokens = lexemes_of text c.args.tokens.now in
    let body = stmts few (stmt few (any_expr most) c.args.deep) in
    let is : start_of (head_kind tokens) ≡ Some start.If =
    ap start_of (sym (c.first_kind.ensures text)) ∙ sym c.started_by.ensures ∙ c.in-Some.is ∙ ap Some c.in-If.is in
    follows_same _ _ _ _ (started few (any_expr most) body tokens (Some start.If) is) (c.choice.ensures.follows few most enough much)

pub form-returns-in-While-clause-follows : goal.form-returns-in-While-clause-follows
form-returns-in-While-clause-follows t c = λ few most enough much.
    let text = c.args.bytes.now in
    let tokens = lexemes_of text c.args.tokens.now in
    let body = stmts few (stmt few (any_expr most) c.args.deep) in
    let is : start_of (head_kind tokens) ≡ Some start.While =
    ap start_of (sym (c.first_kind.ensures text)) ∙ sym c.started_by.ensures ∙ c.in-Some.is ∙ ap Some c.in-While.is in
    let less : length c.behind-rest.result.now < few = omega (arith, c.behind-rest.ensures.shorter) in
    let short : length c.behind-rest.result.now < most = omega (arith, c.behind-rest.ensures.shorter) in
    let whole = started few (any_expr most) body tokens (Some start.While) is ∙ ap (while_loop (any_expr most) body) (sym (c.behind-rest.ensures.rest text)) in
    follows_same _ _ _ _ whole (c.while_loop.ensures.follows few most less short)

pub form-returns-in-Repeat-clause-follows : goal.form-returns-in-Repeat-clause-follows
form-returns-in-Repeat-clause-follows t c = λ few most enough much.
    let text = c.args.bytes.now in
    let tokens = lexemes_of text c.args.tokens.now in
    let body = stmts few (stmt few (any_expr most) c.args.deep) in
    let is : start_of (head_kind tokens) ≡ Some start.Repeat =
    ap start_of (sym (c.first_kind.ensures text)) ∙ sym c.started_by.ensures ∙ c.in-Some.is ∙ ap Some c.in-Repeat.is in
    let less : length c.behind-rest.result.now < few = omega (arith, c.behind-rest.ensures.shorter) in
    let short : length c.behind-rest.result.now < most = omega (arith, c.behind-rest.ensures.shorter) in
    let whole = started few (any_expr most) body tokens (Some start.Repeat) is ∙ ap (repeat_loop (any_expr most) body) (sym (c.behind-rest.ensures.rest text)) in
    follows_same _ _ _ _ whole (c.repeat_loop.ensures.follows few most less short)

pub form-returns-in-For-clause-follows : goal.form-returns-in-For-clause-follows
form-returns-in-For-clause-follows t c = λ few most enough much.
    let text = c.args.bytes.now in
    let tokens = lexemes_of text c.args.tokens.now in
    let body = stmts few (stmt few (any_expr most) c.args.deep) in
    let is : start_of (head_kind tokens) ≡ Some start.For =
    ap start_of (sym (c.first_kind.ensures text)) ∙ sym c.started_by.ensures ∙ c.in-Some.is ∙ ap Some c.in-For.is in
    let less : length c.behind-rest.result.now < few = omega (arith, c.behind-rest.ensures.shorter) in
    let short : length c.behind-rest.result.now < most = omega (arith, c.behind-rest.ensures.shorter) in
    let whole = started few (any_expr most) body tokens (Some start.For) is ∙ ap (for_loop (any_expr most) body) (sym (c.behind-rest.ensures.rest text)) in
    follows_same _ _ _ _ whole (c.for_loop.ensures.follows few most less short)
