use Rattle.std.proofs.Common.{◌≡◌, ◌<◌, length, ap, subst, sym, ◌∙◌, arith}
use Rattle.zpl_tree.specs.View.{exprs_of, name_of}
use Rattle.zpl_tree.specs.Syntax.{Invoke}
use Rattle.zpl_parse.specs.Following.{IsFaultOf}
use Rattle.zpl_parse.specs.Outcome.{Done, made}
use Rattle.zpl_parse.specs.Expressions.{actuals}
use Rattle.zpl_grammar.specs.Lexeme.{lexemes_of}
use Rattle.zpl_parse.specs.Whole.{any_expr}
use Rattle.zpl_parse.proofs.Follows.{passed, fault_then, fault_made}
use Rattle.zpl_parse.proofs.StatementBase.{call_is}
use Rattle.zpl_parse.proofs.statements.invocation.Goals as goal

pub returns-in_err-those-clause-follows : goal.returns-in_err-those-clause-follows
unfolding any_expr
returns-in_err-those-clause-follows c = λ few most enough within none.
    let text = c.args.bytes.now in
    let opened = c.in_ok-rest.ensures.follows text in
    let less : length c.in_ok-rest.rest.now < few = omega (arith, c.in_ok-rest.ensures.shorter) in
    let much : length c.in_ok-rest.rest.now < most = omega (arith, c.in_ok-rest.ensures.shorter) in
    passed _ _ _ _ c.from_residual-in_err-those.ensures.1
    (subst (IsFaultOf c.in_err-those.field-0.0) (sym (call_is few (any_expr most) (name_of c.args.target) (lexemes_of text c.args.tokens.now) (lexemes_of text c.in_ok-rest.rest.now) _ none opened))
    (fault_then _ _ _ ((c.in_err-those.ensures {u = tt}).follows few most less much)))

pub returns-in_err-rest-2-clause-follows : goal.returns-in_err-rest-2-clause-follows
unfolding any_expr
returns-in_err-rest-2-clause-follows c = λ few most enough within none.
    let text = c.args.bytes.now in
    let opened = c.in_ok-rest.ensures.follows text in
    let less : length c.in_ok-rest.rest.now < few = omega (arith, c.in_ok-rest.ensures.shorter) in
    let much : length c.in_ok-rest.rest.now < most = omega (arith, c.in_ok-rest.ensures.shorter) in
    let those : actuals few (any_expr most) (lexemes_of text c.in_ok-rest.rest.now) ≡ Done (exprs_of c.in_ok-those.those.now) (lexemes_of text c.in_ok-those.rest.now) =
    c.in_ok-those.ensures.follows few most less much in
    passed _ _ _ _ c.from_residual-in_err-rest-2.ensures.1
    (subst (IsFaultOf c.in_err-rest-2.field-0.0) (sym (call_is few (any_expr most) (name_of c.args.target) (lexemes_of text c.args.tokens.now) (lexemes_of text c.in_ok-rest.rest.now) _ none opened))
    (rw those (fault_made _ _ _ ((c.in_err-rest-2.ensures {u = tt}).follows text))))

pub returns-clause-follows : goal.returns-clause-follows
unfolding any_expr
returns-clause-follows c = λ few most enough within none.
    let text = c.args.bytes.now in
    let opened = c.in_ok-rest.ensures.follows text in
    let less : length c.in_ok-rest.rest.now < few = omega (arith, c.in_ok-rest.ensures.shorter) in
    let much : length c.in_ok-rest.rest.now < most = omega (arith, c.in_ok-rest.ensures.shorter) in
    let those : actuals few (any_expr most) (lexemes_of text c.in_ok-rest.rest.now) ≡ Done (exprs_of c.in_ok-those.those.now) (lexemes_of text c.in_ok-those.rest.now) =
    c.in_ok-those.ensures.follows few most less much in
    call_is few (any_expr most) (name_of c.args.target) (lexemes_of text c.args.tokens.now) (lexemes_of text c.in_ok-rest.rest.now) _ none opened
    ∙ rw those (ap (made (λ end. Invoke (name_of c.args.target) (exprs_of c.in_ok-those.those.now))) (c.in_ok-rest-2.ensures.follows text))
