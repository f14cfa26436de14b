use Rattle.std.proofs.Common.{◌≡◌, ◌<◌, length, map, sym, ap, ◌∙◌, subst, arith}
use Rattle.zpl_tree.specs.Syntax.{Prefixed}
use Rattle.zpl_tree.specs.View.{prefix_of, stmts_of}
use Rattle.zpl_tree.proofs.Views.{statement_of-Block}
use Rattle.zpl_parse.specs.Following.{IsFaultOf}
use Rattle.zpl_parse.specs.Outcome.{Done}
use Rattle.zpl_grammar.specs.Lexeme.{lexemes_of}
use Rattle.zpl_parse.specs.Statements.{body_end, stmts, stmt}
use Rattle.zpl_parse.specs.Whole.{any_expr}
use Rattle.zpl_parse.proofs.Follows.{passed, fault_made}
use Rattle.zpl_parse.proofs.DeclarationSteps.{fault_next, done_next, done_made, nested_is}
use Rattle.zpl_parse.proofs.declarations.body.Goals as goal

pub returns-in_err-those-clause-follows : goal.returns-in_err-those-clause-follows
returns-in_err-those-clause-follows c = λ few most enough within.
    let text = c.args.bytes.now in
    let less : length c.in_ok-at.rest.now < few = omega (arith, c.in_ok-prefixes.ensures.shorter, c.in_ok-at.ensures.shorter) in
    let much : length c.in_ok-at.rest.now < most = omega (arith, c.in_ok-prefixes.ensures.shorter, c.in_ok-at.ensures.shorter) in
    passed _ _ _ _ c.from_residual-in_err-those.ensures.1
    (fault_next _ _ _ _ _ (c.in_ok-prefixes.ensures.follows few most enough within)
    (fault_next _ _ _ _ _ (c.in_ok-at.ensures.follows text)
    (fault_made _ _ _ (subst (λ n. IsFaultOf c.in_err-those.field-0.0 (body_end (stmts few (stmt few (any_expr most) n)) (lexemes_of text c.in_ok-at.rest.now))) nested_is
    ((c.in_err-those.ensures {u = tt}).follows few most less much)))))

pub returns-clause-follows : goal.returns-clause-follows
returns-clause-follows c = λ few most enough within.
    let text = c.args.bytes.now in
    let less : length c.in_ok-at.rest.now < few = omega (arith, c.in_ok-prefixes.ensures.shorter, c.in_ok-at.ensures.shorter) in
    let much : length c.in_ok-at.rest.now < most = omega (arith, c.in_ok-prefixes.ensures.shorter, c.in_ok-at.ensures.shorter) in
    done_next _ _ _ _ _ (c.in_ok-prefixes.ensures.follows few most enough within)
    (done_next _ _ _ _ _ (c.in_ok-at.ensures.follows text)
    (done_made _ _ _ _ (subst (λ n. body_end (stmts few (stmt few (any_expr most) n)) (lexemes_of text c.in_ok-at.rest.now) ≡ Done (stmts_of c.in_ok-those.those.now) (lexemes_of text c.in_ok-those.rest.now)) nested_is
    (c.in_ok-those.ensures.follows few most less much))
    ∙ ap (λ form. Done (Prefixed c.in_ok-at.at (map prefix_of c.in_ok-prefixes.prefixes.now) form) (lexemes_of text c.in_ok-those.rest.now)) (sym (statement_of-Block c.in_ok-those.those))))
