use Rattle.std.proofs.Common.{◌≡◌, ◌<◌, length, arith}
use Rattle.zpl_tree.specs.View.{exprs_of}
use Rattle.zpl_parse.specs.Outcome.{Done}
use Rattle.zpl_parse.specs.Expressions.{components}
use Rattle.zpl_grammar.specs.Lexeme.{lexemes_of}
use Rattle.zpl_parse.specs.Whole.{any_expr}
use Rattle.zpl_parse.proofs.Follows.{passed, fault_then, fault_made}
use Rattle.zpl_parse.proofs.DeclarationSteps.{fault_next, done_next, done_made}
use Rattle.zpl_parse.proofs.declarations.direction.Goals as goal

pub returns-in_err-parts-clause-follows : goal.returns-in_err-parts-clause-follows
unfolding any_expr
returns-in_err-parts-clause-follows c = λ few most enough within.
    let text = c.args.bytes.now in
    let less : length c.in_ok-rest-2.rest.now < few = omega (arith, c.in_ok-name.ensures.shorter, c.in_ok-rest.ensures.shorter, c.in_ok-rest-2.ensures.shorter) in
    let much : length c.in_ok-rest-2.rest.now < most = omega (arith, c.in_ok-name.ensures.shorter, c.in_ok-rest.ensures.shorter, c.in_ok-rest-2.ensures.shorter) in
    passed _ _ _ _ c.from_residual-in_err-parts.ensures.1
    (fault_next _ _ _ _ _ c.in_ok-name.ensures.follows
    (fault_next _ _ _ _ _ (c.in_ok-rest.ensures.follows text)
    (fault_next _ _ _ _ _ (c.in_ok-rest-2.ensures.follows text)
    (fault_then _ _ _ ((c.in_err-parts.ensures {u = tt}).follows few most less much)))))

pub returns-in_err-rest-3-clause-follows : goal.returns-in_err-rest-3-clause-follows
unfolding any_expr
returns-in_err-rest-3-clause-follows c = λ few most enough within.
    let text = c.args.bytes.now in
    let less : length c.in_ok-rest-2.rest.now < few = omega (arith, c.in_ok-name.ensures.shorter, c.in_ok-rest.ensures.shorter, c.in_ok-rest-2.ensures.shorter) in
    let much : length c.in_ok-rest-2.rest.now < most = omega (arith, c.in_ok-name.ensures.shorter, c.in_ok-rest.ensures.shorter, c.in_ok-rest-2.ensures.shorter) in
    let parts : components few (any_expr most) (lexemes_of text c.in_ok-rest-2.rest.now) ≡ Done (exprs_of c.in_ok-parts.parts.now) (lexemes_of text c.in_ok-parts.rest.now) =
    c.in_ok-parts.ensures.follows few most less much in
    passed _ _ _ _ c.from_residual-in_err-rest-3.ensures.1
    (fault_next _ _ _ _ _ c.in_ok-name.ensures.follows
    (fault_next _ _ _ _ _ (c.in_ok-rest.ensures.follows text)
    (fault_next _ _ _ _ _ (c.in_ok-rest-2.ensures.follows text)
    (fault_next _ _ _ _ _ parts
    (fault_made _ _ _ ((c.in_err-rest-3.ensures {u = tt}).follows text))))))

pub returns-clause-follows : goal.returns-clause-follows
unfolding any_expr
returns-clause-follows c = λ few most enough within.
    let text = c.args.bytes.now in
    let less : length c.in_ok-rest-2.rest.now < few = omega (arith, c.in_ok-name.ensures.shorter, c.in_ok-rest.ensures.shorter, c.in_ok-rest-2.ensures.shorter) in
    let much : length c.in_ok-rest-2.rest.now < most = omega (arith, c.in_ok-name.ensures.shorter, c.in_ok-rest.ensures.shorter, c.in_ok-rest-2.ensures.shorter) in
    let parts : components few (any_expr most) (lexemes_of text c.in_ok-rest-2.rest.now) ≡ Done (exprs_of c.in_ok-parts.parts.now) (lexemes_of text c.in_ok-parts.rest.now) =
    c.in_ok-parts.ensures.follows few most less much in
    done_next _ _ _ _ _ c.in_ok-name.ensures.follows
    (done_next _ _ _ _ _ (c.in_ok-rest.ensures.follows text)
    (done_next _ _ _ _ _ (c.in_ok-rest-2.ensures.follows text)
    (done_next _ _ _ _ _ parts
    (done_made _ _ _ _ (c.in_ok-rest-3.ensures.follows text)))))
