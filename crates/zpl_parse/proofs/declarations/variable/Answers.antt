use Rattle.std.proofs.Common.{◌≡◌, ◌<◌, length, arith}
use Rattle.zpl_tree.specs.View.{bracket_of}
use Rattle.zpl_parse.specs.Outcome.{Done}
use Rattle.zpl_parse.specs.Expressions.{bracket}
use Rattle.zpl_grammar.specs.Lexeme.{lexemes_of}
use Rattle.zpl_parse.specs.Whole.{any_expr}
use Rattle.zpl_parse.proofs.Follows.{passed, fault_then, fault_made}
use Rattle.zpl_parse.proofs.DeclarationSteps.{fault_next, done_next, done_made}
use Rattle.zpl_parse.proofs.declarations.variable.Goals as goal

pub returns-in_err-shape-clause-follows : goal.returns-in_err-shape-clause-follows
unfolding any_expr
returns-in_err-shape-clause-follows c = λ few most enough within.
    let text = c.args.bytes.now in
    let less : length c.in_ok-rest.rest.now < few = omega (arith, c.in_ok-names.ensures.shorter, c.in_ok-rest.ensures.shorter) in
    let much : length c.in_ok-rest.rest.now < most = omega (arith, c.in_ok-names.ensures.shorter, c.in_ok-rest.ensures.shorter) in
    passed _ _ _ _ c.from_residual-in_err-shape.ensures.1
    (fault_next _ _ _ _ _ (c.in_ok-names.ensures.follows few enough)
    (fault_next _ _ _ _ _ (c.in_ok-rest.ensures.follows text)
    (fault_then _ _ _ ((c.in_err-shape.ensures {u = tt}).follows few most less much))))

pub returns-in_err-base-clause-follows : goal.returns-in_err-base-clause-follows
unfolding any_expr
returns-in_err-base-clause-follows c = λ few most enough within.
    let text = c.args.bytes.now in
    let less : length c.in_ok-rest.rest.now < few = omega (arith, c.in_ok-names.ensures.shorter, c.in_ok-rest.ensures.shorter) in
    let much : length c.in_ok-rest.rest.now < most = omega (arith, c.in_ok-names.ensures.shorter, c.in_ok-rest.ensures.shorter) in
    let shape : bracket few (any_expr most) (lexemes_of text c.in_ok-rest.rest.now) ≡ Done (bracket_of c.in_ok-shape.shape) (lexemes_of text c.in_ok-shape.rest.now) =
    c.in_ok-shape.ensures.follows few most less much in
    passed _ _ _ _ c.from_residual-in_err-base.ensures.1
    (fault_next _ _ _ _ _ (c.in_ok-names.ensures.follows few enough)
    (fault_next _ _ _ _ _ (c.in_ok-rest.ensures.follows text)
    (fault_next _ _ _ _ _ shape
    (fault_then _ _ _ (c.in_err-base.ensures {u = tt}).follows))))

pub returns-in_err-rest-2-clause-follows : goal.returns-in_err-rest-2-clause-follows
unfolding any_expr
returns-in_err-rest-2-clause-follows c = λ few most enough within.
    let text = c.args.bytes.now in
    let less : length c.in_ok-rest.rest.now < few = omega (arith, c.in_ok-names.ensures.shorter, c.in_ok-rest.ensures.shorter) in
    let much : length c.in_ok-rest.rest.now < most = omega (arith, c.in_ok-names.ensures.shorter, c.in_ok-rest.ensures.shorter) in
    let shape : bracket few (any_expr most) (lexemes_of text c.in_ok-rest.rest.now) ≡ Done (bracket_of c.in_ok-shape.shape) (lexemes_of text c.in_ok-shape.rest.now) =
    c.in_ok-shape.ensures.follows few most less much in
    passed _ _ _ _ c.from_residual-in_err-rest-2.ensures.1
    (fault_next _ _ _ _ _ (c.in_ok-names.ensures.follows few enough)
    (fault_next _ _ _ _ _ (c.in_ok-rest.ensures.follows text)
    (fault_next _ _ _ _ _ shape
    (fault_next _ _ _ _ _ c.in_ok-base.ensures.follows
    (fault_made _ _ _ ((c.in_err-rest-2.ensures {u = tt}).follows text))))))

pub returns-clause-follows : goal.returns-clause-follows
unfolding any_expr
returns-clause-follows c = λ few most enough within.
    let text = c.args.bytes.now in
    let less : length c.in_ok-rest.rest.now < few = omega (arith, c.in_ok-names.ensures.shorter, c.in_ok-rest.ensures.shorter) in
    let much : length c.in_ok-rest.rest.now < most = omega (arith, c.in_ok-names.ensures.shorter, c.in_ok-rest.ensures.shorter) in
    let shape : bracket few (any_expr most) (lexemes_of text c.in_ok-rest.rest.now) ≡ Done (bracket_of c.in_ok-shape.shape) (lexemes_of text c.in_ok-shape.rest.now) =
    c.in_ok-shape.ensures.follows few most less much in
    (done_next _ _ _ _ _ (c.in_ok-names.ensures.follows few enough)
    (done_next _ _ _ _ _ (c.in_ok-rest.ensures.follows text)
    (done_next _ _ _ _ _ shape
    (done_next _ _ _ _ _ c.in_ok-base.ensures.follows
    (done_made _ _ _ _ (c.in_ok-rest-2.ensures.follows text))))))
