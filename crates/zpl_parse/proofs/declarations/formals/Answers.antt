use Rattle.std.proofs.Common.{◌≡◌, ◌<◌, suc, length, map, sym, ◌∙◌, subst, arith}
use Rattle.zpl_tree.specs.View.{name_of, bracket_of}
use Rattle.zpl_parse.specs.Following.{IsFaultOf}
use Rattle.zpl_parse.specs.Outcome.{Done}
use Rattle.zpl_parse.specs.Expressions.{bracket}
use Rattle.zpl_grammar.specs.Lexeme.{lexemes_of}
use Rattle.zpl_parse.specs.Tokens.{names}
use Rattle.zpl_parse.specs.Whole.{any_expr}
use Rattle.zpl_parse.proofs.Follows.{passed, fault_then, fault_made}
use Rattle.zpl_parse.proofs.DeclarationSteps.{fault_next, done_next, done_made, names_few}
use Rattle.zpl_parse.proofs.declarations.formals.Goals as goal

pub returns-in_err-names-clause-follows : goal.returns-in_err-names-clause-follows
unfolding any_expr
returns-in_err-names-clause-follows c = λ few most enough within.
    let text = c.args.bytes.now in
    passed _ _ _ _ c.from_residual.ensures.1
    (fault_then _ _ _ (subst (IsFaultOf c.in_err-names.field-0.0) (names_few text c.args.tokens.now few enough) ((c.in_err-names.ensures {u = tt}).follows (suc few) (omega arith))))

pub returns-in_err-rest-clause-follows : goal.returns-in_err-rest-clause-follows
unfolding any_expr
returns-in_err-rest-clause-follows c = λ few most enough within.
    let text = c.args.bytes.now in
    let those : names few (lexemes_of text c.args.tokens.now) ≡ Done (map name_of c.in_ok-names.names.now) (lexemes_of text c.in_ok-names.rest.now) =
    sym (names_few text c.args.tokens.now few enough) ∙ c.in_ok-names.ensures.follows (suc few) (omega arith) in
    passed _ _ _ _ c.from_residual-in_err-rest.ensures.1
    (fault_next _ _ _ _ _ those
    (fault_then _ _ _ ((c.in_err-rest.ensures {u = tt}).follows text)))

pub returns-in_err-shape-clause-follows : goal.returns-in_err-shape-clause-follows
unfolding any_expr
returns-in_err-shape-clause-follows c = λ few most enough within.
    let text = c.args.bytes.now in
    let less : length c.in_ok-rest.rest.now < few = omega (arith, c.in_ok-names.ensures.shorter, c.in_ok-rest.ensures.shorter) in
    let much : length c.in_ok-rest.rest.now < most = omega (arith, c.in_ok-names.ensures.shorter, c.in_ok-rest.ensures.shorter) in
    let those : names few (lexemes_of text c.args.tokens.now) ≡ Done (map name_of c.in_ok-names.names.now) (lexemes_of text c.in_ok-names.rest.now) =
    sym (names_few text c.args.tokens.now few enough) ∙ c.in_ok-names.ensures.follows (suc few) (omega arith) in
    passed _ _ _ _ c.from_residual-in_err-shape.ensures.1
    (fault_next _ _ _ _ _ those
    (fault_next _ _ _ _ _ (c.in_ok-rest.ensures.follows text)
    (fault_then _ _ _ ((c.in_err-shape.ensures {u = tt}).follows few most less much))))

pub returns-in_err-base-clause-follows : goal.returns-in_err-base-clause-follows
unfolding any_expr
returns-in_err-base-clause-follows c = λ few most enough within.
    let text = c.args.bytes.now in
    let less : length c.in_ok-rest.rest.now < few = omega (arith, c.in_ok-names.ensures.shorter, c.in_ok-rest.ensures.shorter) in
    let much : length c.in_ok-rest.rest.now < most = omega (arith, c.in_ok-names.ensures.shorter, c.in_ok-rest.ensures.shorter) in
    let those : names few (lexemes_of text c.args.tokens.now) ≡ Done (map name_of c.in_ok-names.names.now) (lexemes_of text c.in_ok-names.rest.now) =
    sym (names_few text c.args.tokens.now few enough) ∙ c.in_ok-names.ensures.follows (suc few) (omega arith) in
    let shape : bracket few (any_expr most) (lexemes_of text c.in_ok-rest.rest.now) ≡ Done (bracket_of c.in_ok-shape.shape) (lexemes_of text c.in_ok-shape.rest.now) =
    c.in_ok-shape.ensures.follows few most less much in
    passed _ _ _ _ c.from_residual-in_err-base.ensures.1
    (fault_next _ _ _ _ _ those
    (fault_next _ _ _ _ _ (c.in_ok-rest.ensures.follows text)
    (fault_next _ _ _ _ _ shape
    (fault_made _ _ _ (c.in_err-base.ensures {u = tt}).follows))))

pub returns-clause-follows : goal.returns-clause-follows
unfolding any_expr
returns-clause-follows c = λ few most enough within.
    let text = c.args.bytes.now in
    let less : length c.in_ok-rest.rest.now < few = omega (arith, c.in_ok-names.ensures.shorter, c.in_ok-rest.ensures.shorter) in
    let much : length c.in_ok-rest.rest.now < most = omega (arith, c.in_ok-names.ensures.shorter, c.in_ok-rest.ensures.shorter) in
    let those : names few (lexemes_of text c.args.tokens.now) ≡ Done (map name_of c.in_ok-names.names.now) (lexemes_of text c.in_ok-names.rest.now) =
    sym (names_few text c.args.tokens.now few enough) ∙ c.in_ok-names.ensures.follows (suc few) (omega arith) in
    let shape : bracket few (any_expr most) (lexemes_of text c.in_ok-rest.rest.now) ≡ Done (bracket_of c.in_ok-shape.shape) (lexemes_of text c.in_ok-shape.rest.now) =
    c.in_ok-shape.ensures.follows few most less much in
    (done_next _ _ _ _ _ those
    (done_next _ _ _ _ _ (c.in_ok-rest.ensures.follows text)
    (done_next _ _ _ _ _ shape
    (done_made _ _ _ _ c.in_ok-base.ensures.follows))))
