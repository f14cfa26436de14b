use Rattle.std.proofs.Common.{◌≡◌, ◌<◌, length, ap, subst, sym, ◌∙◌, arith}
use Rattle.std.specs.Option.{option_map}
use Rattle.zpl_tree.specs.View.{inner_of, mask_of}
use Rattle.zpl_parse.specs.Following.{IsFaultOf}
use Rattle.zpl_parse.specs.Outcome.{Done, made}
use Rattle.zpl_parse.specs.Expressions.{inner}
use Rattle.zpl_grammar.specs.Lexeme.{lexemes_of}
use Rattle.zpl_parse.specs.Whole.{any_expr}
use Rattle.zpl_parse.proofs.Follows.{passed, fault_then, fault_made}
use Rattle.zpl_parse.proofs.StatementBase.{prefix_is, prefix_region, prefix_mask}
use Rattle.zpl_parse.proofs.statements.prefix.Goals as goal

pub returns-in_err-region-clause-follows : goal.returns-in_err-region-clause-follows
unfolding any_expr
returns-in_err-region-clause-follows c = λ few most enough within.
    let text = c.args.bytes.now in
    let less : length c.in_ok-at.rest.now < few = omega (arith, c.in_ok-at.ensures.shorter) in
    let much : length c.in_ok-at.rest.now < most = omega (arith, c.in_ok-at.ensures.shorter) in
    passed _ _ _ _ c.from_residual-in_err-region.ensures.1
    (subst (IsFaultOf c.in_err-region.field-0.0) (sym (prefix_is few (any_expr most) (lexemes_of text c.args.tokens.now) (lexemes_of text c.in_ok-at.rest.now) c.in_ok-at.at (c.in_ok-at.ensures.follows text)))
    (fault_then _ _ _ ((c.in_err-region.ensures {u = tt}).follows few most less much)))

pub returns-in_err-mask-clause-follows : goal.returns-in_err-mask-clause-follows
unfolding any_expr
returns-in_err-mask-clause-follows c = λ few most enough within.
    let text = c.args.bytes.now in
    let less : length c.in_ok-at.rest.now < few = omega (arith, c.in_ok-at.ensures.shorter) in
    let much : length c.in_ok-at.rest.now < most = omega (arith, c.in_ok-at.ensures.shorter) in
    let region : inner few (any_expr most) (lexemes_of text c.in_ok-at.rest.now) ≡ Done (inner_of c.in_ok-region.region) (lexemes_of text c.in_ok-region.rest.now) =
    c.in_ok-region.ensures.follows few most less much in
    passed _ _ _ _ c.from_residual-in_err-mask.ensures.1
    (subst (IsFaultOf c.in_err-mask.field-0.0) (sym (prefix_region few (any_expr most) (lexemes_of text c.args.tokens.now) (lexemes_of text c.in_ok-at.rest.now) (lexemes_of text c.in_ok-region.rest.now) c.in_ok-at.at (inner_of c.in_ok-region.region) (c.in_ok-at.ensures.follows text) region))
    (fault_then _ _ _ (c.in_err-mask.ensures {u = tt}).follows))

pub returns-in_err-rest-clause-follows : goal.returns-in_err-rest-clause-follows
unfolding any_expr
returns-in_err-rest-clause-follows c = λ few most enough within.
    let text = c.args.bytes.now in
    let less : length c.in_ok-at.rest.now < few = omega (arith, c.in_ok-at.ensures.shorter) in
    let much : length c.in_ok-at.rest.now < most = omega (arith, c.in_ok-at.ensures.shorter) in
    let region : inner few (any_expr most) (lexemes_of text c.in_ok-at.rest.now) ≡ Done (inner_of c.in_ok-region.region) (lexemes_of text c.in_ok-region.rest.now) =
    c.in_ok-region.ensures.follows few most less much in
    passed _ _ _ _ c.from_residual-in_err-rest.ensures.1
    (subst (IsFaultOf c.in_err-rest.field-0.0) (sym (prefix_mask few (any_expr most) (lexemes_of text c.args.tokens.now) (lexemes_of text c.in_ok-at.rest.now) (lexemes_of text c.in_ok-region.rest.now) (lexemes_of text c.in_ok-mask.rest.now) c.in_ok-at.at (inner_of c.in_ok-region.region) (option_map mask_of c.in_ok-mask.mask) (c.in_ok-at.ensures.follows text) region c.in_ok-mask.ensures.follows))
    (fault_made _ _ _ ((c.in_err-rest.ensures {u = tt}).follows text)))

pub returns-clause-follows : goal.returns-clause-follows
unfolding any_expr
returns-clause-follows c = λ few most enough within.
    let text = c.args.bytes.now in
    let less : length c.in_ok-at.rest.now < few = omega (arith, c.in_ok-at.ensures.shorter) in
    let much : length c.in_ok-at.rest.now < most = omega (arith, c.in_ok-at.ensures.shorter) in
    let region : inner few (any_expr most) (lexemes_of text c.in_ok-at.rest.now) ≡ Done (inner_of c.in_ok-region.region) (lexemes_of text c.in_ok-region.rest.now) =
    c.in_ok-region.ensures.follows few most less much in
    prefix_mask few (any_expr most) (lexemes_of text c.args.tokens.now) (lexemes_of text c.in_ok-at.rest.now) (lexemes_of text c.in_ok-region.rest.now) (lexemes_of text c.in_ok-mask.rest.now) c.in_ok-at.at (inner_of c.in_ok-region.region) (option_map mask_of c.in_ok-mask.mask) (c.in_ok-at.ensures.follows text) region c.in_ok-mask.ensures.follows
    ∙ ap (made (λ end. record { at = c.in_ok-at.at; region = inner_of c.in_ok-region.region; mask = option_map mask_of c.in_ok-mask.mask })) (c.in_ok-rest.ensures.follows text)
