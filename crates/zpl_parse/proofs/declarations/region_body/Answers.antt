use Rattle.std.proofs.Common.{◌≡◌, ◌<◌, length, true, false, sym, ◌∙◌, arith, rules}
use Rattle.zpl_tokens.specs.declared.Kind.TheVariants as kind
use Rattle.zpl_tokens.specs.declared.symbols.Sym.TheVariants as symbols
use Rattle.zpl_tree.specs.View.{inner_of, posts_of}
use Rattle.zpl_parse.specs.Outcome.{Done}
use Rattle.zpl_parse.specs.Expressions.{in_bracket, posts, rexpr}
use Rattle.zpl_grammar.specs.Lexeme.{lexemes_of}
use Rattle.zpl_parse.specs.Tokens.{next_is}
use Rattle.zpl_parse.specs.Whole.{any_expr}
use Rattle.zpl_parse.proofs.Follows.{passed, fault_then, fault_made}
use Rattle.zpl_parse.proofs.DeclarationSteps.{fault_next, done_next, done_made}
use Rattle.zpl_parse.proofs.declarations.region_body.Goals as goal

pub returns-in_err-body-clause-follows : goal.returns-in_err-body-clause-follows
unfolding any_expr
returns-in_err-body-clause-follows c = λ few most enough within.
    let text = c.args.bytes.now in
    let is : c.begins_with.result ≡ false = search rules in
    let side : next_is (kind.Symbol symbols.OpenBracket) (lexemes_of text c.args.tokens.now) ≡ false = sym (c.begins_with.ensures.is text) ∙ is in
    passed _ _ _ _ c.from_residual.ensures.1
    (rw side (fault_made _ _ (rexpr few (any_expr most) (lexemes_of text c.args.tokens.now)) ((c.in_err-body.ensures {u = tt}).follows few most enough within)))

pub returns-then-not-begins_with-clause-follows : goal.returns-then-not-begins_with-clause-follows
unfolding any_expr
returns-then-not-begins_with-clause-follows c = λ few most enough within.
    let text = c.args.bytes.now in
    let is : c.begins_with.result ≡ false = search rules in
    let side : next_is (kind.Symbol symbols.OpenBracket) (lexemes_of text c.args.tokens.now) ≡ false = sym (c.begins_with.ensures.is text) ∙ is in
    let whole : rexpr few (any_expr most) (lexemes_of text c.args.tokens.now) ≡ Done (inner_of c.in_ok-body.body) (lexemes_of text c.in_ok-body.rest.now) =
    c.in_ok-body.ensures.follows few most enough within in
    rw side (done_made _ _ _ _ whole)

pub returns-in_err-body-2-clause-follows : goal.returns-in_err-body-2-clause-follows
unfolding any_expr
returns-in_err-body-2-clause-follows c = λ few most enough within.
    let text = c.args.bytes.now in
    let is : c.begins_with.result ≡ true = search rules in
    let side : next_is (kind.Symbol symbols.OpenBracket) (lexemes_of text c.args.tokens.now) ≡ true = sym (c.begins_with.ensures.is text) ∙ is in
    passed _ _ _ _ c.from_residual-in_err-body-2.ensures.1
    (rw side (fault_then _ (in_bracket few (any_expr most) (lexemes_of text c.args.tokens.now)) _ ((c.in_err-body-2.ensures {u = tt}).follows few most enough within)))

pub returns-in_err-posts-clause-follows : goal.returns-in_err-posts-clause-follows
unfolding any_expr
returns-in_err-posts-clause-follows c = λ few most enough within.
    let text = c.args.bytes.now in
    let is : c.begins_with.result ≡ true = search rules in
    let side : next_is (kind.Symbol symbols.OpenBracket) (lexemes_of text c.args.tokens.now) ≡ true = sym (c.begins_with.ensures.is text) ∙ is in
    let inside : in_bracket few (any_expr most) (lexemes_of text c.args.tokens.now) ≡ Done (inner_of c.in_ok-body-2.body) (lexemes_of text c.in_ok-body-2.rest.now) =
    c.in_ok-body-2.ensures.follows few most enough within in
    let less : length c.in_ok-body-2.rest.now < few = omega (arith, c.in_ok-body-2.ensures.shorter) in
    let much : length c.in_ok-body-2.rest.now < most = omega (arith, c.in_ok-body-2.ensures.shorter) in
    passed _ _ _ _ c.from_residual-in_err-posts.ensures.1
    (rw side (fault_next _ _ _ _ _ inside
    (fault_made _ _ (posts few (any_expr most) (lexemes_of text c.in_ok-body-2.rest.now)) ((c.in_err-posts.ensures {u = tt}).follows few most less much))))

pub returns-clause-follows : goal.returns-clause-follows
unfolding any_expr
returns-clause-follows c = λ few most enough within.
    let text = c.args.bytes.now in
    let is : c.begins_with.result ≡ true = search rules in
    let side : next_is (kind.Symbol symbols.OpenBracket) (lexemes_of text c.args.tokens.now) ≡ true = sym (c.begins_with.ensures.is text) ∙ is in
    let inside : in_bracket few (any_expr most) (lexemes_of text c.args.tokens.now) ≡ Done (inner_of c.in_ok-body-2.body) (lexemes_of text c.in_ok-body-2.rest.now) =
    c.in_ok-body-2.ensures.follows few most enough within in
    let less : length c.in_ok-body-2.rest.now < few = omega (arith, c.in_ok-body-2.ensures.shorter) in
    let much : length c.in_ok-body-2.rest.now < most = omega (arith, c.in_ok-body-2.ensures.shorter) in
    let after : posts few (any_expr most) (lexemes_of text c.in_ok-body-2.rest.now) ≡ Done (posts_of c.in_ok-posts.posts.now) (lexemes_of text c.in_ok-posts.rest.now) =
    c.in_ok-posts.ensures.follows few most less much in
    rw side (done_next _ _ _ _ _ inside (done_made _ _ _ _ after))
