use Rattle.std.proofs.Common.{ℕ, ◌<◌, ◌∙◌, List, length, sym, ap, subst, arith}
use Rattle.zpl_tree.specs.Syntax.{Name, Decl, Program}
use Rattle.zpl_tree.specs.View.{name_of}
use Rattle.zpl_parse.specs.Following.{IsFaultOf}
use Rattle.zpl_grammar.specs.Lexeme.{lexemes_of}
use Rattle.zpl_parse.specs.Outcome.{made}
use Rattle.zpl_parse.specs.Declarations.{decls}
use Rattle.zpl_parse.specs.Whole.{any_expr, most_nested}
use Rattle.zpl_parse.proofs.Follows.{passed, fault_made}
use Rattle.zpl_parse.proofs.Answering.{program_on}
use Rattle.zpl_parse.proofs.programs.program.Goals as goal

abbrev program_of : List ℕ → Name → List Decl → Program
program_of text called those = record { name = called; decls = those; source = text }

pub returns-in_err-decls : goal.returns-in_err-decls
returns-in_err-decls c = λ most enough.
    let text = c.args.bytes.now in
    let there : length c.in_ok-rest-2.rest.now < most = omega (arith, c.in_ok-rest.ensures.shorter, c.in_ok-name.ensures.shorter, c.in_ok-rest-2.ensures.shorter) in
    let on = program_on text most (lexemes_of text c.args.tokens.now) (lexemes_of text c.in_ok-rest.rest.now) (lexemes_of text c.in_ok-name.rest.now) (lexemes_of text c.in_ok-rest-2.rest.now) _ _ (name_of c.in_ok-name.name) (c.in_ok-rest.ensures.follows text) c.in_ok-name.ensures.follows (c.in_ok-rest-2.ensures.follows text) in
    let fault = c.in_err-decls.field-0.0 in
    let rule = decls most (any_expr most) most_nested (lexemes_of text c.in_ok-rest-2.rest.now) in
    let found : IsFaultOf fault rule = (c.in_err-decls.ensures {u = tt}) most most there there in
    passed _ _ _ _ c.from_residual-in_err-decls.ensures.1
    (subst (IsFaultOf fault) (sym on) (fault_made fault (program_of text (name_of c.in_ok-name.name)) rule found))

pub returns : goal.returns
returns c = λ most enough.
    let text = c.args.bytes.now in
    let there : length c.in_ok-rest-2.rest.now < most = omega (arith, c.in_ok-rest.ensures.shorter, c.in_ok-name.ensures.shorter, c.in_ok-rest-2.ensures.shorter) in
    let on = program_on text most (lexemes_of text c.args.tokens.now) (lexemes_of text c.in_ok-rest.rest.now) (lexemes_of text c.in_ok-name.rest.now) (lexemes_of text c.in_ok-rest-2.rest.now) _ _ (name_of c.in_ok-name.name) (c.in_ok-rest.ensures.follows text) c.in_ok-name.ensures.follows (c.in_ok-rest-2.ensures.follows text) in
    on ∙ ap (made (λ (those : List Decl). program_of text (name_of c.in_ok-name.name) those)) ((c.in_ok-decls.ensures {u = tt}) most most there there)
