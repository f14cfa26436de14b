use Rattle.std.proofs.Common.{ap, sym, ◌∙◌}
use Rattle.zpl_tree.specs.View.{expr_of}
use Rattle.zpl_grammar.specs.Lexeme.{lexemes_of}
use Rattle.zpl_parse.specs.Outcome.{Done}
use Rattle.zpl_parse.specs.Whole.{any_expr}
use Rattle.zpl_parse.proofs.Follows.{passed}
use Rattle.zpl_parse.proofs.statements.value.Goals as goal

pub returns-in_err-value-clause-follows : goal.returns-in_err-value-clause-follows
unfolding any_expr
returns-in_err-value-clause-follows c = λ most enough.
    passed _ _ _ _ c.from_residual.ensures.1 ((c.in_err-value.ensures {u = tt}).follows most enough)

pub returns-clause-follows : goal.returns-clause-follows
unfolding any_expr
returns-clause-follows c = λ most enough.
    let text = c.args.bytes.now in
    c.in_ok-value.ensures.follows most enough ∙ sym (ap (λ e. Done (expr_of e) (lexemes_of text c.in_ok-value.rest.now)) (c.in_ok-value-2.ensures))
