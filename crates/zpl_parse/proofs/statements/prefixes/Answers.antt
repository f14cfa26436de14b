use Rattle.std.proofs.Common.{◌≡◌, ◌<◌, ◌≤◌, [], ◌∷◌, length, true, false, is_ok, sym, ap, subst, ◌∙◌, arith, rules}
use Rattle.std.proofs.ResultArms.{chosen}
use Rattle.zpl_tokens.specs.declared.Kind.TheVariants as kind
use Rattle.zpl_tokens.specs.declared.symbols.Sym.TheVariants as sym
use Rattle.zpl_tree.specs.View.{prefix_of}
use Rattle.zpl_parse.specs.Following.{IsFaultOf}
use Rattle.zpl_grammar.specs.Lexeme.{lexemes_of}
use Rattle.zpl_parse.specs.Outcome.{and_then, made}
use Rattle.zpl_parse.specs.Tokens.{next_is}
use Rattle.zpl_parse.specs.Statements.{prefixes}
use Rattle.zpl_parse.specs.Whole.{any_expr}
use Rattle.zpl_parse.proofs.Follows.{passed, fault_then}
use Rattle.zpl_parse.proofs.Loops.{gathered_none, gathered_more, gathered_done, gathered_fault, map-prepended}
use Rattle.zpl_parse.proofs.StatementBase.{prefixes_go, prefixes_end}
use Rattle.zpl_parse.proofs.statements.prefixes.Goals as goal

pub loop-alloc-init : goal.loop-alloc-init
loop-alloc-init c = record {
  within = omega arith;
  gathered = λ few most enough much. rw c.new-prefixes.ensures.items (gathered_none _ _ few _ _ enough);
}

pub returns-in_err-next-clause-follows : goal.returns-in_err-next-clause-follows
returns-in_err-next-clause-follows c = λ few most enough much.
    let text = c.args.bytes.now in
    let left = lexemes_of text c.loop-alloc.rest.now in
    let is : c.begins_with.result ≡ true = search rules in
    let goes : next_is (kind.Symbol sym.OpenBracket) left ≡ true = sym (c.begins_with.ensures.is text) ∙ is in
    let short : length c.loop-alloc.rest.now < most = omega (arith, c.loop-alloc.invariant.within) in
    passed _ _ _ _ c.from_residual.ensures.1
    (gathered_fault _ _ few _ _ _ _ _ (c.loop-alloc.invariant.gathered few most enough much)
    (λ less fits.
    let fits_less : length c.loop-alloc.rest.now ≤ less = omega arith in
    subst (IsFaultOf c.in_err-next.field-0.0) (sym (prefixes_go less (any_expr most) left goes))
    (fault_then _ _ _ ((c.in_err-next.ensures {u = tt}).follows less most fits_less short))))

pub loop-alloc-preserved : goal.loop-alloc-preserved
loop-alloc-preserved c =
    let text = c.args.bytes.now in
    let left = lexemes_of text c.loop-alloc.rest.now in
    let pushed = chosen _ _ _ _ c.push.ensures.items (ap is_ok c.in_ok-push.was) in
    let is : c.begins_with.result ≡ true = search rules in
    let goes : next_is (kind.Symbol sym.OpenBracket) left ≡ true = sym (c.begins_with.ensures.is text) ∙ is in
    let shorter = c.in_ok-next.ensures.shorter in
    record {
      within = omega (arith, c.loop-alloc.invariant.within, shorter);
      gathered = λ few most enough much.
          let short : length c.loop-alloc.rest.now < most = omega (arith, c.loop-alloc.invariant.within) in
          rw pushed
          (gathered_more _ _ few _ _ _ _ c.in_ok-next.next _ _ (c.loop-alloc.invariant.gathered few most enough much) shorter
          (λ less fits.
          let fits_less : length c.loop-alloc.rest.now ≤ less = omega arith in
          prefixes_go less (any_expr most) left goes
          ∙ ap (λ o. and_then o (λ first rest. made (λ others. first ∷ others) (prefixes less (any_expr most) rest))) (c.in_ok-next.ensures.follows less most fits_less short)));
    }

pub returns-clause-follows : goal.returns-clause-follows
returns-clause-follows c = λ few most enough much.
    let text = c.args.bytes.now in
    let left = lexemes_of text c.loop-alloc.rest.now in
    let not : c.begins_with.result ≡ false = search rules in
    let ends : next_is (kind.Symbol sym.OpenBracket) left ≡ false = sym (c.begins_with.ensures.is text) ∙ not in
    rw (c.in_ok-prefixes.ensures {u = tt}, c.as_slice.ensures.value, map-prepended prefix_of)
    (gathered_done _ _ few _ _ _ _ [] _ (c.loop-alloc.invariant.gathered few most enough much)
    (λ less fits. prefixes_end less (any_expr most) left ends))
