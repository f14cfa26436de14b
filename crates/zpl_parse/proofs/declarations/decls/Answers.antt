use Rattle.std.proofs.Common.{◌≡◌, ◌<◌, [], length, true, false, is_ok, sym, ap, ◌∙◌, arith, rules}
use Rattle.std.proofs.ResultArms.{chosen}
use Rattle.zpl_tokens.specs.declared.Kind.TheVariants as kind
use Rattle.zpl_tree.specs.View.{decl_of}
use Rattle.zpl_grammar.specs.Lexeme.{lexemes_of}
use Rattle.zpl_parse.specs.Outcome.{Done}
use Rattle.zpl_parse.specs.Tokens.{next_is}
use Rattle.zpl_parse.specs.Whole.{any_expr, most_nested}
use Rattle.zpl_parse.proofs.Follows.{passed}
use Rattle.zpl_parse.proofs.Loops.{gathered_none, gathered_more, gathered_done, gathered_fault, map-prepended}
use Rattle.zpl_parse.proofs.DeclarationSteps.{decls_end, decls_go, decls_fault}
use Rattle.zpl_parse.proofs.declarations.decls.Goals as goal

pub loop-alloc-init : goal.loop-alloc-init
loop-alloc-init c = record {
  within = omega arith;
  gathered = λ few most enough much. rw c.new-decls.ensures.items (gathered_none _ _ few _ _ enough);
}

pub returns-in_err-next : goal.returns-in_err-next
returns-in_err-next c = λ few most enough much.
    let text = c.args.bytes.now in
    let not : c.begins_with.result ≡ false = search rules in
    let goes : next_is kind.End (lexemes_of text c.loop-alloc.rest.now) ≡ false = sym (c.begins_with.ensures.is text) ∙ not in
    let low : length c.loop-alloc.rest.now < most = omega (arith, c.loop-alloc.invariant.within) in
    passed _ _ _ _ c.from_residual.ensures.1
    (gathered_fault _ _ few _ _ _ _ _ (c.loop-alloc.invariant.gathered few most enough much)
    (λ less fits. decls_fault less (any_expr most) most_nested (lexemes_of text c.loop-alloc.rest.now) _ goes
    ((c.in_err-next.ensures {u = tt}).follows less most (omega (arith, fits)) low)))

pub loop-alloc-preserved : goal.loop-alloc-preserved
loop-alloc-preserved c =
    let text = c.args.bytes.now in
    let pushed = chosen _ _ _ _ c.push.ensures.items (ap is_ok c.in_ok-push.was) in
    let not : c.begins_with.result ≡ false = search rules in
    let goes : next_is kind.End (lexemes_of text c.loop-alloc.rest.now) ≡ false = sym (c.begins_with.ensures.is text) ∙ not in
    record {
      within = omega (arith, c.in_ok-next.ensures.shorter, c.loop-alloc.invariant.within);
      gathered = λ few most enough much.
          let low : length c.loop-alloc.rest.now < most = omega (arith, c.loop-alloc.invariant.within) in
          rw pushed
          (gathered_more _ _ few _ _ _ _ c.in_ok-next.next _ _ (c.loop-alloc.invariant.gathered few most enough much) c.in_ok-next.ensures.shorter
          (λ less fits. decls_go less (any_expr most) most_nested (lexemes_of text c.loop-alloc.rest.now) (lexemes_of text c.in_ok-next.after.now) (decl_of c.in_ok-next.next) goes
          (c.in_ok-next.ensures.follows less most (omega (arith, fits)) low)));
    }

pub returns : goal.returns
returns c = λ few most enough much.
    let text = c.args.bytes.now in
    let is : c.begins_with.result ≡ true = search rules in
    let ends : next_is kind.End (lexemes_of text c.loop-alloc.rest.now) ≡ true = sym (c.begins_with.ensures.is text) ∙ is in
    rw (c.in_ok-decls.ensures {u = tt}, c.as_slice.ensures.value, map-prepended decl_of)
    (gathered_done _ _ few _ _ _ _ [] _ (c.loop-alloc.invariant.gathered few most enough much)
    (λ less fits. decls_end less (any_expr most) most_nested (lexemes_of text c.loop-alloc.rest.now) ends ∙ ap (λ lexemes. Done [] lexemes) (sym (c.behind.ensures.rest text))))
