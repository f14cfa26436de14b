use Rattle.std.proofs.Common.{◌≡◌, ◌<◌, [], length, true, false, is_ok, sym, ap, ◌∙◌, arith, rules}
use Rattle.std.proofs.ResultArms.{chosen}
use Rattle.zpl_tokens.specs.declared.Kind.TheVariants as kind
use Rattle.zpl_tokens.specs.declared.symbols.Sym.TheVariants as sym
use Rattle.zpl_tree.specs.View.{item_of}
use Rattle.zpl_grammar.specs.Lexeme.{lexemes_of}
use Rattle.zpl_parse.specs.Tokens.{next_is}
use Rattle.zpl_parse.proofs.Follows.{passed, fault_then}
use Rattle.zpl_parse.proofs.Loops.{gathered_none, gathered_more, gathered_last, gathered_fault, map-prepended}
use Rattle.zpl_parse.proofs.statements.some_items.Goals as goal

pub loop-items-init : goal.loop-items-init
loop-items-init c = record {
  within = omega arith;
  gathered = λ few most enough much. rw c.new-items.ensures.items (gathered_none _ _ few _ _ enough);
}

pub returns-in_err-next-clause-follows : goal.returns-in_err-next-clause-follows
returns-in_err-next-clause-follows c = λ few most enough much.
    let short : length c.loop-items.rest.now < most = omega (arith, c.loop-items.invariant.within) in
    passed _ _ _ _ c.from_residual.ensures.1
    (gathered_fault _ _ few _ _ _ _ _ (c.loop-items.invariant.gathered few most enough much)
    (λ less fits. fault_then _ _ _ ((c.in_err-next.ensures {u = tt}).follows most short)))

pub returns-then-not-begins_with-clause-follows : goal.returns-then-not-begins_with-clause-follows
returns-then-not-begins_with-clause-follows c = λ few most enough much.
    let text = c.args.bytes.now in
    let short : length c.loop-items.rest.now < most = omega (arith, c.loop-items.invariant.within) in
    let pushed = chosen _ _ _ _ c.push.ensures.items (ap is_ok c.in_ok-push.was) in
    let not : c.begins_with.result ≡ false = search rules in
    let ends : next_is (kind.Symbol sym.Comma) (lexemes_of text c.in_ok-next.after.now) ≡ false = sym (c.begins_with.ensures.is text) ∙ not in
    let step = c.in_ok-next.ensures.follows most short in
    rw (c.in_ok-items.ensures {u = tt}, c.as_slice.ensures.value, pushed, map-prepended item_of)
    (gathered_last _ _ few _ _ _ _ c.in_ok-next.next [] _ (c.loop-items.invariant.gathered few most enough much)
    (λ less fits. search (rules, step, ends)))

pub loop-items-preserved : goal.loop-items-preserved
loop-items-preserved c =
    let text = c.args.bytes.now in
    let pushed = chosen _ _ _ _ c.push.ensures.items (ap is_ok c.in_ok-push.was) in
    let is : c.begins_with.result ≡ true = search rules in
    let goes : next_is (kind.Symbol sym.Comma) (lexemes_of text c.in_ok-next.after.now) ≡ true = sym (c.begins_with.ensures.is text) ∙ is in
    let shorter : length c.behind-rest.result.now < length c.loop-items.rest.now = omega (arith, c.in_ok-next.ensures.shorter, c.behind-rest.ensures.shorter) in
    record {
      within = omega (arith, c.loop-items.invariant.within);
      gathered = λ few most enough much.
          let short : length c.loop-items.rest.now < most = omega (arith, c.loop-items.invariant.within) in
          let step = c.in_ok-next.ensures.follows most short in
          rw pushed
          (gathered_more _ _ few _ _ _ _ c.in_ok-next.next _ _ (c.loop-items.invariant.gathered few most enough much) shorter
          (λ less fits. search (rules, step, goes, c.behind-rest.ensures.rest text)));
    }
