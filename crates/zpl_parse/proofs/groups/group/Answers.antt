use Rattle.std.proofs.Common.{◌≡◌, ◌<◌, [], length, true, false, is_ok, sym, ap, ◌∙◌, arith, rules}
use Rattle.std.proofs.ResultArms.{chosen}
use Rattle.zpl_tokens.specs.declared.Kind.TheVariants as kind
use Rattle.zpl_grammar.specs.Lexeme.{lexemes_of}
use Rattle.zpl_parse.specs.Tokens.{next_is}
use Rattle.zpl_parse.proofs.Follows.{passed, fault_then}
use Rattle.zpl_parse.proofs.Loops.{gathered_none, gathered_more, gathered_last, gathered_fault, map-prepended}
use Rattle.zpl_parse.proofs.DeclarationSteps.{group_ends, group_goes}
use Rattle.zpl_parse.proofs.groups.group.Goals as goal

pub loop-found-init : goal.loop-found-init
loop-found-init g c = record {
  within = omega arith;
  gathered = λ few most enough much. rw c.new-found.ensures.items (gathered_none _ _ few _ _ enough);
}

pub returns-in_err-next-clause-follows : goal.returns-in_err-next-clause-follows
returns-in_err-next-clause-follows g c = λ few most enough much.
    let high : length c.loop-found.rest.now < few = omega (arith, c.loop-found.invariant.within) in
    let low : length c.loop-found.rest.now < most = omega (arith, c.loop-found.invariant.within) in
    passed _ _ _ _ c.from_residual.ensures.1
    (gathered_fault _ _ few _ _ _ _ _ (c.loop-found.invariant.gathered few most enough much)
    (λ less fits. fault_then _ _ _ ((c.in_err-next.ensures {u = tt}).follows few most high low)))

pub returns-then-not-begins_with-clause-follows : goal.returns-then-not-begins_with-clause-follows
returns-then-not-begins_with-clause-follows g c = λ few most enough much.
    let text = c.args.bytes.now in
    let high : length c.loop-found.rest.now < few = omega (arith, c.loop-found.invariant.within) in
    let low : length c.loop-found.rest.now < most = omega (arith, c.loop-found.invariant.within) in
    let pushed = chosen _ _ _ _ c.push.ensures.items (ap is_ok c.in_ok-push.was) in
    let not : c.begins_with.result ≡ false = search rules in
    let ends : next_is kind.Name (lexemes_of text c.in_ok-next.after.now) ≡ false = sym (c.begins_with.ensures.is text) ∙ not in
    rw (c.in_ok-found.ensures {u = tt}, c.as_slice.ensures.value, pushed, map-prepended g.D.Definition.tree_of)
    (gathered_last _ _ few _ _ _ _ c.in_ok-next.next [] _ (c.loop-found.invariant.gathered few most enough much)
    (λ less fits. group_ends less (g.D.Definition.rule_of few most) (lexemes_of text c.loop-found.rest.now) (lexemes_of text c.in_ok-next.after.now) (g.D.Definition.tree_of c.in_ok-next.next) (c.in_ok-next.ensures.follows few most high low) ends))

pub loop-found-preserved : goal.loop-found-preserved
loop-found-preserved g c =
    let text = c.args.bytes.now in
    let pushed = chosen _ _ _ _ c.push.ensures.items (ap is_ok c.in_ok-push.was) in
    let is : c.begins_with.result ≡ true = search rules in
    let goes : next_is kind.Name (lexemes_of text c.in_ok-next.after.now) ≡ true = sym (c.begins_with.ensures.is text) ∙ is in
    record {
      within = omega (arith, c.loop-found.invariant.within, c.in_ok-next.ensures.shorter);
      gathered = λ few most enough much.
          let high : length c.loop-found.rest.now < few = omega (arith, c.loop-found.invariant.within) in
          let low : length c.loop-found.rest.now < most = omega (arith, c.loop-found.invariant.within) in
          rw pushed
          (gathered_more _ _ few _ _ _ _ c.in_ok-next.next _ _ (c.loop-found.invariant.gathered few most enough much) c.in_ok-next.ensures.shorter
          (λ less fits. group_goes less (g.D.Definition.rule_of few most) (lexemes_of text c.loop-found.rest.now) (lexemes_of text c.in_ok-next.after.now) (g.D.Definition.tree_of c.in_ok-next.next) (c.in_ok-next.ensures.follows few most high low) goes));
    }
