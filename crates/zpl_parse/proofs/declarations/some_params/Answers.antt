use Rattle.std.proofs.Common.{◌≡◌, ◌<◌, [], ◌∷◌, length, true, false, is_ok, sym, ap, ◌∙◌, arith, rules}
use Rattle.std.proofs.ResultArms.{chosen}
use Rattle.zpl_tokens.specs.declared.Kind.TheVariants as kind
use Rattle.zpl_tokens.specs.declared.symbols.Sym.TheVariants as symbols
use Rattle.zpl_tree.specs.View.{param_of}
use Rattle.zpl_grammar.specs.Lexeme.{lexemes_of}
use Rattle.zpl_parse.specs.Outcome.{made}
use Rattle.zpl_parse.specs.Tokens.{next_is}
use Rattle.zpl_parse.specs.Whole.{any_expr}
use Rattle.zpl_parse.specs.Declarations.{some_params}
use Rattle.zpl_parse.proofs.Follows.{passed, fault_then}
use Rattle.zpl_parse.proofs.Loops.{gathered_none, gathered_more, gathered_last, gathered_fault, map-prepended}
use Rattle.zpl_parse.proofs.DeclarationSteps.{params_end, params_go}
use Rattle.zpl_parse.proofs.declarations.some_params.Goals as goal

pub loop-params-init : goal.loop-params-init
loop-params-init c = record {
  within = omega arith;
  gathered = λ few most enough much. rw c.new-params.ensures.items (gathered_none _ _ few _ _ enough);
}

pub returns-in_err-next-clause-follows : goal.returns-in_err-next-clause-follows
returns-in_err-next-clause-follows c = λ few most enough much.
    let low : length c.loop-params.rest.now < most = omega (arith, c.loop-params.invariant.within) in
    passed _ _ _ _ c.from_residual.ensures.1
    (gathered_fault _ _ few _ _ _ _ _ (c.loop-params.invariant.gathered few most enough much)
    (λ less fits. fault_then _ _ _ ((c.in_err-next.ensures {u = tt}).follows less most (omega (arith, fits)) low)))

pub returns-then-not-begins_with-clause-follows : goal.returns-then-not-begins_with-clause-follows
returns-then-not-begins_with-clause-follows c = λ few most enough much.
    let text = c.args.bytes.now in
    let low : length c.loop-params.rest.now < most = omega (arith, c.loop-params.invariant.within) in
    let pushed = chosen _ _ _ _ c.push.ensures.items (ap is_ok c.in_ok-push.was) in
    let not : c.begins_with.result ≡ false = search rules in
    let ends : next_is (kind.Symbol symbols.Semicolon) (lexemes_of text c.in_ok-next.after.now) ≡ false = sym (c.begins_with.ensures.is text) ∙ not in
    rw (c.in_ok-params.ensures {u = tt}, c.as_slice.ensures.value, pushed, map-prepended param_of)
    (gathered_last _ _ few _ _ _ _ c.in_ok-next.next [] _ (c.loop-params.invariant.gathered few most enough much)
    (λ less fits. params_end less (any_expr most) (lexemes_of text c.loop-params.rest.now) (lexemes_of text c.in_ok-next.after.now) (param_of c.in_ok-next.next) (c.in_ok-next.ensures.follows less most (omega (arith, fits)) low) ends))

pub loop-params-preserved : goal.loop-params-preserved
loop-params-preserved c =
    let text = c.args.bytes.now in
    let pushed = chosen _ _ _ _ c.push.ensures.items (ap is_ok c.in_ok-push.was) in
    let is : c.begins_with.result ≡ true = search rules in
    let goes : next_is (kind.Symbol symbols.Semicolon) (lexemes_of text c.in_ok-next.after.now) ≡ true = sym (c.begins_with.ensures.is text) ∙ is in
    let shorter : length c.behind-rest.result.now < length c.loop-params.rest.now = omega (arith, c.in_ok-next.ensures.shorter, c.behind-rest.ensures.shorter) in
    record {
      within = omega (arith, c.loop-params.invariant.within);
      gathered = λ few most enough much.
          let low : length c.loop-params.rest.now < most = omega (arith, c.loop-params.invariant.within) in
          rw pushed
          (gathered_more _ _ few _ _ _ _ c.in_ok-next.next _ _ (c.loop-params.invariant.gathered few most enough much) shorter
          (λ less fits. params_go less (any_expr most) (lexemes_of text c.loop-params.rest.now) (lexemes_of text c.in_ok-next.after.now) (param_of c.in_ok-next.next) (c.in_ok-next.ensures.follows less most (omega (arith, fits)) low) goes
          ∙ ap (λ lexemes. made (λ others. param_of c.in_ok-next.next ∷ others) (some_params less (any_expr most) lexemes)) (sym (c.behind-rest.ensures.rest text))));
    }
