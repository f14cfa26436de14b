use Rattle.std.proofs.Common.{◌≡◌, ◌<◌, [], map, length, true, false, is_ok, sym, ap, subst, ◌∙◌, arith, rules}
use Rattle.std.proofs.ResultArms.{chosen}
use Rattle.zpl_tokens.specs.declared.Kind.TheVariants as kind
use Rattle.zpl_tokens.specs.declared.keywords.Key.TheVariants as key
use Rattle.zpl_tree.specs.View.{var_of}
use Rattle.zpl_parse.specs.Following.{IsFaultOf}
use Rattle.zpl_grammar.specs.Lexeme.{lexemes_of}
use Rattle.zpl_parse.specs.Outcome.{Done}
use Rattle.zpl_parse.specs.Tokens.{next_is}
use Rattle.zpl_parse.specs.Whole.{any_expr}
use Rattle.zpl_parse.specs.Declarations.{group, variables}
use Rattle.zpl_parse.proofs.Follows.{passed}
use Rattle.zpl_parse.proofs.Loops.{gathered_none, gathered_done, gathered_fault, map-prepended}
use Rattle.zpl_parse.proofs.DeclarationSteps.{gathered_many, locals_end, locals_go, locals_fault}
use Rattle.zpl_parse.proofs.declarations.locals.Goals as goal

pub loop-alloc-init : goal.loop-alloc-init
loop-alloc-init c = record {
  within = omega arith;
  gathered = λ few most enough much. rw c.new-locals.ensures.items (gathered_none _ _ few _ _ enough);
}

pub returns-in_err-more-clause-follows : goal.returns-in_err-more-clause-follows
returns-in_err-more-clause-follows c = λ few most enough much.
    let text = c.args.bytes.now in
    let is : c.begins_with.result ≡ true = search rules in
    let goes : next_is (kind.Word key.Var) (lexemes_of text c.loop-alloc.rest.now) ≡ true = sym (c.begins_with.ensures.is text) ∙ is in
    let some : 0 < length c.loop-alloc.rest.now = c.begins_with.ensures.some is in
    let low : length c.behind.result.now < most = omega (arith, c.loop-alloc.invariant.within, c.behind.ensures.shorter) in
    passed _ _ _ _ c.from_residual.ensures.1
    (gathered_fault _ _ few _ _ _ _ _ (c.loop-alloc.invariant.gathered few most enough much)
    (λ less fits. locals_fault less (any_expr most) (lexemes_of text c.loop-alloc.rest.now) _ goes
    (subst (λ lexemes. IsFaultOf c.in_err-more.field-0.0 (group less (variables less (any_expr most)) lexemes)) (c.behind.ensures.rest text)
    ((c.in_err-more.ensures {u = tt}).follows less most (omega (arith, fits, some, c.behind.ensures.shorter)) low))))

pub loop-alloc-preserved : goal.loop-alloc-preserved
loop-alloc-preserved c =
    let text = c.args.bytes.now in
    let added = chosen _ _ _ _ c.extend_from_slice.ensures.items (ap is_ok c.in_ok-extend_from_slice.was) in
    let is : c.begins_with.result ≡ true = search rules in
    let goes : next_is (kind.Word key.Var) (lexemes_of text c.loop-alloc.rest.now) ≡ true = sym (c.begins_with.ensures.is text) ∙ is in
    let some : 0 < length c.loop-alloc.rest.now = c.begins_with.ensures.some is in
    let shorter : length c.in_ok-more.after.now < length c.loop-alloc.rest.now = omega (arith, c.in_ok-more.ensures.shorter, c.behind.ensures.shorter) in
    record {
      within = omega (arith, shorter, c.loop-alloc.invariant.within);
      gathered = λ few most enough much.
          let low : length c.behind.result.now < most = omega (arith, c.loop-alloc.invariant.within, c.behind.ensures.shorter) in
          rw added
          (gathered_many var_of _ few _ _ _ _ c.in_ok-more.more.now _ _ (c.loop-alloc.invariant.gathered few most enough much) shorter
          (λ less fits. locals_go less (any_expr most) (lexemes_of text c.loop-alloc.rest.now) (lexemes_of text c.in_ok-more.after.now) (map var_of c.in_ok-more.more.now) goes
          (subst (λ lexemes. group less (variables less (any_expr most)) lexemes ≡ Done (map var_of c.in_ok-more.more.now) (lexemes_of text c.in_ok-more.after.now)) (c.behind.ensures.rest text)
          (c.in_ok-more.ensures.follows less most (omega (arith, fits, some, c.behind.ensures.shorter)) low))));
    }

pub returns-clause-follows : goal.returns-clause-follows
returns-clause-follows c = λ few most enough much.
    let text = c.args.bytes.now in
    let not : c.begins_with.result ≡ false = search rules in
    let ends : next_is (kind.Word key.Var) (lexemes_of text c.loop-alloc.rest.now) ≡ false = sym (c.begins_with.ensures.is text) ∙ not in
    rw (c.in_ok-locals.ensures {u = tt}, c.as_slice.ensures.value, map-prepended var_of)
    (gathered_done _ _ few _ _ _ _ [] _ (c.loop-alloc.invariant.gathered few most enough much)
    (λ less fits. locals_end less (any_expr most) (lexemes_of text c.loop-alloc.rest.now) ends))
