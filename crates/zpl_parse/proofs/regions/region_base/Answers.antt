use Rattle.std.proofs.Common.{◌≡◌, ◌<◌, [], Some, None, length, true, false, is_ok, sym, ap, ◌∙◌, arith, rules}
use Rattle.std.proofs.ResultArms.{chosen}
use Rattle.zpl_tokens.specs.declared.Kind.TheVariants as kind
use Rattle.zpl_tree.specs.Syntax.{Ditto, NamedRegion}
use Rattle.zpl_tree.specs.View.{name_of}
use Rattle.zpl_parse.specs.Classes.{outside_of}
use Rattle.zpl_grammar.specs.Lexeme.{lexemes_of, head_kind}
use Rattle.zpl_parse.specs.Tokens.{next_is}
use Rattle.zpl_parse.proofs.Follows.{passed, fault_then}
use Rattle.zpl_parse.proofs.Loops.{gathered_none, gathered_more, gathered_done, gathered_fault}
use Rattle.zpl_parse.proofs.Lists.{pre-prepended}
use Rattle.zpl_parse.proofs.regions.region_base.Goals as goal

pub loop-pre-init : goal.loop-pre-init
loop-pre-init c = record {
  within = omega arith;
  gathered = λ most enough. rw c.new-pre.ensures.items (gathered_none _ _ most _ _ enough);
}

pub returns-then-begins_with-clause-follows : goal.returns-then-begins_with-clause-follows
returns-then-begins_with-clause-follows c = λ most enough.
    let text = c.args.bytes.now in
    let is : c.begins_with.result ≡ true = search rules in
    let goes : next_is kind.Ditto (lexemes_of text c.loop-pre.rest.now) ≡ true = sym (c.begins_with.ensures.is text) ∙ is in
    rw (c.in_ok-pre.ensures {u = tt}, c.as_slice.ensures.value, pre-prepended)
    (gathered_done _ _ most _ _ _ _ ([], Ditto c.offset.result) _ (c.loop-pre.invariant.gathered most enough)
    (λ less fits. search (rules, goes, c.behind.ensures.rest text, c.offset.ensures text)))

pub returns-in_err-first-clause-follows : goal.returns-in_err-first-clause-follows
returns-in_err-first-clause-follows c = λ most enough.
    let text = c.args.bytes.now in
    let is : c.begins_with.result ≡ false = search rules in
    let goes : next_is kind.Ditto (lexemes_of text c.loop-pre.rest.now) ≡ false = sym (c.begins_with.ensures.is text) ∙ is in
    passed _ _ _ _ c.from_residual-in_err-first.ensures.1
    (gathered_fault _ _ most _ _ _ _ _ (c.loop-pre.invariant.gathered most enough)
    (λ less fits. search (rules, goes, fault_then, (c.in_err-first.ensures {u = tt}).follows)))

pub returns-in_default-clause-follows : goal.returns-in_default-clause-follows
returns-in_default-clause-follows c = λ most enough.
    let text = c.args.bytes.now in
    let is : c.begins_with.result ≡ false = search rules in
    let goes : next_is kind.Ditto (lexemes_of text c.loop-pre.rest.now) ≡ false = sym (c.begins_with.ensures.is text) ∙ is in
    let none : outside_of (head_kind (lexemes_of text c.in_ok-first.after.now)) ≡ None = search (rules, c.first_kind.ensures text) in
    rw (c.in_ok-pre-2.ensures {u = tt}, c.as_slice-in_default.ensures.value, pre-prepended)
    (gathered_done _ _ most _ _ _ _ ([], NamedRegion (name_of c.in_ok-first.first)) _ (c.loop-pre.invariant.gathered most enough)
    (λ less fits. search (rules, goes, c.in_ok-first.ensures.follows, none)))

pub loop-pre-preserved : goal.loop-pre-preserved
loop-pre-preserved c =
    let text = c.args.bytes.now in
    let is : c.begins_with.result ≡ false = search rules in
    let goes : next_is kind.Ditto (lexemes_of text c.loop-pre.rest.now) ≡ false = sym (c.begins_with.ensures.is text) ∙ is in
    let some : outside_of (head_kind (lexemes_of text c.in_ok-first.after.now)) ≡ Some c.in-Some.outside = search (rules, c.first_kind.ensures text) in
    let pushed = chosen _ _ _ _ c.push.ensures.items (ap is_ok c.in_ok-push.was) in
    let shorter : length c.behind-rest.result.now < length c.loop-pre.rest.now = omega (arith, c.in_ok-first.ensures.shorter, c.behind-rest.ensures.shorter) in
    record {
      within = omega (arith, c.loop-pre.invariant.within);
      gathered = λ most enough. rw pushed
          (gathered_more _ _ most _ _ _ _ (record { dir = c.in_ok-first.first; outside = c.in-Some.outside }) _ _ (c.loop-pre.invariant.gathered most enough) shorter
          (λ less fits. search (rules, goes, c.in_ok-first.ensures.follows, some, c.behind-rest.ensures.rest text)));
    }
