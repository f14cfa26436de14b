use Rattle.std.proofs.Common.{◌≡◌, ◌+◌, ◌≤◌, List, [], ◌∷◌, ◌++◌, length, take, sym, subst, rules}
use Rattle.std.specs.Prelude.{Some, slice_get}
use Rattle.node_form.specs.declared.words.ExprOp.{ExprOp}
use Rattle.listing_rules.specs.declared.facts.ExprFacts.{ExprFacts}
use Rattle.listing_rules.specs.Facts.{AreExprFacts, Tell}
use Rattle.listing_rules.proofs.FactsLemmas.{tell_none, tell_more, take_at, take_whole}
use Rattle.listing_rules.proofs.tables.facts_of.Goals as goal

pub loop-i-init : goal.loop-i-init
loop-i-init c =
    let t = c.args.known.now.tables in
    subst (λ (facts : List ExprFacts). Tell (AreExprFacts t) [] facts) (sym c.new-facts.ensures) (tell_none (AreExprFacts t))

pub loop-i-preserved : goal.loop-i-preserved
loop-i-preserved c =
    let t = c.args.known.now.tables in
    let words = c.unwrap-words.result.now in
    let here : slice_get t.exprs c.loop-i.i ≡ Some words = search rules in
    let is : AreExprFacts t words c.expr_facts.result = subst (λ (w : List ExprOp). AreExprFacts t w c.expr_facts.result) c.as_slice.ensures c.expr_facts.ensures in
    let grown : c.push.new.self ≡ c.loop-i.facts ++ c.expr_facts.result ∷ [] = search rules in
    tell_more (AreExprFacts t) (take c.loop-i.i t.exprs) (take (c.loop-i.i + 1) t.exprs) c.loop-i.facts c.push.new.self words c.expr_facts.result c.loop-i.invariant is (take_at t.exprs c.loop-i.i words here) grown

pub returns : goal.returns
returns c =
    let t = c.args.known.now.tables in
    let past : length t.exprs ≤ c.loop-i.i = search rules in
    subst (λ (rows : List (List ExprOp)). Tell (AreExprFacts t) rows c.loop-i.facts) (take_whole t.exprs c.loop-i.i past) c.loop-i.invariant
