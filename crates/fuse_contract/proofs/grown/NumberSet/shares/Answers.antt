use Rattle.std.proofs.Common.{◌≡◌, ◌∙◌, rules, sym, subst, Some, ◌==◌, List, ℕ, true, false}
use Rattle.std.specs.Prelude.{slice_get}
use Rattle.std.specs.List.{list_any}
use Rattle.fuse_contract.proofs.UseLemmas.{shares_here, shares_more}
use Rattle.fuse_contract.proofs.grown.NumberSet.shares.Goals as goal

pub returns-then-contains : goal.returns-then-contains
returns-then-contains c =
    let there : slice_get c.args.numbers.now c.loop-i.i ≡ Some c.unwrap.result.now = search rules in
    let here : list_any (λ other. c.unwrap.result.now == other) c.self.inside.numbers.keys ≡ true =
    sym c.contains.ensures ∙ c.if-contains.true in
    sym (shares_here c.args.numbers.now c.args.self.now c.loop-i.i c.unwrap.result.now there
    (subst (λ (l : List ℕ). list_any (λ other. c.unwrap.result.now == other) l ≡ true)
    c.self.view_is here))

pub loop-i-preserved : goal.loop-i-preserved
loop-i-preserved c =
    let there : slice_get c.args.numbers.now c.loop-i.i ≡ Some c.unwrap.result.now = search rules in
    let here : list_any (λ other. c.unwrap.result.now == other) c.self.inside.numbers.keys ≡ false =
    sym c.contains.ensures ∙ c.if-contains.false in
    shares_more c.args.numbers.now c.args.self.now c.loop-i.i c.unwrap.result.now there
    c.loop-i.invariant
    (subst (λ (l : List ℕ). list_any (λ other. c.unwrap.result.now == other) l ≡ false)
    c.self.view_is here)
