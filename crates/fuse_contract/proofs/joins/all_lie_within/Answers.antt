use Rattle.std.proofs.Common.{◌≡◌, ◌∙◌, rules, Some, sym}
use Rattle.std.specs.Prelude.{slice_get}
use Rattle.fuse_contract.specs.Fusing.{lies_within}
use Rattle.fuse_contract.proofs.StepLemmas.{passes_more, stops_here}
use Rattle.fuse_contract.proofs.joins.all_lie_within.Goals as goal

pub returns-then-not-lies_within : goal.returns-then-not-lies_within
returns-then-not-lies_within c =
    let there : slice_get c.args.references.now c.loop-i.i ≡ Some c.unwrap.result.now = search rules in
    λ items is.
    stops_here (lies_within c.args.tables.now items) c.args.references.now c.loop-i.i
    c.unwrap.result.now there (sym (c.lies_within.ensures items is) ∙ c.if-not-lies_within.true)

pub loop-i-preserved : goal.loop-i-preserved
loop-i-preserved c =
    let there : slice_get c.args.references.now c.loop-i.i ≡ Some c.unwrap.result.now = search rules in
    λ items is.
    passes_more (lies_within c.args.tables.now items) c.args.references.now c.loop-i.i
    c.unwrap.result.now there (c.loop-i.invariant items is)
    (sym (c.lies_within.ensures items is) ∙ c.if-not-lies_within.false)
