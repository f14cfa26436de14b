use Rattle.std.proofs.Common.{◌≡◌, ◌∙◌, rules, Some, sym}
use Rattle.std.specs.Prelude.{slice_get}
use Rattle.fuse_contract.specs.Fusing.{are_like}
use Rattle.fuse_contract.proofs.StepLemmas.{passes_more, stops_here}
use Rattle.fuse_contract.proofs.grown.all_like.Goals as goal

pub returns-then-not-are_like : goal.returns-then-not-are_like
returns-then-not-are_like c =
    let there : slice_get c.args.others.now c.loop-i.i ≡ Some c.unwrap.result.now = search rules in
    stops_here (are_like c.args.tables.now c.args.array) c.args.others.now c.loop-i.i
    c.unwrap.result.now there (sym c.are_like.ensures ∙ c.if-not-are_like.true)

pub loop-i-preserved : goal.loop-i-preserved
loop-i-preserved c =
    let there : slice_get c.args.others.now c.loop-i.i ≡ Some c.unwrap.result.now = search rules in
    passes_more (are_like c.args.tables.now c.args.array) c.args.others.now c.loop-i.i
    c.unwrap.result.now there c.loop-i.invariant (sym c.are_like.ensures ∙ c.if-not-are_like.false)
