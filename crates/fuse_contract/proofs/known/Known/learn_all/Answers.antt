use Rattle.std.proofs.Common.{◌≡◌, rules, Some, take, ◌++◌}
use Rattle.std.specs.Prelude.{slice_get}
use Rattle.fuse_contract.proofs.KnownLemmas.{learned_more}
use Rattle.fuse_contract.proofs.known.Known.learn_all.Goals as goal

pub loop-i-preserved : goal.loop-i-preserved
loop-i-preserved c =
    let there : slice_get c.args.references.now c.loop-i.i ≡ Some c.unwrap.result.now = search rules in
    λ items is.
    learned_more c.learn.new.self c.args.references.now items c.loop-i.i c.unwrap.result.now there
    (c.in_ok-learn.ensures (take c.loop-i.i c.args.references.now ++ items)
    (c.loop-i.invariant items is))
