use Rattle.std.proofs.Common.{rules}
use Rattle.fuse_contract.specs.Joining.{with_number}
use Rattle.fuse_contract.proofs.UseLemmas.{fold_more}
use Rattle.fuse_contract.proofs.grown.NumberSet.add_all.Goals as goal

pub loop-i-preserved : goal.loop-i-preserved
loop-i-preserved c =
    fold_more with_number c.args.numbers.now c.loop-i.i c.unwrap.result.now c.args.self.now
    c.loop-i.self c.add.new.self (search rules) c.loop-i.invariant c.in_ok-add.ensures
