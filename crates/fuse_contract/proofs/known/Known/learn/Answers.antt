use Rattle.std.proofs.Common.{refl}
use Rattle.fuse_contract.proofs.KnownLemmas.{one_learned}
use Rattle.fuse_contract.proofs.known.Known.learn.Goals as goal

pub returns : goal.returns
returns c =
    one_learned c.args.self.now _ (record {
      array = c.args.item.array;
      slot = c.args.item.slot;
      shift = c.args.item.shift;
    }) (λ q. c.in_ok-insert.ensures.updates.0 q) refl refl refl
