use Rattle.std.proofs.Common.{◌≡◌, ◌+◌, refl, rules}
use Rattle.fuse_contract.proofs.KnownLemmas.{slot_forgotten}
use Rattle.fuse_contract.proofs.known.Known.forget_slot.Goals as goal

pub returns : goal.returns
returns c =
    let later : c.in_ok-time.time ≡ c.args.self.now.time + 1 = search rules in
    slot_forgotten c.args.self.now _ c.args.slot later
    (λ q. c.in_ok-insert.ensures.updates.0 q) refl refl
