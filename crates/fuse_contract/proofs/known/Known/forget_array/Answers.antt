use Rattle.std.proofs.Common.{◌≡◌, ◌+◌, refl, rules}
use Rattle.fuse_contract.proofs.KnownLemmas.{array_forgotten}
use Rattle.fuse_contract.proofs.known.Known.forget_array.Goals as goal

pub returns : goal.returns
returns c =
    let later : c.in_ok-time.time ≡ c.args.self.now.time + 1 = search rules in
    array_forgotten c.args.self.now _ c.args.array later
    (λ q. c.in_ok-insert.ensures.updates.0 q) refl refl
