use Rattle.std.proofs.Common.{[], ap}
use Rattle.std.specs.Prelude.{None, if◌then◌else◌}
use Rattle.fuse_contract.specs.Fusing.{last_rows}
use Rattle.fuse_contract.proofs.StepLemmas.{as_before}
use Rattle.fuse_contract.proofs.joins.push_unless.Goals as goal

pub returns-then-joined : goal.returns-then-joined
returns-then-joined c =
    λ code facts behind.
    as_before code c.args.walk.now facts _ _ behind
    (ap (λ b. if b then [] else last_rows facts.last) c.if-joined.true)
    (ap (λ b. record facts { last = (if b then facts.last else None) }) c.if-joined.true)
