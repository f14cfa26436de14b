use Rattle.fuse_contract.proofs.KnownLemmas.{other_row}
use Rattle.fuse_contract.proofs.known.Known.pass.Goals as goal

pub returns-in_default : goal.returns-in_default
returns-in_default c =
    other_row c.args.row c.in_default.not-Fix c.in_default.not-Dims c.in_default.not-Formed
    c.in_default.not-Need c.in_default.not-Room c.in_default.not-Jump c.in_default.not-Unless
    c.in_default.not-Trap c.in_default.not-End c.args.self.now
