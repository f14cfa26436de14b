use Rattle.pass_parts.proofs.FusedLoops.{all_joined}
use Rattle.pass_parts.proofs.laws.loops_are_joined_wherever_they_can_be.Goals as goal

pub returns : goal.returns
returns c = all_joined
