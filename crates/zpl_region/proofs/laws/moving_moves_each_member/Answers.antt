use Rattle.zpl_region.proofs.LawLemmas.{members-moved}
use Rattle.zpl_region.proofs.laws.moving_moves_each_member.Goals as goal

pub returns : goal.returns
returns c = members-moved
