use Rattle.zpl_region.proofs.LawLemmas.{members-met}
use Rattle.zpl_region.proofs.laws.meeting_keeps_members_in_order.Goals as goal

pub returns : goal.returns
returns c = members-met
