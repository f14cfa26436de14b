use Rattle.zpl_region.proofs.LawLemmas.{next_member}
use Rattle.zpl_region.proofs.laws.next_member_is_the_one_after.Goals as goal

pub returns : goal.returns
returns c = next_member
