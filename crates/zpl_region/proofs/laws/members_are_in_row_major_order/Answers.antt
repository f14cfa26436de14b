use Rattle.zpl_region.proofs.LawLemmas.{members_distinct, members_in_order}
use Rattle.zpl_region.proofs.laws.members_are_in_row_major_order.Goals as goal

pub returns : goal.returns
returns c = record { order = members_in_order; distinct = members_distinct }
