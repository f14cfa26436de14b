use Rattle.grid_layout.proofs.PartLemmas.{owner_for_below, owner_for_ranges, parts_by_owner}
use Rattle.grid_layout.proofs.laws.owned_parts_go_by_owners.Goals as goal

pub returns : goal.returns
returns c = record { below = owner_for_below; part = parts_by_owner; plain = owner_for_ranges }
