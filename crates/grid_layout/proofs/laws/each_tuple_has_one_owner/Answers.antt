use Rattle.grid_layout.proofs.OwnerLemmas.{one_owner, owner_is_one}
use Rattle.grid_layout.proofs.laws.each_tuple_has_one_owner.Goals as goal

pub returns : goal.returns
returns c = record { processor = owner_is_one; one = one_owner }
