use Rattle.zpl_region.proofs.HullWithLemmas.{hull_with_boxed, hull_with_in_box, hull_with_region, left_member, right_member}
use Rattle.zpl_region.proofs.laws.hull_of_two_is_the_least_box.Goals as goal

pub returns : goal.returns
returns c = record { mine = left_member; theirs = right_member; least = hull_with_in_box; boxed = hull_with_boxed; region = hull_with_region }
