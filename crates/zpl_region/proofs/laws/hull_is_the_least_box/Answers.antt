use Rattle.zpl_region.proofs.HullLemmas.{has_steps, hull_boxed, hull_in_box, hull_region, member_of_hull}
use Rattle.zpl_region.proofs.laws.hull_is_the_least_box.Goals as goal

pub returns : goal.returns
returns c = record {
  holds = member_of_hull;
  least = λ r lo hi is. hull_in_box r lo hi (has_steps r.dims is.dims) is.padded;
  boxed = λ r is. hull_boxed r is.padded;
  region = hull_region;
}
