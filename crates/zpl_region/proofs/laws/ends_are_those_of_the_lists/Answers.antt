use Rattle.zpl_region.proofs.DimLemmas.{Among-coordinates}
use Rattle.zpl_region.proofs.EndLemmas.{between_ends, first_member, last_member, length-coordinates, length-tuple_count, single_iff}
use Rattle.zpl_region.proofs.laws.ends_are_those_of_the_lists.Goals as goal

pub returns : goal.returns
returns c = record {
  count = length-coordinates;
  between = λ d x h is. between_ends d x h (Among-coordinates d x h is);
  single = single_iff;
  members = λ r h. length-tuple_count r.dims h;
  least = first_member;
  greatest = last_member;
}
