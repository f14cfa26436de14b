use Rattle.zpl_region.proofs.LawLemmas.{one_normal_form, same_list}
use Rattle.zpl_region.proofs.laws.same_sets_have_one_normal_form.Goals as goal

pub returns : goal.returns
returns c = record { list = same_list; normal = one_normal_form }
