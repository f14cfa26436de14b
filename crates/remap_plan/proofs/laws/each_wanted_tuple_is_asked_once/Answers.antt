use Rattle.remap_plan.proofs.RequestLemmas.{asked_once}
use Rattle.remap_plan.proofs.laws.each_wanted_tuple_is_asked_once.Goals as goal

pub returns : goal.returns
returns c = asked_once
