use Rattle.remap_plan.proofs.WholeLemmas.{asked_home, asked_whole}
use Rattle.remap_plan.proofs.laws.what_is_asked_is_at_home.Goals as goal

pub returns : goal.returns
returns c = record { whole = asked_whole; home = asked_home }
