use Rattle.zpl_names.proofs.ReachedLemmas.{closed-has}
use Rattle.zpl_names.proofs.laws.closed_lists_have_what_is_reached.Goals as goal

pub returns : goal.returns
returns c = closed-has
