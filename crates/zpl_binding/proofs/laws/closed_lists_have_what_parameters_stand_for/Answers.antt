use Rattle.zpl_binding.proofs.FormalLemmas.{called-listed, standing-listed, copies-within}
use Rattle.zpl_binding.proofs.laws.closed_lists_have_what_parameters_stand_for.Goals as goal

pub returns : goal.returns
returns c = record { called = called-listed; standing = standing-listed; copies = copies-within }
