use Rattle.zpl_binding.proofs.ExpandedLemmas.{expanded-told, expanded-within}
use Rattle.zpl_binding.proofs.laws.copies_of_the_expanded_program_are_told.Goals as goal

pub returns : goal.returns
returns c = record { told = expanded-told; within = expanded-within }
