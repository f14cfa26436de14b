use Rattle.zpl_binding.proofs.LimitLemmas.{bound-within}
use Rattle.zpl_binding.proofs.BoxLemmas.{bound-boxed}
use Rattle.zpl_binding.proofs.KeptLemmas.{bound-formed}
use Rattle.zpl_binding.proofs.laws.bound_lists_are_within_limits.Goals as goal

pub returns : goal.returns
returns c = record { limits = bound-within; boxes = bound-boxed; formed = bound-formed }
