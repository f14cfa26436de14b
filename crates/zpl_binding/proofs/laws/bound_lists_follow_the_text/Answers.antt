use Rattle.zpl_binding.proofs.DeclarationLemmas.{value-names, region-names, direction-names, bound-entries}
use Rattle.zpl_binding.proofs.laws.bound_lists_follow_the_text.Goals as goal

pub returns-clause-values : goal.returns-clause-values
returns-clause-values c = value-names

pub returns-clause-regions : goal.returns-clause-regions
returns-clause-regions c = region-names

pub returns-clause-directions : goal.returns-clause-directions
returns-clause-directions c = direction-names

pub returns-clause-lists : goal.returns-clause-lists
returns-clause-lists c = bound-entries
