use Rattle.zpl_text.proofs.OneWay.{tokens_unique, fault_unique, not_both}
use Rattle.zpl_text.proofs.laws.text_is_cut_one_way.Goals as goal

pub returns-clause-tokens : goal.returns-clause-tokens
returns-clause-tokens c = tokens_unique

pub returns-clause-fault : goal.returns-clause-fault
returns-clause-fault c = fault_unique

pub returns-clause-not_both : goal.returns-clause-not_both
returns-clause-not_both c = not_both
