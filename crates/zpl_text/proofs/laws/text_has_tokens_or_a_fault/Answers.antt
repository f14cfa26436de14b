use Rattle.zpl_text.proofs.Progress.{tokens_or_fault}
use Rattle.zpl_text.proofs.laws.text_has_tokens_or_a_fault.Goals as goal

pub returns : goal.returns
returns c = tokens_or_fault
