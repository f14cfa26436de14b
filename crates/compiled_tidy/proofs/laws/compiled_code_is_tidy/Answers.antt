use Rattle.compiled_tidy.proofs.TidyLemmas.{tidy}
use Rattle.compiled_tidy.proofs.laws.compiled_code_is_tidy.Goals as goal

pub returns : goal.returns
returns c = tidy
