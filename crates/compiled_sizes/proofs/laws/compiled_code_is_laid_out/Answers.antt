use Rattle.compiled_sizes.proofs.CheckLemmas.{still_undecided}
use Rattle.compiled_sizes.proofs.LayoutLemmas.{laid_out, trees}
use Rattle.compiled_sizes.proofs.laws.compiled_code_is_laid_out.Goals as goal

pub returns : goal.returns
returns c = record { laid_out = laid_out; undecided = still_undecided; by_trees = trees }
