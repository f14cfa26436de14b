use Rattle.arranged_runs.proofs.ArrangedLemmas.{arranged_fits, arranged_grid, arranged_keeps}
use Rattle.arranged_runs.proofs.ArrangedLemmas.{arranged_three}
use Rattle.arranged_runs.proofs.plan_passes_keep_runs.Goals as goal

pub returns : goal.returns
returns c = record {
  runs = arranged_keeps;
  fits = arranged_fits;
  three = arranged_three;
  grid = arranged_grid;
}
