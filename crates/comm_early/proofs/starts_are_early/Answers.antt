use Rattle.comm_early.proofs.EarlyLemmas.{early, still_merged, still_new}
use Rattle.comm_early.proofs.starts_are_early.Goals as goal

pub returns : goal.returns
returns c = record {
  early = λ links plan. early plan links;
  not_redundant = λ links plan. still_new plan links;
  merged = λ links plan. still_merged plan links;
}
