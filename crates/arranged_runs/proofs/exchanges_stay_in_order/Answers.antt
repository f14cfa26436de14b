use Rattle.arranged_runs.proofs.ArrangedLemmas.{arranged_in_order}
use Rattle.arranged_runs.proofs.SentLemmas.{sent_in_order}
use Rattle.arranged_runs.proofs.exchanges_stay_in_order.Goals as goal

pub returns : goal.returns
returns c = record { early = sent_in_order; arranged = arranged_in_order }
