use Rattle.std.proofs.Common.{ap}
use Rattle.zpl_meaning.proofs.GrowthLemmas.{outcome_of-stays}
use Rattle.zpl_meaning.proofs.laws.endings_stay.Goals as goal

pub returns : goal.returns
returns c = record {
  meaning = λ program settings n m h ended. ap
      (λ outcome. record { bytes = outcome.bytes; ending = outcome.ending })
      (outcome_of-stays program settings n m h ended);
  steps = λ program settings n m h ended. ap (λ outcome. outcome.steps)
      (outcome_of-stays program settings n m h ended);
}
