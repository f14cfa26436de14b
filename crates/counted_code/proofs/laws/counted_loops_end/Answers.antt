use Rattle.counted_code.proofs.StepLemmas.{wants_none, within_behind, within_start}
use Rattle.counted_code.proofs.laws.counted_loops_end.Goals as goal

pub returns-clause-start : goal.returns-clause-start
returns-clause-start c n code = within_start n code

pub returns-clause-behind : goal.returns-clause-behind
returns-clause-behind c n m code links row next all after bytes above fits own e =
    within_behind n code m above fits links row next all after bytes own e

pub returns-clause-ends : goal.returns-clause-ends
returns-clause-ends c n m group slot p code members nest all above fits own below e read =
    wants_none n code m above fits group slot p members nest all e read (own p below)
