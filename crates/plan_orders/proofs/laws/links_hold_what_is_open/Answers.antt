use Rattle.plan_orders.proofs.OpenLemmas.{hold_open, same_over}
use Rattle.plan_orders.proofs.laws.links_hold_what_is_open.Goals as goal

pub returns-clause-same : goal.returns-clause-same
returns-clause-same c = same_over

pub returns-clause-holds : goal.returns-clause-holds
returns-clause-holds c code fits =
    hold_open code (λ most some. c.links_hold_few.ensures.holds code most some fits)
