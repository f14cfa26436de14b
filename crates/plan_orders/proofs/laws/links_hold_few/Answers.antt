use Rattle.std.proofs.Common.{Some}
use Rattle.plan_orders.proofs.LinkLemmas.{shows_freely}
use Rattle.plan_orders.proofs.RoomLemmas.{hold_few}
use Rattle.plan_orders.proofs.laws.links_hold_few.Goals as goal

pub returns-clause-holds : goal.returns-clause-holds
returns-clause-holds c code most some fits =
    hold_few code most (c.plans_come_in_step.ensures code (Some most) some fits)

pub returns-clause-same : goal.returns-clause-same
returns-clause-same c = shows_freely
