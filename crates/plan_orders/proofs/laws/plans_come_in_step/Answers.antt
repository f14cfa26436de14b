use Rattle.plan_orders.proofs.RowLemmas.{come_in_step}
use Rattle.plan_orders.proofs.laws.plans_come_in_step.Goals as goal

pub returns : goal.returns
returns c code links capable fits =
    come_in_step code links capable fits
    (λ p below. c.states_are_kept.ensures.start code p below fits)
    (λ p local next sent shown three is goes.
    c.states_are_kept.ensures.moves code p local next sent shown fits three is goes)
    (λ p local next from message is waits takes.
    c.states_are_kept.ensures.messages code p local next from message fits is waits takes)
