use Rattle.gen_claims.proofs.CauseLemmas.{exact}
use Rattle.gen_claims.proofs.laws.gen_statuses_are_exact.Goals as goal

pub returns : goal.returns
returns c = λ words ran n told cause.
    exact words ran (record {
      orders = c.given_turns_are_orders.ensures.below;
      stays = c.over_stays.ensures;
      below = c.orders_have_their_bounds.ensures.below;
    }) n told cause
