use Rattle.call_claims.specs.Call.{call_of}
use Rattle.run_claims.proofs.CauseLemmas.{exactly}
use Rattle.run_claims.proofs.laws.run_causes_are_exact.Goals as goal

pub returns : goal.returns
returns g c = λ files words ran n told cause.
    exactly (call_of words (g.F.Files.tells files) (g.F.Files.may_fail files) (g.F.Files.may_fail_later files)) ran
    (record {
      orders = c.given_turns_are_orders.ensures.below;
      stays = c.over_stays.ensures;
      below = c.orders_have_their_bounds.ensures.below;
    }) n told cause
