use Rattle.gen_claims.proofs.MeantLemmas.{lines_meant}
use Rattle.gen_claims.proofs.laws.lines_tell_what_is_meant.Goals as goal

pub returns : goal.returns
returns c =
    lines_meant (record {
      orders = c.given_turns_are_orders.ensures.below;
      stays = c.over_stays.ensures;
      below = c.orders_have_their_bounds.ensures.below;
    }) c.endings_stay.ensures.meaning c.texts_have_one_program.ensures
