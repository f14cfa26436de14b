use Rattle.call_claims.specs.Call.{Call, call_of}
use Rattle.run_claims.proofs.WholeLemmas.{finishes, takes_meant}
use Rattle.run_claims.proofs.laws.runs_print_what_is_meant.Goals as goal

pub returns-clause-finished : goal.returns-clause-finished
returns-clause-finished g c = λ files words ran status told cause settled file asked given bound can.
    finishes (record {
      orders = c.given_turns_are_orders.ensures.below;
      stays = c.over_stays.ensures;
      below = c.orders_have_their_bounds.ensures.below;
    }) c.endings_stay.ensures.meaning c.texts_have_one_program.ensures
    (call_of words (g.F.Files.tells files) (g.F.Files.may_fail files)
    (g.F.Files.may_fail_later files)) ran file asked bound settled given can cause

pub returns-clause-taken : goal.returns-clause-taken
returns-clause-taken g c =
    λ files out taken words ran status settled file asked given bound can finished printed.
    takes_meant (call_of words (g.F.Files.tells files) (g.F.Files.may_fail files)
    (g.F.Files.may_fail_later files)) file asked bound status settled given can ran (g.O.Sink.tells out)
    (g.O.Sink.tells taken) finished printed
