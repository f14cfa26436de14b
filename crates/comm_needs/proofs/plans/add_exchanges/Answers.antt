use Rattle.std.proofs.Common.{◌≡◌, ◌∙◌, ap, rules}
use Rattle.plan_form.specs.Draft.{with_exchange}
use Rattle.comm_needs.proofs.NeedLemmas.{alone_more}
use Rattle.comm_needs.proofs.plans.add_exchanges.Goals as goal

pub loop-i-preserved : goal.loop-i-preserved
loop-i-preserved c =
    alone_more c.args.draft.now c.loop-i.draft c.push_exchange.new.self c.args.needs.now c.loop-i.i
    c.unwrap-item.result (search rules) c.loop-i.invariant
    (c.in_ok-push_exchange.ensures
    ∙ ap (with_exchange c.loop-i.draft) (c.of.ensures ∙ c.in_ok-items.ensures.items))
