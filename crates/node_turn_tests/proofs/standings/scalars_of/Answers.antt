use Rattle.std.proofs.Common.{rules, sym, ◌∙◌}
use Rattle.node_turn_tests.proofs.StandingLemmas.{one_more_word}
use Rattle.node_turn_tests.proofs.standings.scalars_of.Goals as goal

pub loop-i-preserved : goal.loop-i-preserved
loop-i-preserved c =
    one_more_word c.args.local.now.local.scalars c.loop-i.words.items c.push.new.self.items c.loop-i.i c.in-Some.value _
    c.loop-i.invariant (sym c.scalar.ensures ∙ c.in-Some.is) c.in_ok-push.ensures.items (search rules)
