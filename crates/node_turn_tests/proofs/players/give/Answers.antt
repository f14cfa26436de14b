use Rattle.node_turn_tests.proofs.PlayLemmas.{turned_count, turned_ready}
use Rattle.node_turn_tests.proofs.players.give.Goals as goal

pub returns-in_default-clause-ready : goal.returns-in_default-clause-ready
returns-in_default-clause-ready c =
    turned_ready c.args.code.now c.args.player.now.number c.args.player.now.local c.turn_of.new.local c.args.links.now c.turn_of.new.links _
    c.in_ok-step.step c.in_ok-step.ensures.turn c.requires.ready

pub returns-in_default-clause-links : goal.returns-in_default-clause-links
returns-in_default-clause-links c =
    turned_count c.args.code.now c.args.player.now.number c.args.player.now.local c.turn_of.new.local c.args.links.now c.turn_of.new.links _
    c.in_ok-step.step c.in_ok-step.ensures.turn
