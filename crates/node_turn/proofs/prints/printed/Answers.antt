use Rattle.std.proofs.Common.{rules, ◌≡◌}
use Rattle.std.specs.Prelude.{None, Some, slice_get}
use Rattle.grid_meaning.specs.Action.{goes_on}
use Rattle.node_turn.proofs.ActLemmas.{three_of}
use Rattle.node_turn.proofs.TurnLemmas.{ready_on}
use Rattle.node_turn.proofs.prints.printed.Goals as goal

pub returns-clause-ready : goal.returns-clause-ready
returns-clause-ready c =
    let there : slice_get c.args.code.now.code c.args.local.now.local.at ≡ Some c.unwrap.result.now = search rules in
    ready_on c.args.code.now c.args.p c.args.local.now c.go_on.new.self (goes_on c.args.local.now.local) c.requires.ready c.go_on.ensures
    (c.states_are_kept.ensures.moves c.args.code.now c.args.p c.args.local.now.local (goes_on c.args.local.now.local) None c.requires.prints.0
    c.tables.ensures.fits (three_of c.args.code.now c.args.local.now.local c.unwrap.result.now there c.see_three.ensures)
    c.requires.ready.state c.requires.prints.1.action)
