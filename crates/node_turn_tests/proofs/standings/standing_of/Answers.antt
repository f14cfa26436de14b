use Rattle.std.proofs.Common.{rules, ◌∙◌, ◌≡◌, length}
use Rattle.node_turn_tests.proofs.StandingLemmas.{are_arrays, as_many}
use Rattle.node_turn_tests.proofs.standings.standing_of.Goals as goal

pub stores_of-requires-clause-arrays : goal.stores_of-requires-clause-arrays
stores_of-requires-clause-arrays c =
    are_arrays c.args.code.now c.args.p c.args.code.now.arrays c.args.local.now.local.stores c.requires.state.parts.stores

pub stores_of-requires-clause-count : goal.stores_of-requires-clause-count
stores_of-requires-clause-count c =
    let many : length c.args.code.now.arrays ≡ c.in-Ok.arrays = search rules in
    as_many c.args.code.now c.args.p c.args.code.now.arrays c.args.local.now.local.stores c.requires.state.parts.stores ∙ many
