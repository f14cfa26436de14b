use Rattle.std.proofs.Common.{◌≡◌, ◌<◌, [], sym, ap, ◌∙◌, subst, arith}
use Rattle.std.specs.Prelude.{All}
use Rattle.std.proofs.lemmas.List.Elements.{All-append, All-cons, All-nil}
use Rattle.grid_layout.specs.Grid.{processors_of}
use Rattle.grid_meaning.specs.Local.{processors}
use Rattle.node_local.specs.Workplace.{IsReady}
use Rattle.node_stages.proofs.PieceLemmas.{grid_count}
use Rattle.node_turn_tests.specs.declared.players.Player.{Player}
use Rattle.node_turn_tests.proofs.players.players.Goals as goal

pub new-requires-clause-processor : goal.new-requires-clause-processor
new-requires-clause-processor c =
    let count : c.count-number-end.result ≡ processors c.args.code.now =
    c.count-number-end.ensures.count ∙ (ap processors_of c.grid.ensures ∙ grid_count c.args.code.now c.args.layout.now c.requires.layout) in
    omega (arith, count, c.loop-number-test.true)

pub loop-number-preserved : goal.loop-number-preserved
loop-number-preserved c =
    let P = λ (player : Player). (player.number < processors c.args.code.now) × IsReady c.args.code.now player.number player.local in
    let count : c.count-number-end.result ≡ processors c.args.code.now =
    c.count-number-end.ensures.count ∙ (ap processors_of c.grid.ensures ∙ grid_count c.args.code.now c.args.layout.now c.requires.layout) in
    let below : c.loop-number.number < processors c.args.code.now = omega (arith, count, c.loop-number-test.true) in
    subst (All P) (sym c.in_ok-push.ensures.items)
    (All-append P c.loop-number.players.items _ c.loop-number.invariant (All-cons P _ [] (below, c.in_ok-local.ensures.ready) (All-nil P)))
