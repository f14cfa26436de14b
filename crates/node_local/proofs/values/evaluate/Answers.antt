use Rattle.std.proofs.Common.{◌≡◌, drop, [], ap, ◌∙◌, arith}
use Rattle.std.proofs.lemmas.List.{drop_all}
use Rattle.grid_meaning.specs.of_node_form.Value.{evaluated, and_then, only_value}
use Rattle.node_local.specs.Computing.{operands_in}
use Rattle.node_local.proofs.StackLemmas.{not_one}
use Rattle.node_local.proofs.values.evaluate.Goals as goal

pub returns-else-top-count : goal.returns-else-top-count
returns-else-top-count c =
    let operands = operands_in c.args.memory.now c.args.index.now in
    let stack = c.loop-word.stack in
    let done : drop c.loop-word.word-index c.args.words.now ≡ [] = drop_all c.loop-word.word-index c.args.words.now (omega arith) in
    ap (and_then only_value) (c.loop-word.invariant.value ∙ ap (λ words. evaluated operands words (drop c.loop-word.top stack)) done)
    ∙ not_one stack c.loop-word.top (λ one. c.if-top-count.false (omega (arith, one)))
