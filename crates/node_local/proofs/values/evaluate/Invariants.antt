use Rattle.std.proofs.Common.{◌≡◌, ◌+◌, ◌≤◌, [], length, drop}
use Rattle.grid_meaning.specs.of_node_form.Value.{evaluated}
use Rattle.node_local.specs.Computing.{operands_in}
use Rattle.node_local.proofs.values.evaluate.Given as goal

-- the words that are left make of the stack what all words make of the empty one
abbrev pub invariant-loop-word : goal.invariant-loop-word
invariant-loop-word l =
    record {
      count : l.count ≡ length l.stack;
      inside : l.top ≤ length l.stack;
      room : length l.stack ≤ l.top + l.word-index;
      value : evaluated (operands_in l.memory l.index) l.words [] ≡ evaluated (operands_in l.memory l.index) (drop l.word-index l.words) (drop l.top l.stack);
    }
