use Rattle.std.proofs.Common.{◌+◌, ◌∷◌, ap}
use Rattle.zpl_binding.specs.of_zpl_names.Counts.{expr_nodes}
use Rattle.zpl_meaning.specs.Outcome.{counting}
use Rattle.zpl_meaning.specs.Statement.{nodes_under}
use Rattle.zpl_meaning.proofs.TrapLemmas.{single_traps, trapped}
use Rattle.zpl_meaning.proofs.laws.traps_leave_nothing_behind.Goals as goal

pub returns : goal.returns
returns c = record {
  statements = single_traps;
  prefixes = λ context n at prefix rest form store kind e.
      ap (counting (1 + nodes_under (prefix ∷ rest) form)) (trapped _ store _ _ kind e);
  tests = λ place test at one other store kind e.
      ap (counting (1 + expr_nodes test)) (trapped _ store _ _ kind e);
  heads = λ context n at head body store kind e. trapped _ store _ _ kind e;
  actuals = λ context n at name actuals store kind e. trapped _ store _ _ kind e;
  answers = λ context n at offset target name actuals store kind e. trapped _ store _ _ kind e;
}
