use Rattle.std.proofs.Common.{◌≡◌, ◌++◌, drop}
use Rattle.array_prints.specs.RowText.{line_text, value_text}
use Rattle.array_prints.proofs.PartLemmas.{rest_text}
use Rattle.array_prints.proofs.prints.push_line.Given as goal

abbrev pub invariant-loop-i : goal.invariant-loop-i
invariant-loop-i l =
    l.into.items ++ rest_text (value_text l.truth) (drop l.i l.values) ≡ l.fn.into.items ++ line_text l.truth l.values
