use Rattle.bound_check.specs.Checked.{rows_stayed}
use Rattle.flat_passes.proofs.RowLemmas.{IsAt}
use Rattle.bound_check.proofs.checks.code_stayed.Given as goal

abbrev pub invariant-loop-i : goal.invariant-loop-i
invariant-loop-i l = IsAt (rows_stayed l.tables) l.tables.code l.i l.code l.numbers
