use Rattle.temp_norm.specs.Pieces.{row_written}
use Rattle.flat_passes.proofs.DraftLemmas.{IsAhead}
use Rattle.temp_norm.proofs.loops.written.Given as goal

abbrev pub invariant-loop-i : goal.invariant-loop-i
invariant-loop-i l =
    IsAhead (row_written l.tables l.rows) l.tables.code l.i l.draft l.numbers
