use Rattle.std.specs.Prelude.{All}
use Rattle.save_lines.specs.Line.{IsDimWord, dim_word}
use Rattle.save_lines.proofs.Found.{AreTaken}
use Rattle.save_lines.proofs.words.dims_of.Given as goal

abbrev pub invariant-loop-word : goal.invariant-loop-word
invariant-loop-word l = record {
  taken : AreTaken IsDimWord dim_word (λ word. word.now) l.words l.dims.items l.word-index;
  are : All IsDimWord l.dims.items;
}
