use Rattle.std.specs.Prelude.{All}
use Rattle.save_lines.specs.Line.{IsBoxWord, box_word}
use Rattle.save_lines.proofs.Found.{AreTaken}
use Rattle.save_lines.proofs.words.boxes_of.Given as goal

abbrev pub invariant-loop-word : goal.invariant-loop-word
invariant-loop-word l = record {
  taken : AreTaken IsBoxWord box_word (λ word. word.now) l.words l.dims.items l.word-index;
  are : All IsBoxWord l.dims.items;
}
