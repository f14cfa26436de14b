use Rattle.std.specs.Prelude.{All}
use Rattle.std.specs.Fmt.{signed_decimal}
use Rattle.zpl_nums.specs.Integer.{IsInteger}
use Rattle.save_lines.proofs.Found.{AreTaken}
use Rattle.save_lines.proofs.numbers.numbers_of.Given as goal

abbrev pub invariant-loop-word : goal.invariant-loop-word
invariant-loop-word l = record {
  taken : AreTaken IsInteger signed_decimal (λ word. word.now) l.words l.numbers.items l.word-index;
  are : All IsInteger l.numbers.items;
}
