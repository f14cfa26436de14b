use Rattle.std.proofs.Common.{drop, map}
use Rattle.std.specs.Prelude.{All}
use Rattle.zpl_nums.specs.Integer.{IsInteger}
use Rattle.listing_lines.proofs.Taken.{AreLeft}
use Rattle.listing_lines.proofs.numbers.numbers_in.Given as goal

abbrev pub invariant-loop-piece : goal.invariant-loop-piece
invariant-loop-piece l = record {
  left : AreLeft l.word l.numbers.items (drop l.piece-index (map (λ piece. piece.now) l.piece-items));
  range : All IsInteger l.numbers.items;
}
