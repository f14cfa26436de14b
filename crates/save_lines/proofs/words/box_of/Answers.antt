use Rattle.std.proofs.Common.{◌≡◌, map, ap, ◌∙◌}
use Rattle.std.specs.Prelude.{Some}
use Rattle.std.specs.List.{slice_split}
use Rattle.save_lines.specs.declared.lines.BoxDim.{BoxDim}
use Rattle.save_lines.specs.declared.lines.BoxDim.TheVariants.{Range, Star}
use Rattle.save_lines.specs.Line.{IsBoxWord, box_word}
use Rattle.save_lines.specs.Reading.{is_cut, side_pieces}
use Rattle.save_lines.proofs.Gaps.{side_cut}
use Rattle.save_lines.proofs.words.box_of.Goals as goal

pub returns-clause-found : goal.returns-clause-found
returns-clause-found c = by where
  by : (d : BoxDim) → IsBoxWord d → c.args.word.now ≡ box_word d → c.side_of.result ≡ Some d
  by Star is written = let same = c.is_word.ensures.1 written in let other = c.if-is_word.false in absurd cc
  by (Range lo hi) is written =
      let pieces : map (λ piece. piece.now) c.deref.result.now ≡ side_pieces lo hi =
      ap (map (λ piece. piece.now)) c.deref.ensures.value ∙ (c.in_ok-pieces.ensures ∙ (ap (slice_split is_cut) written ∙ side_cut lo hi is)) in
      c.side_of.ensures.found lo hi is pieces
