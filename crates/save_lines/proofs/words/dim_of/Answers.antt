use Rattle.std.proofs.Common.{◌≡◌, map, ap, ◌∙◌}
use Rattle.std.specs.Prelude.{Some}
use Rattle.std.specs.List.{slice_split}
use Rattle.zpl_region.specs.declared.dims.Dim.{Dim}
use Rattle.zpl_region.specs.declared.dims.Dim.TheVariants as dim
use Rattle.save_lines.specs.Line.{IsDimWord, dim_word}
use Rattle.save_lines.specs.Reading.{is_cut, range_pieces}
use Rattle.save_lines.proofs.Gaps.{range_cut}
use Rattle.save_lines.proofs.words.dim_of.Goals as goal

pub returns-clause-found : goal.returns-clause-found
returns-clause-found c = by where
  by : (d : Dim) → IsDimWord d → c.args.word.now ≡ dim_word d → c.range_of.result ≡ Some d
  by dim.Flood is written = let same = c.is_word.ensures.1 written in let other = c.if-is_word.false in absurd cc
  by (dim.Range lo hi step align) is written =
      let pieces : map (λ piece. piece.now) c.deref.result.now ≡ range_pieces lo hi step align =
      ap (map (λ piece. piece.now)) c.deref.ensures.value ∙ (c.in_ok-pieces.ensures ∙ (ap (slice_split is_cut) written ∙ range_cut lo hi step align is)) in
      c.range_of.ensures.found lo hi step align is pieces
