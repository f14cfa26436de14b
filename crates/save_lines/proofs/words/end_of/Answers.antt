use Rattle.std.proofs.Common.{◌≡◌, map, ap, ◌∙◌}
use Rattle.std.specs.Prelude.{Some}
use Rattle.std.specs.List.{slice_split}
use Rattle.save_lines.specs.declared.lines.EndWord.{EndWord}
use Rattle.save_lines.specs.declared.lines.EndWord.TheVariants.{Going, Done, Trap}
use Rattle.save_lines.specs.Line.{IsEndWord, end_word}
use Rattle.save_lines.specs.Reading.{is_cut, trap_pieces}
use Rattle.save_lines.proofs.Gaps.{trap_cut}
use Rattle.save_lines.proofs.words.end_of.Goals as goal

pub returns-clause-found : goal.returns-clause-found
returns-clause-found c = by where
  by : (end : EndWord) → IsEndWord end → c.args.word.now ≡ end_word end → c.trap_of.result ≡ Some end
  by Going is written = let same = c.is_word.ensures.1 written in let other = c.if-is_word.false in absurd cc
  by Done is written = let same = c.is_word-2.ensures.1 written in let other = c.if-is_word-2.false in absurd cc
  by (Trap kind line) is written =
      let pieces : map (λ piece. piece.now) c.deref.result.now ≡ trap_pieces kind line =
      ap (map (λ piece. piece.now)) c.deref.ensures.value ∙ (c.in_ok-pieces.ensures ∙ (ap (slice_split is_cut) written ∙ trap_cut kind line is)) in
      c.trap_of.ensures.found kind line is pieces
