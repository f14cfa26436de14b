-- There are fewer lines than bytes.
use Rattle.std.proofs.Common.{◌*◌, ◌≤◌, List, [], ◌∷◌, length, arith}
use Rattle.listing_rules.specs.of_listing_lines.declared.lines.Line.{Line}
use Rattle.listing_rules.specs.of_listing_lines.Line.{line_text, lines_text}
use Rattle.listing_rules.proofs.of_listing_lines.Steps.{length_more}
use Rattle.std.proofs.lemmas.List.{append_assoc}

pub lines_shorter : (lines : List Line) → 2 * length lines ≤ length (lines_text lines)
lines_shorter [] = omega arith
lines_shorter (line ∷ lines) =
    let more = length_more (lines_text (line ∷ lines)) (lines_text lines) line (append_assoc (line_text line) (10 ∷ []) (lines_text lines)) in
    let others = lines_shorter lines in
    omega (arith, more, others)
