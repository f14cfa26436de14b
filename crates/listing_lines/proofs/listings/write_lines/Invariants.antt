use Rattle.std.proofs.Common.{◌≡◌, ◌++◌, drop}
use Rattle.listing_lines.specs.Line.{lines_text}
use Rattle.listing_lines.proofs.listings.write_lines.Given as goal

abbrev pub invariant-loop-line : goal.invariant-loop-line
invariant-loop-line l = l.text.items ++ lines_text (drop l.line-index l.lines) ≡ lines_text l.lines
