use Rattle.listing_lines.proofs.OneText.{same_line}
use Rattle.listing_lines.proofs.laws.lines_are_told_apart.Goals as goal

pub returns : goal.returns
returns c = same_line
