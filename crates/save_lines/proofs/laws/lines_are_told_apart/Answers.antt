use Rattle.save_lines.proofs.OneText.{same_line}
use Rattle.save_lines.proofs.laws.lines_are_told_apart.Goals as goal

pub returns : goal.returns
returns c = same_line
