use Rattle.program_texts.proofs.LineLemmas.{program_short}
use Rattle.program_texts.proofs.laws.drawn_programs_are_short.Goals as goal

pub returns : goal.returns
returns c = program_short
