use Rattle.array_writes.proofs.WriteLemmas.{write_is}
use Rattle.array_writes.proofs.laws.writes_are_those_of_functions.Goals as goal

pub returns : goal.returns
returns c = write_is
