use Rattle.zpl_meaning.proofs.CallLemmas.{visited_calls}
use Rattle.zpl_meaning.proofs.laws.visited_statements_make_visited_calls.Goals as goal

pub returns : goal.returns
returns c = visited_calls
