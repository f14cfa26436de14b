use Rattle.message_runs.proofs.EdgeRows.{edge_agrees}
use Rattle.message_runs.proofs.edges_agree.Goals as goal

pub returns : goal.returns
returns c = edge_agrees
