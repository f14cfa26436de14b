use Rattle.std.proofs.Common.{sym}
use Rattle.node_text.proofs.laws.what_is_read_is_written_back.Goals as goal

pub returns : goal.returns
returns c = λ bytes tables is. sym is.written
