use Rattle.array_puts.proofs.PutLemmas.{put_assigns}
use Rattle.array_puts.proofs.laws.one_put_is_an_assignment.Goals as goal

pub returns : goal.returns
returns c = put_assigns
