use Rattle.node_form.proofs.NestLemmas.{IsNest-opened}
use Rattle.node_form.proofs.laws.members_nest.Goals as goal

pub returns : goal.returns
returns c = IsNest-opened
