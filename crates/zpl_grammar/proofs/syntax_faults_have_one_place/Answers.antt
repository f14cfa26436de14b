use Rattle.zpl_grammar.proofs.Faults.{one_place}
use Rattle.zpl_grammar.proofs.syntax_faults_have_one_place.Goals as goal

pub returns : goal.returns
returns c = one_place
