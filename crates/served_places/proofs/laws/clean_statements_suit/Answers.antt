use Rattle.served_places.proofs.CleanLemmas.{stmt_served}
use Rattle.served_places.proofs.laws.clean_statements_suit.Goals as goal

pub returns : goal.returns
returns g c = λ spots setup shattered result environment answer stmt.
    stmt_served spots setup g.C.Callables.IsCallable shattered result environment answer stmt
