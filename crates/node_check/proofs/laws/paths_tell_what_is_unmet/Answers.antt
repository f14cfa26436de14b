use Rattle.node_check.proofs.PathLemmas.{unmet_along}
use Rattle.node_check.proofs.laws.paths_tell_what_is_unmet.Goals as goal

pub returns : goal.returns
returns c code at opened known row learns there unmet =
    unmet_along code at opened known row learns there unmet
