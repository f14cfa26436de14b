use Rattle.lowering_checks.proofs.TableLemmas.{checks_follow}
use Rattle.lowering_checks.proofs.laws.checks_say_what_follows.Goals as goal

pub returns : goal.returns
returns c = checks_follow
