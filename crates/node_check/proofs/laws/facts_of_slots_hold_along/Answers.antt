use Rattle.node_check.proofs.AlongLemmas.{told_behind}
use Rattle.node_check.proofs.ToldLemmas.{told_at_start, told_at_stretch_end}
use Rattle.node_check.proofs.laws.facts_of_slots_hold_along.Goals as goal

pub returns-clause-start : goal.returns-clause-start
returns-clause-start c code = told_at_start code

pub returns-clause-behind : goal.returns-clause-behind
returns-clause-behind c code links n row next all after bytes facts fits straight told e =
    told_behind code links n next all after bytes facts told row fits straight e

pub returns-clause-unchanged : goal.returns-clause-unchanged
returns-clause-unchanged c code row all facts ends told =
    told_at_stretch_end code all facts row ends told
