use Rattle.std.proofs.Common.{◌≡◌, sym, subst}
use Rattle.std.specs.Prelude.{Some}
use Rattle.grid_meaning.specs.Collective.{stage_of}
use Rattle.node_loop.specs.of_node_stages.declared.stages.Stage.{Stage}
use Rattle.node_loop.specs.of_node_stages.Stage.{staged}
use Rattle.row_turn.specs.Together.{OfRow}
use Rattle.node_turn.proofs.QuietLemmas.{rests_alone, rests_last}
use Rattle.node_turn.proofs.resting.rests_together.Goals as goal

pub returns-in-Alone : goal.returns-in-Alone
returns-in-Alone c =
    sym (rests_alone c.args.code.now c.args.p c.args.local.now c.args.row.now c.requires.at c.args.links.now c.requires.together
    (subst (λ (s : Stage). OfRow c.args.code.now c.args.p c.args.row.now (λ r. stage_of r c.args.local.now.local ≡ Some (staged s))) c.in-Alone.is
    c.row_stage.ensures.stage))

pub returns-in-Last : goal.returns-in-Last
returns-in-Last c =
    sym (rests_last c.args.code.now c.args.p c.args.local.now c.args.row.now c.requires.at c.args.links.now c.requires.together
    (subst (λ (s : Stage). OfRow c.args.code.now c.args.p c.args.row.now (λ r. stage_of r c.args.local.now.local ≡ Some (staged s))) c.in-Last.is
    c.row_stage.ensures.stage))
