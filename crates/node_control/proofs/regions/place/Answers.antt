use Rattle.std.proofs.Common.{ap, ◌∙◌, subst}
use Rattle.std.specs.Prelude.{OkIff}
use Rattle.zpl_region.specs.Region.{IsWithinLimit}
use Rattle.grid_meaning.specs.Action.{goes_on}
use Rattle.node_local.specs.Workplace.{Workplace}
use Rattle.node_control.proofs.MoveLemmas.{passed, placed}
use Rattle.node_control.proofs.regions.place.Goals as goal

pub returns-in-Ok : goal.returns-in-Ok
returns-in-Ok c = λ region steps told.
    placed c.args.local.now c.go_on.new.local c.args.slot c.args.line c.in-Ok.region region steps
    (subst (λ m. OkIff m (IsWithinLimit region) region) c.in-Ok.is told)
    (c.go_on.ensures ∙ ap (λ (w : Workplace). record w { local = goes_on w.local }) c.set_slot.ensures)

pub returns-in-Err : goal.returns-in-Err
returns-in-Err c = λ region steps told.
    passed c.args.local.now c.trap.new.local c.args.slot c.args.line region steps
    (subst (λ m. OkIff m (IsWithinLimit region) region) c.in-Err.is told) c.trap.ensures
