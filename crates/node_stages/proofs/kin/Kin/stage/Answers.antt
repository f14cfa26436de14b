use Rattle.std.proofs.Common.{◌≡◌, ◌+◌, ◌-◌, ◌<◌, sym, subst, ap, ◌∙◌, arith}
use Rattle.std.specs.Prelude.{Some, slice_get, length}
use Rattle.grid_meaning.specs.Collective.{TakesFrom, agreeing_stages}
use Rattle.node_stages.specs.Kin.{kin_of, stages_behind}
use Rattle.node_stages.specs.Stage.{staged}
use Rattle.node_stages.proofs.StageLemmas.{range_at, range_past, length-range}
use Rattle.node_stages.proofs.kin.Kin.stage.Goals as goal

pub later_stage-requires : goal.later_stage-requires
later_stage-requires c =
    let within : c.args.made < length (agreeing_stages (kin_of c.self.inside)) =
    subst (λ kin. c.args.made < length (agreeing_stages kin)) (sym c.self.view_is) c.requires in
    subst (λ kin. c.args.made - c.from-many.result < length (stages_behind kin)) c.self.view_is
    (omega (arith, length-range TakesFrom (stages_behind (kin_of c.self.inside)) c.self.inside.first c.self.inside.many))

pub returns-then-made-many : goal.returns-then-made-many
returns-then-made-many c =
    subst (λ kin. slice_get (agreeing_stages kin) c.args.made ≡ Some (TakesFrom (c.self.inside.first + c.args.made))) c.self.view_is
    (range_at TakesFrom _ c.self.inside.first c.self.inside.many c.args.made (omega arith))

pub returns-else-made-many : goal.returns-else-made-many
returns-else-made-many c =
    let behind : slice_get (stages_behind (kin_of c.self.inside)) (c.args.made - c.from-many.result) ≡ Some (staged c.later_stage.result) =
    subst (λ kin. slice_get (stages_behind kin) (c.args.made - c.from-many.result) ≡ Some (staged c.later_stage.result)) (sym c.self.view_is)
    c.later_stage.ensures in
    let place : c.args.made ≡ c.self.inside.many + (c.args.made - c.from-many.result) = omega arith in
    subst (λ kin. slice_get (agreeing_stages kin) c.args.made ≡ Some (staged c.later_stage.result)) c.self.view_is
    (ap (slice_get (agreeing_stages (kin_of c.self.inside))) place
    ∙ (range_past TakesFrom (stages_behind (kin_of c.self.inside)) c.self.inside.first c.self.inside.many (c.args.made - c.from-many.result)
    ∙ behind))
