use Rattle.std.proofs.Common.{refl, sym, ◌∙◌, ap, Some, None}
use Rattle.std.specs.Prelude.{if◌then◌else◌}
use Rattle.grid_layout.specs.Layout.{laid_out, owner_of}
use Rattle.remap_plan.proofs.HomeLemmas.{home_told}
use Rattle.remap_plan.proofs.homes.home.Goals as goal

pub returns-then-contains : goal.returns-then-contains
returns-then-contains c =
    let box = c.array_box.result in
    let sound = c.array_box.ensures.sound in
    sym (ap (λ b. if b then Some c.owner.result else None) c.if-contains.true)
    ∙ home_told c.args.layout.now c.args.array c.args.x.now c.tuple-x.result box c.contains.result c.owner.result c.tuple-x.ensures c.array_box.ensures.same sound.region c.contains.ensures c.owner.ensures.owner

pub returns-else-contains : goal.returns-else-contains
returns-else-contains c =
    let box = c.array_box.result in
    let sound = c.array_box.ensures.sound in
    let owner = owner_of (laid_out c.args.layout.now) box.shape.rank c.tuple-x.result in
    sym (ap (λ b. if b then Some owner else None) c.if-contains.false)
    ∙ home_told c.args.layout.now c.args.array c.args.x.now c.tuple-x.result box c.contains.result owner c.tuple-x.ensures c.array_box.ensures.same sound.region c.contains.ensures refl
