use Rattle.std.proofs.Common.{arith, inl, inr}
use Rattle.std.proofs.lemmas.Int.{ints}
use Rattle.grid_layout.proofs.DimLemmas.{placed, placed_far}
use Rattle.grid_layout.proofs.dims.place.Goals as goal
use Rattle.grid_layout.proofs.dims.place.Goals.{then-d-via-then-d, then-d-via-else-d+then-d-gt-FARTHEST_SHIFT}

pub returns : goal.returns
returns c =
    let r = c.in-Range in
    placed c.part-2.result c.args.held c.args.dim c.moved.result c.args.d _ r.lo r.hi _ _ r.step r.align r.is (omega (arith, ints)) (omega (arith, ints)) (omega (arith, ints)) c.in_default-dim.not-Flood c.moved.ensures c.part-2.ensures

pub returns-then-d : goal.returns-then-d
returns-then-d c =
    let r = c.in-Range in
    placed_far c.all_from-then-d.result c.args.held c.args.dim c.args.d r.lo r.hi r.step r.align r.is c.requires.held c.requires.dim c.in_default-dim.not-Flood
    (elim c.then-d.branch [ then-d-via-then-d w ↦ inl (omega (arith, ints)) | then-d-via-else-d+then-d-gt-FARTHEST_SHIFT w ↦ inr (omega (arith, ints)) ]) c.all_from-then-d.ensures
