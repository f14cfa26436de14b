use Rattle.std.proofs.Common.{◌≡◌, ◌∙◌, ap, arith, get_or, to_z, of_z, w64, pos}
use Rattle.std.proofs.lemmas.Int.{ints}
use Rattle.remap_plan.specs.Request.{held_value}
use Rattle.remap_plan.proofs.HomeLemmas.{held_here}
use Rattle.remap_plan.proofs.RequestLemmas.{values_more}
use Rattle.remap_plan.proofs.requests.answers.Goals as goal

pub place_of-requires-clause-member : goal.place_of-requires-clause-member
place_of-requires-clause-member c =
    let h = held_here c.args.layout.now c.args.array c.args.p c.args.values.now c.args.asked.now c.array_box.result c.from-rank.result c.loop-i.i c.held_box-held.result c.tuple-x.result
    c.array_box.ensures.boxes c.requires.array c.array_box.ensures.same (record { dims = omega arith; low = omega arith; high = omega arith }) c.requires.processor c.requires.ranges c.requires.held
    c.from-rank.ensures c.requires.homes c.loop-i-test.true c.held_box-held.ensures.held c.tuple-x.ensures in
    h.member

pub place_of-requires-clause-fits : goal.place_of-requires-clause-fits
place_of-requires-clause-fits c =
    let h = held_here c.args.layout.now c.args.array c.args.p c.args.values.now c.args.asked.now c.array_box.result c.from-rank.result c.loop-i.i c.held_box-held.result c.tuple-x.result
    c.array_box.ensures.boxes c.requires.array c.array_box.ensures.same (record { dims = omega arith; low = omega arith; high = omega arith }) c.requires.processor c.requires.ranges c.requires.held
    c.from-rank.ensures c.requires.homes c.loop-i-test.true c.held_box-held.ensures.held c.tuple-x.ensures in
    let place = h.place in omega (arith, place)

pub offset_bounds-values-place_of : goal.offset_bounds-values-place_of
offset_bounds-values-place_of c =
    let h = held_here c.args.layout.now c.args.array c.args.p c.args.values.now c.args.asked.now c.array_box.result c.from-rank.result c.loop-i.i c.held_box-held.result c.tuple-x.result
    c.array_box.ensures.boxes c.requires.array c.array_box.ensures.same (record { dims = omega arith; low = omega arith; high = omega arith }) c.requires.processor c.requires.ranges c.requires.held
    c.from-rank.ensures c.requires.homes c.loop-i-test.true c.held_box-held.ensures.held c.tuple-x.ensures in
    let place = h.place in let is = c.place_of.ensures in omega (arith, place, is)

pub bounds-values-place_of : goal.bounds-values-place_of
bounds-values-place_of c =
    let h = held_here c.args.layout.now c.args.array c.args.p c.args.values.now c.args.asked.now c.array_box.result c.from-rank.result c.loop-i.i c.held_box-held.result c.tuple-x.result
    c.array_box.ensures.boxes c.requires.array c.array_box.ensures.same (record { dims = omega arith; low = omega arith; high = omega arith }) c.requires.processor c.requires.ranges c.requires.held
    c.from-rank.ensures c.requires.homes c.loop-i-test.true c.held_box-held.ensures.held c.tuple-x.ensures in
    let place = h.place in let is = c.place_of.ensures in omega (arith, place, is)

pub loop-i-preserved : goal.loop-i-preserved
loop-i-preserved c =
    let h = held_here c.args.layout.now c.args.array c.args.p c.args.values.now c.args.asked.now c.array_box.result c.from-rank.result c.loop-i.i c.held_box-held.result c.tuple-x.result
    c.array_box.ensures.boxes c.requires.array c.array_box.ensures.same (record { dims = omega arith; low = omega arith; high = omega arith }) c.requires.processor c.requires.ranges c.requires.held
    c.from-rank.ensures c.requires.homes c.loop-i-test.true c.held_box-held.ensures.held c.tuple-x.ensures in
    let z : to_z w64 (of_z w64 (get_or c.args.values.now c.place_of.result (pos 0))) ≡ get_or c.args.values.now c.place_of.result (pos 0) = omega (arith, ints) in
    values_more (held_value c.args.layout.now c.args.array c.args.p c.args.values.now) c.from-rank.result c.loop-i.i c.args.asked.now c.args.into.now.items c.loop-i.into.items c.append.new.into.items _ c.loop-i.invariant
    (z ∙ (ap (λ n. get_or c.args.values.now n (pos 0)) c.place_of.ensures ∙ h.value)) c.in_ok-append.ensures.ok
