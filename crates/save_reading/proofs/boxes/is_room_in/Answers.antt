use Rattle.std.proofs.Common.{◌≡◌, rules, w64, to_z, of_z}
use Rattle.save_reading.proofs.BoxLemmas.{range_room, room_range}
use Rattle.save_reading.proofs.boxes.is_room_in.Goals as goal

pub returns-in-Range-dim : goal.returns-in-Range-dim
returns-in-Range-dim c =
    let r = c.in-Range in
    let d = c.in-Range-dim in
    let f1 : to_z w64 (of_z w64 c.in-Range-dim.lo) ≡ c.in-Range-dim.lo = search rules in
    let f2 : to_z w64 (of_z w64 c.in-Range-dim.hi) ≡ c.in-Range-dim.hi = search rules in
    let f3 : to_z w64 (of_z w64 c.args.low) ≡ c.args.low = search rules in
    let f4 : to_z w64 (of_z w64 c.args.high) ≡ c.args.high = search rules in
    let told = rw (f1, f2, f3, f4) at c.lie_between.ensures in (
      (λ h. room_range c.args.row r.lo r.hi r.low r.high c.args.low c.args.high c.args.dim d.lo d.hi d.step d.align r.is d.is c.requires (told.0 h)),
      (λ room. told.1 (range_room c.args.row r.lo r.hi r.low r.high c.args.low c.args.high c.args.dim d.lo d.hi d.step d.align r.is d.is room)),
    )
