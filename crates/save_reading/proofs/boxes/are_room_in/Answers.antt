use Rattle.std.proofs.Common.{◌≡◌, get_or, length, pos, arith, rules, w64, to_z, of_z}
use Rattle.save_reading.proofs.BoxLemmas.{rooms_three}
use Rattle.save_reading.proofs.boxes.are_room_in.Goals as goal

pub returns-clause-room : goal.returns-clause-room
returns-clause-room c =
    let lows = c.args.low.now in
    let highs = c.args.high.now in
    let n : length c.args.rows.now ≡ 3 = omega arith in
    let m : length c.args.low.now ≡ 3 = omega arith in
    let k : length c.args.high.now ≡ 3 = omega arith in
    let j : length c.args.dims.now ≡ 3 = omega arith in
    let f0 : to_z w64 (of_z w64 (get_or c.args.low.now 0 (pos 0))) ≡ get_or c.args.low.now 0 (pos 0) = search rules in
    let f1 : to_z w64 (of_z w64 (get_or c.args.low.now 1 (pos 0))) ≡ get_or c.args.low.now 1 (pos 0) = search rules in
    let f2 : to_z w64 (of_z w64 (get_or c.args.low.now 2 (pos 0))) ≡ get_or c.args.low.now 2 (pos 0) = search rules in
    let l0 : to_z w64 (of_z w64 (get_or c.args.high.now 0 (pos 0))) ≡ get_or c.args.high.now 0 (pos 0) = search rules in
    let l1 : to_z w64 (of_z w64 (get_or c.args.high.now 1 (pos 0))) ≡ get_or c.args.high.now 1 (pos 0) = search rules in
    let l2 : to_z w64 (of_z w64 (get_or c.args.high.now 2 (pos 0))) ≡ get_or c.args.high.now 2 (pos 0) = search rules in
    rooms_three c.args.rows.now lows highs c.args.dims.now _ _ _ _ c.is_room_in-first.result c.is_room_in-second.result c.is_room_in-third.result
    n m k j (rw (f0, l0) at c.is_room_in-first.ensures) (rw (f1, l1) at c.is_room_in-second.ensures) (rw (f2, l2) at c.is_room_in-third.ensures)
