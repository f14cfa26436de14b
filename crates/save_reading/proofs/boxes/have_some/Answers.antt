use Rattle.std.proofs.Common.{◌≡◌, length, arith}
use Rattle.save_reading.proofs.BoxLemmas.{some_three}
use Rattle.save_reading.proofs.boxes.have_some.Goals as goal

pub returns : goal.returns
returns c =
    let n : length c.args.dims.now ≡ 3 = omega arith in
    some_three c.args.dims.now _ c.has_some-first.result c.has_some-second.result c.has_some-third.result n c.has_some-first.ensures c.has_some-second.ensures c.has_some-third.ensures
