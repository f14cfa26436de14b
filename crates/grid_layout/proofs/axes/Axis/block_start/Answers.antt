use Rattle.std.proofs.Common.{arith, ◌*◌, ◌/◌, ◌≤◌}
use Rattle.std.proofs.lemmas.Int.{ints}
use Rattle.grid_layout.proofs.BlockLemmas.{start_within}
use Rattle.grid_layout.proofs.axes.Axis.block_start.Goals as goal

pub returns-clause-bounds : goal.returns-clause-bounds
returns-clause-bounds c =
    let within : c.args.c * c.args.self.extent / c.args.count ≤ c.args.self.extent = start_within c.args.self c.args.count c.args.c c.requires.some c.requires.block in
    let low = c.requires.axis.low in
    let high = c.requires.axis.high in
    let q : c.from.result * c.args.self.extent / c.from-2.result ≤ c.args.self.extent = rw (c.from.ensures, c.from-2.ensures) within in
    (omega (arith, ints), omega (arith, ints))
