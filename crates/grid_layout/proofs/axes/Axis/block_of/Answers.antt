use Rattle.std.proofs.Common.{◌≡◌, sym, arith}
use Rattle.std.proofs.lemmas.Int.{ints}
use Rattle.grid_layout.proofs.BlockLemmas.{block_before, block_behind, block_among}
use Rattle.grid_layout.proofs.axes.Axis.block_of.Goals as goal

pub returns-then-x-self-clause-owner : goal.returns-then-x-self-clause-owner
returns-then-x-self-clause-owner c =
    let low = c.requires.axis.low in
    sym (block_before c.args.self c.args.count c.args.x (omega (arith, ints)))

pub returns-then-beyond-self-clause-owner : goal.returns-then-beyond-self-clause-owner
returns-then-beyond-self-clause-owner c =
    let low = c.requires.axis.low in
    sym (block_behind c.args.self c.args.count c.args.x c.requires.some (omega (arith, ints)))

pub returns-clause-owner : goal.returns-clause-owner
returns-clause-owner c =
    let low = c.requires.axis.low in
    let same : c.from-count.result ≡ c.args.count = c.from-count.ensures in
    rw same (sym (block_among c.args.self c.args.count c.abs_diff-beyond.result c.args.x c.requires.some c.if-beyond-self.false (omega (arith, ints))))
