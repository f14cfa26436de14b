use Rattle.std.proofs.Common.{◌≡◌, ◌*◌, ◌≤◌, arith}
use Rattle.grid_layout.specs.Grid.{product}
use Rattle.grid_layout.proofs.GridLemmas.{product_of_three, filled_is, some_product, each_some}
use Rattle.grid_layout.proofs.grids.Grid.new.Goals as goal
use Rattle.grid_layout.proofs.grids.Grid.new.Goals.{then-count-eq0-via-then-count-eq0, then-count-eq0-via-else-count-eq0+then-count-from}

pub returns-then-count-eq0 : goal.returns-then-count-eq0
returns-then-count-eq0 c = λ h.
    let some : 1 ≤ product c.args.factors.now = some_product c.args.factors.now h.0 in
    let few : product c.args.factors.now ≤ 64 = h.1 in
    let is : product c.args.factors.now ≡ c.from.result * c.from-2.result * c.from-3.result =
    rw (c.from.ensures, c.factor_or.ensures, c.from-2.ensures, c.factor_or-2.ensures, c.from-3.ensures, c.factor_or-3.ensures)
    (product_of_three c.args.factors.now c.requires.some c.requires.few) in
    elim c.then-count-eq0.branch [
      | then-count-eq0-via-then-count-eq0 w ↦ let bad = w.if-count-eq0.true in omega (arith, some, is, bad)
      | then-count-eq0-via-else-count-eq0+then-count-from w ↦ let bad = w.if-count-from.true in let from = w.from-else-count-eq0.ensures in omega (arith, few, is, bad, from)
    ]

pub returns : goal.returns
returns c =
    let is : product c.args.factors.now ≡ c.from.result * c.from-2.result * c.from-3.result =
    rw (c.from.ensures, c.factor_or.ensures, c.from-2.ensures, c.factor_or-2.ensures, c.from-3.ensures, c.factor_or-3.ensures)
    (product_of_three c.args.factors.now c.requires.some c.requires.few) in
    let positive = c.if-count-eq0.false in
    let small = c.if-count-from.false in
    let from = c.from-else-count-eq0.ensures in
    let some : 1 ≤ product c.args.factors.now = omega (arith, is, positive) in
    let few : product c.args.factors.now ≤ 64 = omega (arith, is, small, from) in
    ((each_some c.args.factors.now some, few), rw (c.factor_or-4.ensures, c.factor_or-5.ensures, c.factor_or-6.ensures) (filled_is c.args.factors.now c.requires.some c.requires.few))
