use Rattle.std.proofs.Common.{◌≡◌, ◌∙◌, length, arith}
use Rattle.grid_meaning.proofs.FactorLemmas.{factors_some, product_few, padded_is, ok_from, value_from}
use Rattle.code_layout.proofs.grids.grid_of.Goals as goal

pub unwrap-requires : goal.unwrap-requires
unwrap-requires c =
    let iff = rw c.factors_of.ensures at c.new.ensures in
    ok_from c.new.result _ _ iff (factors_some c.args.grid.now, product_few c.args.grid.now c.requires.few)

pub returns : goal.returns
returns c =
    let n : length c.args.grid.now ≡ 3 = omega arith in
    let iff = rw c.factors_of.ensures at c.new.ensures in
    value_from c.new.result _ _ c.unwrap.result iff c.unwrap.ensures ∙ padded_is c.args.grid.now n c.requires
