use Rattle.std.proofs.Common.{◌≡◌, arith, rules}
use Rattle.grid_layout.proofs.SizeLemmas.{fits_storage}
use Rattle.grid_layout.proofs.layouts.Layout.new.Goals as goal

pub returns-clause-fits : goal.returns-clause-fits
returns-clause-fits c =
    let items : c.in-Ok.boxes.items ≡ c.args.boxes.now = search rules in
    fits_storage c.new-blocks.result c.args.grid c.args.boxes.now c.in-Ok.boxes.items c.words_of.result c.new-blocks.ensures.blocks items c.words_of.ensures (omega arith)
