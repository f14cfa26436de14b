use Rattle.bit_sets.proofs.BitLemmas.{of_either}
use Rattle.node_check.proofs.StrikeLemmas.{lost_united}
use Rattle.node_check.proofs.strikes.add.Goals as goal

pub returns-then-not-has_all : goal.returns-then-not-has_all
returns-then-not-has_all c = λ code at mine theirs.
    lost_united code at c.args.mark.now.lost c.args.lost.now c.unite.new.self mine theirs
    (of_either c.unite.new.self c.args.mark.now.lost c.args.lost.now c.unite.ensures.united
    c.unite.ensures.room)
