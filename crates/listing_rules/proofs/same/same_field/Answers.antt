use Rattle.listing_rules.proofs.SameLemmas.{numbers_same}
use Rattle.listing_rules.proofs.same.same_field.Goals as goal

pub returns-then-same_mark : goal.returns-then-same_mark
returns-then-same_mark c =
    numbers_same c.args.one.now c.args.other.now _ _ _ _ c.same_mark.result c.same_numbers.result c.in-Numbers-Numbers.is-0 c.in-Numbers-Numbers.is-1 c.if-same_mark.true c.same_mark.ensures c.same_numbers.ensures
