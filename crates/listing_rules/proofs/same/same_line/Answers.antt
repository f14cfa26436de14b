use Rattle.listing_rules.proofs.SameLemmas.{line_same}
use Rattle.listing_rules.proofs.same.same_line.Goals as goal

pub returns-then-same_keyword : goal.returns-then-same_keyword
returns-then-same_keyword c =
    line_same c.args.one.now c.args.other.now c.same_keyword.result c.same_rows.result c.if-same_keyword.true c.same_keyword.ensures c.same_rows.ensures
