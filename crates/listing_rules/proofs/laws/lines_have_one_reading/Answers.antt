use Rattle.listing_rules.proofs.OneTables.{tables_one, breaks_not}
use Rattle.listing_rules.proofs.laws.lines_have_one_reading.Goals as goal

pub returns : goal.returns
returns c = record { tables = tables_one; apart = λ lines left tables are breaks. breaks_not lines tables are breaks }
