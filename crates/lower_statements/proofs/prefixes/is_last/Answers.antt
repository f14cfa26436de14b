use Rattle.std.proofs.Common.{arith, ◌+◌}
use Rattle.lower_statements.proofs.PrefixLemmas.{not_last}
use Rattle.lower_statements.proofs.prefixes.is_last.Goals as goal

pub returns-then-number-prefixes : goal.returns-then-number-prefixes
returns-then-number-prefixes c =
    not_last c.args.borders c.args.prefixes.now (c.args.number + 1) (omega arith)
