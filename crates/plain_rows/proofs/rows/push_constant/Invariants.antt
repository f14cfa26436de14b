use Rattle.std.proofs.Common.{◌≡◌, ◌++◌, replicate}
use Rattle.plain_rows.proofs.rows.push_constant.Given as goal

abbrev pub invariant-loop : goal.invariant-loop
invariant-loop l = l.out.items ≡ l.fn.out.items ++ replicate l.counter l.value
