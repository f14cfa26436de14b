use Rattle.std.proofs.Common.{arith}
use Rattle.scan_plan.proofs.LineLemmas.{number_small}
use Rattle.scan_plan.proofs.lines.Lines.number.Goals as goal

pub overflow_add-result : goal.overflow_add-result
overflow_add-result c = let small = number_small c.args.self.along c.args.self.inner c.args.place c.requires.along c.requires.inner in omega (arith, small)

pub returns-clause-small : goal.returns-clause-small
returns-clause-small c = number_small c.args.self.along c.args.self.inner c.args.place c.requires.along c.requires.inner
