use Rattle.std.proofs.Common.{length, ap, arith}
use Rattle.node_text.proofs.Shorter.{lines_shorter}
use Rattle.node_text.proofs.listings.lines_in.Goals as goal

pub returns-in-Ok-clause-few : goal.returns-in-Ok-clause-few
returns-in-Ok-clause-few c =
    let are = c.in-Ok.ensures.lines in
    let short = lines_shorter c.in-Ok.lines.items in
    let same = ap length are.written in
    let few = c.requires in
    omega (arith, short, same, few)
