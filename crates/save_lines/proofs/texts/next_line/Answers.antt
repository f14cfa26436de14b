use Rattle.std.proofs.Common.{arith}
use Rattle.save_lines.proofs.Steps.{line_found}
use Rattle.save_lines.proofs.texts.next_line.Goals as goal

pub returns-then-len-bytes : goal.returns-then-len-bytes
returns-then-len-bytes c = λ begins.
    let first = line_found c.args.bytes.now c.line_len-len.result begins c.line_len-len.ensures.before c.line_len-len.ensures.within c.line_len-len.ensures.found in
    omega (arith, first.inside, c.if-len-bytes.true)

pub returns-in-None : goal.returns-in-None
returns-in-None c = λ begins.
    let first = line_found c.args.bytes.now c.line_len-len.result begins c.line_len-len.ensures.before c.line_len-len.ensures.within c.line_len-len.ensures.found in
    let none = rw c.in-None.is at c.in_ok-line.ensures in
    none begins.line begins.is_line first.whole
