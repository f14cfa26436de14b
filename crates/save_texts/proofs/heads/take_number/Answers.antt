use Rattle.std.proofs.Common.{arith}
use Rattle.save_texts.proofs.HeadLemmas.{number_len}
use Rattle.save_texts.proofs.heads.take_number.Goals as goal

pub returns-then-len-bytes : goal.returns-then-len-bytes
returns-then-len-bytes c = λ n rest below e.
    let len = c.len_to-len.ensures in
    let found = number_len c.args.bytes.now rest n c.args.stop c.len_to-len.result c.requires below e len.before len.within len.found in
    omega (arith, found.0, c.if-len-bytes.true)

pub returns-in_default : goal.returns-in_default
returns-in_default c = λ n rest below e.
    let len = c.len_to-len.ensures in
    let found = number_len c.args.bytes.now rest n c.args.stop c.len_to-len.result c.requires below e len.before len.within len.found in
    c.in_default.ensures n below found.1
