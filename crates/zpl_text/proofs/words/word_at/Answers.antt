use Rattle.std.proofs.Common.{arith}
use Rattle.std.proofs.lemmas.List.Sums.{prefix_len-le-length}
use Rattle.zpl_text.specs.Bytes.{is_word_byte}
use Rattle.zpl_text.proofs.Cuts.{word_run, word_cut}
use Rattle.zpl_text.proofs.words.word_at.Goals as goal

pub split_at-requires : goal.split_at-requires
split_at-requires c = omega (arith, prefix_len-le-length is_word_byte c.args.bytes.now)

pub kind_of-requires : goal.kind_of-requires
kind_of-requires c = rw (c.split_at.ensures.front, c.word_len.ensures)
    (word_run c.args.bytes.now c.requires)

pub returns-clause-cut : goal.returns-clause-cut
returns-clause-cut c = λ ditto.
    let token = rw (c.split_at.ensures.front, c.word_len.ensures) at c.kind_of.ensures.token in
    rw (c.split_at.ensures.back, c.word_len.ensures)
    (word_cut ditto c.args.bytes.now c.kind_of.result c.requires token
    (c.kind_of.ensures.place ditto))
