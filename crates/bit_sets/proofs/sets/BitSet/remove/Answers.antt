use Rattle.std.proofs.Common.{◌∙◌, ◌/◌, ◌<◌, ap, arith, length}
use Rattle.std.proofs.lemmas.List.{get_or_read}
use Rattle.bit_sets.specs.Bits.{bit_of}
use Rattle.bit_sets.proofs.BitLemmas.{out_other, out_same}
use Rattle.bit_sets.proofs.sets.BitSet.remove.Goals as goal

pub returns-then-at-len-clause-number : goal.returns-then-at-len-clause-number
returns-then-at-len-clause-number c =
    let words = c.self.inside.words.items in
    let within : c.args.number / 64 < length words = omega (arith, c.self.inside.words.ok.0) in
    out_same words c.args.number c.index_mut.result.now within
    (get_or_read words (c.args.number / 64) c.index_mut.result.now within c.index_mut.ensures.value 0)

pub returns-then-at-len-clause-others : goal.returns-then-at-len-clause-others
returns-then-at-len-clause-others c = λ other apart.
    let words = c.self.inside.words.items in
    let within : c.args.number / 64 < length words = omega (arith, c.self.inside.words.ok.0) in
    out_other words c.args.number c.index_mut.result.now within
    (get_or_read words (c.args.number / 64) c.index_mut.result.now within c.index_mut.ensures.value 0)
    other apart
    ∙ ap (λ words. bit_of words other) c.self.view_is
