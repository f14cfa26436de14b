use Rattle.std.proofs.Common.{◌∙◌, ◌*◌, not, sym, ap, arith}
use Rattle.std.specs.Prelude.{flat_map}
use Rattle.std.specs.List.{list_all}
use Rattle.bit_sets.specs.Bits.{bit_of}
use Rattle.code_parts.specs.Uses.{scalars_in}
use Rattle.node_check.proofs.EachLemmas.{all_found}
use Rattle.node_check.proofs.strikes.are_left.Goals as goal

pub returns-then-not-is_word_left : goal.returns-then-not-is_word_left
returns-then-not-is_word_left c =
    sym (ap (λ words. list_all (λ scalar. not (bit_of c.args.lost.now (2 * scalar)))
    (flat_map scalars_in words)) (sym c.words_of-word-items.ensures)
    ∙ all_found (λ scalar. not (bit_of c.args.lost.now (2 * scalar))) scalars_in
    c.words_of-word-items.result.now c.loop-word.word-index _ (omega arith)
    (sym c.is_word_left.ensures ∙ c.if-not-is_word_left.true))
