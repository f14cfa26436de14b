use Rattle.std.proofs.Common.{◌≡◌, ◌∙◌, sym, ap, subst, arith, true, false}
use Rattle.std.specs.Prelude.{flat_map}
use Rattle.std.specs.List.{list_all, list_any}
use Rattle.code_parts.specs.Uses.{scalars_in}
use Rattle.node_check.specs.Learn.{tells_uniform}
use Rattle.node_check.proofs.EachLemmas.{all_found}
use Rattle.node_check.proofs.asks.is_uniform.Goals as goal

pub returns-then-not-is_word_uniform : goal.returns-then-not-is_word_uniform
returns-then-not-is_word_uniform c =
    sym (ap (λ words. list_all (λ scalar. list_any (tells_uniform scalar) c.args.facts.now)
    (flat_map scalars_in words)) (sym c.words_of-word-items.ensures)
    ∙ all_found (λ scalar. list_any (tells_uniform scalar) c.args.facts.now) scalars_in
    c.words_of-word-items.result.now c.loop-word.word-index _ (omega arith)
    (sym c.is_word_uniform.ensures ∙ c.if-not-is_word_uniform.true))
