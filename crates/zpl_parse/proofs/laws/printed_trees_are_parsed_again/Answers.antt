use Rattle.std.specs.Prelude.{◌≡◌}
use Rattle.std.proofs.Common.{subst}
use Rattle.zpl_tree.specs.Spelling.{program_words}
use Rattle.zpl_tree.specs.Word.{printed_text}
use Rattle.zpl_grammar.specs.Texts.{TokensSpell}
use Rattle.zpl_parse.proofs.OneTree.{one_tree}
use Rattle.zpl_parse.proofs.laws.printed_trees_are_parsed_again.Goals as goal

pub returns-clause-tree : goal.returns-clause-tree
returns-clause-tree c = c.printed_trees_are_read_back.ensures.tree

pub returns-clause-one : goal.returns-clause-one
returns-clause-one c = λ text program tree tokens has are is.
    let again = c.printed_trees_are_read_back.ensures.tree text program has in
    let same : again.tokens ≡ tokens =
    c.text_is_cut_one_way.ensures.tokens (printed_text (program_words program)) again.tokens
    tokens again.are_tokens are in
    one_tree (printed_text (program_words program)) tokens program tree
    (subst (λ l. TokensSpell (printed_text (program_words program)) l program) same again.spell) is
