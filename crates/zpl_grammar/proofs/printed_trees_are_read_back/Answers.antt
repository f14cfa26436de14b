use Rattle.zpl_tree.specs.Spelling.{program_words}
use Rattle.zpl_grammar.proofs.printed_trees_are_read_back.Goals as goal

pub returns-clause-words : goal.returns-clause-words
returns-clause-words c = λ text program has.
    let tree = has.spell in
    let writable = c.writable_words_are_read_back.ensures.any text tree.words (record {
      tokens =
          has.tokens;
      are_tokens = has.are_tokens;
      are = tree.are;
    }) in
    c.writable_words_are_read_back.ensures.printed (program_words program)
    (c.printed_words_are_writable.ensures program tree.words tree.spells writable)

pub returns-clause-tree : goal.returns-clause-tree
returns-clause-tree c = λ text program has.
    let tree = has.spell in
    let read = returns-clause-words c text program has in
    record {
      tokens = read.tokens;
      are_tokens = read.are_tokens;
      spell = record {
        words = program_words program;
        spells = c.printed_words_are_a_spelling.ensures.any program tree.words tree.spells;
        are = read.are;
      };
    }
