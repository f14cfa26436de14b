use Rattle.zpl_grammar.specs.Lexeme.{lexemes_of}
use Rattle.zpl_parse.proofs.Placed.Declarations.{program_is_placed}
use Rattle.zpl_parse.proofs.Sound.Programs.{program_is_sound}
use Rattle.zpl_parse.proofs.Whole.{wrong_is_fault, deep_is_fault}
use Rattle.zpl_parse.proofs.laws.rules_tell_trees_and_faults.Goals as goal

pub returns-clause-tree : goal.returns-clause-tree
returns-clause-tree c = λ text tokens most tree rest are done.
    let read =
    program_is_sound text text most tokens tree rest done are
    (c.tokens_are_in_order.ensures.tokens text tokens are) in
    record {
      tree = record {
        spelled = read.spelled;
        offsets = program_is_placed text most (lexemes_of text tokens) tree rest done;
        source = read.source_is;
      };
      shallow = read.shallow;
    }

pub returns-clause-syntax : goal.returns-clause-syntax
returns-clause-syntax c = λ text tokens at are here.
    wrong_is_fault c.words_before_a_token_are_writable.ensures text text tokens at are
    (c.tokens_are_in_order.ensures.tokens text tokens are)
    (λ most enough. let wrong = here most enough in (wrong.rest, wrong.is, wrong.place))

pub returns-clause-too_deep : goal.returns-clause-too_deep
returns-clause-too_deep c = λ text tokens are here.
    deep_is_fault c.words_before_a_token_are_writable.ensures text text tokens are
    (c.tokens_are_in_order.ensures.tokens text tokens are)
    (λ most enough. let deep = here most enough in (deep.rest, deep.is))
