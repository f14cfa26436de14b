use Rattle.zpl_tree.proofs.Grammars.{program_spelled}
use Rattle.zpl_tree.proofs.laws.printed_words_are_a_spelling.Goals as goal

pub returns-clause-program : goal.returns-clause-program
returns-clause-program c = program_spelled

pub returns-clause-any : goal.returns-clause-any
returns-clause-any c = λ program words spells. program_spelled program spells.1
