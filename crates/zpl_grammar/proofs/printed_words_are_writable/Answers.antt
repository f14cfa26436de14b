use Rattle.zpl_grammar.proofs.Respelled.{program_writable}
use Rattle.zpl_grammar.proofs.printed_words_are_writable.Goals as goal

pub returns : goal.returns
returns c = program_writable
