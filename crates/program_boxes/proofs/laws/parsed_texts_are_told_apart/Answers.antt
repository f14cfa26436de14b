use Rattle.zpl_names.specs.Declared.{routines_of}
use Rattle.zpl_names.proofs.ListLemmas.{among_from_Contains}
use Rattle.program_boxes.proofs.ToldLemmas.{parsed_told}
use Rattle.program_boxes.proofs.laws.parsed_texts_are_told_apart.Goals as goal

pub returns : goal.returns
returns c = λ text tokens program are tree clean routine there.
    parsed_told text tokens program (c.tokens_are_in_order.ensures.tokens text tokens are) tree
    clean routine (among_from_Contains (routines_of program) routine there)
