use Rattle.zpl_tree.specs.Grammar.{IsProgram, Spells}
use Rattle.program_boxes.proofs.laws.boxes_of_texts_are_stored.Goals as goal

pub returns : goal.returns
returns c = λ text tokens program settings are tree clean accepted.
    c.boxes_are_stored.ensures program settings tree.spelled.spells.1 clean
    (c.parsed_names_stand_apart.ensures text tokens program are tree) accepted
    (c.parsed_texts_are_told_apart.ensures text tokens program are tree clean)
