use Rattle.std.proofs.Common.{◌≡◌, ◌++◌, drop, map}
use Rattle.std.specs.List.{flat_map}
use Rattle.zpl_tree.specs.Spelling.{direction_words}
use Rattle.zpl_tree.specs.View.{direction_of}
use Rattle.zpl_tree.specs.Word.{printed_text}
use Rattle.zpl_tree.proofs.printing.declarations.print_directions.Given as goal

-- what is printed and what is left to print are the whole
abbrev pub invariant-loop-direction : goal.invariant-loop-direction
invariant-loop-direction l =
    l.text.items ++
    printed_text
    (flat_map direction_words (map direction_of (drop l.direction-index l.directions)))
    ≡ l.initial.text.items ++
    printed_text (flat_map direction_words (map direction_of l.directions))
