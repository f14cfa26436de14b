use Rattle.std.proofs.Common.{◌≡◌, ◌++◌, drop, map}
use Rattle.std.specs.List.{flat_map}
use Rattle.zpl_tree.specs.Spelling.{define_words}
use Rattle.zpl_tree.specs.View.{define_of}
use Rattle.zpl_tree.specs.Word.{printed_text}
use Rattle.zpl_tree.proofs.printing.declarations.print_defines.Given as goal

-- what is printed and what is left to print are the whole
abbrev pub invariant-loop-define : goal.invariant-loop-define
invariant-loop-define l =
    l.text.items ++
    printed_text (flat_map define_words (map define_of (drop l.define-index l.defines)))
    ≡ l.initial.text.items ++ printed_text (flat_map define_words (map define_of l.defines))
