use Rattle.std.proofs.Common.{◌≡◌, ◌++◌, drop, map}
use Rattle.std.specs.List.{flat_map}
use Rattle.zpl_tree.specs.Spelling.{pre_words}
use Rattle.zpl_tree.specs.View.{pre_of}
use Rattle.zpl_tree.specs.Word.{printed_text}
use Rattle.zpl_tree.proofs.printing.expressions.print_pres.Given as goal

-- what is printed and what is left to print are the whole
abbrev pub invariant-loop-pre : goal.invariant-loop-pre
invariant-loop-pre l =
    l.text.items ++ printed_text (flat_map pre_words (map pre_of (drop l.pre-index l.pres)))
    ≡ l.initial.text.items ++ printed_text (flat_map pre_words (map pre_of l.pres))
