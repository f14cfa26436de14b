use Rattle.std.proofs.Common.{◌≡◌, ◌++◌, drop, map}
use Rattle.std.specs.List.{flat_map}
use Rattle.zpl_tree.specs.Spelling.{prefix_words}
use Rattle.zpl_tree.specs.View.{prefix_of}
use Rattle.zpl_tree.specs.Word.{printed_text}
use Rattle.zpl_tree.proofs.printing.statements.print_prefixes.Given as goal

-- what is printed and what is left to print are the whole
abbrev pub invariant-loop-prefix : goal.invariant-loop-prefix
invariant-loop-prefix l =
    l.text.items ++
    printed_text (flat_map prefix_words (map prefix_of (drop l.prefix-index l.prefixes)))
    ≡ l.initial.text.items ++ printed_text (flat_map prefix_words (map prefix_of l.prefixes))
