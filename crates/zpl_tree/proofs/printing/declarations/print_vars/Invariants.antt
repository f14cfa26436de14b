use Rattle.std.proofs.Common.{◌≡◌, ◌++◌, drop, map}
use Rattle.std.specs.List.{flat_map}
use Rattle.zpl_tree.specs.Spelling.{var_words}
use Rattle.zpl_tree.specs.View.{var_of}
use Rattle.zpl_tree.specs.Word.{printed_text}
use Rattle.zpl_tree.proofs.printing.declarations.print_vars.Given as goal

-- what is printed and what is left to print are the whole
abbrev pub invariant-loop-var : goal.invariant-loop-var
invariant-loop-var l =
    l.text.items ++ printed_text (flat_map var_words (map var_of (drop l.var-index l.vars)))
    ≡ l.initial.text.items ++ printed_text (flat_map var_words (map var_of l.vars))
