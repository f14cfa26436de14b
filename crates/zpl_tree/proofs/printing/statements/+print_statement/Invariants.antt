use Rattle.std.proofs.Common.{◌≡◌, ◌++◌, drop}
use Rattle.zpl_tree.specs.Spelling.{more_arms, stmts_words}
use Rattle.zpl_tree.specs.View.{stmts_of, arms_of}
use Rattle.zpl_tree.specs.Word.{printed_text}
use Rattle.zpl_tree.proofs.printing.statements.+print_statement.Given as goal

-- what is printed and what is left to print are the whole
abbrev pub invariant-print_stmts-loop-stmt : goal.invariant-print_stmts-loop-stmt
invariant-print_stmts-loop-stmt l =
    l.text.items ++ printed_text (stmts_words (stmts_of (drop l.stmt-index l.stmts)))
    ≡ l.initial.text.items ++ printed_text (stmts_words (stmts_of l.stmts))

abbrev pub invariant-print_arms-loop-arm : goal.invariant-print_arms-loop-arm
invariant-print_arms-loop-arm l =
    l.text.items ++ printed_text (more_arms (arms_of (drop l.arm-index l.rest)))
    ≡ l.initial.text.items ++ printed_text (more_arms (arms_of l.rest))
