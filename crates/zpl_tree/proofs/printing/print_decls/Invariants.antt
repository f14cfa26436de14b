use Rattle.std.proofs.Common.{◌≡◌, ◌++◌, drop, map}
use Rattle.std.specs.List.{flat_map}
use Rattle.zpl_tree.specs.Spelling.{decl_words}
use Rattle.zpl_tree.specs.View.{decl_of}
use Rattle.zpl_tree.specs.Word.{printed_text}
use Rattle.zpl_tree.proofs.printing.print_decls.Given as goal

-- what is printed and what is left to print are the whole
abbrev pub invariant-loop-decl : goal.invariant-loop-decl
invariant-loop-decl l =
    l.text.items ++ printed_text (flat_map decl_words (map decl_of (drop l.decl-index l.decls)))
    ≡ l.initial.text.items ++ printed_text (flat_map decl_words (map decl_of l.decls))
