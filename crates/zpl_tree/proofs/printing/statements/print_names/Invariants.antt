use Rattle.std.proofs.Common.{◌≡◌, ◌++◌, drop, map}
use Rattle.zpl_tokens.specs.declared.symbols.Sym.TheVariants as sym
use Rattle.zpl_tree.specs.Spelling.{each_after, symbol, name_words}
use Rattle.zpl_tree.specs.View.{name_of}
use Rattle.zpl_tree.specs.Word.{printed_text}
use Rattle.zpl_tree.proofs.printing.statements.print_names.Given as goal

-- what is printed and what is left to print are the whole
abbrev pub invariant-loop-name : goal.invariant-loop-name
invariant-loop-name l =
    l.text.items ++
    printed_text (each_after (symbol sym.Comma) name_words
    (map name_of (drop l.name-index l.rest)))
    ≡ l.initial.text.items ++
    printed_text (each_after (symbol sym.Comma) name_words (map name_of l.rest))
