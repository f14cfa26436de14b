use Rattle.std.proofs.Common.{◌≡◌, ◌++◌, drop, map}
use Rattle.zpl_tokens.specs.declared.symbols.Sym.TheVariants as sym
use Rattle.zpl_tree.specs.Spelling.{each_after, symbol, item_words}
use Rattle.zpl_tree.specs.View.{item_of}
use Rattle.zpl_tree.specs.Word.{printed_text}
use Rattle.zpl_tree.proofs.printing.statements.print_items.Given as goal

-- what is printed and what is left to print are the whole
abbrev pub invariant-loop-item : goal.invariant-loop-item
invariant-loop-item l =
    l.text.items ++
    printed_text (each_after (symbol sym.Comma) item_words
    (map item_of (drop l.item-index l.rest)))
    ≡ l.initial.text.items ++
    printed_text (each_after (symbol sym.Comma) item_words (map item_of l.rest))
