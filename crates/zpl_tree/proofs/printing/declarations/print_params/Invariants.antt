use Rattle.std.proofs.Common.{◌≡◌, ◌++◌, drop, map}
use Rattle.zpl_tokens.specs.declared.symbols.Sym.TheVariants as sym
use Rattle.zpl_tree.specs.Spelling.{each_after, symbol, param_words}
use Rattle.zpl_tree.specs.View.{param_of}
use Rattle.zpl_tree.specs.Word.{printed_text}
use Rattle.zpl_tree.proofs.printing.declarations.print_params.Given as goal

-- what is printed and what is left to print are the whole
abbrev pub invariant-loop-param : goal.invariant-loop-param
invariant-loop-param l =
    l.text.items ++
    printed_text (each_after (symbol sym.Semicolon) param_words
    (map param_of (drop l.param-index l.rest)))
    ≡ l.initial.text.items ++
    printed_text (each_after (symbol sym.Semicolon) param_words (map param_of l.rest))
