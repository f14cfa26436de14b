-- How each symbol is written.
use Rattle.std.specs.Prelude.{ℕ, List, codes}
use Rattle.zpl_tokens.specs.declared.symbols.Sym.{Sym}
use Rattle.zpl_tokens.specs.declared.symbols.Sym.TheVariants.{Assign, AddAssign, SubAssign}
use Rattle.zpl_tokens.specs.declared.symbols.Sym.TheVariants.{MulAssign, DivAssign, RemAssign}
use Rattle.zpl_tokens.specs.declared.symbols.Sym.TheVariants.{AndAssign, OrAssign, DotDot, Reduce}
use Rattle.zpl_tokens.specs.declared.symbols.Sym.TheVariants.{Flood, Scan, LessEqual, GreaterEqual}
use Rattle.zpl_tokens.specs.declared.symbols.Sym.TheVariants.{NotEqual, Equal, Less, Greater, Plus}
use Rattle.zpl_tokens.specs.declared.symbols.Sym.TheVariants.{Minus, Star, Slash, Percent, And, Or}
use Rattle.zpl_tokens.specs.declared.symbols.Sym.TheVariants.{Not, OpenParen, CloseParen}
use Rattle.zpl_tokens.specs.declared.symbols.Sym.TheVariants.{OpenBracket, CloseBracket, Comma}
use Rattle.zpl_tokens.specs.declared.symbols.Sym.TheVariants.{Semicolon, Colon, At, Hash, Caret}

abbrev pub symbol_text : Sym → List ℕ
symbol_text Assign = codes ":="
symbol_text AddAssign = codes "+="
symbol_text SubAssign = codes "-="
symbol_text MulAssign = codes "*="
symbol_text DivAssign = codes "/="
symbol_text RemAssign = codes "%="
symbol_text AndAssign = codes "&="
symbol_text OrAssign = codes "|="
symbol_text DotDot = codes ".."
symbol_text Reduce = codes "<<"
symbol_text Flood = codes ">>"
symbol_text Scan = codes "||"
symbol_text LessEqual = codes "<="
symbol_text GreaterEqual = codes ">="
symbol_text NotEqual = codes "!="
symbol_text Equal = codes "="
symbol_text Less = codes "<"
symbol_text Greater = codes ">"
symbol_text Plus = codes "+"
symbol_text Minus = codes "-"
symbol_text Star = codes "*"
symbol_text Slash = codes "/"
symbol_text Percent = codes "%"
symbol_text And = codes "&"
symbol_text Or = codes "|"
symbol_text Not = codes "!"
symbol_text OpenParen = codes "("
symbol_text CloseParen = codes ")"
symbol_text OpenBracket = codes "["
symbol_text CloseBracket = codes "]"
symbol_text Comma = codes ","
symbol_text Semicolon = codes ";"
symbol_text Colon = codes ":"
symbol_text At = codes "@"
symbol_text Hash = codes "#"
symbol_text Caret = codes "^"
