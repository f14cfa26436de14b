-- What the kind of a token says of the rules that it begins or goes on.
use Rattle.std.specs.Prelude.{ℤ, pos, int_le, Bool, true, false, Option, Some, None}
use Rattle.zpl_nums.specs.declared.operators.Op.{Op}
use Rattle.zpl_nums.specs.declared.operators.Op.TheVariants as op
use Rattle.zpl_nums.specs.declared.folds.Fold.{Fold}
use Rattle.zpl_nums.specs.declared.folds.Fold.TheVariants as fold
use Rattle.zpl_nums.specs.declared.ends.Border.TheVariants as border
use Rattle.zpl_tokens.specs.declared.Kind.{Kind}
use Rattle.zpl_tokens.specs.declared.Kind.TheVariants.{Name, Number, Symbol, Word}
use Rattle.zpl_tokens.specs.declared.keywords.Key.{Key}
use Rattle.zpl_tokens.specs.declared.keywords.Key.TheVariants as key
use Rattle.zpl_tokens.specs.declared.symbols.Sym.{Sym}
use Rattle.zpl_tokens.specs.declared.symbols.Sym.TheVariants as sym
use Rattle.zpl_parse.specs.declared.classes.Opening.{Opening}
use Rattle.zpl_parse.specs.declared.classes.Opening.TheVariants as opening
use Rattle.zpl_parse.specs.declared.classes.Folding.{Folding}
use Rattle.zpl_parse.specs.declared.classes.Folding.TheVariants as folding
use Rattle.zpl_parse.specs.declared.classes.Suffix.{Suffix}
use Rattle.zpl_parse.specs.declared.classes.Suffix.TheVariants as suffix
use Rattle.zpl_parse.specs.declared.classes.Start.{Start}
use Rattle.zpl_parse.specs.declared.classes.Start.TheVariants as start
use Rattle.zpl_parse.specs.declared.classes.Part.{Part}
use Rattle.zpl_parse.specs.declared.classes.Part.TheVariants as part

-- "|"
abbrev pub or_op : Kind → Option Op
or_op (Symbol sym.Or) = Some op.Or
or_op _ = None

-- "&"
abbrev pub and_op : Kind → Option Op
and_op (Symbol sym.And) = Some op.And
and_op _ = None

-- "=" | "!=" | "<" | "<=" | ">" | ">="
abbrev pub comp_op : Kind → Option Op
comp_op (Symbol sym.Equal) = Some op.Eq
comp_op (Symbol sym.NotEqual) = Some op.Ne
comp_op (Symbol sym.Less) = Some op.Lt
comp_op (Symbol sym.LessEqual) = Some op.Le
comp_op (Symbol sym.Greater) = Some op.Gt
comp_op (Symbol sym.GreaterEqual) = Some op.Ge
comp_op _ = None

-- "+" | "-"
abbrev pub sum_op : Kind → Option Op
sum_op (Symbol sym.Plus) = Some op.Add
sum_op (Symbol sym.Minus) = Some op.Sub
sum_op _ = None

-- "*" | "/" | "%"
abbrev pub term_op : Kind → Option Op
term_op (Symbol sym.Star) = Some op.Mul
term_op (Symbol sym.Slash) = Some op.Div
term_op (Symbol sym.Percent) = Some op.Rem
term_op _ = None

-- ":=" | "+=" | "-=" | "*=" | "/=" | "%=" | "&=" | "|="
abbrev pub assigning : Kind → Option (Option Op)
assigning (Symbol sym.Assign) = Some None
assigning (Symbol sym.AddAssign) = Some (Some op.Add)
assigning (Symbol sym.SubAssign) = Some (Some op.Sub)
assigning (Symbol sym.MulAssign) = Some (Some op.Mul)
assigning (Symbol sym.DivAssign) = Some (Some op.Div)
assigning (Symbol sym.RemAssign) = Some (Some op.Rem)
assigning (Symbol sym.AndAssign) = Some (Some op.And)
assigning (Symbol sym.OrAssign) = Some (Some op.Or)
assigning _ = None

-- what a symbol begins as the first token of an expression
abbrev pub opening_symbol_of : Sym → Option Opening
opening_symbol_of sym.OpenParen = Some opening.Paren
opening_symbol_of sym.Minus = Some opening.Minus
opening_symbol_of sym.Not = Some opening.Not
opening_symbol_of sym.Flood = Some opening.Flood
opening_symbol_of sym.Plus = Some (opening.Fold fold.Sum)
opening_symbol_of sym.Star = Some (opening.Fold fold.Prod)
opening_symbol_of sym.And = Some (opening.Fold fold.All)
opening_symbol_of sym.Or = Some (opening.Fold fold.Any)
opening_symbol_of _ = None

-- what a keyword begins as the first token of an expression
abbrev pub opening_keyword_of : Key → Option Opening
opening_keyword_of key.Max = Some (opening.Fold fold.Max)
opening_keyword_of key.Min = Some (opening.Fold fold.Min)
opening_keyword_of key.Abs = Some opening.Abs
opening_keyword_of key.True = Some (opening.Truth true)
opening_keyword_of key.False = Some (opening.Truth false)
opening_keyword_of key.Index1 = Some (opening.Coord 1)
opening_keyword_of key.Index2 = Some (opening.Coord 2)
opening_keyword_of key.Index3 = Some (opening.Coord 3)
opening_keyword_of _ = None

-- digits alone give no negative number
abbrev pub opening_number : ℤ → Bool → Option Opening
opening_number value true = Some (opening.Number value)
opening_number value false = None

-- what a token begins as the first one of an expression
abbrev pub opening_of : Kind → Option Opening
opening_of Name = Some opening.Name
opening_of (Number value) = opening_number value (int_le (pos 0) value)
opening_of (Symbol symbol) = opening_symbol_of symbol
opening_of (Word keyword) = opening_keyword_of keyword
opening_of _ = None

abbrev pub is_some : {A : Type 0} → Option A → Bool
is_some (Some x) = true
is_some None = false

-- what may begin an expression
abbrev pub begins_expr : Kind → Bool
begins_expr kind = is_some (opening_of kind)

-- what goes on behind a name: "@" | "#" | "("
abbrev pub suffix_of : Kind → Option Suffix
suffix_of (Symbol sym.At) = Some suffix.Shift
suffix_of (Symbol sym.Hash) = Some suffix.Remap
suffix_of (Symbol sym.OpenParen) = Some suffix.Call
suffix_of _ = None

-- what stands behind an operator that folds: "<<" | "||", and behind "max" and "min" also "("
abbrev pub folding_of : Fold → Kind → Option Folding
folding_of operator (Symbol sym.Reduce) = Some folding.Reduce
folding_of operator (Symbol sym.Scan) = Some folding.Scan
folding_of fold.Max (Symbol sym.OpenParen) = Some (folding.Pair op.Max)
folding_of fold.Min (Symbol sym.OpenParen) = Some (folding.Pair op.Min)
folding_of operator kind = None

-- what a token begins as the first one of a statement behind its prefixes
abbrev pub start_keyword : Key → Option Start
start_keyword key.Begin = Some start.Block
start_keyword key.If = Some start.If
start_keyword key.While = Some start.While
start_keyword key.Repeat = Some start.Repeat
start_keyword key.For = Some start.For
start_keyword key.Wrap = Some (start.Border border.Wrap)
start_keyword key.Reflect = Some (start.Border border.Reflect)
start_keyword key.Write = Some (start.Write false)
start_keyword key.Writeln = Some (start.Write true)
start_keyword key.Return = Some start.Return
start_keyword _ = None

abbrev pub start_of : Kind → Option Start
start_of Name = Some start.Name
start_of (Word keyword) = start_keyword keyword
start_of _ = None

-- what may begin a statement
abbrev pub begins_stmt : Kind → Bool
begins_stmt (Symbol sym.OpenBracket) = true
begins_stmt kind = is_some (start_of kind)

-- what a token begins as the first one of a declaration
abbrev pub part_keyword : Key → Option Part
part_keyword key.Config = Some part.Config
part_keyword key.Constant = Some part.Constant
part_keyword key.Region = Some part.Region
part_keyword key.Direction = Some part.Direction
part_keyword key.Var = Some part.Var
part_keyword key.Procedure = Some part.Procedure
part_keyword _ = None

abbrev pub part_of : Kind → Option Part
part_of (Word keyword) = part_keyword keyword
part_of _ = None

-- "of", which goes outside, or "in"
abbrev pub outside_of : Kind → Option Bool
outside_of (Word key.Of) = Some true
outside_of (Word key.In) = Some false
outside_of _ = None

-- "by", which strides, or "at"
abbrev pub stride_of : Kind → Option Bool
stride_of (Word key.By) = Some true
stride_of (Word key.At) = Some false
stride_of _ = None

-- "without", or "with"
abbrev pub without_of : Kind → Option Bool
without_of (Word key.Without) = Some true
without_of (Word key.With) = Some false
without_of _ = None

-- "downto", or "to"
abbrev pub down_of : Kind → Option Bool
down_of (Word key.Downto) = Some true
down_of (Word key.To) = Some false
down_of _ = None

-- what may stand behind the region in a bracket: "]" | "with" | "without"
abbrev pub closes_region : Kind → Bool
closes_region (Symbol sym.CloseBracket) = true
closes_region (Word key.With) = true
closes_region (Word key.Without) = true
closes_region _ = false

-- what may stand behind a dimension: "," | "]" | "with" | "without"
abbrev pub closes_dim : Kind → Bool
closes_dim (Symbol sym.Comma) = true
closes_dim kind = closes_region kind

-- what makes a name before it the beginning of a region expression
abbrev pub follows_region : Kind → Bool
follows_region (Word key.Of) = true
follows_region (Word key.In) = true
follows_region (Word key.At) = true
follows_region (Word key.By) = true
follows_region kind = closes_region kind
