-- Whether two tokens are of one kind.
use Rattle.std.specs.Prelude.{ℕ, Bool, true, false, ◌==◌}
use Rattle.zpl_tokens.specs.declared.Kind.{Kind}
use Rattle.zpl_tokens.specs.declared.Kind.TheVariants.{Name, Number, Str, Ditto, Symbol, Word, End}
use Rattle.zpl_tokens.specs.declared.keywords.Key.{Key}
use Rattle.zpl_tokens.specs.declared.keywords.Key.TheVariants as key
use Rattle.zpl_tokens.specs.declared.symbols.Sym.{Sym}
use Rattle.zpl_tokens.specs.declared.symbols.Sym.TheVariants as sym

-- a number of its own for each symbol
abbrev pub symbol_number : Sym → ℕ
symbol_number sym.Assign = 0
symbol_number sym.AddAssign = 1
symbol_number sym.SubAssign = 2
symbol_number sym.MulAssign = 3
symbol_number sym.DivAssign = 4
symbol_number sym.RemAssign = 5
symbol_number sym.AndAssign = 6
symbol_number sym.OrAssign = 7
symbol_number sym.DotDot = 8
symbol_number sym.Reduce = 9
symbol_number sym.Flood = 10
symbol_number sym.Scan = 11
symbol_number sym.LessEqual = 12
symbol_number sym.GreaterEqual = 13
symbol_number sym.NotEqual = 14
symbol_number sym.Equal = 15
symbol_number sym.Less = 16
symbol_number sym.Greater = 17
symbol_number sym.Plus = 18
symbol_number sym.Minus = 19
symbol_number sym.Star = 20
symbol_number sym.Slash = 21
symbol_number sym.Percent = 22
symbol_number sym.And = 23
symbol_number sym.Or = 24
symbol_number sym.Not = 25
symbol_number sym.OpenParen = 26
symbol_number sym.CloseParen = 27
symbol_number sym.OpenBracket = 28
symbol_number sym.CloseBracket = 29
symbol_number sym.Comma = 30
symbol_number sym.Semicolon = 31
symbol_number sym.Colon = 32
symbol_number sym.At = 33
symbol_number sym.Hash = 34
symbol_number sym.Caret = 35

-- a number of its own for each keyword
abbrev pub key_number : Key → ℕ
key_number key.Program = 0
key_number key.Config = 1
key_number key.Var = 2
key_number key.Constant = 3
key_number key.Region = 4
key_number key.Direction = 5
key_number key.Procedure = 6
key_number key.Begin = 7
key_number key.End = 8
key_number key.If = 9
key_number key.Then = 10
key_number key.Elsif = 11
key_number key.Else = 12
key_number key.While = 13
key_number key.Do = 14
key_number key.Repeat = 15
key_number key.Until = 16
key_number key.For = 17
key_number key.To = 18
key_number key.Downto = 19
key_number key.By = 20
key_number key.Of = 21
key_number key.In = 22
key_number key.At = 23
key_number key.With = 24
key_number key.Without = 25
key_number key.Wrap = 26
key_number key.Reflect = 27
key_number key.Return = 28
key_number key.Integer = 29
key_number key.Boolean = 30
key_number key.True = 31
key_number key.False = 32
key_number key.Max = 33
key_number key.Min = 34
key_number key.Abs = 35
key_number key.Write = 36
key_number key.Writeln = 37
key_number key.Index1 = 38
key_number key.Index2 = 39
key_number key.Index3 = 40

-- two symbols, two keywords, two names and so on; the values of numbers don't count
abbrev pub same : Kind → Kind → Bool
same Name Name = true
same (Number a) (Number b) = true
same Str Str = true
same Ditto Ditto = true
same (Symbol a) (Symbol b) = symbol_number a == symbol_number b
same (Word a) (Word b) = key_number a == key_number b
same End End = true
same _ _ = false
