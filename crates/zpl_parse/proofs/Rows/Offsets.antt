-- Offsets in small trees, and what is no offset.
use Rattle.std.proofs.Common.{◌≡◌, ℕ, List, [], ◌∷◌, None, refl, arith}
use Rattle.std.specs.Prelude.{codes}
use Rattle.zpl_nums.specs.declared.operators.Op.TheVariants as op
use Rattle.zpl_nums.specs.declared.folds.Fold.TheVariants as fold
use Rattle.zpl_tokens.specs.declared.keywords.Key.{Key}
use Rattle.zpl_tokens.specs.declared.symbols.Sym.{Sym}
use Rattle.zpl_tokens.specs.declared.keywords.Key.TheVariants as key
use Rattle.zpl_tokens.specs.declared.symbols.Sym.TheVariants as sym
use Rattle.zpl_tree.specs.Syntax.{Name, Named, Shifted, Around, Remap, Paren, Pair, Reduce, NoExpr, ThenExpr, NamedDir, Vector, NamedRegion, Rexpr, Dims, NoBracket, Bracketed, NoPost, Blank, One, NoDim, ThenDim, Prefixed, NoStmt, Return, If, Repeat, Tested, NoArm, ThenArm, NoElse, Integer}
use Rattle.zpl_tree.specs.Word as word
use Rattle.zpl_grammar.specs.Lexeme.{Lexeme, lexeme_at}
use Rattle.zpl_grammar.specs.Offsets.{ExprAt, InnerAt, StmtAt, RegionsAt, LocalsAt}

abbrev a : ℕ → Name
a at = record { text = codes "a"; at = at }

abbrev name_at : ℕ → Lexeme
name_at at = lexeme_at at (word.Name (codes "a"))

abbrev symbol_at : ℕ → Sym → Lexeme
symbol_at at s = lexeme_at at (word.Symbol s)

abbrev keyword_at : ℕ → Key → Lexeme
keyword_at at k = lexeme_at at (word.Keyword k)

-- a - ( a ) at 5, 7, 9, 10, 11
abbrev difference : List Lexeme
difference = name_at 5 ∷ symbol_at 7 sym.Minus ∷ symbol_at 9 sym.OpenParen ∷ name_at 10 ∷
    symbol_at 11 sym.CloseParen ∷ []

difference_at : ExprAt difference (Pair 5 op.Sub (Named 5 (a 5)) (Paren 9 (Named 10 (a 10))))
difference_at = (refl, (refl, refl), (refl, (refl, refl)))

not_the_operator : ExprAt difference (Pair 7 op.Sub (Named 5 (a 5)) (Paren 9 (Named 10 (a 10)))) → ⊥
not_the_operator at = let wrong : ◌≡◌ {A = ℕ} 7 5 = at.0 in absurd (omega arith)

not_the_inside : ExprAt difference (Pair 5 op.Sub (Named 5 (a 5)) (Paren 10 (Named 10 (a 10)))) → ⊥
not_the_inside at = let wrong : ◌≡◌ {A = ℕ} 10 9 = at.2.0 in absurd (omega arith)

-- max(a, a) at 0, 3, 4, 5, 7, 8
greater_at : ExprAt (keyword_at 0 key.Max ∷ symbol_at 3 sym.OpenParen ∷ name_at 4 ∷
    symbol_at 5 sym.Comma ∷ name_at 7 ∷ symbol_at 8 sym.CloseParen ∷ [])
    (Pair 0 op.Max (Named 4 (a 4)) (Named 7 (a 7)))
greater_at = (refl, (refl, refl), (refl, refl))

-- +<<[a] a@[a] at 0, 1, 3, 4, 5, 7, 8, 9, 10, 11
sum_at : ExprAt (symbol_at 0 sym.Plus ∷ symbol_at 1 sym.Reduce ∷ symbol_at 3 sym.OpenBracket ∷
    name_at 4 ∷ symbol_at 5 sym.CloseBracket ∷ name_at 7 ∷ symbol_at 8 sym.At ∷
    symbol_at 9 sym.OpenBracket ∷ name_at 10 ∷ symbol_at 11 sym.CloseBracket ∷ [])
    (Reduce 0 fold.Sum (Bracketed (Rexpr [] (NamedRegion (a 4)) NoPost))
    (Shifted 7 (a 7) (Vector (ThenExpr (Named 10 (a 10)) NoExpr))))
sum_at = (refl, (tt, refl, tt), (refl, refl, ((refl, refl), tt)))

-- a@^a at 0, 1, 2, 3, and a#[a, a] at 0, 1, 2, 3, 4, 6, 7
around_at : ExprAt (name_at 0 ∷ symbol_at 1 sym.At ∷ symbol_at 2 sym.Caret ∷ name_at 3 ∷
    []) (Around 0 (a 0) (NamedDir (a 3)))
around_at = (refl, refl, refl)

remap_at : ExprAt (name_at 0 ∷ symbol_at 1 sym.Hash ∷ symbol_at 2 sym.OpenBracket ∷ name_at 3 ∷
    symbol_at 4 sym.Comma ∷ name_at 6 ∷ symbol_at 7 sym.CloseBracket ∷ [])
    (Remap 0 (a 0) (ThenExpr (Named 3 (a 3)) (ThenExpr (Named 6 (a 6)) NoExpr)))
remap_at = (refl, refl, ((refl, refl), ((refl, refl), tt)))

-- , a ] at 1, 3, 4, of which the first dimension is blank
blank_at : InnerAt (symbol_at 1 sym.Comma ∷ name_at 3 ∷ symbol_at 4 sym.CloseBracket ∷
    []) (Dims (ThenDim (Blank 1) (ThenDim (One (Named 3 (a 3))) NoDim)))
blank_at = (refl, ((refl, refl), tt))

-- [a] return a; at 0, 1, 2, 4, 11, 12
return_at : StmtAt (symbol_at 0 sym.OpenBracket ∷ name_at 1 ∷ symbol_at 2 sym.CloseBracket ∷
    keyword_at 4 key.Return ∷ name_at 11 ∷ symbol_at 12 sym.Semicolon ∷ [])
    (Prefixed 4 (record { at = 0; region = Rexpr [] (NamedRegion (a 1)) NoPost; mask = None } ∷
    []) (Return (Named 11 (a 11))))
return_at = (((refl, (tt, refl, tt), tt), tt), refl, (refl, refl))

-- if a then elsif a then end; at 0, 3, 5, 10, 16, 18, 23, 26
choice_at : StmtAt (keyword_at 0 key.If ∷ name_at 3 ∷ keyword_at 5 key.Then ∷
    keyword_at 10 key.Elsif ∷ name_at 16 ∷ keyword_at 18 key.Then ∷ keyword_at 23 key.End ∷
    symbol_at 26 sym.Semicolon ∷ [])
    (Prefixed 0 []
    (If (ThenArm (Tested 0 (Named 3 (a 3)) NoStmt) (ThenArm (Tested 10 (Named 16 (a 16)) NoStmt)
    NoArm)) NoElse))
choice_at = (tt, refl, (((refl, (refl, refl), tt), ((refl, (refl, refl), tt), tt)), tt))

-- repeat until a; at 0, 7, 13, 14
repeat_at : StmtAt (keyword_at 0 key.Repeat ∷ keyword_at 7 key.Until ∷ name_at 13 ∷
    symbol_at 14 sym.Semicolon ∷ []) (Prefixed 0 [] (Repeat NoStmt 7 (Named 13 (a 13))))
repeat_at = (tt, refl, (tt, refl, (refl, refl)))

-- a = [a]; a = a; at 0, 2, 4, 5, 6, 7, 9, 11, 13, 14
regions_at : RegionsAt (name_at 0 ∷ symbol_at 2 sym.Equal ∷ symbol_at 4 sym.OpenBracket ∷
    name_at 5 ∷ symbol_at 6 sym.CloseBracket ∷ symbol_at 7 sym.Semicolon ∷ name_at 9 ∷
    symbol_at 11 sym.Equal ∷ name_at 13 ∷ symbol_at 14 sym.Semicolon ∷ [])
    (record { name = a 0; body = Rexpr [] (NamedRegion (a 5)) NoPost; posts = NoPost } ∷
    record { name = a 9; body = Rexpr [] (NamedRegion (a 13)) NoPost; posts = NoPost } ∷ [])
regions_at = ((refl, ((tt, refl, tt), tt)), ((refl, ((tt, refl, tt), tt)), tt))

-- var a : integer; var a : integer; at 0, 4, 6, 8, 15, 17, 21, 23, 25, 32
locals_at : LocalsAt (keyword_at 0 key.Var ∷ name_at 4 ∷ symbol_at 6 sym.Colon ∷
    keyword_at 8 key.Integer ∷ symbol_at 15 sym.Semicolon ∷ keyword_at 17 key.Var ∷ name_at 21 ∷
    symbol_at 23 sym.Colon ∷ keyword_at 25 key.Integer ∷ symbol_at 32 sym.Semicolon ∷ [])
    (record { names = a 4 ∷ []; shape = NoBracket; base = Integer } ∷ record {
      names =
          a 21 ∷ [];
      shape = NoBracket;
      base = Integer;
    } ∷ [])
locals_at = (((refl, tt), (tt, tt)), (((refl, tt), (tt, tt)), tt))
