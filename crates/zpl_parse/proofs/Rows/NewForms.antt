-- The rules, computed on the words of a program that reads an array round its edges and at computed
-- indices:
-- program t;direction e = [1];region R = [1..4];var A, B : [R] integer;
-- procedure t();begin [R] B := A@^e + A#[5 - Index1];end;
use Prim.Native.String.{String}
use Rattle.std.proofs.Common.{◌≡◌, ◌∷◌, ℕ, List, [], codes, map, refl, pos, None}
use Rattle.zpl_nums.specs.declared.operators.Op.TheVariants as op
use Rattle.zpl_tokens.specs.declared.Kind.{Kind}
use Rattle.zpl_tokens.specs.declared.keywords.Key.{Key}
use Rattle.zpl_tokens.specs.declared.keywords.Key.TheVariants as key
use Rattle.zpl_tokens.specs.declared.symbols.Sym.{Sym}
use Rattle.zpl_tokens.specs.declared.symbols.Sym.TheVariants as sym
use Rattle.zpl_tree.specs.Syntax.{Name, NamedRegion, Expr, Number, Coord, Named, Around, Remap, Pair, NoExpr, ThenExpr, NamedDir, Inner, Rexpr, Dims, Bracketed, NoPost, Span, NoDim, ThenDim, Stmt, Prefixed, NoStmt, ThenStmt, Assign, Block, Integer, Decl, Directions, Regions, Vars, Defined, Program}
use Rattle.zpl_tree.specs.Spelling.{program_words}
use Rattle.zpl_tree.specs.Word.{kind_of}
use Rattle.zpl_tree.specs.Word as word
use Rattle.zpl_grammar.specs.Lexeme.{Lexeme, lexeme_at}
use Rattle.zpl_parse.specs.Outcome.{Done, Wrong, Deep}
use Rattle.zpl_parse.specs.Declarations.{program}
use Rattle.zpl_parse.specs.Expressions.{levels}

abbrev keyword : ℕ → Key → Lexeme
keyword at k = lexeme_at at (word.Keyword k)

abbrev symbol : ℕ → Sym → Lexeme
symbol at s = lexeme_at at (word.Symbol s)

abbrev number : ℕ → ℕ → Lexeme
number at n = lexeme_at at (word.Number (pos n))

abbrev name : ℕ → String → Lexeme
name at text = lexeme_at at (word.Name (codes text))

abbrev called : ℕ → String → Name
called at text = record { text = codes text; at = at }

abbrev region : ℕ → String → Inner
region at text = Rexpr [] (NamedRegion (called at text)) NoPost

abbrev lexemes : List Lexeme
lexemes =
    keyword 0 key.Program ∷ name 8 "t" ∷ symbol 9 sym.Semicolon ∷ keyword 10 key.Direction ∷
    name 20 "e" ∷ symbol 22 sym.Equal ∷ symbol 24 sym.OpenBracket ∷ number 25 1 ∷
    symbol 26 sym.CloseBracket ∷ symbol 27 sym.Semicolon ∷ keyword 28 key.Region ∷ name 35 "R" ∷
    symbol 37 sym.Equal ∷ symbol 39 sym.OpenBracket ∷ number 40 1 ∷ symbol 41 sym.DotDot ∷
    number 43 4 ∷ symbol 44 sym.CloseBracket ∷ symbol 45 sym.Semicolon ∷ keyword 46 key.Var ∷
    name 50 "A" ∷ symbol 51 sym.Comma ∷ name 53 "B" ∷ symbol 55 sym.Colon ∷
    symbol 57 sym.OpenBracket ∷ name 58 "R" ∷ symbol 59 sym.CloseBracket ∷
    keyword 61 key.Integer ∷ symbol 68 sym.Semicolon ∷ keyword 69 key.Procedure ∷ name 79 "t" ∷
    symbol 80 sym.OpenParen ∷ symbol 81 sym.CloseParen ∷ symbol 82 sym.Semicolon ∷
    keyword 83 key.Begin ∷ symbol 89 sym.OpenBracket ∷ name 90 "R" ∷ symbol 91 sym.CloseBracket ∷
    name 93 "B" ∷ symbol 95 sym.Assign ∷ name 98 "A" ∷ symbol 99 sym.At ∷ symbol 100 sym.Caret ∷
    name 101 "e" ∷ symbol 103 sym.Plus ∷ name 105 "A" ∷ symbol 106 sym.Hash ∷
    symbol 107 sym.OpenBracket ∷ number 108 5 ∷ symbol 110 sym.Minus ∷ keyword 112 key.Index1 ∷
    symbol 118 sym.CloseBracket ∷ symbol 119 sym.Semicolon ∷ keyword 120 key.End ∷
    symbol 123 sym.Semicolon ∷ lexeme_at 124 word.End ∷ []

-- direction e = [1]; region R = [1..4]; var A, B : [R] integer;
abbrev directions : Decl
directions = Directions (record {
  name = called 20 "e";
  parts = ThenExpr (Number 25 (pos 1)) NoExpr;
} ∷ [])

abbrev regions : Decl
regions = Regions (record {
  name = called 35 "R";
  body = Dims (ThenDim (Span (Number 40 (pos 1)) (Number 43 (pos 4))) NoDim);
  posts = NoPost;
} ∷ [])

abbrev variables : Decl
variables = Vars (record {
  names = called 50 "A" ∷ called 53 "B" ∷ [];
  shape = Bracketed (region 58 "R");
  base = Integer;
} ∷ [])

-- A@^e + A#[5 - Index1]
abbrev around : Expr
around = Around 98 (called 98 "A") (NamedDir (called 101 "e"))

abbrev index : Expr
index = Pair 108 op.Sub (Number 108 (pos 5)) (Coord 112 1)

abbrev remap : Expr
remap = Remap 105 (called 105 "A") (ThenExpr index NoExpr)

-- [R] B := A@^e + A#[5 - Index1];
abbrev assignment : Stmt
assignment =
    Prefixed 93 (record { at = 89; region = region 90 "R"; mask = None } ∷ [])
    (Assign (called 93 "B") None (Pair 98 op.Add around remap))

abbrev the_program : Program
the_program = record {
  name = called 8 "t";
  decls = directions ∷ regions ∷ variables ∷ Defined (record {
    name = called 79 "t";
    params = [];
    result = None;
    locals = [];
    body = Prefixed 83 [] (Block (ThenStmt assignment NoStmt));
  }) ∷ [];
  source = [];
}

-- the rules take all 56 words and give this tree, whose offsets are theirs
new_forms : program [] 57 lexemes ≡ Done the_program []
new_forms = refl

-- the same words are printed of it
abbrev kinds_of : List Lexeme → List Kind
kinds_of those = map (λ (l : Lexeme). l.kind) those

printed_kinds : map kind_of (program_words the_program) ≡ kinds_of lexemes
printed_kinds = refl

-- nothing else takes a `^` or a `#`: a second `^`, a `^` behind a `#`, and indices behind a call
no_second_caret : (levels 9 2).expr (name 0 "A" ∷ symbol 1 sym.At ∷ symbol 2 sym.Caret ∷
    symbol 3 sym.Caret ∷ name 4 "e" ∷ [])
    ≡ Wrong (symbol 3 sym.Caret ∷ name 4 "e" ∷ [])
no_second_caret = refl

no_caret_alone : (levels 9 2).expr (name 0 "A" ∷ symbol 1 sym.Caret ∷ name 2 "e" ∷ [])
    ≡ Done (Named 0 (called 0 "A")) (symbol 1 sym.Caret ∷ name 2 "e" ∷ [])
no_caret_alone = refl

no_bare_index : (levels 9 2).expr (name 0 "A" ∷ symbol 1 sym.Hash ∷ number 2 1 ∷ [])
    ≡ Wrong (number 2 1 ∷ [])
no_bare_index = refl

no_empty_remap : (levels 9 2).expr
    (name 0 "A" ∷ symbol 1 sym.Hash ∷ symbol 2 sym.OpenBracket ∷ symbol 3 sym.CloseBracket ∷ [])
    ≡ Wrong (symbol 3 sym.CloseBracket ∷ [])
no_empty_remap = refl

-- an index is a part, so it is one deeper than the remap, and a remap of a name takes two
two_deep : (levels 9 2).expr
    (name 0 "A" ∷ symbol 1 sym.Hash ∷ symbol 2 sym.OpenBracket ∷ number 3 1 ∷
    symbol 4 sym.CloseBracket ∷ [])
    ≡ Done (Remap 0 (called 0 "A") (ThenExpr (Number 3 (pos 1)) NoExpr)) []
two_deep = refl

not_one_deep : (levels 9 1).expr
    (name 0 "A" ∷ symbol 1 sym.Hash ∷ symbol 2 sym.OpenBracket ∷ number 3 1 ∷
    symbol 4 sym.CloseBracket ∷ [])
    ≡ Deep (symbol 4 sym.CloseBracket ∷ [])
not_one_deep = refl
