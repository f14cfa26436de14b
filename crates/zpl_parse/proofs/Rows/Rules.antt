-- Rules of the grammar, computed on the words of small programs.
use Rattle.std.proofs.Common.{◌++◌, ◌≡◌, ◌∷◌, ℕ, suc, List, [], codes, refl, pos, None}
use Rattle.zpl_nums.specs.declared.operators.Op.TheVariants as op
use Rattle.zpl_nums.specs.declared.folds.Fold.TheVariants as fold
use Rattle.zpl_tokens.specs.declared.keywords.Key.TheVariants as key
use Rattle.zpl_tokens.specs.declared.symbols.Sym.TheVariants as sym
use Rattle.zpl_tree.specs.Syntax.{Rexpr, NamedRegion, NoPost, Dims, ThenDim, NoDim, One, Blank, Star, Reduce, Name, Expr, Number, Named, Neg, Paren, Pair, NoBracket, Prefixed, NoStmt, ThenStmt, Assign, Block, While, Integer, Vars, Defined, Program}
use Rattle.zpl_tree.specs.Word.{Word}
use Rattle.zpl_tree.specs.Word as word
use Rattle.zpl_grammar.specs.Lexeme.{Lexeme, lexeme_at}
use Rattle.zpl_parse.specs.Outcome.{Done, Wrong, Deep}
use Rattle.zpl_parse.specs.Expressions.{in_bracket, levels}
use Rattle.zpl_parse.specs.Statements.{stmt}
use Rattle.zpl_parse.specs.Declarations.{program}

-- each word at its number
abbrev at : ℕ → List Word → List Lexeme
at k [] = []
at k (first ∷ rest) = lexeme_at k first ∷ at (suc k) rest

abbrev name_at : List ℕ → ℕ → Name
name_at text k = record { text = text; at = k }

-- program t ; var x : integer ; procedure t ( ) ; begin x := 1 + - 2 ; end ;
abbrev program_words : List Word
program_words =
    word.Keyword key.Program ∷ word.Name (codes "t") ∷ word.Symbol sym.Semicolon ∷
    word.Keyword key.Var ∷ word.Name (codes "x") ∷ word.Symbol sym.Colon ∷
    word.Keyword key.Integer ∷ word.Symbol sym.Semicolon ∷
    word.Keyword key.Procedure ∷ word.Name (codes "t") ∷ word.Symbol sym.OpenParen ∷
    word.Symbol sym.CloseParen ∷ word.Symbol sym.Semicolon ∷
    word.Keyword key.Begin ∷ word.Name (codes "x") ∷ word.Symbol sym.Assign ∷ word.Number (pos 1) ∷
    word.Symbol sym.Plus ∷
    word.Symbol sym.Minus ∷ word.Number (pos 2) ∷ word.Symbol sym.Semicolon ∷
    word.Keyword key.End ∷ word.Symbol sym.Semicolon ∷ word.End ∷ []

abbrev the_program : Program
the_program = record {
  name = name_at (codes "t") 1;
  decls =
      Vars (record { names = name_at (codes "x") 4 ∷ []; shape = NoBracket; base = Integer } ∷ []) ∷
      Defined (record {
        name = name_at (codes "t") 9;
        params = [];
        result = None;
        locals = [];
        body = Prefixed 13 [] (Block (ThenStmt (Prefixed 14 [] (Assign (name_at (codes "x") 14) None
            (Pair 16 op.Add (Number 16 (pos 1)) (Neg 18 (Number 19 (pos 2)))))) NoStmt));
      }) ∷ [];
  source = [];
}

a_program : program [] 24 (at 0 program_words) ≡ Done the_program []
a_program = refl

-- x - x - x groups to the left
abbrev differences : List Word
differences = word.Name (codes "x") ∷ word.Symbol sym.Minus ∷ word.Name (codes "x") ∷
    word.Symbol sym.Minus ∷ word.Name (codes "x") ∷ []

abbrev x : ℕ → Expr
x k = Named k (name_at (codes "x") k)

left_grouping : (levels 5 3).expr (at 0 differences)
    ≡ Done (Pair 0 op.Sub (Pair 0 op.Sub (x 0) (x 2)) (x 4)) []
left_grouping = refl

-- its depth is 3
no_differences : (levels 5 2).expr (at 0 differences) ≡ Deep (at 4 (word.Name (codes "x") ∷ []))
no_differences = refl

-- ( 1 ) has depth 2
abbrev brackets : List Word
brackets = word.Symbol sym.OpenParen ∷ word.Number (pos 1) ∷ word.Symbol sym.CloseParen ∷ []

in_brackets : (levels 5 2).expr (at 0 brackets) ≡ Done (Paren 0 (Number 1 (pos 1))) []
in_brackets = refl

no_brackets : (levels 5 1).expr (at 0 brackets) ≡ Deep (at 2 (word.Symbol sym.CloseParen ∷ []))
no_brackets = refl

-- while x do end ;
abbrev loop : List Word
loop = word.Keyword key.While ∷ word.Name (codes "x") ∷ word.Keyword key.Do ∷ word.Keyword key.End ∷
    word.Symbol sym.Semicolon ∷ []

a_loop : stmt 5 (levels 5 1).expr 1 (at 0 loop) ≡ Done (Prefixed 0 [] (While (x 1) NoStmt)) []
a_loop = refl

-- x := x + ;
abbrev half_sum : List Word
half_sum = word.Name (codes "x") ∷ word.Symbol sym.Assign ∷ word.Name (codes "x") ∷
    word.Symbol sym.Plus ∷ word.Symbol sym.Semicolon ∷ []

wrong : stmt 5 (levels 5 2).expr 1 (at 0 half_sum) ≡ Wrong (at 4 (word.Symbol sym.Semicolon ∷ []))
wrong = refl

-- [ A ] is a region of that name, [ A , ] has two dimensions, and [ ] has one
abbrev bracketed : List Word → List Word
bracketed words = word.Symbol sym.OpenBracket ∷ (words ++ word.Symbol sym.CloseBracket ∷ [])

named : in_bracket 5 (levels 5 2).expr (at 0 (bracketed (word.Name (codes "A") ∷ [])))
    ≡ Done (Rexpr [] (NamedRegion (name_at (codes "A") 1)) NoPost) []
named = refl

two_dims : in_bracket 5 (levels 5 2).expr
    (at 0 (bracketed (word.Name (codes "A") ∷ word.Symbol sym.Comma ∷ []))) ≡
    Done (Dims (ThenDim (One (Named 1 (name_at (codes "A") 1))) (ThenDim (Blank 3) NoDim))) []
two_dims = refl

one_blank : in_bracket 5 (levels 5 2).expr (at 0 (bracketed []))
    ≡ Done (Dims (ThenDim (Blank 1) NoDim)) []
one_blank = refl

-- [ * , * << x ]: a star by itself, and one that folds
stars : in_bracket 5 (levels 5 2).expr
    (at 0 (bracketed (word.Symbol sym.Star ∷ word.Symbol sym.Comma ∷ word.Symbol sym.Star ∷
    word.Symbol sym.Reduce ∷ word.Name (codes "x") ∷ []))) ≡
    Done (Dims (ThenDim (Star 1) (ThenDim (One (Reduce 3 fold.Prod NoBracket (x 5))) NoDim))) []
stars = refl

-- x < x < x : comparisons don't follow one another
no_chain : (levels 5 3).expr (at 0 (word.Name (codes "x") ∷ word.Symbol sym.Less ∷
    word.Name (codes "x") ∷ word.Symbol sym.Less ∷ word.Name (codes "x") ∷ [])) ≡
    Done (Pair 0 op.Lt (x 0) (x 2)) (at 3 (word.Symbol sym.Less ∷ word.Name (codes "x") ∷ []))
no_chain = refl
