-- Plain trees, their words, their text, their place in the grammar, their shape and their depth,
-- computed.
use Rattle.std.proofs.Common.{◌≡◌, ◌∷◌, ◌++◌, ℕ, List, [], codes, refl, pos, negsuc, false, None, inl, inr}
use Rattle.std.proofs.lemmas.Bool.{false≢true}
use Rattle.std.specs.Fmt.{digits}
use Rattle.zpl_nums.specs.declared.operators.Op.TheVariants as op
use Rattle.zpl_nums.specs.declared.folds.Fold.TheVariants as fold
use Rattle.zpl_tokens.specs.declared.keywords.Key.TheVariants as key
use Rattle.zpl_tokens.specs.declared.symbols.Sym.TheVariants as sym
use Rattle.zpl_tree.specs.Depth.{depth, expr_depth, nest_depth}
use Rattle.zpl_tree.specs.Grammar.{IsExpr, IsInner, IsProgram, SpellsLocals, SpellsRegion, expr_level}
use Rattle.zpl_tree.specs.Shape.{SameShape}
use Rattle.zpl_tree.specs.Spelling.{expr_words, inner_words, keyword, program_words, symbol, var_words}
use Rattle.zpl_tree.specs.Syntax.{Name, Expr, Number, Named, Around, Remap, Neg, Pair, Reduce, NoExpr, ThenExpr, Rexpr, Dims, NoBracket, NamedDir, NamedRegion, NoPost, ThenPost, One, Star, Blank, Span, ThenDim, NoDim, RegionDef, VarDef, Stmt, Prefixed, NoStmt, ThenStmt, Assign, Block, Integer, Vars, Defined, Program}
use Rattle.zpl_tree.specs.Word.{Word, printed_text, written}
use Rattle.zpl_tree.specs.Word as word

abbrev name_at : List ℕ → ℕ → Name
name_at text at = record { text = text; at = at }

abbrev name : List ℕ → Name
name text = name_at text 0

abbrev one : Expr
one = Number 0 (pos 1)

abbrev array : Expr
array = Named 0 (name (codes "A"))

-- 1 + - 2
abbrev sum : Expr
sum = Pair 0 op.Add one (Neg 0 (Number 0 (pos 2)))

abbrev variable : List ℕ → VarDef
variable text = record { names = name text ∷ []; shape = NoBracket; base = Integer }

abbrev procedure : Stmt → Program
procedure body = record {
  name = name (codes "t");
  decls =
      Vars (variable (codes "x") ∷ []) ∷
      Defined (record {
        name = name (codes "t");
        params = [];
        result = None;
        locals = [];
        body = body;
      }) ∷ [];
  source = [];
}

-- begin x := 1 + - 2 ; end ;
abbrev block : ℕ → Stmt
block at =
    let assignment = Prefixed at [] (Assign (name_at (codes "x") at) None sum) in
    Prefixed at [] (Block (ThenStmt assignment NoStmt))

abbrev program : Program
program = procedure (block 0)

sum_words : expr_words sum ≡ word.Number (pos 1) ∷ word.Symbol sym.Plus ∷ word.Symbol sym.Minus ∷
    word.Number (pos 2) ∷ []
sum_words = refl

program_text : printed_text (program_words program)
    ≡ codes "program t ;\nvar x : integer ;\nprocedure t ( ) ;\nbegin x := 1 + - 2 ;\nend ;\n"
unfolding written digits
program_text = refl

-- one, a sum of a unary minus, and what it takes
sum_is_expr : IsExpr expr_level sum
sum_is_expr = (refl, refl, (refl, refl))

program_is : IsProgram program
program_is = ((tt, ((tt, tt), tt)), ((tt, tt, (tt, ((tt, (tt, sum_is_expr)), tt))), tt))

-- `1 - 1 - 1` groups to the left
left_grouping : IsExpr expr_level (Pair 0 op.Sub (Pair 0 op.Sub one one) one)
left_grouping = (refl, (refl, refl, refl), refl)

no_right_grouping : IsExpr expr_level (Pair 0 op.Sub one (Pair 0 op.Sub one one)) → ⊥
no_right_grouping h = false≢true h.2.0

-- comparisons don't follow one another
no_chain : IsExpr expr_level (Pair 0 op.Lt (Pair 0 op.Lt one one) one) → ⊥
no_chain h = false≢true h.1.0

-- `+ << A * 1` is a product, and no reduction
reduced_product : IsExpr expr_level (Pair 0 op.Mul (Reduce 0 fold.Sum NoBracket array) one)
reduced_product = (refl, (refl, tt, tt), refl)

no_reduction_of_product : IsExpr expr_level (Reduce 0 fold.Sum NoBracket (Pair 0 op.Mul array one))
    → ⊥
no_reduction_of_product h = false≢true h.2.0

no_negative_number : IsExpr expr_level (Number 0 (negsuc 4)) → ⊥
no_negative_number h = false≢true h

-- `[ ]` is one blank dimension, no dimension is nothing, and a single name is a region expression
blank_dimension : IsInner (Dims (ThenDim (Blank 0) NoDim))
blank_dimension = (tt, (tt, tt))

no_empty_list : IsInner (Dims NoDim) → ⊥
no_empty_list h = h.0

no_name_as_index : IsInner (Dims (ThenDim (One array) NoDim)) → ⊥
no_name_as_index h = h.0

-- `1 .. A , * , , 1`
dimension_words :
    inner_words (Dims (ThenDim (Span one array) (ThenDim (Star 0)
    (ThenDim (Blank 0) (ThenDim (One one) NoDim)))))
    ≡ word.Number (pos 1) ∷ word.Symbol sym.DotDot ∷ word.Name (codes "A") ∷
    word.Symbol sym.Comma ∷ word.Symbol sym.Star ∷
    word.Symbol sym.Comma ∷ word.Symbol sym.Comma ∷ word.Number (pos 1) ∷ []
dimension_words = refl

-- `R = S at d ;`, printed as `R = [ S at d ] ;`
abbrev moved : RegionDef
moved = record {
  name = name (codes "R");
  body =
      Rexpr [] (NamedRegion (name (codes "S")))
      (ThenPost false (NamedDir (name (codes "d"))) NoPost);
  posts = NoPost;
}

abbrev moved_words : List Word
moved_words = word.Name (codes "S") ∷ word.Keyword key.At ∷ word.Name (codes "d") ∷ []

region_in_brackets : SpellsRegion moved
    (word.Name (codes "R") ∷ symbol sym.Equal ++ symbol sym.OpenBracket ++ moved_words ++
    symbol sym.CloseBracket ++ symbol sym.Semicolon)
region_in_brackets = inl refl

region_without_brackets : SpellsRegion moved
    (word.Name (codes "R") ∷ symbol sym.Equal ++ moved_words ++ symbol sym.Semicolon)
region_without_brackets = inr (tt, tt, refl)

-- two local variables, in one group or in two
one_group : SpellsLocals (variable (codes "x") ∷ variable (codes "y") ∷ [])
    (keyword key.Var ++ var_words (variable (codes "x")) ++ var_words (variable (codes "y")))
one_group = (var_words (variable (codes "y")), ([], refl, inl refl), refl)

two_groups : SpellsLocals (variable (codes "x") ∷ variable (codes "y") ∷ [])
    (keyword key.Var ++ var_words (variable (codes "x")) ++
    keyword key.Var ++ var_words (variable (codes "y")))
two_groups = (keyword key.Var ++ var_words (variable (codes "y")), ([], refl, inr refl), refl)

-- `A @ ^ d` and `A # [ 1 + - 2 , A ]`, whose indices are parts
abbrev around : Expr
around = Around 0 (name (codes "A")) (NamedDir (name (codes "d")))

abbrev remap : Expr
remap = Remap 0 (name (codes "A")) (ThenExpr sum (ThenExpr array NoExpr))

around_words : expr_words around
    ≡ word.Name (codes "A") ∷ word.Symbol sym.At ∷ word.Symbol sym.Caret ∷
    word.Name (codes "d") ∷ []
around_words = refl

remap_words : expr_words remap
    ≡ word.Name (codes "A") ∷ word.Symbol sym.Hash ∷ word.Symbol sym.OpenBracket ∷
    word.Number (pos 1) ∷ word.Symbol sym.Plus ∷ word.Symbol sym.Minus ∷ word.Number (pos 2) ∷
    word.Symbol sym.Comma ∷ word.Name (codes "A") ∷ word.Symbol sym.CloseBracket ∷ []
remap_words = refl

remap_is_expr : IsExpr expr_level remap
remap_is_expr = (tt, (sum_is_expr, (tt, tt)))

no_remap_without_index : ¬ IsExpr expr_level (Remap 0 (name (codes "A")) NoExpr)
no_remap_without_index h = h.0

around_depth : expr_depth around ≡ 1
around_depth = refl

remap_depth : expr_depth remap ≡ 4
remap_depth = refl

sum_depth : expr_depth sum ≡ 3
sum_depth = refl

-- the block and its statement, whose expression doesn't count
block_depth : nest_depth (block 0) ≡ 2
block_depth = refl

program_depth : depth program ≡ 3
program_depth = refl

same_shape : SameShape program (record (procedure (block 9)) { source = codes "program t;" })
same_shape = refl
