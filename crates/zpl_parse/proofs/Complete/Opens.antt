-- How the words of an expression begin.
use Rattle.std.proofs.Common.{◌≡◌, ℕ, suc, zero, true, false, IsTrue, nat_le, ℤ, pos, int_le, List, [], ◌∷◌, ◌++◌, refl, arith}
use Rattle.std.proofs.lemmas.Bool.Decides.{nat_tests}
use Rattle.zpl_nums.specs.declared.operators.Op.TheVariants as op
use Rattle.zpl_nums.specs.declared.folds.Fold.{Fold}
use Rattle.zpl_nums.specs.declared.folds.Fold.TheVariants as fold
use Rattle.zpl_tokens.specs.declared.symbols.Sym.{Sym}
use Rattle.zpl_tokens.specs.declared.symbols.Sym.TheVariants as sym
use Rattle.zpl_tree.specs.Word.{Word}
use Rattle.zpl_tree.specs.Word as word
use Rattle.zpl_tree.specs.Syntax.{Expr, Number, Truth, Coord, Named, Shifted, Around, Remap, Call, Paren, Neg, Not, Abs, Pair, Reduce, Scan, Flood}
use Rattle.zpl_tree.specs.Spelling.{expr_words, fold_words, index_words, bracket_words, along_words}
use Rattle.zpl_tree.specs.Grammar.{IsExpr, left_level}
use Rattle.zpl_grammar.specs.Lexeme.{Lexeme}
use Rattle.zpl_parse.specs.Classes.{is_some, opening_number}
use Rattle.zpl_parse.proofs.Complete.Base.{Begins, more, Split, split_at}
use Rattle.zpl_parse.proofs.Complete.Levels.{Opens, OpensAt}

number_begins : (value : ℤ) → IsTrue (int_le (pos 0) value)
    → is_some (opening_number value (int_le (pos 0) value)) ≡ true
number_begins value h = rw h

module _ {most : ℕ} where
  fold_reduce : (operator : Fold) (inner outer : List Word) {xs rest : List Lexeme}
      → Begins most (((fold_words operator ++ word.Symbol sym.Reduce ∷ []) ++ inner) ++
      outer) xs rest → Opens xs
  fold_reduce fold.Sum inner outer (more w bytes at bound (more v other place limit b)) =
      record { begins = refl; bracket = refl; paren = refl; string = refl; dim = refl; star = refl }
  fold_reduce fold.Prod inner outer (more w bytes at bound (more v other place limit b)) =
      record { begins = refl; bracket = refl; paren = refl; string = refl; dim = refl; star = refl }
  fold_reduce fold.Max inner outer (more w bytes at bound (more v other place limit b)) =
      record { begins = refl; bracket = refl; paren = refl; string = refl; dim = refl; star = refl }
  fold_reduce fold.Min inner outer (more w bytes at bound (more v other place limit b)) =
      record { begins = refl; bracket = refl; paren = refl; string = refl; dim = refl; star = refl }
  fold_reduce fold.All inner outer (more w bytes at bound (more v other place limit b)) =
      record { begins = refl; bracket = refl; paren = refl; string = refl; dim = refl; star = refl }
  fold_reduce fold.Any inner outer (more w bytes at bound (more v other place limit b)) =
      record { begins = refl; bracket = refl; paren = refl; string = refl; dim = refl; star = refl }

  fold_scan : (operator : Fold) (inner outer : List Word) {xs rest : List Lexeme}
      → Begins most (((fold_words operator ++ word.Symbol sym.Scan ∷ []) ++ inner) ++ outer) xs rest
      → Opens xs
  fold_scan fold.Sum inner outer (more w bytes at bound (more v other place limit b)) =
      record { begins = refl; bracket = refl; paren = refl; string = refl; dim = refl; star = refl }
  fold_scan fold.Prod inner outer (more w bytes at bound (more v other place limit b)) =
      record { begins = refl; bracket = refl; paren = refl; string = refl; dim = refl; star = refl }
  fold_scan fold.Max inner outer (more w bytes at bound (more v other place limit b)) =
      record { begins = refl; bracket = refl; paren = refl; string = refl; dim = refl; star = refl }
  fold_scan fold.Min inner outer (more w bytes at bound (more v other place limit b)) =
      record { begins = refl; bracket = refl; paren = refl; string = refl; dim = refl; star = refl }
  fold_scan fold.All inner outer (more w bytes at bound (more v other place limit b)) =
      record { begins = refl; bracket = refl; paren = refl; string = refl; dim = refl; star = refl }
  fold_scan fold.Any inner outer (more w bytes at bound (more v other place limit b)) =
      record { begins = refl; bracket = refl; paren = refl; string = refl; dim = refl; star = refl }

  coord_opens : (dimension : ℕ) {xs rest : List Lexeme} → IsTrue (nat_le 1 dimension)
      → IsTrue (nat_le dimension 3) → Begins most (index_words dimension) xs rest → Opens xs
  coord_opens zero low high b = absurd (cc)
  coord_opens (suc zero) low high (more w bytes at bound b) =
      record { begins = refl; bracket = refl; paren = refl; string = refl; dim = refl; star = refl }
  coord_opens (suc (suc zero)) low high (more w bytes at bound b) =
      record { begins = refl; bracket = refl; paren = refl; string = refl; dim = refl; star = refl }
  coord_opens (suc (suc (suc zero))) low high (more w bytes at bound b) =
      record { begins = refl; bracket = refl; paren = refl; string = refl; dim = refl; star = refl }
  coord_opens (suc (suc (suc (suc above)))) low high b = absurd (grind (arith, nat_tests))

  -- what begins with an operand begins so
  left_opens : (left : Expr) (s : Sym) (words : List Word) → OpensAt most left
      → (xs rest : List Lexeme)
      → Begins most ((expr_words left ++ word.Symbol s ∷ []) ++ words) xs rest → Opens xs
  left_opens left s words opens xs rest b =
      let parts : Split most (expr_words left) (word.Symbol s ∷ words) xs rest =
      split_at (expr_words left) (word.Symbol s) words b in
      opens xs parts.middle parts.first

  -- each expression of the grammar
  pub opens_at : (level : ℕ) (t : Expr) → IsExpr level t → OpensAt most t
  opens_at level (Number at value) is xs rest (more w bytes place bound b) =
      record {
        begins = number_begins value is;
        bracket = refl;
        paren = refl;
        string = refl;
        dim =
            refl;
        star = refl;
      }
  opens_at level (Truth at true) is xs rest (more w bytes place bound b) =
      record { begins = refl; bracket = refl; paren = refl; string = refl; dim = refl; star = refl }
  opens_at level (Truth at false) is xs rest (more w bytes place bound b) =
      record { begins = refl; bracket = refl; paren = refl; string = refl; dim = refl; star = refl }
  opens_at level (Coord at dimension) is xs rest b = coord_opens dimension is.0 is.1 b
  opens_at level (Named at name) is xs rest (more w bytes place bound b) =
      record { begins = refl; bracket = refl; paren = refl; string = refl; dim = refl; star = refl }
  opens_at level (Shifted at name shift) is xs rest (more w bytes place bound b) =
      record { begins = refl; bracket = refl; paren = refl; string = refl; dim = refl; star = refl }
  opens_at level (Around at name shift) is xs rest (more w bytes place bound b) =
      record { begins = refl; bracket = refl; paren = refl; string = refl; dim = refl; star = refl }
  opens_at level (Remap at name indices) is xs rest (more w bytes place bound b) =
      record { begins = refl; bracket = refl; paren = refl; string = refl; dim = refl; star = refl }
  opens_at level (Call at name actuals) is xs rest (more w bytes place bound b) =
      record { begins = refl; bracket = refl; paren = refl; string = refl; dim = refl; star = refl }
  opens_at level (Paren at inside) is xs rest (more w bytes place bound b) =
      record { begins = refl; bracket = refl; paren = refl; string = refl; dim = refl; star = refl }
  opens_at level (Neg at operand) is xs rest (more w bytes place bound b) =
      record { begins = refl; bracket = refl; paren = refl; string = refl; dim = refl; star = refl }
  opens_at level (Not at operand) is xs rest (more w bytes place bound b) =
      record { begins = refl; bracket = refl; paren = refl; string = refl; dim = refl; star = refl }
  opens_at level (Abs at operand) is xs rest (more w bytes place bound b) =
      record { begins = refl; bracket = refl; paren = refl; string = refl; dim = refl; star = refl }
  opens_at level (Flood at source operand) is xs rest (more w bytes place bound b) =
      record { begins = refl; bracket = refl; paren = refl; string = refl; dim = refl; star = refl }
  opens_at level (Reduce at operator over operand) is xs rest b =
      fold_reduce operator (bracket_words over) (expr_words operand) b
  opens_at level (Scan at operator along operand) is xs rest b =
      fold_scan operator (along_words along) (expr_words operand) b
  opens_at level (Pair at op.Max left right) is xs rest (more w bytes place bound b) =
      record { begins = refl; bracket = refl; paren = refl; string = refl; dim = refl; star = refl }
  opens_at level (Pair at op.Min left right) is xs rest (more w bytes place bound b) =
      record { begins = refl; bracket = refl; paren = refl; string = refl; dim = refl; star = refl }
  opens_at level (Pair at op.Add left right) is xs rest b =
      left_opens left sym.Plus (expr_words right) (opens_at (left_level op.Add) left is.1) xs rest b
  opens_at level (Pair at op.Sub left right) is xs rest b =
      left_opens left sym.Minus (expr_words right) (opens_at (left_level op.Sub) left is.1) xs rest
      b
  opens_at level (Pair at op.Mul left right) is xs rest b =
      left_opens left sym.Star (expr_words right) (opens_at (left_level op.Mul) left is.1) xs rest b
  opens_at level (Pair at op.Div left right) is xs rest b =
      left_opens left sym.Slash (expr_words right) (opens_at (left_level op.Div) left is.1) xs rest
      b
  opens_at level (Pair at op.Rem left right) is xs rest b =
      left_opens left sym.Percent (expr_words right) (opens_at (left_level op.Rem) left is.1) xs
      rest b
  opens_at level (Pair at op.Eq left right) is xs rest b =
      left_opens left sym.Equal (expr_words right) (opens_at (left_level op.Eq) left is.1) xs rest b
  opens_at level (Pair at op.Ne left right) is xs rest b =
      left_opens left sym.NotEqual (expr_words right) (opens_at (left_level op.Ne) left is.1) xs
      rest b
  opens_at level (Pair at op.Lt left right) is xs rest b =
      left_opens left sym.Less (expr_words right) (opens_at (left_level op.Lt) left is.1) xs rest b
  opens_at level (Pair at op.Le left right) is xs rest b =
      left_opens left sym.LessEqual (expr_words right) (opens_at (left_level op.Le) left is.1) xs
      rest b
  opens_at level (Pair at op.Gt left right) is xs rest b =
      left_opens left sym.Greater (expr_words right) (opens_at (left_level op.Gt) left is.1) xs rest
      b
  opens_at level (Pair at op.Ge left right) is xs rest b =
      left_opens left sym.GreaterEqual (expr_words right) (opens_at (left_level op.Ge) left is.1) xs
      rest b
  opens_at level (Pair at op.And left right) is xs rest b =
      left_opens left sym.And (expr_words right) (opens_at (left_level op.And) left is.1) xs rest b
  opens_at level (Pair at op.Or left right) is xs rest b =
      left_opens left sym.Or (expr_words right) (opens_at (left_level op.Or) left is.1) xs rest b
