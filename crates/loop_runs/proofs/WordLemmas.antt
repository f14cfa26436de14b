-- The value of an expression goes by what a group may read.
--
--   ExprOf        an expression of which each word may be read, where some cells are kept
--   value_by      then its value is the same where these operands are
--   is_moved_none a vector that moves nothing leaves a tuple as it is
--   LeafOf        what members may write
use Rattle.std.proofs.Common.{◌≡◌, refl, sym, ◌∙◌, ap, arith, ℕ, ◌-◌, Bool, true, false}
use Rattle.std.proofs.Common.{List, [], ◌∷◌, ◌++◌, All, ℤ, pos, ◌+ℤ◌, Option, Some}
use Rattle.std.specs.Prelude.{◌&&◌, ◌==◌, if◌then◌else◌, slice_get, ⊤}
use Rattle.std.specs.Ordering.{int_eq}
use Rattle.std.proofs.lemmas.Int.{ints}
use Rattle.node_form.specs.declared.tables.Tables.{Tables}
use Rattle.node_form.specs.declared.words.ExprOp.{ExprOp}
use Rattle.node_form.specs.declared.words.ExprOp.TheVariants.{Const, Scalar, Here, Shifted, Cell}
use Rattle.node_form.specs.declared.words.ExprOp.TheVariants.{Coord, Pair, Neg, Not, Abs}
use Rattle.node_form.specs.Expression.{IsExpression}
use Rattle.node_form.specs.Fits.{FitsWord}
use Rattle.node_form.specs.Value.{Operands, and_then, read, unmoved, value_of}
use Rattle.row_runs.specs.Straight.{Every}
use Rattle.zpl_nums.specs.declared.folds.Fold.{Fold}
use Rattle.zpl_region.proofs.ListLemmas.{Among}
use Rattle.nest_meaning.specs.Alike.{JoinLeaf, KeepLeaf, Leaf, PutLeaf}
use Rattle.grid_meaning.specs.Place.{moved_by}
use Rattle.flat_form.specs.Loop.{Joins, Log, Puts, logged}
use Rattle.flat_form.specs.Right.{is_unmoved}
use Rattle.flat_form.specs.Row.{Words}
use Rattle.flat_form.proofs.WordLemmas.{ReadsSame, every_more, value_same}

-- which arrays are read by which vectors, and which scalars
module _ (tables : Tables) (rank : ℕ) (exprs : List Words) (R : ℕ → List ℤ → Type 0)
    (S : ℕ → Type 0) where
  abbrev pub WordOf : List ℕ → ExprOp → Type 0
  WordOf known (Scalar scalar) = S scalar
  WordOf known (Here array) = R array unmoved
  WordOf known (Shifted array shift) = R array shift
  WordOf known (Cell cell) = Among known cell
  WordOf known (Coord dimension) = ⊤
  WordOf known (Const value) = ⊤
  WordOf known (Pair op) = ⊤
  WordOf known Neg = ⊤
  WordOf known Not = ⊤
  WordOf known Abs = ⊤

  pub record ExprOf (known : List ℕ) (expr : ℕ) : Type 0 where
    pub words : List ExprOp
    pub there : slice_get exprs expr ≡ Some words
    pub each : Every (WordOf known) words
    pub stack : IsExpression words
    pub fit : All (FitsWord tables rank) words

  module _ (known : List ℕ) (o u : Operands)
      (scalars : (k : ℕ) → S k → slice_get o.scalars k ≡ slice_get u.scalars k)
      (cells : (c : ℕ) → Among known c → slice_get o.cells c ≡ slice_get u.cells c)
      (index : o.index ≡ u.index)
      (elements : (a : ℕ) (shift : List ℤ) → R a shift → o.element a shift ≡ u.element a shift)
    where
      word_same : (word : ExprOp) → WordOf known word → ReadsSame o u word
      word_same (Scalar scalar) is = scalars scalar is
      word_same (Here array) is = elements array unmoved is
      word_same (Shifted array shift) is = elements array shift is
      word_same (Cell cell) is = cells cell is
      word_same (Coord dimension) is = ap (λ t. slice_get t (dimension - 1)) index
      word_same (Const value) is = tt
      word_same (Pair op) is = tt
      word_same Neg is = tt
      word_same Not is = tt
      word_same Abs is = tt

      pub value_by : (expr : ℕ) → ExprOf known expr
          → and_then (value_of o) (read (slice_get exprs expr))
          ≡ and_then (value_of u) (read (slice_get exprs expr))
      value_by expr is =
          ap (λ e. and_then (value_of o) (read e)) is.there
          ∙ (value_same o u is.words
          (every_more {P = WordOf known} {Q = ReadsSame o u} word_same is.words is.each)
          ∙ sym (ap (λ e. and_then (value_of u) (read e)) is.there))

-- ---- vectors that move nothing
int_same : (x y : ℤ) → int_eq x y ≡ true → x ≡ y
int_same x y e = grind (arith, ints)

add_none : (x : ℤ) → x +ℤ pos 0 ≡ x
add_none x = omega (arith, ints)

pub is_moved_none : (shift t : List ℤ) → is_unmoved shift ≡ true → moved_by shift t ≡ t
is_moved_none [] t e = refl
is_moved_none (d ∷ shift) [] e = refl
is_moved_none (d ∷ shift) (x ∷ t) e =
    let parts = both (int_eq d (pos 0)) (is_unmoved shift) e in
    ap (λ y. y ∷ moved_by shift t) (ap (λ z. x +ℤ z) (int_same d (pos 0) parts.0) ∙ add_none x)
    ∙ ap (λ u. x ∷ u) (is_moved_none shift t parts.1)
  where
    both : (a b : Bool) → (a && b) ≡ true → (a ≡ true) × (b ≡ true)
    both true b e = (refl, e)
    both false b e = cc

-- ---- logs
pub logged_append : (one other : Log) (a : ℕ) (value : Option ℤ)
    → logged (one ++ other) a value ≡ logged one a (logged other a value)
logged_append [] other a value = refl
logged_append (Puts array v ∷ one) other a value =
    ap (λ rest. if array == a then Some v else rest) (logged_append one other a value)
logged_append (Joins scalar operator v ∷ one) other a value = logged_append one other a value

-- ---- leaves: which arrays are put, which scalars are accumulated, and which cells are kept
module _ (puts : ℕ → Bool) (J : ℕ → Fold → Type 0) (IsCell : ℕ → Type 0) where
  abbrev pub LeafOf : Leaf → Type 0
  LeafOf (PutLeaf array) = puts array ≡ true
  LeafOf (KeepLeaf cell) = IsCell cell
  LeafOf (JoinLeaf scalar operator) = J scalar operator
