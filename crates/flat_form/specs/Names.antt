-- What rows name, as lists.
use Rattle.std.specs.Prelude.{ℕ, ◌+◌, max, ℤ, List, [], ◌∷◌, ◌++◌, flat_map, fold, map}
use Rattle.code_parts.specs.of_zpl_nums.declared.folds.Fold.{Fold}
use Rattle.grid_meaning.specs.of_node_form.declared.words.ExprOp.{ExprOp}
use Rattle.grid_meaning.specs.of_node_form.declared.words.ExprOp.TheVariants as word
use Rattle.grid_meaning.specs.of_node_form.Value.{unmoved}
use Rattle.flat_form.specs.Row.{Words, Member, Put, Cell, Acc}
use Rattle.flat_form.specs.Row.{member_words, Row, Set}
use Rattle.flat_form.specs.Row.{Loop, row_words}

-- a read of an array, at the index moved by a vector
pub record Read : Type 0 where
  pub array : ℕ
  pub shift : List ℤ

-- a scalar that a group accumulates, and how
pub record Total : Type 0 where
  pub scalar : ℕ
  pub operator : Fold

-- ---- words
abbrev pub word_reads : ExprOp → List Read
word_reads (word.Here array) = record { array = array; shift = unmoved } ∷ []
word_reads (word.Shifted array shift) = record { array = array; shift = shift } ∷ []
word_reads row = []

abbrev pub word_scalars : ExprOp → List ℕ
word_scalars (word.Scalar scalar) = scalar ∷ []
word_scalars row = []

-- the cells from 0 on, up to one that it names
abbrev pub word_cells : ExprOp → ℕ
word_cells (word.Cell cell) = cell + 1
word_cells row = 0

-- what any word of some expressions names
abbrev pub each_word : {X : Type 0} → (ExprOp → List X) → List Words → List X
each_word named exprs = flat_map (λ expr. flat_map named expr) exprs

-- ---- groups
abbrev pub group_words : List Member → List Words
group_words group = flat_map member_words group

abbrev pub group_reads : List Member → List Read
group_reads group = each_word word_reads (group_words group)

abbrev pub member_puts : Member → List ℕ
member_puts (Put array expr mask line) = array ∷ []
member_puts row = []

abbrev pub group_puts : List Member → List ℕ
group_puts group = flat_map member_puts group

abbrev pub member_totals : Member → List Total
member_totals (Acc scalar operator expr mask line) =
    record { scalar = scalar; operator = operator } ∷ []
member_totals row = []

abbrev pub group_totals : List Member → List Total
group_totals group = flat_map member_totals group

-- as many cells as make room for each that is named
abbrev pub member_cells : Member → ℕ
member_cells (Cell cell expr mask line) = cell + 1
member_cells row = 0

abbrev pub group_cells : List Member → ℕ
group_cells group =
    fold max 0
    (map member_cells group ++ each_word (λ word. word_cells word ∷ []) (group_words group))

-- ---- rows: the scalars that a row reads or writes; a `fold` is told apart
abbrev pub own_scalars : Row → List ℕ
own_scalars (Set scalar expr line) = scalar ∷ []
own_scalars (Loop slot group) = map (λ total. total.scalar) (group_totals group)
own_scalars row = []

abbrev pub row_scalars : Row → List ℕ
row_scalars row = own_scalars row ++ each_word word_scalars (row_words row)
