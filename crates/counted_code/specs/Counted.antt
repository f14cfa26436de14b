-- Code whose loops within groups make only so many turns, all in all.
--
--   counted         the same code with a cell more, in which each processor counts the turns of its
--                   `while` and `repeat`: such a loop ends where the cell has come to n
--   counted_group   a group of it: behind each member stand n more, so that the member with the
--                   number k has the number k * (n + 1) there, whatever the group is
--   counting        those within a loop, at its beginning: they add 1 to the cell
--   idling          those behind all other members: their mask is 0
use Rattle.std.specs.Prelude.{ℕ, zero, suc, ◌+◌, pos, List, [], ◌∷◌, ◌++◌, flat_map, length}
use Rattle.std.specs.Prelude.{map, Some}
use Rattle.std.specs.List.{range_with_len}
use Rattle.zpl_nums.specs.declared.operators.Op.TheVariants as op
use Rattle.node_form.specs.declared.members.Member.{Member}
use Rattle.node_form.specs.declared.members.Member.TheVariants as member
use Rattle.node_form.specs.declared.tables.Tables.{Tables}
use Rattle.node_form.specs.declared.words.ExprOp.{ExprOp}
use Rattle.node_form.specs.declared.words.ExprOp.TheVariants as word

-- ---- expressions
-- The old value isn't 0, and the cell is below n; the old value isn't 0, or the cell is n at least.
abbrev pub while_words : ℕ → ℕ → List ExprOp → List ExprOp
while_words cell n words =
    words ++ word.Cell cell ∷ word.Const (pos n) ∷ word.Pair op.Lt ∷ word.Pair op.And ∷ []

abbrev pub until_words : ℕ → ℕ → List ExprOp → List ExprOp
until_words cell n words =
    words ++ word.Cell cell ∷ word.Const (pos n) ∷ word.Pair op.Ge ∷ word.Pair op.Or ∷ []

-- a number; and whether the cell is it
abbrev pub number_words : ℕ → List ExprOp
number_words k = word.Const (pos k) ∷ []

abbrev pub equal_words : ℕ → ℕ → List ExprOp
equal_words cell k = word.Cell cell ∷ word.Const (pos k) ∷ word.Pair op.Eq ∷ []

module _ (n : ℕ) (code : Tables) where
  -- how many there are of old
  abbrev pub many : ℕ
  many = length code.exprs

  -- the numbers of expressions: of a `while` and an `until` by the old one, of the numbers up to n,
  -- and of whether the cell is a number below n
  abbrev pub while_expr : ℕ → ℕ
  while_expr expr = many + expr

  abbrev pub until_expr : ℕ → ℕ
  until_expr expr = many + (many + expr)

  abbrev pub number_expr : ℕ → ℕ
  number_expr k = many + (many + (many + k))

  abbrev pub equal_expr : ℕ → ℕ
  equal_expr k = many + (many + (many + (suc n + k)))

  abbrev pub counted_exprs : List (List ExprOp)
  counted_exprs =
      code.exprs
      ++ (map (while_words code.cells n) code.exprs
      ++ (map (until_words code.cells n) code.exprs
      ++ (map number_words (range_with_len 0 (suc n))
      ++ map (equal_words code.cells) (range_with_len 0 n))))

  -- ---- members
  -- where the cell is a number below k, it becomes the next one
  abbrev pub counting : ℕ → List Member
  counting zero = []
  counting (suc k) =
      member.Cell code.cells (number_expr (suc k)) (Some (equal_expr k)) 0 ∷ counting k

  -- so many members whose mask is 0
  abbrev pub idling : ℕ → List Member
  idling zero = []
  idling (suc k) = member.Cell code.cells (number_expr 0) (Some (number_expr 0)) 0 ∷ idling k

  abbrev pub counted_member : Member → List Member
  counted_member (member.OpenWhile expr mask line) =
      member.OpenWhile (while_expr expr) mask line ∷ counting n
  counted_member (member.OpenRepeat mask line) = member.OpenRepeat mask line ∷ counting n
  counted_member (member.Until expr) = member.Until (until_expr expr) ∷ idling n
  counted_member one = one ∷ idling n

  abbrev pub counted_group : List Member → List Member
  counted_group members = flat_map counted_member members

  -- ---- the code
  abbrev pub counted : Tables
  counted = record code {
    cells = code.cells + 1;
    exprs = counted_exprs;
    groups = map counted_group code.groups;
  }
