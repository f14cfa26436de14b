-- How much rows, pieces and code weigh: a row is one, and what stands in it.
use Rattle.std.proofs.Common.{◌≡◌, ℕ, ◌+◌, List, [], ◌∷◌, ◌++◌, map, length, Option, Some, None, refl, arith}
use Rattle.row_runs.specs.Code.{CodeRow, Straight, Jump, Unless}
use Rattle.row_runs.specs.Structured as piece
use Rattle.row_runs.specs.Structured.{Piece, flattened, size}
use Rattle.flat_form.specs.Row as row
use Rattle.flat_form.specs.Row.{Row, Member, Part, Words, with_row, with_rows, all_coded, member_words, member_coded, part_words, row_words, row_groups, row_texts}
use Rattle.zpl_lowering.specs.Check.{Check, flat_row}

-- ---- rows
abbrev pub mask_weight : Option Words → ℕ
mask_weight None = 0
mask_weight (Some mask) = length mask

abbrev pub member_weight : Member → ℕ
member_weight (row.Put array expr mask line) = 1 + (length expr + mask_weight mask)
member_weight (row.Cell cell expr mask line) = 1 + (length expr + mask_weight mask)
member_weight (row.Acc scalar operator expr mask line) = 1 + (length expr + mask_weight mask)
member_weight (row.OpenIf expr mask line) = 1 + (length expr + mask_weight mask)
member_weight row.Otherwise = 1
member_weight row.CloseIf = 1
member_weight (row.OpenWhile expr mask line) = 1 + (length expr + mask_weight mask)
member_weight row.CloseWhile = 1
member_weight (row.OpenRepeat mask line) = 1 + mask_weight mask
member_weight (row.Until expr) = 1 + length expr

abbrev pub members_weight : List Member → ℕ
members_weight [] = 0
members_weight (member ∷ members) = member_weight member + members_weight members

abbrev pub part_weight : Part → ℕ
part_weight (row.Span low high) = length low + length high
part_weight row.Star = 0
part_weight (row.Copied slot) = 0

abbrev pub parts_weight : List Part → ℕ
parts_weight [] = 0
parts_weight (part ∷ parts) = part_weight part + parts_weight parts

abbrev pub row_weight : (List ℕ → ℕ) → Row → ℕ
row_weight text (row.Set scalar expr line) = 1 + length expr
row_weight text (row.Dims slot parts line) = 1 + parts_weight parts
row_weight text (row.Loop slot group) = 1 + members_weight group
row_weight text (row.Print bytes) = 1 + text bytes
row_weight text (row.Number expr) = 1 + length expr
row_weight text (row.Truth expr) = 1 + length expr
row_weight text (row.Unless expr goal line) = 1 + length expr
row_weight text (row.Plain one) = 1

abbrev pub rows_weight : (List ℕ → ℕ) → List Row → ℕ
rows_weight text [] = 0
rows_weight text (one ∷ rows) = row_weight text one + rows_weight text rows

pub rows_both : (text : List ℕ → ℕ) (xs ys : List Row) →
    rows_weight text (xs ++ ys) ≡ rows_weight text xs + rows_weight text ys
rows_both text [] ys = omega arith
rows_both text (x ∷ xs) ys = omega (arith, rows_both text xs ys)

pub members_both : (xs ys : List Member) →
    members_weight (xs ++ ys) ≡ members_weight xs + members_weight ys
members_both [] ys = omega arith
members_both (x ∷ xs) ys = omega (arith, members_both xs ys)

-- ---- pieces
abbrev pub piece_weight : (List ℕ → ℕ) → Piece Row Check → ℕ
piece_weight text (piece.Rows rows) = rows_weight text rows
piece_weight text (piece.Then first rest) = piece_weight text first + piece_weight text rest
piece_weight text (piece.When test body) = 1 + length test.expr + piece_weight text body
piece_weight text (piece.Choose test one other) =
    2 + length test.expr + piece_weight text one + piece_weight text other
piece_weight text (piece.While head test body) =
    2 + length test.expr + piece_weight text head + piece_weight text body
piece_weight text (piece.Repeat body head test) =
    2 + length test.expr + piece_weight text body + piece_weight text head

abbrev pub flat_weight : (List ℕ → ℕ) → List (CodeRow Row Check) → ℕ
flat_weight text [] = 0
flat_weight text (one ∷ rows) = row_weight text (flat_row one) + flat_weight text rows

flat_both : (text : List ℕ → ℕ) (xs ys : List (CodeRow Row Check)) →
    flat_weight text (xs ++ ys) ≡ flat_weight text xs + flat_weight text ys
flat_both text [] ys = omega arith
flat_both text (x ∷ xs) ys = omega (arith, flat_both text xs ys)

pub flat_rows : (text : List ℕ → ℕ) (rows : List (CodeRow Row Check)) →
    rows_weight text (map flat_row rows) ≡ flat_weight text rows
flat_rows text [] = refl
flat_rows text (x ∷ rows) = omega (arith, flat_rows text rows)

straight : (text : List ℕ → ℕ) (rows : List Row) →
    flat_weight text (map Straight rows) ≡ rows_weight text rows
straight text [] = refl
straight text (x ∷ rows) = omega (arith, straight text rows)

pub laid_out : (text : List ℕ → ℕ) (at : ℕ) (code : Piece Row Check) →
    flat_weight text (flattened at code) ≡ piece_weight text code
laid_out text at (piece.Rows rows) = straight text rows
laid_out text at (piece.Then first rest) =
    omega (
      arith,
      flat_both text (flattened at first) (flattened (at + size first) rest),
      laid_out text at first,
      laid_out text (at + size first) rest,
    )
laid_out text at (piece.When test body) = omega (arith, laid_out text (at + 1) body)
laid_out text at (piece.Choose test one other) =
    omega (
      arith,
      flat_both text (flattened (at + 1) one)
          (Jump (at + size one + size other + 2) ∷ flattened (at + size one + 2) other),
      laid_out text (at + 1) one,
      laid_out text (at + size one + 2) other,
    )
laid_out text at (piece.While head test body) =
    omega (
      arith,
      flat_both text (flattened at head)
          (Unless test (at + size head + size body + 2)
          ∷ (flattened (at + size head + 1) body ++ Jump at ∷ [])),
      flat_both text (flattened (at + size head + 1) body) (Jump at ∷ []),
      laid_out text at head,
      laid_out text (at + size head + 1) body,
    )
laid_out text at (piece.Repeat body head test) =
    omega (
      arith,
      flat_both text (flattened (at + 1) body)
          (flattened (at + size body + 1) head ++ Unless test (at + 1) ∷ []),
      flat_both text (flattened (at + size body + 1) head) (Unless test (at + 1) ∷ []),
      laid_out text (at + 1) body,
      laid_out text (at + size body + 1) head,
    )
