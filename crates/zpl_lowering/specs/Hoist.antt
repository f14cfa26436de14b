-- The fourth phase of a statement: operators over regions become rows that leave scalars and
-- temporaries, inner before outer and left before right. What is left of an expression has a value
-- at each index.
use Rattle.std.specs.Prelude.{ℕ, zero, suc, ◌+◌, ◌*◌, Bool, true, false, ℤ, pos, neg_ℤ, unsigned_abs, List, [], ◌∷◌, ◌++◌, map, flat_map, length, drop, take, replicate, Option, Some, None, slice_get}
use Rattle.zpl_meaning.specs.of_zpl_nums.declared.operators.Op.{Op}
use Rattle.zpl_meaning.specs.of_zpl_nums.declared.operators.Op.TheVariants as op
use Rattle.zpl_meaning.specs.of_zpl_nums.declared.operators.UnaryOp.{UnaryOp}
use Rattle.zpl_meaning.specs.of_zpl_nums.declared.operators.UnaryOp.TheVariants as unary
use Rattle.zpl_meaning.specs.of_zpl_nums.declared.folds.Fold.{Fold}
use Rattle.zpl_meaning.specs.of_zpl_nums.declared.folds.Fold.TheVariants as fold
use Rattle.zpl_meaning.specs.of_zpl_nums.declared.ends.Border.TheVariants as border
use Rattle.zpl_meaning.specs.of_zpl_nums.declared.ends.TrapKind.TheVariants as trap
use Rattle.zpl_meaning.specs.of_zpl_nums.Fold.{unit_of}
use Rattle.zpl_meaning.specs.of_zpl_nums.Integer.{is_true}
use Rattle.zpl_meaning.specs.of_zpl_region.declared.dims.Dim.{Dim}
use Rattle.zpl_meaning.specs.of_zpl_region.declared.dims.Dim.TheVariants as dim
use Rattle.zpl_meaning.specs.of_zpl_region.declared.regions.Region.{Region}
use Rattle.zpl_meaning.specs.Context.{Mask}
use Rattle.text_sharing.specs.of_node_form.Expression.{Expression, Constant, Variable, Element, Neighbour, Coordinate, Operation, Negation, Denial, Absolute, words_of}
use Rattle.text_sharing.specs.of_node_form.declared.instructions.RegionForm.TheVariants as form
use Rattle.text_sharing.specs.of_row_runs.Structured as piece
use Rattle.text_sharing.specs.of_row_runs.Structured.{Piece}
use Rattle.text_sharing.specs.of_node_form.declared.instructions.Instr.TheVariants as instr
use Rattle.text_sharing.specs.of_flat_form.Row as row
use Rattle.text_sharing.specs.of_flat_form.Row.{Row, Member, Words}
use Rattle.zpl_lowering.specs.Check.{Check}
use Rattle.zpl_lowering.specs.Where.{Stored, Numbers, Slotted}
use Rattle.zpl_lowering.specs.Words.{variable_code}
use Rattle.zpl_lowering.specs.Reference.{is_unmoved, vector_over}
use Rattle.zpl_lowering.specs.Slate as slate
use Rattle.zpl_lowering.specs.Slate.{Slate, Slates, NoSlate, ThenSlate}

-- an array of the tables that is read with a shift
pub record Shifted : Type 0 where
  pub array : ℕ
  pub shift : List ℤ

-- Rows, what is left behind them, and what these have of their own: scalars, the flood dimensions
-- of each temporary, and the shifts.
pub record Hoisted (A : Type 0) : Type 0 where
  pub code : Piece Row Check
  pub left : A
  pub scalars : ℕ
  pub temps : List (List Bool)
  pub shifts : List Shifted

-- the numbers that are free
pub record Free : Type 0 where
  pub scalars : ℕ
  pub temps : ℕ

abbrev pub alone : {A : Type 0} → A → Hoisted A
alone left = record { code = piece.Rows []; left = left; scalars = 0; temps = []; shifts = [] }

abbrev pub mapped : {A B : Type 0} → (A → B) → Hoisted A → Hoisted B
mapped f hoisted = record {
  code = hoisted.code;
  left = f hoisted.left;
  scalars = hoisted.scalars;
  temps = hoisted.temps;
  shifts = hoisted.shifts;
}

abbrev pub behind : {A : Type 0} → Free → Hoisted A → Free
behind free hoisted = record {
  scalars = free.scalars + hoisted.scalars;
  temps = free.temps + length hoisted.temps;
}

abbrev pub both : {A B C : Type 0} → (A → B → C) → Hoisted A → Hoisted B → Hoisted C
both f first second = record {
  code = piece.Then first.code second.code;
  left = f first.left second.left;
  scalars = first.scalars + second.scalars;
  temps = first.temps ++ second.temps;
  shifts = first.shifts ++ second.shifts;
}

abbrev pub then_hoisted : {A B C : Type 0} → (A → B → C) → Free → Hoisted A →
    (Free → Hoisted B) → Hoisted C
then_hoisted f free first rest = both f first (rest (behind free first))

-- rows behind an operand, with what they have of their own
abbrev pub with_rows : {A : Type 0} → Hoisted Expression → List Row → ℕ → List (List Bool) → A →
    Hoisted A
with_rows operand rows scalars temps left = record {
  code = piece.Then operand.code (piece.Rows rows);
  left = left;
  scalars = operand.scalars + scalars;
  temps = operand.temps ++ temps;
  shifts = operand.shifts;
}

-- ---- elements of arrays

abbrev pub neighbour_if : Bool → ℕ → List ℤ → Expression
neighbour_if true array shift = Element array
neighbour_if false array shift = Neighbour array shift

abbrev pub element_code : ℕ → List ℤ → Expression
element_code array shift = neighbour_if (is_unmoved shift) array shift

abbrev pub shifted_if : Bool → ℕ → List ℤ → List Shifted
shifted_if true array shift = []
shifted_if false array shift = record { array = array; shift = shift } ∷ []

abbrev pub shifts_of : ℕ → List ℤ → List Shifted
shifts_of array shift = shifted_if (is_unmoved shift) array shift

abbrev pub element_of : ℕ → List ℤ → Hoisted Expression
element_of array shift =
    record (alone (element_code array shift)) { shifts = shifts_of array shift }

abbrev pub stored_element : Option Stored → List ℤ → Hoisted Expression
stored_element None shift = alone (Constant (pos 0))
stored_element (Some stored) shift = element_of stored.array (vector_over stored.storage shift)

-- ---- masks

abbrev pub array_code : Option Stored → Expression
array_code None = Constant (pos 0)
array_code (Some stored) = Element stored.array

abbrev pub mask_word : Bool → Expression → Expression
mask_word true value = Denial value
mask_word false value = value

abbrev pub mask_code : Numbers → Option Mask → Option Words
mask_code numbers None = None
mask_code numbers (Some mask) =
    Some (words_of (mask_word mask.without (array_code (slice_get numbers.arrays mask.array))))

-- ---- operators

abbrev pub unary_code : UnaryOp → Expression → Expression
unary_code unary.Neg operand = Negation operand
unary_code unary.Not operand = Denial operand
unary_code unary.Abs operand = Absolute operand

-- `op<<e`: the scalar begins with the unit, takes the values in each block, and is joined
abbrev pub fold_rows : Numbers → ℕ → ℕ → Fold → Slotted → Expression → List Row
fold_rows numbers line scalar operator over operand =
    row.Set scalar (words_of (Constant (unit_of operator))) line
    ∷ row.Loop over.slot
    (row.Acc scalar operator (words_of operand) (mask_code numbers over.mask) line ∷ [])
    ∷ row.Plain (instr.Fold scalar operator) ∷ []

abbrev pub folding : Numbers → ℕ → Free → Fold → Slotted → Hoisted Expression → Hoisted Expression
folding numbers line free operator over operand =
    let scalar = (behind free operand).scalars in
    with_rows operand (fold_rows numbers line scalar operator over operand.left) 1 []
    (Variable scalar)

-- a temporary with the values of an expression over a region
abbrev pub kept_rows : ℕ → ℕ → ℕ → Expression → Option Words → List Row
kept_rows line temp slot expr mask =
    row.Plain (instr.Room temp slot)
    ∷ row.Loop slot (row.Put temp (words_of expr) mask line ∷ []) ∷ []

-- `op<<[source]e`
abbrev pub part_folding : ℕ → Free → Fold → Slotted → Slotted → Hoisted Expression →
    Hoisted Expression
part_folding line free operator over source operand =
    let from = (behind free operand).temps in
    with_rows operand
    (kept_rows line from source.slot operand.left None
    ++ row.Plain (instr.Room (suc from) over.slot)
    ∷ row.Plain (instr.Part (suc from) over.slot operator from source.slot) ∷ []) 0
    (source.flood ∷ over.flood ∷ []) (Element (suc from))

-- `>>[source]e`
abbrev pub flooding : ℕ → Free → Slotted → Slotted → Hoisted Expression → Hoisted Expression
flooding line free over source operand =
    let from = (behind free operand).temps in
    with_rows operand
    (kept_rows line from source.slot operand.left None
    ++ row.Plain (instr.Room (suc from) over.slot)
    ∷ row.Plain (instr.Flood (suc from) over.slot from source.slot) ∷ []) 0
    (source.flood ∷ over.flood ∷ []) (Element (suc from))

-- `op||e`: the mask of a scan is an array. Under `without` a temporary has its complement.
abbrev pub along_of : Option ℤ → ℕ
along_of None = 0
along_of (Some k) = unsigned_abs k

abbrev pub scan_row : ℕ → ℕ → Fold → Option ℤ → Slotted → Option ℕ → List Row
scan_row temp from operator along over mask =
    row.Plain (instr.Room temp over.slot)
    ∷ row.Plain (instr.Scan temp over.slot operator (along_of along) from mask) ∷ []

abbrev pub scan_with : Numbers → ℕ → ℕ → Fold → Option ℤ → Slotted → Expression → Option ℕ →
    List Row
scan_with numbers line from operator along over operand mask =
    kept_rows line from over.slot operand (mask_code numbers over.mask)
    ++ scan_row (suc from) from operator along over mask

-- with the complement of the mask
abbrev pub scan_without : Numbers → ℕ → ℕ → Fold → Option ℤ → Slotted → Expression → ℕ → List Row
scan_without numbers line from operator along over operand mask =
    row.Plain (instr.Room from over.slot) ∷ row.Plain (instr.Room (suc from) over.slot)
    ∷ row.Loop over.slot
    (row.Put from (words_of operand) (mask_code numbers over.mask) line
    ∷ row.Put (suc from) (words_of (Denial (Element mask))) None line ∷ [])
    ∷ scan_row (suc (suc from)) from operator along over (Some (suc from))

abbrev pub masked_scan : Numbers → ℕ → Free → Fold → Option ℤ → Slotted → Hoisted Expression →
    Bool → ℕ → Hoisted Expression
masked_scan numbers line free operator along over operand false mask =
    let from = (behind free operand).temps in
    with_rows operand
    (scan_with numbers line from operator along over operand.left (Some mask)) 0
    (over.flood ∷ over.flood ∷ []) (Element (suc from))
masked_scan numbers line free operator along over operand true mask =
    let from = (behind free operand).temps in
    with_rows operand (scan_without numbers line from operator along over operand.left mask) 0
    (over.flood ∷ over.flood ∷ over.flood ∷ []) (Element (suc (suc from)))

abbrev pub number_of : Option Stored → ℕ
number_of None = 0
number_of (Some stored) = stored.array

abbrev pub scanning : Numbers → ℕ → Free → Fold → Option ℤ → Slotted → Option Mask →
    Hoisted Expression → Hoisted Expression
scanning numbers line free operator along over None operand =
    let from = (behind free operand).temps in
    with_rows operand (scan_with numbers line from operator along over operand.left None) 0
    (over.flood ∷ over.flood ∷ []) (Element (suc from))
scanning numbers line free operator along over (Some mask) operand =
    masked_scan numbers line free operator along over operand mask.without
    (number_of (slice_get numbers.arrays mask.array))

-- ---- remap reads

-- temporaries from a number on
abbrev pub temps_from : ℕ → List Expression → List ℕ
temps_from temp [] = []
temps_from temp (expr ∷ exprs) = temp ∷ temps_from (suc temp) exprs

-- a list of three, of which the first are there
abbrev pub some_of : ℕ → List ℕ → List (Option ℕ)
some_of zero temps = []
some_of (suc count) [] = None ∷ some_of count []
some_of (suc count) (temp ∷ temps) = Some temp ∷ some_of count temps

abbrev pub three_of : List ℕ → List (Option ℕ)
three_of temps = some_of 3 temps

abbrev pub rooms : ℕ → List ℕ → List Row
rooms slot temps = map (λ temp. row.Plain (instr.Room temp slot)) temps

abbrev pub index_puts : ℕ → Option Words → ℕ → List Expression → List Member
index_puts line mask temp [] = []
index_puts line mask temp (expr ∷ exprs) =
    row.Put temp (words_of expr) mask line ∷ index_puts line mask (suc temp) exprs

-- whether a coordinate is outside the storage
abbrev pub past_dim : ℕ → Dim → List Expression
past_dim temp (dim.Range lo hi step align) =
    Operation op.Lt (Element temp) (Constant lo) ∷ Operation op.Gt (Element temp) (Constant hi) ∷ []
past_dim temp dim.Flood = []

abbrev pub past_dims : ℕ → List Dim → List Expression
past_dims temp [] = []
past_dims temp (one ∷ dims) = past_dim temp one ++ past_dims (suc temp) dims

abbrev pub any_of : List Expression → Expression
any_of [] = Constant (pos 0)
any_of (first ∷ rest) = by first rest
  where
    by : Expression → List Expression → Expression
    by before [] = before
    by before (next ∷ rest) = by (Operation op.Or before next) rest

abbrev pub outside_code : ℕ → Region → Expression
outside_code temp storage = any_of (past_dims temp (take storage.rank storage.dims))

abbrev pub storage_or : Option Stored → Region → Region
storage_or None region = region
storage_or (Some stored) region = stored.storage

abbrev pub trap_if : ℕ → ℕ → Piece Row Check
trap_if scalar line =
    piece.When (record { expr = words_of (Variable scalar); line = line })
    (piece.Rows (row.Plain (instr.Trap trap.OutsideStorage line) ∷ []))

-- The indices are computed first, at all places that aren't masked out; then it is seen whether one
-- is outside the storage.
abbrev pub remap_code : Numbers → ℕ → ℕ → ℕ → Slotted → ℕ → Region → List Expression →
    Piece Row Check
remap_code numbers line scalar temp over array storage indices =
    let temps = temps_from temp indices in
    let mask = mask_code numbers over.mask in
    piece.Then
    (piece.Rows (rooms over.slot temps
    ++ (row.Loop over.slot (index_puts line mask temp indices)
    ∷ row.Set scalar (words_of (Constant (pos 0))) line
    ∷ row.Loop over.slot
    (row.Acc scalar fold.Any (words_of (outside_code temp storage)) mask line ∷ [])
    ∷ row.Plain (instr.Fold scalar fold.Any) ∷ [])))
    (piece.Then (trap_if scalar line)
    (piece.Rows (row.Plain (instr.Room (temp + length indices) over.slot)
    ∷ row.Plain (instr.Remap (temp + length indices) over.slot array (three_of temps)) ∷ [])))

abbrev pub remapping : Numbers → ℕ → Free → Slotted → Option Stored →
    Hoisted (List Expression) → Hoisted Expression
remapping numbers line free over None indices = mapped (λ left. Constant (pos 0)) indices
remapping numbers line free over (Some stored) indices =
    let after = behind free indices in
    let count = length indices.left in
    record {
      code = piece.Then indices.code
          (remap_code numbers line after.scalars after.temps over stored.array stored.storage
          indices.left);
      left = Element (after.temps + count);
      scalars = indices.scalars + 1;
      temps = indices.temps ++ replicate (count + 1) over.flood;
      shifts = indices.shifts;
    }

-- ---- reads that wrap round: the copy is filled over the home box, and then round it

-- the vectors of its borders: each part is kept or not
abbrev pub kept_or_not : ℤ → List ℤ → List (List ℤ)
kept_or_not d rest = by (is_true d)
  where
    by : Bool → List (List ℤ)
    by true = (pos 0 ∷ rest) ∷ (d ∷ rest) ∷ []
    by false = (d ∷ rest) ∷ []

abbrev pub choices : List ℤ → List (List ℤ)
choices [] = [] ∷ []
choices (d ∷ v) = flat_map (kept_or_not d) (choices v)

-- all but the one that keeps none
abbrev pub border_vectors : List ℤ → List (List ℤ)
border_vectors shift = drop 1 (choices shift)

-- the forms are there for who checks listings; they can't trap
abbrev pub border_rows : ℕ → ℕ → ℕ → ℕ → List (List ℤ) → List Row
border_rows line copy home next [] = []
border_rows line copy home next (shift ∷ rest) =
    row.Plain (instr.Formed form.Of next home shift line)
    ∷ row.Plain (instr.Formed form.Inside (suc next) home (map neg_ℤ shift) line)
    ∷ row.Plain (instr.Edge border.Wrap copy home shift)
    ∷ border_rows line copy home (suc (suc next)) rest

abbrev pub copy_rows : ℕ → ℕ → Region → List ℤ → ℕ → ℕ → List Row
copy_rows line array home shift copy first =
    row.Plain (instr.Fix first home)
    ∷ row.Loop first (row.Put copy (words_of (Element array)) None line ∷ [])
    ∷ border_rows line copy first (suc first) (border_vectors shift)

abbrev pub wrapping : ℕ → Option Stored → Region → List ℤ → ℕ → ℕ → Hoisted Expression
wrapping line None home shift copy first = alone (Constant (pos 0))
wrapping line (Some stored) home shift copy first =
    record (element_of copy shift) {
      code = piece.Rows (copy_rows line stored.array home shift copy first);
    }

-- ---- expressions

abbrev mutual
  pub hoisted : Numbers → ℕ → Free → Slate → Hoisted Expression
  hoisted numbers line free (slate.Constant value) = alone (Constant value)
  hoisted numbers line free (slate.Variable place) =
      alone (variable_code (slice_get numbers.scalars place))
  hoisted numbers line free (slate.Coordinate k) = alone (Coordinate k)
  hoisted numbers line free (slate.Element slot place shift) =
      stored_element (slice_get numbers.arrays place) shift
  hoisted numbers line free (slate.Wrapped slot place home shift copy first) =
      wrapping line (slice_get numbers.arrays place) home shift copy first
  hoisted numbers line free (slate.Unary operator operand) =
      mapped (unary_code operator) (hoisted numbers line free operand)
  hoisted numbers line free (slate.Binary operator left right) =
      then_hoisted (Operation operator) free (hoisted numbers line free left)
      (λ after. hoisted numbers line after right)
  hoisted numbers line free (slate.Folded operator over operand) =
      folding numbers line free operator over (hoisted numbers line free operand)
  hoisted numbers line free (slate.PartFolded operator over source operand) =
      part_folding line free operator over source (hoisted numbers line free operand)
  hoisted numbers line free (slate.Scanned operator along over operand) =
      scanning numbers line free operator along over over.mask (hoisted numbers line free operand)
  hoisted numbers line free (slate.Flooded over source operand) =
      flooding line free over source (hoisted numbers line free operand)
  hoisted numbers line free (slate.Remapped over place indices) =
      remapping numbers line free over (slice_get numbers.arrays place)
      (all_hoisted numbers line free indices)

  pub all_hoisted : Numbers → ℕ → Free → Slates → Hoisted (List Expression)
  all_hoisted numbers line free NoSlate = alone []
  all_hoisted numbers line free (ThenSlate first rest) =
      then_hoisted (λ one others. one ∷ others) free (hoisted numbers line free first)
      (λ after. all_hoisted numbers line after rest)
