-- What comes of expressions with slots: rows of conformity, references, rows of operators, and what
-- is left.
use Rattle.std.proofs.Common.{◌≡◌, ℕ, zero, suc, ◌+◌, ◌*◌, ◌≤◌, Bool, true, false, ℤ, List, [], ◌∷◌, ◌++◌, length, take, Option, Some, None, refl, ◌∙◌, ap, arith, length-append}
use Rattle.std.specs.Prelude.{slice_get, replicate}
use Rattle.std.proofs.lemmas.List.{length-replicate}
use Rattle.zpl_nums.specs.declared.folds.Fold.{Fold}
use Rattle.zpl_nums.specs.declared.operators.UnaryOp.{UnaryOp}
use Rattle.zpl_nums.specs.declared.operators.UnaryOp.TheVariants as unary
use Rattle.zpl_nums.specs.declared.operators.Op.TheVariants as op
use Rattle.zpl_region.specs.declared.dims.Dim.{Dim}
use Rattle.zpl_region.specs.declared.dims.Dim.TheVariants as dim
use Rattle.zpl_region.specs.declared.regions.Region.{Region}
use Rattle.zpl_meaning.specs.Context.{Mask}
use Rattle.node_form.specs.Expression.{Expression, Operation, words_of}
use Rattle.node_form.specs.declared.words.ExprOp.TheVariants as word
use Rattle.flat_form.specs.Row.{Words}
use Rattle.zpl_lowering.specs.Where.{Stored, Numbers, Slotted}
use Rattle.zpl_lowering.specs.Words.{variable_code}
use Rattle.zpl_lowering.specs.Reference.{conforming, all_conforming, refer_to, mask_reference, over_reference, referred, all_referred, is_unmoved, vector_over}
use Rattle.zpl_lowering.specs.Slate as slate
use Rattle.zpl_lowering.specs.Slate.{Slate, Slates, NoSlate, ThenSlate}
use Rattle.zpl_lowering.specs.Hoist.{Hoisted, Free, folding, part_folding, flooding, neighbour_if, stored_element, array_code, mask_word, mask_code, unary_code, masked_scan, scanning, number_of, temps_from, rooms, index_puts, past_dims, any_of, outside_code, remapping, border_vectors, border_rows, wrapping, hoisted, all_hoisted, behind}
use Rattle.lowering_sizes.proofs.Weights.{mask_weight, members_weight, rows_weight, rows_both, piece_weight}

-- ---- what they may weigh

abbrev mutual
  pub heft : Slate → ℕ
  heft (slate.Constant value) = 1
  heft (slate.Variable place) = 1
  heft (slate.Coordinate k) = 1
  heft (slate.Element slot place shift) = 2
  heft (slate.Wrapped slot place home shift copy first) = 7 + 3 * length (border_vectors shift)
  heft (slate.Unary operator operand) = heft operand + 1
  heft (slate.Binary operator left right) = heft left + heft right + 1
  heft (slate.Folded operator over operand) = heft operand + 16
  heft (slate.PartFolded operator over source operand) = heft operand + 16
  heft (slate.Scanned operator along over operand) = heft operand + 16
  heft (slate.Flooded over source operand) = heft operand + 16
  heft (slate.Remapped over place indices) = hefts indices + 48

  pub hefts : Slates → ℕ
  hefts NoSlate = 0
  hefts (ThenSlate first rest) = heft first + 8 + hefts rest

-- what is left of expressions, with eight for each
abbrev pub lefts_weight : List Expression → ℕ
lefts_weight [] = 0
lefts_weight (expr ∷ exprs) = length (words_of expr) + 8 + lefts_weight exprs

abbrev pub hoisted_weight : (List ℕ → ℕ) → Hoisted Expression → ℕ
hoisted_weight text one =
    piece_weight text one.code + (one.scalars + (length one.temps + length (words_of one.left)))

abbrev pub all_hoisted_weight : (List ℕ → ℕ) → Hoisted (List Expression) → ℕ
all_hoisted_weight text one =
    piece_weight text one.code + (one.scalars + (length one.temps + lefts_weight one.left))

-- ---- storages have at most three dimensions

abbrev pub AreNarrow : List Stored → Type 0
AreNarrow [] = Unit {0}
AreNarrow (stored ∷ rest) = (length stored.storage.dims ≤ 3) × AreNarrow rest

abbrev pub IsNarrow : Option Stored → Type 0
IsNarrow None = Unit {0}
IsNarrow (Some stored) = length stored.storage.dims ≤ 3

pub narrow_at : (all : List Stored) (k : ℕ) → AreNarrow all → IsNarrow (slice_get all k)
narrow_at [] k are = tt
narrow_at (stored ∷ rest) zero are = are.0
narrow_at (stored ∷ rest) (suc k) are = narrow_at rest k are.1

-- ---- masks and references

pub mask_two : (numbers : Numbers) (mask : Option Mask) → mask_weight (mask_code numbers mask) ≤ 2
mask_two numbers None = omega arith
mask_two numbers (Some mask) = by mask.without (slice_get numbers.arrays mask.array)
  where
    by : (without : Bool) (stored : Option Stored) →
        length (words_of (mask_word without (array_code stored))) ≤ 2
    by true None = omega arith
    by true (Some stored) = omega arith
    by false None = omega arith
    by false (Some stored) = omega arith

pub refers_once : (slot : ℕ) (shift : List ℤ) (stored : Option Stored) →
    length (refer_to slot shift stored) ≤ 1
refers_once slot shift None = omega arith
refers_once slot shift (Some stored) = omega arith

pub over_once : (numbers : Numbers) (over : Slotted) → length (over_reference numbers over) ≤ 1
over_once numbers over = by over.mask
  where
    by : (mask : Option Mask) → length (mask_reference numbers over.slot mask) ≤ 1
    by None = omega arith
    by (Some mask) = refers_once over.slot [] (slice_get numbers.arrays mask.array)

-- ---- remap reads

abbrev outside_weight : List Expression → ℕ
outside_weight [] = 0
outside_weight (expr ∷ exprs) = length (words_of expr) + 1 + outside_weight exprs

any_words : (first : Expression) (rest : List Expression) →
    length (words_of (any_of (first ∷ rest))) ≡ length (words_of first) + outside_weight rest
any_words first [] = omega arith
any_words first (next ∷ rest) =
    any_words (Operation op.Or first next) rest
    ∙ omega (
      arith,
      length-append (words_of first) (words_of next ++ word.Pair op.Or ∷ []),
      length-append (words_of next) (word.Pair op.Or ∷ []),
    )

past_words : (temp : ℕ) (dims : List Dim) → outside_weight (past_dims temp dims) ≤ 8 * length dims
past_words temp [] = omega arith
past_words temp (dim.Range lo hi step align ∷ dims) = omega (arith, past_words (suc temp) dims)
past_words temp (dim.Flood ∷ dims) = omega (arith, past_words (suc temp) dims)

any_most : (exprs : List Expression) → length (words_of (any_of exprs)) ≤ outside_weight exprs + 1
any_most [] = omega arith
any_most (first ∷ rest) = omega (arith, any_words first rest)

taken : {A : Type 0} (n : ℕ) (xs : List A) → length (take n xs) ≤ length xs
taken zero xs = omega arith
taken (suc n) [] = omega arith
taken (suc n) (x ∷ xs) = omega (arith, taken n xs)

outside_most : (temp : ℕ) (storage : Region) → length storage.dims ≤ 3 →
    length (words_of (outside_code temp storage)) ≤ 25
outside_most temp storage narrow =
    omega (
      arith,
      any_most (past_dims temp (take storage.rank storage.dims)),
      past_words temp (take storage.rank storage.dims),
      taken storage.rank storage.dims,
    )

temps_length : (temp : ℕ) (exprs : List Expression) → length (temps_from temp exprs) ≡ length exprs
temps_length temp [] = refl
temps_length temp (expr ∷ exprs) = ap suc (temps_length (suc temp) exprs)

rooms_weight : (text : List ℕ → ℕ) (slot : ℕ) (temps : List ℕ) →
    rows_weight text (rooms slot temps) ≡ length temps
rooms_weight text slot [] = refl
rooms_weight text slot (temp ∷ temps) = omega (arith, rooms_weight text slot temps)

puts_weight : (line : ℕ) (mask : Option Words) (temp : ℕ) (exprs : List Expression) →
    mask_weight mask ≤ 2 →
    members_weight (index_puts line mask temp exprs) + (length exprs + length exprs)
    ≤ lefts_weight exprs
puts_weight line mask temp [] two = omega arith
puts_weight line mask temp (expr ∷ exprs) two =
    omega (arith, puts_weight line mask (suc temp) exprs two)

remapped : (text : List ℕ → ℕ) (numbers : Numbers) (line : ℕ) (free : Free) (over : Slotted)
    (stored : Option Stored) (indices : Hoisted (List Expression)) → IsNarrow stored →
    hoisted_weight text (remapping numbers line free over stored indices)
    ≤ all_hoisted_weight text indices + 47
remapped text numbers line free over None indices narrow = omega arith
remapped text numbers line free over (Some stored) indices narrow =
    let after = behind free indices in
    let temps = temps_from after.temps indices.left in
    let mask = mask_code numbers over.mask in
    omega (
      arith,
      rows_both,
      rooms_weight text over.slot temps,
      temps_length after.temps indices.left,
      puts_weight line mask after.temps indices.left (mask_two numbers over.mask),
      mask_two numbers over.mask,
      outside_most after.temps stored.storage narrow,
      length-append indices.temps (replicate (length indices.left + 1) over.flood),
      length-replicate (length indices.left + 1) over.flood,
    )

-- ---- elements and reads that wrap round

neighbour_words : (unmoved : Bool) (array : ℕ) (shift : List ℤ) →
    length (words_of (neighbour_if unmoved array shift)) ≤ 1
neighbour_words true array shift = omega arith
neighbour_words false array shift = omega arith

element_weight : (text : List ℕ → ℕ) (slot : ℕ) (shift : List ℤ) (stored : Option Stored) →
    length (refer_to slot shift stored) + hoisted_weight text (stored_element stored shift) ≤ 2
element_weight text slot shift None = omega arith
element_weight text slot shift (Some stored) =
    let moved = vector_over stored.storage shift in
    omega (arith, neighbour_words (is_unmoved moved) stored.array moved)

borders_weight : (text : List ℕ → ℕ) (line copy home next : ℕ) (shifts : List (List ℤ)) →
    rows_weight text (border_rows line copy home next shifts) ≡ 3 * length shifts
borders_weight text line copy home next [] = omega arith
borders_weight text line copy home next (shift ∷ rest) =
    omega (arith, borders_weight text line copy home (suc (suc next)) rest)

wrapped : (text : List ℕ → ℕ) (line : ℕ) (stored : Option Stored) (home : Region)
    (shift : List ℤ) (copy first : ℕ) →
    hoisted_weight text (wrapping line stored home shift copy first)
    ≤ 5 + 3 * length (border_vectors shift)
wrapped text line None home shift copy first = omega arith
wrapped text line (Some stored) home shift copy first =
    omega (
      arith,
      neighbour_words (is_unmoved shift) copy shift,
      borders_weight text line copy first (suc first) (border_vectors shift),
    )

pub variable_words : (scalar : Option ℕ) → length (words_of (variable_code scalar)) ≤ 1
variable_words None = omega arith
variable_words (Some scalar) = omega arith

unary_words : (operator : UnaryOp) (operand : Expression) →
    length (words_of (unary_code operator operand)) ≡ length (words_of operand) + 1
unary_words unary.Neg operand = length-append (words_of operand) (word.Neg ∷ [])
unary_words unary.Not operand = length-append (words_of operand) (word.Not ∷ [])
unary_words unary.Abs operand = length-append (words_of operand) (word.Abs ∷ [])

-- ---- operators

folded : (text : List ℕ → ℕ) (numbers : Numbers) (line : ℕ) (free : Free) (operator : Fold)
    (over : Slotted) (operand : Hoisted Expression) →
    hoisted_weight text (folding numbers line free operator over operand)
    ≤ hoisted_weight text operand + 15
folded text numbers line free operator over operand =
    omega (arith, mask_two numbers over.mask, length-append operand.temps [])

part_folded : (text : List ℕ → ℕ) (line : ℕ) (free : Free) (operator : Fold)
    (over source : Slotted) (operand : Hoisted Expression) →
    hoisted_weight text (part_folding line free operator over source operand)
    ≤ hoisted_weight text operand + 14
part_folded text line free operator over source operand =
    omega (arith, length-append operand.temps (source.flood ∷ over.flood ∷ []))

flooded : (text : List ℕ → ℕ) (line : ℕ) (free : Free) (over source : Slotted)
    (operand : Hoisted Expression) →
    hoisted_weight text (flooding line free over source operand)
    ≤ hoisted_weight text operand + 14
flooded text line free over source operand =
    omega (arith, length-append operand.temps (source.flood ∷ over.flood ∷ []))

scanned : (text : List ℕ → ℕ) (numbers : Numbers) (line : ℕ) (free : Free) (operator : Fold)
    (along : Option ℤ) (over : Slotted) (mask : Option Mask) (operand : Hoisted Expression) →
    hoisted_weight text (scanning numbers line free operator along over mask operand)
    ≤ hoisted_weight text operand + 15
scanned text numbers line free operator along over None operand =
    omega (
      arith,
      mask_two numbers over.mask,
      length-append operand.temps (over.flood ∷ over.flood ∷ []),
    )
scanned text numbers line free operator along over (Some mask) operand =
    by mask.without (number_of (slice_get numbers.arrays mask.array))
  where
    by : (without : Bool) (array : ℕ) →
        hoisted_weight text
        (masked_scan numbers line free operator along over operand without array)
        ≤ hoisted_weight text operand + 15
    by false array =
        omega (
          arith,
          mask_two numbers over.mask,
          length-append operand.temps (over.flood ∷ over.flood ∷ []),
        )
    by true array =
        omega (
          arith,
          mask_two numbers over.mask,
          length-append operand.temps (over.flood ∷ over.flood ∷ over.flood ∷ []),
        )

-- ---- all slates

mutual
  pub slate_weight : (text : List ℕ → ℕ) (numbers : Numbers) (line : ℕ) (free : Free)
      (one : Slate) → AreNarrow numbers.arrays →
      rows_weight text (conforming line one)
      + (length (referred numbers one) + hoisted_weight text (hoisted numbers line free one))
      ≤ heft one
  slate_weight text numbers line free (slate.Constant value) narrow = omega arith
  slate_weight text numbers line free (slate.Variable place) narrow =
      omega (arith, variable_words (slice_get numbers.scalars place))
  slate_weight text numbers line free (slate.Coordinate k) narrow = omega arith
  slate_weight text numbers line free (slate.Element slot place shift) narrow =
      omega (arith, element_weight text slot shift (slice_get numbers.arrays place))
  slate_weight text numbers line free (slate.Wrapped slot place home shift copy first) narrow =
      omega (arith, wrapped text line (slice_get numbers.arrays place) home shift copy first)
  slate_weight text numbers line free (slate.Unary operator operand) narrow =
      omega (
        arith,
        slate_weight text numbers line free operand narrow,
        unary_words operator (hoisted numbers line free operand).left,
      )
  slate_weight text numbers line free (slate.Binary operator left right) narrow =
      let one = hoisted numbers line free left in
      let after = behind free one in
      let other = hoisted numbers line after right in
      omega (
        arith,
        slate_weight text numbers line free left narrow,
        slate_weight text numbers line after right narrow,
        rows_both text (conforming line left) (conforming line right),
        length-append (referred numbers left) (referred numbers right),
        length-append one.temps other.temps,
        length-append (words_of one.left) (words_of other.left ++ word.Pair operator ∷ []),
        length-append (words_of other.left) (word.Pair operator ∷ []),
      )
  slate_weight text numbers line free (slate.Folded operator over operand) narrow =
      omega (
        arith,
        slate_weight text numbers line free operand narrow,
        folded text numbers line free operator over (hoisted numbers line free operand),
        length-append (referred numbers operand) (over_reference numbers over),
        over_once numbers over,
      )
  slate_weight text numbers line free (slate.PartFolded operator over source operand) narrow =
      omega (
        arith,
        slate_weight text numbers line free operand narrow,
        part_folded text line free operator over source (hoisted numbers line free operand),
        length-append (over_reference numbers over) (referred numbers operand),
        over_once numbers over,
      )
  slate_weight text numbers line free (slate.Scanned operator along over operand) narrow =
      omega (
        arith,
        slate_weight text numbers line free operand narrow,
        scanned text numbers line free operator along over over.mask
            (hoisted numbers line free operand),
        length-append (referred numbers operand) (over_reference numbers over),
        over_once numbers over,
      )
  slate_weight text numbers line free (slate.Flooded over source operand) narrow =
      omega (
        arith,
        slate_weight text numbers line free operand narrow,
        flooded text line free over source (hoisted numbers line free operand),
        length-append (over_reference numbers over) (referred numbers operand),
        over_once numbers over,
      )
  slate_weight text numbers line free (slate.Remapped over place indices) narrow =
      omega (
        arith,
        slates_weight text numbers line free indices narrow,
        remapped text numbers line free over (slice_get numbers.arrays place)
            (all_hoisted numbers line free indices) (narrow_at numbers.arrays place narrow),
        length-append (over_reference numbers over) (all_referred numbers indices),
        over_once numbers over,
      )

  pub slates_weight : (text : List ℕ → ℕ) (numbers : Numbers) (line : ℕ) (free : Free)
      (all : Slates) → AreNarrow numbers.arrays →
      rows_weight text (all_conforming line all)
      + (length (all_referred numbers all)
      + all_hoisted_weight text (all_hoisted numbers line free all))
      ≤ hefts all
  slates_weight text numbers line free NoSlate narrow = omega arith
  slates_weight text numbers line free (ThenSlate first rest) narrow =
      let one = hoisted numbers line free first in
      let after = behind free one in
      let others = all_hoisted numbers line after rest in
      omega (
        arith,
        slate_weight text numbers line free first narrow,
        slates_weight text numbers line after rest narrow,
        rows_both text (conforming line first) (all_conforming line rest),
        length-append (referred numbers first) (all_referred numbers rest),
        length-append one.temps others.temps,
      )
