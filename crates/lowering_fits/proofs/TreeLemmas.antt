-- Expressions whose parts fit are words that fit; and what is laid out in tables, by its numbers.
use Rattle.std.proofs.Common.{◌≡◌, ℕ, zero, suc, ◌+◌, ◌<◌, Bool, true, false, ◌&&◌, ℤ, List, [], ◌∷◌, ◌++◌, length, drop, refl, ap, ◌∙◌, subst, arith}
use Rattle.std.specs.Prelude.{pos, Option, Some, None, slice_get, All}
use Rattle.std.specs.List.{list_all}
use Rattle.std.specs.Option.{IsSomeAnd}
use Rattle.std.proofs.lemmas.Int.{ints}
use Rattle.std.proofs.lemmas.List.Elements.{All-append, All-cons, All-nil, All-head, All-tail, All-from_recursion}
use Rattle.zpl_region.specs.declared.dims.Dim.{Dim}
use Rattle.zpl_region.specs.declared.dims.Dim.TheVariants as dim
use Rattle.zpl_region.specs.declared.regions.Region.{Region}
use Rattle.zpl_region.specs.Dim.{IsUpTo}
use Rattle.stored_shifts.specs.of_node_form.declared.arrays.ArrayRow.{ArrayRow}
use Rattle.stored_shifts.specs.of_node_form.declared.words.ExprOp.{ExprOp}
use Rattle.stored_shifts.specs.of_node_form.declared.words.ExprOp.TheVariants as word
use Rattle.stored_shifts.specs.of_node_form.declared.tables.Tables.{Tables}
use Rattle.stored_shifts.specs.of_node_form.Expression as expr
use Rattle.stored_shifts.specs.of_node_form.Expression.{Expression, words_of}
use Rattle.stored_shifts.specs.of_node_form.Value.{unmoved}
use Rattle.stored_shifts.specs.of_node_form.Fits.{IsVector, HasArray, IsStored, FitsWord, IsScalarWord}
use Rattle.lower_numbers.specs.of_zpl_lowering.Where.{Stored}
use Rattle.lower_numbers.specs.of_zpl_lowering.Words.{variable_code}
use Rattle.lower_numbers.specs.of_zpl_lowering.Reference.{shift_in, vector_over}
use Rattle.lower_numbers.specs.of_zpl_lowering.Hoist.{Shifted}
use Rattle.lower_numbers.specs.of_flat_form.Static.{word_has_fringe}
use Rattle.stored_shifts.specs.Stored.{IsStoredRead}
use Rattle.typed_tables.specs.Typed.{IsTypedWord}
use Rattle.lowering_fits.specs.Inline.{FitsWords, FitsScalar}
use Rattle.lowering_fits.specs.Slates.{SlotsAt, TempsAt, IsRowOf, HasStorage, StoragesAt, AllBelow, AllStored, FitsTree, IsWhole, AllTemps, AllShifts}

-- ---- trees

module _ (base : Tables) where
  tree_all : (rank : ℕ) (tree : Expression) → FitsTree base rank tree →
      All (FitsWord base rank) (words_of tree)
  tree_all rank (expr.Constant value) fits =
      All-cons (FitsWord base rank) (word.Const value) [] tt (All-nil (FitsWord base rank))
  tree_all rank (expr.Variable scalar) fits =
      All-cons (FitsWord base rank) (word.Scalar scalar) [] fits (All-nil (FitsWord base rank))
  tree_all rank (expr.Element array) fits =
      All-cons (FitsWord base rank) (word.Here array) [] fits.1 (All-nil (FitsWord base rank))
  tree_all rank (expr.Neighbour array shift) fits =
      All-cons (FitsWord base rank) (word.Shifted array shift) [] (fits.1, fits.2.0)
      (All-nil (FitsWord base rank))
  tree_all rank (expr.CellValue cell) fits = absurd fits
  tree_all rank (expr.Coordinate dimension) fits =
      All-cons (FitsWord base rank) (word.Coord dimension) [] fits (All-nil (FitsWord base rank))
  tree_all rank (expr.Operation op left right) fits =
      All-append (FitsWord base rank) (words_of left) (words_of right ++ word.Pair op ∷ [])
      (tree_all rank left fits.0)
      (All-append (FitsWord base rank) (words_of right) (word.Pair op ∷ [])
      (tree_all rank right fits.1)
      (All-cons (FitsWord base rank) (word.Pair op) [] tt (All-nil (FitsWord base rank))))
  tree_all rank (expr.Negation operand) fits =
      All-append (FitsWord base rank) (words_of operand) (word.Neg ∷ [])
      (tree_all rank operand fits)
      (All-cons (FitsWord base rank) word.Neg [] tt (All-nil (FitsWord base rank)))
  tree_all rank (expr.Denial operand) fits =
      All-append (FitsWord base rank) (words_of operand) (word.Not ∷ [])
      (tree_all rank operand fits)
      (All-cons (FitsWord base rank) word.Not [] tt (All-nil (FitsWord base rank)))
  tree_all rank (expr.Absolute operand) fits =
      All-append (FitsWord base rank) (words_of operand) (word.Abs ∷ [])
      (tree_all rank operand fits)
      (All-cons (FitsWord base rank) word.Abs [] tt (All-nil (FitsWord base rank)))

  -- what it reads with a shift
  behind_stored : (front back : List ExprOp) → All (IsStoredRead base) front →
      All (IsStoredRead base) back → All (IsStoredRead base) (front ++ back)
  behind_stored front back = All-append (IsStoredRead base) front back

  one_stored : (one : ExprOp) → IsStoredRead base one → All (IsStoredRead base) (one ∷ [])
  one_stored one is = All-cons (IsStoredRead base) one [] is (All-nil (IsStoredRead base))

  tree_stored : (rank : ℕ) (tree : Expression) → FitsTree base rank tree →
      All (IsStoredRead base) (words_of tree)
  tree_stored rank (expr.Constant value) fits = one_stored (word.Const value) tt
  tree_stored rank (expr.Variable scalar) fits = one_stored (word.Scalar scalar) tt
  tree_stored rank (expr.Element array) fits = one_stored (word.Here array) tt
  tree_stored rank (expr.Neighbour array shift) fits =
      one_stored (word.Shifted array shift) fits.3
  tree_stored rank (expr.CellValue cell) fits = absurd fits
  tree_stored rank (expr.Coordinate dimension) fits = one_stored (word.Coord dimension) tt
  tree_stored rank (expr.Operation op left right) fits =
      behind_stored (words_of left) (words_of right ++ word.Pair op ∷ [])
      (tree_stored rank left fits.0)
      (behind_stored (words_of right) (word.Pair op ∷ []) (tree_stored rank right fits.1)
      (one_stored (word.Pair op) tt))
  tree_stored rank (expr.Negation operand) fits =
      behind_stored (words_of operand) (word.Neg ∷ []) (tree_stored rank operand fits)
      (one_stored word.Neg tt)
  tree_stored rank (expr.Denial operand) fits =
      behind_stored (words_of operand) (word.Not ∷ []) (tree_stored rank operand fits)
      (one_stored word.Not tt)
  tree_stored rank (expr.Absolute operand) fits =
      behind_stored (words_of operand) (word.Abs ∷ []) (tree_stored rank operand fits)
      (one_stored word.Abs tt)

  -- its shifts
  behind_typed : (front back : List ExprOp) → All IsTypedWord front → All IsTypedWord back →
      All IsTypedWord (front ++ back)
  behind_typed front back = All-append IsTypedWord front back

  one_typed : (one : ExprOp) → IsTypedWord one → All IsTypedWord (one ∷ [])
  one_typed one is = All-cons IsTypedWord one [] is (All-nil IsTypedWord)

  tree_typed : (rank : ℕ) (tree : Expression) → FitsTree base rank tree →
      All IsTypedWord (words_of tree)
  tree_typed rank (expr.Constant value) fits = one_typed (word.Const value) tt
  tree_typed rank (expr.Variable scalar) fits = one_typed (word.Scalar scalar) tt
  tree_typed rank (expr.Element array) fits = one_typed (word.Here array) tt
  tree_typed rank (expr.Neighbour array shift) fits =
      one_typed (word.Shifted array shift) fits.2.1
  tree_typed rank (expr.CellValue cell) fits = absurd fits
  tree_typed rank (expr.Coordinate dimension) fits = one_typed (word.Coord dimension) tt
  tree_typed rank (expr.Operation op left right) fits =
      behind_typed (words_of left) (words_of right ++ word.Pair op ∷ [])
      (tree_typed rank left fits.0)
      (behind_typed (words_of right) (word.Pair op ∷ []) (tree_typed rank right fits.1)
      (one_typed (word.Pair op) tt))
  tree_typed rank (expr.Negation operand) fits =
      behind_typed (words_of operand) (word.Neg ∷ []) (tree_typed rank operand fits)
      (one_typed word.Neg tt)
  tree_typed rank (expr.Denial operand) fits =
      behind_typed (words_of operand) (word.Not ∷ []) (tree_typed rank operand fits)
      (one_typed word.Not tt)
  tree_typed rank (expr.Absolute operand) fits =
      behind_typed (words_of operand) (word.Abs ∷ []) (tree_typed rank operand fits)
      (one_typed word.Abs tt)

  -- and its fringes
  abbrev AllWithin : List ExprOp → Type 0
  AllWithin words = list_all (word_has_fringe base) words ≡ true

  both_within : (front back : List ExprOp) → AllWithin front → AllWithin back →
      AllWithin (front ++ back)
  both_within [] back first rest = rest
  both_within (one ∷ front) back first rest =
      by (word_has_fringe base one) first (λ others. both_within front back others rest)
    where
      by : (b : Bool) → (b && list_all (word_has_fringe base) front) ≡ true →
          (AllWithin front → AllWithin (front ++ back)) →
          (b && list_all (word_has_fringe base) (front ++ back)) ≡ true
      by true holds later = later holds
      by false holds later = let no : ⊥ = cc in absurd no

  tree_within : (rank : ℕ) (tree : Expression) → FitsTree base rank tree →
      AllWithin (words_of tree)
  tree_within rank (expr.Constant value) fits = refl
  tree_within rank (expr.Variable scalar) fits = refl
  tree_within rank (expr.Element array) fits = refl
  tree_within rank (expr.Neighbour array shift) fits = ap (λ b. b && true) fits.4
  tree_within rank (expr.CellValue cell) fits = absurd fits
  tree_within rank (expr.Coordinate dimension) fits = refl
  tree_within rank (expr.Operation op left right) fits =
      both_within (words_of left) (words_of right ++ word.Pair op ∷ [])
      (tree_within rank left fits.0)
      (both_within (words_of right) (word.Pair op ∷ []) (tree_within rank right fits.1) refl)
  tree_within rank (expr.Negation operand) fits =
      both_within (words_of operand) (word.Neg ∷ []) (tree_within rank operand fits) refl
  tree_within rank (expr.Denial operand) fits =
      both_within (words_of operand) (word.Not ∷ []) (tree_within rank operand fits) refl
  tree_within rank (expr.Absolute operand) fits =
      both_within (words_of operand) (word.Abs ∷ []) (tree_within rank operand fits) refl

  pub tree_fits : (rank : ℕ) (tree : Expression) → FitsTree base rank tree →
      FitsWords base rank (words_of tree)
  tree_fits rank tree fits = record {
    stack = record { tree = tree; spelled = refl };
    fit = tree_all rank tree fits;
    stored = tree_stored rank tree fits;
    typed = tree_typed rank tree fits;
    within = tree_within rank tree fits;
  }

  -- a scalar has every rank
  pub tree_of_rank : (rank : ℕ) (tree : Expression) → FitsTree base 0 tree →
      FitsTree base rank tree
  tree_of_rank rank (expr.Constant value) fits = tt
  tree_of_rank rank (expr.Variable scalar) fits = fits
  tree_of_rank rank (expr.Element array) fits =
      let above = fits.0.0 in absurd (omega arith)
  tree_of_rank rank (expr.Neighbour array shift) fits =
      let above = fits.0.0 in absurd (omega arith)
  tree_of_rank rank (expr.CellValue cell) fits = absurd fits
  tree_of_rank rank (expr.Coordinate dimension) fits =
      let above = fits.0 in let below = fits.1 in absurd (omega arith)
  tree_of_rank rank (expr.Operation op left right) fits =
      (tree_of_rank rank left fits.0, tree_of_rank rank right fits.1)
  tree_of_rank rank (expr.Negation operand) fits = tree_of_rank rank operand fits
  tree_of_rank rank (expr.Denial operand) fits = tree_of_rank rank operand fits
  tree_of_rank rank (expr.Absolute operand) fits = tree_of_rank rank operand fits

  scalar_all : (tree : Expression) → FitsTree base 0 tree → All IsScalarWord (words_of tree)
  scalar_all (expr.Constant value) fits =
      All-cons IsScalarWord (word.Const value) [] tt (All-nil IsScalarWord)
  scalar_all (expr.Variable scalar) fits =
      All-cons IsScalarWord (word.Scalar scalar) [] tt (All-nil IsScalarWord)
  scalar_all (expr.Element array) fits = let above = fits.0.0 in absurd (omega arith)
  scalar_all (expr.Neighbour array shift) fits =
      let above = fits.0.0 in absurd (omega arith)
  scalar_all (expr.CellValue cell) fits = absurd fits
  scalar_all (expr.Coordinate dimension) fits =
      let above = fits.0 in let below = fits.1 in absurd (omega arith)
  scalar_all (expr.Operation op left right) fits =
      All-append IsScalarWord (words_of left) (words_of right ++ word.Pair op ∷ [])
      (scalar_all left fits.0)
      (All-append IsScalarWord (words_of right) (word.Pair op ∷ []) (scalar_all right fits.1)
      (All-cons IsScalarWord (word.Pair op) [] tt (All-nil IsScalarWord)))
  scalar_all (expr.Negation operand) fits =
      All-append IsScalarWord (words_of operand) (word.Neg ∷ []) (scalar_all operand fits)
      (All-cons IsScalarWord word.Neg [] tt (All-nil IsScalarWord))
  scalar_all (expr.Denial operand) fits =
      All-append IsScalarWord (words_of operand) (word.Not ∷ []) (scalar_all operand fits)
      (All-cons IsScalarWord word.Not [] tt (All-nil IsScalarWord))
  scalar_all (expr.Absolute operand) fits =
      All-append IsScalarWord (words_of operand) (word.Abs ∷ []) (scalar_all operand fits)
      (All-cons IsScalarWord word.Abs [] tt (All-nil IsScalarWord))

  pub scalar_tree : (tree : Expression) → FitsTree base 0 tree → FitsScalar base (words_of tree)
  scalar_tree tree fits = record {
    stands = tree_fits 1 tree (tree_of_rank 1 tree fits);
    scalar = scalar_all tree fits;
  }

  -- ---- what has a number

  abbrev pub IsBelow : Option ℕ → Type 0
  IsBelow None = Unit {0}
  IsBelow (Some n) = n < base.scalars

  pub below_at : (all : List ℕ) (k : ℕ) → AllBelow base.scalars all → IsBelow (slice_get all k)
  below_at [] k below = tt
  below_at (n ∷ ns) zero below = below.0
  below_at (n ∷ ns) (suc k) below = below_at ns k below.1

  pub variable_fits : (rank : ℕ) (number : Option ℕ) → IsBelow number →
      FitsTree base rank (variable_code number)
  variable_fits rank None below = tt
  variable_fits rank (Some n) below = below

  abbrev pub IsThere : Option Stored → Type 0
  IsThere None = Unit {0}
  IsThere (Some stored) = HasStorage base stored.storage stored.array

  pub stored_at : (all : List Stored) (k : ℕ) → AllStored base all → IsThere (slice_get all k)
  stored_at [] k are = tt
  stored_at (stored ∷ rest) zero are = are.0
  stored_at (stored ∷ rest) (suc k) are = stored_at rest k are.1

  pub array_of : (rank array : ℕ) (storage : Region) → HasStorage base storage array →
      storage.rank ≡ rank → HasArray base rank array
  array_of rank array storage has same = by (slice_get base.arrays array) has
    where
      by : (row : Option ArrayRow) → IsSomeAnd row (IsRowOf storage) →
          IsSomeAnd row (λ row. row.rank ≡ rank)
      by None is = is
      by (Some row) is = is.rank ∙ same

  pub stored_of : (array : ℕ) (storage : Region) → HasStorage base storage array →
      IsStored base array
  stored_of array storage has = by (slice_get base.arrays array) has
    where
      by : (row : Option ArrayRow) → IsSomeAnd row (IsRowOf storage) →
          IsSomeAnd row (λ row. row.stored ≡ true)
      by None is = is
      by (Some row) is = is.is_stored

  -- ---- what is laid out

  pub slots_first : (n : ℕ) (xs ys : List ℕ) → SlotsAt base n (xs ++ ys) → SlotsAt base n xs
  slots_first n [] ys at = tt
  slots_first n (x ∷ xs) ys at = (at.0, slots_first (suc n) xs ys at.1)

  pub slots_rest : (n : ℕ) (xs ys : List ℕ) → SlotsAt base n (xs ++ ys) →
      SlotsAt base (n + length xs) ys
  slots_rest n [] ys at = let same : n ≡ n + 0 = omega arith in subst (λ k. SlotsAt base k ys) same at
  slots_rest n (x ∷ xs) ys at =
      let same : suc n + length xs ≡ n + suc (length xs) = omega arith in
      subst (λ k. SlotsAt base k ys) same (slots_rest (suc n) xs ys at.1)

  pub temps_first : (n : ℕ) (xs ys : List (List Bool)) → TempsAt base n (xs ++ ys) →
      TempsAt base n xs
  temps_first n [] ys at = tt
  temps_first n (x ∷ xs) ys at = (at.0, temps_first (suc n) xs ys at.1)

  pub temps_rest : (n : ℕ) (xs ys : List (List Bool)) → TempsAt base n (xs ++ ys) →
      TempsAt base (n + length xs) ys
  temps_rest n [] ys at = let same : n ≡ n + 0 = omega arith in subst (λ k. TempsAt base k ys) same at
  temps_rest n (x ∷ xs) ys at =
      let same : suc n + length xs ≡ n + suc (length xs) = omega arith in
      subst (λ k. TempsAt base k ys) same (temps_rest (suc n) xs ys at.1)

  pub storages_first : (n : ℕ) (xs ys : List Region) → StoragesAt base n (xs ++ ys) →
      StoragesAt base n xs
  storages_first n [] ys at = tt
  storages_first n (x ∷ xs) ys at = (at.0, storages_first (suc n) xs ys at.1)

  pub storages_rest : (n : ℕ) (xs ys : List Region) → StoragesAt base n (xs ++ ys) →
      StoragesAt base (n + length xs) ys
  storages_rest n [] ys at =
      let same : n ≡ n + 0 = omega arith in subst (λ k. StoragesAt base k ys) same at
  storages_rest n (x ∷ xs) ys at =
      let same : suc n + length xs ≡ n + suc (length xs) = omega arith in
      subst (λ k. StoragesAt base k ys) same (storages_rest (suc n) xs ys at.1)

-- ---- lists

pub temps_both : (xs ys : List (List Bool)) → AllTemps xs → AllTemps ys → AllTemps (xs ++ ys)
temps_both [] ys first rest = rest
temps_both (x ∷ xs) ys first rest = (first.0, temps_both xs ys first.1 rest)

pub shifts_both : (xs ys : List Shifted) → AllShifts xs → AllShifts ys → AllShifts (xs ++ ys)
shifts_both [] ys first rest = rest
shifts_both (x ∷ xs) ys first rest = (first.0, shifts_both xs ys first.1 rest)

-- ---- vectors

zero_up_to : IsUpTo 31 (pos 0)
zero_up_to = (omega (arith, ints), omega (arith, ints))

pub unmoved_fits : (rank : ℕ) → IsVector rank unmoved
unmoved_fits rank =
    let zeros : All (λ component. component ≡ pos 0) unmoved =
    All-from_recursion (λ component. component ≡ pos 0) unmoved (refl, (refl, (refl, tt))) in (
      All-from_recursion (IsUpTo 31) unmoved (zero_up_to, (zero_up_to, (zero_up_to, tt))),
      dropped rank unmoved zeros,
    )
  where
    dropped : (n : ℕ) (v : List ℤ) → All (λ component. component ≡ pos 0) v →
        All (λ component. component ≡ pos 0) (drop n v)
    dropped zero v all = all
    dropped (suc n) [] all = all
    dropped (suc n) (d ∷ v) all =
        dropped n v (All-tail (λ component. component ≡ pos 0) d v all)

shift_small : (dims : List Dim) (v : List ℤ) → All (IsUpTo 31) v → All (IsUpTo 31) (shift_in dims v)
shift_small dims [] all = All-nil (IsUpTo 31)
shift_small [] (d ∷ v) all =
    All-cons (IsUpTo 31) (pos 0) (shift_in [] v) zero_up_to
    (shift_small [] v (All-tail (IsUpTo 31) d v all))
shift_small (dim.Range lo hi step align ∷ dims) (d ∷ v) all =
    All-cons (IsUpTo 31) d (shift_in dims v) (All-head (IsUpTo 31) d v all)
    (shift_small dims v (All-tail (IsUpTo 31) d v all))
shift_small (dim.Flood ∷ dims) (d ∷ v) all =
    All-cons (IsUpTo 31) (pos 0) (shift_in dims v) zero_up_to
    (shift_small dims v (All-tail (IsUpTo 31) d v all))

abbrev AllZero : List ℤ → Type 0
AllZero v = All (λ component. component ≡ pos 0) v

shift_none : (rank : ℕ) (dims : List Dim) (v : List ℤ) → AllZero (drop rank v) →
    AllZero (drop rank (shift_in dims v))
shift_none zero dims [] all = all
shift_none (suc rank) dims [] all = all
shift_none zero [] (d ∷ v) all =
    All-cons (λ component. component ≡ pos 0) (pos 0) (shift_in [] v) refl
    (shift_none zero [] v (All-tail (λ component. component ≡ pos 0) d v all))
shift_none zero (dim.Range lo hi step align ∷ dims) (d ∷ v) all =
    All-cons (λ component. component ≡ pos 0) d (shift_in dims v)
    (All-head (λ component. component ≡ pos 0) d v all)
    (shift_none zero dims v (All-tail (λ component. component ≡ pos 0) d v all))
shift_none zero (dim.Flood ∷ dims) (d ∷ v) all =
    All-cons (λ component. component ≡ pos 0) (pos 0) (shift_in dims v) refl
    (shift_none zero dims v (All-tail (λ component. component ≡ pos 0) d v all))
shift_none (suc rank) [] (d ∷ v) all = shift_none rank [] v all
shift_none (suc rank) (dim.Range lo hi step align ∷ dims) (d ∷ v) all =
    shift_none rank dims v all
shift_none (suc rank) (dim.Flood ∷ dims) (d ∷ v) all = shift_none rank dims v all

pub over_fits : (rank : ℕ) (storage : Region) (shift : List ℤ) → IsVector rank shift →
    IsVector rank (vector_over storage shift)
over_fits rank storage [] fits = unmoved_fits rank
over_fits rank storage (d ∷ v) fits =
    (shift_small storage.dims (d ∷ v) fits.0, shift_none rank storage.dims (d ∷ v) fits.1)

-- and it is whole
in_count : (dims : List Dim) (v : List ℤ) → length (shift_in dims v) ≡ length v
in_count dims [] = refl
in_count [] (d ∷ v) = ap suc (in_count [] v)
in_count (dim.Range lo hi step align ∷ dims) (d ∷ v) = ap suc (in_count dims v)
in_count (dim.Flood ∷ dims) (d ∷ v) = ap suc (in_count dims v)

pub over_three : (storage : Region) (shift : List ℤ) → IsWhole shift →
    length (vector_over storage shift) ≡ 3
over_three storage [] whole = refl
over_three storage (d ∷ v) whole = in_count storage.dims (d ∷ v) ∙ whole
