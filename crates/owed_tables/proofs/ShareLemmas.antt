-- Lists of numbers that have none in common, and what expressions read with a shift.
use Rattle.std.proofs.Common.{◌≡◌, ℕ, zero, suc, ◌+◌, ◌==◌, Bool, true, false, ◌&&◌, ◌||◌, List, [], ◌∷◌, ◌++◌, length, refl, sym, ap, ◌∙◌, subst, arith, append_assoc}
use Rattle.std.specs.Prelude.{All, Option, Some, None, flat_map, slice_get}
use Rattle.std.specs.List.{AllByRecursion, list_all, list_any}
use Rattle.std.specs.Option.{IsSomeAnd}
use Rattle.std.proofs.lemmas.Bool.{eqb-true}
use Rattle.std.proofs.lemmas.Grind.{flat_map-append}
use Rattle.std.proofs.lemmas.List.Elements.{recursion_from_All}
use Rattle.node_form.specs.declared.arrays.ArrayRow.{ArrayRow}
use Rattle.node_form.specs.declared.words.ExprOp.{ExprOp}
use Rattle.node_form.specs.declared.words.ExprOp.TheVariants as word
use Rattle.node_form.specs.declared.tables.Tables.{Tables}
use Rattle.node_form.specs.Fits.{IsStored, IsTemporary}
use Rattle.code_parts.specs.Uses.{rows_or_none, share, shifted_in, words_of}
use Rattle.stored_shifts.specs.Stored.{IsStoredRead, ShiftsAreStored}
use Rattle.lowered_flat.specs.of_lowering_fits.Inline.{is_still, AllStill}

-- ---- numbers
pub none_shared : (numbers : List ℕ) → share numbers [] ≡ false
none_shared [] = refl
none_shared (n ∷ numbers) = none_shared numbers

module _ (tables : Tables) where
  not_both : (n other : ℕ) → IsTemporary tables n → IsStored tables other → (n == other) ≡ false
  not_both n other temporary stored = by (n == other) refl
    where
      different : (found : Option ArrayRow) → IsSomeAnd found (λ row. row.stored ≡ false) →
          IsSomeAnd found (λ row. row.stored ≡ true) → ⊥
      different None first second = first
      different (Some row) first second =
          let no : false ≡ true = sym first ∙ second in
          let bottom : ⊥ = cc in bottom

      by : (b : Bool) → (n == other) ≡ b → b ≡ false
      by false is = refl
      by true is =
          absurd (different (slice_get tables.arrays n) temporary
          (subst (IsStored tables) (sym (eqb-true n other is)) stored))

  none_found : (n : ℕ) (others : List ℕ) → IsTemporary tables n →
      AllByRecursion (IsStored tables) others → list_any (λ other. n == other) others ≡ false
  none_found n [] temporary all = refl
  none_found n (other ∷ others) temporary all =
      ap (λ b. b || list_any (λ other. n == other) others) (not_both n other temporary all.0)
      ∙ none_found n others temporary all.1

  pub kept_apart : (numbers others : List ℕ) → AllByRecursion (IsTemporary tables) numbers →
      AllByRecursion (IsStored tables) others → share numbers others ≡ false
  kept_apart [] others kept stored = refl
  kept_apart (n ∷ numbers) others kept stored =
      ap (λ b. b || share numbers others) (none_found n others kept.0 stored)
      ∙ kept_apart numbers others kept.1 stored

  -- ---- what is read with a shift is stored
  stored_both : (xs ys : List ℕ) → AllByRecursion (IsStored tables) xs →
      AllByRecursion (IsStored tables) ys → AllByRecursion (IsStored tables) (xs ++ ys)
  stored_both [] ys first rest = rest
  stored_both (x ∷ xs) ys first rest = (first.0, stored_both xs ys first.1 rest)

  word_stored : (one : ExprOp) → IsStoredRead tables one →
      AllByRecursion (IsStored tables) (shifted_in one)
  word_stored (word.Shifted array shift) is = (is, tt)
  word_stored (word.Const value) is = tt
  word_stored (word.Scalar scalar) is = tt
  word_stored (word.Here array) is = tt
  word_stored (word.Cell cell) is = tt
  word_stored (word.Coord dimension) is = tt
  word_stored (word.Pair op) is = tt
  word_stored word.Neg is = tt
  word_stored word.Not is = tt
  word_stored word.Abs is = tt

  abbrev AllStoredReads : List ExprOp → Type 0
  AllStoredReads words = AllByRecursion (IsStoredRead tables) words

  pub words_stored : (words : List ExprOp) → AllStoredReads words →
      AllByRecursion (IsStored tables) (flat_map shifted_in words)
  words_stored [] all = tt
  words_stored (one ∷ words) all =
      stored_both (shifted_in one) (flat_map shifted_in words) (word_stored one all.0)
      (words_stored words all.1)

  reads_both : (xs ys : List ExprOp) → AllStoredReads xs → AllStoredReads ys →
      AllStoredReads (xs ++ ys)
  reads_both [] ys first rest = rest
  reads_both (x ∷ xs) ys first rest = (first.0, reads_both xs ys first.1 rest)

  expr_stored : (exprs : List (List ExprOp)) (n : ℕ) →
      AllByRecursion (All (IsStoredRead tables)) exprs →
      AllStoredReads (rows_or_none (slice_get exprs n))
  expr_stored [] n all = tt
  expr_stored (words ∷ exprs) zero all = recursion_from_All (IsStoredRead tables) words all.0
  expr_stored (words ∷ exprs) (suc n) all = expr_stored exprs n all.1

  pub exprs_stored : ShiftsAreStored tables → (numbers : List ℕ) →
      AllStoredReads (flat_map (words_of tables) numbers)
  exprs_stored stored [] = tt
  exprs_stored stored (n ∷ numbers) =
      reads_both (words_of tables n) (flat_map (words_of tables) numbers)
      (expr_stored tables.exprs n
      (recursion_from_All (All (IsStoredRead tables)) tables.exprs stored))
      (exprs_stored stored numbers)

  pub group_stored : {X : Type 0} (numbers : X → List ℕ) → ShiftsAreStored tables →
      (all : List X) →
      AllStoredReads (flat_map (λ one. flat_map (words_of tables) (numbers one)) all)
  group_stored numbers stored [] = tt
  group_stored numbers stored (one ∷ all) =
      reads_both (flat_map (words_of tables) (numbers one))
      (flat_map (λ one. flat_map (words_of tables) (numbers one)) all)
      (exprs_stored stored (numbers one)) (group_stored numbers stored all)

-- ---- words that read nothing with a shift
word_still : (one : ExprOp) → is_still one ≡ true → shifted_in one ≡ []
word_still (word.Shifted array shift) is = let no : ⊥ = cc in absurd no
word_still (word.Const value) is = refl
word_still (word.Scalar scalar) is = refl
word_still (word.Here array) is = refl
word_still (word.Cell cell) is = refl
word_still (word.Coord dimension) is = refl
word_still (word.Pair op) is = refl
word_still word.Neg is = refl
word_still word.Not is = refl
word_still word.Abs is = refl

pub words_still : (words : List ExprOp) → list_all is_still words ≡ true →
    flat_map shifted_in words ≡ []
words_still [] all = refl
words_still (one ∷ words) all =
    by (is_still one) all (word_still one) (words_still words)
  where
    by : (b : Bool) → (b && list_all is_still words) ≡ true →
        (b ≡ true → shifted_in one ≡ []) →
        (list_all is_still words ≡ true → flat_map shifted_in words ≡ []) →
        shifted_in one ++ flat_map shifted_in words ≡ []
    by true all first rest = ap (λ xs. xs ++ flat_map shifted_in words) (first refl) ∙ rest all
    by false all first rest = let no : ⊥ = cc in absurd no

pub all_still : (all : List (List ExprOp)) → AllStill all →
    flat_map shifted_in (flat_map (λ words. words) all) ≡ []
all_still [] still = refl
all_still (words ∷ all) still =
    flat_map-append shifted_in words (flat_map (λ words. words) all)
    ∙ (ap (λ xs. xs ++ flat_map shifted_in (flat_map (λ words. words) all))
    (words_still words still.0) ∙ all_still all still.1)

-- ---- expressions by their numbers
abbrev pub numbers_from : ℕ → List (List ExprOp) → List ℕ
numbers_from n [] = []
numbers_from n (words ∷ all) = n ∷ numbers_from (n + 1) all

stands : (front : List (List ExprOp)) (words : List ExprOp) (rest : List (List ExprOp)) →
    slice_get (front ++ words ∷ rest) (length front) ≡ Some words
stands [] words rest = refl
stands (x ∷ front) words rest = stands front words rest

one_more : (front : List (List ExprOp)) (words : List ExprOp) →
    length (front ++ words ∷ []) ≡ length front + 1
one_more [] words = refl
one_more (x ∷ front) words = omega (arith, one_more front words)

pub words_by_number : (tables : Tables) (front all rest : List (List ExprOp)) →
    tables.exprs ≡ front ++ (all ++ rest) →
    flat_map (words_of tables) (numbers_from (length front) all) ≡ flat_map (λ words. words) all
words_by_number tables front [] rest same = refl
words_by_number tables front (words ∷ all) rest same =
    let first : words_of tables (length front) ≡ words =
    ap (λ exprs. rows_or_none (slice_get exprs (length front))) same
    ∙ ap rows_or_none (stands front words (all ++ rest)) in
    let later : tables.exprs ≡ (front ++ words ∷ []) ++ (all ++ rest) =
    same ∙ sym (append_assoc front (words ∷ []) (all ++ rest)) in
    ap (λ xs. xs ++ flat_map (words_of tables) (numbers_from (length front + 1) all)) first
    ∙ ap (λ xs. words ++ xs)
    (ap (λ n. flat_map (words_of tables) (numbers_from n all)) (sym (one_more front words))
    ∙ words_by_number tables (front ++ words ∷ []) all rest later)
