-- Each array that a row names is in the tables, where the row fits.
use Rattle.std.proofs.Common.{◌≡◌, sym, subst, arith, ℕ, zero, suc, ◌<◌, List, [], ◌∷◌, length}
use Rattle.std.proofs.Common.{All, Any, Option, Some, None, inl, inr, take}
use Rattle.std.specs.Prelude.{◌⊎◌, false, slice_get, true}
use Rattle.std.specs.Option.{IfSome, IsSomeAnd}
use Rattle.temp_norm.specs.of_node_form.declared.arrays.ArrayRow.{ArrayRow}
use Rattle.temp_norm.specs.of_node_form.declared.instructions.DimRow.{DimRow}
use Rattle.temp_norm.specs.of_node_form.declared.instructions.DimRow.TheVariants as part
use Rattle.temp_norm.specs.of_node_form.declared.instructions.Instr.{Instr}
use Rattle.temp_norm.specs.of_node_form.declared.instructions.Instr.TheVariants as instr
use Rattle.temp_norm.specs.of_node_form.declared.members.Member.{Member}
use Rattle.temp_norm.specs.of_node_form.declared.members.Member.TheVariants as member
use Rattle.temp_norm.specs.of_node_form.declared.tables.Tables.{Tables}
use Rattle.temp_norm.specs.of_node_form.declared.touches.Thing.TheVariants as thing
use Rattle.temp_norm.specs.of_node_form.declared.words.ExprOp.{ExprOp}
use Rattle.temp_norm.specs.of_node_form.declared.words.ExprOp.TheVariants as word
use Rattle.temp_norm.specs.of_node_form.Fits.{FitsAt, FitsMember, FitsPart, FitsRemap, FitsWord, HasArray}
use Rattle.temp_norm.specs.of_node_form.Fits.{HasExpr, HasScalarExpr, IsIndexArray, IsScalarWord}
use Rattle.temp_norm.specs.of_flat_form.Flat.{IsFlatRow}
use Rattle.temp_norm.specs.of_node_form.Touch.{IsNamed, IsNamedByExpr, IsNamedByMask, IsNamedByMember}
use Rattle.temp_norm.specs.of_node_form.Touch.{IsNamedByPart, IsNamedByWord}
use Rattle.std.specs.Option.{IsNone}
use Rattle.std.specs.Prelude.{drop}

-- ---- lists
pub any_all : {X : Type 0} (P R : X → Type 0) (G : Type 0) (xs : List X)
    → ((x : X) → P x → R x → G) → All P xs → Any R xs → G
any_all P R G xs both all (k, x, inside, is, holds) =
    both x (subst P is (all k x inside)) holds

pub some_all : {X : Type 0} (P R : X → Type 0) (G : Type 0) (found : Option X)
    → ((x : X) → P x → R x → G) → IsSomeAnd found P → IsSomeAnd found R → G
some_all P R G (Some x) both has is = both x has is
some_all P R G None both has is = absurd has

if_all : {X : Type 0} (P R : X → Type 0) (G : Type 0) (found : Option X)
    → ((x : X) → P x → R x → G) → IfSome found P → IsSomeAnd found R → G
if_all P R G (Some x) both has is = both x has is
if_all P R G None both has is = absurd is

pub in_range : {X : Type 0} (P : X → Type 0) (xs : List X) (k : ℕ) → IsSomeAnd (slice_get xs k) P
    → k < length xs
in_range P [] k is = absurd is
in_range P (x ∷ xs) zero is = omega arith
in_range P (x ∷ xs) (suc k) is = omega (arith, in_range P xs k is)

module _ (tables : Tables) (k : ℕ) where
  abbrev IsIn : Type 0
  IsIn = k < length tables.arrays

  at_array : (P : ArrayRow → Type 0) (array : ℕ) → IsSomeAnd (slice_get tables.arrays array) P
      → thing.Array k ≡ thing.Array array → IsIn
  at_array P array has e =
      let same : array ≡ k = cc in
      subst (λ j. j < length tables.arrays) same (in_range P tables.arrays array has)

  module _ (rank : ℕ) where
    has_in : (array : ℕ) → HasArray tables rank array → thing.Array k ≡ thing.Array array → IsIn
    has_in array has e = at_array (λ row. row.rank ≡ rank) array has e

    word_in : (w : ExprOp) → FitsWord tables rank w → IsNamedByWord (thing.Array k) w → IsIn
    word_in (word.Scalar scalar) fits is = cc
    word_in (word.Here array) fits is = has_in array fits is
    word_in (word.Shifted array shift) fits is = has_in array fits.0 is
    word_in w fits is = absurd is

    expr_in : (expr : ℕ) → HasExpr tables rank expr → IsNamedByExpr tables (thing.Array k) expr
        → IsIn
    expr_in expr has is =
        some_all (All (FitsWord tables rank)) (Any (IsNamedByWord (thing.Array k))) IsIn
        (slice_get tables.exprs expr)
        (λ words. any_all (FitsWord tables rank) (IsNamedByWord (thing.Array k)) IsIn words word_in)
        has is

    mask_in : (mask : Option ℕ) → IfSome mask (HasExpr tables rank)
        → IsNamedByMask tables (thing.Array k) mask → IsIn
    mask_in mask has is =
        if_all (HasExpr tables rank) (IsNamedByExpr tables (thing.Array k)) IsIn mask expr_in has is

    either_in : (expr : ℕ) (mask : Option ℕ) → HasExpr tables rank expr
        → IfSome mask (HasExpr tables rank)
        → IsNamedByExpr tables (thing.Array k) expr ⊎ IsNamedByMask tables (thing.Array k) mask
        → IsIn
    either_in expr mask has also (inl is) = expr_in expr has is
    either_in expr mask has also (inr is) = mask_in mask also is

    pub member_in : (one : Member) → FitsMember tables rank one
        → IsNamedByMember tables (thing.Array k) one → IsIn
    member_in (member.Put array expr mask line) fits (inl is) = has_in array fits.0 is
    member_in (member.Put array expr mask line) fits (inr is) =
        either_in expr mask fits.1 fits.2 is
    member_in (member.Cell cell expr mask line) fits is = either_in expr mask fits.1 fits.2 is
    member_in (member.Acc scalar operator expr mask line) fits (inl is) = cc
    member_in (member.Acc scalar operator expr mask line) fits (inr is) =
        either_in expr mask fits.1 fits.2 is
    member_in (member.OpenIf expr mask line) fits is = either_in expr mask fits.0 fits.1 is
    member_in (member.OpenWhile expr mask line) fits is = either_in expr mask fits.0 fits.1 is
    member_in (member.OpenRepeat mask line) fits is = mask_in mask fits is
    member_in (member.Until expr) fits is = expr_in expr fits is
    member_in one fits is = absurd is

    scalar_word : (w : ExprOp) → IsScalarWord w → IsNamedByWord (thing.Array k) w → IsIn
    scalar_word (word.Scalar scalar) fits is = cc
    scalar_word (word.Here array) fits is = absurd fits
    scalar_word (word.Shifted array shift) fits is = absurd fits
    scalar_word w fits is = absurd is

    scalar_in : (expr : ℕ) → HasScalarExpr tables expr
        → IsNamedByExpr tables (thing.Array k) expr → IsIn
    scalar_in expr has is =
        some_all (All IsScalarWord) (Any (IsNamedByWord (thing.Array k))) IsIn
        (slice_get tables.exprs expr)
        (λ words. any_all IsScalarWord (IsNamedByWord (thing.Array k)) IsIn words scalar_word)
        has is

    part_in : (p : DimRow) → FitsPart tables rank p → IsNamedByPart tables (thing.Array k) p → IsIn
    part_in (part.Span low high) fits (inl is) = scalar_in low fits.0 is
    part_in (part.Span low high) fits (inr is) = scalar_in high fits.1 is
    part_in part.Star fits is = absurd is
    part_in (part.Copied slot) fits is = cc

    -- ---- the index arrays of `remap`
    part_of : (array : ℕ) (one : Option ℕ) → IsSomeAnd one (IsIndexArray tables rank array)
        → IsSomeAnd one (λ read. thing.Array k ≡ thing.Array read) → IsIn
    part_of array one has is =
        some_all (IsIndexArray tables rank array) (λ read. thing.Array k ≡ thing.Array read) IsIn
        one (λ read index. has_in read index.0) has is

    parts_in : (array n : ℕ) (parts : List (Option ℕ))
        → All (λ one. IsSomeAnd one (IsIndexArray tables rank array)) (take n parts)
        → All IsNone (drop n parts)
        → Any (λ one. IsSomeAnd one (λ read. thing.Array k ≡ thing.Array read)) parts → IsIn
    parts_in array zero parts given absent any =
        any_all IsNone (λ one. IsSomeAnd one (λ read. thing.Array k ≡ thing.Array read)) IsIn parts
        none absent any
      where
        none : (one : Option ℕ) → IsNone one
            → IsSomeAnd one (λ read. thing.Array k ≡ thing.Array read) → IsIn
        none None is named = absurd named
        none (Some read) is named = absurd (differ is)
          where
            differ : true ≡ false → ⊥
            differ e = cc
    parts_in array (suc n) [] given absent (j, x, inside, is, holds) =
        absurd (omega (arith, inside))
    parts_in array (suc n) (one ∷ parts) given absent (zero, x, inside, is, holds) =
        part_of array one (given 0 one (omega arith))
        (subst (λ o. IsSomeAnd o (λ read. thing.Array k ≡ thing.Array read)) (sym is) holds)
    parts_in array (suc n) (one ∷ parts) given absent (suc j, x, inside, is, holds) =
        parts_in array n parts (λ i d below. given (suc i) d (omega (arith, below))) absent
        (j, x, omega (arith, inside), is, holds)

    -- ---- rows
    pub named_in : (row : Instr) → IsFlatRow row → FitsAt tables rank row
        → IsNamed tables row (thing.Array k) → IsIn
    named_in (instr.Set scalar expr line) flat fits (inl is) = cc
    named_in (instr.Set scalar expr line) flat fits (inr is) = scalar_in expr fits.1 is
    named_in (instr.Fix slot region) flat fits is = cc
    named_in (instr.Dims slot parts line) flat fits (inl is) = cc
    named_in (instr.Dims slot parts line) flat fits (inr is) =
        any_all (FitsPart tables rank) (IsNamedByPart tables (thing.Array k)) IsIn parts part_in
        fits.1.0 is
    named_in (instr.Formed form slot from shift line) flat fits (inl is) = cc
    named_in (instr.Formed form slot from shift line) flat fits (inr is) = cc
    named_in (instr.Need slot array shift line) flat fits (inl is) = cc
    named_in (instr.Need slot array shift line) flat fits (inr is) = has_in array fits.1 is
    named_in (instr.Same target source kind line) flat fits (inl is) = cc
    named_in (instr.Same target source kind line) flat fits (inr is) = cc
    named_in (instr.Fits slot shift line) flat fits is = cc
    named_in (instr.Room array slot) flat fits (inl is) = has_in array fits.1 is
    named_in (instr.Room array slot) flat fits (inr is) = cc
    named_in (instr.Clear array) flat fits is = at_array (λ row. row.stored ≡ _) array fits is
    named_in (instr.Loop slot group) flat fits (inl is) = cc
    named_in (instr.Loop slot group) flat fits (inr is) =
        some_all (All (FitsMember tables rank)) (Any (IsNamedByMember tables (thing.Array k))) IsIn
        (slice_get tables.groups group)
        (λ group. any_all (FitsMember tables rank) (IsNamedByMember tables (thing.Array k)) IsIn
        group member_in) fits.1 is
    named_in (instr.Edge kind array slot shift) flat fits (inl is) = has_in array fits.1 is
    named_in (instr.Edge kind array slot shift) flat fits (inr is) = cc
    named_in (instr.Flood array target from source) flat fits (inl is) = has_in array fits.2 is
    named_in (instr.Flood array target from source) flat fits (inr (inl is)) = cc
    named_in (instr.Flood array target from source) flat fits (inr (inr (inl is))) =
        has_in from fits.3 is
    named_in (instr.Flood array target from source) flat fits (inr (inr (inr is))) = cc
    named_in (instr.Part array target operator from source) flat fits
        (inl is) = has_in array fits.2 is
    named_in (instr.Part array target operator from source) flat fits (inr (inl is)) = cc
    named_in (instr.Part array target operator from source) flat fits (inr (inr (inl is))) =
        has_in from fits.3 is
    named_in (instr.Part array target operator from source) flat fits (inr (inr (inr is))) = cc
    named_in (instr.Scan array slot operator along from mask) flat fits (inl is) =
        has_in array fits.1 is
    named_in (instr.Scan array slot operator along from mask) flat fits (inr (inl is)) = cc
    named_in (instr.Scan array slot operator along from mask) flat fits (inr (inr (inl is))) =
        has_in from fits.2 is
    named_in (instr.Scan array slot operator along from mask) flat fits (inr (inr (inr is))) =
        if_all (HasArray tables rank) (λ read. thing.Array k ≡ thing.Array read) IsIn mask has_in
        fits.3 is
    named_in (instr.Fold scalar operator) flat fits is = cc
    named_in (instr.TreeFold scalar operator) flat fits is = cc
    named_in (instr.Number expr) flat fits is = scalar_in expr fits is
    named_in (instr.Truth expr) flat fits is = scalar_in expr fits is
    named_in (instr.Gather truth array slot) flat fits (inl is) = has_in array fits.1 is
    named_in (instr.Gather truth array slot) flat fits (inr is) = cc
    named_in (instr.Unless expr goal line) flat fits is = scalar_in expr fits.0 is
    named_in (instr.Remap array slot from parts) flat fits (inl is) = has_in array fits.1 is
    named_in (instr.Remap array slot from parts) flat fits (inr (inl is)) = cc
    named_in (instr.Remap array slot from parts) flat fits (inr (inr (inl is))) =
        at_array (FitsRemap tables rank array parts) from fits.3 is
    named_in (instr.Remap array slot from parts) flat fits (inr (inr (inr any))) =
        by (slice_get tables.arrays from) fits.3
      where
        by : (found : Option ArrayRow) → IsSomeAnd found (FitsRemap tables rank array parts)
            → IsIn
        by (Some row) remap = parts_in array row.rank parts remap.given remap.absent any
        by None remap = absurd remap
    named_in (instr.Start exchange) flat fits is = absurd flat
    named_in (instr.Finish exchange) flat fits is = absurd flat
    named_in row flat fits is = absurd is
