-- Vectors of a rank, and those of the borders of a read that wraps round.
use Rattle.std.proofs.Common.{◌≡◌, ℕ, zero, suc, ◌*◌, ◌-◌, ◌^◌, Bool, true, false, ℤ, List, [], ◌∷◌, ◌++◌, map, length, drop, refl, sym, ap, ◌∙◌, subst, arith}
use Rattle.std.specs.Prelude.{cond, pos, negsuc, neg_ℤ, flat_map, filter}
use Rattle.std.specs.List.{AllByRecursion}
use native.Mathlib.Numerals.{unary_clauses}
use Rattle.std.proofs.lemmas.Int.{ints}
use Rattle.std.proofs.lemmas.List.Elements.{All-from_recursion, recursion_from_All}
use Rattle.zpl_nums.specs.Integer.{is_true}
use Rattle.zpl_region.specs.Dim.{IsUpTo}
use Rattle.stored_shifts.specs.of_node_form.Fits.{IsVector}
use Rattle.lower_numbers.specs.of_zpl_lowering.Slate.{is_moving, border_slots}
use Rattle.lower_numbers.specs.of_zpl_lowering.Hoist.{kept_or_not, choices, border_vectors}

-- ---- component by component

abbrev pub VectorBy : ℕ → List ℤ → Type 0
VectorBy rank [] = Unit {0}
VectorBy zero (d ∷ v) = IsUpTo 31 d × (d ≡ pos 0) × VectorBy zero v
VectorBy (suc rank) (d ∷ v) = IsUpTo 31 d × VectorBy rank v

small_by : (rank : ℕ) (v : List ℤ) → VectorBy rank v → AllByRecursion (IsUpTo 31) v
small_by rank [] by = tt
small_by zero (d ∷ v) by = (by.0, small_by zero v by.2)
small_by (suc rank) (d ∷ v) by = (by.0, small_by rank v by.1)

none_by : (rank : ℕ) (v : List ℤ) → VectorBy rank v →
    AllByRecursion (λ component. component ≡ pos 0) (drop rank v)
none_by zero [] by = tt
none_by (suc rank) [] by = tt
none_by zero (d ∷ v) by = (by.1, none_by zero v by.2)
none_by (suc rank) (d ∷ v) by = none_by rank v by.1

pub vector_by : (rank : ℕ) (v : List ℤ) → VectorBy rank v → IsVector rank v
vector_by rank v by = (
  All-from_recursion (IsUpTo 31) v (small_by rank v by),
  All-from_recursion (λ component. component ≡ pos 0) (drop rank v) (none_by rank v by),
)

from_both : (rank : ℕ) (v : List ℤ) → AllByRecursion (IsUpTo 31) v →
    AllByRecursion (λ component. component ≡ pos 0) (drop rank v) → VectorBy rank v
from_both zero [] small none = tt
from_both (suc rank) [] small none = tt
from_both zero (d ∷ v) small none = (small.0, none.0, from_both zero v small.1 none.1)
from_both (suc rank) (d ∷ v) small none = (small.0, from_both rank v small.1 none)

pub by_vector : (rank : ℕ) (v : List ℤ) → IsVector rank v → VectorBy rank v
by_vector rank v is =
    from_both rank v (recursion_from_All (IsUpTo 31) v is.0)
    (recursion_from_All (λ component. component ≡ pos 0) (drop rank v) is.1)

-- ---- the opposite

up_opposite : (d : ℤ) → IsUpTo 31 d → IsUpTo 31 (neg_ℤ d)
up_opposite d is = let low = is.0 in let high = is.1 in (omega (arith, ints), omega (arith, ints))

pub opposite_by : (rank : ℕ) (v : List ℤ) → VectorBy rank v → VectorBy rank (map neg_ℤ v)
opposite_by rank [] by = tt
opposite_by zero (d ∷ v) by =
    (up_opposite d by.0, ap neg_ℤ by.1, opposite_by zero v by.2)
opposite_by (suc rank) (d ∷ v) by = (up_opposite d by.0, opposite_by rank v by.1)

-- ---- the vectors of borders

abbrev pub VectorsBy : ℕ → List (List ℤ) → Type 0
VectorsBy rank [] = Unit {0}
VectorsBy rank (v ∷ vs) = VectorBy rank v × VectorsBy rank vs

zero_small : IsUpTo 31 (pos 0)
zero_small = (omega (arith, ints), omega (arith, ints))

more_past : (d : ℤ) (vs : List (List ℤ)) → IsUpTo 31 d → d ≡ pos 0 → VectorsBy zero vs →
    VectorsBy zero (flat_map (kept_or_not d) vs)
more_past d [] small none by = tt
more_past (pos zero) (v ∷ vs) small none by =
    ((small, none, by.0), more_past (pos zero) vs small none by.1)
more_past (pos (suc n)) (v ∷ vs) small none by = let no : ⊥ = cc in absurd no
more_past (negsuc n) (v ∷ vs) small none by = let no : ⊥ = cc in absurd no

kept_true : (d : ℤ) (rest : List ℤ) → is_true d ≡ true →
    kept_or_not d rest ≡ (pos 0 ∷ rest) ∷ (d ∷ rest) ∷ []
kept_true d rest e = rw e refl

kept_false : (d : ℤ) (rest : List ℤ) → is_true d ≡ false → kept_or_not d rest ≡ (d ∷ rest) ∷ []
kept_false d rest e = rw e refl

more_by : (rank : ℕ) (d : ℤ) (vs : List (List ℤ)) → IsUpTo 31 d → VectorsBy rank vs →
    VectorsBy (suc rank) (flat_map (kept_or_not d) vs)
more_by rank d [] small by = tt
more_by rank d (v ∷ vs) small by = split (more_by rank d vs small by.1) (is_true d) refl
  where
    split : VectorsBy (suc rank) (flat_map (kept_or_not d) vs) → (b : Bool) → is_true d ≡ b →
        VectorsBy (suc rank) (kept_or_not d v ++ flat_map (kept_or_not d) vs)
    split rest true e =
        subst (λ front. VectorsBy (suc rank) (front ++ flat_map (kept_or_not d) vs))
        (sym (kept_true d v e))
        ((zero_small, by.0), ((small, by.0), rest))
    split rest false e =
        subst (λ front. VectorsBy (suc rank) (front ++ flat_map (kept_or_not d) vs))
        (sym (kept_false d v e)) ((small, by.0), rest)

choices_by : (rank : ℕ) (v : List ℤ) → VectorBy rank v → VectorsBy rank (choices v)
choices_by rank [] by = (tt, tt)
choices_by zero (d ∷ v) by = more_past d (choices v) by.0 by.1 (choices_by zero v by.2)
choices_by (suc rank) (d ∷ v) by = more_by rank d (choices v) by.0 (choices_by rank v by.1)

pub borders_by : (rank : ℕ) (v : List ℤ) → VectorBy rank v → VectorsBy rank (border_vectors v)
borders_by rank v by = rest (choices v) (choices_by rank v by)
  where
    rest : (vs : List (List ℤ)) → VectorsBy rank vs → VectorsBy rank (drop 1 vs)
    rest [] by = tt
    rest (v ∷ vs) by = by.1

-- ---- with as many components as the read's

abbrev pub AllCount : ℕ → List (List ℤ) → Type 0
AllCount n [] = Unit {0}
AllCount n (v ∷ vs) = (length v ≡ n) × AllCount n vs

more_alike : (n : ℕ) (d : ℤ) (vs : List (List ℤ)) → AllCount n vs →
    AllCount (suc n) (flat_map (kept_or_not d) vs)
more_alike n d [] all = tt
more_alike n d (v ∷ vs) all = split (more_alike n d vs all.1) (is_true d) refl
  where
    split : AllCount (suc n) (flat_map (kept_or_not d) vs) → (b : Bool) → is_true d ≡ b →
        AllCount (suc n) (kept_or_not d v ++ flat_map (kept_or_not d) vs)
    split rest true e =
        subst (λ front. AllCount (suc n) (front ++ flat_map (kept_or_not d) vs))
        (sym (kept_true d v e)) (ap suc all.0, (ap suc all.0, rest))
    split rest false e =
        subst (λ front. AllCount (suc n) (front ++ flat_map (kept_or_not d) vs))
        (sym (kept_false d v e)) (ap suc all.0, rest)

choices_alike : (v : List ℤ) → AllCount (length v) (choices v)
choices_alike [] = (refl, tt)
choices_alike (d ∷ v) = more_alike (length v) d (choices v) (choices_alike v)

pub borders_alike : (v : List ℤ) → AllCount (length v) (border_vectors v)
borders_alike v = rest (choices v) (choices_alike v)
  where
    rest : (vs : List (List ℤ)) → AllCount (length v) vs → AllCount (length v) (drop 1 vs)
    rest [] all = tt
    rest (v ∷ vs) all = all.1

-- ---- as many as there are slots for

abbrev pub double : {A : Type 0} → List A → ℕ
double [] = 0
double (x ∷ xs) = suc (suc (double xs))

abbrev many : Bool → ℕ → ℕ
many true n = 2 * n
many false n = n

counted : (d : ℤ) (b : Bool) → is_true d ≡ b → (vs : List (List ℤ)) →
    length (flat_map (kept_or_not d) vs) ≡ many b (length vs)
counted d true e [] = refl
counted d false e [] = refl
counted d true e (v ∷ vs) =
    let rest = counted d true e vs in
    subst (λ front. length (front ++ flat_map (kept_or_not d) vs) ≡ 2 * length (v ∷ vs))
    (sym (kept_true d v e)) (omega arith)
counted d false e (v ∷ vs) =
    let rest = counted d false e vs in
    subst (λ front. length (front ++ flat_map (kept_or_not d) vs) ≡ length (v ∷ vs))
    (sym (kept_false d v e)) (omega arith)

one_more : (n : ℕ) → 2 ^ suc n ≡ 2 * 2 ^ n
one_more n = simp unary_clauses (omega arith)

choices_count : (v : List ℤ) → length (choices v) ≡ 2 ^ length (filter is_moving v)
choices_count [] = refl
choices_count (d ∷ v) = split (choices_count v) (is_true d) refl
  where
    split : length (choices v) ≡ 2 ^ length (filter is_moving v) → (b : Bool) → is_true d ≡ b →
        length (flat_map (kept_or_not d) (choices v))
        ≡ 2 ^ length (cond b (d ∷ filter is_moving v) (filter is_moving v))
    split rest true e =
        let more = one_more (length (filter is_moving v)) in
        counted d true e (choices v) ∙ omega arith
    split rest false e = counted d false e (choices v) ∙ rest

double_is : {A : Type 0} (xs : List A) → double xs ≡ 2 * length xs
double_is [] = refl
double_is (x ∷ xs) = let rest = double_is xs in omega arith

fewer : {A : Type 0} (xs : List A) → length (drop 1 xs) ≡ length xs - 1
fewer [] = refl
fewer (x ∷ xs) = omega arith

pub border_count : (v : List ℤ) → border_slots v ≡ suc (double (border_vectors v))
border_count v =
    let all = choices_count v in
    let one = fewer (choices v) in
    let two = double_is (border_vectors v) in
    omega arith
