-- The different ones of texts.
use Rattle.std.proofs.Common.{◌≡◌, refl, sym, ap, ◌∙◌, subst, arith, ℕ, zero, suc, ◌+◌, ◌<◌, ◌≤◌}
use Rattle.std.proofs.Common.{Bool, true, false, cond, List, [], ◌∷◌, ◌++◌, length, Option, Some}
use Rattle.std.proofs.Common.{None, is_some, option_map, slice_get, true≢false, length-append}
use Rattle.std.specs.Prelude.{All, Contains, fold, slice_index_or, sum_by, unwrap_or}
use Rattle.std.specs.List.{AllByRecursion, IsDistinct}
use Rattle.std.specs.Option.{option_and_then}
use Rattle.std.specs.Str.{bytes_eq}
use Rattle.std.proofs.lemmas.Slice.Eq.{bytes_eq-Decides}
use Rattle.std.proofs.lemmas.List.Elements.{All-from_recursion, recursion_from_All}
use Rattle.std.proofs.lemmas.List.Sums.{sum_by-append, sum_by-cons}
use Rattle.text_sharing.specs.Shared.{different, number_among, number_of, with_text}
use Rattle.std.proofs.Math.ListN.{get_or-eq_default}
use Rattle.std.proofs.lemmas.Option.{get_or_from_slice_get, slice_get-get_or, slice_get_within}
use Rattle.text_sharing.proofs.NumberLemmas.{none-past, number-push, number-there, or_last}

-- ---- each text is there
has_step : (texts : List (List ℕ)) (one text : List ℕ) →
    is_some (number_of texts text) ≡ true → is_some (number_of (with_text texts one) text) ≡ true
has_step texts one text there =
    by (is_some (number_of texts one)) (number_of texts text) there (number-push texts one text)
  where
    by : (b : Bool) (o : Option ℕ) → is_some o ≡ true →
        number_of (texts ++ one ∷ []) text ≡ or_last o (bytes_eq one text) (length texts) →
        is_some (number_of (cond b texts (texts ++ one ∷ [])) text) ≡ true
    by true o h e = there
    by false None h e = cc
    by false (Some number) h e = ap is_some e

has_added : (texts : List (List ℕ)) (text : List ℕ) →
    is_some (number_of (with_text texts text) text) ≡ true
has_added texts text =
    by (number_of texts text) refl (number-push texts text text)
  where
    by : (o : Option ℕ) → number_of texts text ≡ o →
        number_of (texts ++ text ∷ []) text ≡
        or_last o (bytes_eq text text) (length texts) →
        is_some (number_of (cond (is_some o) texts (texts ++ text ∷ [])) text) ≡ true
    by (Some number) is e = ap is_some is
    by None is e =
        ap is_some (e ∙ ap (λ b. or_last None b (length texts))
        ((bytes_eq-Decides text text).1 refl))

has_later : (start texts : List (List ℕ)) (text : List ℕ) →
    is_some (number_of start text) ≡ true →
    is_some (number_of (fold with_text start texts) text) ≡ true
has_later start [] text there = there
has_later start (one ∷ texts) text there =
    has_later (with_text start one) texts text (has_step start one text there)

has_each : (start texts : List (List ℕ)) (k : ℕ) (text : List ℕ) →
    slice_get texts k ≡ Some text →
    is_some (number_of (fold with_text start texts) text) ≡ true
has_each start [] k text e = cc
has_each start (one ∷ texts) zero text e =
    let same : one ≡ text = cc in
    subst (λ t. is_some (number_of (fold with_text start (one ∷ texts)) t) ≡ true) same
    (has_later (with_text start one) texts one (has_added start one))
has_each start (one ∷ texts) (suc k) text e = has_each (with_text start one) texts k text e

-- ---- of fewer, shorter and different ones
shorter : (start texts : List (List ℕ)) →
    length (fold with_text start texts) ≤ length start + length texts
shorter start [] = omega arith
shorter start (one ∷ texts) =
    let later = shorter (with_text start one) texts in
    let here = by (is_some (number_of start one)) in
    omega (arith, later, here)
  where
    by : (b : Bool) → length (cond b start (start ++ one ∷ [])) ≤ length start + 1
    by true = omega arith
    by false = omega (arith, length-append start (one ∷ []))

smaller : (start texts : List (List ℕ)) →
    sum_by length (fold with_text start texts) ≤ sum_by length start + sum_by length texts
smaller start [] = omega arith
smaller start (one ∷ texts) =
    let later = smaller (with_text start one) texts in
    let here = by (is_some (number_of start one)) in
    omega (arith, later, here, sum_by-cons length one texts)
  where
    by : (b : Bool) →
        sum_by length (cond b start (start ++ one ∷ [])) ≤ sum_by length start + length one
    by true = omega arith
    by false = omega (arith, sum_by-append length start (one ∷ []))

pub different-smaller : (texts : List (List ℕ)) →
    sum_by length (different texts) ≤ sum_by length texts
different-smaller texts = omega (arith, smaller [] texts)

all-push : (P : List ℕ → Type 0) (texts : List (List ℕ)) (text : List ℕ) →
    AllByRecursion P texts → P text → AllByRecursion P (texts ++ text ∷ [])
all-push P [] text each here = (here, tt)
all-push P (one ∷ texts) text each here = (each.0, all-push P texts text each.1 here)

all-different : (P : List ℕ → Type 0) (start texts : List (List ℕ)) → AllByRecursion P start →
    AllByRecursion P texts → AllByRecursion P (fold with_text start texts)
all-different P start [] each others = each
all-different P start (one ∷ texts) each others =
    all-different P (with_text start one) texts (by (is_some (number_of start one))) others.1
  where
    by : (b : Bool) → AllByRecursion P (cond b start (start ++ one ∷ []))
    by true = each
    by false = all-push P start one each others.0

apart : (b : Bool) (o : Option ℕ) → is_some (cond b (Some 0) (option_map suc o)) ≡ false →
    (b ≡ false) × (is_some o ≡ false)
apart true o e = absurd (true≢false e)
apart false None e = (refl, refl)
apart false (Some number) e = absurd (true≢false e)

distinct-push : (texts : List (List ℕ)) (text : List ℕ) → IsDistinct bytes_eq texts →
    is_some (number_of texts text) ≡ false → IsDistinct bytes_eq (texts ++ text ∷ [])
unfolding IsDistinct
distinct-push [] text distinct none = (tt, tt)
distinct-push (one ∷ texts) text distinct none =
    let both = apart (bytes_eq one text) (number_of texts text) none in (
      all-push (λ other. bytes_eq one other ≡ false) texts text distinct.0 both.0,
      distinct-push texts text distinct.1 both.1,
    )

distinct-fold : (start texts : List (List ℕ)) → IsDistinct bytes_eq start →
    IsDistinct bytes_eq (fold with_text start texts)
distinct-fold start [] distinct = distinct
distinct-fold start (one ∷ texts) distinct =
    distinct-fold (with_text start one) texts (by (is_some (number_of start one)) refl)
  where
    by : (b : Bool) → is_some (number_of start one) ≡ b →
        IsDistinct bytes_eq (cond b start (start ++ one ∷ []))
    by true e = distinct
    by false e = distinct-push start one distinct e

none-distinct : IsDistinct bytes_eq []
unfolding IsDistinct
none-distinct = tt

pub different-distinct : (texts : List (List ℕ)) → IsDistinct bytes_eq (different texts)
different-distinct texts = distinct-fold [] texts none-distinct

-- ---- among each other
own : (texts : List (List ℕ)) → All (λ text. Contains texts text) texts
own texts k d inside =
    let text = slice_index_or texts k d in
    (k, inside, get_or_from_slice_get texts k text text (slice_get-get_or texts k d inside))

pub different-old : (texts : List (List ℕ)) →
    All (λ text. Contains texts text) (different texts)
different-old texts =
    All-from_recursion (λ text. Contains texts text) (different texts)
    (all-different (λ text. Contains texts text) [] texts tt
    (recursion_from_All (λ text. Contains texts text) texts (own texts)))

-- the number of a text that is there
record NumberOf (texts : List (List ℕ)) (text : List ℕ) : Type 0 where
  number : ℕ
  is : number_of texts text ≡ Some number
  there : slice_get texts number ≡ Some text

number-found : (texts : List (List ℕ)) (text : List ℕ) → is_some (number_of texts text) ≡ true →
    NumberOf texts text
number-found texts text some = by (number_of texts text) refl some
  where
    by : (o : Option ℕ) → number_of texts text ≡ o → is_some o ≡ true → NumberOf texts text
    by None e h = cc
    by (Some number) e h = record {
      number = number;
      is = e;
      there = number-there texts text number e;
    }

pub different-kept : (texts : List (List ℕ)) →
    All (λ text. Contains (different texts) text) texts
different-kept texts k d inside =
    let text = slice_index_or texts k d in
    let there = has_each [] texts k text (slice_get-get_or texts k d inside) in
    let found = number-found (different texts) text there in (
      found.number,
      slice_get_within (different texts) found.number text found.there,
      get_or_from_slice_get (different texts) found.number text text found.there,
    )

-- ---- by the new number
pub number-within : (texts : List (List ℕ)) (k : ℕ) → k < length texts →
    number_among texts k < length (different texts)
number-within texts k less = by (slice_get texts k) refl
  where
    by : (o : Option (List ℕ)) → slice_get texts k ≡ o →
        unwrap_or (option_and_then (number_of (different texts)) o) k < length (different texts)
    by None e = absurd (let past = none-past texts k e in omega (arith, past))
    by (Some text) e =
        let found = number-found (different texts) text (has_each [] texts k text e) in
        subst (λ o. unwrap_or o k < length (different texts)) (sym found.is)
        (slice_get_within (different texts) found.number text found.there)

pub text-again : (texts : List (List ℕ)) (k : ℕ) →
    slice_index_or (different texts) (number_among texts k) [] ≡ slice_index_or texts k []
text-again texts k = by (slice_get texts k) refl
  where
    by : (o : Option (List ℕ)) → slice_get texts k ≡ o →
        slice_index_or (different texts)
        (unwrap_or (option_and_then (number_of (different texts)) o) k) []
        ≡ slice_index_or texts k []
    by None e =
        let past = none-past texts k e in
        get_or-eq_default (different texts) [] (omega (arith, past, shorter [] texts))
        ∙ sym (get_or-eq_default texts [] past)
    by (Some text) e =
        let found = number-found (different texts) text (has_each [] texts k text e) in
        ap (λ o. slice_index_or (different texts) (unwrap_or o k) []) found.is
        ∙ (get_or_from_slice_get (different texts) found.number text [] found.there
        ∙ sym (get_or_from_slice_get texts k text [] e))
