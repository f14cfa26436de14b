-- The numbers of texts among others.
use Rattle.std.proofs.Common.{◌≡◌, refl, ap, ◌∙◌, subst, arith, ℕ, zero, suc, ◌≤◌}
use Rattle.std.proofs.Common.{Bool, true, false, cond, List, [], ◌∷◌, ◌++◌, length, Option, Some}
use Rattle.std.proofs.Common.{None, is_some, option_map, slice_get, true≢false}
use Rattle.std.specs.Str.{bytes_eq}
use Rattle.std.proofs.lemmas.Slice.Eq.{bytes_eq-Decides}
use Rattle.text_sharing.specs.Shared.{number_of}

-- ---- one more text
abbrev pub or_last : Option ℕ → Bool → ℕ → Option ℕ
or_last None is size = cond is (Some size) None
or_last (Some number) is size = Some number

or_last-suc : (o : Option ℕ) (b : Bool) (size : ℕ) →
    option_map suc (or_last o b size) ≡ or_last (option_map suc o) b (suc size)
or_last-suc None true size = refl
or_last-suc None false size = refl
or_last-suc (Some number) b size = refl

pub number-push : (texts : List (List ℕ)) (last text : List ℕ) →
    number_of (texts ++ last ∷ []) text ≡
    or_last (number_of texts text) (bytes_eq last text) (length texts)
number-push [] last text = refl
number-push (one ∷ texts) last text = by (bytes_eq one text) (number-push texts last text)
  where
    by : (b : Bool) →
        number_of (texts ++ last ∷ []) text ≡
        or_last (number_of texts text) (bytes_eq last text) (length texts) →
        cond b (Some 0) (option_map suc (number_of (texts ++ last ∷ []) text)) ≡
        or_last (cond b (Some 0) (option_map suc (number_of texts text))) (bytes_eq last text)
        (length (one ∷ texts))
    by true later = refl
    by false later =
        ap (option_map suc) later
        ∙ or_last-suc (number_of texts text) (bytes_eq last text) (length texts)

-- a text that isn't there gets the number behind all of them
pub number-new : (texts : List (List ℕ)) (last : List ℕ) →
    is_some (number_of texts last) ≡ false → (text : List ℕ) →
    number_of (texts ++ last ∷ []) text ≡
    cond (bytes_eq last text) (Some (length texts)) (number_of texts text)
number-new texts last none text =
    number-push texts last text
    ∙ by (bytes_eq last text) (number_of texts text)
    (λ e. let P : List ℕ → Type 0 = λ t. is_some (number_of texts t) ≡ false in
    subst P ((bytes_eq-Decides last text).0 e) none)
  where
    by : (b : Bool) (o : Option ℕ) → (b ≡ true → is_some o ≡ false) →
        or_last o b (length texts) ≡ cond b (Some (length texts)) o
    by true None h = refl
    by true (Some number) h = absurd (true≢false (h refl))
    by false None h = refl
    by false (Some number) h = refl

-- ---- what a number says
pub number-there : (texts : List (List ℕ)) (text : List ℕ) (number : ℕ) →
    number_of texts text ≡ Some number → slice_get texts number ≡ Some text
number-there [] text number e = cc
number-there (one ∷ texts) text number e =
    by (bytes_eq one text) (bytes_eq-Decides one text).0 (number_of texts text) e
    (number-there texts text)
  where
    by : (b : Bool) → (b ≡ true → one ≡ text) → (o : Option ℕ) →
        cond b (Some 0) (option_map suc o) ≡ Some number →
        ((k : ℕ) → o ≡ Some k → slice_get texts k ≡ Some text) →
        slice_get (one ∷ texts) number ≡ Some text
    by true same o e later =
        let zero-is : 0 ≡ number = cc in
        subst (λ n. slice_get (one ∷ texts) n ≡ Some text) zero-is (ap Some (same refl))
    by false same None e later = cc
    by false same (Some k) e later =
        let is : suc k ≡ number = cc in
        subst (λ n. slice_get (one ∷ texts) n ≡ Some text) is (later k refl)

-- ---- no element
pub none-past : {X : Type 0} (xs : List X) (k : ℕ) → slice_get xs k ≡ None → length xs ≤ k
none-past [] k e = omega arith
none-past (x ∷ xs) zero e = cc
none-past (x ∷ xs) (suc k) e = let later = none-past xs k e in omega (arith, later)
