-- What a processor wants of the others in a remap read, and the words of its requests.
use Rattle.std.proofs.Common.{◌≡◌, refl, ◌∙◌, ap, ap₂, inl, inr, ℕ, zero, suc, ◌+◌, ◌*◌, ◌/◌, ◌<◌, Bool, true, false, cond, List, [], ◌∷◌, ◌++◌, ℤ, length, map, filter, take, drop, Some, arith}
use Rattle.std.specs.Prelude.{option_and_then}
use Rattle.std.specs.List.{flat_map}
use Rattle.std.specs.Option.{option_map}
use Rattle.std.proofs.Math.Nat.{mul-div_cancel}
use Rattle.std.proofs.Common.{length-append}
use Rattle.zpl_region.proofs.ListLemmas.{Among}
use Rattle.grid_meaning.specs.Local.{Local}
use Rattle.grid_meaning.specs.Place.{value_at}
use Rattle.grid_meaning.specs.Remap.{Want, coordinates_at, padded, tuples_in, wants_at}

-- ---- what is wanted
coordinates_are : (local : Local) (value : ℕ → List ℤ → ℤ) (t : List ℤ) (parts : List ℕ)
    → ((part : ℕ) → Among parts part → value_at local.stores part t ≡ Some (value part t))
    → coordinates_at local parts t ≡ Some (map (λ part. value part t) parts)
coordinates_are local value t [] each = refl
coordinates_are local value t (part ∷ parts) each =
    ap (option_and_then (λ x. option_map (λ rest. x ∷ rest) (coordinates_at local parts t)))
    (each part (inl refl))
    ∙ ap (option_map (λ rest. value part t ∷ rest))
    (coordinates_are local value t parts (λ other later. each other (inr later)))

abbrev pub want_by : (ℕ → List ℤ → ℤ) → List ℕ → List ℤ → Want
want_by value parts t = record { index = t; tuple = padded (map (λ part. value part t) parts) }

pub wants_are : (local : Local) (value : ℕ → List ℤ → ℤ) (parts : List ℕ) (ts : List (List ℤ))
    → ((t : List ℤ) → Among ts t → (part : ℕ) → Among parts part
    → value_at local.stores part t ≡ Some (value part t))
    → wants_at local parts ts ≡ Some (map (want_by value parts) ts)
wants_are local value parts [] each = refl
wants_are local value parts (t ∷ ts) each =
    ap (option_and_then (λ x. option_map
    (λ rest. record { index = t; tuple = padded x } ∷ rest) (wants_at local parts ts)))
    (coordinates_are local value t parts (each t (inl refl)))
    ∙ ap (option_map (λ rest. want_by value parts t ∷ rest))
    (wants_are local value parts ts (λ u later. each u (inr later)))

-- what is wanted that passes a test, by the tuples
pub wants_filter : (want : List ℤ → Want) (test : Want → Bool) (ts : List (List ℤ))
    → filter test (map want ts) ≡ map want (filter (λ t. test (want t)) ts)
wants_filter want test [] = refl
wants_filter want test (t ∷ ts) = by (test (want t)) (wants_filter want test ts)
  where
    by : (b : Bool) → filter test (map want ts) ≡ map want (filter (λ u. test (want u)) ts)
        → cond b (want t ∷ filter test (map want ts)) (filter test (map want ts))
        ≡ map want (cond b (t ∷ filter (λ u. test (want u)) ts) (filter (λ u. test (want u)) ts))
    by true rest = ap (λ all. want t ∷ all) rest
    by false rest = rest

pub indices_are : (want : List ℤ → Want) → ((t : List ℤ) → (want t).index ≡ t)
    → (ts : List (List ℤ)) → map (λ w. w.index) (map want ts) ≡ ts
indices_are want same [] = refl
indices_are want same (t ∷ ts) = ap₂ (λ u us. u ∷ us) (same t) (indices_are want same ts)

-- ---- the words of a request are its tuples again
take_first : (n : ℕ) (xs ys : List ℤ) → length xs ≡ n → take n (xs ++ ys) ≡ xs
take_first zero [] ys long = refl
take_first zero (x ∷ xs) ys long = absurd (omega (arith, long))
take_first (suc n) [] ys long = absurd (omega (arith, long))
take_first (suc n) (x ∷ xs) ys long = ap (λ rest. x ∷ rest) (take_first n xs ys (omega (arith, long)))

drop_first : (n : ℕ) (xs ys : List ℤ) → length xs ≡ n → drop n (xs ++ ys) ≡ ys
drop_first zero [] ys long = refl
drop_first zero (x ∷ xs) ys long = absurd (omega (arith, long))
drop_first (suc n) [] ys long = absurd (omega (arith, long))
drop_first (suc n) (x ∷ xs) ys long = drop_first n xs ys (omega (arith, long))

module _ (rank : ℕ) where
  abbrev pub words_of : List (List ℤ) → List ℤ
  words_of xs = flat_map (λ x. take rank x) xs

  pub words_many : (xs : List (List ℤ)) → ((x : List ℤ) → Among xs x → length (take rank x) ≡ rank)
      → length (words_of xs) ≡ length xs * rank
  words_many [] long = omega arith
  words_many (x ∷ xs) long =
      length-append (take rank x) (words_of xs)
      ∙ (ap₂ (λ a b. a + b) (long x (inl refl))
      (words_many xs (λ y later. long y (inr later)))
      ∙ one_more (length xs))
    where
      one_more : (n : ℕ) → rank + n * rank ≡ suc n * rank
      one_more n = omega arith

  all_again : (xs : List (List ℤ)) → ((x : List ℤ) → Among xs x → length (take rank x) ≡ rank)
      → ((x : List ℤ) → Among xs x → padded (take rank x) ≡ x)
      → tuples_in (length xs) rank (words_of xs) ≡ xs
  all_again [] long same = refl
  all_again (x ∷ xs) long same =
      ap₂ (λ u us. padded u ∷ us) (take_first rank (take rank x) (words_of xs) (long x (inl refl)))
      (ap (tuples_in (length xs) rank)
      (drop_first rank (take rank x) (words_of xs) (long x (inl refl)))
      ∙ all_again xs (λ y later. long y (inr later)) (λ y later. same y (inr later)))
      ∙ ap (λ u. u ∷ xs) (same x (inl refl))

  pub requested_are : 0 < rank → (xs : List (List ℤ))
      → ((x : List ℤ) → Among xs x → length (take rank x) ≡ rank)
      → ((x : List ℤ) → Among xs x → padded (take rank x) ≡ x)
      → tuples_in (length (words_of xs) / rank) rank (words_of xs) ≡ xs
  requested_are some xs long same =
      ap (λ n. tuples_in n rank (words_of xs))
      (ap (λ n. n / rank) (words_many xs long) ∙ mul-div_cancel (length xs) some)
      ∙ all_again xs long same
