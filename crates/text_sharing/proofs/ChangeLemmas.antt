-- Lists that are walked, and lists whose elements are changed in place, one after another.
use Rattle.std.proofs.Common.{◌≡◌, refl, sym, ap, ◌∙◌, ℕ, zero, suc, ◌+◌}
use Rattle.std.proofs.Common.{List, [], ◌∷◌, length, map, drop, add-one}
use Rattle.std.specs.Prelude.{Some, fold, slice_get, slice_set}

-- with the first k changed
abbrev pub changed : {X : Type 0} → (X → X) → ℕ → List X → List X
changed f zero xs = xs
changed f (suc k) [] = []
changed f (suc k) (x ∷ xs) = f x ∷ changed f k xs

pub changed_length : {X : Type 0} (f : X → X) (k : ℕ) (xs : List X)
    → length (changed f k xs) ≡ length xs
changed_length f zero xs = refl
changed_length f (suc k) [] = refl
changed_length f (suc k) (x ∷ xs) = ap suc (changed_length f k xs)

-- the next one is as it was
pub changed_get : {X : Type 0} (f : X → X) (k : ℕ) (xs : List X)
    → slice_get (changed f k xs) k ≡ slice_get xs k
changed_get f zero xs = refl
changed_get f (suc k) [] = refl
changed_get f (suc k) (x ∷ xs) = changed_get f k xs

-- one more
pub changed_more : {X : Type 0} (f : X → X) (k : ℕ) (xs now : List X) (x : X)
    → now ≡ changed f k xs → slice_get now k ≡ Some x
    → slice_set now k (f x) ≡ changed f (k + 1) xs
changed_more {X = X} f k xs now x is there =
    ap (λ l. slice_set l k (f x)) is
    ∙ (step k xs (sym (changed_get f k xs) ∙ (ap (λ l. slice_get l k) (sym is) ∙ there))
    ∙ ap (λ n. changed f n xs) (sym (add-one k)))
  where
    step : (k : ℕ) (xs : List X) → slice_get xs k ≡ Some x
        → slice_set (changed f k xs) k (f x) ≡ changed f (suc k) xs
    step zero [] there = cc
    step zero (y ∷ ys) there =
        let same : y ≡ x = cc in
        ap (λ z. f z ∷ ys) (sym same)
    step (suc k) [] there = cc
    step (suc k) (y ∷ ys) there = ap (λ rest. f y ∷ rest) (step k ys there)

-- all of them
pub changed_all : {X : Type 0} (f : X → X) (xs : List X) → changed f (length xs) xs ≡ map f xs
changed_all f [] = refl
changed_all f (x ∷ xs) = ap (λ rest. f x ∷ rest) (changed_all f xs)

-- what is left begins with the next one
drop_at : {X : Type 0} (xs : List X) (k : ℕ) (x : X) → slice_get xs k ≡ Some x
    → drop k xs ≡ x ∷ drop (k + 1) xs
drop_at {X = X} xs k x there = step k xs there ∙ ap (λ n. x ∷ drop n xs) (sym (add-one k))
  where
    step : (k : ℕ) (xs : List X) → slice_get xs k ≡ Some x → drop k xs ≡ x ∷ drop (suc k) xs
    step zero [] there = cc
    step zero (y ∷ ys) there = let same : y ≡ x = cc in ap (λ z. z ∷ ys) same
    step (suc k) [] there = cc
    step (suc k) (y ∷ ys) there = step k ys there

pub fold_more : {X Y : Type 0} (f : Y → X → Y) (y : Y) (xs : List X) (k : ℕ) (x : X)
    → slice_get xs k ≡ Some x → fold f (f y x) (drop (k + 1) xs) ≡ fold f y (drop k xs)
fold_more f y xs k x there = ap (fold f y) (sym (drop_at xs k x there))
