-- Lemmas on values in a row.
use Rattle.std.proofs.Common.{◌≡◌, ℕ, zero, suc, ◌+◌, ◌<◌, ◌≤◌, Option, Some, None, List, [], ◌∷◌, ◌++◌, length, get_or, set, take, drop, ℤ, refl, sym, ◌∙◌, ap, add-one, arith}
use Rattle.std.specs.List.{fold}
use Rattle.zpl_nums.specs.declared.folds.Fold.{Fold}
use Rattle.zpl_nums.specs.Fold.{joined}
use Rattle.zpl_arrays.specs.Row.{joined_with, kept_values, running}

-- the fold goes on by one value
fold_on : (op : Fold) (vs : List (Option ℤ)) (i : ℕ) (d : Option ℤ) (so_far : ℤ) → i < length vs
    → fold (joined op) so_far (kept_values (drop i vs)) ≡ fold (joined op) (joined_with op so_far (get_or vs i d)) (kept_values (drop (suc i) vs))
fold_on op [] i d so_far h = absurd (omega arith)
fold_on op (Some v ∷ vs) zero d so_far h = refl
fold_on op (None ∷ vs) zero d so_far h = refl
fold_on op (v ∷ vs) (suc i) d so_far h = fold_on op vs i d so_far (omega arith)

pub fold_goes_on : (op : Fold) (vs : List (Option ℤ)) (i : ℕ) (d : Option ℤ) (so_far next whole : ℤ) → i < length vs → next ≡ joined_with op so_far (get_or vs i d)
    → fold (joined op) so_far (kept_values (drop i vs)) ≡ whole → fold (joined op) next (kept_values (drop (i + 1) vs)) ≡ whole
fold_goes_on op vs i d so_far next whole h e f =
    ap (λ k. fold (joined op) next (kept_values (drop k vs))) (add-one i)
    ∙ (ap (λ z. fold (joined op) z (kept_values (drop (suc i) vs))) e ∙ (sym (fold_on op vs i d so_far h) ∙ f))

pub fold_ends : (op : Fold) (vs : List (Option ℤ)) (so_far whole : ℤ) (i : ℕ) → length vs ≤ i → fold (joined op) so_far (kept_values (drop i vs)) ≡ whole → so_far ≡ whole
fold_ends op [] so_far whole zero h f = f
fold_ends op [] so_far whole (suc i) h f = f
fold_ends op (v ∷ vs) so_far whole zero h f = absurd (omega arith)
fold_ends op (v ∷ vs) so_far whole (suc i) h f = fold_ends op vs so_far whole i (omega arith) f

-- the scan goes on by one place
scan_on : (op : Fold) (vs : List (Option ℤ)) (xs : List ℤ) (i : ℕ) (d : Option ℤ) (so_far : ℤ) → i < length vs → i < length xs
    → take i xs ++ running op so_far (drop i vs)
    ≡ take (suc i) (set xs i (joined_with op so_far (get_or vs i d))) ++ running op (joined_with op so_far (get_or vs i d)) (drop (suc i) vs)
scan_on op [] xs i d so_far h k = absurd (omega arith)
scan_on op (v ∷ vs) [] i d so_far h k = absurd (omega arith)
scan_on op (v ∷ vs) (x ∷ xs) zero d so_far h k = refl
scan_on op (v ∷ vs) (x ∷ xs) (suc i) d so_far h k = ap (λ l. x ∷ l) (scan_on op vs xs i d so_far (omega arith) (omega arith))

pub scan_goes_on : (op : Fold) (vs : List (Option ℤ)) (xs whole : List ℤ) (i : ℕ) (d : Option ℤ) (so_far next : ℤ) → i < length vs → i < length xs
    → next ≡ joined_with op so_far (get_or vs i d) → take i xs ++ running op so_far (drop i vs) ≡ whole
    → take (i + 1) (set xs i next) ++ running op next (drop (i + 1) vs) ≡ whole
scan_goes_on op vs xs whole i d so_far next h k e f =
    ap (λ j. take j (set xs i next) ++ running op next (drop j vs)) (add-one i)
    ∙ (ap (λ z. take (suc i) (set xs i z) ++ running op z (drop (suc i) vs)) e ∙ (sym (scan_on op vs xs i d so_far h k) ∙ f))

pub scan_ends : (op : Fold) (vs : List (Option ℤ)) (xs whole : List ℤ) (i : ℕ) (so_far : ℤ) → length vs ≤ i → length xs ≡ length vs → take i xs ++ running op so_far (drop i vs) ≡ whole → xs ≡ whole
scan_ends op [] [] whole zero so_far h k f = f
scan_ends op [] [] whole (suc i) so_far h k f = f
scan_ends op [] (x ∷ xs) whole i so_far h k f = absurd (omega arith)
scan_ends op (v ∷ vs) [] whole i so_far h k f = absurd (omega arith)
scan_ends op (v ∷ vs) (x ∷ xs) whole zero so_far h k f = absurd (omega arith)
scan_ends op (v ∷ vs) (x ∷ xs) whole (suc i) so_far h k f = ap (λ l. x ∷ l) (scan_ends op vs xs _ i so_far (omega arith) (omega arith) refl) ∙ f
