-- Newlines in the parts of a text.
use Rattle.std.proofs.Common.{◌≡◌, ℕ, zero, suc, ◌+◌, ◌-◌, ◌^◌, ◌<◌, ◌≤◌, Bool, cond, List, [], ◌∷◌}
use Rattle.std.proofs.Common.{◌++◌}
use Rattle.std.proofs.Common.{length, take, drop, refl, sym, ap, ◌∙◌, arith}
use Rattle.std.specs.Prelude.{count_by, min, Option, Result, Ok, Err, MatchOption}
use Rattle.std.specs.Result.{OkIff, result_ok}
use Rattle.std.proofs.lemmas.List.{take_min}
use Rattle.std.proofs.lemmas.List.Sums.{sum_by-append}

take-nil : (n : ℕ) → take n (let none : List ℕ = [] in none) ≡ []
take-nil zero = refl
take-nil (suc n) = refl

-- the front of a longer front, and what is behind it
split : (o m : ℕ) (text : List ℕ) → o ≤ m → take m text ≡ take o text ++ take (m - o) (drop o text)
split zero m text le = let e : m ≡ m - zero = omega arith in ap (λ n. take n text) e
split (suc o) zero text le = absurd (omega arith)
split (suc o) (suc m) [] le = sym (take-nil (suc m - suc o))
split (suc o) (suc m) (x ∷ text) le =
    let e : m - o ≡ suc m - suc o = omega arith in
    ap (λ l. x ∷ l) (split o m text (omega arith) ∙ ap (λ n. take o text ++ take n (drop o text)) e)

-- what is counted in the front and behind it is counted in all
pub counted : (p : ℕ → Bool) (o m n more : ℕ) (text : List ℕ) → o ≤ m
    → n ≡ count_by p (take o text) → more ≡ count_by p (take (m - o) (drop o text))
    → n + more ≡ count_by p (take m text)
counted p o m n more text le front behind =
    let rest = take (m - o) (drop o text) in
    let all : count_by p (take m text) ≡ count_by p (take o text) + count_by p rest =
    ap (count_by p) (split o m text le) ∙ sum_by-append (λ x. cond (p x) 1 0) (take o text) rest in
    omega (arith, all, front, behind)

-- an offset behind the end is one at the end
pub at_end : (p : ℕ → Bool) (at offset : ℕ) (text : List ℕ) → offset ≡ min (length text) at
    → count_by p (take offset text) ≡ count_by p (take at text)
at_end p at offset text is =
    let e : offset ≡ min at (length text) = omega (arith, is) in
    ap (λ n. count_by p (take n text)) e ∙ ap (count_by p) (take_min at text)

-- a number that is a line is told where it has 32 bits, and it has more where it isn't
pub told_line : {E : Type 0} (number : Result ℕ E) (told : Option ℕ) (n line : ℕ)
    → OkIff number (n < 2 ^ 32) n → told ≡ result_ok number → n ≡ line
    → MatchOption told (2 ^ 32 ≤ line) (λ l. l ≡ line)
told_line (Ok x) told n line fits is same = rw is (fits.1 ∙ same)
told_line (Err e) told n line fits is same = rw is (omega (arith, same, fits))
