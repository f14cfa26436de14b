-- Lengths of timetables.
use Rattle.std.proofs.Common.{◌≡◌, ◌≢◌, ◌⊎◌, ℕ, zero, suc, ◌+◌, ◌<◌, ◌≤◌, max, length, refl, sym, ◌∙◌, ap, ap₂, subst, inl, inr, arith}
use Rattle.std.proofs.Math.Nat.{max-eq_right}
use Rattle.std.proofs.lemmas.Bool.{cases_eq}
use Rattle.grid_timetable.specs.Run.{Move, Run, IsTimetable, IsEarliest, IsLeastLength, end_of, greatest, length_of, behind, end_of_last}
use Rattle.grid_timetable.proofs.RunLemmas.{HasMore, length-made, length-others, with_tick, with_tick-new, with_tick-other, with_tick-before, next_number}

-- ---- ends
end_of-same : (f g : ℕ → ℕ) (n : ℕ) → ((j : ℕ) → 1 ≤ j → j ≤ n → f j ≡ g j) → end_of f n ≡ end_of g n
end_of-same f g zero same = refl
end_of-same f g (suc n) same =
    ap₂ max (end_of-same f g n (λ j a b. same j a (omega arith))) (ap (λ t. t + 1) (same (suc n) (omega arith) (omega arith)))

end_of-below : (f g : ℕ → ℕ) (n : ℕ) → ((j : ℕ) → 1 ≤ j → j ≤ n → f j ≤ g j) → end_of f n ≤ end_of g n
end_of-below f g zero below = omega arith
end_of-below f g (suc n) below =
    let rest : end_of f n ≤ end_of g n = end_of-below f g n (λ j a b. below j a (omega arith)) in
    let last : f (suc n) ≤ g (suc n) = below (suc n) (omega arith) (omega arith) in
    omega (arith, rest, last)

end_of-behind : (run : Run) (tick : ℕ → ℕ → ℕ) → IsTimetable run tick → (p j : ℕ) → j ≤ length (run.moves p) → end_of (tick p) j ≡ behind (tick p) j
end_of-behind run tick is p zero inside = refl
end_of-behind run tick is p (suc zero) inside = omega arith
end_of-behind run tick is p (suc (suc j)) inside =
    let rest : end_of (tick p) (suc j) ≡ behind (tick p) (suc j) = end_of-behind run tick is p (suc j) (omega arith) in
    let step : tick p (suc j) + 1 ≤ tick p (suc j + 1) = is.one_by_one p (suc j) (omega arith) (omega arith) in
    let same : suc j + 1 ≡ suc (suc j) = omega arith in
    let next : tick p (suc j) + 1 ≤ tick p (suc (suc j)) = subst (λ n. tick p (suc j) + 1 ≤ tick p n) same step in
    ap (λ n. max n (tick p (suc (suc j)) + 1)) rest ∙ max-eq_right (omega (arith, next))

-- the last move ends last
pub end_of-last : (run : Run) (tick : ℕ → ℕ → ℕ) → IsTimetable run tick → (p : ℕ) → end_of (tick p) (length (run.moves p)) ≡ end_of_last run tick p
end_of-last run tick is p = end_of-behind run tick is p (length (run.moves p)) (omega arith)

-- ---- the greatest
greatest-same : (f g : ℕ → ℕ) (n : ℕ) → ((p : ℕ) → p < n → f p ≡ g p) → greatest f n ≡ greatest g n
greatest-same f g zero same = refl
greatest-same f g (suc n) same =
    ap₂ max (greatest-same f g n (λ p b. same p (omega arith))) (same n (omega arith))

greatest-below : (f g : ℕ → ℕ) (n : ℕ) → ((p : ℕ) → p < n → f p ≤ g p) → greatest f n ≤ greatest g n
greatest-below f g zero below = omega arith
greatest-below f g (suc n) below =
    let rest : greatest f n ≤ greatest g n = greatest-below f g n (λ p b. below p (omega arith)) in
    let last : f n ≤ g n = below n (omega arith) in
    omega (arith, rest, last)

above_where : (f : ℕ → ℕ) (n p : ℕ) → p < suc n → (p < n → f p ≤ greatest f n) → (p ≡ n) ⊎ (p ≡ n → ⊥) → f p ≤ greatest f (suc n)
above_where f n p below before (inl here) = omega (arith, ap f here)
above_where f n p below before (inr away) = let rest = before (omega arith) in omega (arith, rest)

pub greatest-above : (f : ℕ → ℕ) (n p : ℕ) → p < n → f p ≤ greatest f n
greatest-above f zero p below = absurd (omega arith)
greatest-above f (suc n) p below = above_where f n p below (λ b. greatest-above f n p b) (cases_eq p n)

-- it is what the function gives for one of them, unless it is 0
pub greatest-there : (f : ℕ → ℕ) (n t : ℕ) → greatest f n ≡ t → ((p : ℕ) → p < n → f p ≢ t) → t ≡ 0
greatest-there f zero t is never = sym is
greatest-there f (suc n) t is never =
    let not_here : f n ≢ t = never n (omega arith) in
    let rest : greatest f n ≡ t = omega (arith, is, not_here) in
    greatest-there f n t rest (λ p b. never p (omega arith))

one_where : (f g : ℕ → ℕ) (n p v : ℕ) → p < suc n → g p ≡ max (f p) v → ((q : ℕ) → (q ≡ p → ⊥) → g q ≡ f q)
    → (p < n → greatest g n ≡ max (greatest f n) v) → (p ≡ n) ⊎ (p ≡ n → ⊥) → greatest g (suc n) ≡ max (greatest f (suc n)) v
one_where f g n p v below here away rest (inl is) =
    let same : greatest g n ≡ greatest f n = greatest-same g f n (λ q b. away q (λ e. omega arith)) in
    let at : g n ≡ max (f n) v = subst (λ x. g x ≡ max (f x) v) is here in
    omega (arith, same, at)
one_where f g n p v below here away rest (inr other) =
    let same : greatest g n ≡ max (greatest f n) v = rest (omega arith) in
    let at : g n ≡ f n = away n (λ e. other (sym e)) in
    omega (arith, same, at)

greatest-one : (f g : ℕ → ℕ) (n p v : ℕ) → p < n → g p ≡ max (f p) v → ((q : ℕ) → (q ≡ p → ⊥) → g q ≡ f q)
    → greatest g n ≡ max (greatest f n) v
greatest-one f g zero p v below here away = absurd (omega arith)
greatest-one f g (suc n) p v below here away =
    one_where f g n p v below here away (λ b. greatest-one f g n p v b here away) (cases_eq p n)

-- ---- lengths
-- the earliest timetable is the shortest
pub earliest-least : (run : Run) (tick : ℕ → ℕ → ℕ) → IsEarliest run tick → IsLeastLength run (length_of run tick)
earliest-least run tick is = record {
  tick = tick;
  timetable = is.timetable;
  length_is = refl;
  least = λ other also. greatest-below _ _ run.count
      (λ p below. end_of-below (tick p) (other p) (length (run.moves p)) (is.earliest other also p));
}

pub end-within : (run : Run) (tick : ℕ → ℕ → ℕ) → IsTimetable run tick → (p : ℕ) → p < run.count → end_of_last run tick p ≤ length_of run tick
end-within run tick is p below =
    let above : end_of (tick p) (length (run.moves p)) ≤ length_of run tick =
    greatest-above (λ q. end_of (tick q) (length (run.moves q))) run.count p below in
    omega (arith, above, end_of-last run tick is p)

ends_where : (f : ℕ → ℕ) (n j : ℕ) → j ≤ suc n → (j ≤ n → f j + 1 ≤ end_of f n) → (j ≡ suc n) ⊎ (j ≡ suc n → ⊥) → f j + 1 ≤ end_of f (suc n)
ends_where f n j inside rest (inl here) = omega (arith, ap f here)
ends_where f n j inside rest (inr away) = let before = rest (omega arith) in omega (arith, before)

end_of-above : (f : ℕ → ℕ) (n j : ℕ) → 1 ≤ j → j ≤ n → f j + 1 ≤ end_of f n
end_of-above f zero j from_one inside = absurd (omega arith)
end_of-above f (suc n) j from_one inside =
    ends_where f n j inside (λ b. end_of-above f n j from_one b) (cases_eq j (suc n))

pub tick-within : (run : Run) (tick : ℕ → ℕ → ℕ) (p j : ℕ) → p < run.count → 1 ≤ j → j ≤ length (run.moves p) → tick p j + 1 ≤ length_of run tick
tick-within run tick p j below from_one inside =
    let above : end_of (tick p) (length (run.moves p)) ≤ length_of run tick =
    greatest-above (λ q. end_of (tick q) (length (run.moves q))) run.count p below in
    omega (arith, above, end_of-above (tick p) (length (run.moves p)) j from_one inside)

-- where no processor's last move ends so late, there are no moves
pub no_last : (run : Run) (tick : ℕ → ℕ → ℕ) → IsTimetable run tick → (t : ℕ) → length_of run tick ≡ t
    → ((p : ℕ) → p < run.count → end_of_last run tick p ≢ t) → t ≡ 0
no_last run tick is t length_is never =
    greatest-there (λ p. end_of (tick p) (length (run.moves p))) run.count t length_is
    (λ p below e. never p below (sym (end_of-last run tick is p) ∙ e))

module _ {run other : Run} {move : Move} (more : HasMore run other move) (tick : ℕ → ℕ → ℕ) (t : ℕ) where
  abbrev p : ℕ
  p = move.processor

  abbrev new_tick : ℕ → ℕ → ℕ
  new_tick = with_tick tick p (next_number run p) t

  here : end_of (new_tick p) (length (other.moves p)) ≡ max (end_of (tick p) (length (run.moves p))) (t + 1)
  here =
      let number : length (other.moves p) ≡ suc (length (run.moves p)) = omega (arith, length-made more) in
      ap (end_of (new_tick p)) number
      ∙ ap₂ max (end_of-same (new_tick p) (tick p) (length (run.moves p)) (λ j a b. with_tick-before tick p (next_number run p) t p j (omega arith)))
      (ap (λ n. n + 1) (with_tick-new tick p (next_number run p) t p (suc (length (run.moves p))) refl (omega arith)))

  away : (q : ℕ) → (q ≡ p → ⊥) → end_of (new_tick q) (length (other.moves q)) ≡ end_of (tick q) (length (run.moves q))
  away q other_one =
      ap (end_of (new_tick q)) (length-others more q other_one)
      ∙ end_of-same (new_tick q) (tick q) (length (run.moves q)) (λ j a b. with_tick-other tick p (next_number run p) t q j other_one)

  pub length-more : p < run.count → length_of other new_tick ≡ max (length_of run tick) (t + 1)
  length-more below =
      ap (greatest (λ q. end_of (new_tick q) (length (other.moves q)))) more.count
      ∙ greatest-one (λ q. end_of (tick q) (length (run.moves q))) (λ q. end_of (new_tick q) (length (other.moves q))) run.count p (t + 1) below here away
