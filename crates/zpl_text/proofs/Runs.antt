-- Runs of bytes that pass a test.
use Rattle.std.proofs.Common.{◌≡◌, ℕ, zero, suc, ◌<◌, ◌≤◌, Bool, true, get_or, List, [], ◌∷◌, ◌++◌}
use Rattle.std.proofs.Common.{length, take, drop, sym, subst, arith}
use Rattle.std.specs.List.{list_all, prefix_len}
use Rattle.std.proofs.lemmas.Bool.{and_parts, both_ways}
use Rattle.std.proofs.lemmas.List.{get_or-take}
use Rattle.std.proofs.lemmas.List.Folds.{length-prefix_len}
use Rattle.std.proofs.lemmas.List.Sums.{list_all-from_AllPass, prefix_len_passes, prefix_len_stops}
use Rattle.zpl_text.specs.Bytes.{FirstPasses}

-- a run that ends where no byte passes is no shorter than another front that passes
pub run_longest : (test : ℕ → Bool) (front after longer rest : List ℕ) → list_all test longer ≡ true
    → (FirstPasses test after → ⊥) → front ++ after ≡ longer ++ rest → length longer ≤ length front
run_longest test front after [] rest passes stops same = omega arith
run_longest test [] after (c ∷ longer) rest passes stops same =
    absurd (stops
    (subst (FirstPasses test) (sym same) (and_parts (test c) (list_all test longer) passes).0))
run_longest test (b ∷ front) after (c ∷ longer) rest passes stops same =
    let tails : front ++ after ≡ longer ++ rest = cc in
    let short = run_longest test front after longer rest
    (and_parts (test c) (list_all test longer) passes).1 stops tails in
    omega arith

-- the first byte behind a front
first_behind : (test : ℕ → Bool) (bytes : List ℕ) (n : ℕ) → FirstPasses test (drop n bytes)
    → (n < length bytes) × (test (get_or bytes n 0) ≡ true)
first_behind test [] zero passes = elim passes [ ]
first_behind test [] (suc n) passes = elim passes [ ]
first_behind test (b ∷ bytes) zero passes = (omega arith, passes)
first_behind test (b ∷ bytes) (suc n) passes = let more = first_behind test bytes n passes in
    (omega arith, more.1)

-- the longest run at the front passes, and what follows doesn't
pub run_passes : (test : ℕ → Bool) (bytes : List ℕ)
    → list_all test (take (prefix_len test bytes) bytes) ≡ true
run_passes test bytes =
    let n = prefix_len test bytes in
    list_all-from_AllPass test (take n bytes)
    (λ k d below.
    let within : k < n = omega (arith, length-prefix_len test bytes) in
    rw (get_or-take n bytes k d within) (prefix_len_passes test bytes k d within))

pub run_stops : (test : ℕ → Bool) (bytes : List ℕ)
    → FirstPasses test (drop (prefix_len test bytes) bytes) → ⊥
run_stops test bytes passes =
    let first = first_behind test bytes (prefix_len test bytes) passes in
    both_ways (test (get_or bytes (prefix_len test bytes) 0))
    (prefix_len_stops test bytes 0 first.0) first.1

-- where the first byte passes, there is a run
pub run_some : (test : ℕ → Bool) (bytes : List ℕ) → FirstPasses test bytes
    → 0 < prefix_len test bytes
run_some test [] passes = elim passes [ ]
run_some test (b ∷ bytes) passes = rw passes (omega arith)

pub FirstPasses-weaker : (test other : ℕ → Bool) (bytes : List ℕ)
    → ((b : ℕ) → test b ≡ true → other b ≡ true) → FirstPasses test bytes → FirstPasses other bytes
FirstPasses-weaker test other [] weaker passes = passes
FirstPasses-weaker test other (b ∷ bytes) weaker passes = weaker b passes
