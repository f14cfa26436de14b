-- Stages with partners whose numbers follow one another.
use Rattle.std.proofs.Common.{◌≡◌, ℕ, zero, suc, ◌+◌, ◌<◌, ◌≤◌, List, [], ◌∷◌, ◌++◌, length, map, ap, ◌∙◌, arith}
use Rattle.std.specs.Prelude.{Some, slice_get}
use Rattle.std.specs.List.{range_with_len}

module _ {A : Type 0} (f : ℕ → A) (rest : List A) where
  pub range_at : (from many k : ℕ) → k < many → slice_get (map f (range_with_len from many) ++ rest) k ≡ Some (f (from + k))
  range_at from zero k few = absurd (omega arith)
  range_at from (suc many) zero few = let same : from ≡ from + 0 = omega arith in ap (λ n. Some (f n)) same
  range_at from (suc many) (suc k) few =
      let same : from + 1 + k ≡ from + suc k = omega arith in
      range_at (from + 1) many k (omega arith) ∙ ap (λ n. Some (f n)) same

  pub range_past : (from many k : ℕ) → slice_get (map f (range_with_len from many) ++ rest) (many + k) ≡ slice_get rest k
  range_past from zero k = let same : 0 + k ≡ k = omega arith in ap (slice_get rest) same
  range_past from (suc many) k =
      let same : suc many + k ≡ suc (many + k) = omega arith in
      ap (slice_get (f from ∷ (map f (range_with_len (from + 1) many) ++ rest))) same ∙ range_past (from + 1) many k

  pub length-range : (from many : ℕ) → length (map f (range_with_len from many) ++ rest) ≡ many + length rest
  length-range from zero = omega arith
  length-range from (suc many) =
      let behind = length-range (from + 1) many in
      omega arith

-- the last of some stages
pub last_at : {A : Type 0} (f : ℕ → A) (last : A) (from many k : ℕ) → many ≤ k
    → k < length (map f (range_with_len from many) ++ last ∷ [])
    → slice_get (map f (range_with_len from many) ++ last ∷ []) k ≡ Some last
last_at f last from many k past within =
    let same : k ≡ many + 0 = omega (arith, length-range f (last ∷ []) from many) in
    ap (slice_get (map f (range_with_len from many) ++ last ∷ [])) same ∙ range_past f (last ∷ []) from many 0
