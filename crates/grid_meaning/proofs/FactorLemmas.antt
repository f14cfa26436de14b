-- Grids by their factors.
use Rattle.std.proofs.Common.{◌≡◌, ℕ, zero, suc, ◌-◌, ◌≤◌, List, [], ◌∷◌, ◌++◌, length, drop, sym, ◌∙◌, refl, arith, rules}
use Rattle.std.specs.Prelude.{All, replicate, Result, Ok, Err, IsOk}
use Rattle.std.specs.Result.{OkIff}
use Rattle.std.proofs.lemmas.List.Elements.{All-nil, All-cons, All-head, All-tail}
use Rattle.node_form.specs.Grid.{IsGrid, factors_of, processors_of}
use Rattle.grid_layout.specs.Grid.{product}
use Rattle.grid_meaning.proofs.WorldLemmas.{fold-product}

pub factors_some : (grid : List ℕ) → All (λ factor. 1 ≤ factor) (factors_of grid)
factors_some [] = All-nil (λ factor. 1 ≤ factor)
factors_some (zero ∷ grid) = All-nil (λ factor. 1 ≤ factor)
factors_some (suc n ∷ grid) = All-cons (λ factor. 1 ≤ factor) (suc n) (factors_of grid) (omega arith) (factors_some grid)

pub product_few : (grid : List ℕ) → processors_of grid ≤ 64 → product (factors_of grid) ≤ 64
product_few grid few = let e = fold-product (factors_of grid) 1 in omega (arith, e)

padded : (grid : List ℕ) → length grid ≡ 3 → 1 ≤ length (factors_of grid) → All (λ factor. factor ≡ 0) (drop (length (factors_of grid)) grid) → factors_of grid ++ replicate (3 - length (factors_of grid)) 0 ≡ grid
padded (zero ∷ grid) n some absent = absurd (omega arith)
padded (suc a ∷ zero ∷ c ∷ []) n some absent =
    let last : c ≡ 0 = All-head (λ factor. factor ≡ 0) c [] (All-tail (λ factor. factor ≡ 0) 0 (c ∷ []) absent) in rw last refl
padded (suc a ∷ suc b ∷ zero ∷ []) n some absent = refl
padded (suc a ∷ suc b ∷ suc c ∷ []) n some absent = refl
padded (suc a ∷ b ∷ c ∷ d ∷ grid) n some absent = absurd (omega arith)
padded (suc a ∷ b ∷ []) n some absent = absurd (omega arith)
padded (suc a ∷ []) n some absent = absurd (omega arith)
padded [] n some absent = absurd (omega arith)

pub padded_is : (grid : List ℕ) → length grid ≡ 3 → IsGrid grid → factors_of grid ++ replicate (3 - length (factors_of grid)) 0 ≡ grid
padded_is grid n is = padded grid n is.some is.absent

-- ---- what is known of a call that is `Ok` just where something holds
pub ok_from : {V E : Type 0} (r : Result V E) (P : Type 0) (v : V) → OkIff r P v → P → IsOk r
ok_from (Ok x) P v iff holds = search rules
ok_from (Err e) P v iff holds = absurd (iff holds)

pub value_from : {V E : Type 0} (r : Result V E) (P : Type 0) (v x : V) → OkIff r P v → r ≡ Ok x → x ≡ v
value_from (Ok y) P v x iff e = let same : y ≡ x = cc in sym same ∙ iff.1
value_from (Err y) P v x iff e = absurd cc
