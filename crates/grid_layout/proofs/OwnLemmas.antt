-- The own blocks that a layout keeps, one after another.
use Rattle.std.proofs.Common.{◌≡◌, refl, sym, ◌∙◌, ap, subst, arith, ℕ, zero, suc, ◌+◌, ◌<◌, ◌≤◌, List, [], ◌∷◌, ◌++◌, length, get_or, map}
use Rattle.std.specs.Prelude.{Some, slice_get}
use Rattle.std.proofs.lemmas.Option.{slice_get_within, get_or_from_slice_get}
use Rattle.grid_layout.specs.declared.blocks.Blocks.{Blocks}
use Rattle.grid_layout.specs.declared.boxes.ArrayBox.{ArrayBox}
use Rattle.grid_layout.specs.declared.own.OwnBlocks.{OwnBlocks}
use Rattle.grid_layout.specs.Grid.{processors_of}
use Rattle.grid_layout.specs.Layout.{blocks_of}
use Rattle.grid_layout.specs.Own.{IsKept, first_own, kept_at, own_blocks}
use Rattle.grid_layout.specs.Sides.{sides_of}
use Rattle.grid_layout.specs.Words.{numbers_from}
use Rattle.grid_layout.proofs.SizeLemmas.{numbers_more}

-- one processor more
pub first_own_more : (blocks : Blocks) (n : ℕ) → first_own blocks (n + 1) ≡ first_own blocks n ++ own_blocks blocks n ∷ []
first_own_more blocks n =
    let e : n + 1 ≡ suc n = omega arith in
    let same : 0 + n ≡ n = omega arith in
    ap (first_own blocks) e
    ∙ (ap (map (own_blocks blocks)) (numbers_more 0 n ∙ ap (λ m. numbers_from 0 n ++ m ∷ []) same)
    ∙ map-more (own_blocks blocks) (numbers_from 0 n) n)
  where
    map-more : {X Y : Type 0} (f : X → Y) (xs : List X) (x : X) → map f (xs ++ x ∷ []) ≡ map f xs ++ f x ∷ []
    map-more f [] x = refl
    map-more f (y ∷ xs) x = ap (λ zs. f y ∷ zs) (map-more f xs x)

-- and that of a processor
pub own_at : (blocks : Blocks) (n p : ℕ) → p < n → slice_get (first_own blocks n) p ≡ Some (own_blocks blocks p)
own_at blocks n p below = let e : 0 + p ≡ p = omega arith in among 0 n p below ∙ ap (λ m. Some (own_blocks blocks m)) e
  where
    among : (k n p : ℕ) → p < n → slice_get (map (own_blocks blocks) (numbers_from k n)) p ≡ Some (own_blocks blocks (k + p))
    among k zero p there = absurd (omega (arith, there))
    among k (suc n) zero there = let e : k ≡ k + 0 = omega arith in ap (λ m. Some (own_blocks blocks m)) e
    among k (suc n) (suc p) there = let e : suc k + p ≡ k + suc p = omega arith in among (suc k) n p (omega (arith, there)) ∙ ap (λ m. Some (own_blocks blocks m)) e

-- that of a rank
kept_own : (blocks : Blocks) (rank p : ℕ) → 1 ≤ rank → rank ≤ 3 → kept_at (own_blocks blocks p) rank ≡ sides_of blocks rank p
kept_own blocks zero p above below = absurd (omega (arith, above))
kept_own blocks (suc zero) p above below = refl
kept_own blocks (suc (suc zero)) p above below = refl
kept_own blocks (suc (suc (suc zero))) p above below = refl
kept_own blocks (suc (suc (suc (suc rank)))) p above below = absurd (omega (arith, below))

-- what is kept of a processor
pub kept_there : (blocks : Blocks) (boxes : List ArrayBox) (kept : List OwnBlocks) (p : ℕ) → IsKept blocks boxes kept → p < processors_of blocks.grid
    → p < length kept
kept_there blocks boxes kept p is below =
    subst (λ own. p < length own) (sym is.own)
    (slice_get_within (first_own blocks (processors_of blocks.grid)) p (own_blocks blocks p) (own_at blocks (processors_of blocks.grid) p below))

-- is that of the arrays
pub kept_is : (blocks : Blocks) (boxes : List ArrayBox) (kept : List OwnBlocks) (rank p : ℕ) (d : OwnBlocks) → IsKept blocks boxes kept
    → p < processors_of blocks.grid → 1 ≤ rank → rank ≤ 3
    → kept_at (get_or kept p d) rank ≡ sides_of (blocks_of blocks.grid boxes) rank p
kept_is blocks boxes kept rank p d is below low high =
    let found : slice_get kept p ≡ Some (own_blocks blocks p) =
    ap (λ own. slice_get own p) is.own ∙ own_at blocks (processors_of blocks.grid) p below in
    ap (λ own. kept_at own rank) (get_or_from_slice_get kept p (own_blocks blocks p) d found)
    ∙ (kept_own blocks rank p low high ∙ ap (λ (b : Blocks). sides_of b rank p) is.layout.are)
