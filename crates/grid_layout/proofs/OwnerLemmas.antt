-- Which processor owns a tuple.
use Rattle.std.proofs.Common.{◌≡◌, ◌↔◌, refl, sym, ◌∙◌, ap, arith, ℕ, zero, suc, ◌+◌, ◌-◌, ◌*◌, ◌/◌, ◌%◌, ◌<◌, ◌≤◌, List, [], ◌∷◌, ◌++◌, length, replicate, All, ℤ}
use Rattle.std.proofs.lemmas.Nat.{le-div}
use Rattle.zpl_region.specs.Dim.{IsUpTo}
use Rattle.grid_layout.specs.declared.axes.Axis.{Axis}
use Rattle.grid_layout.specs.declared.blocks.Blocks.{Blocks}
use Rattle.grid_layout.specs.Block.{block_first, block_last, block_of}
use Rattle.grid_layout.specs.Grid.{blocks_at, cuts, cuts_of, factors_of, processor_at, processors_of, product}
use Rattle.grid_layout.specs.Layout.{AreBlocks, LiesBetween, axes_at, each_bound, own_first, own_last, owner_of, owning_blocks}
use Rattle.grid_layout.proofs.BlockLemmas.{block_below, block_holds, div_below_by, in_block}
use Rattle.grid_layout.proofs.ThreeLemmas.{index_below, le_product}

-- ---- cuts: three of them, none 0, and as many blocks as there are processors
abbrev pub EachSome : List ℕ → Type 0
EachSome [] = Unit {0}
EachSome (n ∷ ns) = (1 ≤ n) × EachSome ns

factors_some : (grid : List ℕ) → EachSome (factors_of grid)
factors_some [] = tt
factors_some (zero ∷ grid) = tt
factors_some (suc n ∷ grid) = (omega arith, factors_some grid)

pub some_product : (ns : List ℕ) → EachSome ns → 1 ≤ product ns
some_product [] some = omega arith
some_product (n ∷ ns) some =
    let first : 1 ≤ n = some.0 in
    let rest : 1 ≤ product ns = some_product ns some.1 in omega (arith, first, le_product n (product ns) rest)

cuts_some : (rank : ℕ) (fs : List ℕ) → EachSome fs → EachSome (cuts_of rank fs)
cuts_some zero fs some = tt
cuts_some (suc zero) fs some = (some_product fs some, tt)
cuts_some (suc (suc rank)) [] some = (omega arith, cuts_some (suc rank) [] tt)
cuts_some (suc (suc rank)) (n ∷ fs) some = (some.0, cuts_some (suc rank) fs some.1)

cuts_product : (rank : ℕ) (fs : List ℕ) → product (cuts_of (suc rank) fs) ≡ product fs
cuts_product zero fs = omega arith
cuts_product (suc rank) [] = let e : product (cuts_of (suc rank) []) ≡ 1 = cuts_product rank [] in omega (arith, e)
cuts_product (suc rank) (n ∷ fs) = ap (λ m. n * m) (cuts_product rank fs)

cuts_length : (rank : ℕ) (fs : List ℕ) → length (cuts_of rank fs) ≡ rank
cuts_length zero fs = refl
cuts_length (suc zero) fs = refl
cuts_length (suc (suc rank)) [] = ap suc (cuts_length (suc rank) [])
cuts_length (suc (suc rank)) (n ∷ fs) = ap suc (cuts_length (suc rank) fs)

ones : (ns : List ℕ) (k : ℕ) → product (ns ++ replicate k 1) ≡ product ns
ones [] zero = refl
ones [] (suc k) = let e : product (replicate k 1) ≡ 1 = ones [] k in omega (arith, e)
ones (n ∷ ns) k = ap (λ m. n * m) (ones ns k)

some_ones : (ns : List ℕ) (k : ℕ) → EachSome ns → EachSome (ns ++ replicate k 1)
some_ones [] zero some = tt
some_ones [] (suc k) some = (omega arith, some_ones [] k tt)
some_ones (n ∷ ns) k some = (some.0, some_ones ns k some.1)

length_ones : (ns : List ℕ) (k : ℕ) → length (ns ++ replicate k 1) ≡ length ns + k
length_ones [] zero = refl
length_ones [] (suc k) = let e = length_ones [] k in omega (arith, e)
length_ones (n ∷ ns) k = let e = length_ones ns k in omega (arith, e)

pub record AreCuts (grid : List ℕ) (rank : ℕ) : Type 0 where
  pub three : length (cuts grid rank) ≡ 3
  pub some : EachSome (cuts grid rank)
  pub count : product (cuts grid rank) ≡ processors_of grid

pub are_cuts : (grid : List ℕ) (rank : ℕ) → 1 ≤ rank → rank ≤ 3 → AreCuts grid rank
are_cuts grid zero above below = absurd (omega (arith, above))
are_cuts grid (suc rank) above below =
    let fs = factors_of grid in record {
      three = length_ones (cuts_of (suc rank) fs) (3 - suc rank) ∙ (ap (λ n. n + (3 - suc rank)) (cuts_length (suc rank) fs) ∙ omega (arith, below));
      some = some_ones (cuts_of (suc rank) fs) (3 - suc rank) (cuts_some (suc rank) fs (factors_some grid));
      count = ones (cuts_of (suc rank) fs) (3 - suc rank) ∙ cuts_product rank fs;
    }

-- ---- processors and their blocks
owner_below : (axes : List Axis) (ns : List ℕ) (t : List ℤ) → EachSome ns → processor_at ns (owning_blocks axes ns t) < product ns
owner_below axes [] t some = below_one axes t
  where
    below_one : (axes : List Axis) (t : List ℤ) → processor_at [] (owning_blocks axes [] t) < 1
    below_one axes t = omega arith
owner_below [] (n ∷ ns) t some = some_product (n ∷ ns) some
owner_below (axis ∷ axes) (n ∷ ns) [] some = some_product (n ∷ ns) some
owner_below (axis ∷ axes) (n ∷ ns) (x ∷ t) some =
    index_below (block_of axis n x) (processor_at ns (owning_blocks axes ns t)) n (product ns) (block_below axis n x some.0) (owner_below axes ns t some.1)

pub record IsDivided (p b r q : ℕ) : Type 0 where
  pub quotient : p / q ≡ b
  pub rest : p % q ≡ r

pub divided : (p b r q : ℕ) → p ≡ b * q + r → r < q → IsDivided p b r q
divided p b r q is below =
    let positive : 0 < q = omega (arith, below) in
    let high : p / q < suc b = div_below_by p q (suc b) positive (omega (arith, is, below)) in
    let low : b ≤ p / q = le-div b p q positive (omega (arith, is)) in
    let same : p / q ≡ b = omega (arith, high, low) in
    let split : p / q * q + p % q ≡ p = omega (arith, positive) in
    let back : b * q + p % q ≡ p = ap (λ m. m * q + p % q) (sym same) ∙ split in
    record { quotient = same; rest = omega (arith, back, is) }

later_up_to : (x : ℤ) (t : List ℤ) → All (IsUpTo 40) (x ∷ t) → All (IsUpTo 40) t
later_up_to x t each = λ k d h. each (suc k) d (omega (arith, h))

abbrev HasOwner : List Axis → List ℕ → ℕ → List ℤ → Type 0
HasOwner axes ns p t =
    LiesBetween (each_bound block_first axes ns (blocks_at ns p)) (each_bound block_last axes ns (blocks_at ns p)) t ↔ (p ≡ processor_at ns (owning_blocks axes ns t))

has_owner : (axes : List Axis) (ns : List ℕ) (p : ℕ) (t : List ℤ) → EachSome ns → length axes ≡ length ns → length t ≡ length ns → All (IsUpTo 40) t → p < product ns
    → HasOwner axes ns p t
has_owner [] [] p [] some l k each below = (λ _. omega (arith, below), λ _. tt)
has_owner (axis ∷ axes) [] p t some l k each below = absurd (omega (arith, l))
has_owner [] [] p (x ∷ t) some l k each below = absurd (omega (arith, k))
has_owner [] (n ∷ ns) p t some l k each below = absurd (omega (arith, l))
has_owner (axis ∷ axes) (n ∷ ns) p [] some l k each below = absurd (omega (arith, k))
has_owner (axis ∷ axes) (n ∷ ns) p (x ∷ t) some l k each below =
    let q = product ns in
    let r = processor_at ns (owning_blocks axes ns t) in
    let positive : 1 ≤ product ns = some_product ns some.1 in
    let here : p / product ns < n = div_below_by p (product ns) n positive below in
    let rest : p % product ns < product ns = omega (arith, positive) in
    let split : p / product ns * product ns + p % product ns ≡ p = omega (arith, positive) in
    let more : HasOwner axes ns (p % product ns) t = has_owner axes ns (p % product ns) t some.1 (omega (arith, l)) (omega (arith, k)) (later_up_to x t each) rest in
    let bounds : IsUpTo 40 x = each 0 x (omega arith) in (
      λ lies. sym (ap (λ m. m * product ns + r) (sym (in_block axis n (p / product ns) x here lies.0)) ∙ (ap (λ m. p / product ns * product ns + m) (sym (more.0 lies.1)) ∙ split)),
      λ is.
          let d : IsDivided p (block_of axis n x) r (product ns) = divided p (block_of axis n x) r (product ns) is (owner_below axes ns t some.1) in
          (block_holds axis n (p / product ns) x here bounds d.quotient, more.1 d.rest),
    )

pub axes_three : (blocks : Blocks) (rank : ℕ) → AreBlocks blocks → 1 ≤ rank → rank ≤ 3 → length (axes_at blocks rank) ≡ 3
axes_three blocks zero are above below = absurd (omega (arith, above))
axes_three blocks (suc zero) are above below = are.lines.0
axes_three blocks (suc (suc zero)) are above below = are.planes.0
axes_three blocks (suc (suc (suc zero))) are above below = are.spaces.0
axes_three blocks (suc (suc (suc (suc n)))) are above below = absurd (omega (arith, below))

pub one_owner : (blocks : Blocks) (rank p : ℕ) (t : List ℤ) → AreBlocks blocks → 1 ≤ rank → rank ≤ 3 → length t ≡ 3 → All (IsUpTo 40) t → p < processors_of blocks.grid
    → LiesBetween (own_first blocks rank p) (own_last blocks rank p) t ↔ (p ≡ owner_of blocks rank t)
one_owner blocks rank p t are above below l each processor =
    let c : AreCuts blocks.grid rank = are_cuts blocks.grid rank above below in
    let three = c.three in
    let count = c.count in
    has_owner (axes_at blocks rank) (cuts blocks.grid rank) p t c.some (axes_three blocks rank are above below ∙ sym c.three) (l ∙ sym c.three) each (omega (arith, count, processor))

pub owner_is_one : (blocks : Blocks) (rank : ℕ) (t : List ℤ) → 1 ≤ rank → rank ≤ 3 → owner_of blocks rank t < processors_of blocks.grid
owner_is_one blocks rank t above below =
    let c : AreCuts blocks.grid rank = are_cuts blocks.grid rank above below in
    let count = c.count in
    let h = owner_below (axes_at blocks rank) (cuts blocks.grid rank) t c.some in omega (arith, h, count)
