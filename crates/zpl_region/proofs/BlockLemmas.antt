-- Lemmas on blocks along each dimension.
use Rattle.std.proofs.Common.{◌≡◌, ℕ, ◌+◌, ◌*◌, Bool, true, false, cond, ◌&&◌, List, [], ◌∷◌, ◌++◌, map, ℤ, refl, sym, ◌∙◌, ap, arith, IsPermutation}
use Rattle.std.specs.List.{AllZip, count_by, filter, flat_map}
use Rattle.std.proofs.lemmas.List.Elements.{All-contains}
use Rattle.std.proofs.lemmas.List.Sums.{sum_by-append, sum_by-cons}
use Rattle.zpl_region.specs.declared.dims.Dim.{Dim}
use Rattle.zpl_region.specs.declared.regions.Region.{Region}
use Rattle.zpl_region.specs.Blocks.{Block, InOneBlock, block_has, choices, each_has}
use Rattle.zpl_region.specs.Dim.{coordinates}
use Rattle.zpl_region.specs.Region.{members}
use Rattle.zpl_region.proofs.ListLemmas.{Among, Contains-from_among, all_from_among}
use Rattle.zpl_region.proofs.LawLemmas.{parts_partition}
use Rattle.zpl_region.proofs.TupleLemmas.{among_tuples}

count-append : {X : Type 0} (p : X → Bool) (xs ys : List X) → count_by p (xs ++ ys) ≡ count_by p xs + count_by p ys
count-append p xs ys = sum_by-append (λ x. cond (p x) 1 0) xs ys

count-cons : {X : Type 0} (p : X → Bool) (x : X) (xs : List X) → count_by p (x ∷ xs) ≡ cond (p x) 1 0 + count_by p xs
count-cons p x xs = sum_by-cons (λ y. cond (p y) 1 0) x xs

-- of the choices that go on from a block, those that have a tuple
count-line : (b : Block) (d : Dim) (dims : List Dim) (x : ℤ) (t : List ℤ) (ms : List (List Block))
    → count_by (λ bs. each_has bs (d ∷ dims) (x ∷ t)) (map (λ u. b ∷ u) ms) ≡ cond (block_has b d x) 1 0 * count_by (λ bs. each_has bs dims t) ms
count-line b d dims x t [] = sym (ap (λ n. cond (block_has b d x) 1 0 * n) refl ∙ omega arith)
count-line b d dims x t (m ∷ ms) =
    count-cons (λ bs. each_has bs (d ∷ dims) (x ∷ t)) (b ∷ m) (map (λ u. b ∷ u) ms)
    ∙ (ap (λ n. cond (block_has b d x && each_has m dims t) 1 0 + n) (count-line b d dims x t ms)
    ∙ (by_test (block_has b d x) (each_has m dims t) (count_by (λ bs. each_has bs dims t) ms)
    ∙ ap (λ n. cond (block_has b d x) 1 0 * n) (sym (count-cons (λ bs. each_has bs dims t) m ms))))
  where
    by_test : (p q : Bool) (n : ℕ) → cond (p && q) 1 0 + cond p 1 0 * n ≡ cond p 1 0 * (cond q 1 0 + n)
    by_test true q n = omega arith
    by_test false q n = omega arith

count-lines : (blocks : List Block) (d : Dim) (dims : List Dim) (x : ℤ) (t : List ℤ) (ms : List (List Block))
    → count_by (λ bs. each_has bs (d ∷ dims) (x ∷ t)) (flat_map (λ b. map (λ u. b ∷ u) ms) blocks) ≡ count_by (λ b. block_has b d x) blocks * count_by (λ bs. each_has bs dims t) ms
count-lines [] d dims x t ms = omega arith
count-lines (b ∷ blocks) d dims x t ms =
    count-append (λ bs. each_has bs (d ∷ dims) (x ∷ t)) (map (λ u. b ∷ u) ms) (flat_map (λ b. map (λ u. b ∷ u) ms) blocks)
    ∙ (ap (λ n. n + count_by (λ bs. each_has bs (d ∷ dims) (x ∷ t)) (flat_map (λ b. map (λ u. b ∷ u) ms) blocks)) (count-line b d dims x t ms)
    ∙ (ap (λ n. cond (block_has b d x) 1 0 * count_by (λ bs. each_has bs dims t) ms + n) (count-lines blocks d dims x t ms)
    ∙ (sums (cond (block_has b d x) 1 0) (count_by (λ b. block_has b d x) blocks) (count_by (λ bs. each_has bs dims t) ms)
    ∙ ap (λ n. n * count_by (λ bs. each_has bs dims t) ms) (sym (count-cons (λ b. block_has b d x) b blocks)))))
  where
    sums : (i j n : ℕ) → i * n + j * n ≡ (i + j) * n
    sums i j n = omega arith

in_one_choice : (grid : List (List Block)) (dims : List Dim) (t : List ℤ) → AllZip InOneBlock grid dims → AllZip Among (map coordinates dims) t
    → count_by (λ bs. each_has bs dims t) (choices grid) ≡ 1
in_one_choice [] [] t one z = refl
in_one_choice [] (d ∷ dims) t one z = absurd one
in_one_choice (blocks ∷ grid) [] t one z = absurd one
in_one_choice (blocks ∷ grid) (d ∷ dims) [] one z = absurd z
in_one_choice (blocks ∷ grid) (d ∷ dims) (x ∷ t) one z =
    let here : count_by (λ b. block_has b d x) blocks ≡ 1 = All-contains (λ y. count_by (λ b. block_has b d y) blocks ≡ 1) (coordinates d) x one.0 (Contains-from_among (coordinates d) x z.0) in
    let there : count_by (λ bs. each_has bs dims t) (choices grid) ≡ 1 = in_one_choice grid dims t one.1 z.1 in
    count-lines blocks d dims x t (choices grid)
    ∙ (ap (λ n. n * count_by (λ bs. each_has bs dims t) (choices grid)) here ∙ (ap (λ n. 1 * n) there ∙ refl))

pub grid_partitions : (r : Region) (grid : List (List Block)) → AllZip InOneBlock grid r.dims
    → IsPermutation (members r) (flat_map (λ bs. filter (each_has bs r.dims) (members r)) (choices grid))
grid_partitions r grid one =
    parts_partition (λ bs t. each_has bs r.dims t) (choices grid) (members r)
    (all_from_among (λ t. count_by (λ bs. each_has bs r.dims t) (choices grid) ≡ 1) (members r) (λ t m. in_one_choice grid r.dims t one (among_tuples (map coordinates r.dims) t m)))
