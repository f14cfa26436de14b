-- Lists of three: one element for each dimension.
use Rattle.std.proofs.Common.{◌≡◌, refl, sym, ◌∙◌, ap, arith, ℕ, zero, suc, ◌+◌, ◌*◌, ◌/◌, ◌%◌, ◌<◌, ◌≤◌, List, [], ◌∷◌, length, get_or, All, ℤ, pos}
use Rattle.std.specs.List.{AllZip}
use Rattle.std.proofs.Math.Nat.{mul-le-mul_right}
use Rattle.zpl_region.specs.declared.dims.Dim.{Dim}
use Rattle.grid_layout.specs.declared.axes.Axis.{Axis}
use Rattle.grid_layout.specs.Block.{block_of}
use Rattle.grid_layout.specs.Grid.{product, processor_at}
use Rattle.grid_layout.specs.Layout.{each_held, held_dim, owning_blocks}
use Rattle.grid_layout.specs.Piece.{each_needed, each_owned, needed_dim, owned_dim}
use Rattle.grid_layout.proofs.BlockLemmas.{div_below_by}

pub by_three : {X : Type 0} (P : List X → Type 0) (xs : List X) → length xs ≡ 3 → ((a b c : X) → P (a ∷ b ∷ c ∷ [])) → P xs
by_three P [] l h = absurd (omega arith)
by_three P (a ∷ []) l h = absurd (omega arith)
by_three P (a ∷ b ∷ []) l h = absurd (omega arith)
by_three P (a ∷ b ∷ c ∷ []) l h = h a b c
by_three P (a ∷ b ∷ c ∷ d ∷ xs) l h = absurd (omega arith)

pub three_same : {X : Type 0} (x y z a b c : X) → x ≡ a → y ≡ b → z ≡ c → x ∷ y ∷ z ∷ [] ≡ a ∷ b ∷ c ∷ []
three_same x y z a b c p q r = ap (λ t. t ∷ y ∷ z ∷ []) p ∙ (ap (λ t. a ∷ t ∷ z ∷ []) q ∙ ap (λ t. a ∷ b ∷ t ∷ []) r)

-- ---- products of three factors
pub le_product : (a n : ℕ) → 1 ≤ n → a ≤ a * n
le_product a zero some = absurd (omega (arith, some))
le_product a (suc n) some = omega arith

pub record AreFew (a b c : ℕ) : Type 0 where
  pub first : a ≤ 64
  pub rest : b * c ≤ 64
  pub second : b ≤ 64
  pub third : c ≤ 64

pub are_few : (a b c : ℕ) → 1 ≤ a → 1 ≤ b → 1 ≤ c → a * (b * c) ≤ 64 → AreFew a b c
are_few a b c p q r few =
    let some : 1 ≤ b * c = omega (arith, le_product b c r, q) in
    let first : a ≤ a * (b * c) = le_product a (b * c) some in
    let swap : a * (b * c) ≡ b * c * a = omega arith in
    let rest : b * c ≤ b * c * a = le_product (b * c) a p in
    let other : b * c ≡ c * b = omega arith in
    record {
      first = omega (arith, first, few);
      rest = omega (arith, rest, swap, few);
      second = omega (arith, le_product b c r, rest, swap, few);
      third = omega (arith, le_product c b q, other, rest, swap, few);
    }

pub product_of : (cs : List ℕ) → length cs ≡ 3 → product cs ≡ get_or cs 0 0 * (get_or cs 1 0 * get_or cs 2 0)
product_of cs l = by_three (λ cs. product cs ≡ get_or cs 0 0 * (get_or cs 1 0 * get_or cs 2 0)) cs l (λ a b c. omega arith)

pub few_of : (cs : List ℕ) → length cs ≡ 3 → All (λ n. 1 ≤ n) cs → product cs ≤ 64 → AreFew (get_or cs 0 0) (get_or cs 1 0) (get_or cs 2 0)
few_of cs l some few =
    are_few (get_or cs 0 0) (get_or cs 1 0) (get_or cs 2 0) (some 0 0 (omega arith)) (some 1 0 (omega arith)) (some 2 0 (omega arith)) (let e = product_of cs l in omega (arith, e, few))

-- ---- numbers of blocks
pub index_below : (a b m n : ℕ) → a < m → b < n → a * n + b < m * n
index_below a b m n p q = let more : suc a * n ≤ m * n = mul-le-mul_right n p in omega (arith, more, q)

pub index_of_three : (a b c m n k : ℕ) → a < m → b < n → c < k → (a * n + b) * k + c < m * (n * k)
index_of_three a b c m n k p q r =
    let e : m * n * k ≡ m * (n * k) = omega arith in
    let h = index_below (a * n + b) c (m * n) k (index_below a b m n p q) r in omega (arith, h, e)

pub record IsIndex (a b c m n k : ℕ) : Type 0 where
  pub pair : a * n + b ≤ 64
  pub scaled : (a * n + b) * k ≤ 64
  pub whole : (a * n + b) * k + c ≤ 64

pub index_of : (a b c m n k : ℕ) → a < m → b < n → c < k → m * (n * k) ≤ 64 → IsIndex a b c m n k
index_of a b c m n k p q r few =
    let h = index_of_three a b c m n k p q r in
    let g = le_product (a * n + b) k (omega (arith, r)) in
    record { pair = omega (arith, h, g, few); scaled = omega (arith, h, few); whole = omega (arith, h, few) }

pub blocks_below : (cs : List ℕ) (p : ℕ) → length cs ≡ 3 → All (λ n. 1 ≤ n) cs → p < product cs
    → AllZip ◌<◌ (p / (get_or cs 1 0 * get_or cs 2 0) ∷ p % (get_or cs 1 0 * get_or cs 2 0) / get_or cs 2 0 ∷ p % (get_or cs 1 0 * get_or cs 2 0) % get_or cs 2 0 ∷ []) cs
blocks_below cs p l some below =
    by_three (λ cs. All (λ n. 1 ≤ n) cs → p < product cs
    → AllZip ◌<◌ (p / (get_or cs 1 0 * get_or cs 2 0) ∷ p % (get_or cs 1 0 * get_or cs 2 0) / get_or cs 2 0 ∷ p % (get_or cs 1 0 * get_or cs 2 0) % get_or cs 2 0 ∷ []) cs) cs l
    (λ a b c some below.
    let q : 1 ≤ b = some 1 0 (omega arith) in
    let r : 1 ≤ c = some 2 0 (omega arith) in
    let positive : 1 ≤ b * c = omega (arith, le_product b c r, q) in
    let rest : p % (b * c) < b * c = omega (arith, positive) in
    (div_below_by p (b * c) a positive (omega (arith, below)), (div_below_by (p % (b * c)) c b r rest, (omega (arith, r), tt))))
    some below

pub owner_told : (axes : List Axis) (ns : List ℕ) (t : List ℤ) (e : Axis) (a b c : ℕ) → length axes ≡ 3 → length ns ≡ 3 → length t ≡ 3
    → a ≡ block_of (get_or axes 0 e) (get_or ns 0 0) (get_or t 0 (pos 0)) → b ≡ block_of (get_or axes 1 e) (get_or ns 1 0) (get_or t 1 (pos 0))
    → c ≡ block_of (get_or axes 2 e) (get_or ns 2 0) (get_or t 2 (pos 0))
    → (a * get_or ns 1 0 + b) * get_or ns 2 0 + c ≡ processor_at ns (owning_blocks axes ns t)
owner_told axes ns t e a b c l k m =
    by_three (λ axes. a ≡ block_of (get_or axes 0 e) (get_or ns 0 0) (get_or t 0 (pos 0)) → b ≡ block_of (get_or axes 1 e) (get_or ns 1 0) (get_or t 1 (pos 0))
    → c ≡ block_of (get_or axes 2 e) (get_or ns 2 0) (get_or t 2 (pos 0)) → (a * get_or ns 1 0 + b) * get_or ns 2 0 + c ≡ processor_at ns (owning_blocks axes ns t)) axes l
    (λ x y z. by_three (λ ns. a ≡ block_of x (get_or ns 0 0) (get_or t 0 (pos 0)) → b ≡ block_of y (get_or ns 1 0) (get_or t 1 (pos 0)) → c ≡ block_of z (get_or ns 2 0) (get_or t 2 (pos 0))
    → (a * get_or ns 1 0 + b) * get_or ns 2 0 + c ≡ processor_at ns (owning_blocks (x ∷ y ∷ z ∷ []) ns t)) ns k
    (λ i j n. by_three (λ t. a ≡ block_of x i (get_or t 0 (pos 0)) → b ≡ block_of y j (get_or t 1 (pos 0)) → c ≡ block_of z n (get_or t 2 (pos 0))
    → (a * j + b) * n + c ≡ processor_at (i ∷ j ∷ n ∷ []) (owning_blocks (x ∷ y ∷ z ∷ []) (i ∷ j ∷ n ∷ []) t)) t m
    (λ u v w p q r. sums a b c j n (block_of x i u) (block_of y j v) (block_of z n w) p q r)))
  where
    sums : (a b c j n a' b' c' : ℕ) → a ≡ a' → b ≡ b' → c ≡ c' → (a * j + b) * n + c ≡ a' * (j * (n * 1)) + (b' * (n * 1) + (c' * 1 + 0))
    sums a b c j n a' b' c' p q r = rw (p, q, r) (omega arith)

-- ---- one list for each argument
abbrev pub three : {X : Type 0} → List X → X → List X
three xs e = get_or xs 0 e ∷ get_or xs 1 e ∷ get_or xs 2 e ∷ []

pub rebuilt : {X : Type 0} (xs : List X) (e : X) → length xs ≡ 3 → xs ≡ three xs e
rebuilt xs e l = by_three (λ xs. xs ≡ three xs e) xs l (λ a b c. refl)

pub helds_told : (axes : List Axis) (ns cs : List ℕ) (lows highs : List ℤ) (dims : List Dim) (e : Axis) (d : Dim) (x y z : Dim)
    → length axes ≡ 3 → length ns ≡ 3 → length cs ≡ 3 → length lows ≡ 3 → length highs ≡ 3 → length dims ≡ 3
    → x ≡ held_dim (get_or axes 0 e) (get_or ns 0 0) (get_or cs 0 0) (get_or lows 0 (pos 0)) (get_or highs 0 (pos 0)) (get_or dims 0 d)
    → y ≡ held_dim (get_or axes 1 e) (get_or ns 1 0) (get_or cs 1 0) (get_or lows 1 (pos 0)) (get_or highs 1 (pos 0)) (get_or dims 1 d)
    → z ≡ held_dim (get_or axes 2 e) (get_or ns 2 0) (get_or cs 2 0) (get_or lows 2 (pos 0)) (get_or highs 2 (pos 0)) (get_or dims 2 d)
    → x ∷ y ∷ z ∷ [] ≡ each_held axes ns cs lows highs dims
helds_told axes ns cs lows highs dims e d x y z la ln lc ll lh ld p q r =
    three_same x y z _ _ _ p q r
    ∙ sym (ap (λ l. each_held l ns cs lows highs dims) (rebuilt axes e la)
    ∙ (ap (λ l. each_held (three axes e) l cs lows highs dims) (rebuilt ns 0 ln)
    ∙ (ap (λ l. each_held (three axes e) (three ns 0) l lows highs dims) (rebuilt cs 0 lc)
    ∙ (ap (λ l. each_held (three axes e) (three ns 0) (three cs 0) l highs dims) (rebuilt lows (pos 0) ll)
    ∙ (ap (λ l. each_held (three axes e) (three ns 0) (three cs 0) (three lows (pos 0)) l dims) (rebuilt highs (pos 0) lh)
    ∙ ap (λ l. each_held (three axes e) (three ns 0) (three cs 0) (three lows (pos 0)) (three highs (pos 0)) l) (rebuilt dims d ld))))))

pub needs_told : (axes : List Axis) (ns cs : List ℕ) (helds : List Dim) (v : List ℤ) (dims : List Dim) (e : Axis) (d : Dim) (x y z : Dim)
    → length axes ≡ 3 → length ns ≡ 3 → length cs ≡ 3 → length helds ≡ 3 → length v ≡ 3 → length dims ≡ 3
    → x ≡ needed_dim (get_or axes 0 e) (get_or ns 0 0) (get_or cs 0 0) (get_or helds 0 d) (get_or v 0 (pos 0)) (get_or dims 0 d)
    → y ≡ needed_dim (get_or axes 1 e) (get_or ns 1 0) (get_or cs 1 0) (get_or helds 1 d) (get_or v 1 (pos 0)) (get_or dims 1 d)
    → z ≡ needed_dim (get_or axes 2 e) (get_or ns 2 0) (get_or cs 2 0) (get_or helds 2 d) (get_or v 2 (pos 0)) (get_or dims 2 d)
    → x ∷ y ∷ z ∷ [] ≡ each_needed axes ns cs helds v dims
needs_told axes ns cs helds v dims e d x y z la ln lc lh lv ld p q r =
    three_same x y z _ _ _ p q r
    ∙ sym (ap (λ l. each_needed l ns cs helds v dims) (rebuilt axes e la)
    ∙ (ap (λ l. each_needed (three axes e) l cs helds v dims) (rebuilt ns 0 ln)
    ∙ (ap (λ l. each_needed (three axes e) (three ns 0) l helds v dims) (rebuilt cs 0 lc)
    ∙ (ap (λ l. each_needed (three axes e) (three ns 0) (three cs 0) l v dims) (rebuilt helds d lh)
    ∙ (ap (λ l. each_needed (three axes e) (three ns 0) (three cs 0) (three helds d) l dims) (rebuilt v (pos 0) lv)
    ∙ ap (λ l. each_needed (three axes e) (three ns 0) (three cs 0) (three helds d) (three v (pos 0)) l) (rebuilt dims d ld))))))

pub owns_told : (axes : List Axis) (ns cs ks : List ℕ) (dims : List Dim) (e : Axis) (d : Dim) (x y z : Dim)
    → length axes ≡ 3 → length ns ≡ 3 → length cs ≡ 3 → length ks ≡ 3 → length dims ≡ 3
    → x ≡ owned_dim (get_or axes 0 e) (get_or ns 0 0) (get_or cs 0 0) (get_or ks 0 0) (get_or dims 0 d)
    → y ≡ owned_dim (get_or axes 1 e) (get_or ns 1 0) (get_or cs 1 0) (get_or ks 1 0) (get_or dims 1 d)
    → z ≡ owned_dim (get_or axes 2 e) (get_or ns 2 0) (get_or cs 2 0) (get_or ks 2 0) (get_or dims 2 d)
    → x ∷ y ∷ z ∷ [] ≡ each_owned axes ns cs ks dims
owns_told axes ns cs ks dims e d x y z la ln lc lk ld p q r =
    three_same x y z _ _ _ p q r
    ∙ sym (ap (λ l. each_owned l ns cs ks dims) (rebuilt axes e la)
    ∙ (ap (λ l. each_owned (three axes e) l cs ks dims) (rebuilt ns 0 ln)
    ∙ (ap (λ l. each_owned (three axes e) (three ns 0) l ks dims) (rebuilt cs 0 lc)
    ∙ (ap (λ l. each_owned (three axes e) (three ns 0) (three cs 0) l dims) (rebuilt ks 0 lk)
    ∙ ap (λ l. each_owned (three axes e) (three ns 0) (three cs 0) (three ks 0) l) (rebuilt dims d ld)))))
