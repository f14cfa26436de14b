-- The scan on a processor's block is the definition's scan at its tuples.
use Rattle.std.proofs.Common.{◌≡◌, ℕ, zero, suc, ◌+◌, ◌-◌, ◌*◌, ◌%◌, ◌<◌, ◌≤◌, ◌⊎◌, inl, inr, Bool, true, false, cond, not, ◌&&◌, Option, Some, None, slice_get, List, [], ◌∷◌, ◌++◌, All, map, drop, replicate, length, get_or, ℤ, pos, ◌<ℤ◌, IsPermutation, refl, sym, ◌∙◌, ap, subst, arith}
use Rattle.std.specs.Prelude.{◌==◌, if◌then◌else◌}
use Rattle.std.specs.List.{AllZip, filter, flat_map, zip}
use Rattle.std.specs.Ordering.{int_eq}
use Rattle.std.proofs.lemmas.Bool.Decides.{Decides-int_eq, nat_tests}
use Rattle.std.proofs.lemmas.Int.{ints}
use Rattle.std.proofs.lemmas.Nat.{mod_below}
use Rattle.zpl_region.specs.Ends.{coordinate_count, first_of, tuple_count}
use Rattle.zpl_region.proofs.EndLemmas.{length-tuple_count}
use Rattle.zpl_arrays.specs.Array.{place_among}
use Rattle.zpl_arrays.proofs.ArrayLemmas.{place_of_tuple}
use Rattle.grid_layout.specs.Grid.{product}
use Rattle.grid_layout.specs.Words.{numbers_from}
use Rattle.grid_layout.proofs.BlockLemmas.{div_below_by}
use Rattle.grid_layout.proofs.OwnerLemmas.{EachSome, some_product}
use Rattle.std.specs.Int.RustNames.{int_lt}
use Rattle.std.proofs.lemmas.Bool.{and_parts}
use Rattle.std.proofs.lemmas.List.Elements.{All-head, All-tail}
use Rattle.zpl_nums.specs.declared.folds.Fold.{Fold}
use Rattle.zpl_nums.specs.Fold.{folded, joined}
use Rattle.zpl_arrays.specs.Row.{kept_values}
use Rattle.zpl_region.specs.declared.dims.Dim.{Dim}
use Rattle.zpl_region.specs.declared.dims.Dim.TheVariants.{Range, Flood}
use Rattle.zpl_region.specs.declared.regions.Region.{Region}
use Rattle.zpl_region.specs.Dim.{HasBounds, HasStep, IsCoordinate, IsDim, coordinates}
use Rattle.zpl_region.specs.Region.{IsMember, IsRegion, is_before, members, padding, tuples}
use Rattle.zpl_region.specs.Tests.{are_coordinates, is_coordinate, is_member}
use Rattle.zpl_region.proofs.DimLemmas.{Among-coordinates, Rises-coordinates, among_coordinates}
use Rattle.zpl_region.proofs.HullLemmas.{has_steps}
use Rattle.zpl_region.proofs.LawLemmas.{members_iff}
use Rattle.zpl_region.proofs.ListLemmas.{Among, Among-filter, Contains-from_among, Rises-filter, among_filtered, among_mapped, cons_same, same_ascending}
use Rattle.zpl_region.proofs.TestLemmas.{is_coordinate_iff, is_member_iff}
use Rattle.zpl_region.proofs.TupleLemmas.{filter-tuples}
use Rattle.zpl_arrays.specs.Fold.{kept_fold}
use Rattle.zpl_arrays.specs.Scan.{is_up_along}
use Rattle.grid_layout.specs.declared.axes.Axis.{Axis}
use Rattle.grid_layout.specs.declared.blocks.Blocks.{Blocks}
use Rattle.grid_layout.specs.Grid.{blocks_at, cuts, processors_of}
use Rattle.grid_layout.specs.Layout.{AreBlocks, axes_at}
use Rattle.grid_layout.specs.Piece.{each_owned, nothing, owned_dim, owned_part}
use Rattle.grid_layout.specs.Words.{processors}
use Rattle.grid_layout.proofs.OwnerLemmas.{AreCuts, are_cuts, axes_three}
use Rattle.grid_layout.proofs.PartLemmas.{parts_of_owners}
use Rattle.scan_plan.specs.Line.{fold_at, head_of, heads, is_along, line_dim, masked, totals_of, value_at}
use Rattle.scan_plan.specs.Scan.{LineTotal, before, block_scan, lines_of, parts_of, precedes, scan_at, whole_scan}
use Rattle.scan_plan.proofs.BlockLemmas.{blocks_in_order, heads_along, heads_order, line_order, other_lines, owned_step, owned_within}
use Rattle.scan_plan.proofs.LineLemmas.{as_long, line_dim_below, same_from_test}
use Rattle.scan_plan.proofs.OwnedLemmas.{owned_region}
use Rattle.scan_plan.proofs.StepLemmas.{no_heads, up_along_is}
use Rattle.scan_plan.proofs.WholeLemmas.{CountsBy, on_own_line, own_line_part, scan_in_two, through, whole_that_counts}

-- ---- the tuples of a part are those of the region that lie in it
coordinates-owned : (axis : Axis) (n c k : ℕ) (d : Dim) → HasStep d → coordinates (owned_dim axis n c k d) ≡ filter (is_coordinate (owned_dim axis n c k d)) (coordinates d)
coordinates-owned axis n c k d h =
    let part = owned_dim axis n c k d in
    let step = owned_step axis n c k d h in
    same_ascending (coordinates part) (filter (is_coordinate part) (coordinates d)) (Rises-coordinates part) (Rises-filter ◌<ℤ◌ (is_coordinate part) (coordinates d) (Rises-coordinates d))
    (λ x m.
    let here = among_coordinates part x step m in
    Among-filter (is_coordinate part) (coordinates d) x (Among-coordinates d x h (owned_within axis n c k d x here)) ((is_coordinate_iff part x step).1 here))
    (λ x m. let w = among_filtered (is_coordinate part) (coordinates d) x m in Among-coordinates part x step ((is_coordinate_iff part x step).0 w.1))

tuples-owned : (axes : List Axis) (ns cs ks : List ℕ) (dims : List Dim) → length axes ≡ length dims → length ns ≡ length dims → length cs ≡ length dims → length ks ≡ length dims → All HasStep dims
    → tuples (map coordinates (each_owned axes ns cs ks dims)) ≡ filter (are_coordinates (each_owned axes ns cs ks dims)) (tuples (map coordinates dims))
tuples-owned [] [] [] [] [] l m n o h = refl
tuples-owned (a ∷ axes) ns cs ks [] l m n o h = absurd (omega (arith, l))
tuples-owned [] (i ∷ ns) cs ks [] l m n o h = absurd (omega (arith, m))
tuples-owned [] [] (c ∷ cs) ks [] l m n o h = absurd (omega (arith, n))
tuples-owned [] [] [] (k ∷ ks) [] l m n o h = absurd (omega (arith, o))
tuples-owned [] ns cs ks (d ∷ dims) l m n o h = absurd (omega (arith, l))
tuples-owned (a ∷ axes) [] cs ks (d ∷ dims) l m n o h = absurd (omega (arith, m))
tuples-owned (a ∷ axes) (i ∷ ns) [] ks (d ∷ dims) l m n o h = absurd (omega (arith, n))
tuples-owned (a ∷ axes) (i ∷ ns) (c ∷ cs) [] (d ∷ dims) l m n o h = absurd (omega (arith, o))
tuples-owned (a ∷ axes) (i ∷ ns) (c ∷ cs) (k ∷ ks) (d ∷ dims) l m n o h =
    ap (λ xs. tuples (xs ∷ map coordinates (each_owned axes ns cs ks dims))) (coordinates-owned a i c k d (All-head HasStep d dims h))
    ∙ sym (filter-tuples (is_coordinate (owned_dim a i c k d)) (are_coordinates (each_owned axes ns cs ks dims)) (are_coordinates (each_owned (a ∷ axes) (i ∷ ns) (c ∷ cs) (k ∷ ks) (d ∷ dims))) (λ x t. refl)
    (coordinates d) (map coordinates dims) (map coordinates (each_owned axes ns cs ks dims)) (tuples-owned axes ns cs ks dims (omega (arith, l)) (omega (arith, m)) (omega (arith, n)) (omega (arith, o)) (All-tail HasStep d dims h)))

blocks_length : (ns : List ℕ) (p : ℕ) → length (blocks_at ns p) ≡ length ns
blocks_length [] p = refl
blocks_length (n ∷ ns) p = ap suc (blocks_length ns _)

-- ---- one dimension of a part
owned_at : (k : ℕ) (axes : List Axis) (ns cs ks : List ℕ) (dims : List Dim) (e : Axis) → k < length dims → length axes ≡ length dims → length ns ≡ length dims → length cs ≡ length dims → length ks ≡ length dims
    → get_or (each_owned axes ns cs ks dims) k Flood ≡ owned_dim (get_or axes k e) (get_or ns k 0) (get_or cs k 0) (get_or ks k 0) (get_or dims k Flood)
owned_at k axes ns cs ks [] e h l m n o = absurd (omega arith)
owned_at k [] ns cs ks (d ∷ dims) e h l m n o = absurd (omega (arith, l))
owned_at k (a ∷ axes) [] cs ks (d ∷ dims) e h l m n o = absurd (omega (arith, m))
owned_at k (a ∷ axes) (i ∷ ns) [] ks (d ∷ dims) e h l m n o = absurd (omega (arith, n))
owned_at k (a ∷ axes) (i ∷ ns) (c ∷ cs) [] (d ∷ dims) e h l m n o = absurd (omega (arith, o))
owned_at zero (a ∷ axes) (i ∷ ns) (c ∷ cs) (j ∷ ks) (d ∷ dims) e h l m n o = refl
owned_at (suc k) (a ∷ axes) (i ∷ ns) (c ∷ cs) (j ∷ ks) (d ∷ dims) e h l m n o = owned_at k axes ns cs ks dims e (omega arith) (omega (arith, l)) (omega (arith, m)) (omega (arith, n)) (omega (arith, o))

length-owned : (axes : List Axis) (ns cs ks : List ℕ) (dims : List Dim) → length axes ≡ length dims → length ns ≡ length dims → length cs ≡ length dims → length ks ≡ length dims → length (each_owned axes ns cs ks dims) ≡ length dims
length-owned [] ns cs ks [] l m n o = refl
length-owned (a ∷ axes) ns cs ks [] l m n o = absurd (omega (arith, l))
length-owned [] ns cs ks (d ∷ dims) l m n o = absurd (omega (arith, l))
length-owned (a ∷ axes) [] cs ks (d ∷ dims) l m n o = absurd (omega (arith, m))
length-owned (a ∷ axes) (i ∷ ns) [] ks (d ∷ dims) l m n o = absurd (omega (arith, n))
length-owned (a ∷ axes) (i ∷ ns) (c ∷ cs) [] (d ∷ dims) l m n o = absurd (omega (arith, o))
length-owned (a ∷ axes) (i ∷ ns) (c ∷ cs) (j ∷ ks) (d ∷ dims) l m n o = ap suc (length-owned axes ns cs ks dims (omega (arith, l)) (omega (arith, m)) (omega (arith, n)) (omega (arith, o)))

coordinate_at : (dims : List Dim) (t : List ℤ) (k : ℕ) → AllZip IsCoordinate dims t → k < length dims → IsCoordinate (get_or dims k Flood) (get_or t k (pos 0))
coordinate_at [] t k z h = absurd (omega arith)
coordinate_at (d ∷ dims) [] k z h = absurd z
coordinate_at (d ∷ dims) (x ∷ t) zero z h = z.0
coordinate_at (d ∷ dims) (x ∷ t) (suc k) z h = coordinate_at dims t k z.1 (omega arith)

member_on_line : (k : ℕ) (dims : List Dim) (x t : List ℤ) → k < length dims → All HasStep dims → AllZip IsCoordinate dims x → is_along k x t ≡ true → are_coordinates dims t ≡ is_coordinate (get_or dims k Flood) (get_or t k (pos 0))
member_on_line k [] x t l h z e = absurd (omega arith)
member_on_line k (d ∷ dims) [] t l h z e = absurd z
member_on_line zero (d ∷ dims) (x ∷ xs) [] l h z e = absurd (let both : false ≡ true = e in cc)
member_on_line (suc k) (d ∷ dims) (x ∷ xs) [] l h z e = absurd (let both : false ≡ true = e in cc)
member_on_line zero (d ∷ dims) (x ∷ xs) (y ∷ t) l h z e =
    let is : t ≡ xs = same_from_test xs t e in
    let rest : are_coordinates dims t ≡ true = ap (are_coordinates dims) is ∙ (is_member_iff (record { rank = 1; dims = dims }) xs (All-tail HasStep d dims h)).1 z.1 in
    ap (λ b. is_coordinate d y && b) rest ∙ and_true (is_coordinate d y)
  where
    and_true : (b : Bool) → (b && true) ≡ b
    and_true true = refl
    and_true false = refl
member_on_line (suc k) (d ∷ dims) (x ∷ xs) (y ∷ t) l h z e =
    let both = and_parts (int_eq y x) (is_along k xs t) e in
    let is : y ≡ x = (Decides-int_eq y x).0 both.0 in
    let first : is_coordinate d y ≡ true = ap (is_coordinate d) is ∙ (is_coordinate_iff d x (All-head HasStep d dims h)).1 z.0 in
    ap (λ b. b && are_coordinates dims t) first ∙ member_on_line k dims xs t (omega arith) (All-tail HasStep d dims h) z.1 both.1

-- ---- numbers of blocks
below_at : (cs ns : List ℕ) (k : ℕ) → AllZip ◌<◌ cs ns → k < length ns → get_or cs k 0 < get_or ns k 0
below_at [] [] k z h = absurd (omega arith)
below_at [] (n ∷ ns) k z h = absurd z
below_at (c ∷ cs) [] k z h = absurd z
below_at (c ∷ cs) (n ∷ ns) zero z h = z.0
below_at (c ∷ cs) (n ∷ ns) (suc k) z h = below_at cs ns k z.1 (omega arith)

blocks_are_below : (ns : List ℕ) (p : ℕ) → EachSome ns → p < product ns → AllZip ◌<◌ (blocks_at ns p) ns
blocks_are_below [] p some below = tt
blocks_are_below (n ∷ ns) p some below =
    let positive : 1 ≤ product ns = some_product ns some.1 in
    (div_below_by p (product ns) n positive below, blocks_are_below ns (p % product ns) some.1 (mod_below p (product ns) positive))

-- ---- past the rank
rest_of : (n : ℕ) (dims : List Dim) (t : List ℤ) → AllZip IsCoordinate dims t → AllZip IsCoordinate (drop n dims) (drop n t)
rest_of zero dims t z = z
rest_of (suc n) [] [] z = tt
rest_of (suc n) [] (x ∷ t) z = absurd z
rest_of (suc n) (d ∷ dims) [] z = absurd z
rest_of (suc n) (d ∷ dims) (x ∷ t) z = rest_of n dims t z.1

zeros_of_padding : (n : ℕ) (t : List ℤ) → AllZip IsCoordinate (replicate n padding) t → t ≡ replicate n (pos 0)
zeros_of_padding zero [] z = refl
zeros_of_padding zero (x ∷ t) z = absurd z
zeros_of_padding (suc n) [] z = absurd z
zeros_of_padding (suc n) (x ∷ t) z = let none : x ≡ pos 0 = omega (arith, ints, z.0.0, z.0.1) in cons_same none (zeros_of_padding n t z.1)

past_the_rank : (r : Region) (t : List ℤ) → IsRegion r → IsMember r t → drop r.rank t ≡ replicate (3 - r.rank) (pos 0)
past_the_rank r t is z = zeros_of_padding (3 - r.rank) (drop r.rank t) (subst (λ dims. AllZip IsCoordinate dims (drop r.rank t)) is.padded (rest_of r.rank r.dims t z))

-- ---- which lines count for a tuple
-- what the parts of two processors, q and the receiver p, are along one dimension
record AreParts (k : ℕ) (part own : Region) : Type 0 where
  part_region : IsRegion part
  own_region : IsRegion own
  part_dims : length part.dims ≡ 3
  own_dims : length own.dims ≡ 3
  below : k < 3
  rank : part.rank ≡ own.rank
  ordered : (y z : ℤ) → IsCoordinate (get_or part.dims k Flood) y → IsCoordinate (get_or own.dims k Flood) z
      → (not (int_lt z y) && not (is_coordinate (get_or own.dims k Flood) y)) ≡ int_lt (first_of (get_or part.dims k Flood)) (first_of (get_or own.dims k Flood))

counts_line : (along k : ℕ) (part own : Region) (x t : List ℤ) → AreParts k part own → k ≡ line_dim own.rank along → along ≤ own.rank → IsMember own x → IsMember part t
    → (through along x t && not (on_own_line k own x t)) ≡ precedes along (head_of k own.dims x) (head_of k part.dims t)
counts_line along k part own x t w k_is few here there = by_line along (is_along k x t) refl k_is
  where
    long_x : length x ≡ length own.dims
    long_x = as_long own.dims x here

    long_t : length t ≡ length part.dims
    long_t = as_long part.dims t there

    part_below : k < length part.dims
    part_below = omega (arith, w.below, w.part_dims)

    own_below : k < length own.dims
    own_below = omega (arith, w.below, w.own_dims)

    g : List ℤ
    g = head_of k part.dims t

    h : List ℤ
    h = head_of k own.dims x

    same_line : is_along k h g ≡ is_along k x t
    same_line = heads_along k part.dims own.dims x t part_below own_below

    and_true : (b : Bool) → (b && true) ≡ b
    and_true true = refl
    and_true false = refl

    -- on one line
    on_line : is_along k x t ≡ true → (not (is_before x t) && not (on_own_line k own x t)) ≡ is_before g h
    on_line a =
        let order = line_order k x t (omega (arith, long_x, own_below)) a in
        let mine : on_own_line k own x t ≡ is_coordinate (get_or own.dims k Flood) (get_or t k (pos 0)) =
        ap (λ b. b && is_member own t) a ∙ member_on_line k own.dims x t own_below (has_steps own.dims w.own_region.dims) here a in
        ap (λ b. not b && not (on_own_line k own x t)) order
        ∙ (ap (λ b. not (int_lt (get_or x k (pos 0)) (get_or t k (pos 0))) && not b) mine
        ∙ (w.ordered (get_or t k (pos 0)) (get_or x k (pos 0)) (coordinate_at part.dims t k there part_below) (coordinate_at own.dims x k here own_below)
        ∙ sym (heads_order k part.dims own.dims x t part_below own_below a)))

    off_own : is_along k x t ≡ false → on_own_line k own x t ≡ false
    off_own a = ap (λ b. b && is_member own t) a

    rest_same : k ≡ own.rank - 1 → drop (suc k) t ≡ drop (suc k) x
    rest_same e =
        let rank_is : own.rank ≡ suc k = omega (arith, e, w.own_region.rank_above) in
        let tail : drop own.rank t ≡ drop own.rank x =
        subst (λ n. drop n t ≡ replicate (3 - n) (pos 0)) w.rank (past_the_rank part t w.part_region there) ∙ sym (past_the_rank own x w.own_region here) in
        subst (λ n. drop n t ≡ drop n x) rank_is tail

    by_line : (along : ℕ) (a : Bool) → is_along k x t ≡ a → k ≡ line_dim own.rank along → (through along x t && not (on_own_line k own x t)) ≡ precedes along h g
    by_line zero true a e = on_line a
    by_line zero false a e =
        ap (λ b. not (is_before x t) && not b) (off_own a)
        ∙ (and_true (not (is_before x t)) ∙ sym (other_lines k part.dims own.dims x t part_below own_below long_x long_t (rest_same e) a))
    by_line (suc j) true a e =
        let up : is_up_along j x t ≡ not (is_before x t) = ap (λ i. is_up_along i x t) (sym e) ∙ (up_along_is k x t ∙ ap (λ b. b && not (is_before x t)) a) in
        ap (λ b. b && not (on_own_line k own x t)) up
        ∙ (on_line a ∙ sym (ap (λ i. is_along i h g && is_before g h) (sym e) ∙ ap (λ b. b && is_before g h) (same_line ∙ a)))
    by_line (suc j) false a e =
        let up : is_up_along j x t ≡ false = ap (λ i. is_up_along i x t) (sym e) ∙ (up_along_is k x t ∙ ap (λ b. b && not (is_before x t)) a) in
        ap (λ b. b && not (on_own_line k own x t)) up
        ∙ sym (ap (λ i. is_along i h g && is_before g h) (sym e) ∙ ap (λ b. b && is_before g h) (same_line ∙ a))

are_parts : (k q p : ℕ) (blocks : Blocks) (r : Region) → AreBlocks blocks → IsRegion r → length r.dims ≡ 3 → k < 3 → q < processors_of blocks.grid → p < processors_of blocks.grid
    → AreParts k (owned_part blocks q p r) (owned_part blocks p p r)
are_parts k q p blocks r are is three below q_below p_below = record {
  part_region = owned_region blocks q p r are is;
  own_region = owned_region blocks p p r are is;
  part_dims = length-owned axes ns (blocks_at ns q) ks r.dims long n_long (blocks_length ns q ∙ n_long) (blocks_length ns p ∙ n_long) ∙ three;
  own_dims = length-owned axes ns ks ks r.dims long n_long (blocks_length ns p ∙ n_long) (blocks_length ns p ∙ n_long) ∙ three;
  below = below;
  rank = refl;
  ordered = subst (λ (d : Dim). ordered_at d (get_or (each_owned axes ns ks ks r.dims) k Flood)) (sym part_at) (subst (λ (d : Dim). ordered_at (owned_dim axis n c b dim) d) (sym own_at)
      (λ y z here there. blocks_in_order axis n c b dim y z
      (below_at (blocks_at ns q) ns k (blocks_are_below ns q cut.some (omega (arith, cut.count, q_below))) (omega (arith, below, cut.three)))
      (below_at ks ns k (blocks_are_below ns p cut.some (omega (arith, cut.count, p_below))) (omega (arith, below, cut.three)))
      (has_steps r.dims is.dims k Flood (omega (arith, below, three))) here there));
}
  where
    axes : List Axis
    axes = axes_at blocks r.rank

    ns : List ℕ
    ns = cuts blocks.grid r.rank

    ks : List ℕ
    ks = blocks_at ns p

    cut : AreCuts blocks.grid r.rank
    cut = are_cuts blocks.grid r.rank is.rank_above is.rank_below

    long : length axes ≡ length r.dims
    long = axes_three blocks r.rank are is.rank_above is.rank_below ∙ sym three

    n_long : length ns ≡ length r.dims
    n_long = cut.three ∙ sym three

    blank : Axis
    blank = record { low = pos 0; extent = 0 }

    axis : Axis
    axis = get_or axes k blank

    n : ℕ
    n = get_or ns k 0

    c : ℕ
    c = get_or (blocks_at ns q) k 0

    b : ℕ
    b = get_or ks k 0

    dim : Dim
    dim = get_or r.dims k Flood

    part_at : get_or (each_owned axes ns (blocks_at ns q) ks r.dims) k Flood ≡ owned_dim axis n c b dim
    part_at = owned_at k axes ns (blocks_at ns q) ks r.dims blank (omega (arith, below, three)) long n_long (blocks_length ns q ∙ n_long) (blocks_length ns p ∙ n_long)

    own_at : get_or (each_owned axes ns ks ks r.dims) k Flood ≡ owned_dim axis n b b dim
    own_at = owned_at k axes ns ks ks r.dims blank (omega (arith, below, three)) long n_long (blocks_length ns p ∙ n_long) (blocks_length ns p ∙ n_long)

    ordered_at : Dim → Dim → Type 0
    ordered_at Q P = (y z : ℤ) → IsCoordinate Q y → IsCoordinate P z → (not (int_lt z y) && not (is_coordinate P y)) ≡ int_lt (first_of Q) (first_of P)

-- ---- the scan at a tuple of the own part
as_through : (along : ℕ) (op : Fold) (r : Region) (is_kept : List ℤ → Bool) (e : List ℤ → ℤ) (x : List ℤ) → whole_scan along op r is_kept e x ≡ kept_fold op (λ t. is_kept t && through along x t) e (members r)
as_through zero op r is_kept e x = refl
as_through (suc k) op r is_kept e x = let same : suc k - 1 ≡ k = omega arith in ap (λ j. kept_fold op (λ t. is_kept t && is_up_along j x t) e (members r)) same

among_numbers : (k n q : ℕ) → Among (numbers_from k n) q → q < k + n
among_numbers k zero q m = absurd m
among_numbers k (suc n) q (inl e) = omega (arith, e)
among_numbers k (suc n) q (inr m) = omega (arith, among_numbers (suc k) n q m)

flat_map-map : {X Y Z : Type 0} (f : X → Y) (g : Y → List Z) (xs : List X) → flat_map (λ x. g (f x)) xs ≡ flat_map g (map f xs)
flat_map-map f g [] = refl
flat_map-map f g (x ∷ xs) = ap (λ l. g (f x) ++ l) (flat_map-map f g xs)

and_assoc_not : (i a b : Bool) → ((i && a) && b) ≡ (i && (a && b))
and_assoc_not true a b = refl
and_assoc_not false a b = refl

along_dim : (rank along : ℕ) → 1 ≤ along → along ≡ suc (line_dim rank along)
along_dim rank zero h = absurd (omega arith)
along_dim rank (suc k) h = refl

pub scan_at_tuple : (op : Fold) (along p : ℕ) (blocks : Blocks) (r : Region) (is_kept : List ℤ → Bool) (e : List ℤ → ℤ) (x : List ℤ) → AreBlocks blocks → IsRegion r → length r.dims ≡ 3 → along ≤ r.rank → p < processors_of blocks.grid
    → IsMember (owned_part blocks p p r) x
    → scan_at op along (owned_part blocks p p r) (lines_of (line_dim r.rank along) (parts_of blocks p r) (map (λ part. totals_of op (line_dim r.rank along) part (masked is_kept e)) (parts_of blocks p r))) (masked is_kept e) x
    ≡ whole_scan along op r is_kept e x
scan_at_tuple op along p blocks r is_kept e x are is three few below here =
    sym (as_through along op r is_kept e x
    ∙ (scan_in_two op along k r own is_kept e x
    ∙ (ap (λ z. joined op z (kept_fold op (λ t. (is_kept t && through along x t) && on_own_line k own x t) e (members r)))
    (whole_that_counts op k r parts (λ t. (is_kept t && through along x t) && not (on_own_line k own x t)) is_kept e (precedes along (head_of k own.dims x)) partition each)
    ∙ ap (joined op (before op along (lines_of k parts (map (λ part. totals_of op k part (masked is_kept e)) parts)) (head_of k own.dims x)))
    (own_line_part op along k r own is_kept e x own_is (along_dim r.rank along)))))
  where
    k : ℕ
    k = line_dim r.rank along

    k_below : k < 3
    k_below = line_dim_below r.rank along is.rank_above is.rank_below few

    own : Region
    own = owned_part blocks p p r

    parts : List Region
    parts = parts_of blocks p r

    ns : List ℕ
    ns = cuts blocks.grid r.rank

    n_long : length ns ≡ length r.dims
    n_long = (are_cuts blocks.grid r.rank is.rank_above is.rank_below).three ∙ sym three

    own_is : members own ≡ filter (is_member own) (members r)
    own_is =
        tuples-owned (axes_at blocks r.rank) ns (blocks_at ns p) (blocks_at ns p) r.dims (axes_three blocks r.rank are is.rank_above is.rank_below ∙ sym three) n_long (blocks_length ns p ∙ n_long) (blocks_length ns p ∙ n_long) (has_steps r.dims is.dims)

    have_bounds : All HasBounds r.dims
    have_bounds = λ j d inside. let h : IsDim (get_or r.dims j d) = is.dims j d inside in h.1

    partition : IsPermutation (members r) (flat_map members parts)
    partition =
        subst (IsPermutation (members r)) (flat_map-map (λ q. owned_part blocks q p r) members (processors blocks.grid)) (parts_of_owners blocks p r are is.rank_above is.rank_below three have_bounds below)

    each : (part : Region) → Among parts part → CountsBy k (λ t. (is_kept t && through along x t) && not (on_own_line k own x t)) is_kept (precedes along (head_of k own.dims x)) part
    each part m =
        let w = among_mapped (λ q. owned_part blocks q p r) (processors blocks.grid) part m in
        let q_below : w.0 < processors_of blocks.grid = omega (arith, among_numbers 0 (processors_of blocks.grid) w.0 w.2) in
        subst (CountsBy k (λ t. (is_kept t && through along x t) && not (on_own_line k own x t)) is_kept (precedes along (head_of k own.dims x))) w.1
        (let a = are_parts k w.0 p blocks r are is three k_below q_below below in record {
          region = a.part_region;
          dim = omega (arith, k_below, a.part_dims);
          same = λ t there. and_assoc_not (is_kept t) (through along x t) (not (on_own_line k own x t))
              ∙ ap (λ b. is_kept t && b) (counts_line along k (owned_part blocks w.0 p r) own x t a refl few here there);
        })

pub block_scan_is : (op : Fold) (along p : ℕ) (blocks : Blocks) (r : Region) (is_kept : List ℤ → Bool) (e : List ℤ → ℤ) → AreBlocks blocks → IsRegion r → length r.dims ≡ 3 → along ≤ r.rank → p < processors_of blocks.grid
    → block_scan op along blocks p r (map (λ part. totals_of op (line_dim r.rank along) part (masked is_kept e)) (parts_of blocks p r)) (masked is_kept e)
    ≡ map (whole_scan along op r is_kept e) (members (owned_part blocks p p r))
block_scan_is op along p blocks r is_kept e are is three few below =
    map-among (members (owned_part blocks p p r)) (λ x m. scan_at_tuple op along p blocks r is_kept e x are is three few below
    ((members_iff (owned_part blocks p p r) x (has_steps (owned_part blocks p p r).dims (owned_region blocks p p r are is).dims)).0 (Contains-from_among (members (owned_part blocks p p r)) x m)))
  where
    map-among : {f g : List ℤ → ℤ} (xs : List (List ℤ)) → ((x : List ℤ) → Among xs x → f x ≡ g x) → map f xs ≡ map g xs
    map-among [] same = refl
    map-among (x ∷ xs) same = cons_same (same x (inl refl)) (map-among xs (λ y m. same y (inr m)))

-- ---- totals as each processor tells them, of its own part
-- for a receiver, another processor's part is its own, or has no tuple: where a flood dimension is another block's
same_or_none : (axes : List Axis) (ns cs ks : List ℕ) (dims : List Dim) → length ks ≡ length cs → (each_owned axes ns cs ks dims ≡ each_owned axes ns cs cs dims) ⊎ (tuple_count (each_owned axes ns cs ks dims) ≡ 0)
same_or_none [] ns cs ks dims l = inl refl
same_or_none (a ∷ axes) [] cs ks dims l = inl refl
same_or_none (a ∷ axes) (n ∷ ns) [] ks dims l = inl refl
same_or_none (a ∷ axes) (n ∷ ns) (c ∷ cs) [] dims l = absurd (omega (arith, l))
same_or_none (a ∷ axes) (n ∷ ns) (c ∷ cs) (k ∷ ks) [] l = inl refl
same_or_none (a ∷ axes) (n ∷ ns) (c ∷ cs) (k ∷ ks) (d ∷ dims) l = by_rest (same_or_none axes ns cs ks dims (omega (arith, l))) (dim_same d)
  where
    same_block : (c == c) ≡ true
    same_block = grind (arith, nat_tests)

    dim_same : (d : Dim) → (owned_dim a n c k d ≡ owned_dim a n c c d) ⊎ (coordinate_count (owned_dim a n c k d) ≡ 0)
    dim_same (Range lo hi step align) = inl refl
    dim_same Flood = by_test (c == k)
      where
        by_test : (b : Bool) → ((if b then Flood else nothing) ≡ (if c == c then Flood else nothing)) ⊎ (coordinate_count (if b then Flood else nothing) ≡ 0)
        by_test true = inl (sym (ap (λ b. if b then Flood else nothing) same_block))
        by_test false = inr refl

    by_rest : (each_owned axes ns cs ks dims ≡ each_owned axes ns cs cs dims) ⊎ (tuple_count (each_owned axes ns cs ks dims) ≡ 0) → (owned_dim a n c k d ≡ owned_dim a n c c d) ⊎ (coordinate_count (owned_dim a n c k d) ≡ 0)
        → (owned_dim a n c k d ∷ each_owned axes ns cs ks dims ≡ owned_dim a n c c d ∷ each_owned axes ns cs cs dims) ⊎ (coordinate_count (owned_dim a n c k d) * tuple_count (each_owned axes ns cs ks dims) ≡ 0)
    by_rest (inl rest) (inl first) = inl (cons_same first rest)
    by_rest (inr none) first = inr (ap (λ z. coordinate_count (owned_dim a n c k d) * z) none ∙ omega arith)
    by_rest rest (inr none) = inr (ap (λ z. z * tuple_count (each_owned axes ns cs ks dims)) none ∙ omega arith)

same_lines : (k q p : ℕ) (blocks : Blocks) (r : Region) (f : Region → List ℤ) → AreBlocks blocks → IsRegion r
    → zip (members (heads k (owned_part blocks q p r))) (f (owned_part blocks q q r)) ≡ zip (members (heads k (owned_part blocks q p r))) (f (owned_part blocks q p r))
same_lines k q p blocks r f are is =
    by_dims (same_or_none (axes_at blocks r.rank) ns (blocks_at ns q) (blocks_at ns p) r.dims (blocks_length ns p ∙ sym (blocks_length ns q)))
  where
    ns : List ℕ
    ns = cuts blocks.grid r.rank

    part : Region
    part = owned_part blocks q p r

    by_dims : (part.dims ≡ (owned_part blocks q q r).dims) ⊎ (tuple_count part.dims ≡ 0) → zip (members (heads k part)) (f (owned_part blocks q q r)) ≡ zip (members (heads k part)) (f part)
    by_dims (inl same) = ap (λ (dims : List Dim). zip (members (heads k part)) (f (record { rank = r.rank; dims = dims }))) (sym same)
    by_dims (inr none) =
        let region = owned_region blocks q p r are is in
        let empty : members (heads k part) ≡ [] = no_heads k part region (length-tuple_count part.dims (has_steps part.dims region.dims) ∙ none) in
        ap (λ hs. zip hs (f (owned_part blocks q q r))) empty ∙ sym (ap (λ hs. zip hs (f part)) empty)

told_lines : (k p : ℕ) (blocks : Blocks) (r : Region) (f : Region → List ℤ) (qs : List ℕ) → AreBlocks blocks → IsRegion r
    → lines_of k (map (λ q. owned_part blocks q p r) qs) (map (λ q. f (owned_part blocks q q r)) qs) ≡ lines_of k (map (λ q. owned_part blocks q p r) qs) (map f (map (λ q. owned_part blocks q p r) qs))
told_lines k p blocks r f [] are is = refl
told_lines k p blocks r f (q ∷ qs) are is =
    ap (λ l. l ++ lines_of k (map (λ j. owned_part blocks j p r) qs) (map (λ j. f (owned_part blocks j j r)) qs)) (same_lines k q p blocks r f are is)
    ∙ ap (λ l. zip (members (heads k (owned_part blocks q p r))) (f (owned_part blocks q p r)) ++ l) (told_lines k p blocks r f qs are is)

pub scan_from_totals : (op : Fold) (along p : ℕ) (blocks : Blocks) (r : Region) (is_kept : List ℤ → Bool) (e : List ℤ → ℤ) → AreBlocks blocks → IsRegion r → length r.dims ≡ 3 → along ≤ r.rank → p < processors_of blocks.grid
    → block_scan op along blocks p r (map (λ q. totals_of op (line_dim r.rank along) (owned_part blocks q q r) (masked is_kept e)) (processors blocks.grid)) (masked is_kept e)
    ≡ map (whole_scan along op r is_kept e) (members (owned_part blocks p p r))
scan_from_totals op along p blocks r is_kept e are is three few below =
    ap (λ lines. map (scan_at op along (owned_part blocks p p r) lines (masked is_kept e)) (members (owned_part blocks p p r)))
    (told_lines (line_dim r.rank along) p blocks r (λ part. totals_of op (line_dim r.rank along) part (masked is_kept e)) (processors blocks.grid) are is)
    ∙ block_scan_is op along p blocks r is_kept e are is three few below

-- ---- values in a row
pub value_of_member : (r : Region) (f : List ℤ → Option ℤ) (t : List ℤ) → IsRegion r → IsMember r t → value_at r (map f (members r)) t ≡ f t
value_of_member r f t is here =
    let at = place_of_tuple r.dims t (has_steps r.dims is.dims) here in
    mapped (members r) (place_among r.dims t) at
  where
    mapped : (ms : List (List ℤ)) (i : ℕ) → slice_get ms i ≡ Some t → get_or (map f ms) i None ≡ f t
    mapped [] i e = absurd (cc)
    mapped (m ∷ ms) zero e = let is : m ≡ t = cc in ap f is
    mapped (m ∷ ms) (suc i) e = mapped ms i e

map-kept : {X : Type 0} (f g : List ℤ → X) (p : List ℤ → Bool) (xs : List (List ℤ)) → ((x : List ℤ) → Among xs x → f x ≡ g x) → map f (filter p xs) ≡ map g (filter p xs)
map-kept f g p [] same = refl
map-kept f g p (x ∷ xs) same = by_test (p x) (map-kept f g p xs (λ y m. same y (inr m)))
  where
    by_test : (b : Bool) → map f (filter p xs) ≡ map g (filter p xs) → map f (cond b (x ∷ filter p xs) (filter p xs)) ≡ map g (cond b (x ∷ filter p xs) (filter p xs))
    by_test true further = cons_same (same x (inl refl)) further
    by_test false further = further

fold_value : (op : Fold) (r : Region) (f : List ℤ → Option ℤ) (p : List ℤ → Bool) → IsRegion r → fold_at op (value_at r (map f (members r))) (filter p (members r)) ≡ fold_at op f (filter p (members r))
fold_value op r f p is =
    ap (λ l. folded op (kept_values l)) (map-kept (value_at r (map f (members r))) f p (members r)
    (λ t m. value_of_member r f t is ((members_iff r t (has_steps r.dims is.dims)).0 (Contains-from_among (members r) t m))))

map-agree : (f g : List ℤ → ℤ) (xs : List (List ℤ)) → ((x : List ℤ) → f x ≡ g x) → map f xs ≡ map g xs
map-agree f g [] same = refl
map-agree f g (x ∷ xs) same = cons_same (same x) (map-agree f g xs same)

-- the values of a function at the tuples, in row-major order, are the function's
pub totals_value : (op : Fold) (k : ℕ) (r : Region) (f : List ℤ → Option ℤ) → IsRegion r → totals_of op k r (value_at r (map f (members r))) ≡ totals_of op k r f
totals_value op k r f is = map-agree _ _ (members (heads k r)) (λ h. fold_value op r f (is_along k h) is)

pub whole_from_totals : (op : Fold) (along p : ℕ) (blocks : Blocks) (r : Region) (is_kept : List ℤ → Bool) (e : List ℤ → ℤ) → AreBlocks blocks → IsRegion r → length r.dims ≡ 3 → along ≤ r.rank → p < processors_of blocks.grid
    → block_scan op along blocks p r (map (λ q. totals_of op (line_dim r.rank along) (owned_part blocks q q r) (masked is_kept e)) (processors blocks.grid))
    (value_at (owned_part blocks p p r) (map (masked is_kept e) (members (owned_part blocks p p r))))
    ≡ map (whole_scan along op r is_kept e) (members (owned_part blocks p p r))
whole_from_totals op along p blocks r is_kept e are is three few below =
    map-agree (scan_at op along own lines (value_at own (map (masked is_kept e) (members own)))) (scan_at op along own lines (masked is_kept e)) (members own)
    (λ x. ap (joined op (before op along lines (head_of (line_dim own.rank along) own.dims x))) (fold_value op own (masked is_kept e) (is_up_along (line_dim own.rank along) x) (owned_region blocks p p r are is)))
    ∙ scan_from_totals op along p blocks r is_kept e are is three few below
  where
    own : Region
    own = owned_part blocks p p r

    lines : List LineTotal
    lines = lines_of (line_dim r.rank along) (parts_of blocks p r) (map (λ q. totals_of op (line_dim r.rank along) (owned_part blocks q q r) (masked is_kept e)) (processors blocks.grid))
