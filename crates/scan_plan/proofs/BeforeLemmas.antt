-- Lemmas on what stands before lines.
use Rattle.std.proofs.Common.{◌≡◌, ℕ, zero, suc, ◌+◌, ◌<◌, ◌⊎◌, inl, inr, Bool, true, false, cond, not, ◌&&◌, ◌||◌, List, [], ◌∷◌, ◌++◌, map, take, replicate, length, get_or, ℤ, ◌<ℤ◌, refl, sym, ◌∙◌, ap, arith, add-one, zero-add, append_assoc}
use Rattle.std.specs.List.{filter, zip}
use Rattle.std.specs.Int.RustNames.{int_lt}
use Rattle.std.specs.Ordering.{int_eq}
use Rattle.std.proofs.lemmas.Bool.{and_parts, or_cases}
use Rattle.std.proofs.lemmas.Bool.Decides.{Decides-int_eq}
use Rattle.std.proofs.lemmas.Int.{ints}
use Rattle.std.proofs.lemmas.List.{length-map}
use Rattle.zpl_nums.specs.declared.folds.Fold.{Fold}
use Rattle.zpl_nums.specs.Fold.{folded, joined, unit_of}
use Rattle.zpl_nums.proofs.FoldLemmas.{joined_assoc, settled-folded}
use Rattle.zpl_region.specs.declared.regions.Region.{Region}
use Rattle.zpl_region.specs.declared.dims.Dim.{Dim}
use Rattle.zpl_region.specs.Dim.{coordinates}
use Rattle.zpl_region.specs.Region.{is_before, members}
use Rattle.grid_layout.specs.declared.blocks.Blocks.{Blocks}
use Rattle.grid_layout.specs.Grid.{processors_of}
use Rattle.grid_layout.specs.Piece.{owned_part}
use Rattle.grid_layout.specs.Words.{numbers_from, processors}
use Rattle.zpl_region.proofs.ListLemmas.{Among, Rises, cons_same, int_eq-true, int_lt-true}
use Rattle.zpl_region.proofs.DimLemmas.{Rises-coordinates}
use Rattle.zpl_region.proofs.TupleLemmas.{AllRise, IsBefore, Rises-tuples}
use Rattle.zpl_arrays.proofs.FoldLemmas.{fold_in_two}
use Rattle.scan_plan.specs.Line.{heads}
use Rattle.scan_plan.specs.Scan.{LineTotal, before, fold_of_totals, folds_between, gone_through, lines_of, parts_of, precedes, sums}

-- ---- at the start
units : (op : Fold) (hs : List (List ℤ)) → replicate (length hs) (unit_of op) ≡ folds_between op hs []
units op [] = refl
units op (h ∷ hs) = ap (λ l. unit_of op ∷ l) (units op hs)

pub gone_none : (op : Fold) (along : ℕ) (hs : List (List ℤ)) → replicate (length hs) (unit_of op) ≡ gone_through op along hs []
gone_none op zero hs = units op hs
gone_none op (suc k) [] = refl
gone_none op (suc k) (h ∷ hs) = ap (λ l. unit_of op ∷ l) (gone_none op (suc k) hs)

-- ---- one part more
pub lines_more : (k : ℕ) (parts : List Region) (all : List (List ℤ)) (q : ℕ) (e : Region) (d : List ℤ) → q < length parts → q < length all
    → lines_of k (take (q + 1) parts) (take (q + 1) all) ≡ lines_of k (take q parts) (take q all) ++ zip (members (heads k (get_or parts q e))) (get_or all q d)
lines_more k parts all q e d h g = ap (λ j. lines_of k (take j parts) (take j all)) (add-one q) ∙ one parts all q h g
  where
    nothing_more : (xs : List LineTotal) → xs ++ [] ≡ xs
    nothing_more [] = refl
    nothing_more (x ∷ xs) = ap (λ l. x ∷ l) (nothing_more xs)

    nothing_first : (xs : List LineTotal) → xs ≡ [] ++ xs
    nothing_first xs = refl

    one : (parts : List Region) (all : List (List ℤ)) (q : ℕ) → q < length parts → q < length all
        → lines_of k (take (suc q) parts) (take (suc q) all) ≡ lines_of k (take q parts) (take q all) ++ zip (members (heads k (get_or parts q e))) (get_or all q d)
    one [] all q h g = absurd (omega arith)
    one (p ∷ parts) [] q h g = absurd (omega arith)
    one (p ∷ parts) (l ∷ all) zero h g = nothing_more (zip (members (heads k p)) l)
    one (p ∷ parts) (l ∷ all) (suc q) h g =
        ap (λ ls. zip (members (heads k p)) l ++ ls) (one parts all q (omega arith) (omega arith))
        ∙ sym (append_assoc (zip (members (heads k p)) l) (lines_of k (take q parts) (take q all)) (zip (members (heads k (get_or parts q e))) (get_or all q d)))

-- ---- in row-major order: running joins of what stands between
pub before_trans : (x m g : List ℤ) → is_before x m ≡ true → is_before m g ≡ true → is_before x g ≡ true
before_trans [] m g e f = absurd (let both : false ≡ true = e in cc)
before_trans (x ∷ xs) [] g e f = absurd (let both : false ≡ true = e in cc)
before_trans (x ∷ xs) (y ∷ ys) [] e f = absurd (let both : false ≡ true = f in cc)
before_trans (x ∷ xs) (y ∷ ys) (z ∷ zs) e f = by_cases (or_cases (int_lt x y) (int_eq x y && is_before xs ys) e) (or_cases (int_lt y z) (int_eq y z && is_before ys zs) f) (before_trans xs ys zs)
  where
    below : (a b : ℤ) → int_lt a b ≡ true → a <ℤ b
    below a b e = grind (arith, ints)

    first : x <ℤ z → (int_lt x z || (int_eq x z && is_before xs zs)) ≡ true
    first h = ap (λ b. b || (int_eq x z && is_before xs zs)) (int_lt-true x z h)

    or_true : (a b : Bool) → b ≡ true → (a || b) ≡ true
    or_true true b h = refl
    or_true false b h = h

    by_cases : (int_lt x y ≡ true) ⊎ ((int_eq x y && is_before xs ys) ≡ true) → (int_lt y z ≡ true) ⊎ ((int_eq y z && is_before ys zs) ≡ true)
        → (is_before xs ys ≡ true → is_before ys zs ≡ true → is_before xs zs ≡ true) → (int_lt x z || (int_eq x z && is_before xs zs)) ≡ true
    by_cases (inl a) (inl b) further = first (omega (arith, ints, below x y a, below y z b))
    by_cases (inl a) (inr b) further =
        let same : y ≡ z = (Decides-int_eq y z).0 (and_parts (int_eq y z) (is_before ys zs) b).0 in first (omega (arith, ints, below x y a, same))
    by_cases (inr a) (inl b) further =
        let same : x ≡ y = (Decides-int_eq x y).0 (and_parts (int_eq x y) (is_before xs ys) a).0 in first (omega (arith, ints, below y z b, same))
    by_cases (inr a) (inr b) further =
        let w = and_parts (int_eq x y) (is_before xs ys) a in
        let v = and_parts (int_eq y z) (is_before ys zs) b in
        let same : x ≡ z = (Decides-int_eq x y).0 w.0 ∙ (Decides-int_eq y z).0 v.0 in
        or_true (int_lt x z) (int_eq x z && is_before xs zs) (ap (λ t. int_eq x t && is_before xs zs) (sym same) ∙ (ap (λ b. b && is_before xs zs) (int_eq-true x) ∙ further w.1 v.1))

filter-filter : {X : Type 0} (p q : X → Bool) (xs : List X) → filter p (filter q xs) ≡ filter (λ x. q x && p x) xs
filter-filter p q [] = refl
filter-filter {X} p q (x ∷ xs) = by_test (q x) (filter-filter p q xs)
  where
    by_test : (b : Bool) → filter p (filter q xs) ≡ filter (λ y. q y && p y) xs → filter p (cond b (x ∷ filter q xs) (filter q xs)) ≡ cond (b && p x) (x ∷ filter (λ y. q y && p y) xs) (filter (λ y. q y && p y) xs)
    by_test true further = ap (λ l. cond (p x) (x ∷ l) l) further
    by_test false further = further

-- what stands before g is what stands before an earlier m, and the rest
in_two : (op : Fold) (m g : List ℤ) (lines : List LineTotal) → is_before m g ≡ true
    → fold_of_totals op (precedes zero g) lines ≡ joined op (fold_of_totals op (precedes zero m) lines) (fold_of_totals op (precedes zero g) (filter (λ line. not (is_before line.0 m)) lines))
in_two op m g lines before =
    fold_in_two op (λ line. is_before line.0 g) (λ line. is_before line.0 m) (λ line. not (is_before line.0 m) && is_before line.0 g) (λ line. line.1) lines
    (λ line _. let w = two (is_before line.0 m) (is_before line.0 g) (λ e. before_trans line.0 m g e before) in record { either = w.0; not_both = w.1 })
    ∙ ap (λ ls. joined op (fold_of_totals op (precedes zero m) lines) (folded op (map (λ (line : LineTotal). line.1) ls))) (sym (filter-filter (λ (line : LineTotal). is_before line.0 g) (λ (line : LineTotal). not (is_before line.0 m)) lines))
  where
    two : (b c : Bool) → (b ≡ true → c ≡ true) → (c ≡ (b || (not b && c))) × ((b && (not b && c)) ≡ false)
    two true c h = (h refl, refl)
    two false c h = (refl, refl)

sums_between : (op : Fold) (hs : List (List ℤ)) (lines : List LineTotal) (acc : ℤ) → Rises IsBefore hs
    → sums op acc (folds_between op hs lines) ≡ map (λ h. joined op acc (fold_of_totals op (precedes zero h) lines)) hs
sums_between op [] lines acc rise = refl
sums_between op (m ∷ ms) lines acc rise =
    let here = fold_of_totals op (precedes zero m) lines in
    let kept = filter (λ (line : LineTotal). not (is_before line.0 m)) lines in
    ap (λ l. joined op acc here ∷ l) (sums_between op ms kept (joined op acc here) rise.1
    ∙ map-among (λ h. joined op (joined op acc here) (fold_of_totals op (precedes zero h) kept)) (λ h. joined op acc (fold_of_totals op (precedes zero h) lines)) ms
    (λ h among. joined_assoc op acc here (fold_of_totals op (precedes zero h) kept) ∙ ap (joined op acc) (sym (in_two op m h lines (rise.0 h among)))))
  where
    map-among : (f g : List ℤ → ℤ) (xs : List (List ℤ)) → ((x : List ℤ) → Among xs x → f x ≡ g x) → map f xs ≡ map g xs
    map-among f g [] same = refl
    map-among f g (x ∷ xs) same = cons_same (same x (inl refl)) (map-among f g xs (λ y m. same y (inr m)))

-- what is kept when all lines were gone through
pub joined_up : (op : Fold) (hs : List (List ℤ)) (lines : List LineTotal) → Rises IsBefore hs → sums op (unit_of op) (gone_through op zero hs lines) ≡ map (before op zero lines) hs
joined_up op hs lines rise = sums_between op hs lines (unit_of op) rise ∙ settled hs
  where
    settled : (xs : List (List ℤ)) → map (λ h. joined op (unit_of op) (fold_of_totals op (precedes zero h) lines)) xs ≡ map (before op zero lines) xs
    settled [] = refl
    settled (x ∷ xs) = cons_same (settled-folded op (map (λ (line : LineTotal). line.1) (filter (λ (line : LineTotal). precedes zero x line.0) lines))) (settled xs)

-- ---- the parts of all processors
length-numbers : (k n : ℕ) → length (numbers_from k n) ≡ n
length-numbers k zero = refl
length-numbers k (suc n) = ap suc (length-numbers (suc k) n)

number_at : (k n i d : ℕ) → i < n → get_or (numbers_from k n) i d ≡ k + i
number_at k zero i d h = absurd (omega arith)
number_at k (suc n) zero d h = omega arith
number_at k (suc n) (suc i) d h = number_at (suc k) n i d (omega arith) ∙ omega arith

pub length-parts : (blocks : Blocks) (p : ℕ) (r : Region) → length (parts_of blocks p r) ≡ processors_of blocks.grid
length-parts blocks p r = length-map (processors blocks.grid) (λ q. owned_part blocks q p r) ∙ length-numbers 0 (processors_of blocks.grid)

pub part_at : (blocks : Blocks) (p q : ℕ) (r : Region) → q < processors_of blocks.grid → get_or (parts_of blocks p r) q (owned_part blocks 0 p r) ≡ owned_part blocks q p r
part_at blocks p q r h =
    get_or-mapped (λ j. owned_part blocks j p r) (processors blocks.grid) q 0
    ∙ ap (λ j. owned_part blocks j p r) (number_at 0 (processors_of blocks.grid) q 0 h ∙ zero-add q)
  where
    get_or-mapped : (f : ℕ → Region) (xs : List ℕ) (i d : ℕ) → get_or (map f xs) i (f d) ≡ f (get_or xs i d)
    get_or-mapped f [] i d = refl
    get_or-mapped f (x ∷ xs) zero d = refl
    get_or-mapped f (x ∷ xs) (suc i) d = get_or-mapped f xs i d

take_all : {X : Type 0} (xs : List X) (n : ℕ) → length xs ≡ n → take n xs ≡ xs
take_all [] n e = ap (λ k. take k []) (sym e)
take_all (x ∷ xs) zero e = absurd (omega (arith, e))
take_all (x ∷ xs) (suc n) e = ap (λ l. x ∷ l) (take_all xs n (omega (arith, e)))

pub all_lines : (k : ℕ) (parts : List Region) (all : List (List ℤ)) (n : ℕ) → length parts ≡ n → length all ≡ n → lines_of k (take n parts) (take n all) ≡ lines_of k parts all
all_lines k parts all n e f = ap (λ l. lines_of k l (take n all)) (take_all parts n e) ∙ ap (lines_of k parts) (take_all all n f)

pub members_ascend : (r : Region) → Rises IsBefore (members r)
members_ascend r = Rises-tuples (map coordinates r.dims) (ascend r.dims)
  where
    ascend : (dims : List Dim) → AllRise (map coordinates dims)
    ascend [] = tt
    ascend (d ∷ dims) = (Rises-coordinates d, ascend dims)

pub ended_zero : (op : Fold) (along : ℕ) (hs : List (List ℤ)) (lines : List LineTotal) (kept : List ℤ) → along ≡ 0 → Rises IsBefore hs → kept ≡ gone_through op along hs lines → sums op (unit_of op) kept ≡ map (before op along lines) hs
ended_zero op zero hs lines kept e rise f = ap (sums op (unit_of op)) f ∙ joined_up op hs lines rise
ended_zero op (suc k) hs lines kept e rise f = absurd (cc)

pub ended_above : (op : Fold) (along : ℕ) (hs : List (List ℤ)) (lines : List LineTotal) → (along ≡ 0 → ⊥) → gone_through op along hs lines ≡ map (before op along lines) hs
ended_above op zero hs lines other = absurd (other refl)
ended_above op (suc k) hs lines other = refl
