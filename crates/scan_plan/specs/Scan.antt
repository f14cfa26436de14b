-- A scan on one processor's block, from the totals of all processors' lines and the block's own
-- values.
use Rattle.std.specs.Prelude.{ℕ, zero, suc, Bool, not, ◌&&◌, if◌then◌else◌, Option, Some, None, ℤ, List, [], ◌∷◌, ◌++◌, map, filter, find, option_map}
use Rattle.std.specs.List.{zip}
use Rattle.zpl_nums.specs.declared.folds.Fold.{Fold}
use Rattle.zpl_nums.specs.Fold.{folded, joined}
use Rattle.zpl_region.specs.declared.regions.Region.{Region}
use Rattle.zpl_region.specs.Region.{is_before, members}
use Rattle.zpl_region.specs.Tests.{is_member}
use Rattle.zpl_arrays.specs.Array.{place_among}
use Rattle.zpl_arrays.specs.Scan.{is_up_along, scanned, scanned_along}
use Rattle.grid_layout.specs.declared.blocks.Blocks.{Blocks}
use Rattle.grid_layout.specs.Piece.{owned_part}
use Rattle.grid_layout.specs.Words.{processors}
use Rattle.scan_plan.specs.Line.{fold_at, head_of, heads, is_along, line_dim}

-- the first tuple of a line of some processor's part, with the line's total
abbrev pub LineTotal : Type 0
LineTotal = List ℤ × ℤ

-- the parts of a region that the processors own, for the receiver p: in a flood dimension those
-- with p's block own it
abbrev pub parts_of : Blocks → ℕ → Region → List Region
parts_of blocks p region = map (λ q. owned_part blocks q p region) (processors blocks.grid)

-- the lines of all parts, with the totals from the processors' lists
abbrev pub lines_of : ℕ → List Region → List (List ℤ) → List LineTotal
lines_of k [] all = []
lines_of k (part ∷ parts) [] = []
lines_of k (part ∷ parts) (totals ∷ all) = zip (members (heads k part)) totals ++ lines_of k parts all

-- the line that begins with g counts for the line that begins with h: it stands before it, and on
-- one line with it where the scan is along a dimension
abbrev pub precedes : ℕ → List ℤ → List ℤ → Bool
precedes zero h g = is_before g h
precedes (suc k) h g = is_along k h g && is_before g h

abbrev pub fold_of_totals : Fold → (List ℤ → Bool) → List LineTotal → ℤ
fold_of_totals op is_kept lines = folded op (map (λ line. line.1) (filter (λ line. is_kept line.0) lines))

-- the fold of what stands before the line that begins with h
abbrev pub before : Fold → ℕ → List LineTotal → List ℤ → ℤ
before op along lines h = fold_of_totals op (precedes along h) lines

-- the scan at x: what stands before the part's line that x is on, and that line's values up to and
-- with x
abbrev pub scan_at : Fold → ℕ → Region → List LineTotal → (List ℤ → Option ℤ) → List ℤ → ℤ
scan_at op along part lines value x =
    let k = line_dim part.rank along in
    joined op (before op along lines (head_of k part.dims x)) (fold_at op value (filter (is_up_along k x) (members part)))

-- and at all tuples of processor p's part, in row-major order
abbrev pub block_scan : Fold → ℕ → Blocks → ℕ → Region → List (List ℤ) → (List ℤ → Option ℤ) → List ℤ
block_scan op along blocks p region all value =
    let part = owned_part blocks p p region in
    map (scan_at op along part (lines_of (line_dim region.rank along) (parts_of blocks p region) all) value) (members part)

-- what it is meant to be, at x: the definition's scan over the whole region, in row-major order or
-- along a dimension
abbrev pub whole_scan : ℕ → Fold → Region → (List ℤ → Bool) → (List ℤ → ℤ) → List ℤ → ℤ
whole_scan zero op region is_kept e x = scanned op region is_kept e x
whole_scan (suc k) op region is_kept e x = scanned_along (suc k) op region is_kept e x

-- ---- how the totals are gone through

-- for tuples in ascending order: the fold of the lines that stand before the first of them, before
-- the second but not before the first, and so on
abbrev pub folds_between : Fold → List (List ℤ) → List LineTotal → List ℤ
folds_between op [] lines = []
folds_between op (h ∷ hs) lines =
    fold_of_totals op (precedes zero h) lines ∷ folds_between op hs (filter (λ line. not (is_before line.0 h)) lines)

-- what is kept for each line of a part while the lines of all parts are gone through
abbrev pub gone_through : Fold → ℕ → List (List ℤ) → List LineTotal → List ℤ
gone_through op zero hs lines = folds_between op hs lines
gone_through op (suc k) hs lines = map (before op (suc k) lines) hs

-- the number of the first own line behind one that begins with h, the own lines being given by
-- their first tuples: of all where the scan goes in row-major order, and else of the one that h is
-- on
abbrev pub line_behind : ℕ → Region → List ℤ → Option ℕ
line_behind zero own h = option_map (place_among own.dims) (find (is_before h) (members own))
line_behind (suc k) own h =
    let next = head_of k own.dims h in if is_member own next && is_before h next then Some (place_among own.dims next) else None

-- at each place a value, so_far and what stands before the place, joined
abbrev pub sums : Fold → ℤ → List ℤ → List ℤ
sums op so_far [] = []
sums op so_far (x ∷ xs) = joined op so_far x ∷ sums op (joined op so_far x) xs
