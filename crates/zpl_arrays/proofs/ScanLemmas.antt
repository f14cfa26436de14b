-- Lemmas on scans in parts.
use Rattle.std.proofs.Common.{◌≡◌, ℕ, zero, suc, ◌-◌, Bool, ◌&&◌, not, List, [], ◌∷◌, drop, replicate, length, ℤ, pos, refl, sym, ◌∙◌, ap, subst, arith}
use Rattle.std.specs.List.{AllZip}
use Rattle.std.proofs.lemmas.Int.{ints}
use Rattle.zpl_nums.specs.declared.folds.Fold.{Fold}
use Rattle.zpl_nums.specs.Fold.{joined}
use Rattle.zpl_region.specs.declared.dims.Dim.{Dim}
use Rattle.zpl_region.specs.declared.regions.Region.{Region}
use Rattle.zpl_region.specs.Dim.{IsCoordinate}
use Rattle.zpl_region.specs.Region.{IsMember, IsRegion, members, padding}
use Rattle.zpl_region.proofs.HullLemmas.{has_steps}
use Rattle.zpl_region.proofs.LawLemmas.{members_iff}
use Rattle.zpl_region.proofs.ListLemmas.{Among, Contains-from_among, cons_same}
use Rattle.zpl_arrays.specs.Fold.{kept_fold}
use Rattle.zpl_arrays.specs.Scan.{is_below, is_earlier_line, is_through, is_up_along, scanned, scanned_along}
use Rattle.zpl_arrays.proofs.FoldLemmas.{InTwo, along_in_two, and_two, fold_in_two, through_in_two}

-- ---- tuples past the rank
rest_of : (n : ℕ) (dims : List Dim) (t : List ℤ) → AllZip IsCoordinate dims t → AllZip IsCoordinate (drop n dims) (drop n t)
rest_of zero dims t z = z
rest_of (suc n) [] [] z = tt
rest_of (suc n) [] (x ∷ t) z = absurd z
rest_of (suc n) (d ∷ dims) [] z = absurd z
rest_of (suc n) (d ∷ dims) (x ∷ t) z = rest_of n dims t z.1

zeros_of_padding : (n : ℕ) (t : List ℤ) → AllZip IsCoordinate (replicate n padding) t → t ≡ replicate n (pos 0)
zeros_of_padding zero [] z = refl
zeros_of_padding zero (x ∷ t) z = absurd z
zeros_of_padding (suc n) [] z = absurd z
zeros_of_padding (suc n) (x ∷ t) z = let none : x ≡ pos 0 = omega (arith, ints, z.0.0, z.0.1) in cons_same none (zeros_of_padding n t z.1)

past_the_rank : (r : Region) (t : List ℤ) → IsRegion r → IsMember r t → drop r.rank t ≡ replicate (3 - r.rank) (pos 0)
past_the_rank r t is z = zeros_of_padding (3 - r.rank) (drop r.rank t) (subst (λ dims. AllZip IsCoordinate dims (drop r.rank t)) is.padded (rest_of r.rank r.dims t z))

pub as_long : (dims : List Dim) (t : List ℤ) → AllZip IsCoordinate dims t → length t ≡ length dims
as_long [] [] z = refl
as_long [] (x ∷ t) z = absurd z
as_long (d ∷ dims) [] z = absurd z
as_long (d ∷ dims) (x ∷ t) z = ap suc (as_long dims t z.1)

-- the scan at a tuple joins the earlier lines and the part of its own line up to it
pub scanned_by_lines : (op : Fold) (r : Region) (is_kept : List ℤ → Bool) (e : List ℤ → ℤ) (x : List ℤ) → IsRegion r → length r.dims ≡ 3 → IsMember r x
    → scanned op r is_kept e x ≡ joined op (kept_fold op (λ t. is_kept t && is_earlier_line (r.rank - 1) x t) e (members r)) (scanned_along r.rank op r is_kept e x)
scanned_by_lines op r is_kept e x is three here =
    fold_in_two op (λ t. is_kept t && is_through x t) (λ t. is_kept t && is_earlier_line (r.rank - 1) x t) (λ t. is_kept t && is_up_along (r.rank - 1) x t) e (members r) each
  where
    each : (t : List ℤ) → Among (members r) t → InTwo (λ t. is_kept t && is_through x t) (λ t. is_kept t && is_earlier_line (r.rank - 1) x t) (λ t. is_kept t && is_up_along (r.rank - 1) x t) t
    each t m =
        let there = (members_iff r t (has_steps r.dims is.dims)).0 (Contains-from_among (members r) t m) in
        let rank_is : r.rank ≡ suc (r.rank - 1) = omega (arith, is.rank_above) in
        let rest : drop r.rank t ≡ drop r.rank x = past_the_rank r t is there ∙ sym (past_the_rank r x is here) in
        let two = through_in_two (r.rank - 1) x t (omega (arith, is.rank_above, is.rank_below, as_long r.dims x here)) (as_long r.dims x here ∙ sym (as_long r.dims t there)) (subst (λ n. drop n t ≡ drop n x) rank_is rest) in
        let both = and_two (is_kept t) (is_through x t) (is_earlier_line (r.rank - 1) x t) (is_up_along (r.rank - 1) x t) two.0 two.1 in
        record { either = both.0; not_both = both.1 }

-- and that part joins what stands below a number and what stands from it on
pub scanned_by_parts : (k : ℕ) (op : Fold) (r : Region) (is_kept : List ℤ → Bool) (e : List ℤ → ℤ) (x : List ℤ) (low : ℤ)
    → scanned_along k op r is_kept e x
    ≡ joined op (kept_fold op (λ t. (is_kept t && is_up_along (k - 1) x t) && is_below (k - 1) low t) e (members r))
    (kept_fold op (λ t. (is_kept t && is_up_along (k - 1) x t) && not (is_below (k - 1) low t)) e (members r))
scanned_by_parts k op r is_kept e x low =
    fold_in_two op (λ t. is_kept t && is_up_along (k - 1) x t) (λ t. (is_kept t && is_up_along (k - 1) x t) && is_below (k - 1) low t) (λ t. (is_kept t && is_up_along (k - 1) x t) && not (is_below (k - 1) low t)) e (members r)
    (λ t m. let two = along_in_two (is_kept t && is_up_along (k - 1) x t) (k - 1) low t in record { either = two.0; not_both = two.1 })
