use Rattle.std.proofs.Common.{◌≡◌, ◌≤◌, pos, List, [], ◌∷◌, length, get_or, All, Result, OkIff, sym, subst, arith}
use Rattle.zpl_region.specs.declared.dims.Dim.{Dim}
use Rattle.zpl_region.specs.declared.dims.Dim.TheVariants.{Range}
use Rattle.zpl_region.specs.declared.regions.Region.{Region}
use Rattle.zpl_region.specs.declared.regions.RegionLimit.{RegionLimit}
use Rattle.zpl_region.specs.Dim.{IsDimWithinLimit}
use Rattle.zpl_region.specs.Region.{IsRegion, members}
use Rattle.zpl_region.proofs.RegionLemmas.{all_of_three, limit_by_points, ok_region, three_are, within_is_dim}
use Rattle.zpl_region.proofs.regions.Region.new.Goals as goal
use Rattle.zpl_region.proofs.regions.Region.new.Goals.{In_ok-limited-3}

same : (c : In_ok-limited-3) → c.in_ok-limited.field-0 ∷ c.in_ok-limited-2.field-0 ∷ c.in_ok-limited-3.field-0 ∷ [] ≡ c.args.dims
same c =
    let three : length c.args.dims ≡ 3 = omega arith in
    three_are c.args.dims (Range (pos 0) (pos 0) (pos 0) (pos 0)) c.in_ok-limited.field-0 c.in_ok-limited-2.field-0 c.in_ok-limited-3.field-0 three c.in_ok-limited.ensures.1 c.in_ok-limited-2.ensures.1 c.in_ok-limited-3.ensures.1

within : (c : In_ok-limited-3) → All IsDimWithinLimit (c.in_ok-limited.field-0 ∷ c.in_ok-limited-2.field-0 ∷ c.in_ok-limited-3.field-0 ∷ [])
within c =
    let a = c.in_ok-limited in
    let b = c.in_ok-limited-2 in
    let d = c.in_ok-limited-3 in
    all_of_three IsDimWithinLimit a.field-0 b.field-0 d.field-0 (subst IsDimWithinLimit (sym a.ensures.1) a.ensures.0) (subst IsDimWithinLimit (sym b.ensures.1) b.ensures.0) (subst IsDimWithinLimit (sym d.ensures.1) d.ensures.0)

region : (c : In_ok-limited-3) → IsRegion (record { rank = c.args.rank; dims = c.args.dims })
region c =
    let all = subst (All IsDimWithinLimit) (same c) (within c) in
    record { rank_above = c.requires.above; rank_below = c.requires.below; dims = λ k d below. within_is_dim (get_or c.args.dims k d) (c.requires.steps k d below) (all k d below); padded = c.requires.padded }

pub limited-requires-4 : goal.limited-requires-4
limited-requires-4 c = rw (same (goal.at.limited-requires-4 c).In_ok-limited-3) (region (goal.at.limited-requires-4 c).In_ok-limited-3)

abbrev refused : (c : In_ok-limited-3) → Result Region RegionLimit → List Dim → Type 0
refused c res dims = OkIff res (length (members (record { rank = c.args.rank; dims = dims })) ≤ 4194304) (record { rank = c.args.rank; dims = dims })

abbrev built : (c : In_ok-limited-3) → List Dim
built c = c.in_ok-limited.field-0 ∷ c.in_ok-limited-2.field-0 ∷ c.in_ok-limited-3.field-0 ∷ []

pub returns-clause-limit : goal.returns-clause-limit
returns-clause-limit c =
    let w = (goal.at.returns-clause-limit c).In_ok-limited-3 in
    let r : Region = record { rank = c.args.rank; dims = c.args.dims } in
    let h : refused w c.limited-4.result (built w) = c.limited-4.ensures in
    limit_by_points c.limited-4.result r (subst (All IsDimWithinLimit) (same w) (within w)) (subst (refused w c.limited-4.result) (same w) h)

pub returns-clause-region : goal.returns-clause-region
returns-clause-region c =
    let w = (goal.at.returns-clause-region c).In_ok-limited-3 in
    let r : Region = record { rank = c.args.rank; dims = c.args.dims } in
    let h : refused w c.limited-4.result (built w) = c.limited-4.ensures in
    ok_region c.limited-4.result (length (members r) ≤ 4194304) r (region w) (subst (refused w c.limited-4.result) (same w) h)
