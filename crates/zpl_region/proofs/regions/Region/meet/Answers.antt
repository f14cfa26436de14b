use Rattle.std.proofs.Common.{◌≡◌, ◌≤◌, pos, w64, to_z, of_z, [], ◌∷◌, length, get_or, sym, ◌∙◌, ap, subst, arith}
use Rattle.std.proofs.lemmas.Int.{ints}
use Rattle.zpl_region.specs.declared.dims.Dim.{Dim}
use Rattle.zpl_region.specs.declared.dims.Dim.TheVariants.{Range}
use Rattle.zpl_region.specs.declared.regions.Region.{Region}
use Rattle.zpl_region.specs.Dim.{dim_met}
use Rattle.zpl_region.specs.Region.{IsRegion, members, met}
use Rattle.zpl_region.proofs.LawLemmas.{length-met}
use Rattle.zpl_region.proofs.RegionLemmas.{met_is, met_region}
use Rattle.zpl_region.proofs.regions.Region.meet.Goals as goal
use Rattle.zpl_region.proofs.regions.Region.meet.Goals.{After-met-3}

abbrev nothing : Dim
nothing = Range (pos 0) (pos 0) (pos 0) (pos 0)

same : (c : After-met-3) → ◌≡◌ {A = Region} (record { rank = c.args.self.now.rank; dims = c.met.result ∷ c.met-2.result ∷ c.met-3.result ∷ [] }) (met c.args.lo c.args.hi c.args.self.now)
same c =
    let v = c.components.result in
    let w = c.components-2.result in
    let dims = c.args.self.now.dims in
    let x : to_z w64 (of_z w64 (get_or c.components.result 0 (pos 0))) ≡ get_or c.components.result 0 (pos 0) = omega (arith, ints) in
    let y : to_z w64 (of_z w64 (get_or c.components.result 1 (pos 0))) ≡ get_or c.components.result 1 (pos 0) = omega (arith, ints) in
    let z : to_z w64 (of_z w64 (get_or c.components.result 2 (pos 0))) ≡ get_or c.components.result 2 (pos 0) = omega (arith, ints) in
    let x' : to_z w64 (of_z w64 (get_or c.components-2.result 0 (pos 0))) ≡ get_or c.components-2.result 0 (pos 0) = omega (arith, ints) in
    let y' : to_z w64 (of_z w64 (get_or c.components-2.result 1 (pos 0))) ≡ get_or c.components-2.result 1 (pos 0) = omega (arith, ints) in
    let z' : to_z w64 (of_z w64 (get_or c.components-2.result 2 (pos 0))) ≡ get_or c.components-2.result 2 (pos 0) = omega (arith, ints) in
    met_is c.args.self.now c.args.lo c.args.hi v w c.met.result c.met-2.result c.met-3.result nothing c.components.ensures c.components-2.ensures (omega arith) (omega arith) (omega arith)
    (c.met.ensures ∙ (ap (λ l. dim_met l (to_z w64 (of_z w64 (get_or w 0 (pos 0)))) (get_or dims 0 nothing)) x ∙ ap (λ h. dim_met (get_or v 0 (pos 0)) h (get_or dims 0 nothing)) x'))
    (c.met-2.ensures ∙ (ap (λ l. dim_met l (to_z w64 (of_z w64 (get_or w 1 (pos 0)))) (get_or dims 1 nothing)) y ∙ ap (λ h. dim_met (get_or v 1 (pos 0)) h (get_or dims 1 nothing)) y'))
    (c.met-3.ensures ∙ (ap (λ l. dim_met l (to_z w64 (of_z w64 (get_or w 2 (pos 0)))) (get_or dims 2 nothing)) z ∙ ap (λ h. dim_met (get_or v 2 (pos 0)) h (get_or dims 2 nothing)) z'))

pub returns-clause-met : goal.returns-clause-met
returns-clause-met c = same (goal.at.returns-clause-met c).After-met-3

pub returns-clause-region : goal.returns-clause-region
returns-clause-region c = λ reach. subst IsRegion (sym (same (goal.at.returns-clause-region c).After-met-3)) (met_region c.args.self.now c.args.lo c.args.hi c.requires reach)

pub returns-clause-points : goal.returns-clause-points
returns-clause-points c =
    let w = (goal.at.returns-clause-points c).After-met-3 in
    subst (λ r. length (members r) ≤ length (members c.args.self.now)) (sym (same w)) (length-met c.args.self.now c.args.lo c.args.hi)
