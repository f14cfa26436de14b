use Rattle.std.proofs.Common.{◌≡◌, pos, w64, to_z, of_z, [], ◌∷◌, length, get_or, ◌∙◌, ap, subst, sym, arith}
use Rattle.std.proofs.lemmas.Int.{ints}
use Rattle.zpl_region.specs.declared.dims.Dim.{Dim}
use Rattle.zpl_region.specs.declared.dims.Dim.TheVariants.{Range}
use Rattle.zpl_region.specs.declared.regions.Region.{Region}
use Rattle.zpl_region.specs.Region.{IsRegion, members, moved}
use Rattle.zpl_region.specs.Dim.{HasBounds, dim_moved}
use Rattle.zpl_region.proofs.LawLemmas.{length-moved}
use Rattle.zpl_region.proofs.RegionLemmas.{formed_all, formed_is, moved_region}
use Rattle.zpl_region.proofs.regions.Region.shift.Goals as goal
use Rattle.zpl_region.proofs.regions.Region.shift.Goals.{After-components, After-shifted-3}

abbrev nothing : Dim
nothing = Range (pos 0) (pos 0) (pos 0) (pos 0)

bounds : (c : After-components) → HasBounds (dim_moved (get_or c.components.result 0 (pos 0)) (get_or c.args.self.now.dims 0 nothing))
    × HasBounds (dim_moved (get_or c.components.result 1 (pos 0)) (get_or c.args.self.now.dims 1 nothing))
    × HasBounds (dim_moved (get_or c.components.result 2 (pos 0)) (get_or c.args.self.now.dims 2 nothing))
bounds c =
    formed_all dim_moved c.args.self.now c.args.d c.components.result nothing nothing nothing nothing c.components.ensures (omega arith) (omega arith) HasBounds c.requires.bounds

pub shifted-requires-clause-bounds : goal.shifted-requires-clause-bounds
shifted-requires-clause-bounds c =
    let x : to_z w64 (of_z w64 (get_or c.components.result 0 (pos 0))) ≡ get_or c.components.result 0 (pos 0) = omega (arith, ints) in
    subst (λ z. HasBounds (dim_moved z (get_or c.args.self.now.dims 0 nothing))) (sym x) (bounds (goal.at.shifted-requires-clause-bounds c).After-components).0

pub shifted-requires-2-clause-bounds : goal.shifted-requires-2-clause-bounds
shifted-requires-2-clause-bounds c =
    let x : to_z w64 (of_z w64 (get_or c.components.result 1 (pos 0))) ≡ get_or c.components.result 1 (pos 0) = omega (arith, ints) in
    subst (λ z. HasBounds (dim_moved z (get_or c.args.self.now.dims 1 nothing))) (sym x) (bounds (goal.at.shifted-requires-2-clause-bounds c).After-components).1

pub shifted-requires-3-clause-bounds : goal.shifted-requires-3-clause-bounds
shifted-requires-3-clause-bounds c =
    let x : to_z w64 (of_z w64 (get_or c.components.result 2 (pos 0))) ≡ get_or c.components.result 2 (pos 0) = omega (arith, ints) in
    subst (λ z. HasBounds (dim_moved z (get_or c.args.self.now.dims 2 nothing))) (sym x) (bounds (goal.at.shifted-requires-3-clause-bounds c).After-components).2

same : (c : After-shifted-3) → ◌≡◌ {A = Region} (record { rank = c.args.self.now.rank; dims = c.shifted.result ∷ c.shifted-2.result ∷ c.shifted-3.result ∷ [] }) (moved c.args.d c.args.self.now)
same c =
    let v = c.components.result in
    let dims = c.args.self.now.dims in
    let x : to_z w64 (of_z w64 (get_or c.components.result 0 (pos 0))) ≡ get_or c.components.result 0 (pos 0) = omega (arith, ints) in
    let y : to_z w64 (of_z w64 (get_or c.components.result 1 (pos 0))) ≡ get_or c.components.result 1 (pos 0) = omega (arith, ints) in
    let z : to_z w64 (of_z w64 (get_or c.components.result 2 (pos 0))) ≡ get_or c.components.result 2 (pos 0) = omega (arith, ints) in
    formed_is dim_moved c.args.self.now c.args.d v c.shifted.result c.shifted-2.result c.shifted-3.result nothing c.components.ensures (omega arith) (omega arith)
    (c.shifted.ensures ∙ ap (λ d. dim_moved d (get_or dims 0 nothing)) x)
    (c.shifted-2.ensures ∙ ap (λ d. dim_moved d (get_or dims 1 nothing)) y)
    (c.shifted-3.ensures ∙ ap (λ d. dim_moved d (get_or dims 2 nothing)) z)

pub returns-clause-moved : goal.returns-clause-moved
returns-clause-moved c = same (goal.at.returns-clause-moved c).After-shifted-3

pub returns-clause-region : goal.returns-clause-region
returns-clause-region c = λ aligns. subst IsRegion (sym (same (goal.at.returns-clause-region c).After-shifted-3)) (moved_region c.args.self.now c.args.d c.requires.region c.requires.bounds aligns)

pub returns-clause-points : goal.returns-clause-points
returns-clause-points c = ap (λ r. length (members r)) (same (goal.at.returns-clause-points c).After-shifted-3) ∙ length-moved c.args.self.now c.args.d
