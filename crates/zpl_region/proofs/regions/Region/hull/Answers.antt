use Rattle.std.proofs.Common.{◌≡◌, ◌<◌, pos, [], ◌∷◌, sym, ◌∙◌, subst, arith}
use Rattle.zpl_region.specs.declared.dims.Dim.{Dim}
use Rattle.zpl_region.specs.declared.dims.Dim.TheVariants.{Range}
use Rattle.zpl_region.specs.declared.regions.Region.{Region}
use Rattle.zpl_region.specs.Ends.{tuple_count}
use Rattle.zpl_region.specs.Hull.{dim_hull, hull}
use Rattle.zpl_region.specs.Region.{IsRegion}
use Rattle.zpl_region.proofs.HullCode.{each_some, hull_none, hull_some, mapped_is, none_told, some_told}
use Rattle.zpl_region.proofs.HullLemmas.{hull_region}
use Rattle.zpl_region.proofs.regions.Region.hull.Goals as goal
use Rattle.zpl_region.proofs.regions.Region.hull.Goals.{After-hull-3}

abbrev nothing : Dim
nothing = Range (pos 0) (pos 0) (pos 0) (pos 0)

pub returns-then-is_empty-clause-hull : goal.returns-then-is_empty-clause-hull
returns-then-is_empty-clause-hull c =
    c.emptied.ensures ∙ hull_none c.args.self.now (none_told c.is_empty.result c.args.self.now c.requires c.is_empty.ensures c.if-is_empty.true)

pub returns-then-is_empty-clause-region : goal.returns-then-is_empty-clause-region
returns-then-is_empty-clause-region c =
    subst IsRegion (sym (c.emptied.ensures ∙ hull_none c.args.self.now (none_told c.is_empty.result c.args.self.now c.requires c.is_empty.ensures c.if-is_empty.true))) (hull_region c.args.self.now c.requires)

pub hull-requires-clause-some : goal.hull-requires-clause-some
hull-requires-clause-some c = (each_some c.args.self.now.dims nothing (omega arith) (some_told c.is_empty.result c.args.self.now c.requires c.is_empty.ensures c.if-is_empty.false)).0

pub hull-requires-2-clause-some : goal.hull-requires-2-clause-some
hull-requires-2-clause-some c = (each_some c.args.self.now.dims nothing (omega arith) (some_told c.is_empty.result c.args.self.now c.requires c.is_empty.ensures c.if-is_empty.false)).1

pub hull-requires-3-clause-some : goal.hull-requires-3-clause-some
hull-requires-3-clause-some c = (each_some c.args.self.now.dims nothing (omega arith) (some_told c.is_empty.result c.args.self.now c.requires c.is_empty.ensures c.if-is_empty.false)).2

same : (c : After-hull-3) → 0 < tuple_count c.args.self.now.dims → ◌≡◌ {A = Region} (record { rank = c.args.self.now.rank; dims = c.hull.result ∷ c.hull-2.result ∷ c.hull-3.result ∷ [] }) (hull c.args.self.now)
same c some =
    hull_some c.args.self.now (c.hull.result ∷ c.hull-2.result ∷ c.hull-3.result ∷ []) some
    (mapped_is dim_hull c.args.self.now.dims nothing c.hull.result c.hull-2.result c.hull-3.result (omega arith) c.hull.ensures c.hull-2.ensures c.hull-3.ensures)

pub returns-clause-hull : goal.returns-clause-hull
returns-clause-hull c = same (goal.at.returns-clause-hull c).After-hull-3 (some_told c.is_empty.result c.args.self.now c.requires c.is_empty.ensures c.if-is_empty.false)

pub returns-clause-region : goal.returns-clause-region
returns-clause-region c =
    subst IsRegion (sym (same (goal.at.returns-clause-region c).After-hull-3 (some_told c.is_empty.result c.args.self.now c.requires c.is_empty.ensures c.if-is_empty.false))) (hull_region c.args.self.now c.requires)
