use Rattle.std.proofs.Common.{◌≡◌, ◌<◌, pos, [], ◌∷◌, sym, ◌∙◌, subst, arith}
use Rattle.zpl_region.specs.declared.dims.Dim.{Dim}
use Rattle.zpl_region.specs.declared.dims.Dim.TheVariants.{Range}
use Rattle.zpl_region.specs.declared.regions.Region.{Region}
use Rattle.zpl_region.specs.Ends.{tuple_count}
use Rattle.zpl_region.specs.Hull.{hull_with}
use Rattle.zpl_region.specs.Region.{IsRegion}
use Rattle.zpl_region.proofs.HullCode.{each_some, none_told, some_told, wides_are, with_both, with_none, with_some}
use Rattle.zpl_region.proofs.HullWithLemmas.{hull_with_region}
use Rattle.zpl_region.proofs.regions.Region.hull_with.Goals as goal
use Rattle.zpl_region.proofs.regions.Region.hull_with.Goals.{After-hull_with-3}

abbrev nothing : Dim
nothing = Range (pos 0) (pos 0) (pos 0) (pos 0)

pub returns-then-is_empty-clause-hull : goal.returns-then-is_empty-clause-hull
returns-then-is_empty-clause-hull c =
    c.hull.ensures.hull ∙ with_none c.args.self.now c.args.other.now (none_told c.is_empty.result c.args.other.now c.requires.there c.is_empty.ensures c.if-is_empty.true)

pub returns-then-is_empty-2-clause-hull : goal.returns-then-is_empty-2-clause-hull
returns-then-is_empty-2-clause-hull c =
    c.hull-then-is_empty-2.ensures.hull
    ∙ with_some c.args.self.now c.args.other.now (some_told c.is_empty.result c.args.other.now c.requires.there c.is_empty.ensures c.if-is_empty.false)
    (none_told c.is_empty-2.result c.args.self.now c.requires.here c.is_empty-2.ensures c.if-is_empty-2.true)

pub hull_with-requires-clause-some : goal.hull_with-requires-clause-some
hull_with-requires-clause-some c =
    (each_some c.args.self.now.dims nothing (omega arith) (some_told c.is_empty-2.result c.args.self.now c.requires.here c.is_empty-2.ensures c.if-is_empty-2.false)).0

pub hull_with-requires-clause-others : goal.hull_with-requires-clause-others
hull_with-requires-clause-others c =
    (each_some c.args.other.now.dims nothing (omega arith) (some_told c.is_empty.result c.args.other.now c.requires.there c.is_empty.ensures c.if-is_empty.false)).0

pub hull_with-requires-2-clause-some : goal.hull_with-requires-2-clause-some
hull_with-requires-2-clause-some c =
    (each_some c.args.self.now.dims nothing (omega arith) (some_told c.is_empty-2.result c.args.self.now c.requires.here c.is_empty-2.ensures c.if-is_empty-2.false)).1

pub hull_with-requires-2-clause-others : goal.hull_with-requires-2-clause-others
hull_with-requires-2-clause-others c =
    (each_some c.args.other.now.dims nothing (omega arith) (some_told c.is_empty.result c.args.other.now c.requires.there c.is_empty.ensures c.if-is_empty.false)).1

pub hull_with-requires-3-clause-some : goal.hull_with-requires-3-clause-some
hull_with-requires-3-clause-some c =
    (each_some c.args.self.now.dims nothing (omega arith) (some_told c.is_empty-2.result c.args.self.now c.requires.here c.is_empty-2.ensures c.if-is_empty-2.false)).2

pub hull_with-requires-3-clause-others : goal.hull_with-requires-3-clause-others
hull_with-requires-3-clause-others c =
    (each_some c.args.other.now.dims nothing (omega arith) (some_told c.is_empty.result c.args.other.now c.requires.there c.is_empty.ensures c.if-is_empty.false)).2

same : (c : After-hull_with-3) → 0 < tuple_count c.args.other.now.dims → 0 < tuple_count c.args.self.now.dims
    → ◌≡◌ {A = Region} (record { rank = c.args.self.now.rank; dims = c.hull_with.result ∷ c.hull_with-2.result ∷ c.hull_with-3.result ∷ [] }) (hull_with c.args.self.now c.args.other.now)
same c some more =
    with_both c.args.self.now c.args.other.now (c.hull_with.result ∷ c.hull_with-2.result ∷ c.hull_with-3.result ∷ []) some more
    (wides_are c.args.self.now.dims c.args.other.now.dims nothing c.hull_with.result c.hull_with-2.result c.hull_with-3.result (omega arith) (omega arith) c.hull_with.ensures c.hull_with-2.ensures c.hull_with-3.ensures)

pub returns-clause-hull : goal.returns-clause-hull
returns-clause-hull c =
    same (goal.at.returns-clause-hull c).After-hull_with-3 (some_told c.is_empty.result c.args.other.now c.requires.there c.is_empty.ensures c.if-is_empty.false)
    (some_told c.is_empty-2.result c.args.self.now c.requires.here c.is_empty-2.ensures c.if-is_empty-2.false)

pub returns-clause-region : goal.returns-clause-region
returns-clause-region c =
    subst IsRegion (sym (same (goal.at.returns-clause-region c).After-hull_with-3 (some_told c.is_empty.result c.args.other.now c.requires.there c.is_empty.ensures c.if-is_empty.false)
    (some_told c.is_empty-2.result c.args.self.now c.requires.here c.is_empty-2.ensures c.if-is_empty-2.false))) (hull_with_region c.args.self.now c.args.other.now c.requires)
