use Rattle.std.proofs.Common.{[], ◌∷◌, map, refl}
use Rattle.zpl_tree.specs.View.{name_of, region_of}
use Rattle.rank_types.specs.Names.{region_rows, row, row_of}
use Rattle.rank_types.specs.declared.symbols.NameKind.TheVariants as kind
use Rattle.rank_types.proofs.NameTables.{pushed, rows-step}
use Rattle.rank_types.proofs.names.add_regions.Goals as goal

pub loop-region-preserved : goal.loop-region-preserved
loop-region-preserved c =
    rows-step (λ xs. region_rows (map region_of xs)) (λ x. row kind.Region (name_of x.name) ∷ []) (λ x rest. refl)
    c.args.regions.now c.loop-region.region-index _ (map row_of c.loop-region.rows.items)
    (map row_of c.push.new.self.items) _ c.loop-region-test.true
    (pushed c.loop-region.rows.items c.push.new.self.items _ c.in_ok-push.ensures.items)
    c.loop-region.invariant
