use Rattle.std.proofs.Common.{[], ◌∷◌, map, refl}
use Rattle.zpl_tree.specs.View.{direction_of, name_of}
use Rattle.rank_types.specs.Names.{direction_rows, row, row_of}
use Rattle.rank_types.specs.declared.symbols.NameKind.TheVariants as kind
use Rattle.rank_types.proofs.NameTables.{pushed, rows-step}
use Rattle.rank_types.proofs.names.add_directions.Goals as goal

pub loop-direction-preserved : goal.loop-direction-preserved
loop-direction-preserved c =
    rows-step (λ xs. direction_rows (map direction_of xs)) (λ x. row kind.Direction (name_of x.name) ∷ []) (λ x rest. refl)
    c.args.directions.now c.loop-direction.direction-index _ (map row_of c.loop-direction.rows.items)
    (map row_of c.push.new.self.items) _ c.loop-direction-test.true
    (pushed c.loop-direction.rows.items c.push.new.self.items _ c.in_ok-push.ensures.items)
    c.loop-direction.invariant
