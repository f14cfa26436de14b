use Rattle.std.proofs.Common.{[], ◌∷◌, map, refl}
use Rattle.zpl_tree.specs.View.{name_of}
use Rattle.rank_types.specs.Names.{row, row_of, rows_for}
use Rattle.rank_types.proofs.NameTables.{pushed, rows-step}
use Rattle.rank_types.proofs.names.add_names.Goals as goal

pub loop-name-preserved : goal.loop-name-preserved
loop-name-preserved c =
    rows-step (λ xs. rows_for c.args.kind (map name_of xs)) (λ x. row c.args.kind (name_of x) ∷ []) (λ x rest. refl)
    c.args.more.now c.loop-name.name-index _ (map row_of c.loop-name.rows.items)
    (map row_of c.push.new.self.items) _ c.loop-name-test.true
    (pushed c.loop-name.rows.items c.push.new.self.items _ c.in_ok-push.ensures.items)
    c.loop-name.invariant
