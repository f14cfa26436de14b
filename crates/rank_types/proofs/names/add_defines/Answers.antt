use Rattle.std.proofs.Common.{[], ◌∷◌, map, refl}
use Rattle.zpl_tree.specs.View.{define_of, name_of}
use Rattle.rank_types.specs.Names.{define_rows, row, row_of}
use Rattle.rank_types.proofs.NameTables.{pushed, rows-step}
use Rattle.rank_types.proofs.names.add_defines.Goals as goal

pub loop-define-preserved : goal.loop-define-preserved
loop-define-preserved c =
    rows-step (λ xs. define_rows c.args.kind (map define_of xs)) (λ x. row c.args.kind (name_of x.name) ∷ []) (λ x rest. refl)
    c.args.defines.now c.loop-define.define-index _ (map row_of c.loop-define.rows.items)
    (map row_of c.push.new.self.items) _ c.loop-define-test.true
    (pushed c.loop-define.rows.items c.push.new.self.items _ c.in_ok-push.ensures.items)
    c.loop-define.invariant
