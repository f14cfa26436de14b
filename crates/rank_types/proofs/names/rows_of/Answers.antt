use Rattle.std.proofs.Common.{map}
use Rattle.rank_types.specs.Names.{row_of}
use Rattle.rank_types.proofs.NameTables.{decls-step}
use Rattle.rank_types.proofs.names.rows_of.Goals as goal

pub loop-decl-preserved : goal.loop-decl-preserved
loop-decl-preserved c =
    decls-step c.args.decls.now c.loop-decl.decl-index c.decl-item.result
    (map row_of c.loop-decl.rows.items) (map row_of c.add_decl.new.rows.items) _
    c.loop-decl-test.true c.decl-item.is c.in_ok-add_decl.ensures c.loop-decl.invariant
