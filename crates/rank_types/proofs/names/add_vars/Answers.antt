use Rattle.std.proofs.Common.{map}
use Rattle.rank_types.specs.Names.{row_of}
use Rattle.rank_types.proofs.NameTables.{vars-step}
use Rattle.rank_types.proofs.names.add_vars.Goals as goal

pub loop-var-preserved : goal.loop-var-preserved
loop-var-preserved c =
    vars-step c.args.vars.now c.loop-var.var-index _ (map row_of c.loop-var.rows.items)
    (map row_of c.add_names.new.rows.items) _ c.variable_kind.result c.loop-var-test.true
    c.in_ok-add_names.ensures c.variable_kind.ensures c.loop-var.invariant
