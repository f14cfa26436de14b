use Rattle.std.proofs.Common.{◌∙◌, sym}
use Rattle.node_check.proofs.CodeLemmas.{kept_all}
use Rattle.node_check.proofs.losses.kept.Goals as goal

pub returns-then-loses_none : goal.returns-then-loses_none
returns-then-loses_none c =
    kept_all c.args.tables.now c.args.row.now
    (sym c.loses_none.ensures ∙ c.if-loses_none.true) c.args.facts.items
