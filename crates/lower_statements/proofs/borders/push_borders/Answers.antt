use Rattle.std.proofs.Common.{arith}
use Rattle.lower_points.specs.of_lower_places.View.{edge_of, where_of}
use Rattle.lower_statements.proofs.BorderLemmas.{borders_all, borders_on}
use Rattle.lower_statements.proofs.borders.push_borders.Goals as goal

pub loop-name-preserved : goal.loop-name-preserved
loop-name-preserved c =
    let at = c.args.at.now in
    borders_on (where_of c.args.place.now) at.kind (edge_of at.edge) at.border at.source at.line
    c.args.names.now c.loop-name.name-index _ c.loop-name.draft c.push_named.new.draft _
    (omega arith) c.in_ok-push_named.ensures c.loop-name.invariant

pub returns : goal.returns
returns c =
    let at = c.args.at.now in
    borders_all (where_of c.args.place.now) at.kind (edge_of at.edge) at.border at.source at.line
    c.args.names.now c.loop-name.name-index c.loop-name.draft _ (omega arith)
    c.loop-name.invariant
