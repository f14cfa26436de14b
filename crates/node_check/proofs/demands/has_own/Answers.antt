use Rattle.std.proofs.Common.{◌≡◌, ◌∙◌, sym, ap, subst, arith, true, false}
use Rattle.node_check.specs.Demand.{has_own}
use Rattle.node_check.proofs.CodeLemmas.{and_same}
use Rattle.node_check.proofs.demands.has_own.Goals as goal

pub returns-in-Edge : goal.returns-in-Edge
returns-in-Edge c =
    c.has_edge.ensures
    ∙ ap (has_own c.args.tables.now c.args.facts.now c.args.opened.now) (sym c.in-Edge.is)

pub returns-in-Flood : goal.returns-in-Flood
returns-in-Flood c =
    c.has_pair.ensures
    ∙ ap (has_own c.args.tables.now c.args.facts.now c.args.opened.now) (sym c.in-Flood.is)

pub returns-in-Part : goal.returns-in-Part
returns-in-Part c =
    c.has_pair-in-Part.ensures
    ∙ ap (has_own c.args.tables.now c.args.facts.now c.args.opened.now) (sym c.in-Part.is)

pub returns-in-Scan : goal.returns-in-Scan
returns-in-Scan c =
    and_same c.are_none-none.ensures
    (and_same c.holds-target.ensures (and_same c.holds-source.ensures c.hold-masked.ensures))
    ∙ ap (has_own c.args.tables.now c.args.facts.now c.args.opened.now) (sym c.in-Scan.is)

pub returns-in-Remap : goal.returns-in-Remap
returns-in-Remap c =
    and_same c.are_none-none-in-Remap.ensures
    (and_same c.holds-target-in-Remap.ensures c.all_hold-sources.ensures)
    ∙ ap (has_own c.args.tables.now c.args.facts.now c.args.opened.now) (sym c.in-Remap.is)
