use Rattle.std.proofs.Common.{◌≡◌, ◌∙◌, sym, ap, subst, arith, true, false}
use Rattle.std.specs.List.{list_any}
use Rattle.node_form.specs.Value.{unmoved}
use Rattle.node_form.specs.declared.instructions.RegionForm.TheVariants.{Inside}
use Rattle.node_check.specs.Demand.{is_held, slots_made}
use Rattle.node_check.proofs.CodeLemmas.{and_same}
use Rattle.node_check.proofs.demands.has_edge.Goals as goal

pub returns : goal.returns
returns c =
    and_same (and_same (and_same c.are_none-none.ensures c.has_border-border.ensures)
    c.has_side-written.ensures)
    (c.has_side-read.ensures
    ∙ ap (λ shift. list_any
    (is_held c.args.tables.now c.args.facts.now c.args.edge.now.array unmoved)
    (slots_made c.args.facts.now Inside c.args.edge.now.slot shift))
    c.source_shift-shift.ensures)
