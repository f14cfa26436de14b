use Rattle.std.proofs.Common.{subst, sym}
use Rattle.node_check.specs.Strike.{AreMarks}
use Rattle.node_check.proofs.StrikeLemmas.{struck_kept, struck_nones, struck_sizes}
use Rattle.node_check.proofs.strikes.strike_lost.Goals as goal

pub returns-clause-kept : goal.returns-clause-kept
returns-clause-kept c =
    struck_kept c.args.tables.now c.args.fronts.now.items c.strike_all.new.fronts.items
    c.as_slice-2.result.now c.strike_all.ensures.each c.strike_all.ensures.many
    (subst (λ marks. AreMarks c.args.tables.now marks) (sym c.as_slice-2.ensures.value)
    c.in_ok-carry_all.ensures.marks)
    c.requires.kept

pub returns-clause-same : goal.returns-clause-same
returns-clause-same c =
    struck_nones c.args.tables.now c.args.fronts.now.items c.strike_all.new.fronts.items
    c.as_slice-2.result.now c.strike_all.ensures.each c.strike_all.ensures.many

pub returns-clause-fewer : goal.returns-clause-fewer
returns-clause-fewer c =
    struck_sizes c.args.tables.now c.args.fronts.now.items c.strike_all.new.fronts.items
    c.as_slice-2.result.now c.strike_all.ensures.each c.strike_all.ensures.many
