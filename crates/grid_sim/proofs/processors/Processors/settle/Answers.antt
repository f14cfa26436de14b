use Rattle.std.proofs.Common.{◌≡◌, ◌<◌, ◌∙◌, ap, sym, subst, length}
use Rattle.std.specs.Prelude.{is_some}
use Rattle.grid_sim.specs.declared.processors.Processors.{Processors as Team}
use Rattle.grid_sim.specs.Processors.{AreProcessors, HaveMarks}
use Rattle.grid_sim.proofs.TeamLemmas.{item_there, settled_awake, settled_marks}
use Rattle.grid_sim.proofs.TurnLemmas.{settled_is}
use Rattle.grid_sim.proofs.processors.Processors.settle.Goals as goal

pub seek_from-requires-clause-marks : goal.seek_from-requires-clause-marks
seek_from-requires-clause-marks c =
    let team = c.args.self.now in
    let inside : c.args.p < length team.locals.items = subst (λ n. c.args.p < n) (sym c.requires.moved.states.many) c.requires.processor in
    let there = item_there team.locals.items c.args.p c.index.result.now c.index.ensures inside in
    subst (HaveMarks c.args.code.now)
    (sym (settled_is team c.unmark.new.self c.args.p c.args.traffic c.index.result.now c.set.new.self c.is_some-ended.result there
    (c.is_some-ended.ensures ∙ ap is_some c.ending.ensures) c.set.ensures c.unmark.ensures))
    (settled_marks c.args.code.now team c.args.p c.args.traffic c.requires.moved c.requires.processor c.requires.partner)

pub returns-else-self-p-clause-processors : goal.returns-else-self-p-clause-processors
returns-else-self-p-clause-processors c =
    let team = c.args.self.now in
    let inside : c.args.p < length team.locals.items = subst (λ n. c.args.p < n) (sym c.requires.moved.states.many) c.requires.processor in
    let there = item_there team.locals.items c.args.p c.index.result.now c.index.ensures inside in
    let awake : c.unmark.new.self.awake ≡ team.awake = ap (λ (t : Team). t.awake) c.unmark.ensures in
    subst (AreProcessors c.args.code.now)
    (sym (settled_is team c.unmark.new.self c.args.p c.args.traffic c.index.result.now c.set.new.self c.is_some-ended.result there
    (c.is_some-ended.ensures ∙ ap is_some c.ending.ensures) c.set.ensures c.unmark.ensures))
    (settled_awake c.args.code.now team c.args.p c.args.traffic c.requires.moved c.requires.processor c.requires.partner
    (λ same. c.if-self-p.false (awake ∙ same)))
