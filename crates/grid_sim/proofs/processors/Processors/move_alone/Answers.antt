use Rattle.std.proofs.Common.{◌≡◌, ◌<◌, ap, sym, subst, length, refl}
use Rattle.node_turn.specs.declared.steps.Step.TheVariants as step
use Rattle.node_turn.specs.declared.steps.Traffic.TheVariants.{Quiet}
use Rattle.grid_sim.specs.declared.processors.Processors.{Processors as Team}
use Rattle.grid_sim.proofs.TeamLemmas.{item_there, same_processors}
use Rattle.grid_sim.proofs.TurnLemmas.{forgotten, kept_same, known_kept, partners_many, turn_left, turned_marks, turned_on, with_known, with_state}
use Rattle.grid_sim.proofs.processors.Processors.move_alone.Goals as goal

pub has-requires : goal.has-requires
has-requires c = subst (λ n. c.args.p < n) (sym c.requires.processors.marks.resting.many) c.requires.processor

pub moves_alone-requires-clause-ready : goal.moves_alone-requires-clause-ready
moves_alone-requires-clause-ready c =
    let items = c.args.self.now.locals.items in
    let inside : c.args.p < length items = subst (λ n. c.args.p < n) (sym c.requires.processors.marks.states.many) c.requires.processor in
    c.requires.processors.marks.states.ready c.args.p c.index_mut.result.now
    (item_there items c.args.p c.index_mut.result.now c.index_mut.ensures.value inside)

pub returns-then-not-moves_alone-clause-processors : goal.returns-then-not-moves_alone-clause-processors
returns-then-not-moves_alone-clause-processors c =
    let old = c.args.self.now in
    same_processors c.args.code.now old (with_state old c.args.p c.moves_alone.new.local old.links)
    (kept_same old c.args.p c.index_mut.result.now c.moves_alone.new.local old.links c.index_mut.ensures.value
    (c.moves_alone.ensures.same c.if-not-moves_alone.true) refl) refl refl refl c.requires.processors.marks.states.partners
    (known_kept c.args.code.now old c.args.p c.index_mut.result.now c.moves_alone.new.local c.index_mut.ensures.value
    (c.moves_alone.ensures.same c.if-not-moves_alone.true) c.requires.processors.marks.states) c.requires.processors

pub returns-then-not-moves_alone-clause-same : goal.returns-then-not-moves_alone-clause-same
returns-then-not-moves_alone-clause-same c = λ none.
    let old = c.args.self.now in
    kept_same old c.args.p c.index_mut.result.now c.moves_alone.new.local old.links c.index_mut.ensures.value
    (c.moves_alone.ensures.same c.if-not-moves_alone.true) refl

pub settle-requires-clause-moved : goal.settle-requires-clause-moved
settle-requires-clause-moved c =
    let old = c.args.self.now in
    let mid : Team = with_known old c.args.p c.moves_alone.new.local old.links c.leave_partners.new.known in
    let w = c.index_mut.result.now in
    let states = c.requires.processors.marks.states in
    let inside : c.args.p < length old.locals.items = subst (λ n. c.args.p < n) (sym states.many) c.requires.processor in
    let there = item_there old.locals.items c.args.p w c.index_mut.ensures.value inside in
    (turn_left c.args.code.now old mid c.args.p w c.moves_alone.new.local states c.requires.processor there refl refl refl refl
    (partners_many c.args.code.now old c.args.p c.leave_partners.new.known states)
    (forgotten c.args.code.now old c.args.p w c.moves_alone.new.local c.index_mut-2.result.now c.leave_partners.new.known states c.requires.processor there
    c.index_mut-2.ensures.value (c.leave_partners.ensures.known c.args.code.now))
    (step.Moved Quiet) c.index_mut.ensures.value (c.moves_alone.ensures.made c.if-not-moves_alone.false old.links) c.requires.processors).0

pub returns-clause-moved : goal.returns-clause-moved
returns-clause-moved c = λ made.
    let old = c.args.self.now in
    let mid : Team = with_known old c.args.p c.moves_alone.new.local old.links c.leave_partners.new.known in
    let w = c.index_mut.result.now in
    let states = c.requires.processors.marks.states in
    let inside : c.args.p < length old.locals.items = subst (λ n. c.args.p < n) (sym states.many) c.requires.processor in
    let there = item_there old.locals.items c.args.p w c.index_mut.ensures.value inside in
    turned_marks c.args.code.now old mid c.settle.new.self c.args.p (step.Moved Quiet) (ap (λ l. l.items) c.settle.ensures.locals)
    c.settle.ensures.links
    (turned_on c.args.code.now old mid c.args.p w c.moves_alone.new.local states c.requires.processor there refl refl refl refl
    (partners_many c.args.code.now old c.args.p c.leave_partners.new.known states)
    (forgotten c.args.code.now old c.args.p w c.moves_alone.new.local c.index_mut-2.result.now c.leave_partners.new.known states c.requires.processor there
    c.index_mut-2.ensures.value (c.leave_partners.ensures.known c.args.code.now))
    (step.Moved Quiet) c.index_mut.ensures.value (c.moves_alone.ensures.made c.if-not-moves_alone.false old.links))
