use Rattle.std.proofs.Common.{◌≡◌, ◌<◌, true, false, ap, sym, subst, ◌∙◌, length, get_or}
use Rattle.grid_sim.specs.Processors.{is_at_rest, looked_as}
use Rattle.grid_sim.proofs.TeamLemmas.{item_there, known_at, marked_before, rest_is}
use Rattle.grid_sim.proofs.processors.Processors.look.Goals as goal

pub returns-then-has-clause-rest : goal.returns-then-has-clause-rest
returns-then-has-clause-rest c =
    sym (c.requires.marks.resting.each c.args.p c.requires.processor tt (sym c.has.ensures ∙ c.if-has.true))

pub returns-then-has-clause-looked : goal.returns-then-has-clause-looked
returns-then-has-clause-looked c = marked_before c.args.self.now c.args.p (sym c.has.ensures ∙ c.if-has.true)

pub rests-requires-clause-ready : goal.rests-requires-clause-ready
rests-requires-clause-ready c =
    let items = c.args.self.now.locals.items in
    let inside : c.args.p < length items = subst (λ n. c.args.p < n) (sym c.requires.marks.states.many) c.requires.processor in
    c.requires.marks.states.ready c.args.p c.index.result.now (item_there items c.args.p c.index.result.now c.index.ensures inside)

pub rests-requires-clause-known : goal.rests-requires-clause-known
rests-requires-clause-known c =
    let items = c.args.self.now.locals.items in
    let states = c.requires.marks.states in
    let inside : c.args.p < length items = subst (λ n. c.args.p < n) (sym states.many) c.requires.processor in
    known_at c.args.code.now c.args.self.now c.args.p c.index.result.now c.index-known.result.now states
    (item_there items c.args.p c.index.result.now c.index.ensures inside) c.index-known.ensures c.requires.processor

pub returns-then-not-rests-clause-rest : goal.returns-then-not-rests-clause-rest
returns-then-not-rests-clause-rest c =
    let items = c.args.self.now.locals.items in
    let inside : c.args.p < length items = subst (λ n. c.args.p < n) (sym c.requires.marks.states.many) c.requires.processor in
    let there = item_there items c.args.p c.index.result.now c.index.ensures inside in
    sym c.if-not-rests.true
    ∙ rest_is c.args.code.now c.args.self.now c.args.p c.index.result.now c.rests.result there c.requires.marks.states.links c.rests.ensures

pub returns-clause-rest : goal.returns-clause-rest
returns-clause-rest c =
    let items = c.args.self.now.locals.items in
    let inside : c.args.p < length items = subst (λ n. c.args.p < n) (sym c.requires.marks.states.many) c.requires.processor in
    let there = item_there items c.args.p c.index.result.now c.index.ensures inside in
    sym c.if-not-rests.false
    ∙ rest_is c.args.code.now c.args.self.now c.args.p c.index.result.now c.rests.result there c.requires.marks.states.links c.rests.ensures
