use Rattle.std.proofs.Common.{◌≡◌, ◌<◌, sym, subst, length, refl}
use Rattle.grid_sim.specs.Processors.{AreLeft}
use Rattle.grid_sim.proofs.TurnLemmas.{rests_marked}
use Rattle.grid_sim.proofs.processors.Processors.note.Goals as goal

pub settle-requires-clause-partner : goal.settle-requires-clause-partner
settle-requires-clause-partner c = (subst (AreLeft c.args.code.now c.args.self.now c.args.p) c.in-Moved.is c.requires.left).1

pub settle-requires-clause-moved : goal.settle-requires-clause-moved
settle-requires-clause-moved c = (subst (AreLeft c.args.code.now c.args.self.now c.args.p) c.in-Moved.is c.requires.left).0

pub set-requires : goal.set-requires
set-requires c =
    let left = subst (AreLeft c.args.code.now c.args.self.now c.args.p) c.in-Waiting.is c.requires.left in
    subst (λ n. c.args.p < n) (sym left.0.marks.resting.many) c.requires.processor

pub set-requires-in-Over : goal.set-requires-in-Over
set-requires-in-Over c =
    let left = subst (AreLeft c.args.code.now c.args.self.now c.args.p) c.in-Over.is c.requires.left in
    subst (λ n. c.args.p < n) (sym left.0.marks.resting.many) c.requires.processor

pub returns-in-Waiting-clause-processors : goal.returns-in-Waiting-clause-processors
returns-in-Waiting-clause-processors c =
    let left = subst (AreLeft c.args.code.now c.args.self.now c.args.p) c.in-Waiting.is c.requires.left in
    rests_marked c.args.code.now c.args.self.now c.args.p c.set.new.self left.0 left.1 c.set.ensures

pub returns-in-Over-clause-processors : goal.returns-in-Over-clause-processors
returns-in-Over-clause-processors c =
    let left = subst (AreLeft c.args.code.now c.args.self.now c.args.p) c.in-Over.is c.requires.left in
    rests_marked c.args.code.now c.args.self.now c.args.p c.set-in-Over.new.self left.0 left.1 c.set-in-Over.ensures
