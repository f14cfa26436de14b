use Rattle.std.proofs.Common.{◌∙◌, ap}
use Rattle.grid_sim.specs.declared.processors.Processors.{Processors as Team}
use Rattle.grid_sim.proofs.TeamLemmas.{look_awake, look_rests, looked_links, looked_locals}
use Rattle.grid_sim.proofs.processors.Processors.seek_from.Goals as goal

pub seek-requires-clause-marks : goal.seek-requires-clause-marks
seek-requires-clause-marks c =
    look_rests c.args.code.now c.args.self.now c.look.new.self c.args.p c.look.result c.requires.marks c.look.ensures.rest c.look.ensures.looked
    c.if-look.true

pub returns-then-look-clause-locals : goal.returns-then-look-clause-locals
returns-then-look-clause-locals c =
    c.seek.ensures.locals ∙ (ap (λ (t : Team). t.locals) c.look.ensures.looked ∙ looked_locals c.look.result c.args.self.now c.args.p)

pub returns-then-look-clause-links : goal.returns-then-look-clause-links
returns-then-look-clause-links c =
    c.seek.ensures.links ∙ (ap (λ (t : Team). t.links) c.look.ensures.looked ∙ looked_links c.look.result c.args.self.now c.args.p)

pub returns-else-look-clause-processors : goal.returns-else-look-clause-processors
returns-else-look-clause-processors c =
    look_awake c.args.code.now c.args.self.now c.look.new.self c.args.p c.look.result c.requires.marks c.requires.processor c.look.ensures.rest
    c.look.ensures.looked c.if-look.false

pub returns-else-look-clause-locals : goal.returns-else-look-clause-locals
returns-else-look-clause-locals c = ap (λ (t : Team). t.locals) c.look.ensures.looked ∙ looked_locals c.look.result c.args.self.now c.args.p

pub returns-else-look-clause-links : goal.returns-else-look-clause-links
returns-else-look-clause-links c = ap (λ (t : Team). t.links) c.look.ensures.looked ∙ looked_links c.look.result c.args.self.now c.args.p
