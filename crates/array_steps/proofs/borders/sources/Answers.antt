use Rattle.std.proofs.Common.{sym, subst}
use Rattle.array_terms.specs.Sound.{IsNear}
use Rattle.array_steps.proofs.InsideLemmas.{near-opposite}
use Rattle.array_steps.proofs.borders.sources.Goals as goal

pub inside-requires-clause-near : goal.inside-requires-clause-near
inside-requires-clause-near c =
    subst IsNear (sym c.opposite.ensures) (near-opposite c.args.edge.now.shift c.requires.near)
