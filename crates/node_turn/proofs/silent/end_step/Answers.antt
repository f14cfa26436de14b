use Rattle.node_turn.proofs.ActLemmas.{ends_own, none_three}
use Rattle.node_turn.proofs.silent.end_step.Goals as goal

pub returns : goal.returns
returns c = λ links.
    c.told.ensures c.args.code.now c.args.p c.args.local.now c.end.new.self links c.tables-fits.ensures.fits
    (none_three c.args.code.now c.args.local.now.local c.requires.behind) c.requires.ready
    (ends_own c.args.code.now c.args.p c.args.local.now c.end.new.self c.requires.running c.requires.behind c.end.ensures)
