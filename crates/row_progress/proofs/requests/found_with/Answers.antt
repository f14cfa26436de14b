use Rattle.std.proofs.Common.{arith}
use Rattle.row_progress.proofs.RequestLemmas.{found_here, found_not}
use Rattle.row_progress.proofs.requests.found_with.Goals as goal

pub returns-then-one-q-clause-rest : goal.returns-then-one-q-clause-rest
returns-then-one-q-clause-rest c =
    found_here c.args.kept.now c.args.found c.index-kept-found.result c.args.q (omega (arith, c.requires, c.if-found-kept.false)) c.index-kept-found.is c.if-one-q.true

pub returns-clause-rest : goal.returns-clause-rest
returns-clause-rest c =
    found_not c.args.kept.now c.args.found c.index-kept-found.result c.args.q (omega (arith, c.requires, c.if-found-kept.false)) c.index-kept-found.is c.if-one-q.false
