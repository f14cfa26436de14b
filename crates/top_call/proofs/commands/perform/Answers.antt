use Rattle.top_call.proofs.UnknownLemmas.{none_fetched}
use Rattle.top_call.proofs.commands.perform.Goals as goal

pub returns-in-Gen-clause-fetches : goal.returns-in-Gen-clause-fetches
returns-in-Gen-clause-fetches g c =
    none_fetched c.generate.result.status (g.F.Files.faults c.args.files.now)
    c.generate.ensures.read
