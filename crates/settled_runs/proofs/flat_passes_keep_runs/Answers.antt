use Rattle.settled_runs.proofs.SettledLemmas.{settled_keeps}
use Rattle.settled_runs.proofs.RowLemmas.{no_votes}
use Rattle.settled_runs.proofs.flat_passes_keep_runs.Goals as goal

pub returns : goal.returns
returns c =
    λ build code flat typed none a n.
    settled_keeps n a build code flat.fits typed none (no_votes code flat)
