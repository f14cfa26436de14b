use Rattle.checked_rows.proofs.UniformLemmas.{uniform_behind}
use Rattle.checked_rows.proofs.laws.uniform_scalars_stay.Goals as goal

pub returns : goal.returns
returns c code links n row next opened bytes facts all after scalar tables faces e told =
    uniform_behind code tables links n next opened facts all after bytes row faces e scalar told
