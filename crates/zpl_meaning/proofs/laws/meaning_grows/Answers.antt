use Rattle.zpl_meaning.proofs.GrowthLemmas.{IsFrontOf-mean_of}
use Rattle.zpl_meaning.proofs.laws.meaning_grows.Goals as goal

pub returns : goal.returns
returns c = IsFrontOf-mean_of
