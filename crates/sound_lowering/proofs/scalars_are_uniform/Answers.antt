use Rattle.sound_lowering.proofs.SoundLemmas.{scalars_meet, uniform_facts}
use Rattle.sound_lowering.proofs.scalars_are_uniform.Goals as goal

pub returns-clause-facts : goal.returns-clause-facts
returns-clause-facts c code flat taken = uniform_facts code flat taken

pub returns-clause-met : goal.returns-clause-met
returns-clause-met c code flat taken at one there asks =
    scalars_meet code flat taken at one there asks
