use Rattle.sound_lowering.proofs.SoundLemmas.{goes_sound, undecided_sound}
use Rattle.sound_lowering.proofs.code_that_goes_is_sound.Goals as goal

pub returns-clause-undecided : goal.returns-clause-undecided
returns-clause-undecided c code one after flat taken fringes same goes =
    goes_sound code one after flat taken fringes same goes

pub returns-clause-sound : goal.returns-clause-sound
returns-clause-sound c code flat sound = undecided_sound code flat sound
