use Rattle.lowering_fits.proofs.SoundLemmas.{body_sound_at}
use Rattle.lowering_fits.proofs.laws.bodies_are_sound.Goals as goal

pub returns : goal.returns
returns c = λ program clean text shapes routine reached named body.
    body_sound_at program
    (c.faultless_programs_have_faultless_sites.ensures.reached program clean)
    (c.faultless_programs_have_faultless_sites.ensures.under program clean) text shapes routine
    reached named body
