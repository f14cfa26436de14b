use Rattle.counted_code.proofs.FitLemmas.{counted_fits, counted_typed}
use Rattle.counted_code.proofs.SoundLemmas.{comes_back, comes_there, counted_links, counted_sound}
use Rattle.counted_code.proofs.laws.counted_code_is_sound.Goals as goal

pub returns-clause-sound : goal.returns-clause-sound
returns-clause-sound c n code fits sound = counted_sound n code fits sound

pub returns-clause-links : goal.returns-clause-links
returns-clause-links c n links code needed = counted_links n code links needed

pub returns-clause-paths : goal.returns-clause-paths
returns-clause-paths c n at opened code = (comes_there n code, comes_back n code)

pub returns-clause-fits : goal.returns-clause-fits
returns-clause-fits c n code fits = counted_fits n code fits

pub returns-clause-typed : goal.returns-clause-typed
returns-clause-typed c n code typed = counted_typed n code typed
