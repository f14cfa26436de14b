-- Rows of texts.
use Rattle.std.proofs.Common.{◌≡◌, ◌∷◌, [], ◌++◌, refl}
use Rattle.std.specs.Prelude.{codes}
use Rattle.std.specs.Fmt.{digits}
use Rattle.time_text.specs.Text.{time_text}

apart : time_text 8 4 (record { processor = 0; first = 1; last = 4; tick = 0 } ∷ [])
    ≡ codes "moves 8 ticks 4\nprocessor 0 moves 1..4 from tick 0\n"
unfolding digits
apart = refl

together : time_text 8 16 (
    record { processor = 1; first = 1; last = 1; tick = 0 } ∷
    record { processor = 0; first = 1; last = 2; tick = 6 } ∷
    record { processor = 1; first = 2; last = 4; tick = 13 } ∷ [])
    ≡ codes "moves 8 ticks 16\nprocessor 1 moves 1..1 from tick 0\n"
    ++ codes "processor 0 moves 1..2 from tick 6\nprocessor 1 moves 2..4 from tick 13\n"
unfolding digits
together = refl
