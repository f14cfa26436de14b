-- Rows of small runs.
use Rattle.std.proofs.Common.{◌≡◌, ℕ, ◌-◌, ◌*◌, List, get_or, [], ◌∷◌, Some, None, refl}
use Rattle.grid_timetable.specs.declared.segments.Segment.{Segment}
use Rattle.grid_timetable.specs.Run.{Move, Run, sent_at, taken_at, length_of}
use Rattle.grid_timetable.specs.Chain.{chain_length, IsTimed, Joined, Follows}
use Rattle.grid_timetable.specs.History.{run_of}

abbrev quiet : ℕ → Move
quiet p = record { processor = p; sent = None; took = None }

abbrev sends : ℕ → ℕ → Move
sends p to = record { processor = p; sent = Some to; took = None }

abbrev takes : ℕ → ℕ → Move
takes p from = record { processor = p; sent = None; took = Some from }

abbrev of_moves : ℕ → ℕ → List Move → Run
of_moves count latency moves = run_of (record { count = count; latency = latency; moves = moves })

-- ---- no messages: two processors with four moves each
abbrev apart : Run
apart = of_moves 2 1 (quiet 0 ∷ quiet 0 ∷ quiet 1 ∷ quiet 1 ∷ quiet 0 ∷ quiet 1 ∷ quiet 1 ∷ quiet 0 ∷ [])

abbrev one_by_one : ℕ → ℕ → ℕ
one_by_one p j = j - 1

apart_length : length_of apart one_by_one ≡ 4
apart_length = refl

-- ---- a total of two: 1 sends its value to 0, which sends the total back
abbrev total : Run
total = of_moves 2 5 (
    sends 1 0 ∷ takes 0 1 ∷ sends 0 1 ∷ takes 1 0 ∷ quiet 1 ∷ quiet 0 ∷ quiet 1 ∷ quiet 0 ∷ [])

sent_to_0 : sent_at total 1 0 ≡ 1 ∷ []
sent_to_0 = refl

taken_by_1 : taken_at total 0 1 ≡ 2 ∷ []
taken_by_1 = refl

abbrev total_ticks : ℕ → ℕ → ℕ
total_ticks p j = get_or (get_or ((0 ∷ 6 ∷ 7 ∷ 8 ∷ 9 ∷ []) ∷ (0 ∷ 0 ∷ 13 ∷ 14 ∷ 15 ∷ []) ∷ []) p []) j 0

total_length : length_of total total_ticks ≡ 16
total_length = refl

abbrev total_chain : List Segment
total_chain =
    record { processor = 1; first = 1; last = 1; tick = 0 } ∷
    record { processor = 0; first = 1; last = 2; tick = 6 } ∷
    record { processor = 1; first = 2; last = 4; tick = 13 } ∷ []

total_chain_length : chain_length 5 total_chain ≡ 16
total_chain_length = refl

total_is_timed : IsTimed 5 total_chain
total_is_timed = record { begins = refl; later = (refl, (refl, tt)) }

total_follows : Joined (Follows total) total_chain
total_follows = (
  record { message = 0; sent = refl; taken = refl },
  (record { message = 0; sent = refl; taken = refl }, tt),
)

-- ---- a ring of three, in which each sends to the next and takes from the one before: all at once
abbrev ring : Run
ring = of_moves 3 2 (sends 0 1 ∷ sends 1 2 ∷ takes 1 0 ∷ sends 2 0 ∷ takes 2 1 ∷ takes 0 2 ∷ [])

ring_takes : taken_at ring 2 0 ≡ 2 ∷ []
ring_takes = refl

ring_length : length_of ring (λ p j. (j - 1) * 3) ≡ 4
ring_length = refl

-- ---- a star: 0 sends to 1 and to 2, and takes from both
abbrev star : Run
star = of_moves 3 1 (
    sends 0 1 ∷ sends 0 2 ∷ takes 1 0 ∷ sends 1 0 ∷ takes 2 0 ∷ sends 2 0 ∷ takes 0 1 ∷ takes 0 2 ∷ [])

abbrev star_ticks : ℕ → ℕ → ℕ
star_ticks p j = get_or (get_or ((0 ∷ 0 ∷ 1 ∷ 5 ∷ 6 ∷ []) ∷ (0 ∷ 2 ∷ 3 ∷ []) ∷ (0 ∷ 3 ∷ 4 ∷ []) ∷ []) p []) j 0

star_sends : sent_at star 0 2 ≡ 2 ∷ []
star_sends = refl

star_length : length_of star star_ticks ≡ 7
star_length = refl

-- ---- a pipeline of three with two messages: the second one is taken one tick after the first
abbrev pipeline : Run
pipeline = of_moves 3 1 (
    sends 0 1 ∷ takes 1 0 ∷ sends 1 2 ∷ takes 2 1 ∷ sends 0 1 ∷ takes 1 0 ∷ sends 1 2 ∷ takes 2 1 ∷ [])

abbrev pipeline_ticks : ℕ → ℕ → ℕ
pipeline_ticks p j = get_or (get_or ((0 ∷ 0 ∷ 1 ∷ []) ∷ (0 ∷ 2 ∷ 3 ∷ 4 ∷ 5 ∷ []) ∷ (0 ∷ 5 ∷ 7 ∷ []) ∷ []) p []) j 0

pipeline_sends : sent_at pipeline 1 2 ≡ 2 ∷ 4 ∷ []
pipeline_sends = refl

pipeline_length : length_of pipeline pipeline_ticks ≡ 8
pipeline_length = refl
