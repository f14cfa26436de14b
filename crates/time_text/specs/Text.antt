-- What is told of how long a run takes.
--
--   total_line     how many moves it makes, and how many ticks these take at least
--   segment_line   a segment of a chain
--   time_text      the one, and a line for each segment of a chain as long
use Rattle.std.specs.Prelude.{ℕ, List, ◌++◌, codes}
use Rattle.std.specs.Fmt.{decimal}
use Rattle.std.specs.List.{flat_map}
use Rattle.grid_timetable.specs.declared.segments.Segment.{Segment}

abbrev pub total_line : ℕ → ℕ → List ℕ
total_line moves ticks =
    codes "moves " ++ (decimal moves ++ (codes " ticks " ++ (decimal ticks ++ codes "\n")))

-- the moves of a segment, and where they begin
abbrev pub moves_text : Segment → List ℕ
moves_text segment = decimal segment.first ++ (codes ".." ++ decimal segment.last)

abbrev pub tick_text : Segment → List ℕ
tick_text segment = codes " from tick " ++ (decimal segment.tick ++ codes "\n")

abbrev pub segment_line : Segment → List ℕ
segment_line segment =
    codes "processor " ++ (decimal segment.processor ++ (codes " moves "
    ++ (moves_text segment ++ tick_text segment)))

abbrev pub time_text : ℕ → ℕ → List Segment → List ℕ
time_text moves ticks chain = total_line moves ticks ++ flat_map segment_line chain
