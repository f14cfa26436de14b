-- The texts that are told of listings, orders and runs on the stream for errors, each one piece.
use Rattle.std.specs.Prelude.{ℕ, List, ◌++◌, codes}
use Rattle.std.specs.Fmt.{decimal}
use Rattle.grid_meaning.specs.Action.{StuckKind, WrongTag, WrongLength, Unheld, Undefined}

-- the item at this byte is wrong
abbrev pub order_refused_text : ℕ → List ℕ
order_refused_text at = codes "order refused, byte " ++ (decimal at ++ codes "\n")

-- a fault by its name, at a line
abbrev pub listing_refused_text : List ℕ → ℕ → List ℕ
listing_refused_text name line =
    codes "listing refused: " ++ (name ++ (codes ", line " ++ (decimal line ++ codes "\n")))

-- how it is called that a processor is stuck
abbrev pub kind_name : StuckKind → List ℕ
kind_name WrongTag = codes "Tag"
kind_name WrongLength = codes "Length"
kind_name Unheld = codes "Unheld"
kind_name Undefined = codes "Undefined"

-- no processor can move
abbrev pub idle_name : List ℕ
idle_name = codes "Idle"

abbrev pub stuck_text : ℕ → List ℕ → List ℕ
stuck_text processor name =
    codes "stuck: processor " ++ (decimal processor ++ (codes ", " ++ (name ++ codes "\n")))

-- the demand of this instruction isn't met
abbrev pub unsound_text : ℕ → List ℕ
unsound_text at = codes "unsound, instruction " ++ (decimal at ++ codes "\n")

-- code is too large for a check
abbrev pub check_limit_text : List ℕ
check_limit_text = codes "check limit\n"

-- a run makes more moves than a timetable takes
abbrev pub too_many_moves_text : List ℕ
too_many_moves_text = codes "too many moves\n"

abbrev pub report_text : ℕ → ℕ → ℕ → List ℕ
report_text turns sends words =
    codes "turns " ++ (decimal turns
    ++ (codes " sends " ++ (decimal sends
    ++ (codes " words " ++ (decimal words ++ codes "\n")))))
