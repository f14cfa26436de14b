-- A sink in memory: the bytes, the room for them, and the calls that fail.
use Rattle.std.specs.Prelude.{◌⊎◌, ℕ, ◌+◌, ◌<◌, Bool, true, false, List, ◌++◌, length, Contains}
use Rattle.zpl_io.specs.Faults.{count_after}
use Rattle.zpl_io.specs.declared.outside.Put.{Put}
use Rattle.zpl_io.specs.declared.outside.Put.TheVariants.{Done, Failed}

-- the bytes taken, and how many there is room for in all; the numbers of the calls that fail; how
-- many calls there were, how many of them failed, and whether the last one did
pub record KeptBytes : Type 0 where
  pub taken : List ℕ
  pub room : ℕ
  pub failing : List ℕ
  pub calls : ℕ
  pub faults : ℕ
  pub has_failed : Bool

-- a put of the piece fails: its number is in the list, or the piece passes the room left
abbrev pub FailsToPut : KeptBytes → List ℕ → Type 0
FailsToPut sink piece = Contains sink.failing sink.calls
    ⊎ (sink.room < length sink.taken + length piece)

-- the sink after a put of the piece with that answer
abbrev pub sink_after : KeptBytes → List ℕ → Put → KeptBytes
sink_after sink piece Done =
    record sink {
      taken = sink.taken ++ piece;
      calls = count_after sink.calls;
      has_failed = false;
    }
sink_after sink piece Failed =
    record sink {
      calls = count_after sink.calls;
      faults = count_after sink.faults;
      has_failed = true;
    }
