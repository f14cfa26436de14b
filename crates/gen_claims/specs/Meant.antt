-- What the drawn program means, and the lines that tell of it.
--
--   IsMeantToPrint   the meaning ends normally, and prints these bytes
--   AreMeantFor      the lines for some grids tell of that
use Rattle.std.specs.Prelude.{◌≡◌, ◌≢◌, ℕ, List, []}
use Rattle.std.specs.List.{flat_map}
use Rattle.zpl_nums.specs.declared.ends.End.TheVariants.{Done, More}
use Rattle.zpl_tree.specs.Syntax.{Program}
use Rattle.zpl_meaning.specs.Program.{Meaning, mean_of}
use Rattle.call_claims.specs.Accepted.{IsAcceptedUnder}
use Rattle.call_claims.specs.Command.{Asked}
use Rattle.program_texts.specs.Text.{drawn_program}
use Rattle.gen_claims.specs.Grids.{NamedGrid, line_of}

abbrev pub ended_with : List ℕ → Meaning
ended_with bytes = record { bytes = bytes; ending = Done }

-- The meaning of the program that is drawn from the number ends within some number of turns of each
-- loop. Within any within which it ends, it ends normally and prints these bytes.
pub record IsMeantToPrint (seed : ℕ) (asked : Asked) (bytes : List ℕ) : Type 0 where
  pub program : Program
  pub accepted : IsAcceptedUnder (drawn_program seed) asked.settings program
  pub enough : ℕ
  pub ends : (mean_of program asked.settings enough).ending ≢ More
  pub is : (n : ℕ) → (mean_of program asked.settings n).ending ≢ More
      → mean_of program asked.settings n ≡ ended_with bytes

-- the lines for these grids, with the same bytes printed on each
abbrev pub lines_of : ℕ → List NamedGrid → List ℕ → List ℕ
lines_of seed so_far bytes = flat_map (λ (grid : NamedGrid). line_of seed grid.name bytes) so_far

-- The lines for these grids tell of the bytes that the program means; there may be none yet.
pub data AreMeantFor (seed : ℕ) (asked : Asked) : List NamedGrid → List ℕ → Type 0 where
  none_yet : AreMeantFor seed asked [] []
  tell : {bytes : List ℕ} (so_far : List NamedGrid) → IsMeantToPrint seed asked bytes
      → AreMeantFor seed asked so_far (lines_of seed so_far bytes)
