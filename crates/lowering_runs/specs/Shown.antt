-- What a flat run shows of a meaning.
use Rattle.std.specs.Prelude.{◌≡◌, ◌≢◌, ℕ, ◌+◌, ◌*◌, ◌≤◌}
use Rattle.zpl_nums.specs.declared.ends.End.TheVariants.{More}
use Rattle.lowering_fits.specs.of_zpl_meaning.Outcome.{Outcome}
use Rattle.row_runs.specs.Run.{Ends, Result}

abbrev pub shown : Outcome → Result
shown outcome = record { bytes = outcome.bytes; stop = Ends outcome.ending }

-- how large a bound on jumps is
pub data IsBound (run : ℕ → Result) (n bound : ℕ) (outcome : Outcome) : Type 0 where
  -- the run ends within few jumps for each step
  Few : outcome.ending ≢ More → bound ≤ 16 * (outcome.steps + 1) → IsBound run n bound outcome
  -- it wants a turn of a loop, behind n of them
  Many : outcome.ending ≡ More → n ≤ bound → IsBound run n bound outcome
  -- it wants a turn in a shattered statement, however many more jumps it may make
  Shattered : outcome.ending ≡ More → ((more : ℕ) → bound ≤ more → run more ≡ run bound)
      → IsBound run n bound outcome

-- A run with some bound on its jumps, where each loop that is entered may make n turns, shows just
-- what the outcome is.
pub record Shows (run : ℕ → Result) (n : ℕ) (outcome : Outcome) : Type 0 where
  pub bound : ℕ
  pub same : run bound ≡ shown outcome
  pub size : IsBound run n bound outcome
