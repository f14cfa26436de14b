-- What is asked of tables whose plan shows what they show is enough for the passes over plans.
use Rattle.std.proofs.Common.{◌≡◌, refl, arith, ℕ, true}
use Rattle.std.proofs.lemmas.Bool.Decides.{nat_tests}
use Rattle.std.specs.Prelude.{nat_lt, Option, Some, None}
use Rattle.node_form.specs.declared.tables.Tables.{Tables}
use Rattle.code_parts.specs.Early.{is_roomy}
use Rattle.grid_meaning.specs.Grid.{IsCapacity}
use Rattle.planned_runs.specs.of_needs_runs.Sharable.{IsSharable}
use Rattle.arranged_runs.specs.Plannable.{IsPlannable}

pub plannable : (code : Tables) → IsSharable code → IsPlannable code
plannable code sharable = record {
  flat = record { fits = sharable.fits; rows = sharable.flat };
  stored = sharable.stored;
  threes = record {
    arrays = sharable.three_arrays;
    rows = sharable.three_rows;
    words = sharable.three_words;
  };
}

-- ---- links of a capacity hold a message
pub has_room : (links : Option ℕ) → IsCapacity links → is_roomy links 0 ≡ true
has_room None capable = refl
has_room (Some capacity) capable =
    let one : nat_lt 0 capacity ≡ true = grind (arith, nat_tests, capable) in one
