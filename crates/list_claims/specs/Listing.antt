-- The code that is made in a call, and what a sink took of its listing.
use Rattle.std.specs.Prelude.{◌≡◌, ◌≢◌, ℕ, List, [], Some}
use Rattle.zpl_io.specs.Sink.{Takes, TakesFront}
use Rattle.node_form.specs.declared.tables.Tables.{Tables}
use Rattle.listing_rows.specs.Listing.{listing_of}
use Rattle.call_claims.specs.of_zpl_claims.Build.{Build}
use Rattle.call_claims.specs.Call.{Call}
use Rattle.call_claims.specs.Execution.{Execution}
use Rattle.call_claims.specs.Source.{Source}
use Rattle.call_claims.specs.declared.status.TheConstants.{DONE}
use Rattle.list_claims.specs.Code.{IsCodeOf}

-- The code is made of a text that the file tells, for the build.
pub record IsMadeOf (call : Call) (file : List ℕ) (build : Build) (code : Tables)
    : Type 0 where
  pub source : Source call file
  pub of_text : IsCodeOf source.text build code

-- ---- what a sink took of a listing
-- The sink took the listing of the code that was made.
pub record TakesListing (execution : Execution) (before after : List ℕ → Type 0) : Type 0 where
  pub code : Tables
  pub made : execution.code ≡ Some code
  pub takes : Takes before (listing_of code) after

-- The sink took the listing where the status is that of work that was done, and nothing elsewhere.
pub record TakesOutput (status : ℕ) (execution : Execution) (before after : List ℕ → Type 0)
    : Type 0 where
  pub listed : status ≡ DONE → TakesListing execution before after
  pub not_listed : status ≢ DONE → Takes before [] after

-- A front of the listing of the code that was made.
pub record TakesListingFront (execution : Execution) (before after : List ℕ → Type 0) : Type 0
  where
    pub code : Tables
    pub made : execution.code ≡ Some code
    pub front : TakesFront before (listing_of code) after
