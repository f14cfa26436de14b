-- What a call of `check` answers: its code, and what the stream for output took.
--
--   IsReadFor      the code is the listed one
--   sound_text     that code is sound, and how many messages links have to hold
--   TellsSound     the listed code is sound, and of the text that tells so this holds
--   TakesOutput    what the stream took, by the status
use Rattle.std.specs.Prelude.{◌≡◌, ◌≢◌, ℕ, List, [], ◌++◌, codes}
use Rattle.std.specs.Fmt.{decimal}
use Rattle.zpl_io.specs.Sink.{Takes, TakesFront}
use Rattle.node_form.specs.declared.tables.Tables.{Tables}
use Rattle.exec_claims.specs.of_node_check.Sound.{IsChecked}
use Rattle.call_claims.specs.Call.{Call}
use Rattle.call_claims.specs.declared.status.TheConstants.{DONE}
use Rattle.exec_claims.specs.Answer.{IsListedIn}
use Rattle.check_claims.specs.Cause.{Checks}
use Rattle.check_claims.specs.Decided.{ChecksListing}

abbrev pub IsReadFor : Call → Tables → Type 0
IsReadFor call code = Checks call (λ file asked. IsListedIn call file code)

-- ---- sound code
abbrev pub sound_text : ℕ → List ℕ
sound_text links = codes "sound, links " ++ (decimal links ++ codes "\n")

-- it is checked, and of the text that tells so this holds
pub record IsToldSound (Holds : List ℕ → Type 0) (code : Tables) : Type 0 where
  pub links : ℕ
  pub checked : IsChecked code links
  pub holds : Holds (sound_text links)

abbrev pub TellsSound : Call → (List ℕ → Type 0) → Type 0
TellsSound call Holds = ChecksListing call (IsToldSound Holds)

-- ---- what the stream took, by the status: that text where the code is sound, and elsewhere nothing
pub record TakesOutput (call : Call) (status : ℕ) (before after : List ℕ → Type 0) : Type 0 where
  pub done : status ≡ DONE → TellsSound call (λ text. Takes before text after)
  pub none : status ≢ DONE → Takes before [] after

-- a front of it
abbrev pub TakesSoundFront : Call → (List ℕ → Type 0) → (List ℕ → Type 0) → Type 0
TakesSoundFront call before after = TellsSound call (λ text. TakesFront before text after)
