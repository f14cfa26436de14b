-- When each status comes.
use Rattle.std.specs.Prelude.{◌≡◌, ◌↔◌, ℕ, List}
use Rattle.call_claims.specs.of_zpl_claims.Build.{Build}
use Rattle.call_claims.specs.Call.{Call}
use Rattle.call_claims.specs.Cause.{IsTooLong}
use Rattle.call_claims.specs.Command.{build_of}
use Rattle.call_claims.specs.Decided.{IsDecided, IsSettled}
use Rattle.call_claims.specs.Execution.{Execution, HasCode}
use Rattle.call_claims.specs.Source.{Source}
use Rattle.call_claims.specs.declared.status.TheConstants.{DONE, TOO_LONG, REFUSED, UNBOUND}
use Rattle.list_claims.specs.Cause.{Lists}
use Rattle.list_claims.specs.Refusal.{HasUnbound, IsRefused}

-- ---- a program's file
-- it tells a text that isn't too long, and that has no program for the build and no fault of what it
-- is built for to be told
abbrev pub HasNoProgramIn : Call → List ℕ → Build → Type 0
HasNoProgramIn call file build =
    (source : Source call file) × IsRefused source.text build

-- it tells a text that isn't too long, has no program for the build, and has a fault of what it is
-- built for
abbrev pub HasUnboundIn : Call → List ℕ → Build → Type 0
HasUnboundIn call file build =
    (source : Source call file) × HasUnbound source.text build

-- ---- list FILE: each status comes just where its own cause is
pub record IsExact (call : Call) (execution : Execution) (status : ℕ) : Type 0 where
  -- 0: the words list a file, and code was made (and then out took its whole listing)
  pub done : IsDecided status
      → (status ≡ DONE) ↔ Lists call (λ file asked. HasCode execution)
  -- 3: they list one that tells a text that is too long
  pub too_long : IsSettled call status
      → (status ≡ TOO_LONG) ↔ Lists call (λ file asked. IsTooLong call file)
  -- 4: they list one whose text has no program, with nothing wrong in what it is built for
  pub refused : IsSettled call status
      → (status ≡ REFUSED) ↔ Lists call (λ file asked. HasNoProgramIn call file (build_of asked))
  -- 5: they list one for no grid, with a fault of settings or declarations, or without room
  pub unbound : IsSettled call status
      → (status ≡ UNBOUND) ↔ Lists call (λ file asked. HasUnboundIn call file (build_of asked))
