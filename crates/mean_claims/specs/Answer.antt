-- What the two streams took in a call of `mean`.
use Rattle.std.specs.Prelude.{◌≡◌, ◌≢◌, ◌⊎◌, ℕ, List, []}
use Rattle.zpl_io.specs.Sink.{Takes, TakesFront}
use Rattle.call_claims.specs.Call.{Call}
use Rattle.call_claims.specs.declared.status.TheConstants.{DONE, TRAPPED, TURN_LIMIT, NO_MEMORY}
use Rattle.mean_claims.specs.Cause.{Cause}
use Rattle.mean_claims.specs.Decided.{Means}

-- ---- the stream for output
-- the status is that of a meaning
abbrev pub IsEnd : ℕ → Type 0
IsEnd status = (status ≡ DONE) ⊎ ((status ≡ TRAPPED) ⊎ (status ≡ TURN_LIMIT))

-- the bytes of the meaning
abbrev pub TakesMeaning : Call → (List ℕ → Type 0) → (List ℕ → Type 0) → Type 0
TakesMeaning call before after = Means call (λ meaning. Takes before meaning.bytes after)

-- a front of them, or nothing
abbrev pub TakesPart : Call → (List ℕ → Type 0) → (List ℕ → Type 0) → Type 0
TakesPart call before after =
    Takes before [] after ⊎ Means call (λ meaning. TakesFront before meaning.bytes after)

-- All of them where the status is that of a meaning, a part where memory was wanting, and nothing
-- for each other status. It is said of calls of which no put of out failed.
pub record TakesOutput (call : Call) (status : ℕ) (before after : List ℕ → Type 0) : Type 0 where
  pub whole : IsEnd status → TakesMeaning call before after
  pub part : status ≡ NO_MEMORY → TakesPart call before after
  pub nothing : status ≢ NO_MEMORY → ¬ IsEnd status → Takes before [] after

-- ---- both streams
-- Some status has its cause, out took what is due with it, and the stream for errors took a front
-- of its text.
pub record IsHalfAnswered (call : Call) (out_before out_after : List ℕ → Type 0)
    (errs_before errs_after : List ℕ → Type 0) : Type 0 where
  pub status : ℕ
  pub text : List ℕ
  pub cause : Cause call status text
  pub output : TakesOutput call status out_before out_after
  pub front : TakesFront errs_before text errs_after
