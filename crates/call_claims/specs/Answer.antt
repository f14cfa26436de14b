-- What a call tells of its status.
use Rattle.std.specs.Prelude.{◌≡◌, ℕ, ◌<◌, ◌≤◌, List}
use Rattle.zpl_io.specs.Faults.{last_count, Rose}
use Rattle.zpl_io.specs.Sink.{Takes, TakesFront}
use Rattle.call_claims.specs.Decided.{IsDecided}
use Rattle.call_claims.specs.declared.status.TheConstants.{UNREADABLE, PUT_FAILED}

-- The status has its cause, and the stream for errors took its text.
pub record IsAnswered (Caused : ℕ → List ℕ → Type 0) (status : ℕ) (before after : List ℕ → Type 0)
    : Type 0 where
  pub text : List ℕ
  pub cause : Caused status text
  pub told : Takes before text after

-- Some status has its cause, and the stream for errors took a front of its text.
pub record IsHalfAnswered (Caused : ℕ → List ℕ → Type 0) (before after : List ℕ → Type 0) : Type 0
  where
    pub status : ℕ
    pub text : List ℕ
    pub cause : Caused status text
    pub front : TakesFront before text after

-- The count of failed fetches in a call rises where the status is that of one, and elsewhere only
-- where a put failed too or memory was wanting.
pub record CountsFetches (status before after : ℕ) : Type 0 where
  pub rises : status ≡ UNREADABLE → Rose before after
  pub only : before < after → IsDecided status → status ≡ UNREADABLE
  pub never_falls : before ≤ after
  pub bounded : before ≤ last_count → after ≤ last_count

-- A count of failed puts rises only where the status is that of one.
pub record CountsPuts (status before after : ℕ) : Type 0 where
  pub only : before < after → status ≡ PUT_FAILED
  pub never_falls : before ≤ after
  pub bounded : before ≤ last_count → after ≤ last_count
