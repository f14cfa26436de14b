-- Of a program's file: when its status is the file's, or that of its text.
use Rattle.std.proofs.Common.{◌≡◌, ◌≢◌, ℕ, ◌⊎◌, List, length, Some, None, refl, sym, ◌∙◌, ap, subst, arith, inl, inr}
use Rattle.node_form.specs.declared.tables.Tables.{Tables}
use Rattle.call_claims.specs.of_zpl_claims.Build.{Build}
use Rattle.call_claims.specs.Call.{Call}
use Rattle.list_claims.specs.Cause.{TextFault, CodeCause, ProgramCause}
use Rattle.call_claims.specs.Cause.{IsTooLong}
use Rattle.list_claims.specs.Cause.TextFault.{refused, unbound}
use Rattle.list_claims.specs.Cause.CodeCause.{faulty, made}
use Rattle.call_claims.specs.Cause.FileCause.{unreadable, too_long, work}
use Rattle.list_claims.specs.Decided.{HasNoProgramIn, HasUnboundIn}
use Rattle.call_claims.specs.Execution.{Execution, HasNoRun}
use Rattle.list_claims.specs.Refusal.{HasUnbound, IsRefused}
use Rattle.list_claims.specs.Code.{HasNoProgram, IsCodeOf}
use Rattle.call_claims.specs.Source.{Source}
use Rattle.call_claims.specs.declared.status.TheConstants.{TOO_LONG, REFUSED, UNBOUND, UNREADABLE}

pub none_made : (execution : Execution) {code : Tables} → HasNoRun execution
    → execution.code ≡ Some code → ⊥
none_made execution {code} none is = let same : None ≡ Some code = sym none.no_code ∙ is in cc

pub one_made : (execution : Execution) {code other : Tables} → execution.code ≡ Some code
    → execution.code ≡ Some other → code ≡ other
one_made execution {code} {other} e f = let same : Some code ≡ Some other = sym e ∙ f in cc

-- code is made of texts without such faults
pub has_program : {text : List ℕ} {build : Build} {code : Tables}
    → IsCodeOf text build code → ¬ HasNoProgram text build
has_program of_text none = none of_text.program of_text.accepted

-- ---- what is wrong with a text
module _ {text : List ℕ} {build : Build} where
  pub fault_none : {n : ℕ} {told : List ℕ} → TextFault text build n told → HasNoProgram text build
  fault_none (refused told is) = is.none
  fault_none (unbound told is) = is.none

  fault_refused : {n : ℕ} {told : List ℕ} → TextFault text build n told → n ≡ REFUSED
      → IsRefused text build
  fault_refused (refused told is) e = record { none = is.none; not_unbound = is.not_unbound }
  fault_refused (unbound told is) e = absurd (omega arith)

  was_refused : {n : ℕ} {told : List ℕ} → TextFault text build n told → IsRefused text build
      → n ≡ REFUSED
  was_refused (refused told is) h = refl
  was_refused (unbound told is) h = absurd (h.not_unbound (told, is))

  fault_unbound : {n : ℕ} {told : List ℕ} → TextFault text build n told → n ≡ UNBOUND
      → HasUnbound text build
  fault_unbound (refused told is) e = absurd (omega arith)
  fault_unbound (unbound told is) e = (told, is)

  was_unbound : {n : ℕ} {told : List ℕ} → TextFault text build n told → HasUnbound text build
      → n ≡ UNBOUND
  was_unbound (refused told is) h = absurd (is.not_unbound h)
  was_unbound (unbound told is) h = refl

  pub fault_other : {n : ℕ} {told : List ℕ} → TextFault text build n told
      → (n ≡ REFUSED) ⊎ (n ≡ UNBOUND)
  fault_other (refused told is) = inl refl
  fault_other (unbound told is) = inr refl

-- ---- the file tells one text
abbrev pub TellsOne : Call → List ℕ → Type 0
TellsOne call file = (text other : List ℕ) → call.tells file text → call.tells file other → text ≡ other

pub texts_same : (call : Call) (file : List ℕ) → TellsOne call file
    → (one other : Source call file) → one.text ≡ other.text
texts_same call file one a b = one a.text b.text a.told b.told

pub text_short : (call : Call) (file : List ℕ) → TellsOne call file → IsTooLong call file
    → Source call file → ⊥
text_short call file one long source =
    let same : length long.text ≡ length source.text =
    ap length (one long.text source.text long.told source.told) in
    omega (arith, same, long.long, source.short)

module _ (call : Call) (file : List ℕ) (build : Build) (execution : Execution)
    (Does : Tables → ℕ → List ℕ → Type 0) where
  -- ---- what is done with the code has another status
  pub record IsOther (n : ℕ) : Type 0 where
    pub refused : n ≢ REFUSED
    pub unbound : n ≢ UNBOUND

  abbrev pub DoesOther : Type 0
  DoesOther = (code : Tables) (n : ℕ) (told : List ℕ) → Does code n told → IsOther n

  module _ (other : DoesOther) where
    text_refused : (text : List ℕ) {n : ℕ} {told : List ℕ}
        → CodeCause text build execution Does n told → n ≡ REFUSED → IsRefused text build
    text_refused text (faulty fault none) e = fault_refused fault e
    text_refused text (made code of_text is does) e = absurd ((other code _ _ does).refused e)

    pub refused_of : {n : ℕ} {told : List ℕ} → ProgramCause call file build execution Does n told
        → n ≡ REFUSED → HasNoProgramIn call file build
    refused_of (unreadable may none) e = absurd (omega arith)
    refused_of (too_long long none) e = absurd (omega arith)
    refused_of (work source cause) e = (source, text_refused source.text cause e)

    text_unbound : (text : List ℕ) {n : ℕ} {told : List ℕ}
        → CodeCause text build execution Does n told → n ≡ UNBOUND → HasUnbound text build
    text_unbound text (faulty fault none) e = fault_unbound fault e
    text_unbound text (made code of_text is does) e = absurd ((other code _ _ does).unbound e)

    pub unbound_of : {n : ℕ} {told : List ℕ} → ProgramCause call file build execution Does n told
        → n ≡ UNBOUND → HasUnboundIn call file build
    unbound_of (unreadable may none) e = absurd (omega arith)
    unbound_of (too_long long none) e = absurd (omega arith)
    unbound_of (work source cause) e = (source, text_unbound source.text cause e)

  -- ---- back
  text_was_refused : (text : List ℕ) {n : ℕ} {told : List ℕ}
      → CodeCause text build execution Does n told → IsRefused text build → n ≡ REFUSED
  text_was_refused text (faulty fault none) h = was_refused fault h
  text_was_refused text (made code of_text is does) h = absurd (has_program of_text h.none)

  text_was_unbound : (text : List ℕ) {n : ℕ} {told : List ℕ}
      → CodeCause text build execution Does n told → HasUnbound text build → n ≡ UNBOUND
  text_was_unbound text (faulty fault none) h = was_unbound fault h
  text_was_unbound text (made code of_text is does) h = absurd (has_program of_text h.1.none)

  module _ (one : TellsOne call file) where
    pub was_refused_in : {n : ℕ} {told : List ℕ}
        → ProgramCause call file build execution Does n told → n ≢ UNREADABLE
        → HasNoProgramIn call file build → n ≡ REFUSED
    was_refused_in (unreadable may none) read h = absurd (read refl)
    was_refused_in (too_long long none) read h = absurd (text_short call file one long h.0)
    was_refused_in (work source cause) read h =
        text_was_refused source.text cause
        (subst (λ t. IsRefused t build) (texts_same call file one h.0 source) h.1)

    pub was_unbound_in : {n : ℕ} {told : List ℕ}
        → ProgramCause call file build execution Does n told → n ≢ UNREADABLE
        → HasUnboundIn call file build → n ≡ UNBOUND
    was_unbound_in (unreadable may none) read h = absurd (read refl)
    was_unbound_in (too_long long none) read h = absurd (text_short call file one long h.0)
    was_unbound_in (work source cause) read h =
        text_was_unbound source.text cause
        (subst (λ t. HasUnbound t build) (texts_same call file one h.0 source) h.1)

    pub was_too_long_in : {n : ℕ} {told : List ℕ}
        → ProgramCause call file build execution Does n told → n ≢ UNREADABLE
        → IsTooLong call file → n ≡ TOO_LONG
    was_too_long_in (unreadable may none) read h = absurd (read refl)
    was_too_long_in (too_long long none) read h = refl
    was_too_long_in (work source cause) read h = absurd (text_short call file one h source)
