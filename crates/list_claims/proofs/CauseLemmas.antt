-- A status of `list` with its cause comes just where that cause is.
use Rattle.std.proofs.Common.{◌≡◌, ◌≢◌, ℕ, List, codes, refl, arith, inl, inr}
use Rattle.node_form.specs.declared.tables.Tables.{Tables}
use Rattle.call_claims.specs.of_zpl_claims.Build.{Build}
use Rattle.call_claims.specs.Call.{Call}
use Rattle.list_claims.specs.Cause.{CodeCause, ListCause, IsListed, Lists, Cause}
use Rattle.call_claims.specs.Cause.{IsTooLong}
use Rattle.list_claims.specs.Cause.CodeCause.{faulty, made}
use Rattle.call_claims.specs.Cause.FileCause.{unreadable, too_long, work}
use Rattle.list_claims.specs.Cause.IsListed.{listed}
use Rattle.list_claims.specs.Cause.Cause.{no_memory, list}
use Rattle.call_claims.specs.Command.{Asked, ListTakes, build_of}
use Rattle.call_claims.specs.Decided.{IsDecided}
use Rattle.list_claims.specs.Decided.{IsExact, HasNoProgramIn, HasUnboundIn}
use Rattle.call_claims.specs.Execution.{Execution, HasCode}
use Rattle.call_claims.specs.declared.status.TheConstants.{DONE, TOO_LONG, REFUSED, UNBOUND}
use Rattle.call_claims.proofs.OneLemmas.{as_asked}
use Rattle.list_claims.proofs.ProgramLemmas.{fault_other, none_made, refused_of, unbound_of}
use Rattle.list_claims.proofs.ProgramLemmas.{was_refused_in, was_too_long_in, was_unbound_in}

module _ (call : Call) (ex : Execution) where
  abbrev Does : Tables → ℕ → List ℕ → Type 0
  Does code = IsListed ex.turns

  was_listed : {n : ℕ} {told : List ℕ} → IsListed ex.turns n told → n ≡ DONE
  was_listed (listed none) = refl

  -- ---- of a text
  module _ {text : List ℕ} {build : Build} where
    text_done : {n : ℕ} {told : List ℕ} → CodeCause text build ex Does n told → n ≡ DONE
        → HasCode ex
    text_done (faulty fault none) e = absurd (elim (fault_other fault)
        [ inl f ↦ omega (arith, e, f) | inr f ↦ omega (arith, e, f) ])
    text_done (made code of_text is does) e = record { code = code; made = is }

    text_made : {n : ℕ} {told : List ℕ} → CodeCause text build ex Does n told → HasCode ex
        → n ≡ DONE
    text_made (faulty fault none) h = absurd (none_made ex none h.made)
    text_made (made code of_text is does) h = was_listed does

    text_short : {n : ℕ} {told : List ℕ} → CodeCause text build ex Does n told → n ≢ TOO_LONG
    text_short (faulty fault none) = elim (fault_other fault)
        [ inl f ↦ λ e. omega (arith, e, f) | inr f ↦ λ e. omega (arith, e, f) ]
    text_short (made code of_text is does) =
        let done = was_listed does in λ e. omega (arith, e, done)

  -- ---- of a file
  module _ (file : List ℕ) (asked : Asked) where
    file_done : {n : ℕ} {told : List ℕ} → ListCause call file asked ex n told → n ≡ DONE
        → HasCode ex
    file_done (unreadable may none) e = absurd (omega arith)
    file_done (too_long long none) e = absurd (omega arith)
    file_done (work source cause) e = text_done cause e

    file_made : {n : ℕ} {told : List ℕ} → ListCause call file asked ex n told → HasCode ex
        → n ≡ DONE
    file_made (unreadable may none) h = absurd (none_made ex none h.made)
    file_made (too_long long none) h = absurd (none_made ex none h.made)
    file_made (work source cause) h = text_made cause h

    file_long : {n : ℕ} {told : List ℕ} → ListCause call file asked ex n told → n ≡ TOO_LONG
        → IsTooLong call file
    file_long (unreadable may none) e = absurd (omega arith)
    file_long (too_long long none) e = long
    file_long (work source cause) e = absurd (text_short cause e)

  done_other : (code : Tables) (n : ℕ) (told : List ℕ) → Does code n told
      → (n ≢ REFUSED) × (n ≢ UNBOUND)
  done_other code n told does =
      let done = was_listed does in
      (λ e. omega (arith, e, done), λ e. omega (arith, e, done))

  -- ---- of a call
  from : {n : ℕ} {told : List ℕ} (wanted : ℕ) (Holds : List ℕ → Asked → Type 0) → n ≢ 10
      → ((file : List ℕ) (asked : Asked) → ListCause call file asked ex n told → n ≡ wanted
      → Holds file asked) → Cause call ex n told → n ≡ wanted → Lists call Holds
  from wanted Holds memory to no_memory e = absurd (memory refl)
  from wanted Holds memory to (list l) e = record {
    file = l.file;
    asked = l.asked;
    given = l.given;
    holds = to l.file l.asked l.holds e;
  }

  back : {n : ℕ} {told : List ℕ} (wanted : ℕ) (Holds : List ℕ → Asked → Type 0) → IsDecided n
      → ((file : List ℕ) (asked : Asked) → ListCause call file asked ex n told
      → Holds file asked → n ≡ wanted) → Cause call ex n told → Lists call Holds → n ≡ wanted
  back wanted Holds d to no_memory h = absurd (d.memory refl)
  back wanted Holds d to (list l) h = to l.file l.asked l.holds
      (as_asked (codes "list") ListTakes call.words l h)

pub exactly : (call : Call) (ex : Execution) (n : ℕ) (told : List ℕ) → Cause call ex n told
    → IsExact call ex n
exactly call ex n told cause = record {
  done = λ d. (
    from call ex DONE (λ file asked. HasCode ex) d.memory
        (λ file asked c e. file_done call ex file asked c e) cause,
    back call ex DONE (λ file asked. HasCode ex) d
        (λ file asked c h. file_made call ex file asked c h) cause,
  );
  too_long = λ s. (
    from call ex TOO_LONG (λ file asked. IsTooLong call file) s.decided.memory (λ file asked c e. file_long call ex file asked c e) cause,
    back call ex TOO_LONG (λ file asked. IsTooLong call file) s.decided
        (λ file asked c h. was_too_long_in call file (build_of asked) ex (Does call ex) (s.one file)
        c s.read h) cause,
  );
  refused = λ s. (
    from call ex REFUSED (λ file asked. HasNoProgramIn call file (build_of asked)) s.decided.memory
        (λ file asked c e. refused_of call file (build_of asked) ex (Does call ex)
        (λ code m t does. let o = done_other call ex code m t does in
        record { refused = o.0; unbound = o.1 }) c e) cause,
    back call ex REFUSED (λ file asked. HasNoProgramIn call file (build_of asked)) s.decided
        (λ file asked c h. was_refused_in call file (build_of asked) ex (Does call ex) (s.one file)
        c s.read h) cause,
  );
  unbound = λ s. (
    from call ex UNBOUND (λ file asked. HasUnboundIn call file (build_of asked)) s.decided.memory
        (λ file asked c e. unbound_of call file (build_of asked) ex (Does call ex)
        (λ code m t does. let o = done_other call ex code m t does in
        record { refused = o.0; unbound = o.1 }) c e) cause,
    back call ex UNBOUND (λ file asked. HasUnboundIn call file (build_of asked)) s.decided
        (λ file asked c h. was_unbound_in call file (build_of asked) ex (Does call ex) (s.one file)
        c s.read h) cause,
  );
}
