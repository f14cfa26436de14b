-- A status with its cause comes just where that cause is.
use Rattle.std.proofs.Common.{◌≡◌, ◌≢◌, ℕ, List, refl, sym, subst, arith}
use Rattle.zpl_nums.specs.declared.ends.End.TheVariants.{Done, Trap, More}
use Rattle.zpl_nums.specs.declared.ends.TrapKind.{TrapKind}
use Rattle.zpl_binding.specs.Settings.{Setting}
use Rattle.zpl_binding.specs.Outcome.{BindFault}
use Rattle.call_claims.specs.Call.{Call}
use Rattle.call_claims.specs.Cause.{IsTooLong}
use Rattle.call_claims.specs.Cause.FileCause.{unreadable, too_long, work}
use Rattle.call_claims.specs.Command.{Asked, limit_of}
use Rattle.call_claims.specs.Decided.{IsSettled}
use Rattle.call_claims.specs.Source.{Source}
use Rattle.call_claims.specs.declared.status.TheConstants.{DONE, UNREADABLE, TOO_LONG}
use Rattle.call_claims.specs.declared.status.TheConstants.{REFUSED, UNBOUND, TRAPPED, TURN_LIMIT}
use Rattle.call_claims.specs.declared.status.TheConstants.{NO_MEMORY}
use Rattle.mean_claims.specs.Cause.{TextCause, MeanCause, Cause, EndsSo}
use Rattle.mean_claims.specs.Cause.TextCause.{refused, unbound, done, trap, turn_limit}
use Rattle.mean_claims.specs.Cause.Cause.{no_memory, mean}
use Rattle.mean_claims.specs.Decided.{AsksMean, IsExact, MeansDone, MeansFaulty, MeansMore, MeansTooLong}
use Rattle.mean_claims.specs.Decided.{MeansTrap, MeansUnbound}
use Rattle.call_claims.specs.Accepted.{IsFaulty}
use Rattle.mean_claims.specs.Text.{HasMeaning, IsUnboundWith}
use Rattle.mean_claims.proofs.OneLemmas.{OneWay, OneTree, on_file, on_text, was_long}
use Rattle.mean_claims.proofs.OneLemmas.{was_faulty, was_unbound, was_done, was_trap, was_more}

-- ---- what a status says of the text
text_faulty : {text told : List ℕ} {settings : List Setting} {loops n : ℕ}
    → TextCause text settings loops n told → n ≡ REFUSED → IsFaulty text
text_faulty (refused told faulty fault) e = faulty
text_faulty (unbound fault has) e = absurd (omega arith)
text_faulty (done has) e = absurd (omega arith)
text_faulty (trap kind line has) e = absurd (omega arith)
text_faulty (turn_limit has) e = absurd (omega arith)

text_unbound : {text told : List ℕ} {settings : List Setting} {loops n : ℕ}
    → TextCause text settings loops n told → n ≡ UNBOUND
    → (fault : BindFault) × IsUnboundWith text settings fault
text_unbound (refused told faulty fault) e = absurd (omega arith)
text_unbound (unbound fault has) e = (fault, has)
text_unbound (done has) e = absurd (omega arith)
text_unbound (trap kind line has) e = absurd (omega arith)
text_unbound (turn_limit has) e = absurd (omega arith)

text_done : {text told : List ℕ} {settings : List Setting} {loops n : ℕ}
    → TextCause text settings loops n told → n ≡ DONE
    → HasMeaning text settings loops (EndsSo Done)
text_done (refused told faulty fault) e = absurd (omega arith)
text_done (unbound fault has) e = absurd (omega arith)
text_done (done has) e = has
text_done (trap kind line has) e = absurd (omega arith)
text_done (turn_limit has) e = absurd (omega arith)

text_trap : {text told : List ℕ} {settings : List Setting} {loops n : ℕ}
    → TextCause text settings loops n told → n ≡ TRAPPED
    → (kind : TrapKind) × (line : ℕ) × HasMeaning text settings loops (EndsSo (Trap kind line))
text_trap (refused told faulty fault) e = absurd (omega arith)
text_trap (unbound fault has) e = absurd (omega arith)
text_trap (done has) e = absurd (omega arith)
text_trap (trap kind line has) e = (kind, line, has)
text_trap (turn_limit has) e = absurd (omega arith)

text_more : {text told : List ℕ} {settings : List Setting} {loops n : ℕ}
    → TextCause text settings loops n told → n ≡ TURN_LIMIT
    → HasMeaning text settings loops (EndsSo More)
text_more (refused told faulty fault) e = absurd (omega arith)
text_more (unbound fault has) e = absurd (omega arith)
text_more (done has) e = absurd (omega arith)
text_more (trap kind line has) e = absurd (omega arith)
text_more (turn_limit has) e = has

text_short : {text told : List ℕ} {settings : List Setting} {loops n : ℕ}
    → TextCause text settings loops n told → n ≢ TOO_LONG
text_short (refused told faulty fault) = λ e. omega arith
text_short (unbound fault has) = λ e. omega arith
text_short (done has) = λ e. omega arith
text_short (trap kind line has) = λ e. omega arith
text_short (turn_limit has) = λ e. omega arith

-- ---- what it says of the call
-- a status that only the work on a text has
record IsOfText (n : ℕ) : Type 0 where
  unreadable : n ≢ UNREADABLE
  too_long : n ≢ TOO_LONG
  memory : n ≢ NO_MEMORY

of_a_text : {n : ℕ} (s : ℕ) → n ≡ s → s ≢ UNREADABLE → s ≢ TOO_LONG → s ≢ NO_MEMORY
    → IsOfText n
of_a_text s e b c d = subst IsOfText (sym e)
    (record { unreadable = b; too_long = c; memory = d })

module _ (call : Call) where
  file_text : {n : ℕ} {told : List ℕ} → (file : List ℕ) (asked : Asked) → MeanCause call file asked n told → IsOfText n
      → (source : Source call file) × TextCause source.text asked.settings (limit_of asked) n told
  file_text file asked (unreadable may none) d = absurd (d.unreadable refl)
  file_text file asked (too_long long none) d = absurd (d.too_long refl)
  file_text file asked (work source cause) d = (source, cause)

  -- the words name a file that tells a text with this cause
  asks_text : {n : ℕ} {told : List ℕ} → Cause call n told → IsOfText n
      → AsksMean call (λ file asked. (source : Source call file)
      × TextCause source.text asked.settings (limit_of asked) n told)
  asks_text no_memory d = absurd (d.memory refl)
  asks_text (mean is) d = record {
    file = is.file;
    asked = is.asked;
    given = is.given;
    holds = file_text is.file is.asked is.holds d;
  }

  done_of : {n : ℕ} {told : List ℕ} → Cause call n told → n ≡ DONE → MeansDone call
  done_of cause e =
      let is = asks_text cause (of_a_text DONE e (λ f. omega arith) (λ f. omega arith) (λ f. omega arith)) in
      record { file = is.file; asked = is.asked; given = is.given; holds = (is.holds.0, text_done is.holds.1 e) }

  trap_of : {n : ℕ} {told : List ℕ} → Cause call n told → n ≡ TRAPPED → MeansTrap call
  trap_of cause e =
      let is = asks_text cause (of_a_text TRAPPED e (λ f. omega arith) (λ f. omega arith) (λ f. omega arith)) in
      let has = text_trap is.holds.1 e in
      (has.0, has.1, record { file = is.file; asked = is.asked; given = is.given; holds = (is.holds.0, has.2) })

  more_of : {n : ℕ} {told : List ℕ} → Cause call n told → n ≡ TURN_LIMIT → MeansMore call
  more_of cause e =
      let is = asks_text cause (of_a_text TURN_LIMIT e (λ f. omega arith) (λ f. omega arith) (λ f. omega arith)) in
      record { file = is.file; asked = is.asked; given = is.given; holds = (is.holds.0, text_more is.holds.1 e) }

  faulty_of : {n : ℕ} {told : List ℕ} → Cause call n told → n ≡ REFUSED → MeansFaulty call
  faulty_of cause e =
      let is = asks_text cause (of_a_text REFUSED e (λ f. omega arith) (λ f. omega arith) (λ f. omega arith)) in
      record { file = is.file; asked = is.asked; given = is.given; holds = (is.holds.0, text_faulty is.holds.1 e) }

  unbound_of : {n : ℕ} {told : List ℕ} → Cause call n told → n ≡ UNBOUND → MeansUnbound call
  unbound_of cause e =
      let is = asks_text cause (of_a_text UNBOUND e (λ f. omega arith) (λ f. omega arith) (λ f. omega arith)) in
      let has = text_unbound is.holds.1 e in
      record { file = is.file; asked = is.asked; given = is.given; holds = (is.holds.0, has.0, has.1) }

  file_long : {n : ℕ} {told : List ℕ} → (file : List ℕ) (asked : Asked) → MeanCause call file asked n told → n ≡ TOO_LONG
      → IsTooLong call file
  file_long file asked (unreadable may none) e = absurd (omega arith)
  file_long file asked (too_long long none) e = long
  file_long file asked (work source cause) e = absurd (text_short cause e)

  long_of : {n : ℕ} {told : List ℕ} → Cause call n told → n ≡ TOO_LONG → MeansTooLong call
  long_of no_memory e = absurd (omega arith)
  long_of (mean is) e = record {
    file = is.file;
    asked = is.asked;
    given = is.given;
    holds = file_long is.file is.asked is.holds e;
  }

-- ---- exactly
module _ (one_way : OneWay) (one_tree : OneTree) (call : Call) (n : ℕ) (told : List ℕ)
    (cause : Cause call n told) (settled : IsSettled call n) where
  -- the cause, at the file and the text that something is said of
  at : {Holds : List ℕ → Asked → Type 0} → (is : AsksMean call Holds) (source : Source call is.file)
      → TextCause source.text is.asked.settings (limit_of is.asked) n told
  at is source =
      on_text call settled is.file is.asked
      (on_file call settled cause is.file is.asked is.given) source

  pub exactly : IsExact call n
  exactly = record {
    too_long = (
      long_of call cause,
      λ is. was_long call settled is.file is.asked
          (on_file call settled cause is.file is.asked is.given) is.holds,
    );
    refused = (
      faulty_of call cause,
      λ is. was_faulty one_way one_tree is.holds.0.text is.asked.settings (limit_of is.asked)
          (at is is.holds.0) is.holds.1,
    );
    unbound = (
      unbound_of call cause,
      λ is. was_unbound one_way one_tree is.holds.0.text is.asked.settings (limit_of is.asked)
          (at is is.holds.0) is.holds.1 is.holds.2,
    );
    done = (
      done_of call cause,
      λ is. was_done one_way one_tree is.holds.0.text is.asked.settings (limit_of is.asked)
          (at is is.holds.0) is.holds.1,
    );
    trap = (
      trap_of call cause,
      λ is. was_trap one_way one_tree is.2.holds.0.text is.2.asked.settings (limit_of is.2.asked)
          (at is.2 is.2.holds.0) is.0 is.1 is.2.holds.1,
    );
    turn_limit = (
      more_of call cause,
      λ is. was_more one_way one_tree is.holds.0.text is.asked.settings (limit_of is.asked)
          (at is is.holds.0) is.holds.1,
    );
  }
