-- What a text comes to, and the status of a call: each is one.
use Rattle.std.proofs.Common.{◌≡◌, ℕ, List, length, codes}
use Rattle.std.proofs.Common.{refl, sym, ◌∙◌, ap, subst, arith}
use Rattle.zpl_nums.specs.declared.ends.End.{End}
use Rattle.zpl_nums.specs.declared.ends.End.TheVariants.{Done, Trap, More}
use Rattle.zpl_nums.specs.declared.ends.TrapKind.{TrapKind}
use Rattle.zpl_text.specs.declared.tokens.Token.{Token}
use Rattle.zpl_text.specs.Tokens.{IsTokens}
use Rattle.zpl_tree.specs.Syntax.{Program}
use Rattle.zpl_grammar.specs.Texts.{IsTreeOf}
use Rattle.zpl_binding.specs.Settings.{Setting}
use Rattle.zpl_binding.specs.Outcome.{BindFault}
use Rattle.zpl_binding.specs.Bound.{HasBindFault}
use Rattle.zpl_meaning.specs.Program.{Meaning, mean_of}
use Rattle.call_claims.specs.Call.{Call}
use Rattle.call_claims.specs.Cause.{IsTooLong}
use Rattle.call_claims.specs.Cause.FileCause.{unreadable, too_long, work}
use Rattle.call_claims.specs.Command.{Asked, IsMean, MeanTakes, limit_of}
use Rattle.call_claims.specs.Decided.{IsSettled}
use Rattle.call_claims.specs.Source.{Source}
use Rattle.call_claims.specs.declared.status.TheConstants.{DONE, TOO_LONG, REFUSED, UNBOUND}
use Rattle.call_claims.specs.declared.status.TheConstants.{TRAPPED, TURN_LIMIT}
use Rattle.call_claims.proofs.OneLemmas.{of_given}
use Rattle.mean_claims.specs.Cause.{TextCause, MeanCause, Cause, EndsSo}
use Rattle.mean_claims.specs.Cause.TextCause.{refused, unbound, done, trap, turn_limit}
use Rattle.mean_claims.specs.Cause.Cause.{no_memory, mean}
use Rattle.call_claims.specs.Accepted.{IsAccepted, IsFaulty}
use Rattle.mean_claims.specs.Text.{HasMeaning, IsUnboundWith}

-- ---- texts
-- a text has one list of tokens
abbrev pub OneWay : Type 0
OneWay = (text : List ℕ) (tokens others : List Token) → IsTokens text tokens → IsTokens text others
    → tokens ≡ others

-- and one tree
abbrev pub OneTree : Type 0
OneTree = (text : List ℕ) (tokens : List Token) (tree other : Program)
    → IsTreeOf text tokens tree → IsTreeOf text tokens other → tree ≡ other

-- an ending that isn't another
done_no_trap : (kind : TrapKind) (line : ℕ) → Done ≡ Trap kind line → ⊥
done_no_trap kind line e = cc

more_no_trap : (kind : TrapKind) (line : ℕ) → More ≡ Trap kind line → ⊥
more_no_trap kind line e = cc

done_no_more : Done ≡ More → ⊥
done_no_more e = cc

module _ (one_way : OneWay) (one_tree : OneTree) (text : List ℕ) where
  pub accepted_one : (program other : Program) → IsAccepted text program → IsAccepted text other
      → program ≡ other
  accepted_one program other a b =
      one_tree text b.tokens program other
      (subst (λ ts. IsTreeOf text ts program) (one_way text a.tokens b.tokens a.of_text b.of_text)
      a.tree.tree) b.tree.tree

  module _ (settings : List Setting) (loops : ℕ) where
    -- there is no fault of settings where there is a meaning
    not_bound : {Holds : Meaning → Type 0} (fault : BindFault) → IsUnboundWith text settings fault
        → HasMeaning text settings loops Holds → ⊥
    not_bound fault has means =
        means.bound fault (subst (λ p. HasBindFault p settings fault)
        (accepted_one has.program means.program has.accepted means.accepted) has.holds)

    ends_one : (ending other : End) → HasMeaning text settings loops (EndsSo ending)
        → HasMeaning text settings loops (EndsSo other) → ending ≡ other
    ends_one ending other a b =
        sym a.holds ∙ (ap (λ p. (mean_of p settings loops).ending)
        (accepted_one a.program b.program a.accepted b.accepted) ∙ b.holds)

    pub was_faulty : {n : ℕ} {told : List ℕ} → TextCause text settings loops n told → IsFaulty text → n ≡ REFUSED
    was_faulty (refused told faulty fault) none = refl
    was_faulty (unbound fault has) none = absurd (none has.program has.accepted)
    was_faulty (done has) none = absurd (none has.program has.accepted)
    was_faulty (trap kind line has) none = absurd (none has.program has.accepted)
    was_faulty (turn_limit has) none = absurd (none has.program has.accepted)

    pub was_unbound : {n : ℕ} {told : List ℕ} → TextCause text settings loops n told → (fault : BindFault)
        → IsUnboundWith text settings fault → n ≡ UNBOUND
    was_unbound (refused told faulty fault) kind is = absurd (faulty is.program is.accepted)
    was_unbound (unbound fault has) kind is = refl
    was_unbound (done has) kind is = absurd (not_bound kind is has)
    was_unbound (trap what line has) kind is = absurd (not_bound kind is has)
    was_unbound (turn_limit has) kind is = absurd (not_bound kind is has)

    pub was_done : {n : ℕ} {told : List ℕ} → TextCause text settings loops n told
        → HasMeaning text settings loops (EndsSo Done) → n ≡ DONE
    was_done (refused told faulty fault) is = absurd (faulty is.program is.accepted)
    was_done (unbound fault has) is = absurd (not_bound fault has is)
    was_done (done has) is = refl
    was_done (trap kind line has) is =
        absurd (done_no_trap kind line (ends_one Done (Trap kind line) is has))
    was_done (turn_limit has) is = absurd (done_no_more (ends_one Done More is has))

    pub was_trap : {n : ℕ} {told : List ℕ} → TextCause text settings loops n told → (kind : TrapKind) (line : ℕ)
        → HasMeaning text settings loops (EndsSo (Trap kind line)) → n ≡ TRAPPED
    was_trap (refused told faulty fault) kind line is = absurd (faulty is.program is.accepted)
    was_trap (unbound fault has) kind line is = absurd (not_bound fault has is)
    was_trap (done has) kind line is =
        absurd (done_no_trap kind line (ends_one Done (Trap kind line) has is))
    was_trap (trap other at has) kind line is = refl
    was_trap (turn_limit has) kind line is =
        absurd (more_no_trap kind line (ends_one More (Trap kind line) has is))

    pub was_more : {n : ℕ} {told : List ℕ} → TextCause text settings loops n told
        → HasMeaning text settings loops (EndsSo More) → n ≡ TURN_LIMIT
    was_more (refused told faulty fault) is = absurd (faulty is.program is.accepted)
    was_more (unbound fault has) is = absurd (not_bound fault has is)
    was_more (done has) is = absurd (done_no_more (ends_one Done More has is))
    was_more (trap kind line has) is =
        absurd (more_no_trap kind line (ends_one More (Trap kind line) is has))
    was_more (turn_limit has) is = refl

    text_one : {n m : ℕ} {told other : List ℕ} → TextCause text settings loops n told
        → TextCause text settings loops m other → n ≡ m
    text_one (refused told faulty fault) c = sym (was_faulty c faulty)
    text_one (unbound fault has) c = sym (was_unbound c fault has)
    text_one (done has) c = sym (was_done c has)
    text_one (trap kind line has) c = sym (was_trap c kind line has)
    text_one (turn_limit has) c = sym (was_more c has)

-- ---- files
module _ (call : Call) where
  pub not_long : {n : ℕ} → IsSettled call n → (file : List ℕ) → IsTooLong call file
      → Source call file → ⊥
  not_long settled file long source =
      let same : length long.text ≡ length source.text =
      ap length (settled.one file long.text source.text long.told source.told) in
      omega (arith, same, long.long, source.short)

  -- the cause of a status is one of the work on the text that the file tells
  pub on_text : {n : ℕ} {told : List ℕ} → IsSettled call n → (file : List ℕ) (asked : Asked)
      → MeanCause call file asked n told → (source : Source call file)
      → TextCause source.text asked.settings (limit_of asked) n told
  on_text settled file asked (unreadable may none) source = absurd (settled.read refl)
  on_text settled file asked (too_long long none) source =
      absurd (not_long settled file long source)
  on_text {n = n} {told = told} settled file asked (work also cause) source =
      subst (λ t. TextCause t asked.settings (limit_of asked) n told)
      (settled.one file also.text source.text also.told source.told) cause

  pub was_long : {n : ℕ} {told : List ℕ} → IsSettled call n → (file : List ℕ) (asked : Asked)
      → MeanCause call file asked n told → IsTooLong call file → n ≡ TOO_LONG
  was_long settled file asked (unreadable may none) long = absurd (settled.read refl)
  was_long settled file asked (too_long also none) long = refl
  was_long settled file asked (work source cause) long =
      absurd (not_long settled file long source)

  -- and one of the file that the words name
  pub on_file : {n : ℕ} {told : List ℕ} → IsSettled call n → Cause call n told → (file : List ℕ)
      (asked : Asked) → IsMean call.words file asked → MeanCause call file asked n told
  on_file settled no_memory file asked is = absurd (settled.decided.memory refl)
  on_file settled (mean also) file asked is =
      of_given (codes "mean") MeanTakes call.words file asked is also

-- ---- any call
module _ (one_way : OneWay) (one_tree : OneTree) (call : Call) where
  file_one : {n m : ℕ} {told other : List ℕ} → IsSettled call n → IsSettled call m
      → (file : List ℕ) (asked : Asked) → MeanCause call file asked n told
      → MeanCause call file asked m other → n ≡ m
  file_one s t file asked (unreadable may none) c = absurd (s.read refl)
  file_one s t file asked (too_long long none) c = sym (was_long call t file asked c long)
  file_one s t file asked (work source cause) c =
      text_one one_way one_tree source.text asked.settings (limit_of asked) cause
      (on_text call t file asked c source)

  pub cause_one : (n m : ℕ) (told other : List ℕ) → IsSettled call n → IsSettled call m
      → Cause call n told → Cause call m other → n ≡ m
  cause_one n m told other s t no_memory c = absurd (s.decided.memory refl)
  cause_one n m told other s t (mean is) c =
      file_one s t is.file is.asked is.holds (on_file call t c is.file is.asked is.given)
