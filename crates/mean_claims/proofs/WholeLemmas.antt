-- A call of `mean` that has all that it needs ends as its program means, and has printed that.
use Rattle.std.proofs.Common.{◌≡◌, ℕ, List, codes, refl, sym, subst, inl, inr}
use Rattle.zpl_nums.specs.declared.ends.End.{End}
use Rattle.zpl_nums.specs.declared.ends.End.TheVariants.{Done, Trap, More}
use Rattle.zpl_io.specs.Sink.{Takes}
use Rattle.zpl_meaning.specs.Program.{Meaning, mean_of}
use Rattle.call_claims.specs.Accepted.{IsAccepted}
use Rattle.call_claims.specs.Call.{Call}
use Rattle.call_claims.specs.Command.{Asked, IsMean, MeanTakes, limit_of}
use Rattle.call_claims.specs.Decided.{IsSettled}
use Rattle.call_claims.specs.Ended.{IsStatusOf, normal, trapped}
use Rattle.call_claims.specs.Source.{Source}
use Rattle.call_claims.proofs.OneLemmas.{of_given}
use Rattle.mean_claims.specs.Answer.{IsEnd, TakesOutput}
use Rattle.mean_claims.specs.Cause.{Cause, EndsSo}
use Rattle.mean_claims.specs.Decided.{IsExact, Means}
use Rattle.mean_claims.specs.Text.{HasMeaning}
use Rattle.mean_claims.specs.Whole.{CanMean, meaning_in}
use Rattle.mean_claims.proofs.Exact.{exactly}
use Rattle.mean_claims.proofs.OneLemmas.{OneWay, OneTree, accepted_one}

is_end : {ending : End} {n : ℕ} → IsStatusOf ending n → IsEnd n
is_end normal = inl refl
is_end trapped = inr (inl refl)

module _ (one_way : OneWay) (one_tree : OneTree) (call : Call) (file : List ℕ) (asked : Asked)
    (given : IsMean call.words file asked) (n : ℕ) (settled : IsSettled call n)
    (can : CanMean call file asked) where
  -- what holds of its meaning holds of a meaning of the call
  of_call : (Holds : Meaning → Type 0) → Holds (meaning_in can) → Means call Holds
  of_call Holds h = record {
    file = file;
    asked = asked;
    given = given;
    holds = (
      can.source,
      record { program = can.program; accepted = can.accepted; bound = can.bound; holds = h },
    );
  }

  -- and the other way round
  of_meaning : (Holds : Meaning → Type 0) → Means call Holds → Holds (meaning_in can)
  of_meaning Holds means = at held.0 held.1
    where
      held : (source : Source call file)
          × HasMeaning source.text asked.settings (limit_of asked) Holds
      held = of_given (codes "mean") MeanTakes call.words file asked given means

      at : (source : Source call file)
          → HasMeaning source.text asked.settings (limit_of asked) Holds → Holds (meaning_in can)
      at source has =
          subst (λ p. Holds (mean_of p asked.settings (limit_of asked)))
          (accepted_one one_way one_tree can.source.text has.program can.program
          (subst (λ t. IsAccepted t has.program)
          (settled.one file source.text can.source.text source.told can.source.told) has.accepted)
          can.accepted) has.holds

  pub ended : {told : List ℕ} → Cause call n told → IsStatusOf (meaning_in can).ending n
  ended {told = told} cause = by (meaning_in can).ending refl
    where
      exact : IsExact call n
      exact = exactly one_way one_tree call n told cause settled

      by : (ending : End) → (meaning_in can).ending ≡ ending → IsStatusOf ending n
      by Done e = subst (IsStatusOf Done) (sym (exact.done.1 (of_call (EndsSo Done) e))) normal
      by (Trap kind line) e =
          subst (IsStatusOf (Trap kind line))
          (sym (exact.trap.1 (kind, line, of_call (EndsSo (Trap kind line)) e))) trapped
      by More e = absurd (can.ends e)

  pub took_meaning : (before after : List ℕ → Type 0) → IsStatusOf (meaning_in can).ending n
      → TakesOutput call n before after → Takes before (meaning_in can).bytes after
  took_meaning before after status output =
      of_meaning (λ meaning. Takes before meaning.bytes after) (output.whole (is_end status))
