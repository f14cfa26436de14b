-- Why a call of `mean` has its status, and what is told of it: by the command, the file, the text.
use Rattle.std.specs.Prelude.{◌≡◌, ℕ, List, [], None}
use Rattle.zpl_nums.specs.declared.ends.End.{End}
use Rattle.zpl_nums.specs.declared.ends.End.TheVariants.{Done, Trap, More}
use Rattle.zpl_nums.specs.declared.ends.TrapKind.{TrapKind}
use Rattle.zpl_binding.specs.Settings.{Setting}
use Rattle.zpl_binding.specs.Outcome.{BindFault}
use Rattle.zpl_meaning.specs.Program.{Meaning}
use Rattle.call_claims.specs.Call.{Call}
use Rattle.call_claims.specs.Cause.{FileCause}
use Rattle.call_claims.specs.Command.{Asked, Asks, IsMean, limit_of}
use Rattle.call_claims.specs.Execution.{Execution}
use Rattle.call_claims.specs.Refusal.{IsFault}
use Rattle.call_claims.specs.Texts.{bind_name, settings_text, trap_text}
use Rattle.call_claims.specs.Texts.{turn_limit_text, no_memory_text}
use Rattle.call_claims.specs.declared.status.TheConstants.{DONE, REFUSED, UNBOUND}
use Rattle.call_claims.specs.declared.status.TheConstants.{TRAPPED, TURN_LIMIT, NO_MEMORY}
use Rattle.call_claims.specs.Accepted.{IsFaulty}
use Rattle.mean_claims.specs.Text.{HasMeaning, IsUnboundWith}

-- the meaning ends so
abbrev pub EndsSo : End → Meaning → Type 0
EndsSo ending meaning = meaning.ending ≡ ending

-- ---- a text under settings, with so many turns of each loop
-- It is refused for a fault of tokens, syntax, names, ranks or types; or for one of its settings or
-- of its declarations under them; or it has a meaning, which ends normally, with a trap at a line,
-- or wanting more turns of a loop.
pub data TextCause (text : List ℕ) (settings : List Setting) (loops : ℕ) : ℕ → List ℕ → Type 0
  where
    refused : (told : List ℕ) → IsFaulty text → IsFault text told
        → TextCause text settings loops REFUSED told
    unbound : (fault : BindFault) → IsUnboundWith text settings fault
        → TextCause text settings loops UNBOUND (settings_text (bind_name fault))
    done : HasMeaning text settings loops (EndsSo Done) → TextCause text settings loops DONE []
    trap : (kind : TrapKind) (line : ℕ) → HasMeaning text settings loops (EndsSo (Trap kind line))
        → TextCause text settings loops TRAPPED (trap_text kind line)
    turn_limit : HasMeaning text settings loops (EndsSo More)
        → TextCause text settings loops TURN_LIMIT turn_limit_text

-- ---- the file
-- no code is made, and nothing is run
abbrev pub no_execution : Execution
no_execution = record { code = None; turns = 0 }

-- mean FILE
abbrev pub MeanCause : Call → List ℕ → Asked → ℕ → List ℕ → Type 0
MeanCause call file asked =
    FileCause call file no_execution (λ text. TextCause text asked.settings (limit_of asked))

-- ---- any call
-- The cause of a status, and what is told of it. A failed put is no cause of these.
pub data Cause (call : Call) : ℕ → List ℕ → Type 0 where
  no_memory : Cause call NO_MEMORY no_memory_text
  mean : {status : ℕ} {told : List ℕ}
      → Asks IsMean call.words (λ file asked. MeanCause call file asked status told)
      → Cause call status told
