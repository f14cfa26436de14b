-- No cause is of the status of words that are no command.
use Rattle.std.proofs.Common.{◌≢◌, ℕ, List, arith}
use Rattle.zpl_binding.specs.Settings.{Setting}
use Rattle.call_claims.specs.Call.{Call}
use Rattle.call_claims.specs.Cause.FileCause.{unreadable, too_long, work}
use Rattle.call_claims.specs.Command.{Asked}
use Rattle.call_claims.specs.declared.status.TheConstants.{USAGE}
use Rattle.mean_claims.specs.Cause.{Cause, MeanCause, TextCause}
use Rattle.mean_claims.specs.Cause.Cause.{no_memory, mean}
use Rattle.mean_claims.specs.Cause.TextCause.{refused, unbound, done, trap, turn_limit}

text_known : {text told : List ℕ} {settings : List Setting} {loops n : ℕ}
    → TextCause text settings loops n told → n ≢ USAGE
text_known (refused told faulty fault) = λ e. omega arith
text_known (unbound fault has) = λ e. omega arith
text_known (done has) = λ e. omega arith
text_known (trap kind line has) = λ e. omega arith
text_known (turn_limit has) = λ e. omega arith

file_known : (call : Call) (file : List ℕ) (asked : Asked) {n : ℕ} {told : List ℕ}
    → MeanCause call file asked n told → n ≢ USAGE
file_known call file asked (unreadable may none) = λ e. omega arith
file_known call file asked (too_long long none) = λ e. omega arith
file_known call file asked (work source cause) = text_known cause

pub cause_known : {call : Call} {n : ℕ} {told : List ℕ} → Cause call n told → n ≢ USAGE
cause_known no_memory = λ e. omega arith
cause_known {call = call} (mean is) = file_known call is.file is.asked is.holds
