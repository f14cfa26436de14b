-- When each status comes.
use Rattle.std.specs.Prelude.{◌≡◌, ◌↔◌, ℕ, List}
use Rattle.zpl_nums.specs.declared.ends.End.TheVariants.{Done, Trap, More}
use Rattle.zpl_nums.specs.declared.ends.TrapKind.{TrapKind}
use Rattle.zpl_binding.specs.Outcome.{BindFault}
use Rattle.zpl_meaning.specs.Program.{Meaning}
use Rattle.call_claims.specs.Call.{Call}
use Rattle.call_claims.specs.Cause.{IsTooLong}
use Rattle.call_claims.specs.Command.{Asked, Asks, IsMean, limit_of}
use Rattle.call_claims.specs.Source.{Source}
use Rattle.call_claims.specs.declared.status.TheConstants.{DONE, TOO_LONG, REFUSED, UNBOUND}
use Rattle.call_claims.specs.declared.status.TheConstants.{TRAPPED, TURN_LIMIT}
use Rattle.mean_claims.specs.Cause.{EndsSo}
use Rattle.call_claims.specs.Accepted.{IsFaulty}
use Rattle.mean_claims.specs.Text.{HasMeaning, IsUnboundWith}

-- The words ask for the meaning of a file, and this holds of it and of what they ask for.
abbrev pub AsksMean : Call → (List ℕ → Asked → Type 0) → Type 0
AsksMean call = Asks IsMean call.words

-- the file tells a text, not too long, that has a meaning under the settings of the words, and this
-- holds of it
abbrev pub Means : Call → (Meaning → Type 0) → Type 0
Means call Holds =
    AsksMean call (λ file asked. (source : Source call file)
    × HasMeaning source.text asked.settings (limit_of asked) Holds)

-- 0
abbrev pub MeansDone : Call → Type 0
MeansDone call = Means call (EndsSo Done)

-- 3: it tells one that is too long
abbrev pub MeansTooLong : Call → Type 0
MeansTooLong call = AsksMean call (λ file asked. IsTooLong call file)

-- 4: it tells one, not too long, without a tree, or with one that is too deep or has a fault of
-- names, ranks or types
abbrev pub MeansFaulty : Call → Type 0
MeansFaulty call = AsksMean call (λ file asked. (source : Source call file) × IsFaulty source.text)

-- 5: it tells one, not too long, without such a fault, where one of the settings, or of the
-- declarations under them, holds
abbrev pub MeansUnbound : Call → Type 0
MeansUnbound call =
    AsksMean call (λ file asked. (source : Source call file) × (fault : BindFault)
    × IsUnboundWith source.text asked.settings fault)

-- 7
abbrev pub MeansTrap : Call → Type 0
MeansTrap call = (kind : TrapKind) × (line : ℕ) × Means call (EndsSo (Trap kind line))

-- 8
abbrev pub MeansMore : Call → Type 0
MeansMore call = Means call (EndsSo More)

-- ---- each status comes just where its own cause is
pub record IsExact (call : Call) (status : ℕ) : Type 0 where
  pub too_long : (status ≡ TOO_LONG) ↔ MeansTooLong call
  pub refused : (status ≡ REFUSED) ↔ MeansFaulty call
  pub unbound : (status ≡ UNBOUND) ↔ MeansUnbound call
  pub done : (status ≡ DONE) ↔ MeansDone call
  pub trap : (status ≡ TRAPPED) ↔ MeansTrap call
  pub turn_limit : (status ≡ TURN_LIMIT) ↔ MeansMore call
