-- What the first four phases of a statement leave, behind its brackets, checks and operators.
use Rattle.std.specs.Prelude.{◌≡◌, ℕ, ◌<◌, ◌≤◌, List, [], slice_get}
use Rattle.zpl_nums.specs.declared.ends.End.TheVariants.{Trap}
use Rattle.zpl_nums.specs.declared.ends.TrapKind.{TrapKind}
use Rattle.zpl_meaning.specs.Computed as mean
use Rattle.zpl_meaning.specs.Fields.{Field}
use Rattle.node_form.specs.declared.tables.Tables.{Tables}
use Rattle.node_form.specs.Expression.{Expression}
use Rattle.row_runs.specs.Run.{Ends}
use Rattle.row_runs.specs.Straight.{Every}
use Rattle.row_runs.specs.Structured.{Course, GoesOn, Over}
use Rattle.flat_form.specs.Whole.{Whole}
use Rattle.print_runs.specs.of_zpl_lowering.Where.{Stored, Next}
use Rattle.print_runs.specs.of_zpl_lowering.Reference.{Reference}
use Rattle.print_runs.specs.of_lowering_runs.Seen.{Spot, seen_store}
use Rattle.print_runs.specs.of_lowering_runs.Stands.{IsSound, Misses}
use Rattle.print_runs.specs.of_array_runs.Integers.{GivesIntegers}
use Rattle.operator_runs.specs.Meant.{Site, Alone, Under}
use Rattle.operator_runs.specs.Hoists.{HaveValuesAt, Own, Unused}

-- ---- where a statement stands

-- the site's slot was taken before
abbrev pub IsTakenSite : ℕ → Site → Type 0
IsTakenSite slots Alone = Unit {0}
IsTakenSite slots (Under over region) = over.slot < slots

-- and so were the slots of references
abbrev pub AreTakenBy : ℕ → List Reference → Type 0
AreTakenBy slots refs = Every (λ one. one.slot < slots) refs

-- none of the slots that a statement has of its own was taken
abbrev pub AreOwn : ℕ → Own → Type 0
AreOwn slots own = (k : ℕ) → k < slots → Misses own.slots k

-- ---- what is left

module _ (tables : Tables) (spots : List Spot) (arrays : List Stored) where
  -- The store is as it was, and so are the scalars and slots that were taken.
  pub record KeepsTaken (next : Next) (before after : Whole) : Type 0 where
    pub sound : IsSound tables after
    pub seen : seen_store spots arrays after ≡ seen_store spots arrays before
    pub scalars : (k : ℕ) → k < next.scalars
        → slice_get after.scalars k ≡ slice_get before.scalars k
    pub slots : (k : ℕ) → k < next.slots → slice_get after.slots k ≡ slice_get before.slots k

  -- The rows come to a state that keeps what was taken, in which what is left of the statement's
  -- expressions has the values of their fields, each at its site, and these are of 64 bits; or they
  -- end with the trap of the phases. They print nothing, and make few jumps.
  pub data Phases (sites : List Site) (next : Next) (behind : Unused) (line most : ℕ) (now : Whole)
      (left : List Expression) : mean.Computed (List Field) → Course Whole → Type 0 where
    PassTo : (own : Own) {after : Whole} {jumps : ℕ} {fields : List Field} → AreOwn next.slots own
        → KeepsTaken next now after
        → HaveValuesAt tables spots arrays own sites behind after fields left
        → Every GivesIntegers fields → jumps ≤ most
        → Phases sites next behind line most now left (mean.Gives fields)
        (record { close = GoesOn; state = after; bytes = []; jumps = jumps })
    OneTraps : {after : Whole} {jumps : ℕ} {kind : TrapKind} → jumps ≤ most
        → Phases sites next behind line most now left (mean.Traps kind)
        (record { close = Over (Ends (Trap kind line)); state = after; bytes = []; jumps = jumps })
