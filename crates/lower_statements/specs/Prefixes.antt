-- What is lowered under prefixes, which have their rows before it.
use Rattle.std.specs.Prelude.{◌≡◌, Bool, List}
use Rattle.zpl_tree.specs.Syntax.{Prefix}
use Rattle.zpl_lowering.specs.Lowered.{Lowered}
use Rattle.zpl_lowering.specs.Statement.{Calling, Lowering, lowered_under}
use Rattle.zpl_lowering.specs.Where.{Next, Where}
use Rattle.lower_draft.specs.Drafted.{Drafted, grown}

abbrev pub in_place : (Calling → Next → Lowered) → Where → Lowering
in_place call w = record { place = w; call = call }

-- whatever stands behind the rows that are there now, in the inner place, stands under the prefixes
abbrev pub IsBehind : Bool → Where → Drafted → List Prefix → Where → Drafted → Type 0
IsBehind borders w old prefixes inner new =
    (call : Calling → Next → Lowered) (rest : Lowering → Next → Lowered) →
    grown new (rest (in_place call inner) new.next) ≡
    grown old (lowered_under borders (in_place call w) old.next prefixes rest)
