-- What a computation gives: a value, or the trap that ends the program.
use Rattle.std.specs.Prelude.{Bool, true, false, ℤ, Option, Some, None}
use Rattle.zpl_binding.specs.of_zpl_nums.declared.ends.TrapKind.{TrapKind}
use Rattle.zpl_binding.specs.of_zpl_nums.declared.ends.TrapKind.TheVariants.{DivideByZero}

pub data Computed (A : Type 0) : Type 0 where
  Gives : (value : A) → Computed A
  Traps : (kind : TrapKind) → Computed A

-- goes on with the value, where there is one
abbrev pub computed_then : {A B : Type 0} → Computed A → (A → Computed B) → Computed B
computed_then (Gives value) next = next value
computed_then (Traps kind) next = Traps kind

-- goes on with both values, where there are both; the first trap counts
abbrev pub both_then : {A B C : Type 0} → Computed A → Computed B → (A → B → Computed C)
    → Computed C
both_then (Gives first) (Gives second) next = next first second
both_then (Gives first) (Traps kind) next = Traps kind
both_then (Traps kind) second next = Traps kind

-- goes on where it holds, and traps where it doesn't
abbrev pub provided : {A : Type 0} → Bool → TrapKind → (Unit {0} → Computed A) → Computed A
provided true kind next = next tt
provided false kind next = Traps kind

-- the value of an operator, where no divisor is 0
abbrev pub given : Option ℤ → Computed ℤ
given (Some value) = Gives value
given None = Traps DivideByZero
