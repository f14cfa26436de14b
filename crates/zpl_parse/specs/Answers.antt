-- What a parser's answer says.
use Rattle.std.specs.Prelude.{Result, Ok, Err, ⊤}
use Rattle.zpl_parse.specs.declared.faults.ParseFault.{ParseFault}
use Rattle.zpl_parse.specs.declared.faults.ParseFault.TheVariants.{Syntax, TooDeep, NoMemory}

-- the fault is want of memory
abbrev pub WantsMemory : ParseFault → Type 0
WantsMemory (Syntax at) = ⊥
WantsMemory TooDeep = ⊥
WantsMemory NoMemory = ⊤

-- The answer is something of which the fact holds, or memory ran out.
abbrev pub Reads : {A : Type 0} → Result A ParseFault → (A → Type 0) → Type 0
Reads (Ok found) fact = fact found
Reads (Err fault) fact = WantsMemory fault
