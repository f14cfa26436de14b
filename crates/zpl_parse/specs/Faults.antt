-- How a fault is called, and where it is.
use Rattle.std.specs.Prelude.{ℕ, List, codes}
use Rattle.zpl_parse.specs.declared.faults.ParseFault.{ParseFault}
use Rattle.zpl_parse.specs.declared.faults.ParseFault.TheVariants.{Syntax, TooDeep, NoMemory}

abbrev pub parse_name : ParseFault → List ℕ
parse_name (Syntax at) = codes "Syntax"
parse_name TooDeep = codes "TooDeep"
parse_name NoMemory = codes "NoMemory"

-- the offset of its place, counted in bytes; what is too deep and want of memory have none, and 0
-- stands for it
abbrev pub parse_offset : ParseFault → ℕ
parse_offset (Syntax at) = at
parse_offset TooDeep = 0
parse_offset NoMemory = 0
