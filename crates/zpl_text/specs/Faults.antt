-- How a fault is called, and where it is.
use Rattle.std.specs.Prelude.{ℕ, List, codes}
use Rattle.zpl_text.specs.declared.faults.LexFault.{LexFault}
use Rattle.zpl_text.specs.declared.faults.LexFault.TheVariants.{BadByte, OpenComment, OpenString}
use Rattle.zpl_text.specs.declared.faults.LexFault.TheVariants.{NumberTooLarge, FloatText, NoMemory}

abbrev pub lexical_name : LexFault → List ℕ
lexical_name (BadByte at) = codes "BadByte"
lexical_name (OpenComment at) = codes "OpenComment"
lexical_name (OpenString at) = codes "OpenString"
lexical_name (NumberTooLarge at) = codes "NumberTooLarge"
lexical_name (FloatText at) = codes "FloatText"
lexical_name NoMemory = codes "NoMemory"

-- the offset of its place, counted in bytes; want of memory has none, and 0 stands for it
abbrev pub lexical_offset : LexFault → ℕ
lexical_offset (BadByte at) = at
lexical_offset (OpenComment at) = at
lexical_offset (OpenString at) = at
lexical_offset (NumberTooLarge at) = at
lexical_offset (FloatText at) = at
lexical_offset NoMemory = 0
