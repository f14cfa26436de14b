-- What expressions read with a shift is stored.
--
-- A temporary has no fringe, and no places are sent of it: a plan can't get what such a read wants.
use Rattle.std.specs.Prelude.{List, All}
use Rattle.node_form.specs.declared.words.ExprOp.{ExprOp}
use Rattle.node_form.specs.declared.words.ExprOp.TheVariants as word
use Rattle.node_form.specs.declared.tables.Tables.{Tables}
use Rattle.node_form.specs.Fits.{IsStored}

-- if the word reads an array with a shift, this is a stored one
abbrev pub IsStoredRead : Tables → ExprOp → Type 0
IsStoredRead tables (word.Const value) = Unit {0}
IsStoredRead tables (word.Scalar scalar) = Unit {0}
IsStoredRead tables (word.Here array) = Unit {0}
IsStoredRead tables (word.Shifted array shift) = IsStored tables array
IsStoredRead tables (word.Cell cell) = Unit {0}
IsStoredRead tables (word.Coord dimension) = Unit {0}
IsStoredRead tables (word.Pair op) = Unit {0}
IsStoredRead tables word.Neg = Unit {0}
IsStoredRead tables word.Not = Unit {0}
IsStoredRead tables word.Abs = Unit {0}

-- all words of these expressions
abbrev pub AreStoredReads : Tables → List (List ExprOp) → Type 0
AreStoredReads tables exprs = All (All (IsStoredRead tables)) exprs

abbrev pub ShiftsAreStored : Tables → Type 0
ShiftsAreStored tables = AreStoredReads tables tables.exprs
