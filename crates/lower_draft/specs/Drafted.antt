-- What a draft is, and how it grows.
use Rattle.std.specs.Prelude.{ℕ, ◌+◌, Bool, List, [], ◌∷◌, ◌++◌, map, length}
use Rattle.zpl_region.specs.declared.regions.Region.{Region}
use Rattle.zpl_lowering.specs.of_node_form.declared.members.Member.{Member}
use Rattle.zpl_lowering.specs.of_node_form.declared.instructions.Instr.{Instr}
use Rattle.zpl_lowering.specs.of_node_form.declared.instructions.Instr.TheVariants as instr
use Rattle.zpl_lowering.specs.of_node_form.declared.tables.Tables.{Tables}
use Rattle.zpl_lowering.specs.of_row_runs.Structured.{Piece, flattened}
use Rattle.zpl_lowering.specs.of_flat_form.Row as row
use Rattle.zpl_lowering.specs.of_flat_form.Row.{Row, Words, with_row, with_rows, patched}
use Rattle.zpl_lowering.specs.Check.{Check, flat_row}
use Rattle.zpl_lowering.specs.Where.{Next}
use Rattle.zpl_lowering.specs.Hoist.{Shifted}
use Rattle.zpl_lowering.specs.Lowered.{Lowered, behind}
use Rattle.zpl_lowering.specs.Tables.{stored_rows, temp_row}
use Rattle.lower_draft.specs.declared.numbers.Next as code

abbrev pub next_of : code.Next → Next
next_of next = record {
  scalars = next.scalars;
  slots = next.slots;
  arrays = next.arrays;
  copies = next.copies;
  later = next.later;
  temps = next.temps;
}

-- Tables with texts, expressions, groups and code, the numbers that are free, and what the code has
-- of its own but for scalars.
pub record Drafted : Type 0 where
  pub tables : Tables
  pub next : Next
  pub slots : List ℕ
  pub arrays : List Region
  pub copies : List Region
  pub later : List Region
  pub temps : List (List Bool)
  pub shifts : List Shifted

-- tables without rows, for one processor
abbrev pub no_rows : Tables
no_rows = record {
  grid = 1 ∷ 0 ∷ 0 ∷ [];
  scalars = 0;
  cells = 0;
  slots = [];
  arrays = [];
  texts = [];
  exprs = [];
  groups = [];
  exchanges = [];
  code = [];
}

abbrev pub empty : Next → Drafted
empty next = record {
  tables = no_rows;
  next = next;
  slots = [];
  arrays = [];
  copies = [];
  later = [];
  temps = [];
  shifts = [];
}

-- ---- code

-- behind the draft's rows stands this code, and it has this of its own
abbrev pub rows_from : ℕ → Piece Row Check → List Row
rows_from at code = map flat_row (flattened at code)

abbrev pub grown : Drafted → Lowered → Drafted
grown draft lowered = record {
  tables = with_rows draft.tables (rows_from (length draft.tables.code) lowered.code);
  next = behind draft.next lowered;
  slots = draft.slots ++ lowered.slots;
  arrays = draft.arrays ++ lowered.arrays;
  copies = draft.copies ++ lowered.copies;
  later = draft.later ++ lowered.later;
  temps = draft.temps ++ lowered.temps;
  shifts = draft.shifts ++ lowered.shifts;
}

abbrev pub pushed : Drafted → Row → Drafted
pushed draft one = record draft { tables = with_row draft.tables one }

abbrev pub all_pushed : Drafted → List Row → Drafted
all_pushed draft rows = record draft { tables = with_rows draft.tables rows }

-- ---- parts of a row

abbrev pub with_exprs : Drafted → List Words → Drafted
with_exprs draft words =
    record draft { tables = record draft.tables { exprs = draft.tables.exprs ++ words } }

abbrev pub with_group : Drafted → List Member → Drafted
with_group draft group =
    record draft { tables = record draft.tables { groups = draft.tables.groups ++ group ∷ [] } }

abbrev pub with_text : Drafted → List ℕ → Drafted
with_text draft text =
    record draft { tables = record draft.tables { texts = draft.tables.texts ++ text ∷ [] } }

abbrev pub with_code : Drafted → Instr → Drafted
with_code draft one =
    record draft { tables = record draft.tables { code = draft.tables.code ++ one ∷ [] } }

-- ---- what code has of its own

abbrev pub with_scalars : Drafted → ℕ → Drafted
with_scalars draft count =
    record draft { next = record draft.next { scalars = draft.next.scalars + count } }

abbrev pub with_slot : Drafted → ℕ → Drafted
with_slot draft rank = record draft {
  next = record draft.next { slots = draft.next.slots + 1 };
  slots = draft.slots ++ rank ∷ [];
}

abbrev pub with_array : Drafted → Region → Drafted
with_array draft storage = record draft {
  next = record draft.next { arrays = draft.next.arrays + 1 };
  arrays = draft.arrays ++ storage ∷ [];
}

abbrev pub with_copy : Drafted → Region → Drafted
with_copy draft storage = record draft {
  next = record draft.next { copies = draft.next.copies + 1 };
  copies = draft.copies ++ storage ∷ [];
}

abbrev pub with_temp : Drafted → List Bool → Drafted
with_temp draft flood = record draft {
  next = record draft.next { temps = draft.next.temps + 1 };
  temps = draft.temps ++ flood ∷ [];
}

abbrev pub with_shift : Drafted → Shifted → Drafted
with_shift draft shifted = record draft { shifts = draft.shifts ++ shifted ∷ [] }

-- ---- tests and jumps

-- a test that has no goal yet
abbrev pub opened : Drafted → Check → Drafted
opened draft check = pushed draft (row.Unless check.expr 0 check.line)

-- the test or jump with this number goes to behind the last row
abbrev pub closed : Drafted → ℕ → Drafted
closed draft at =
    record draft { tables = patched draft.tables at (length draft.tables.code) }

-- a jump that has no goal yet, and the test goes to behind it
abbrev pub turned : Drafted → ℕ → Drafted
turned draft at = closed (pushed draft (row.Plain (instr.Jump 0))) at

-- a jump back, and the test goes to behind it
abbrev pub looped : Drafted → ℕ → ℕ → Drafted
looped draft start at = closed (pushed draft (row.Plain (instr.Jump start))) at

-- a jump to the row behind it, with which a loop begins that tests behind its turns
abbrev pub begun : Drafted → Drafted
begun draft = pushed draft (row.Plain (instr.Jump (length draft.tables.code + 1)))

-- such a loop ends with a test that goes back
abbrev pub until : Drafted → ℕ → Check → Drafted
until draft start check = pushed draft (row.Unless check.expr start check.line)

-- ---- the end

-- the tables, with what the code has of its own
abbrev pub owning : Drafted → Tables
owning draft = record draft.tables {
  scalars = draft.next.scalars;
  slots = draft.slots;
  arrays = stored_rows 0 draft.shifts (draft.arrays ++ (draft.copies ++ draft.later))
      ++ map temp_row draft.temps;
}

-- the end stands behind all rows
abbrev pub finished : Drafted → Tables
finished draft = with_row (owning draft) (row.Plain instr.End)
