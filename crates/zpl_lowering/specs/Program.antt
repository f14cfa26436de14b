-- The lowered program: calls expanded, and the tables that code comes to.
use Rattle.std.specs.Prelude.{ℕ, zero, suc, ◌+◌, ◌-◌, Bool, true, false, ℤ, pos, List, [], ◌∷◌, ◌++◌, map, flat_map, length, Option, Some, None}
use Rattle.zpl_meaning.specs.of_zpl_region.declared.regions.Region.{Region}
use Rattle.zpl_meaning.specs.of_zpl_arrays.Array.{Array}
use Rattle.zpl_meaning.specs.of_zpl_tree.Syntax.{Name, Around, Bracket, NoBracket, Bracketed, VarDef, Program}
use Rattle.zpl_meaning.specs.of_zpl_names.Declared.{Routine, routine_named, entry_of, scope_of}
use Rattle.zpl_meaning.specs.of_zpl_names.Expansion.{FormalName, formal_names, expanded_arrays, expanded_copies}
use Rattle.zpl_meaning.specs.of_zpl_names.Reached.{longest_chain}
use Rattle.zpl_meaning.specs.of_zpl_names.Shapes.{unknown_shapes}
use Rattle.zpl_meaning.specs.of_zpl_names.Sites.{Site, AtExpr, routine_sites}
use Rattle.zpl_meaning.specs.of_zpl_binding.Settings.{Setting}
use Rattle.zpl_meaning.specs.of_zpl_binding.Declarations.{known_of}
use Rattle.zpl_meaning.specs.of_zpl_binding.Outcome.{Computed, Outcome, value_or}
use Rattle.zpl_meaning.specs.of_zpl_binding.Regions.{Known, no_region}
use Rattle.zpl_meaning.specs.of_zpl_binding.Storages.{Border as BorderBound, borders_of}
use Rattle.zpl_meaning.specs.Store.{Thing, Scalar, ArrayAt, Names}
use Rattle.zpl_meaning.specs.Context.{Setup}
use Rattle.zpl_meaning.specs.Program.{setup_of, first_frame}
use Rattle.zpl_meaning.specs.Variables.{Frame, home_box, storage_box}
use Rattle.text_sharing.specs.of_node_form.Expression.{Expression, Constant, Element, words_of}
use Rattle.text_sharing.specs.of_row_runs.Structured as piece
use Rattle.text_sharing.specs.of_node_form.declared.instructions.Instr.TheVariants as instr
use Rattle.text_sharing.specs.of_flat_form.Row as row
use Rattle.text_sharing.specs.of_flat_form.Row.{Row}
use Rattle.zpl_lowering.specs.Where.{Stored, Numbers, no_slots, Where, Next, flood_of}
use Rattle.zpl_lowering.specs.Lowered.{Lowered, rows_alone, behind, followed, both}
use Rattle.zpl_lowering.specs.Statement.{Given, Valued, Copied, Referring, Calling, Lowering, lowered}

-- ---- a procedure's variables

-- the names of a call so far, and the numbers of the store's places
pub record Framed : Type 0 where
  pub names : Names
  pub numbers : Numbers

abbrev pub with_scalar : Framed → Name → ℕ → Framed
with_scalar frame name scalar = record {
  names = frame.names ++ (name.text, Scalar (length frame.numbers.scalars)) ∷ [];
  numbers = record frame.numbers { scalars = frame.numbers.scalars ++ scalar ∷ [] };
}

abbrev pub with_array : Framed → Name → Region → Stored → Framed
with_array frame name home stored = record {
  names = frame.names ++ (name.text, ArrayAt (length frame.numbers.arrays) home) ∷ [];
  numbers = record frame.numbers { arrays = frame.numbers.arrays ++ stored ∷ [] };
}

-- what variables are lowered with: whether they are cleared, as they are where a procedure is
-- called, and the line of the call
pub record Entry : Type 0 where
  pub clears : Bool
  pub line : ℕ

abbrev pub rows_if : Bool → List Row → List Row
rows_if true rows = rows
rows_if false rows = []

abbrev pub zero_row : Entry → ℕ → List Row
zero_row entry scalar =
    rows_if entry.clears (row.Set scalar (words_of (Constant (pos 0))) entry.line ∷ [])

abbrev pub clear_row : Entry → ℕ → List Row
clear_row entry array = rows_if entry.clears (row.Plain (instr.Clear array) ∷ [])

-- a copy of an array: it has all of its places
abbrev pub copy_rows : ℕ → ℕ → ℕ → Stored → List Row
copy_rows line copy slot from =
    row.Plain (instr.Fix slot from.storage)
    ∷ row.Loop slot (row.Put copy (words_of (Element from.array)) None line ∷ []) ∷ []

abbrev pub made_copy : ℕ → Next → Stored → Lowered
made_copy line next from =
    record (rows_alone (copy_rows line next.arrays next.slots from)) {
      slots = from.storage.rank ∷ [];
      arrays = from.storage ∷ [];
    }

-- ---- parameters

abbrev pub given_code : ℕ → Name → Given → Framed → Next → (Framed → Next → Lowered) → Lowered
given_code line name (Valued scalar) frame next rest = rest (with_scalar frame name scalar) next
given_code line name (Referring thing) frame next rest =
    rest (record frame { names = frame.names ++ (name.text, thing) ∷ [] }) next
given_code line name (Copied from home) frame next rest =
    followed next (made_copy line next from)
    (rest (with_array frame name home
    (record { array = next.arrays; storage = from.storage })))

abbrev pub givens_code : ℕ → List FormalName → List Given → Framed → Next →
    (Framed → Next → Lowered) → Lowered
givens_code line [] actuals frame next rest = rest frame next
givens_code line (formal ∷ formals) [] frame next rest = rest frame next
givens_code line (formal ∷ formals) (actual ∷ actuals) frame next rest =
    given_code line formal.name actual frame next (λ frame after.
    givens_code line formals actuals frame after rest)

-- ---- local variables

abbrev pub local_code : Setup → Entry → Bracket → Name → Framed → Next →
    (Framed → Next → Lowered) → Lowered
local_code setup entry NoBracket name frame next rest =
    followed next (record (rows_alone (zero_row entry next.scalars)) { scalars = 1 })
    (rest (with_scalar frame name next.scalars))
local_code setup entry (Bracketed inner) name frame next rest =
    let storage = storage_box setup.known setup.borders inner in
    followed next
    (record (rows_alone (clear_row entry next.arrays)) { arrays = storage ∷ [] })
    (rest (with_array frame name (home_box setup.known inner)
    (record { array = next.arrays; storage = storage })))

abbrev pub names_code : Setup → Entry → Bracket → List Name → Framed → Next →
    (Framed → Next → Lowered) → Lowered
names_code setup entry shape [] frame next rest = rest frame next
names_code setup entry shape (name ∷ names) frame next rest =
    local_code setup entry shape name frame next (λ frame after.
    names_code setup entry shape names frame after rest)

abbrev pub locals_code : Setup → Entry → List VarDef → Framed → Next →
    (Framed → Next → Lowered) → Lowered
locals_code setup entry [] frame next rest = rest frame next
locals_code setup entry (var ∷ vars) frame next rest =
    names_code setup entry var.shape var.names frame next (λ frame after.
    locals_code setup entry vars frame after rest)

-- ---- procedures

abbrev pub where_in : Setup → Routine → Calling → Framed → Where
where_in setup routine calling frame = record {
  setup = setup;
  scope = scope_of setup.program routine;
  environment = record { names = frame.names ++ setup.globals };
  result = calling.result;
  prefix = Some 0;
  currents = calling.currents;
  edge = None;
  numbers = frame.numbers;
}

abbrev pub body_code : Setup → Entry → (Calling → Next → Lowered) → Routine → Calling → Next →
    Lowered
body_code setup entry call routine calling next =
    givens_code entry.line (formal_names routine.procedure.params) calling.actuals
    (record { names = []; numbers = calling.numbers }) next (λ frame after.
    locals_code setup entry routine.procedure.locals frame after (λ frame last.
    lowered (record { place = where_in setup routine calling frame; call = call }) last
    routine.procedure.body))

-- the reads that wrap round in the text of a procedure
abbrev pub reads_at : Site → List ℕ
reads_at (AtExpr reach rank (Around at name shift)) = at ∷ []
reads_at site = []

abbrev pub reads_round : Program → Routine → ℕ
reads_round program routine =
    length (flat_map reads_at (routine_sites program unknown_shapes routine))

-- What a procedure that is called reads round is behind the copies of all that were called before,
-- and those of the procedure itself stand before those of what it calls.
abbrev pub in_call : ℕ → Next → Next
in_call reads next =
    record next { copies = next.later; later = next.later + reads }

abbrev pub out_of_call : Lowered → Lowered
out_of_call lowered =
    record lowered { copies = []; later = lowered.copies ++ lowered.later }

abbrev pub routine_code : Setup → Bool → (Calling → Next → Lowered) → Option Routine → Calling →
    Next → Lowered
routine_code setup clears call None calling next = rows_alone []
routine_code setup clears call (Some routine) calling next =
    out_of_call
    (body_code setup (record { clears = clears; line = calling.line }) call routine calling
    (in_call (reads_round setup.program routine) next))

-- a call, down a chain of so many procedures
abbrev pub call_code : Setup → ℕ → Calling → Next → Lowered
call_code setup zero calling next = rows_alone []
call_code setup (suc depth) calling next =
    routine_code setup true (call_code setup depth)
    (routine_named setup.program calling.name) calling next

-- ---- the program

-- each declared region has a slot, which is filled first
abbrev pub region_rows : ℕ → List (Computed Region) → List Row
region_rows slot [] = []
region_rows slot (one ∷ rest) =
    row.Plain (instr.Fix slot (value_or no_region one.outcome)) ∷ region_rows (suc slot) rest

-- the global variables: each has its place's number
abbrev pub scalars_from : ℕ → List ℤ → List ℕ
scalars_from k [] = []
scalars_from k (value ∷ values) = k ∷ scalars_from (suc k) values

abbrev pub arrays_from : ℕ → List Array → List Stored
arrays_from k [] = []
arrays_from k (array ∷ arrays) =
    record { array = k; storage = array.storage } ∷ arrays_from (suc k) arrays

abbrev pub global_numbers : Frame → Numbers
global_numbers frame = record {
  scalars = scalars_from 0 frame.store.scalars;
  arrays = arrays_from 0 frame.store.arrays;
}

abbrev pub globals_made : Known → Frame → Lowered
globals_made known frame =
    record (rows_alone (region_rows 0 known.regions)) {
      scalars = length frame.store.scalars;
      slots = map (λ one. (value_or no_region one.outcome).rank) known.regions;
      arrays = map (λ array. array.storage) frame.store.arrays;
    }

-- arrays come before copies, and these before temporaries
abbrev pub first_next : Program → Next
first_next program =
    let arrays = length (expanded_arrays program) in
    record {
      scalars = 0;
      slots = 0;
      arrays = 0;
      copies = arrays;
      later = arrays;
      temps = arrays + length (expanded_copies program);
    }

-- the entry procedure has no result
abbrev pub entry_calling : Program → Frame → Calling
entry_calling program frame = record {
  name = program.name.text;
  actuals = [];
  currents = no_slots;
  result = 0;
  numbers = global_numbers frame;
  line = 0;
}

abbrev pub entry_code : Setup → ℕ → Calling → Next → Lowered
entry_code setup zero calling next = rows_alone []
entry_code setup (suc depth) calling next =
    routine_code setup false (call_code setup depth)
    (routine_named setup.program calling.name) calling next

abbrev pub lowered_known : Program → Known → List BorderBound → Lowered
lowered_known program known borders =
    let frame = first_frame program known borders in
    followed (first_next program) (globals_made known frame)
    (entry_code (setup_of program known borders frame) longest_chain
    (entry_calling program frame))

-- all code of a program under settings
abbrev pub lowered_program : Program → List Setting → Lowered
lowered_program program settings =
    lowered_known program (known_of program settings) (borders_of program)
