-- A program with every call expanded: each call runs a text of its own, with its own local arrays
-- and copies.
use Rattle.std.specs.Prelude.{ℕ, zero, suc, ◌+◌, ◌-◌, Bool, true, false, not, ◌&&◌, ◌||◌, ◌==◌, if◌then◌else◌, List, [], ◌∷◌, ◌++◌, map, flat_map, filter_map, find, length, sum, sum_by, Option, Some, None, option_map}
use Rattle.std.specs.List.{list_all}
use Rattle.std.specs.Str.{bytes_eq}
use Rattle.zpl_tree.specs.Syntax.{Name, Expr, Number, Truth, Coord, Named, Shifted, Around, Remap, Call, Paren, Neg, Not, Abs, Pair, Reduce, Scan, Flood, Exprs, ThenExpr, Dir, Bracket, NoBracket, Bracketed, Assign, Param, VarDef, Program}
use Rattle.zpl_tree.specs.Spelling.{form_words, stmt_words}
use Rattle.zpl_tree.specs.Depth.{greatest_of}
use Rattle.zpl_names.specs.Kinds.{Kind, Array}
use Rattle.zpl_names.specs.Scope.{Entry, kind_of, is_array}
use Rattle.zpl_names.specs.Ranks.{is_above_zero}
use Rattle.zpl_names.specs.Shapes.{unknown_shapes}
use Rattle.zpl_names.specs.Declared.{own_names, globals_of, Routine, routine_named, entry_of, routines_of, scope_of}
use Rattle.zpl_names.specs.Sites.{Site, AtExpr, AtStmt, CallSite, routine_sites, calls_under, text_sites, is_shattered}
use Rattle.zpl_names.specs.Reached.{longest_chain}
use Rattle.zpl_names.specs.Counts.{body_count, stmt_nodes, form_loops}

-- ---- numbers that add up over calls

-- the procedures that a procedure calls, once for each call
abbrev pub callees : Program → Routine → List Routine
callees program routine =
    filter_map (λ call. routine_named program call.name.text)
    (calls_under program unknown_shapes routine)

-- a number of a procedure, and those of its calls, down a chain of so many procedures
abbrev pub expanded : Program → (Routine → ℕ) → ℕ → Routine → ℕ
expanded program own zero routine = 0
expanded program own (suc depth) routine =
    own routine + sum_by (expanded program own depth) (callees program routine)

-- the same of the whole program
abbrev pub expanded_from : Program → (Routine → ℕ) → Option Routine → ℕ
expanded_from program own None = 0
expanded_from program own (Some entry) = expanded program own longest_chain entry

abbrev pub expanded_of : Program → (Routine → ℕ) → ℕ
expanded_of program own = expanded_from program own (entry_of program)

-- no chain of calls from a procedure on has more than so many
abbrev pub is_shallow : Program → ℕ → Routine → Bool
is_shallow program zero routine = false
is_shallow program (suc depth) routine =
    list_all (is_shallow program depth) (callees program routine)

abbrev pub expanded_statements : Program → ℕ
expanded_statements program = expanded_of program (λ routine. body_count routine.procedure.body)

abbrev pub expanded_nodes : Program → ℕ
expanded_nodes program = expanded_of program (λ routine. stmt_nodes routine.procedure.body)

-- the tokens of the statements
abbrev pub body_tokens : Routine → ℕ
body_tokens routine = length (stmt_words routine.procedure.body)

abbrev pub expanded_tokens : Program → ℕ
expanded_tokens program = expanded_of program body_tokens

-- the parameters and local names of each call
abbrev pub names_count : Routine → ℕ
names_count routine = length (own_names routine.procedure)

abbrev pub called_names : Program → ℕ
called_names program = expanded_of program (λ routine. sum_by names_count (callees program routine))

-- ---- arrays of the expanded program

-- An array: the offsets of the names of the calls that lead to it, the last call first, and the
-- offset of the name that is declared: a global or local variable, or a parameter that is a copy.
-- It has the storage of a declared variable, which its offset tells.
pub record ExpandedArray : Type 0 where
  pub path : List ℕ
  pub variable : ℕ
  pub storage : ℕ

abbrev pub is_same_array : ExpandedArray → ExpandedArray → Bool
is_same_array one other = bytes_eq one.path other.path && (one.variable == other.variable)

-- what array a name stands for
pub record Binding : Type 0 where
  pub name : List ℕ
  pub array : ExpandedArray

-- A call that is expanded: the way to it, the procedure, the arrays that its `var` parameters refer
-- to, and its own arrays.
pub record Instance : Type 0 where
  pub path : List ℕ
  pub routine : Routine
  pub referred : List Binding
  pub own : List Binding

abbrev pub bound_in : List Binding → List ℕ → Option ExpandedArray
bound_in bindings text =
    option_map (λ binding. binding.array) (find (λ binding. bytes_eq binding.name text) bindings)

-- that of a variable with this name
abbrev pub array_at : List ℕ → Name → ExpandedArray
array_at path name = record { path = path; variable = name.at; storage = name.at }

abbrev pub array_of_entry : Entry → ExpandedArray
array_of_entry entry = array_at [] entry.name

abbrev pub global_array : Program → List ℕ → Option ExpandedArray
global_array program text =
    option_map array_of_entry (find (λ entry. bytes_eq entry.name.text text) (globals_of program))

-- the array that a name stands for in a call
abbrev pub array_named : Program → Instance → Name → Option ExpandedArray
array_named program instance name =
    if is_array (kind_of (scope_of program instance.routine) name)
    then array_in (bound_in (instance.referred ++ instance.own) name.text) else None
  where
    array_in : Option ExpandedArray → Option ExpandedArray
    array_in None = global_array program name.text
    array_in (Some array) = Some array

-- the local arrays of a call
abbrev pub local_arrays : List ℕ → List VarDef → List Binding
local_arrays path [] = []
local_arrays path (var ∷ vars) = arrays var.shape ++ local_arrays path vars
  where
    arrays : Bracket → List Binding
    arrays NoBracket = []
    arrays (Bracketed inner) =
        map (λ name. record { name = name.text; array = array_at path name }) var.names

-- one name of a parameter
pub record FormalName : Type 0 where
  pub by_ref : Bool
  pub name : Name

abbrev pub formal_names : List Param → List FormalName
formal_names params =
    flat_map (λ param. map (λ name. record { by_ref = param.by_ref; name = name }) param.names)
    params

-- an actual's array, under the name of its parameter
abbrev pub actual_array : Program → Instance → FormalName → Expr → Option Binding
actual_array program caller formal (Named at name) =
    option_map (λ array. record { name = formal.name.text; array = array })
    (array_named program caller name)
actual_array program caller formal actual = None

abbrev pub actual_arrays : Program → Instance → Bool → List FormalName → Exprs → List Binding
actual_arrays program caller by_ref (formal ∷ formals) (ThenExpr actual rest) =
    (if wanted formal.by_ref then listed (actual_array program caller formal actual) else []) ++
    actual_arrays program caller by_ref formals rest
  where
    wanted : Bool → Bool
    wanted is_ref = if by_ref then is_ref else not is_ref

    listed : Option Binding → List Binding
    listed None = []
    listed (Some binding) = binding ∷ []
actual_arrays program caller by_ref formals actuals = []

abbrev pub offset_of : Option FormalName → ℕ
offset_of None = 0
offset_of (Some formal) = formal.name.at

-- the parameter with a name
abbrev pub formal_named : List FormalName → List ℕ → Option FormalName
formal_named formals text = find (λ formal. bytes_eq formal.name.text text) formals

-- a copy of an array, which a value parameter is: it has the array's storage
abbrev pub copy_of : List ℕ → List FormalName → Binding → Binding
copy_of path formals binding =
    let variable = offset_of (formal_named formals binding.name) in
    record binding { array = record binding.array { path = path; variable = variable } }

-- the call of a procedure by another
abbrev pub called_instance : Program → Instance → CallSite → Routine → Instance
called_instance program caller call routine =
    let path = call.name.at ∷ caller.path in
    let formals = formal_names routine.procedure.params in
    record {
      path = path;
      routine = routine;
      referred = actual_arrays program caller true formals call.actuals;
      own = map (copy_of path formals) (actual_arrays program caller false formals call.actuals) ++
          local_arrays path routine.procedure.locals;
    }

-- what there is of a procedure, or nothing where there is none
abbrev pub of_routine : (Routine → List Instance) → Option Routine → List Instance
of_routine instances None = []
of_routine instances (Some routine) = instances routine

-- what comes of the calls that a call makes
abbrev pub made_by : Program → (Instance → List Instance) → Instance → List Instance
made_by program instances caller =
    flat_map
    (λ call. of_routine (λ routine. instances (called_instance program caller call routine))
    (routine_named program call.name.text)) (calls_under program unknown_shapes caller.routine)

-- a call and those that it makes, down a chain of so many procedures
abbrev pub instances_from : Program → ℕ → Instance → List Instance
instances_from program zero instance = []
instances_from program (suc depth) instance =
    instance ∷ made_by program (instances_from program depth) instance

abbrev pub entry_instance : Routine → Instance
entry_instance entry = record {
  path = [];
  routine = entry;
  referred = [];
  own = local_arrays [] entry.procedure.locals;
}

-- the entry procedure and every call, in the order of the text
abbrev pub instances_of : Program → List Instance
instances_of program =
    of_routine (λ entry. instances_from program longest_chain (entry_instance entry))
    (entry_of program)

-- the global arrays, then the arrays of each call
abbrev pub expanded_arrays : Program → List ExpandedArray
expanded_arrays program =
    map array_of_entry (filter_map global (globals_of program)) ++
    flat_map (λ instance. map (λ binding. binding.array) instance.own) (instances_of program)
  where
    kept : Entry → Kind → Option Entry
    kept entry (Array base shape) = Some entry
    kept entry kind = None

    global : Entry → Option Entry
    global entry = kept entry entry.kind

-- ---- reads with a shift

-- an array that is read with a shift, as it is written
pub record ShiftedRead : Type 0 where
  pub array : ExpandedArray
  pub shift : Dir

abbrev pub instance_sites : Program → Instance → List Site
instance_sites program instance = routine_sites program unknown_shapes instance.routine

abbrev pub shifted_read : Option ExpandedArray → Dir → List ShiftedRead
shifted_read None shift = []
shifted_read (Some array) shift = record { array = array; shift = shift } ∷ []

-- those of `A@d`
abbrev pub shifts_at : Program → Instance → Site → List ShiftedRead
shifts_at program instance (AtExpr reach rank (Shifted at name shift)) =
    shifted_read (array_named program instance name) shift
shifts_at program instance site = []

abbrev pub expanded_shifts : Program → List ShiftedRead
expanded_shifts program =
    flat_map (λ instance. flat_map (shifts_at program instance) (instance_sites program instance))
    (instances_of program)

-- those of `A@^d`: each has a copy of the array
abbrev pub copies_at : Program → Instance → Site → List ShiftedRead
copies_at program instance (AtExpr reach rank (Around at name shift)) =
    shifted_read (array_named program instance name) shift
copies_at program instance site = []

abbrev pub expanded_copies : Program → List ShiftedRead
expanded_copies program =
    flat_map (λ instance. flat_map (copies_at program instance) (instance_sites program instance))
    (instances_of program)

-- ---- plain assignments

-- elementwise but for `@`
abbrev pub is_plain_value : Expr → Bool
is_plain_value (Number at value) = true
is_plain_value (Truth at value) = true
is_plain_value (Coord at dimension) = true
is_plain_value (Named at name) = true
is_plain_value (Shifted at name shift) = true
is_plain_value (Paren at inside) = is_plain_value inside
is_plain_value (Neg at operand) = is_plain_value operand
is_plain_value (Not at operand) = is_plain_value operand
is_plain_value (Abs at operand) = is_plain_value operand
is_plain_value (Pair at op left right) = is_plain_value left && is_plain_value right
is_plain_value (Around at name shift) = false
is_plain_value (Remap at name indices) = false
is_plain_value (Call at name actuals) = false
is_plain_value (Reduce at operator over operand) = false
is_plain_value (Scan at operator along operand) = false
is_plain_value (Flood at source operand) = false

abbrev pub is_array_of : ExpandedArray → Option ExpandedArray → Bool
is_array_of array None = false
is_array_of array (Some other) = is_same_array array other

-- such an expression reads an array with a shift
abbrev pub reads_shifted : Program → Instance → ExpandedArray → Expr → Bool
reads_shifted program instance array (Shifted at name shift) =
    is_array_of array (array_named program instance name)
reads_shifted program instance array (Paren at inside) = reads_shifted program instance array inside
reads_shifted program instance array (Neg at operand) = reads_shifted program instance array operand
reads_shifted program instance array (Not at operand) = reads_shifted program instance array operand
reads_shifted program instance array (Abs at operand) = reads_shifted program instance array operand
reads_shifted program instance array (Pair at op left right) =
    reads_shifted program instance array left || reads_shifted program instance array right
reads_shifted program instance array expr = false

-- An assignment to an array, outside shattered statements and without a prefix of its own, whose
-- right side is elementwise but for `@` and doesn't read the array with a shift.
abbrev pub is_plain_target : Program → Instance → Option ExpandedArray → Expr → Bool
is_plain_target program instance None value = false
is_plain_target program instance (Some array) value =
    is_plain_value value && not (reads_shifted program instance array value)

-- the tokens of a plain assignment
abbrev pub plain_tokens_at : Program → Instance → Site → List ℕ
plain_tokens_at program instance (AtStmt reach at [] (Assign name op value)) =
    if not (is_above_zero reach.shattered) &&
    is_plain_target program instance (array_named program instance name) value
    then length (form_words (Assign name op value)) ∷ [] else []
plain_tokens_at program instance site = []

-- those of each plain assignment
abbrev pub plain_tokens : Program → List ℕ
plain_tokens program =
    flat_map (λ instance. flat_map (plain_tokens_at program instance)
    (instance_sites program instance)) (instances_of program)

abbrev pub plain_assignments : Program → ℕ
plain_assignments program = length (plain_tokens program)

-- ---- how large a program is

-- the bytes of the source and, with every call expanded, the tokens of the statements, the
-- parameters and the local names
abbrev pub source_size : Program → ℕ
source_size program = length program.source + (expanded_tokens program + called_names program)

-- the tokens of the text that stand in no statement, of a text with so many tokens
abbrev pub other_tokens : Program → ℕ → ℕ
other_tokens program tokens = tokens - sum_by body_tokens (routines_of program)

-- those, and the tokens, parameters and local names of the expanded program that stand in no plain
-- assignment
abbrev pub other_size : Program → ℕ → ℕ
other_size program tokens =
    other_tokens program tokens +
    ((expanded_tokens program + called_names program) - sum (plain_tokens program))

-- ---- shattered statements

-- the loops of a shattered statement that stands in no other
abbrev pub loops_at : Site → ℕ
loops_at (AtStmt reach at prefixes form) =
    if not (is_above_zero reach.shattered) && is_shattered reach form then form_loops form else 0
loops_at site = 0

-- the greatest number of `while` and `repeat` that are within one shattered statement
abbrev pub shattered_loops : Program → ℕ
shattered_loops program = greatest_of loops_at (text_sites program)
