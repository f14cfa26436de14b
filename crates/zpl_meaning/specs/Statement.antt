-- What statements do, with a bound on the turns of each loop that is entered.
use Rattle.std.specs.Prelude.{ℕ, ◌+◌, Bool, ◌&&◌, ℤ, pos, int_lt, if◌then◌else◌, List, []}
use Rattle.std.specs.Prelude.{◌∷◌, length, Option, Some, None}
use Rattle.zpl_binding.specs.of_zpl_nums.declared.operators.Op.{Op}
use Rattle.zpl_binding.specs.of_zpl_nums.declared.ends.Border.{Border as BorderKind}
use Rattle.zpl_binding.specs.of_zpl_nums.declared.ends.TrapKind.TheVariants.{OutsideStorage, RegionMismatch}
use Rattle.zpl_binding.specs.of_zpl_region.declared.regions.Region.{Region}
use Rattle.zpl_binding.specs.of_zpl_region.Region.{outside_of}
use Rattle.zpl_binding.specs.of_zpl_region.Tests.{is_member}
use Rattle.zpl_binding.specs.of_zpl_arrays.Array.{Array, array_of, element}
use Rattle.zpl_binding.specs.of_zpl_arrays.Reference.{lies_in}
use Rattle.zpl_binding.specs.of_zpl_arrays.Border.{border_conforms, border_source, border_sources}
use Rattle.zpl_text.specs.Lines.{line_at}
use Rattle.zpl_binding.specs.of_zpl_tree.Syntax.{Name, Expr, Number, Call, Exprs, ForHead, Stmt, Prefixed, Stmts}
use Rattle.zpl_binding.specs.of_zpl_tree.Syntax.{NoStmt, ThenStmt, Form, Assign, Invoke, Block, If, While, Repeat}
use Rattle.zpl_binding.specs.of_zpl_tree.Syntax.{For, Border, Write, Return, Arm, Tested, Arms, NoArm, ThenArm}
use Rattle.zpl_binding.specs.of_zpl_tree.Syntax.{Otherwise, NoElse, Else, Prefix}
use Rattle.zpl_binding.specs.of_zpl_names.Sites.{Role, Limit, Result, Test as TestRole, Assigned, handed}
use Rattle.zpl_binding.specs.of_zpl_names.Sites.{is_shattered}
use Rattle.zpl_binding.specs.of_zpl_names.Counts.{expr_nodes, inner_nodes, own_nodes}
use Rattle.zpl_meaning.specs.Computed.{Computed, Gives, computed_then, provided}
use Rattle.zpl_meaning.specs.Store.{Thing, Scalar, ArrayAt, Store, thing_of, scalar_at, with_scalar}
use Rattle.zpl_meaning.specs.Store.{array_at, with_array, cut_back}
use Rattle.zpl_meaning.specs.Context.{over_at, Edge, Place, reach_of}
use Rattle.zpl_meaning.specs.Regions.{over_in, under_prefix}
use Rattle.zpl_meaning.specs.Checks.{is_within, has_mask_within}
use Rattle.zpl_meaning.specs.Fields.{everywhere, is_kept_in, array_over}
use Rattle.zpl_meaning.specs.Phases.{placed_in, fields_in, scalars_in, scalar_in, first_field}
use Rattle.zpl_meaning.specs.Text.{print_text}
use Rattle.zpl_meaning.specs.Outcome.{Outcome, goes_on, prints, counting, then_do, with_value}
use Rattle.zpl_meaning.specs.Outcome.{choose, Test, tested, while_turns, repeat_turns, Count}
use Rattle.zpl_meaning.specs.Outcome.{for_turns}
use Rattle.zpl_meaning.specs.Points.{assigned_expr, shattered}
use Rattle.zpl_meaning.specs.Variables.{with_new_scalar}
use Rattle.zpl_meaning.specs.Calls.{Called, actuals_in}

-- where a statement stands, and what a call does
pub record Context : Type 0 where
  pub place : Place
  pub call : Called → Store → Outcome

abbrev pub line_of : Place → ℕ → ℕ
line_of place at = line_at place.setup.program.source at

-- ---- assignments

-- the array with new values at the tuples of a region that aren't masked out
abbrev pub written : Array → Region → (List ℤ → Bool) → (List ℤ → ℤ) → Array
written array region is_in value =
    array_of array.storage (λ t.
    if is_member region t && is_in t then value t else element array t)

-- An array is assigned under the current region of its rank. It and the region's mask are
-- references.
abbrev pub assign_array : Place → Role → ℕ → Expr → ℕ → Store → Outcome
assign_array place role target value line store =
    let over = over_at place.currents (handed (reach_of place) role) in
    let own = is_within store over.region target && has_mask_within store over in
    let is_in = is_kept_in store over in
    with_value
    (computed_then (fields_in place store own (placed_in place role value ∷ [])) (λ fields.
    array_over over.region is_in (first_field fields))) store line (λ values.
    goes_on (with_array store target
    (written (array_at store target) over.region is_in (element values))))

abbrev pub assign_scalar : Place → Role → ℕ → Expr → ℕ → Store → Outcome
assign_scalar place role target value line store =
    with_value (scalar_in place store role value) store line (λ new.
    goes_on (with_scalar store target new))

-- no accepted program assigns to anything else; that does nothing
abbrev pub assign_to : Place → Role → Option Thing → Expr → ℕ → Store → Outcome
assign_to place role (Some (Scalar target)) value line store =
    assign_scalar place role target value line store
assign_to place role (Some (ArrayAt target home)) value line store =
    assign_array place role target value line store
assign_to place role thing value line store = goes_on store

-- ---- calls

abbrev pub with_result : Option Thing → ℤ → Store → Store
with_result (Some (Scalar target)) value store = with_scalar store target value
with_result thing value store = store

-- A call as a statement. What is called so has no result, and asks for no place of one.
abbrev pub invoke : Context → Name → Exprs → ℕ → Store → Outcome
invoke context name actuals line store =
    with_value (actuals_in context.place store name actuals) store line (λ handed.
    context.call
    (record {
      name = name.text;
      actuals = handed;
      currents = context.place.currents;
      result = 0;
    }) store)

-- A call as the right side of an assignment to a scalar: what is answered goes through a new
-- scalar, which is gone afterwards.
abbrev pub assign_call : Context → Name → Name → Exprs → ℕ → Store → Outcome
assign_call context target name actuals line store =
    with_value (actuals_in context.place store name actuals) store line (λ handed.
    then_do
    (context.call
    (record {
      name = name.text;
      actuals = handed;
      currents = context.place.currents;
      result = length store.scalars;
    }) (with_new_scalar store (pos 0))) (λ after.
    goes_on
    (with_result (thing_of context.place.environment target.text)
    (scalar_at after (length store.scalars)) (cut_back store after))))

abbrev pub assign : Context → Name → Option Op → Expr → ℕ → Store → Outcome
assign context name None (Call at callee actuals) line store =
    assign_call context name callee actuals line store
assign context name op value line store =
    assign_to context.place (Assigned name op) (thing_of context.place.environment name.text)
    (assigned_expr name op value) line store

-- ---- borders

-- One array is set on the border that the nearest prefix is. No accepted program has a border
-- statement under another prefix, or of anything but an array; that does nothing.
abbrev pub border_array : BorderKind → Edge → ℕ → ℕ → Store → Outcome
border_array kind edge target line store =
    let array = array_at store target in
    let border = outside_of edge.shift edge.region in
    let sources = border_sources kind edge.region edge.shift in
    with_value
    (provided (border_conforms edge.shift edge.region) RegionMismatch (λ _.
    provided (lies_in border array.storage && lies_in sources array.storage) OutsideStorage (λ _.
    Gives (written array border everywhere (λ t.
    element array (border_source kind edge.region edge.shift t)))))) store line (λ new.
    goes_on (with_array store target new))

abbrev pub border_thing : BorderKind → Option Edge → Option Thing → ℕ → Store → Outcome
border_thing kind (Some edge) (Some (ArrayAt target home)) line store =
    border_array kind edge target line store
border_thing kind edge thing line store = goes_on store

-- a statement for each name, in their order; behind the first each counts a step as it begins
abbrev pub more_borders : Place → BorderKind → List Name → ℕ → Store → Outcome
more_borders place kind [] line store = goes_on store
more_borders place kind (name ∷ names) line store =
    counting 1
    (then_do
    (border_thing kind place.edge (thing_of place.environment name.text) line store)
    (more_borders place kind names line))

abbrev pub borders : Place → BorderKind → List Name → ℕ → Store → Outcome
borders place kind [] line store = goes_on store
borders place kind (name ∷ names) line store =
    then_do
    (border_thing kind place.edge (thing_of place.environment name.text) line store)
    (more_borders place kind names line)

-- ---- `for`

-- the step is 1 where none is written
abbrev pub step_expr : Option Expr → Expr
step_expr None = Number 0 (pos 1)
step_expr (Some step) = step

-- where a `for` begins, and how it counts
pub record Start : Type 0 where
  pub first : ℤ
  pub count : Count

-- of the three values that a `for` has there are three
abbrev pub start_of : Bool → List ℤ → Start
start_of down (first ∷ last ∷ by ∷ _) =
    record { first = first; count = record { down = down; by = by; last = last } }
start_of down values =
    record { first = pos 0; count = record { down = down; by = pos 0; last = pos 0 } }

-- first, last and step are computed once
abbrev pub head_value : Place → Store → ForHead → Computed Start
head_value place store head =
    computed_then
    (scalars_in place store
    (placed_in place Limit head.first ∷ placed_in place Limit head.last
    ∷ placed_in place Limit (step_expr head.step) ∷ [])) (λ values.
    Gives (start_of head.down values))

-- there is no turn where the step is below 1; no accepted program counts with anything but a scalar
abbrev pub for_from : ℕ → Option Thing → Start → (Store → Outcome) → Store → Outcome
for_from n (Some (Scalar place)) start body =
    choose (int_lt start.count.by (pos 1)) goes_on
    (for_turns n start.count (λ value store. with_scalar store place value) body start.first)
for_from n thing start body = goes_on

-- ---- prefixes

-- Each is evaluated once, on entry, under those before it; a trap has the line of its `[`.
abbrev pub under : Context → List Prefix → Store → (Context → Outcome) → Outcome
under context [] store next = next context
under context (prefix ∷ prefixes) store next =
    with_value (over_in context.place store prefix) store (line_of context.place prefix.at)
    (λ over.
    under (record context { place = under_prefix context.place prefix over }) prefixes store next)

-- ---- tests

-- the test that an expression of rank 0 is, at the line of an offset; it counts 1 and its nodes
abbrev pub test_of : Place → Expr → ℕ → Test
test_of place expr at = record {
  value = λ store. scalar_in place store TestRole expr;
  line = line_of place at;
  steps = 1 + expr_nodes expr;
}

-- the offset of the first arm
abbrev pub arms_at : Arms → ℕ
arms_at NoArm = 0
arms_at (ThenArm (Tested at test body) rest) = at

-- ---- statements

-- the nodes of a statement's own expressions, with those of its prefixes; those of a test count
-- where it is tested
abbrev pub nodes_under : List Prefix → Form → ℕ
nodes_under [] form = own_nodes form
nodes_under (prefix ∷ prefixes) form = inner_nodes prefix.region + nodes_under prefixes form

-- whether an `if`, a `while` or a `repeat` is shattered
abbrev pub is_split : Context → Form → Bool
is_split context form = is_shattered (reach_of context.place) form

abbrev mutual
  -- a statement counts 1 and its own nodes
  pub exec : Context → ℕ → Stmt → Store → Outcome
  exec context n (Prefixed at prefixes form) store =
      counting (1 + nodes_under prefixes form)
      (under context prefixes store (λ inner. exec_form inner n at form store))

  pub exec_all : Context → ℕ → Stmts → Store → Outcome
  exec_all context n NoStmt store = goes_on store
  exec_all context n (ThenStmt first rest) store =
      then_do (exec context n first store) (exec_all context n rest)

  -- a form, whose statement begins at an offset behind its prefixes
  pub exec_form : Context → ℕ → ℕ → Form → Store → Outcome
  exec_form context n at (Assign name op value) store =
      assign context name op value (line_of context.place at) store
  exec_form context n at (Invoke name actuals) store =
      invoke context name actuals (line_of context.place at) store
  exec_form context n at (Block body) store = exec_all context n body store
  exec_form context n at (If arms otherwise) store =
      choose (is_split context (If arms otherwise))
      (shattered context.place (line_of context.place at) n (If arms otherwise))
      (exec_arms context n at arms (exec_otherwise context n otherwise)) store
  exec_form context n at (While test body) store =
      choose (is_split context (While test body))
      (shattered context.place (line_of context.place at) n (While test body))
      (while_turns n (test_of context.place test at) (exec_all context n body)) store
  exec_form context n at (Repeat body until test) store =
      choose (is_split context (Repeat body until test))
      (shattered context.place (line_of context.place at) n (Repeat body until test))
      (repeat_turns n (test_of context.place test until) (exec_all context n body)) store
  exec_form context n at (For head body) store =
      with_value (head_value context.place store head) store (line_of context.place at) (λ start.
      for_from n (thing_of context.place.environment head.name.text) start
      (exec_all context n body) store)
  exec_form context n at (Border kind names) store =
      borders context.place kind names (line_of context.place at) store
  exec_form context n at (Write line items) store =
      with_value (print_text context.place store line items) store (line_of context.place at)
      (prints store)
  exec_form context n at (Return value) store =
      with_value (scalar_in context.place store (Result None) value) store
      (line_of context.place at) (λ answer.
      goes_on (with_scalar store context.place.result answer))

  -- the first arm whose test is true, or else the last choice; the first test is at the statement's
  -- offset, and each other one at its `elsif`
  pub exec_arms : Context → ℕ → ℕ → Arms → (Store → Outcome) → Store → Outcome
  exec_arms context n at NoArm last store = last store
  exec_arms context n at (ThenArm first rest) last store =
      exec_arm context n at first (exec_arms context n (arms_at rest) rest last) store

  pub exec_arm : Context → ℕ → ℕ → Arm → (Store → Outcome) → Store → Outcome
  exec_arm context n at (Tested own test body) last store =
      tested (test_of context.place test at) (exec_all context n body) last store

  pub exec_otherwise : Context → ℕ → Otherwise → Store → Outcome
  exec_otherwise context n NoElse store = goes_on store
  exec_otherwise context n (Else body) store = exec_all context n body store
