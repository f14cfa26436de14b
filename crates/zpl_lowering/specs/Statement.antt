-- The code of statements. It follows what they mean, form by form.
use Rattle.std.specs.Prelude.{ℕ, zero, suc, ◌+◌, Bool, true, false, not, ℤ, pos, neg_ℤ, List, [], ◌∷◌, ◌++◌, length, Option, Some, None, slice_get, if◌then◌else◌}
use Rattle.zpl_meaning.specs.of_zpl_nums.declared.operators.Op.{Op}
use Rattle.zpl_meaning.specs.of_zpl_nums.declared.operators.Op.TheVariants as op
use Rattle.zpl_meaning.specs.of_zpl_nums.declared.ends.Border.{Border as BorderKind}
use Rattle.zpl_meaning.specs.of_zpl_nums.declared.ends.Border.TheVariants as border
use Rattle.zpl_meaning.specs.of_zpl_region.declared.regions.Region.{Region}
use Rattle.zpl_meaning.specs.of_zpl_text.Escapes.{unescaped}
use Rattle.zpl_meaning.specs.of_zpl_tree.Syntax.{Name, Pre, NamedRegion, Ditto, Expr, Named, Call, Exprs, NoExpr, ThenExpr, NamedDir, Inner, Rexpr, Dims, Posts, NoPost, ThenPost, Prefix, ForHead, Item, Str, Value, Base, Boolean, Stmt, Prefixed, Stmts, NoStmt, ThenStmt, Form, Assign, Invoke, Block, If, While, Repeat, For, Border, Write, Return, Arm, Tested, Arms, NoArm, ThenArm, Otherwise, NoElse, Else}
use Rattle.zpl_meaning.specs.of_zpl_names.Kinds.{Rank, Formal, ScalarFormal, ArrayFormal}
use Rattle.zpl_meaning.specs.of_zpl_names.Scope.{kind_of}
use Rattle.zpl_meaning.specs.of_zpl_names.Ranks.{inner_rank, mask_rank}
use Rattle.zpl_meaning.specs.of_zpl_names.Shapes.{prefix_rank}
use Rattle.zpl_meaning.specs.of_zpl_names.Sites.{Role, Limit, Result, Test, Printed, Actual, Assigned, is_shattered, tests_rank}
use Rattle.zpl_meaning.specs.of_zpl_names.Types.{type_of}
use Rattle.zpl_meaning.specs.of_zpl_binding.Regions.{Known}
use Rattle.zpl_meaning.specs.Store.{Thing, Scalar, ArrayAt, Fixed, Environment, thing_of}
use Rattle.zpl_meaning.specs.Regions.{vector_in, mask_in}
use Rattle.zpl_meaning.specs.Calls.{formals_in, actual_thing}
use Rattle.zpl_meaning.specs.Points.{assigned_expr}
use Rattle.zpl_meaning.specs.Statement.{arms_at, step_expr}
use Rattle.text_sharing.specs.of_node_form.Expression.{Expression, Constant, Variable, Element, Operation, words_of}
use Rattle.text_sharing.specs.of_node_form.Value.{unmoved}
use Rattle.text_sharing.specs.of_node_form.declared.instructions.RegionForm.TheVariants as form
use Rattle.text_sharing.specs.of_row_runs.Structured as piece
use Rattle.text_sharing.specs.of_node_form.declared.instructions.Instr.TheVariants as instr
use Rattle.text_sharing.specs.of_flat_form.Row as row
use Rattle.text_sharing.specs.of_flat_form.Row.{Row, Member, Words}
use Rattle.zpl_lowering.specs.Check.{Check}
use Rattle.zpl_lowering.specs.Where.{Stored, Numbers, Slotted, SlotCurrents, slotted_at, with_slotted, SlotEdge, Where, Next, reach_of, rank_in, rank_for, line_of}
use Rattle.zpl_lowering.specs.Bracket.{Opened, bracket, computed, region_slot}
use Rattle.zpl_lowering.specs.Slate.{Placed, Slate, Slates, settled, Settled}
use Rattle.zpl_lowering.specs.Reference.{Reference, at_place, refer_to, over_reference, needs, referred}
use Rattle.zpl_lowering.specs.Hoist.{mask_code, array_code, hoisted, Free, kept_rows}
use Rattle.zpl_lowering.specs.Lowered.{Lowered, coded, rows_alone, behind, joined, both, followed, Phased, phased_with, phased, first_left, then_rows, check_of}

-- ---- where statements are lowered

-- what a parameter takes: a scalar of the call's own, a copy of an array with its home box, or what
-- a variable's name stands for
pub data Given : Type 0 where
  Valued : (scalar : ℕ) → Given
  Copied : (stored : Stored) (home : Region) → Given
  Referring : (thing : Thing) → Given

-- the procedure's name, what its parameters take, the current regions that it inherits, the scalar
-- that takes what it answers, and the numbers of the store's places
pub record Calling : Type 0 where
  pub name : List ℕ
  pub actuals : List Given
  pub currents : SlotCurrents
  pub result : ℕ
  pub numbers : Numbers
  pub line : ℕ

-- a place, and what a call becomes
pub record Lowering : Type 0 where
  pub place : Where
  pub call : Calling → Next → Lowered

abbrev pub placed_in : Where → Role → Expr → Placed
placed_in w role expr = record { rank = rank_in w role expr; expr = expr }

-- ---- tests

-- the rows of a test of rank 0, and the test
pub record Testing : Type 0 where
  pub before : Lowered
  pub check : Check

abbrev pub test_of : Where → Next → Expr → ℕ → Testing
test_of w next expr at =
    let line = line_of w at in
    let phases = phased w line next (placed_in w Test expr ∷ []) in
    record { before = phases.lowered; check = check_of (first_left phases.left) line }

-- ---- assignments

abbrev pub set_row : ℕ → Expression → Option ℕ → List Row
set_row line expr None = []
set_row line expr (Some scalar) = row.Set scalar (words_of expr) line ∷ []

abbrev pub put_row : Where → ℕ → Slotted → Expression → Option Stored → List Row
put_row w line over expr None = []
put_row w line over expr (Some stored) =
    row.Loop over.slot
    (row.Put stored.array (words_of expr) (mask_code w.numbers over.mask) line ∷ []) ∷ []

abbrev pub lowered_scalar : Where → ℕ → Next → Placed → Option ℕ → Lowered
lowered_scalar w line next value target =
    let phases = phased w line next (value ∷ []) in
    then_rows phases (set_row line (first_left phases.left) target)

-- it and the mask of the region are references
abbrev pub lowered_array : Where → ℕ → Next → Slotted → Placed → Option Stored → Lowered
lowered_array w line next over value target =
    let phases = phased_with w line next (refer_to over.slot [] target)
    (over_reference w.numbers over) (value ∷ []) in
    then_rows phases (put_row w line over (first_left phases.left) target)

-- no accepted program assigns to anything else
abbrev pub lowered_to : Where → Role → ℕ → Next → Expr → Option Thing → Lowered
lowered_to w role line next value (Some (Scalar target)) =
    lowered_scalar w line next (placed_in w role value) (slice_get w.numbers.scalars target)
lowered_to w role line next value (Some (ArrayAt target home)) =
    lowered_array w line next (slotted_at w.currents (rank_for w role)) (placed_in w role value)
    (slice_get w.numbers.arrays target)
lowered_to w role line next value thing = rows_alone []

-- ---- calls

-- the actuals of parameters that take a value
abbrev pub value_exprs : Where → List Formal → Exprs → List Placed
value_exprs w [] actuals = []
value_exprs w (formal ∷ formals) NoExpr = []
value_exprs w (ScalarFormal false base ∷ formals) (ThenExpr actual rest) =
    placed_in w Actual actual ∷ value_exprs w formals rest
value_exprs w (formal ∷ formals) (ThenExpr actual rest) = value_exprs w formals rest

-- each goes into a scalar of its own
abbrev pub value_rows : ℕ → ℕ → List Expression → List Row
value_rows line scalar [] = []
value_rows line scalar (expr ∷ exprs) =
    row.Set scalar (words_of expr) line ∷ value_rows line (suc scalar) exprs

abbrev pub referring : Option Thing → List Given
referring None = []
referring (Some thing) = Referring thing ∷ []

abbrev pub copying : Numbers → Option Thing → List Given
copying numbers (Some (ArrayAt place home)) = by (slice_get numbers.arrays place)
  where
    by : Option Stored → List Given
    by None = []
    by (Some stored) = Copied stored home ∷ []
copying numbers thing = []

-- what each parameter takes; values have scalars from a number on
abbrev pub given_to : Where → ℕ → List Formal → Exprs → List Given
given_to w scalar [] actuals = []
given_to w scalar (formal ∷ formals) NoExpr = []
given_to w scalar (ScalarFormal false base ∷ formals) (ThenExpr actual rest) =
    Valued scalar ∷ given_to w (suc scalar) formals rest
given_to w scalar (ScalarFormal true base ∷ formals) (ThenExpr actual rest) =
    referring (actual_thing w.environment actual) ++ given_to w scalar formals rest
given_to w scalar (ArrayFormal true base shape ∷ formals) (ThenExpr actual rest) =
    referring (actual_thing w.environment actual) ++ given_to w scalar formals rest
given_to w scalar (ArrayFormal false base shape ∷ formals) (ThenExpr actual rest) =
    copying w.numbers (actual_thing w.environment actual) ++ given_to w scalar formals rest

abbrev pub with_values : ℕ → ℕ → Phased → Lowered
with_values line scalar phases =
    let rows = rows_alone (value_rows line scalar phases.left) in
    both phases.lowered (record rows { scalars = length phases.left })

-- the scalars behind those of the actuals' own operators
abbrev pub lowered_invoke : Lowering → Next → Name → Exprs → ℕ → ℕ → Lowered
lowered_invoke context next name actuals result line =
    let w = context.place in
    let formals = formals_in (kind_of w.scope name) in
    let phases = phased w line next (value_exprs w formals actuals) in
    let scalar = next.scalars + phases.lowered.scalars in
    followed next (with_values line scalar phases)
    (context.call (record {
      name = name.text;
      actuals = given_to w scalar formals actuals;
      currents = w.currents;
      result = result;
      numbers = w.numbers;
      line = line;
    }))

-- the scalar that a name stands for
abbrev pub scalar_of : Numbers → Option Thing → Option ℕ
scalar_of numbers (Some (Scalar place)) = slice_get numbers.scalars place
scalar_of numbers thing = None

abbrev pub scalar_or : Option ℕ → ℕ
scalar_or None = 0
scalar_or (Some scalar) = scalar

abbrev pub target_of : Where → Name → ℕ
target_of w name = scalar_or (scalar_of w.numbers (thing_of w.environment name.text))

-- the procedure answers into the assigned scalar itself
abbrev pub lowered_assign : Lowering → Next → Name → Option Op → Expr → ℕ → Lowered
lowered_assign context next name None (Call at callee actuals) line =
    lowered_invoke context next callee actuals (target_of context.place name) line
lowered_assign context next name op value line =
    lowered_to context.place (Assigned name op) line next (assigned_expr name op value)
    (thing_of context.place.environment name.text)

-- ---- borders

-- the borders of one array: its target and its source lie in the storage
abbrev pub border_rows : BorderKind → SlotEdge → ℕ → ℕ → ℕ → Option Stored → List Row
border_rows kind edge border source line None = []
border_rows kind edge border source line (Some stored) =
    row.Plain (instr.Need border stored.array unmoved line)
    ∷ row.Plain (instr.Need source stored.array unmoved line)
    ∷ row.Plain (instr.Edge kind stored.array edge.slot edge.shift) ∷ []

abbrev pub border_thing : Numbers → BorderKind → SlotEdge → ℕ → ℕ → ℕ → Option Thing → List Row
border_thing numbers kind edge border source line (Some (ArrayAt place home)) =
    border_rows kind edge border source line (slice_get numbers.arrays place)
border_thing numbers kind edge border source line thing = []

abbrev pub each_border : Where → BorderKind → SlotEdge → ℕ → ℕ → ℕ → List Name → List Row
each_border w kind edge border source line [] = []
each_border w kind edge border source line (name ∷ names) =
    border_thing w.numbers kind edge border source line (thing_of w.environment name.text)
    ++ each_border w kind edge border source line names

abbrev pub source_shift : BorderKind → List ℤ → List ℤ
source_shift border.Wrap shift = negated shift
  where
    negated : List ℤ → List ℤ
    negated [] = []
    negated (d ∷ v) = neg_ℤ d ∷ negated v
source_shift border.Reflect shift = shift

-- under the prefix that is the border, whose region is in this slot
abbrev pub borders_under : Where → BorderKind → SlotEdge → Slotted → ℕ → Next → List Name → Lowered
borders_under w kind edge over line next names =
    record (rows_alone
    (row.Plain (instr.Fits edge.slot edge.shift line)
    ∷ row.Plain
    (instr.Formed form.Inside next.slots edge.slot (source_shift kind edge.shift) line)
    ∷ each_border w kind edge over.slot next.slots line names)) {
      slots = length over.flood ∷ [];
    }

-- no accepted program has a border statement under another prefix
abbrev pub lowered_borders : Where → BorderKind → Option SlotEdge → ℕ → Next → List Name → Lowered
lowered_borders w kind None line next names = rows_alone []
lowered_borders w kind (Some edge) line next names =
    borders_under w kind edge (slotted_at w.currents w.prefix) line next names

-- ---- prefixes

-- that of a border statement has a row, though it is known before the run
abbrev pub is_border : Form → Bool
is_border (Border kind names) = true
is_border (Assign name op value) = false
is_border (Invoke name actuals) = false
is_border (Block body) = false
is_border (If arms otherwise) = false
is_border (While test body) = false
is_border (Repeat body until test) = false
is_border (For head body) = false
is_border (Write line items) = false
is_border (Return value) = false

abbrev pub prefix_opened : Bool → Where → ℕ → ℕ → Slotted → Inner → Opened
prefix_opened true w next line current inner = computed w next line current inner
prefix_opened false w next line current inner = bracket w next line current inner

-- the current region of the rank that the bracket has
abbrev pub current_for : Where → Prefix → Slotted
current_for w prefix =
    slotted_at w.currents
    (inner_rank w.scope (mask_rank w.scope prefix.mask) w.prefix prefix.region)

abbrev pub base_slot : Known → Slotted → Inner → ℕ
base_slot known current (Rexpr pre (NamedRegion name) post) = region_slot known name
base_slot known current inner = current.slot

abbrev pub edge_of : Known → Slotted → Inner → Option SlotEdge
edge_of known current (Rexpr (pre ∷ []) base NoPost) = by pre.outside
  where
    by : Bool → Option SlotEdge
    by true = Some (record {
      shift = vector_in known (NamedDir pre.dir);
      slot = base_slot known current (Rexpr (pre ∷ []) base NoPost);
    })
    by false = None
edge_of known current inner = None

abbrev pub under_prefix : Where → Prefix → Opened → Where
under_prefix w prefix opened =
    let rank = prefix_rank w.scope w.prefix prefix in
    record w {
      prefix = rank;
      currents = with_slotted w.currents rank (record {
        slot = opened.slot;
        flood = opened.flood;
        mask = mask_in w.environment prefix.mask;
      });
      edge = edge_of w.setup.known (current_for w prefix) prefix.region;
    }

abbrev pub of_opened : Opened → Lowered
of_opened opened = record (rows_alone opened.rows) { slots = opened.slots }

-- whether it is the last one, of a border statement
abbrev pub is_last : Bool → List Prefix → Bool
is_last borders [] = borders
is_last borders (prefix ∷ prefixes) = false

-- each is computed once, under those before it, at the line of its bracket
abbrev pub lowered_under : Bool → Lowering → Next → List Prefix → (Lowering → Next → Lowered) →
    Lowered
lowered_under borders context next [] rest = rest context next
lowered_under borders context next (prefix ∷ prefixes) rest =
    let w = context.place in
    let opened = prefix_opened (is_last borders prefixes) w next.slots (line_of w prefix.at)
    (current_for w prefix) prefix.region in
    followed next (of_opened opened)
    (λ after.
    lowered_under borders (record context { place = under_prefix w prefix opened }) after prefixes
    rest)

-- ---- `for`

-- the scalar that counts, the bound and the step
pub record Counter : Type 0 where
  pub at : ℕ
  pub to : ℕ
  pub by : ℕ

abbrev pub counter_from : ℕ → Counter
counter_from scalar = record { at = scalar; to = suc scalar; by = suc (suc scalar) }

abbrev pub comparison : Bool → Op
comparison true = op.Ge
comparison false = op.Le

abbrev pub strict : Bool → Op
strict true = op.Gt
strict false = op.Lt

abbrev pub onward : Bool → Op
onward true = op.Sub
onward false = op.Add

abbrev pub backward : Bool → Op
backward down = onward (not down)

-- there is no turn where the step is below 1
abbrev pub enters : Bool → Counter → Expression
enters down counter =
    Operation op.And (Operation op.Ge (Variable counter.by) (Constant (pos 1)))
    (Operation (comparison down) (Variable counter.at) (Variable counter.to))

-- Whether it is done, behind a step: the counter less the step is what it was, so that it has
-- wrapped where it isn't past that.
abbrev pub is_done : Bool → Counter → Expression
is_done down counter =
    Operation op.Or
    (Operation (comparison (not down))
    (Operation (backward down) (Variable counter.at) (Variable counter.by))
    (Variable counter.at))
    (Operation (strict (not down)) (Variable counter.at) (Variable counter.to))

abbrev pub step_row : Bool → Counter → ℕ → Row
step_row down counter line =
    row.Set counter.at
    (words_of (Operation (onward down) (Variable counter.at) (Variable counter.by))) line

abbrev pub head_exprs : Where → ForHead → List Placed
head_exprs w head =
    placed_in w Limit head.first ∷ placed_in w Limit head.last
    ∷ placed_in w Limit (step_expr head.step) ∷ []

-- each turn sets the variable first
abbrev pub counted : Bool → Counter → ℕ → Option ℕ → Next → (Next → Lowered) → Lowered
counted down counter line target next body =
    let inside = followed next (rows_alone (set_row line (Variable counter.at) target)) body in
    record inside {
      code = piece.When (check_of (enters down counter) line)
          (piece.Repeat
          (piece.Then inside.code (piece.Rows (step_row down counter line ∷ [])))
          (piece.Rows []) (check_of (is_done down counter) line));
    }

abbrev pub lowered_for : Where → ℕ → Next → ForHead → (Next → Lowered) → Lowered
lowered_for w line next head body =
    let phases = phased w line next (head_exprs w head) in
    let scalar = next.scalars + phases.lowered.scalars in
    followed next (with_values line scalar phases)
    (λ after.
    counted head.down (counter_from scalar) line
    (scalar_of w.numbers (thing_of w.environment head.name.text)) after body)

-- ---- prints: all values are computed before the first is printed

abbrev pub printed_exprs : Where → List Item → List Placed
printed_exprs w [] = []
printed_exprs w (Str bytes ∷ items) = printed_exprs w items
printed_exprs w (Value expr ∷ items) = placed_in w Printed expr ∷ printed_exprs w items

-- what is printed of an expression: a scalar, or an array over the current region
pub record Shown : Type 0 where
  pub values : List Row
  pub print : Row
  pub scalars : ℕ
  pub temps : List (List Bool)

abbrev pub is_truth : Option Base → Bool
is_truth (Some Boolean) = true
is_truth type = false

abbrev pub scalar_print : Bool → Words → Row
scalar_print true expr = row.Truth expr
scalar_print false expr = row.Number expr

abbrev pub shown_at : ℕ → Bool → ℕ → ℕ → Slotted → Rank → Expression → Shown
shown_at line truth scalar temp over (Some (suc rank)) expr = record {
  values = kept_rows line temp over.slot expr None;
  print = row.Plain (instr.Gather truth temp over.slot);
  scalars = 0;
  temps = over.flood ∷ [];
}
shown_at line truth scalar temp over rank expr = record {
  values = row.Set scalar (words_of expr) line ∷ [];
  print = scalar_print truth (words_of (Variable scalar));
  scalars = 1;
  temps = [];
}

abbrev pub shown_of : Where → ℕ → ℕ → ℕ → Expr → Expression → Shown
shown_of w line scalar temp expr left =
    let rank = rank_in w Printed expr in
    shown_at line (is_truth (type_of w.scope expr)) scalar temp (slotted_at w.currents rank) rank
    left

-- rows that compute the values, rows that print them, and what these have of their own
pub record Prints : Type 0 where
  pub values : List Row
  pub prints : List Row
  pub scalars : ℕ
  pub temps : List (List Bool)

abbrev pub with_shown : Shown → Prints → Prints
with_shown shown rest = record {
  values = shown.values ++ rest.values;
  prints = shown.print ∷ rest.prints;
  scalars = shown.scalars + rest.scalars;
  temps = shown.temps ++ rest.temps;
}

abbrev pub newline : Bool → List Row
newline true = row.Print (10 ∷ []) ∷ []
newline false = []

abbrev pub items_of : Where → ℕ → ℕ → ℕ → Bool → List Item → List Expression → Prints
items_of w line scalar temp ends [] left =
    record { values = []; prints = newline ends; scalars = 0; temps = [] }
items_of w line scalar temp ends (Str bytes ∷ items) left =
    let rest = items_of w line scalar temp ends items left in
    record rest { prints = row.Print (unescaped bytes) ∷ rest.prints }
items_of w line scalar temp ends (Value expr ∷ items) [] =
    items_of w line scalar temp ends items []
items_of w line scalar temp ends (Value expr ∷ items) (first ∷ left) =
    let shown = shown_of w line scalar temp expr first in
    with_shown shown
    (items_of w line (scalar + shown.scalars) (temp + length shown.temps) ends items left)

abbrev pub of_prints : Prints → Lowered
of_prints all =
    record (rows_alone (all.values ++ all.prints)) { scalars = all.scalars; temps = all.temps }

abbrev pub lowered_write : Where → ℕ → Next → Bool → List Item → Lowered
lowered_write w line next ends items =
    let phases = phased w line next (printed_exprs w items) in
    followed next phases.lowered
    (λ after. of_prints (items_of w line after.scalars after.temps ends items phases.left))

-- ---- shattered statements: one loop, whose members have the line of the whole statement, and a row
-- behind one that puts nothing

-- members, and what they refer to
pub record Inside : Type 0 where
  pub members : List Member
  pub references : List Reference

abbrev pub no_members : Inside
no_members = record { members = []; references = [] }

abbrev pub both_inside : Inside → Inside → Inside
both_inside one other = record {
  members = one.members ++ other.members;
  references = one.references ++ other.references;
}

abbrev pub with_members : List Member → List Member → Inside → Inside
with_members before behind inside =
    record inside { members = before ++ (inside.members ++ behind) }

-- An elementwise expression has neither brackets nor operators over regions, so that there are no
-- rows of it.
pub record Elementwise : Type 0 where
  pub expr : Words
  pub references : List Reference

abbrev pub elementwise : Where → ℕ → Next → Rank → Expr → Elementwise
elementwise w line next rank expr =
    let slate = (settled w line next rank expr).slate in
    record {
      expr = words_of (hoisted w.numbers line
          (record { scalars = next.scalars; temps = next.temps }) slate).left;
      references = referred w.numbers slate;
    }

abbrev pub put_member : ℕ → ℕ → Elementwise → Option Stored → Inside
put_member line slot value None = no_members
put_member line slot value (Some stored) = record {
  members = row.Put stored.array value.expr None line ∷ [];
  references = at_place slot stored.array ∷ value.references;
}

abbrev pub put_thing : Where → ℕ → ℕ → Elementwise → Option Thing → Inside
put_thing w line slot value (Some (ArrayAt place home)) =
    put_member line slot value (slice_get w.numbers.arrays place)
put_thing w line slot value thing = no_members

-- members that open a test, with its references before those inside
abbrev pub opening : Member → List Member → Elementwise → Inside → Inside
opening member close test inside = record {
  members = member ∷ (inside.members ++ close);
  references = test.references ++ inside.references;
}

abbrev pub otherwise_members : List Member → List Member
otherwise_members [] = []
otherwise_members (member ∷ members) = row.Otherwise ∷ member ∷ members

abbrev mutual
  pub stmt_inside : Where → ℕ → Next → Rank → Stmt → Inside
  stmt_inside w line next rank (Prefixed at prefixes form) = form_inside w line next rank form

  pub stmts_inside : Where → ℕ → Next → Rank → Stmts → Inside
  stmts_inside w line next rank NoStmt = no_members
  stmts_inside w line next rank (ThenStmt first rest) =
      both_inside (stmt_inside w line next rank first) (stmts_inside w line next rank rest)

  pub form_inside : Where → ℕ → Next → Rank → Form → Inside
  form_inside w line next rank (Assign name op value) =
      put_thing w line (slotted_at w.currents rank).slot
      (elementwise w line next rank (assigned_expr name op value))
      (thing_of w.environment name.text)
  form_inside w line next rank (Block body) = stmts_inside w line next rank body
  form_inside w line next rank (If arms otherwise) =
      arms_inside w line next rank arms (otherwise_inside w line next rank otherwise)
  form_inside w line next rank (While test body) =
      let value = elementwise w line next rank test in
      opening (row.OpenWhile value.expr None line) (row.CloseWhile ∷ []) value
      (stmts_inside w line next rank body)
  form_inside w line next rank (Repeat body until test) =
      let value = elementwise w line next rank test in
      opening (row.OpenRepeat None line) (row.Until value.expr ∷ []) value
      (stmts_inside w line next rank body)
  -- no accepted program has these in a shattered statement
  form_inside w line next rank (Invoke name actuals) = no_members
  form_inside w line next rank (For head body) = no_members
  form_inside w line next rank (Border kind names) = no_members
  form_inside w line next rank (Write ends items) = no_members
  form_inside w line next rank (Return value) = no_members

  -- what stands behind the last arm is in its other branch
  pub arms_inside : Where → ℕ → Next → Rank → Arms → Inside → Inside
  arms_inside w line next rank NoArm last = last
  arms_inside w line next rank (ThenArm first rest) last =
      arm_inside w line next rank first (arms_inside w line next rank rest last)

  pub arm_inside : Where → ℕ → Next → Rank → Arm → Inside → Inside
  arm_inside w line next rank (Tested at test body) last =
      let value = elementwise w line next rank test in
      opening (row.OpenIf value.expr None line) (row.CloseIf ∷ []) value
      (both_inside (stmts_inside w line next rank body)
      (record last { members = otherwise_members last.members }))

  pub otherwise_inside : Where → ℕ → Next → Rank → Otherwise → Inside
  otherwise_inside w line next rank NoElse = no_members
  otherwise_inside w line next rank (Else body) = stmts_inside w line next rank body

-- the mask is read once
abbrev pub masked_members : Option Words → ℕ → List Member → List Member
masked_members None line members = members
masked_members (Some mask) line members = row.OpenIf mask None line ∷ (members ++ row.CloseIf ∷ [])

abbrev pub shattered_over : Where → Slotted → ℕ → Inside → Lowered
shattered_over w over line inside =
    rows_alone
    (needs line (inside.references ++ over_reference w.numbers over)
    ++ row.Loop over.slot (masked_members (mask_code w.numbers over.mask) line inside.members)
    ∷ [])

-- whether a member puts an array
abbrev pub has_put : List Member → Bool
has_put [] = false
has_put (row.Put array expr mask line ∷ members) = true
has_put (member ∷ members) = has_put members

-- What a loop puts tells the flood dimensions of its region. Behind one that puts nothing stands a
-- row that sets a scalar of its own, so that no other loop stands directly behind it.
abbrev pub apart_rows : Bool → ℕ → ℕ → List Row
apart_rows true line scalar = []
apart_rows false line scalar = row.Set scalar (words_of (Constant (pos 0))) line ∷ []

abbrev pub kept_apart : Bool → ℕ → ℕ → Lowered
kept_apart put line scalar =
    let rows = apart_rows put line scalar in
    record (rows_alone rows) { scalars = length rows }

abbrev pub shattered : Where → ℕ → Next → Form → Lowered
shattered w line next form =
    let rank = tests_rank (reach_of w) form in
    let inside = form_inside w line next rank form in
    both (shattered_over w (slotted_at w.currents rank) line inside)
    (kept_apart (has_put inside.members) line next.scalars)

-- ---- choices and loops

abbrev pub choose_code : Bool → Lowered → Lowered → Lowered
choose_code true one other = one
choose_code false one other = other

-- a test's rows, and then one of two
abbrev pub chosen : Next → Testing → (Next → Lowered) → (Next → Lowered) → Lowered
chosen next test one other =
    followed next test.before
    (λ after.
    let first = one after in
    let second = other (behind after first) in
    joined (piece.Choose test.check first.code second.code) first second)

-- the same where there is nothing else
abbrev pub when : Next → Testing → (Next → Lowered) → Lowered
when next test one =
    followed next test.before
    (λ after. let inside = one after in
    record inside { code = piece.When test.check inside.code })

abbrev pub while_code : Next → Testing → (Next → Lowered) → Lowered
while_code next test body =
    let inside = body (behind next test.before) in
    joined (piece.While test.before.code test.check inside.code) test.before inside

abbrev pub repeat_code : Next → Lowered → (Next → Testing) → Lowered
repeat_code next body test_from =
    let test = test_from (behind next body) in
    joined (piece.Repeat body.code test.before.code test.check) body test.before

-- whether nothing stands behind an arm
abbrev pub ends_arms : Arms → Otherwise → Bool
ends_arms NoArm NoElse = true
ends_arms NoArm (Else body) = false
ends_arms (ThenArm first rest) otherwise = false

abbrev mutual
  pub lowered : Lowering → Next → Stmt → Lowered
  lowered context next (Prefixed at prefixes form) =
      lowered_under (is_border form) context next prefixes
      (λ inner after. lowered_form inner after at form)

  pub lowered_all : Lowering → Next → Stmts → Lowered
  lowered_all context next NoStmt = rows_alone []
  lowered_all context next (ThenStmt first rest) =
      followed next (lowered context next first) (λ after. lowered_all context after rest)

  -- a form, whose statement begins at an offset behind its prefixes
  pub lowered_form : Lowering → Next → ℕ → Form → Lowered
  lowered_form context next at (Assign name op value) =
      lowered_assign context next name op value (line_of context.place at)
  lowered_form context next at (Invoke name actuals) =
      lowered_invoke context next name actuals 0 (line_of context.place at)
  lowered_form context next at (Block body) = lowered_all context next body
  lowered_form context next at (If arms otherwise) =
      choose_code (is_shattered (reach_of context.place) (If arms otherwise))
      (shattered context.place (line_of context.place at) next (If arms otherwise))
      (lowered_arms context next at arms otherwise
      (λ after. lowered_otherwise context after otherwise))
  lowered_form context next at (While test body) =
      choose_code (is_shattered (reach_of context.place) (While test body))
      (shattered context.place (line_of context.place at) next (While test body))
      (while_code next (test_of context.place next test at)
      (λ after. lowered_all context after body))
  lowered_form context next at (Repeat body until test) =
      choose_code (is_shattered (reach_of context.place) (Repeat body until test))
      (shattered context.place (line_of context.place at) next (Repeat body until test))
      (repeat_code next (lowered_all context next body)
      (λ after. test_of context.place after test until))
  lowered_form context next at (For head body) =
      lowered_for context.place (line_of context.place at) next head
      (λ after. lowered_all context after body)
  lowered_form context next at (Border kind names) =
      lowered_borders context.place kind context.place.edge (line_of context.place at) next names
  lowered_form context next at (Write ends items) =
      lowered_write context.place (line_of context.place at) next ends items
  lowered_form context next at (Return value) =
      lowered_scalar context.place (line_of context.place at) next
      (placed_in context.place (Result None) value) (Some context.place.result)

  -- the first test is at the statement's offset, and each other one at its `elsif`
  pub lowered_arms : Lowering → Next → ℕ → Arms → Otherwise → (Next → Lowered) → Lowered
  lowered_arms context next at NoArm otherwise last = last next
  lowered_arms context next at (ThenArm first rest) otherwise last =
      lowered_arm context next at first (ends_arms rest otherwise)
      (λ after. lowered_arms context after (arms_at rest) rest otherwise last)

  pub lowered_arm : Lowering → Next → ℕ → Arm → Bool → (Next → Lowered) → Lowered
  lowered_arm context next at (Tested own test body) true last =
      when next (test_of context.place next test at) (λ after. lowered_all context after body)
  lowered_arm context next at (Tested own test body) false last =
      chosen next (test_of context.place next test at) (λ after. lowered_all context after body)
      last

  pub lowered_otherwise : Lowering → Next → Otherwise → Lowered
  lowered_otherwise context next NoElse = rows_alone []
  lowered_otherwise context next (Else body) = lowered_all context next body
