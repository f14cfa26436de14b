-- Members of a shattered statement and their references, as they are collected.
use Rattle.std.specs.Prelude.{ℕ, List, ◌++◌, map, Option, Some, None, slice_get}
use Rattle.zpl_nums.specs.declared.operators.Op.{Op}
use Rattle.zpl_tree.specs.Syntax.{Arms, Expr, Form, Name, Stmt, Stmts, Otherwise}
use Rattle.zpl_names.specs.Sites.{tests_rank}
use Rattle.zpl_meaning.specs.Points.{assigned_expr}
use Rattle.zpl_meaning.specs.Store.{Thing, ArrayAt, thing_of}
use Rattle.flat_form.specs.Row.{Member}
use Rattle.zpl_lowering.specs.Hoist.{mask_code}
use Rattle.zpl_lowering.specs.Reference.{Reference, each_once, over_reference}
use Rattle.zpl_lowering.specs.Lowered.{Lowered}
use Rattle.zpl_lowering.specs.Statement.{Elementwise, Inside, arms_inside, elementwise, form_inside, masked_members, otherwise_inside, put_thing, shattered_over, stmt_inside, stmts_inside}
use Rattle.zpl_lowering.specs.Where.{Next, Slotted, Stored, Where, reach_of, slotted_at}
use Rattle.lower_operators.specs.of_lower_draft.Inline.{member_of}
use Rattle.lower_operators.specs.of_lower_draft.declared.rows.FlatMember.{FlatMember}
use Rattle.lower_operators.specs.of_lower_places.View.{where_of}
use Rattle.lower_points.specs.declared.points.Point.{Point}

-- ---- at a point

abbrev pub value_at : Point → Expr → Elementwise
value_at at expr = elementwise (where_of at.place.now) at.line at.draft.now.next at.rank expr

abbrev pub form_at : Point → Form → Inside
form_at at form = form_inside (where_of at.place.now) at.line at.draft.now.next at.rank form

abbrev pub stmt_at : Point → Stmt → Inside
stmt_at at stmt = stmt_inside (where_of at.place.now) at.line at.draft.now.next at.rank stmt

abbrev pub stmts_at : Point → Stmts → Inside
stmts_at at stmts = stmts_inside (where_of at.place.now) at.line at.draft.now.next at.rank stmts

abbrev pub otherwise_at : Point → Otherwise → Inside
otherwise_at at otherwise =
    otherwise_inside (where_of at.place.now) at.line at.draft.now.next at.rank otherwise

abbrev pub arms_at : Point → Arms → Otherwise → Inside
arms_at at arms otherwise =
    arms_inside (where_of at.place.now) at.line at.draft.now.next at.rank arms
    (otherwise_at at otherwise)

-- what an assignment becomes
abbrev pub put_at : Point → Name → Option Op → Expr → Inside
put_at at name op expr =
    let w = where_of at.place.now in
    put_thing w at.line (slotted_at w.currents at.rank).slot
    (value_at at (assigned_expr name op expr)) (thing_of w.environment name.text)

-- the array that a name stands for, if it is one that has a number
abbrev pub stored_named : Where → Option Thing → Option Stored
stored_named w (Some (ArrayAt place home)) = slice_get w.numbers.arrays place
stored_named w thing = None

-- ---- the whole statement

-- the members of the group, and the references of the statement
abbrev pub group_of : Where → ℕ → Slotted → Inside → List Member
group_of w line over inside = masked_members (mask_code w.numbers over.mask) line inside.members

abbrev pub needed_of : Where → Slotted → Inside → List Reference
needed_of w over inside = each_once (inside.references ++ over_reference w.numbers over)

abbrev pub whole_inside : Where → ℕ → Next → Form → Inside
whole_inside w line next form = form_inside w line next (tests_rank (reach_of w) form) form

-- its rows, but for the one behind a loop that puts nothing
abbrev pub whole_rows : Where → ℕ → Next → Form → Lowered
whole_rows w line next form =
    shattered_over w (slotted_at w.currents (tests_rank (reach_of w) form)) line
    (whole_inside w line next form)

-- ---- in memory

abbrev pub members_in : List FlatMember → List Member
members_in members = map member_of members
