-- What runs leave of a store: it has no fewer scalars and arrays than before.
use Rattle.std.proofs.Common.{◌≡◌, ℕ, zero, suc, Bool, true, false, ℤ, pos, List, [], ◌∷◌}
use Rattle.std.proofs.Common.{length, Option, Some, None, refl, arith}
use Rattle.std.proofs.Common.{length-append, length-set, length-take-le}
use Rattle.std.specs.Prelude.{int_lt}
use Rattle.zpl_nums.specs.declared.operators.Op.{Op}
use Rattle.zpl_nums.specs.declared.ends.End.{End}
use Rattle.zpl_nums.specs.declared.ends.End.TheVariants.{Done, Trap, More}
use Rattle.zpl_nums.specs.declared.ends.Border.{Border as BorderKind}
use Rattle.zpl_nums.specs.Integer.{is_true}
use Rattle.zpl_meaning.specs.of_zpl_arrays.Array.{Array}
use Rattle.zpl_meaning.specs.of_zpl_tree.Syntax.{Name, Expr, Number, Truth, Coord, Named, Shifted, Around, Remap}
use Rattle.zpl_meaning.specs.of_zpl_tree.Syntax.{Call, Paren, Neg, Not, Abs, Pair, Reduce, Scan, Flood}
use Rattle.zpl_meaning.specs.of_zpl_tree.Syntax.{Bracket, NoBracket, Bracketed, VarDef, Prefix, Stmt, Prefixed}
use Rattle.zpl_meaning.specs.of_zpl_tree.Syntax.{Stmts, NoStmt, ThenStmt, Form}
use Rattle.zpl_meaning.specs.of_zpl_tree.Syntax.{Assign, Invoke, Block, If, While, Repeat, For, Border, Write}
use Rattle.zpl_meaning.specs.of_zpl_tree.Syntax.{Return, Arm, Tested, Arms, NoArm, ThenArm, Otherwise, NoElse}
use Rattle.zpl_meaning.specs.of_zpl_tree.Syntax.{Else}
use Rattle.zpl_meaning.specs.of_zpl_names.Kinds.{Rank}
use Rattle.zpl_meaning.specs.of_zpl_names.Sites.{Role, Assigned, tests_rank}
use Rattle.zpl_meaning.specs.of_zpl_names.Declared.{Routine, routine_named}
use Rattle.zpl_meaning.specs.of_zpl_names.Expansion.{FormalName, formal_names}
use Rattle.zpl_meaning.specs.of_zpl_binding.Regions.{Known}
use Rattle.zpl_meaning.specs.of_zpl_binding.Storages.{Border as BorderText}
use Rattle.zpl_meaning.specs.Computed.{Computed, Gives, Traps}
use Rattle.zpl_meaning.specs.Store.{Thing, Scalar, ArrayAt, Fixed, Store, thing_of, scalar_at}
use Rattle.zpl_meaning.specs.Store.{with_scalar, with_array, cut_back}
use Rattle.zpl_meaning.specs.Context.{Over, Edge, Setup, Place, over_at, reach_of}
use Rattle.zpl_meaning.specs.Regions.{over_in, under_prefix}
use Rattle.zpl_meaning.specs.Outcome.{Outcome, goes_on, wants_more, counting, then_at}
use Rattle.zpl_meaning.specs.Outcome.{then_do, with_value, choose, Test, tested, while_turns}
use Rattle.zpl_meaning.specs.Outcome.{repeat_turns, Count, is_past, next_value, for_turns}
use Rattle.zpl_meaning.specs.Points.{assigned_expr, Point, point_value, point_test, with_element}
use Rattle.zpl_meaning.specs.Points.{point_stmt, point_stmts, point_form, point_arms, point_arm}
use Rattle.zpl_meaning.specs.Points.{point_otherwise, Run, worst, all_left_at, merged}
use Rattle.zpl_meaning.specs.Points.{joined, kept_tuples, run_at, runs_of, all_runs, parts_in}
use Rattle.zpl_meaning.specs.Points.{shattered_at, shattered}
use Rattle.zpl_meaning.specs.Variables.{Frame, with_new_scalar, with_new_array, with_name}
use Rattle.zpl_meaning.specs.Variables.{with_names, with_variables}
use Rattle.zpl_meaning.specs.Calls.{Handed, Copied, CopiedArray, Referred, Called, with_handed}
use Rattle.zpl_meaning.specs.Calls.{with_formals, actuals_in, entered, place_in}
use Rattle.zpl_meaning.specs.Statement.{Context, Start, line_of, assign_to, assign, with_result}
use Rattle.zpl_meaning.specs.Statement.{border_thing, borders, more_borders, head_value, for_from}
use Rattle.zpl_meaning.specs.Statement.{under, test_of, arms_at, is_split, exec, exec_all}
use Rattle.zpl_meaning.specs.Statement.{exec_form}
use Rattle.zpl_meaning.specs.Statement.{exec_arms, exec_arm, exec_otherwise}
use Rattle.zpl_meaning.specs.Program.{run_routine, call_at}
use Rattle.meaning_runs.specs.Kept.{IsNoShorter, Keeps, AlwaysKeeps, CallsKeep}

-- ---- stores

pub same_store : (store : Store) → IsNoShorter store store
same_store store = record { scalars = omega arith; arrays = omega arith }

pub and_then : (one two three : Store) → IsNoShorter one two → IsNoShorter two three
    → IsNoShorter one three
and_then one two three h k =
    record {
      scalars = omega (arith, h.scalars, k.scalars);
      arrays = omega (arith, h.arrays, k.arrays);
    }

pub with_scalar_keeps : (store : Store) (place : ℕ) (value : ℤ)
    → IsNoShorter store (with_scalar store place value)
with_scalar_keeps store place value =
    record { scalars = omega (arith, length-set store.scalars place value); arrays = omega arith }

with_array_keeps : (store : Store) (place : ℕ) (array : Array)
    → IsNoShorter store (with_array store place array)
with_array_keeps store place array =
    record { scalars = omega arith; arrays = omega (arith, length-set store.arrays place array) }

pub new_scalar_keeps : (store : Store) (value : ℤ) → IsNoShorter store (with_new_scalar store value)
new_scalar_keeps store value = record {
  scalars = omega (arith, length-append store.scalars (value ∷ []));
  arrays = omega arith;
}

pub new_array_keeps : (store : Store) (array : Array)
    → IsNoShorter store (with_new_array store array)
new_array_keeps store array = record {
  scalars = omega arith;
  arrays = omega (arith, length-append store.arrays (array ∷ []));
}

pub cut_back_keeps : (earlier store : Store) → IsNoShorter earlier store
    → IsNoShorter earlier (cut_back earlier store)
cut_back_keeps earlier store h = record {
  scalars = omega (arith, length-take-le (length earlier.scalars) store.scalars h.scalars);
  arrays = omega (arith, length-take-le (length earlier.arrays) store.arrays h.arrays);
}

-- ---- outcomes

value_keeps : {A : Type 0} (computed : Computed A) (store : Store) (line : ℕ)
    (next : A → Outcome) → ((value : A) → Keeps store (next value))
    → Keeps store (with_value computed store line next)
value_keeps (Gives value) store line next h = h value
value_keeps (Traps kind) store line next h = same_store store

then_at_keeps : (store : Store) (ending : End) (first : Outcome) (next : Store → Outcome)
    → Keeps store first → AlwaysKeeps next → Keeps store (then_at ending first next)
then_at_keeps store Done first next h k =
    and_then store first.store (next first.store).store h (k first.store)
then_at_keeps store (Trap kind line) first next h k = h
then_at_keeps store More first next h k = h

then_keeps : (store : Store) (first : Outcome) (next : Store → Outcome) → Keeps store first
    → AlwaysKeeps next → Keeps store (then_do first next)
then_keeps store first next h k = then_at_keeps store first.ending first next h k

choose_keeps : (b : Bool) (one other : Store → Outcome) → AlwaysKeeps one → AlwaysKeeps other
    → AlwaysKeeps (choose b one other)
choose_keeps true one other h k store = h store
choose_keeps false one other h k store = k store

goes_on_keeps : AlwaysKeeps goes_on
goes_on_keeps store = same_store store

tested_keeps : (test : Test) (one other : Store → Outcome) → AlwaysKeeps one → AlwaysKeeps other
    → AlwaysKeeps (tested test one other)
tested_keeps test one other h k store =
    value_keeps (test.value store) store test.line
    (λ value. choose (is_true value) one other store)
    (λ value. choose_keeps (is_true value) one other h k store)

module _ (test : Test) (body : Store → Outcome) (h : AlwaysKeeps body) where
  while_keeps : (n : ℕ) → AlwaysKeeps (while_turns n test body)
  while_keeps zero = tested_keeps test wants_more goes_on (λ s. same_store s) goes_on_keeps
  while_keeps (suc n) =
      tested_keeps test (λ s. then_do (body s) (while_turns n test body)) goes_on
      (λ s. then_keeps s (body s) (while_turns n test body) (h s) (while_keeps n)) goes_on_keeps

  repeat_keeps : (n : ℕ) → AlwaysKeeps (repeat_turns n test body)
  repeat_keeps zero store = same_store store
  repeat_keeps (suc n) store =
      then_keeps store (body store) (tested test goes_on (repeat_turns n test body)) (h store)
      (tested_keeps test goes_on (repeat_turns n test body) goes_on_keeps (repeat_keeps n))

for_keeps : (count : Count) (target : ℕ) (body : Store → Outcome) → AlwaysKeeps body → (n : ℕ)
    (value : ℤ)
    → AlwaysKeeps (for_turns n count (λ value store. with_scalar store target value) body value)
for_keeps count target body h zero value =
    choose_keeps (is_past count value) goes_on wants_more goes_on_keeps (λ s. same_store s)
for_keeps count target body h (suc n) value =
    let set : ℤ → Store → Store = λ value store. with_scalar store target value in
    choose_keeps (is_past count value) goes_on (λ store.
    counting 1 (then_do (body (set value store))
    (for_turns n count set body (next_value count value)))) goes_on_keeps (λ store.
    then_keeps store (body (set value store)) (for_turns n count set body (next_value count value))
    (and_then store (set value store) (body (set value store)).store
    (with_scalar_keeps store target value) (h (set value store)))
    (for_keeps count target body h n (next_value count value)))

for_from_keeps : (n : ℕ) (thing : Option Thing) (start : Start) (body : Store → Outcome)
    → AlwaysKeeps body → AlwaysKeeps (for_from n thing start body)
for_from_keeps n (Some (Scalar place)) start body h =
    choose_keeps (int_lt start.count.by (pos 1)) goes_on
    (for_turns n start.count (λ value store. with_scalar store place value) body start.first)
    goes_on_keeps (for_keeps start.count place body h n start.first)
for_from_keeps n (Some (ArrayAt place home)) start body h = goes_on_keeps
for_from_keeps n (Some (Fixed value)) start body h = goes_on_keeps
for_from_keeps n None start body h = goes_on_keeps

-- ---- the run of a tuple

with_element_keeps : (thing : Option Thing) (t : List ℤ) (value : ℤ) (store : Store)
    → IsNoShorter store (with_element thing t value store)
with_element_keeps (Some (ArrayAt place home)) t value store = with_array_keeps store place _
with_element_keeps (Some (Scalar place)) t value store = same_store store
with_element_keeps (Some (Fixed fixed)) t value store = same_store store
with_element_keeps None t value store = same_store store

module _ (point : Point) (n : ℕ) where
  mutual
    pub point_keeps : (stmt : Stmt) → AlwaysKeeps (point_stmt point n stmt)
    point_keeps (Prefixed at prefixes form) store = point_form_keeps form store

    pub points_keep : (stmts : Stmts) → AlwaysKeeps (point_stmts point n stmts)
    points_keep NoStmt store = same_store store
    points_keep (ThenStmt first rest) store =
        then_keeps store (point_stmt point n first store) (point_stmts point n rest)
        (point_keeps first store) (points_keep rest)

    point_form_keeps : (form : Form) → AlwaysKeeps (point_form point n form)
    point_form_keeps (Assign name op value) store =
        value_keeps (point_value point store (assigned_expr name op value)) store point.line
        (λ new. goes_on (with_element (thing_of point.place.environment name.text) point.tuple new
        store))
        (λ new. with_element_keeps (thing_of point.place.environment name.text) point.tuple new
        store)
    point_form_keeps (Block body) store = points_keep body store
    point_form_keeps (If arms otherwise) store =
        point_arms_keep arms (point_otherwise point n otherwise) (point_otherwise_keeps otherwise)
        store
    point_form_keeps (While test body) store =
        while_keeps (point_test point test) (point_stmts point n body) (points_keep body) n store
    point_form_keeps (Repeat body until test) store =
        repeat_keeps (point_test point test) (point_stmts point n body) (points_keep body) n store
    point_form_keeps (For head body) store = same_store store
    point_form_keeps (Write line items) store = same_store store
    point_form_keeps (Invoke name actuals) store = same_store store
    point_form_keeps (Border kind names) store = same_store store
    point_form_keeps (Return value) store = same_store store

    point_arms_keep : (arms : Arms) (last : Store → Outcome) → AlwaysKeeps last
        → AlwaysKeeps (point_arms point n arms last)
    point_arms_keep NoArm last h store = h store
    point_arms_keep (ThenArm first rest) last h store =
        point_arm_keeps first (point_arms point n rest last) (point_arms_keep rest last h) store

    point_arm_keeps : (arm : Arm) (last : Store → Outcome) → AlwaysKeeps last
        → AlwaysKeeps (point_arm point n arm last)
    point_arm_keeps (Tested own test body) last h store =
        tested_keeps (point_test point test) (point_stmts point n body) last (points_keep body) h
        store

    point_otherwise_keeps : (otherwise : Otherwise)
        → AlwaysKeeps (point_otherwise point n otherwise)
    point_otherwise_keeps NoElse store = same_store store
    point_otherwise_keeps (Else body) store = points_keep body store

-- ---- shattered statements

left_many : (t : List ℤ) (arrays own : List Array)
    → length (all_left_at t arrays own) ≡ length arrays
left_many t [] own = refl
left_many t (array ∷ arrays) [] = refl
left_many t (array ∷ arrays) (left ∷ own) = omega (arith, left_many t arrays own)

merged_keeps : (runs : List Run) (store : Store) → IsNoShorter store (merged store runs)
merged_keeps [] store = same_store store
merged_keeps (run ∷ runs) store =
    let arrays = all_left_at run.tuple store.arrays run.outcome.store.arrays in
    let next : Store = record store { arrays = arrays } in
    and_then store next (merged next runs)
    (record {
      scalars = omega arith;
      arrays = omega (arith, left_many run.tuple store.arrays run.outcome.store.arrays);
    })
    (merged_keeps runs next)

joined_keeps : (ending : End) (store : Store) (runs : List Run)
    → Keeps store (joined ending store runs)
joined_keeps Done store runs = merged_keeps runs store
joined_keeps More store runs = same_store store
joined_keeps (Trap kind line) store runs = same_store store

shattered_at_keeps : (place : Place) (rank : Rank) (over : Over) (line n : ℕ) (form : Form)
    → AlwaysKeeps (shattered_at place rank over line n form)
shattered_at_keeps place rank over line n form store =
    let runs = runs_of (run_at place rank line n form store) (kept_tuples store over) in
    value_keeps (parts_in place rank over form store) store line (λ _. all_runs store runs)
    (λ _. joined_keeps (worst runs) store runs)

shattered_keeps : (place : Place) (line n : ℕ) (form : Form)
    → AlwaysKeeps (shattered place line n form)
shattered_keeps place line n form store =
    let rank : Rank = tests_rank (reach_of place) form in
    shattered_at_keeps place rank (over_at place.currents rank) line n form store

-- ---- statements by themselves

assign_to_keeps : (place : Place) (role : Role) (thing : Option Thing) (value : Expr) (line : ℕ)
    (store : Store) → Keeps store (assign_to place role thing value line store)
assign_to_keeps place role (Some (Scalar target)) value line store =
    value_keeps _ store line _ (λ new. with_scalar_keeps store target new)
assign_to_keeps place role (Some (ArrayAt target home)) value line store =
    value_keeps _ store line _ (λ new. with_array_keeps store target _)
assign_to_keeps place role (Some (Fixed fixed)) value line store = same_store store
assign_to_keeps place role None value line store = same_store store

named_keeps : (place : Place) (name : Name) (op : Option Op) (value : Expr) (line : ℕ)
    (store : Store)
    → Keeps store (assign_to place (Assigned name op) (thing_of place.environment name.text)
    (assigned_expr name op value) line store)
named_keeps place name op value line store =
    assign_to_keeps place (Assigned name op) (thing_of place.environment name.text)
    (assigned_expr name op value) line store

border_keeps : (kind : BorderKind) (edge : Option Edge) (thing : Option Thing) (line : ℕ)
    → AlwaysKeeps (border_thing kind edge thing line)
border_keeps kind (Some edge) (Some (ArrayAt target home)) line store =
    value_keeps _ store line _ (λ new. with_array_keeps store target new)
border_keeps kind (Some edge) (Some (Scalar place)) line store = same_store store
border_keeps kind (Some edge) (Some (Fixed value)) line store = same_store store
border_keeps kind (Some edge) None line store = same_store store
border_keeps kind None thing line store = same_store store

more_borders_keep : (place : Place) (kind : BorderKind) (names : List Name) (line : ℕ)
    → AlwaysKeeps (more_borders place kind names line)
more_borders_keep place kind [] line store = same_store store
more_borders_keep place kind (name ∷ names) line store =
    then_keeps store _ (more_borders place kind names line)
    (border_keeps kind place.edge (thing_of place.environment name.text) line store)
    (more_borders_keep place kind names line)

pub borders_keep : (place : Place) (kind : BorderKind) (names : List Name) (line : ℕ)
    → AlwaysKeeps (borders place kind names line)
borders_keep place kind [] line store = same_store store
borders_keep place kind (name ∷ names) line store =
    then_keeps store _ (more_borders place kind names line)
    (border_keeps kind place.edge (thing_of place.environment name.text) line store)
    (more_borders_keep place kind names line)

with_result_keeps : (thing : Option Thing) (value : ℤ) (store : Store)
    → IsNoShorter store (with_result thing value store)
with_result_keeps (Some (Scalar target)) value store = with_scalar_keeps store target value
with_result_keeps (Some (ArrayAt target home)) value store = same_store store
with_result_keeps (Some (Fixed fixed)) value store = same_store store
with_result_keeps None value store = same_store store

module _ (n : ℕ) (call : Called → Store → Outcome) (calls : CallsKeep call) where
  abbrev within : Place → Context
  within place = record { place = place; call = call }

  answer_keeps : (place : Place) (target : Name) (called : Called) (store : Store)
      → Keeps store (then_do (call called (with_new_scalar store (pos 0))) (λ after.
      goes_on
      (with_result (thing_of place.environment target.text)
      (scalar_at after (length store.scalars)) (cut_back store after))))
  answer_keeps place target called store =
      let first = call called (with_new_scalar store (pos 0)) in
      by first.ending first
      (and_then store (with_new_scalar store (pos 0)) first.store
      (new_scalar_keeps store (pos 0)) (calls called (with_new_scalar store (pos 0))))
    where
      by : (ending : End) (first : Outcome) → Keeps store first
          → Keeps store (then_at ending first (λ after.
          goes_on
          (with_result (thing_of place.environment target.text)
          (scalar_at after (length store.scalars)) (cut_back store after))))
      by Done first h =
          and_then store (cut_back store first.store) _ (cut_back_keeps store first.store h)
          (with_result_keeps (thing_of place.environment target.text)
          (scalar_at first.store (length store.scalars)) (cut_back store first.store))
      by (Trap kind line) first h = h
      by More first h = h

  assign_keeps : (place : Place) (name : Name) (op : Option Op) (value : Expr) (line : ℕ)
      (store : Store) → Keeps store (assign (within place) name op value line store)
  assign_keeps place name None (Call at callee actuals) line store =
      value_keeps (actuals_in place store callee actuals) store line _
      (λ handed. answer_keeps place name _ store)
  assign_keeps place name None (Number at value) line store =
      named_keeps place name None (Number at value) line store
  assign_keeps place name None (Truth at value) line store =
      named_keeps place name None (Truth at value) line store
  assign_keeps place name None (Coord at k) line store =
      named_keeps place name None (Coord at k) line store
  assign_keeps place name None (Named at other) line store =
      named_keeps place name None (Named at other) line store
  assign_keeps place name None (Shifted at other shift) line store =
      named_keeps place name None (Shifted at other shift) line store
  assign_keeps place name None (Around at other shift) line store =
      named_keeps place name None (Around at other shift) line store
  assign_keeps place name None (Remap at other indices) line store =
      named_keeps place name None (Remap at other indices) line store
  assign_keeps place name None (Paren at inside) line store =
      named_keeps place name None (Paren at inside) line store
  assign_keeps place name None (Neg at operand) line store =
      named_keeps place name None (Neg at operand) line store
  assign_keeps place name None (Not at operand) line store =
      named_keeps place name None (Not at operand) line store
  assign_keeps place name None (Abs at operand) line store =
      named_keeps place name None (Abs at operand) line store
  assign_keeps place name None (Pair at op left right) line store =
      named_keeps place name None (Pair at op left right) line store
  assign_keeps place name None (Reduce at operator over operand) line store =
      named_keeps place name None (Reduce at operator over operand) line store
  assign_keeps place name None (Scan at operator along operand) line store =
      named_keeps place name None (Scan at operator along operand) line store
  assign_keeps place name None (Flood at source operand) line store =
      named_keeps place name None (Flood at source operand) line store
  assign_keeps place name (Some op) value line store =
      named_keeps place name (Some op) value line store

  under_keeps : (place : Place) (prefixes : List Prefix) (store : Store)
      (next : Context → Outcome) → ((inner : Place) → Keeps store (next (within inner)))
      → Keeps store (under (within place) prefixes store next)
  under_keeps place [] store next h = h place
  under_keeps place (prefix ∷ prefixes) store next h =
      value_keeps (over_in place store prefix) store (line_of place prefix.at) _ (λ over.
      under_keeps (under_prefix place prefix over) prefixes store next h)

  mutual
    pub exec_keeps : (stmt : Stmt) (place : Place) → AlwaysKeeps (exec (within place) n stmt)
    exec_keeps (Prefixed at prefixes form) place store =
        under_keeps place prefixes store (λ inner. exec_form inner n at form store)
        (λ inner. form_keeps form inner at store)

    pub all_keep : (stmts : Stmts) (place : Place)
        → AlwaysKeeps (exec_all (within place) n stmts)
    all_keep NoStmt place store = same_store store
    all_keep (ThenStmt first rest) place store =
        then_keeps store _ (exec_all (within place) n rest) (exec_keeps first place store)
        (all_keep rest place)

    form_keeps : (form : Form) (place : Place) (at : ℕ)
        → AlwaysKeeps (exec_form (within place) n at form)
    form_keeps (Assign name op value) place at store =
        assign_keeps place name op value (line_of place at) store
    form_keeps (Invoke name actuals) place at store =
        value_keeps (actuals_in place store name actuals) store (line_of place at) _
        (λ handed. calls _ store)
    form_keeps (Block body) place at store = all_keep body place store
    form_keeps (If arms otherwise) place at store =
        choose_keeps (is_split (within place) (If arms otherwise)) _ _
        (shattered_keeps place (line_of place at) n (If arms otherwise))
        (arms_keep arms place at (exec_otherwise (within place) n otherwise)
        (otherwise_keeps otherwise place)) store
    form_keeps (While test body) place at store =
        choose_keeps (is_split (within place) (While test body)) _ _
        (shattered_keeps place (line_of place at) n (While test body))
        (while_keeps (test_of place test at) (exec_all (within place) n body) (all_keep body place)
        n) store
    form_keeps (Repeat body until test) place at store =
        choose_keeps (is_split (within place) (Repeat body until test)) _ _
        (shattered_keeps place (line_of place at) n (Repeat body until test))
        (repeat_keeps (test_of place test until) (exec_all (within place) n body)
        (all_keep body place) n) store
    form_keeps (For head body) place at store =
        value_keeps (head_value place store head) store (line_of place at) _ (λ start.
        for_from_keeps n (thing_of place.environment head.name.text) start
        (exec_all (within place) n body) (all_keep body place) store)
    form_keeps (Border kind names) place at store =
        borders_keep place kind names (line_of place at) store
    form_keeps (Write line items) place at store =
        value_keeps _ store (line_of place at) _ (λ text. same_store store)
    form_keeps (Return value) place at store =
        value_keeps _ store (line_of place at) _
        (λ answer. with_scalar_keeps store place.result answer)

    arms_keep : (arms : Arms) (place : Place) (at : ℕ) (last : Store → Outcome)
        → AlwaysKeeps last → AlwaysKeeps (exec_arms (within place) n at arms last)
    arms_keep NoArm place at last h store = h store
    arms_keep (ThenArm first rest) place at last h store =
        arm_keeps first place at (exec_arms (within place) n (arms_at rest) rest last)
        (arms_keep rest place (arms_at rest) last h) store

    arm_keeps : (arm : Arm) (place : Place) (at : ℕ) (last : Store → Outcome)
        → AlwaysKeeps last → AlwaysKeeps (exec_arm (within place) n at arm last)
    arm_keeps (Tested own test body) place at last h store =
        tested_keeps (test_of place test at) (exec_all (within place) n body) last
        (all_keep body place) h store

    otherwise_keeps : (otherwise : Otherwise) (place : Place)
        → AlwaysKeeps (exec_otherwise (within place) n otherwise)
    otherwise_keeps NoElse place store = same_store store
    otherwise_keeps (Else body) place store = all_keep body place store

-- ---- calls

name_keeps : (known : Known) (borders : List BorderText) (shape : Bracket) (frame : Frame)
    (name : Name) → IsNoShorter frame.store (with_name known borders shape frame name).store
name_keeps known borders NoBracket frame name = new_scalar_keeps frame.store (pos 0)
name_keeps known borders (Bracketed inner) frame name = new_array_keeps frame.store _

names_keep : (known : Known) (borders : List BorderText) (shape : Bracket) (names : List Name)
    (frame : Frame) → IsNoShorter frame.store (with_names known borders shape frame names).store
names_keep known borders shape [] frame = same_store frame.store
names_keep known borders shape (name ∷ names) frame =
    let next = with_name known borders shape frame name in
    and_then frame.store next.store (with_names known borders shape next names).store
    (name_keeps known borders shape frame name) (names_keep known borders shape names next)

variables_keep : (known : Known) (borders : List BorderText) (vars : List VarDef) (frame : Frame)
    → IsNoShorter frame.store (with_variables known borders frame vars).store
variables_keep known borders [] frame = same_store frame.store
variables_keep known borders (var ∷ vars) frame =
    let next = with_names known borders var.shape frame var.names in
    and_then frame.store next.store (with_variables known borders next vars).store
    (names_keep known borders var.shape var.names frame) (variables_keep known borders vars next)

handed_keeps : (frame : Frame) (name : Name) (handed : Handed)
    → IsNoShorter frame.store (with_handed frame name handed).store
handed_keeps frame name (Copied value) = new_scalar_keeps frame.store value
handed_keeps frame name (CopiedArray array home) = new_array_keeps frame.store array
handed_keeps frame name (Referred thing) = same_store frame.store

formals_keep : (formals : List FormalName) (handed : List Handed) (frame : Frame)
    → IsNoShorter frame.store (with_formals frame formals handed).store
formals_keep [] handed frame = same_store frame.store
formals_keep (formal ∷ formals) [] frame = same_store frame.store
formals_keep (formal ∷ formals) (one ∷ rest) frame =
    let next = with_handed frame formal.name one in
    and_then frame.store next.store (with_formals next formals rest).store
    (handed_keeps frame formal.name one) (formals_keep formals rest next)

pub entered_keeps : (setup : Setup) (routine : Routine) (handed : List Handed) (before : Store)
    → IsNoShorter before (entered setup routine handed before).store
entered_keeps setup routine handed before =
    let formals = formal_names routine.procedure.params in
    let empty : Frame = record { names = []; store = before } in
    let next = with_formals empty formals handed in
    and_then before next.store (entered setup routine handed before).store
    (formals_keep formals handed empty)
    (variables_keep setup.known setup.borders routine.procedure.locals next)

routine_keeps : (setup : Setup) (n : ℕ) (call : Called → Store → Outcome) → CallsKeep call
    → (routine : Option Routine) (called : Called)
    → AlwaysKeeps (run_routine setup n call routine called)
routine_keeps setup n call calls None called store = same_store store
routine_keeps setup n call calls (Some routine) called store =
    let frame = entered setup routine called.actuals store in
    let place = place_in setup routine called frame in
    let context : Context = record { place = place; call = call } in
    let after = (exec context n routine.procedure.body frame.store).store in
    cut_back_keeps store after
    (and_then store frame.store after (entered_keeps setup routine called.actuals store)
    (exec_keeps n call calls routine.procedure.body place frame.store))

pub calls_keep : (setup : Setup) (n deeper : ℕ) → CallsKeep (call_at setup n deeper)
calls_keep setup n zero called store = same_store store
calls_keep setup n (suc deeper) called store =
    routine_keeps setup n (call_at setup n deeper) (calls_keep setup n deeper)
    (routine_named setup.program called.name) called store

-- a call whose answer is taken, when what it added is cut off
pub answers_keep : (setup : Setup) (n deeper : ℕ) (called : Called) (store : Store)
    → IsNoShorter store
    (cut_back store (call_at setup n deeper called (with_new_scalar store (pos 0))).store)
answers_keep setup n deeper called store =
    let before = with_new_scalar store (pos 0) in
    let after = (call_at setup n deeper called before).store in
    cut_back_keeps store after
    (and_then store before after (new_scalar_keeps store (pos 0))
    (calls_keep setup n deeper called before))
