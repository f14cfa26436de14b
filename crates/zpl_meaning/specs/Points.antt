-- Shattered statements: an `if`, a `while` or a `repeat` whose tests are arrays. It is one
-- statement. Its mask is read once, and then each tuple that isn't masked out runs all of it by
-- itself, on its own values.
use Rattle.std.specs.Prelude.{ℕ, Bool, true, false, ◌&&◌, ℤ, List, [], ◌∷◌, ◌++◌, map, filter}
use Rattle.std.specs.Prelude.{Option, Some, None}
use Rattle.zpl_binding.specs.of_zpl_nums.declared.operators.Op.{Op}
use Rattle.zpl_binding.specs.of_zpl_nums.declared.ends.End.{End}
use Rattle.zpl_binding.specs.of_zpl_nums.declared.ends.End.TheVariants.{Done, Trap, More}
use Rattle.zpl_binding.specs.of_zpl_region.declared.regions.Region.{Region}
use Rattle.zpl_binding.specs.of_zpl_region.Region.{members}
use Rattle.zpl_binding.specs.of_zpl_region.Hull.{all_from}
use Rattle.zpl_binding.specs.of_zpl_arrays.Array.{Array, element, has_place, updated}
use Rattle.zpl_binding.specs.of_zpl_tree.Syntax.{Name, Expr, Named, Pair, Stmt, Prefixed, Stmts, NoStmt, ThenStmt}
use Rattle.zpl_binding.specs.of_zpl_tree.Syntax.{Form, Assign, Invoke, Block, If, While, Repeat, For, Border, Write}
use Rattle.zpl_binding.specs.of_zpl_tree.Syntax.{Return, Arm, Tested, Arms, NoArm, ThenArm, Otherwise, NoElse, Else}
use Rattle.zpl_binding.specs.of_zpl_names.Kinds.{Rank}
use Rattle.zpl_binding.specs.of_zpl_names.Sites.{tests_rank}
use Rattle.zpl_binding.specs.of_zpl_names.Counts.{form_nodes}
use Rattle.zpl_meaning.specs.Computed.{Computed, computed_then}
use Rattle.zpl_meaning.specs.Store.{Thing, ArrayAt, Store, thing_of, array_at, with_array}
use Rattle.zpl_meaning.specs.Context.{Over, over_at, Place, reach_of}
use Rattle.zpl_meaning.specs.Settled.{Placed, settled}
use Rattle.zpl_meaning.specs.Checks.{is_within, has_mask_within}
use Rattle.zpl_meaning.specs.Fields.{Field, is_kept_in, field_of}
use Rattle.zpl_meaning.specs.Phases.{fields_in}
use Rattle.zpl_meaning.specs.Outcome.{Outcome, ends, goes_on, counting, then_do, with_value, Test}
use Rattle.zpl_meaning.specs.Outcome.{tested, wants_more, while_turns, repeat_turns}

-- an assignment with an operator takes the variable as the left operand
abbrev pub assigned_expr : Name → Option Op → Expr → Expr
assigned_expr name None value = value
assigned_expr name (Some op) value = Pair name.at op (Named name.at name) value

-- ---- what is read and written in a statement

pub data Part : Type 0 where
  Reads : (expr : Expr) → Part
  Writes : (name : Name) → Part

abbrev mutual
  pub stmt_parts : Stmt → List Part
  stmt_parts (Prefixed at prefixes form) = form_parts form

  pub stmts_parts : Stmts → List Part
  stmts_parts NoStmt = []
  stmts_parts (ThenStmt first rest) = stmt_parts first ++ stmts_parts rest

  pub form_parts : Form → List Part
  form_parts (Assign name op value) = Writes name ∷ Reads value ∷ []
  form_parts (Block body) = stmts_parts body
  form_parts (If arms otherwise) = arms_parts arms ++ otherwise_parts otherwise
  form_parts (While test body) = Reads test ∷ stmts_parts body
  form_parts (Repeat body until test) = stmts_parts body ++ Reads test ∷ []
  -- no accepted program has these in a shattered statement
  form_parts (Invoke name actuals) = []
  form_parts (For head body) = []
  form_parts (Border kind names) = []
  form_parts (Write line items) = []
  form_parts (Return value) = []

  pub arms_parts : Arms → List Part
  arms_parts NoArm = []
  arms_parts (ThenArm first rest) = arm_parts first ++ arms_parts rest

  pub arm_parts : Arm → List Part
  arm_parts (Tested at test body) = Reads test ∷ stmts_parts body

  pub otherwise_parts : Otherwise → List Part
  otherwise_parts NoElse = []
  otherwise_parts (Else body) = stmts_parts body

-- the expressions, as those of a rank
abbrev pub exprs_read : Rank → List Part → List Placed
exprs_read rank [] = []
exprs_read rank (Reads expr ∷ parts) =
    record { rank = rank; expr = expr } ∷ exprs_read rank parts
exprs_read rank (Writes name ∷ parts) = exprs_read rank parts

-- the arrays that are written lie around the region
abbrev pub is_target_within : Store → Region → Option Thing → Bool
is_target_within store region (Some (ArrayAt place home)) = is_within store region place
is_target_within store region thing = true

abbrev pub are_targets_within : Place → Store → Region → List Part → Bool
are_targets_within place store region [] = true
are_targets_within place store region (Reads expr ∷ parts) =
    are_targets_within place store region parts
are_targets_within place store region (Writes name ∷ parts) =
    is_target_within store region (thing_of place.environment name.text)
    && are_targets_within place store region parts

-- ---- the run of one tuple

-- What a tuple has of the store: of each array its own value. Arrays of another rank are cut too,
-- and get their own value back; no accepted program reads or writes one here.
abbrev pub cut : List ℤ → Array → Array
cut t array = record {
  storage = record { rank = array.storage.rank; dims = map (λ x. all_from x x) t };
  values = element array t ∷ [];
}

abbrev pub at_tuple : List ℤ → Store → Store
at_tuple t store = record store { arrays = map (cut t) store.arrays }

-- a tuple that runs a statement of a rank; the line is that of the whole statement
pub record Point : Type 0 where
  pub place : Place
  pub rank : Rank
  pub tuple : List ℤ
  pub line : ℕ

abbrev pub point_value : Point → Store → Expr → Computed ℤ
point_value point store expr =
    computed_then (settled point.place store point.rank expr) (λ term.
    computed_then (field_of store term) (λ field. field point.tuple))

abbrev pub point_test : Point → Expr → Test
point_test point expr = record {
  value = λ store. point_value point store expr;
  line = point.line;
  steps = 0;
}

abbrev pub with_element : Option Thing → List ℤ → ℤ → Store → Store
with_element (Some (ArrayAt place home)) t value store =
    with_array store place (updated (array_at store place) t value)
with_element thing t value store = store

abbrev pub point_assign : Point → Name → Expr → Store → Outcome
point_assign point name value store =
    with_value (point_value point store value) store point.line (λ new.
    goes_on (with_element (thing_of point.place.environment name.text) point.tuple new store))

abbrev mutual
  pub point_stmt : Point → ℕ → Stmt → Store → Outcome
  point_stmt point n (Prefixed at prefixes form) store = point_form point n form store

  pub point_stmts : Point → ℕ → Stmts → Store → Outcome
  point_stmts point n NoStmt store = goes_on store
  point_stmts point n (ThenStmt first rest) store =
      then_do (point_stmt point n first store) (point_stmts point n rest)

  pub point_form : Point → ℕ → Form → Store → Outcome
  point_form point n (Assign name op value) store =
      point_assign point name (assigned_expr name op value) store
  point_form point n (Block body) store = point_stmts point n body store
  point_form point n (If arms otherwise) store =
      point_arms point n arms (point_otherwise point n otherwise) store
  point_form point n (While test body) store =
      while_turns n (point_test point test) (point_stmts point n body) store
  point_form point n (Repeat body until test) store =
      repeat_turns n (point_test point test) (point_stmts point n body) store
  -- no accepted program has these in a shattered statement
  point_form point n (Invoke name actuals) store = goes_on store
  point_form point n (For head body) store = goes_on store
  point_form point n (Border kind names) store = goes_on store
  point_form point n (Write line items) store = goes_on store
  point_form point n (Return value) store = goes_on store

  pub point_arms : Point → ℕ → Arms → (Store → Outcome) → Store → Outcome
  point_arms point n NoArm last store = last store
  point_arms point n (ThenArm first rest) last store =
      point_arm point n first (point_arms point n rest last) store

  pub point_arm : Point → ℕ → Arm → (Store → Outcome) → Store → Outcome
  point_arm point n (Tested at test body) last store =
      tested (point_test point test) (point_stmts point n body) last store

  pub point_otherwise : Point → ℕ → Otherwise → Store → Outcome
  point_otherwise point n NoElse store = goes_on store
  point_otherwise point n (Else body) store = point_stmts point n body store

-- ---- all tuples

-- a tuple, and the outcome of its run
pub record Run : Type 0 where
  pub tuple : List ℤ
  pub outcome : Outcome

-- more turns are wanted where any tuple wants more; else there is a trap where any traps
abbrev pub worse : End → End → End
worse Done other = other
worse More other = More
worse (Trap kind line) More = More
worse (Trap kind line) Done = Trap kind line
worse (Trap kind line) (Trap other at) = Trap kind line

abbrev pub worst : List Run → End
worst [] = Done
worst (run ∷ runs) = worse run.outcome.ending (worst runs)

-- an array with what it is at a tuple, if that has a place in it
abbrev pub left_at : Bool → Array → List ℤ → ℤ → Array
left_at true array t value = updated array t value
left_at false array t value = array

abbrev pub all_left_at : List ℤ → List Array → List Array → List Array
all_left_at t [] own = []
all_left_at t (array ∷ arrays) [] = array ∷ arrays
all_left_at t (array ∷ arrays) (left ∷ own) =
    left_at (has_place array.storage t) array t (element left t) ∷ all_left_at t arrays own

-- the store with what each run has left at its tuple
abbrev pub merged : Store → List Run → Store
merged store [] = store
merged store (run ∷ runs) =
    merged
    (record store { arrays = all_left_at run.tuple store.arrays run.outcome.store.arrays }) runs

-- all writes where all runs go on, and none else
abbrev pub joined : End → Store → List Run → Outcome
joined Done store runs = goes_on (merged store runs)
joined More store runs = wants_more store
joined (Trap kind line) store runs = ends store (Trap kind line)

-- the tuples that aren't masked out
abbrev pub kept_tuples : Store → Over → List (List ℤ)
kept_tuples store over = filter (is_kept_in store over) (members over.region)

-- a tuple's run of the whole statement, on its own values
abbrev pub run_at : Place → Rank → ℕ → ℕ → Form → Store → List ℤ → Outcome
run_at place rank line n form store t =
    point_form (record { place = place; rank = rank; tuple = t; line = line }) n form
    (at_tuple t store)

abbrev pub runs_of : (List ℤ → Outcome) → List (List ℤ) → List Run
runs_of outcome tuples = map (λ t. record { tuple = t; outcome = outcome t }) tuples

abbrev pub all_runs : Store → List Run → Outcome
all_runs store runs = joined (worst runs) store runs

-- its regions, conformity and references, as those of any statement
abbrev pub parts_in : Place → Rank → Over → Form → Store → Computed (List Field)
parts_in place rank over form store =
    let parts = form_parts form in
    let own =
    are_targets_within place store over.region parts && has_mask_within store over in
    fields_in place store own (exprs_read rank parts)

-- The statement: these first, and then all runs. All its nodes count.
abbrev pub shattered_at : Place → Rank → Over → ℕ → ℕ → Form → Store → Outcome
shattered_at place rank over line n form store =
    counting (form_nodes form)
    (with_value (parts_in place rank over form store) store line (λ _.
    all_runs store (runs_of (run_at place rank line n form store) (kept_tuples store over))))

abbrev pub shattered : Place → ℕ → ℕ → Form → Store → Outcome
shattered place line n form store =
    let rank = tests_rank (reach_of place) form in
    shattered_at place rank (over_at place.currents rank) line n form store
