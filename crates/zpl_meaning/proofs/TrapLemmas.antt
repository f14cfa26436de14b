-- A statement that traps writes and prints nothing of itself, and the trap has its line.
use Rattle.std.proofs.Common.{◌≡◌, ℕ, zero, suc, Bool, true, false, ℤ, List, [], ◌∷◌, Option, Some}
use Rattle.std.proofs.Common.{None, refl, sym, subst, ap}
use Rattle.zpl_binding.specs.of_zpl_nums.Integer.{is_true}
use Rattle.zpl_binding.specs.of_zpl_nums.declared.operators.Op.{Op}
use Rattle.zpl_binding.specs.of_zpl_nums.declared.ends.End.{End}
use Rattle.zpl_binding.specs.of_zpl_nums.declared.ends.End.TheVariants.{Done, Trap, More}
use Rattle.zpl_binding.specs.of_zpl_nums.declared.ends.Border.{Border as BorderKind}
use Rattle.zpl_binding.specs.of_zpl_nums.declared.ends.TrapKind.{TrapKind}
use Rattle.zpl_binding.specs.of_zpl_tree.Syntax.{Name, Expr, Number, Truth, Coord, Named, Shifted, Around, Remap}
use Rattle.zpl_binding.specs.of_zpl_tree.Syntax.{Call, Paren, Neg, Not, Abs, Pair, Reduce, Scan, Flood}
use Rattle.zpl_binding.specs.of_zpl_tree.Syntax.{Stmt, Prefixed, Stmts, NoStmt, ThenStmt, Form}
use Rattle.zpl_binding.specs.of_zpl_tree.Syntax.{Assign, Invoke, Block, If, While, Repeat, For, Border, Write}
use Rattle.zpl_binding.specs.of_zpl_tree.Syntax.{Return, Arm, Tested, Arms, NoArm, ThenArm, Otherwise, NoElse, Else}
use Rattle.zpl_binding.specs.of_zpl_names.Kinds.{Rank}
use Rattle.zpl_binding.specs.of_zpl_names.Sites.{Role, Assigned, tests_rank}
use Rattle.zpl_meaning.specs.Computed.{Computed, Gives, Traps}
use Rattle.zpl_meaning.specs.Store.{Thing, Scalar, ArrayAt, Fixed, Store, thing_of}
use Rattle.zpl_meaning.specs.Context.{Over, Edge, Place, over_at, reach_of}
use Rattle.zpl_meaning.specs.Outcome.{Outcome, ends, goes_on, wants_more, counting, then_at}
use Rattle.zpl_meaning.specs.Outcome.{then_do, with_value, choose, Test, tested, while_turns}
use Rattle.zpl_meaning.specs.Outcome.{repeat_turns}
use Rattle.zpl_meaning.specs.Points.{assigned_expr, Point, point_value, point_test, with_element}
use Rattle.zpl_meaning.specs.Points.{point_stmt, point_stmts, point_form, point_arms, point_arm}
use Rattle.zpl_meaning.specs.Points.{point_otherwise, Run, worse, worst, joined, kept_tuples, run_at}
use Rattle.zpl_meaning.specs.Points.{runs_of, all_runs, at_tuple, parts_in, shattered_at, shattered}
use Rattle.zpl_meaning.specs.Statement.{Context, line_of, assign_to}
use Rattle.zpl_meaning.specs.Statement.{assign, border_thing, borders}
use Rattle.zpl_meaning.specs.Statement.{exec_form, is_split}
use Rattle.zpl_meaning.specs.Single.{HasNoCall, IsOneName, IsSingle, HasTrapped}

-- where it traps, it has trapped so
abbrev pub IsAtomic : Store → ℕ → Outcome → Type 0
IsAtomic store line outcome =
    (kind : TrapKind) (at : ℕ) → outcome.ending ≡ Trap kind at → HasTrapped store line outcome at

done_is_no_trap : {A : Type 0} (kind : TrapKind) (at : ℕ) → Done ≡ Trap kind at → A
done_is_no_trap kind at e = cc

more_is_no_trap : {A : Type 0} (kind : TrapKind) (at : ℕ) → More ≡ Trap kind at → A
more_is_no_trap kind at e = cc

same_line : (kind other : TrapKind) (line at : ℕ) → Trap kind line ≡ Trap other at → at ≡ line
same_line kind other line at e = let same : line ≡ at = cc in sym same

atomic_goes_on : (store after : Store) (line : ℕ) → IsAtomic store line (goes_on after)
atomic_goes_on store after line kind at e = done_is_no_trap kind at e

atomic_with_value : {A : Type 0} (computed : Computed A) (store : Store) (line : ℕ)
    (next : A → Outcome) → ((value : A) → IsAtomic store line (next value))
    → IsAtomic store line (with_value computed store line next)
atomic_with_value (Gives value) store line next h kind at e = h value kind at e
atomic_with_value (Traps trap) store line next h kind at e =
    record { kept = refl; nothing = refl; there = same_line trap kind line at e }

atomic_counting : (store : Store) (line steps : ℕ) (outcome : Outcome)
    → IsAtomic store line outcome → IsAtomic store line (counting steps outcome)
atomic_counting store line steps outcome h kind at e =
    let t = h kind at e in record { kept = t.kept; nothing = t.nothing; there = t.there }

-- ---- assignments

atomic_assign_to : (place : Place) (role : Role) (thing : Option Thing) (value : Expr) (line : ℕ)
    (store : Store) → IsAtomic store line (assign_to place role thing value line store)
atomic_assign_to place role (Some (Scalar target)) value line store =
    atomic_with_value _ store line _ (λ new. atomic_goes_on store _ line)
atomic_assign_to place role (Some (ArrayAt target home)) value line store =
    atomic_with_value _ store line _ (λ new. atomic_goes_on store _ line)
atomic_assign_to place role (Some (Fixed value)) expr line store = atomic_goes_on store store line
atomic_assign_to place role None value line store = atomic_goes_on store store line

module _ (context : Context) where
  -- it isn't one of a call
  IsPlain : Name → Option Op → Expr → ℕ → Store → Type 0
  IsPlain name op value line store =
      assign context name op value line store
      ≡ assign_to context.place (Assigned name op)
      (thing_of context.place.environment name.text) (assigned_expr name op value) line store

  plain_assign : (name : Name) (op : Option Op) (value : Expr) (line : ℕ) (store : Store)
      → HasNoCall op value → IsPlain name op value line store
  unfolding IsPlain
  plain_assign name None (Call at callee actuals) line store h = absurd h
  plain_assign name None (Number at value) line store h = refl
  plain_assign name None (Truth at value) line store h = refl
  plain_assign name None (Coord at k) line store h = refl
  plain_assign name None (Named at other) line store h = refl
  plain_assign name None (Shifted at other shift) line store h = refl
  plain_assign name None (Around at other shift) line store h = refl
  plain_assign name None (Remap at other indices) line store h = refl
  plain_assign name None (Paren at inside) line store h = refl
  plain_assign name None (Neg at operand) line store h = refl
  plain_assign name None (Not at operand) line store h = refl
  plain_assign name None (Abs at operand) line store h = refl
  plain_assign name None (Pair at op left right) line store h = refl
  plain_assign name None (Reduce at operator over operand) line store h = refl
  plain_assign name None (Scan at operator along operand) line store h = refl
  plain_assign name None (Flood at source operand) line store h = refl
  plain_assign name (Some op) value line store h = refl

  atomic_assign : (name : Name) (op : Option Op) (value : Expr) (line : ℕ) (store : Store)
      → HasNoCall op value → IsAtomic store line (assign context name op value line store)
  unfolding IsPlain
  atomic_assign name op value line store h =
      subst (IsAtomic store line) (sym (plain_assign name op value line store h))
      (atomic_assign_to context.place (Assigned name op)
      (thing_of context.place.environment name.text) (assigned_expr name op value) line store)

-- ---- borders

atomic_border : (kind : BorderKind) (edge : Option Edge) (thing : Option Thing) (line : ℕ)
    (store : Store) → IsAtomic store line (border_thing kind edge thing line store)
atomic_border kind (Some edge) (Some (ArrayAt target home)) line store =
    atomic_with_value _ store line _ (λ new. atomic_goes_on store _ line)
atomic_border kind (Some edge) (Some (Scalar place)) line store = atomic_goes_on store store line
atomic_border kind (Some edge) (Some (Fixed value)) line store = atomic_goes_on store store line
atomic_border kind (Some edge) None line store = atomic_goes_on store store line
atomic_border kind None thing line store = atomic_goes_on store store line

-- with nothing behind it
atomic_alone : (store : Store) (line : ℕ) (ending : End) (outcome : Outcome)
    → outcome.ending ≡ ending → IsAtomic store line outcome
    → IsAtomic store line (then_at ending outcome goes_on)
atomic_alone store line Done outcome is h kind at e = done_is_no_trap kind at e
atomic_alone store line (Trap trap there) outcome is h kind at e = h kind at e
atomic_alone store line More outcome is h kind at e = h kind at e

atomic_borders : (place : Place) (kind : BorderKind) (names : List Name) (line : ℕ) (store : Store)
    → IsOneName names → IsAtomic store line (borders place kind names line store)
atomic_borders place kind [] line store h = atomic_goes_on store store line
atomic_borders place kind (name ∷ []) line store h =
    let outcome =
    border_thing kind place.edge (thing_of place.environment name.text) line store in
    atomic_alone store line outcome.ending outcome refl
    (atomic_border kind place.edge (thing_of place.environment name.text) line store)
atomic_borders place kind (name ∷ other ∷ names) line store h = absurd h

-- ---- shattered statements: each trap of a tuple's run has the line of the whole statement

abbrev TrapsAt : ℕ → Outcome → Type 0
TrapsAt line outcome = (kind : TrapKind) (at : ℕ) → outcome.ending ≡ Trap kind at → at ≡ line

traps_with_value : {A : Type 0} (computed : Computed A) (store : Store) (line : ℕ)
    (next : A → Outcome) → ((value : A) → TrapsAt line (next value))
    → TrapsAt line (with_value computed store line next)
traps_with_value (Gives value) store line next h kind at e = h value kind at e
traps_with_value (Traps trap) store line next h kind at e = same_line trap kind line at e

module _ (line : ℕ) where
  traps_then_at : (ending : End) (first : Outcome) (next : Store → Outcome)
      → TrapsAt line first → ((store : Store) → TrapsAt line (next store))
      → TrapsAt line (then_at ending first next)
  traps_then_at Done first next f g = g first.store
  traps_then_at (Trap kind there) first next f g = f
  traps_then_at More first next f g = f

  traps_choose : (b : Bool) (one other : Store → Outcome) (store : Store)
      → ((store : Store) → TrapsAt line (one store))
      → ((store : Store) → TrapsAt line (other store))
      → TrapsAt line (choose b one other store)
  traps_choose true one other store f g = f store
  traps_choose false one other store f g = g store

  traps_goes_on : (store : Store) → TrapsAt line (goes_on store)
  traps_goes_on store kind at e = done_is_no_trap kind at e

  traps_more : (store : Store) → TrapsAt line (wants_more store)
  traps_more store kind at e = more_is_no_trap kind at e

  module _ (test : Test) (same : test.line ≡ line) where
    traps_tested : (one other : Store → Outcome) → ((store : Store) → TrapsAt line (one store))
        → ((store : Store) → TrapsAt line (other store))
        → (store : Store) → TrapsAt line (tested test one other store)
    traps_tested one other f g store =
        subst (λ there. TrapsAt line (with_value (test.value store) store there
        (λ value. choose (is_true value) one other store))) (sym same)
        (traps_with_value (test.value store) store line
        (λ value. choose (is_true value) one other store)
        (λ value. traps_choose (is_true value) one other store f g))

    traps_while : (n : ℕ) (body : Store → Outcome)
        → ((store : Store) → TrapsAt line (body store))
        → (store : Store) → TrapsAt line (while_turns n test body store)
    traps_while zero body h = traps_tested wants_more goes_on traps_more traps_goes_on
    traps_while (suc n) body h =
        traps_tested (λ store. then_do (body store) (while_turns n test body)) goes_on
        (λ store. traps_then_at (body store).ending (body store) (while_turns n test body) (h store)
        (traps_while n body h)) traps_goes_on

    traps_repeat : (n : ℕ) (body : Store → Outcome)
        → ((store : Store) → TrapsAt line (body store))
        → (store : Store) → TrapsAt line (repeat_turns n test body store)
    traps_repeat zero body h store = traps_more store
    traps_repeat (suc n) body h store =
        traps_then_at (body store).ending (body store)
        (tested test goes_on (repeat_turns n test body)) (h store)
        (traps_tested goes_on (repeat_turns n test body) traps_goes_on (traps_repeat n body h))

module _ (point : Point) (n : ℕ) where
  mutual
    traps_stmt : (stmt : Stmt) (store : Store)
        → TrapsAt point.line (point_stmt point n stmt store)
    traps_stmt (Prefixed at prefixes form) store = traps_form form store

    traps_stmts : (stmts : Stmts) (store : Store)
        → TrapsAt point.line (point_stmts point n stmts store)
    traps_stmts NoStmt store = traps_goes_on point.line store
    traps_stmts (ThenStmt first rest) store =
        traps_then_at point.line (point_stmt point n first store).ending _ _
        (traps_stmt first store) (traps_stmts rest)

    traps_form : (form : Form) (store : Store)
        → TrapsAt point.line (point_form point n form store)
    traps_form (Assign name op value) store =
        traps_with_value (point_value point store (assigned_expr name op value)) store point.line
        (λ new. goes_on (with_element (thing_of point.place.environment name.text) point.tuple new
        store)) (λ new. traps_goes_on point.line
        (with_element (thing_of point.place.environment name.text) point.tuple new store))
    traps_form (Block body) store = traps_stmts body store
    traps_form (If arms otherwise) store =
        traps_arms arms (point_otherwise point n otherwise) (traps_otherwise otherwise) store
    traps_form (While test body) store =
        traps_while point.line (point_test point test) refl n (point_stmts point n body)
        (traps_stmts body) store
    traps_form (Repeat body until test) store =
        traps_repeat point.line (point_test point test) refl n (point_stmts point n body)
        (traps_stmts body) store
    traps_form (For head body) store = traps_goes_on point.line store
    traps_form (Write line items) store = traps_goes_on point.line store
    traps_form (Invoke name actuals) store = traps_goes_on point.line store
    traps_form (Border kind names) store = traps_goes_on point.line store
    traps_form (Return value) store = traps_goes_on point.line store

    traps_arms : (arms : Arms) (last : Store → Outcome)
        → ((store : Store) → TrapsAt point.line (last store)) → (store : Store)
        → TrapsAt point.line (point_arms point n arms last store)
    traps_arms NoArm last h store = h store
    traps_arms (ThenArm first rest) last h store =
        traps_arm first (point_arms point n rest last) (traps_arms rest last h) store

    traps_arm : (arm : Arm) (last : Store → Outcome)
        → ((store : Store) → TrapsAt point.line (last store)) → (store : Store)
        → TrapsAt point.line (point_arm point n arm last store)
    traps_arm (Tested own test body) last h store =
        traps_tested point.line (point_test point test) refl (point_stmts point n body) last
        (traps_stmts body) h store

    traps_otherwise : (otherwise : Otherwise) (store : Store)
        → TrapsAt point.line (point_otherwise point n otherwise store)
    traps_otherwise NoElse store = traps_goes_on point.line store
    traps_otherwise (Else body) store = traps_stmts body store

-- the worst ending is that of some run, where it is a trap
EndsAt : ℕ → End → Type 0
EndsAt line ending = (kind : TrapKind) (at : ℕ) → ending ≡ Trap kind at → at ≡ line

worse_at : (line : ℕ) (one other : End) → EndsAt line one → EndsAt line other
    → EndsAt line (worse one other)
unfolding EndsAt
worse_at line Done other f g = g
worse_at line More other f g = f
worse_at line (Trap kind there) More f g = g
worse_at line (Trap kind there) Done f g = f
worse_at line (Trap kind there) (Trap next at) f g = f

worst_at : (line : ℕ) (outcome : List ℤ → Outcome) (tuples : List (List ℤ))
    → ((t : List ℤ) → TrapsAt line (outcome t)) → EndsAt line (worst (runs_of outcome tuples))
unfolding EndsAt
worst_at line outcome [] h kind at e = done_is_no_trap kind at e
worst_at line outcome (t ∷ tuples) h kind at e =
    worse_at line (outcome t).ending (worst (runs_of outcome tuples)) (h t)
    (worst_at line outcome tuples h) kind at e

atomic_joined : (store : Store) (line : ℕ) (ending : End) (runs : List Run) → EndsAt line ending
    → IsAtomic store line (joined ending store runs)
unfolding EndsAt
atomic_joined store line Done runs h kind at e = done_is_no_trap kind at e
atomic_joined store line More runs h kind at e = more_is_no_trap kind at e
atomic_joined store line (Trap trap there) runs h kind at e =
    record { kept = refl; nothing = refl; there = h kind at e }

atomic_shattered_at : (place : Place) (rank : Rank) (over : Over) (line n : ℕ) (form : Form)
    (store : Store) → IsAtomic store line (shattered_at place rank over line n form store)
atomic_shattered_at place rank over line n form store =
    let run = run_at place rank line n form store in
    let tuples = kept_tuples store over in
    atomic_counting store line _ _
    (atomic_with_value (parts_in place rank over form store) store line
    (λ _. all_runs store (runs_of run tuples))
    (λ _. atomic_joined store line (worst (runs_of run tuples)) (runs_of run tuples)
    (worst_at line run tuples (λ t.
    traps_form (record { place = place; rank = rank; tuple = t; line = line }) n form
    (at_tuple t store)))))

atomic_shattered : (place : Place) (line n : ℕ) (form : Form) (store : Store)
    → IsAtomic store line (shattered place line n form store)
atomic_shattered place line n form store =
    let rank : Rank = tests_rank (reach_of place) form in
    atomic_shattered_at place rank (over_at place.currents rank) line n form store

atomic_chosen : (b : Bool) (one other : Store → Outcome) (store : Store) (line : ℕ) → b ≡ true
    → IsAtomic store line (one store) → IsAtomic store line (choose b one other store)
atomic_chosen true one other store line e h = h
atomic_chosen false one other store line e h = cc

-- ---- statements
pub single_traps : (context : Context) (n at : ℕ) (form : Form) (store : Store)
    → IsSingle context form
    → IsAtomic store (line_of context.place at) (exec_form context n at form store)
single_traps context n at (Assign name op value) store h =
    atomic_assign context name op value (line_of context.place at) store h
single_traps context n at (Write line items) store h =
    atomic_with_value _ store (line_of context.place at) _ (λ text kind there e.
    done_is_no_trap kind there e)
single_traps context n at (Border kind names) store h =
    atomic_borders context.place kind names (line_of context.place at) store h
single_traps context n at (Return value) store h =
    atomic_with_value _ store (line_of context.place at) _ (λ answer.
    atomic_goes_on store _ (line_of context.place at))
single_traps context n at (If arms otherwise) store h =
    atomic_chosen (is_split context (If arms otherwise)) _ _ store (line_of context.place at) h
    (atomic_shattered context.place (line_of context.place at) n (If arms otherwise) store)
single_traps context n at (While test body) store h =
    atomic_chosen (is_split context (While test body)) _ _ store (line_of context.place at) h
    (atomic_shattered context.place (line_of context.place at) n (While test body) store)
single_traps context n at (Repeat body until test) store h =
    atomic_chosen (is_split context (Repeat body until test)) _ _ store (line_of context.place at) h
    (atomic_shattered context.place (line_of context.place at) n (Repeat body until test) store)
single_traps context n at (Invoke name actuals) store h = absurd h
single_traps context n at (Block body) store h = absurd h
single_traps context n at (For head body) store h = absurd h

-- ---- what is evaluated around other statements
pub trapped : {A : Type 0} (computed : Computed A) (store : Store) (line : ℕ) (next : A → Outcome)
    (kind : TrapKind) → computed ≡ Traps kind
    → with_value computed store line next ≡ ends store (Trap kind line)
trapped computed store line next kind e = ap (λ c. with_value c store line next) e
