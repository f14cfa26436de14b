-- A greater bound on the turns of loops prints more, and changes no run that has ended.
use Rattle.std.proofs.Common.{◌≡◌, ◌≢◌, ℕ, zero, suc, ◌≤◌, ◌⊎◌, Bool, true, false, ℤ, pos, int_lt}
use Rattle.std.proofs.Common.{List, [], ◌∷◌, ◌++◌, Option, Some, None, refl, sym, ◌∙◌, ap}
use Rattle.std.proofs.Common.{subst, inl, inr, arith, append_assoc}
use Rattle.std.proofs.lemmas.List.{append-nil}
use Rattle.zpl_lists.specs.Front.{IsFrontOf}
use Rattle.zpl_binding.specs.of_zpl_nums.declared.ends.End.{End}
use Rattle.zpl_binding.specs.of_zpl_nums.declared.ends.End.TheVariants.{Done, Trap, More}
use Rattle.zpl_binding.specs.of_zpl_nums.Integer.{is_true}
use Rattle.zpl_binding.specs.of_zpl_nums.declared.operators.Op.{Op}
use Rattle.zpl_binding.specs.of_zpl_tree.Syntax.{Name, Expr, Number, Truth, Coord, Named, Shifted, Around, Remap}
use Rattle.zpl_binding.specs.of_zpl_tree.Syntax.{Call, Paren, Neg, Not, Abs, Pair, Reduce, Scan, Flood, Exprs}
use Rattle.zpl_binding.specs.of_zpl_tree.Syntax.{Prefix, Program, Stmt, Prefixed, Stmts, NoStmt, ThenStmt, Form}
use Rattle.zpl_binding.specs.of_zpl_tree.Syntax.{Assign, Invoke, Block, If, While, Repeat, For, Border, Write}
use Rattle.zpl_binding.specs.of_zpl_tree.Syntax.{Return, Arm, Tested, Arms, NoArm, ThenArm, Otherwise, NoElse, Else}
use Rattle.zpl_binding.specs.of_zpl_names.Kinds.{Rank}
use Rattle.zpl_binding.specs.of_zpl_names.Sites.{tests_rank}
use Rattle.zpl_binding.specs.of_zpl_names.Declared.{Routine, routine_named}
use Rattle.zpl_binding.specs.of_zpl_names.Reached.{longest_chain}
use Rattle.zpl_binding.specs.Settings.{Setting}
use Rattle.zpl_binding.specs.Declarations.{known_of}
use Rattle.zpl_binding.specs.Regions.{Known}
use Rattle.zpl_binding.specs.Storages.{Border as BorderText, borders_of}
use Rattle.zpl_meaning.specs.Computed.{Computed, Gives, Traps}
use Rattle.zpl_meaning.specs.Store.{Thing, Scalar, ArrayAt, Fixed, Store, thing_of}
use Rattle.zpl_meaning.specs.Store.{with_scalar}
use Rattle.zpl_meaning.specs.Context.{Over, Setup, Place, over_at, reach_of}
use Rattle.zpl_meaning.specs.Regions.{over_in, under_prefix}
use Rattle.zpl_meaning.specs.Outcome.{Outcome, goes_on, wants_more, counting, behind, then_at}
use Rattle.zpl_meaning.specs.Outcome.{then_do, with_value, choose, Test, tested, while_turns}
use Rattle.zpl_meaning.specs.Outcome.{repeat_turns, Count, is_past, next_value, for_turns}
use Rattle.zpl_meaning.specs.Points.{Point, point_test, point_stmt, point_stmts, point_form}
use Rattle.zpl_meaning.specs.Points.{point_arms, point_arm, point_otherwise, worse, worst}
use Rattle.zpl_binding.specs.of_zpl_names.Counts.{form_nodes}
use Rattle.zpl_meaning.specs.Points.{joined, kept_tuples, run_at, runs_of, all_runs, at_tuple}
use Rattle.zpl_meaning.specs.Points.{parts_in, shattered_at, shattered}
use Rattle.zpl_meaning.specs.Variables.{Frame, with_new_scalar}
use Rattle.zpl_meaning.specs.Calls.{Called, actuals_in, entered, place_in}
use Rattle.zpl_meaning.specs.Statement.{Context, line_of, invoke, assign_call, assign}
use Rattle.zpl_meaning.specs.Statement.{Start, head_value, for_from, under, test_of, arms_at}
use Rattle.zpl_meaning.specs.Statement.{is_split, exec, exec_all, exec_form, exec_arms, exec_arm}
use Rattle.zpl_meaning.specs.Statement.{exec_otherwise}
use Rattle.zpl_meaning.specs.Program.{returned, run_routine, call_at, setup_of, entry_call}
use Rattle.zpl_meaning.specs.Program.{first_frame, outcome_of, mean_of}

-- the second is the first, or the first wants more and the second begins with what it printed
abbrev pub Grows : Outcome → Outcome → Type 0
Grows less more = (less ≡ more) ⊎ ((less.ending ≡ More) × IsFrontOf less.bytes more.bytes)

-- what wants more with nothing printed grows to anything
from_nothing : (store : Store) (more : Outcome) → Grows (wants_more store) more
from_nothing store more = inr (refl, record { rest = more.bytes; joins = refl })

Grows-behind : (bytes : List ℕ) (steps : ℕ) (a b : Outcome) → Grows a b
    → Grows (behind bytes steps a) (behind bytes steps b)
Grows-behind bytes steps a b (inl e) = inl (ap (behind bytes steps) e)
Grows-behind bytes steps a b (inr m) =
    inr (
      m.0,
      record {
        rest = m.1.rest;
        joins =
            ap (λ x. bytes ++ x) m.1.joins ∙ sym (append_assoc bytes a.bytes m.1.rest);
      },
    )

Grows-counting : (steps : ℕ) (a b : Outcome) → Grows a b
    → Grows (counting steps a) (counting steps b)
Grows-counting steps a b (inl e) = inl (ap (counting steps) e)
Grows-counting steps a b (inr m) = inr m

-- ---- one after the other
bytes_then_at : (ending : End) (a : Outcome) (next : Store → Outcome)
    → IsFrontOf a.bytes (then_at ending a next).bytes
bytes_then_at Done a next = record { rest = (next a.store).bytes; joins = refl }
bytes_then_at (Trap kind line) a next = record { rest = []; joins = sym (append-nil a.bytes) }
bytes_then_at More a next = record { rest = []; joins = sym (append-nil a.bytes) }

through : (a b c : List ℕ) → IsFrontOf a b → IsFrontOf b c → IsFrontOf a c
through a b c f g = record {
  rest = f.rest ++ g.rest;
  joins = g.joins ∙ (ap (λ x. x ++ g.rest) f.joins ∙ append_assoc a f.rest g.rest);
}

module _ (f g : Store → Outcome) (grows : (store : Store) → Grows (f store) (g store)) where
  Grows-then_at : (ending : End) (a : Outcome) → Grows (then_at ending a f) (then_at ending a g)
  Grows-then_at Done a = Grows-behind a.bytes a.steps (f a.store) (g a.store) (grows a.store)
  Grows-then_at (Trap kind line) a = inl refl
  Grows-then_at More a = inl refl

  Grows-then_do : (a b : Outcome) → Grows a b → Grows (then_do a f) (then_do b g)
  Grows-then_do a b (inl e) =
      subst (λ x. Grows (then_do a f) (then_do x g)) e (Grows-then_at a.ending a)
  Grows-then_do a b (inr m) =
      let stays : then_do a f ≡ a = ap (λ x. then_at x a f) m.0 in
      subst (λ x. Grows x (then_do b g)) (sym stays)
      (inr (m.0, through a.bytes b.bytes (then_do b g).bytes m.1 (bytes_then_at b.ending b g)))

-- ---- choices
Grows-with_value : {A : Type 0} (computed : Computed A) (store : Store) (line : ℕ)
    (f g : A → Outcome)
    → ((value : A) → Grows (f value) (g value))
    → Grows (with_value computed store line f) (with_value computed store line g)
Grows-with_value (Gives value) store line f g grows = grows value
Grows-with_value (Traps kind) store line f g grows = inl refl

Grows-choose : (b : Bool) (f f' g g' : Store → Outcome) (store : Store)
    → Grows (f store) (f' store) → Grows (g store) (g' store)
    → Grows (choose b f g store) (choose b f' g' store)
Grows-choose true f f' g g' store one other = one
Grows-choose false f f' g g' store one other = other

Grows-tested : (test : Test) (f f' g g' : Store → Outcome) (store : Store)
    → Grows (f store) (f' store) → Grows (g store) (g' store)
    → Grows (tested test f g store) (tested test f' g' store)
Grows-tested test f f' g g' store one other =
    Grows-counting test.steps _ _
    (Grows-with_value (test.value store) store test.line (λ value. choose (is_true value) f g store)
    (λ value. choose (is_true value) f' g' store)
    (λ value. Grows-choose (is_true value) f f' g g' store one other))

-- ---- loops
module _ (f g : Store → Outcome) (grows : (store : Store) → Grows (f store) (g store)) where
  Grows-while_turns : (n m : ℕ) → n ≤ m → (test : Test) (store : Store)
      → Grows (while_turns n test f store) (while_turns m test g store)
  Grows-while_turns zero zero h test store =
      Grows-tested test wants_more wants_more goes_on goes_on store (inl refl) (inl refl)
  Grows-while_turns zero (suc m) h test store =
      Grows-tested test wants_more (λ s. then_do (g s) (while_turns m test g)) goes_on goes_on store
      (from_nothing store _) (inl refl)
  Grows-while_turns (suc n) zero h test store = absurd (omega arith)
  Grows-while_turns (suc n) (suc m) h test store =
      Grows-tested test (λ s. then_do (f s) (while_turns n test f))
      (λ s. then_do (g s) (while_turns m test g)) goes_on goes_on store
      (Grows-then_do (while_turns n test f) (while_turns m test g)
      (Grows-while_turns n m (omega arith) test) (f store) (g store) (grows store))
      (inl refl)

  Grows-repeat_turns : (n m : ℕ) → n ≤ m → (test : Test) (store : Store)
      → Grows (repeat_turns n test f store) (repeat_turns m test g store)
  Grows-repeat_turns zero m h test store = from_nothing store (repeat_turns m test g store)
  Grows-repeat_turns (suc n) zero h test store = absurd (omega arith)
  Grows-repeat_turns (suc n) (suc m) h test store =
      Grows-then_do (tested test goes_on (repeat_turns n test f))
      (tested test goes_on (repeat_turns m test g))
      (λ s. Grows-tested test goes_on goes_on (repeat_turns n test f) (repeat_turns m test g) s
      (inl refl) (Grows-repeat_turns n m (omega arith) test s))
      (f store) (g store) (grows store)

  Grows-for_turns : (n m : ℕ) → n ≤ m
      → (count : Count) (set : ℤ → Store → Store) (value : ℤ) (store : Store)
      → Grows (for_turns n count set f value store) (for_turns m count set g value store)
  Grows-for_turns zero zero h count set value store =
      Grows-choose (is_past count value) goes_on goes_on wants_more wants_more store (inl refl)
      (inl refl)
  Grows-for_turns zero (suc m) h count set value store =
      Grows-choose (is_past count value) goes_on goes_on wants_more
      (λ s. counting 1
      (then_do (g (set value s)) (for_turns m count set g (next_value count value)))) store
      (inl refl) (from_nothing store _)
  Grows-for_turns (suc n) zero h count set value store = absurd (omega arith)
  Grows-for_turns (suc n) (suc m) h count set value store =
      Grows-choose (is_past count value) goes_on goes_on
      (λ s. counting 1
      (then_do (f (set value s)) (for_turns n count set f (next_value count value))))
      (λ s. counting 1
      (then_do (g (set value s)) (for_turns m count set g (next_value count value)))) store
      (inl refl)
      (Grows-counting 1 _ _
      (Grows-then_do (for_turns n count set f (next_value count value))
      (for_turns m count set g (next_value count value))
      (Grows-for_turns n m (omega arith) count set (next_value count value))
      (f (set value store)) (g (set value store)) (grows (set value store))))

  Grows-for_from : (n m : ℕ) → n ≤ m → (thing : Option Thing) (start : Start) (store : Store)
      → Grows (for_from n thing start f store) (for_from m thing start g store)
  Grows-for_from n m h (Some (Scalar place)) start store =
      let set : ℤ → Store → Store = λ value s. with_scalar s place value in
      Grows-choose (int_lt start.count.by (pos 1)) goes_on goes_on
      (for_turns n start.count set f start.first) (for_turns m start.count set g start.first) store
      (inl refl)
      (Grows-for_turns n m h start.count set start.first store)
  Grows-for_from n m h (Some (ArrayAt place home)) start store = inl refl
  Grows-for_from n m h (Some (Fixed value)) start store = inl refl
  Grows-for_from n m h None start store = inl refl

-- ---- shattered statements
module _ (point : Point) (n m : ℕ) (h : n ≤ m) where
  mutual
    Grows-point_stmt : (stmt : Stmt) (store : Store)
        → Grows (point_stmt point n stmt store) (point_stmt point m stmt store)
    Grows-point_stmt (Prefixed at prefixes form) store = Grows-point_form form store

    Grows-point_stmts : (stmts : Stmts) (store : Store)
        → Grows (point_stmts point n stmts store) (point_stmts point m stmts store)
    Grows-point_stmts NoStmt store = inl refl
    Grows-point_stmts (ThenStmt first rest) store =
        Grows-then_do (point_stmts point n rest) (point_stmts point m rest)
        (Grows-point_stmts rest) _ _ (Grows-point_stmt first store)

    Grows-point_form : (form : Form) (store : Store)
        → Grows (point_form point n form store) (point_form point m form store)
    Grows-point_form (Assign name op value) store = inl refl
    Grows-point_form (Block body) store = Grows-point_stmts body store
    Grows-point_form (If arms otherwise) store =
        Grows-point_arms arms (point_otherwise point n otherwise)
        (point_otherwise point m otherwise) (Grows-point_otherwise otherwise) store
    Grows-point_form (While test body) store =
        Grows-while_turns (point_stmts point n body) (point_stmts point m body)
        (Grows-point_stmts body) n m h (point_test point test) store
    Grows-point_form (Repeat body until test) store =
        Grows-repeat_turns (point_stmts point n body) (point_stmts point m body)
        (Grows-point_stmts body) n m h (point_test point test) store
    Grows-point_form (For head body) store = inl refl
    Grows-point_form (Write line items) store = inl refl
    Grows-point_form (Invoke name actuals) store = inl refl
    Grows-point_form (Border kind names) store = inl refl
    Grows-point_form (Return value) store = inl refl

    Grows-point_arms : (arms : Arms) (f g : Store → Outcome)
        → ((store : Store) → Grows (f store) (g store)) → (store : Store)
        → Grows (point_arms point n arms f store) (point_arms point m arms g store)
    Grows-point_arms NoArm f g grows store = grows store
    Grows-point_arms (ThenArm first rest) f g grows store =
        Grows-point_arm first (point_arms point n rest f) (point_arms point m rest g)
        (Grows-point_arms rest f g grows) store

    Grows-point_arm : (arm : Arm) (f g : Store → Outcome)
        → ((store : Store) → Grows (f store) (g store)) → (store : Store)
        → Grows (point_arm point n arm f store) (point_arm point m arm g store)
    Grows-point_arm (Tested own test body) f g grows store =
        Grows-tested (point_test point test) (point_stmts point n body) (point_stmts point m body)
        f g store (Grows-point_stmts body store) (grows store)

    Grows-point_otherwise : (otherwise : Otherwise) (store : Store)
        → Grows (point_otherwise point n otherwise store)
        (point_otherwise point m otherwise store)
    Grows-point_otherwise NoElse store = inl refl
    Grows-point_otherwise (Else body) store = Grows-point_stmts body store

worse-More : (ending : End) → worse ending More ≡ More
worse-More Done = refl
worse-More (Trap kind line) = refl
worse-More More = refl

-- runs of tuples that grow are the same, or some run wants more
module _ (f g : List ℤ → Outcome) (grows : (t : List ℤ) → Grows (f t) (g t)) where
  abbrev OneOrMore : List (List ℤ) → Type 0
  OneOrMore ts = (worst (runs_of f ts) ≡ More) ⊎ (runs_of f ts ≡ runs_of g ts)

  both_runs : (t : List ℤ) (ts : List (List ℤ)) → Grows (f t) (g t) → OneOrMore ts
      → OneOrMore (t ∷ ts)
  both_runs t ts first (inl more) =
      inl (ap (worse (f t).ending) more ∙ worse-More (f t).ending)
  both_runs t ts (inr more) (inr same) =
      inl (ap (λ ending. worse ending (worst (runs_of f ts))) more.0)
  both_runs t ts (inl one) (inr same) =
      inr (ap (λ outcome. record { tuple = t; outcome = outcome } ∷ runs_of f ts) one
      ∙ ap (λ runs. record { tuple = t; outcome = g t } ∷ runs) same)

  all_or_more : (ts : List (List ℤ)) → OneOrMore ts
  all_or_more [] = inr refl
  all_or_more (t ∷ ts) = both_runs t ts (grows t) (all_or_more ts)

  Grows-all_runs : (store : Store) (ts : List (List ℤ))
      → Grows (all_runs store (runs_of f ts)) (all_runs store (runs_of g ts))
  Grows-all_runs store ts = by (all_or_more ts)
    where
      by : OneOrMore ts → Grows (all_runs store (runs_of f ts)) (all_runs store (runs_of g ts))
      by (inl more) =
          subst (λ ending. Grows (joined ending store (runs_of f ts))
          (all_runs store (runs_of g ts))) (sym more) (from_nothing store _)
      by (inr same) = inl (ap (all_runs store) same)

Grows-shattered_at : (place : Place) (rank : Rank) (over : Over) (line n m : ℕ) → n ≤ m
    → (form : Form) (store : Store)
    → Grows (shattered_at place rank over line n form store)
    (shattered_at place rank over line m form store)
Grows-shattered_at place rank over line n m h form store =
    let one = run_at place rank line n form store in
    let other = run_at place rank line m form store in
    let tuples = kept_tuples store over in
    Grows-counting (form_nodes form) _ _
    (Grows-with_value (parts_in place rank over form store) store line
    (λ _. all_runs store (runs_of one tuples)) (λ _. all_runs store (runs_of other tuples))
    (λ fields.
    Grows-all_runs one other (λ t.
    Grows-point_form (record { place = place; rank = rank; tuple = t; line = line }) n m h form
    (at_tuple t store)) store tuples))

Grows-shattered : (place : Place) (line n m : ℕ) → n ≤ m → (form : Form) (store : Store)
    → Grows (shattered place line n form store) (shattered place line m form store)
Grows-shattered place line n m h form store =
    let rank : Rank = tests_rank (reach_of place) form in
    Grows-shattered_at place rank (over_at place.currents rank) line n m h form store

-- ---- calls
abbrev CallGrows : (Called → Store → Outcome) → (Called → Store → Outcome) → Type 0
CallGrows call other = (called : Called) (store : Store) → Grows (call called store) (other called store)

-- ---- statements
module _ (n m : ℕ) (h : n ≤ m) (call other : Called → Store → Outcome)
    (calls : CallGrows call other) where
  abbrev less : Place → Context
  less place = record { place = place; call = call }

  abbrev more : Place → Context
  more place = record { place = place; call = other }

  Grows-assign_call : (place : Place) (target name : Name) (actuals : Exprs) (line : ℕ)
      (store : Store)
      → Grows (assign_call (less place) target name actuals line store)
      (assign_call (more place) target name actuals line store)
  Grows-assign_call place target name actuals line store =
      Grows-with_value (actuals_in place store name actuals) store line _ _ (λ handed.
      Grows-then_do _ _ (λ after. inl refl) _ _ (calls _ (with_new_scalar store (pos 0))))

  Grows-assign : (place : Place) (name : Name) (op : Option Op) (value : Expr) (line : ℕ)
      (store : Store)
      → Grows (assign (less place) name op value line store)
      (assign (more place) name op value line store)
  Grows-assign place name None (Call at callee actuals) line store =
      Grows-assign_call place name callee actuals line store
  Grows-assign place name None (Number at value) line store = inl refl
  Grows-assign place name None (Truth at value) line store = inl refl
  Grows-assign place name None (Coord at k) line store = inl refl
  Grows-assign place name None (Named at other) line store = inl refl
  Grows-assign place name None (Shifted at other shift) line store = inl refl
  Grows-assign place name None (Around at other shift) line store = inl refl
  Grows-assign place name None (Remap at other indices) line store = inl refl
  Grows-assign place name None (Paren at inside) line store = inl refl
  Grows-assign place name None (Neg at operand) line store = inl refl
  Grows-assign place name None (Not at operand) line store = inl refl
  Grows-assign place name None (Abs at operand) line store = inl refl
  Grows-assign place name None (Pair at op left right) line store = inl refl
  Grows-assign place name None (Reduce at operator over operand) line store = inl refl
  Grows-assign place name None (Scan at operator along operand) line store = inl refl
  Grows-assign place name None (Flood at source operand) line store = inl refl
  Grows-assign place name (Some op) value line store = inl refl

  Grows-invoke : (place : Place) (name : Name) (actuals : Exprs) (line : ℕ) (store : Store)
      → Grows (invoke (less place) name actuals line store)
      (invoke (more place) name actuals line store)
  Grows-invoke place name actuals line store =
      Grows-with_value (actuals_in place store name actuals) store line _ _ (λ handed.
      calls _ store)

  Grows-under : (place : Place) (prefixes : List Prefix) (store : Store)
      (f g : Context → Outcome)
      → ((inner : Place) → Grows (f (less inner)) (g (more inner)))
      → Grows (under (less place) prefixes store f) (under (more place) prefixes store g)
  Grows-under place [] store f g grows = grows place
  Grows-under place (prefix ∷ prefixes) store f g grows =
      Grows-with_value (over_in place store prefix) store (line_of place prefix.at) _ _ (λ over.
      Grows-under (under_prefix place prefix over) prefixes store f g grows)

  mutual
    Grows-exec : (stmt : Stmt) (place : Place) (store : Store)
        → Grows (exec (less place) n stmt store) (exec (more place) m stmt store)
    Grows-exec (Prefixed at prefixes form) place store =
        Grows-counting _ _ _
        (Grows-under place prefixes store _ _ (λ inner. Grows-exec_form form inner at store))

    Grows-exec_all : (stmts : Stmts) (place : Place) (store : Store)
        → Grows (exec_all (less place) n stmts store) (exec_all (more place) m stmts store)
    Grows-exec_all NoStmt place store = inl refl
    Grows-exec_all (ThenStmt first rest) place store =
        Grows-then_do (exec_all (less place) n rest) (exec_all (more place) m rest)
        (Grows-exec_all rest place) _ _ (Grows-exec first place store)

    Grows-exec_form : (form : Form) (place : Place) (at : ℕ) (store : Store)
        → Grows (exec_form (less place) n at form store) (exec_form (more place) m at form store)
    Grows-exec_form (Assign name op value) place at store =
        Grows-assign place name op value (line_of place at) store
    Grows-exec_form (Invoke name actuals) place at store =
        Grows-invoke place name actuals (line_of place at) store
    Grows-exec_form (Block body) place at store = Grows-exec_all body place store
    Grows-exec_form (If arms otherwise) place at store =
        Grows-choose (is_split (less place) (If arms otherwise)) _ _ _ _ store
        (Grows-shattered place (line_of place at) n m h (If arms otherwise) store)
        (Grows-exec_arms arms place at _ _ (Grows-exec_otherwise otherwise place) store)
    Grows-exec_form (While test body) place at store =
        Grows-choose (is_split (less place) (While test body)) _ _ _ _ store
        (Grows-shattered place (line_of place at) n m h (While test body) store)
        (Grows-while_turns (exec_all (less place) n body) (exec_all (more place) m body)
        (Grows-exec_all body place) n m h (test_of place test at) store)
    Grows-exec_form (Repeat body until test) place at store =
        Grows-choose (is_split (less place) (Repeat body until test)) _ _ _ _ store
        (Grows-shattered place (line_of place at) n m h (Repeat body until test) store)
        (Grows-repeat_turns (exec_all (less place) n body) (exec_all (more place) m body)
        (Grows-exec_all body place) n m h (test_of place test until) store)
    Grows-exec_form (For head body) place at store =
        Grows-with_value (head_value place store head) store (line_of place at) _ _
        (λ start. Grows-for_from (exec_all (less place) n body) (exec_all (more place) m body)
        (Grows-exec_all body place) n m h
        (thing_of place.environment head.name.text) start store)
    Grows-exec_form (Write line items) place at store = inl refl
    Grows-exec_form (Border kind names) place at store = inl refl
    Grows-exec_form (Return value) place at store = inl refl

    Grows-exec_arms : (arms : Arms) (place : Place) (at : ℕ) (f g : Store → Outcome)
        → ((store : Store) → Grows (f store) (g store)) → (store : Store)
        → Grows (exec_arms (less place) n at arms f store) (exec_arms (more place) m at arms g store)
    Grows-exec_arms NoArm place at f g grows store = grows store
    Grows-exec_arms (ThenArm first rest) place at f g grows store =
        Grows-exec_arm first place at (exec_arms (less place) n (arms_at rest) rest f)
        (exec_arms (more place) m (arms_at rest) rest g)
        (Grows-exec_arms rest place (arms_at rest) f g grows) store

    Grows-exec_arm : (arm : Arm) (place : Place) (at : ℕ) (f g : Store → Outcome)
        → ((store : Store) → Grows (f store) (g store)) → (store : Store)
        → Grows (exec_arm (less place) n at arm f store) (exec_arm (more place) m at arm g store)
    Grows-exec_arm (Tested own test body) place at f g grows store =
        Grows-tested (test_of place test at) (exec_all (less place) n body)
        (exec_all (more place) m body) f g store
        (Grows-exec_all body place store) (grows store)

    Grows-exec_otherwise : (otherwise : Otherwise) (place : Place) (store : Store)
        → Grows (exec_otherwise (less place) n otherwise store)
        (exec_otherwise (more place) m otherwise store)
    Grows-exec_otherwise NoElse place store = inl refl
    Grows-exec_otherwise (Else body) place store = Grows-exec_all body place store

-- ---- calls, and programs
Grows-returned : (before : Store) (a b : Outcome) → Grows a b
    → Grows (returned before a) (returned before b)
Grows-returned before a b (inl e) = inl (ap (returned before) e)
Grows-returned before a b (inr m) = inr m

Grows-run_routine : (setup : Setup) (n m : ℕ) → n ≤ m → (call other : Called → Store → Outcome)
    → CallGrows call other → (routine : Option Routine) (called : Called) (store : Store)
    → Grows (run_routine setup n call routine called store)
    (run_routine setup m other routine called store)
Grows-run_routine setup n m h call other calls None called store = inl refl
Grows-run_routine setup n m h call other calls (Some routine) called store =
    let frame : Frame = entered setup routine called.actuals store in
    Grows-returned store _ _
    (Grows-exec n m h call other calls routine.procedure.body
    (place_in setup routine called frame) frame.store)

Grows-call_at : (setup : Setup) (n m : ℕ) → n ≤ m → (depth : ℕ)
    → CallGrows (call_at setup n depth) (call_at setup m depth)
Grows-call_at setup n m h zero called store = inl refl
Grows-call_at setup n m h (suc depth) called store =
    Grows-run_routine setup n m h (call_at setup n depth) (call_at setup m depth)
    (Grows-call_at setup n m h depth) (routine_named setup.program called.name) called store

pub Grows-outcome_of : (program : Program) (settings : List Setting) (n m : ℕ) → n ≤ m
    → Grows (outcome_of program settings n) (outcome_of program settings m)
Grows-outcome_of program settings n m h =
    let known : Known = known_of program settings in
    let borders : List BorderText = borders_of program in
    let frame : Frame = first_frame program known borders in
    Grows-call_at (setup_of program known borders frame) n m h longest_chain
    (entry_call program) frame.store

front_of : (a b : Outcome) → Grows a b → IsFrontOf a.bytes b.bytes
front_of a b (inl e) =
    record { rest = []; joins = ap (λ x. x.bytes) (sym e) ∙ sym (append-nil a.bytes) }
front_of a b (inr m) = m.1

stays : (a b : Outcome) → Grows a b → a.ending ≢ More → b ≡ a
stays a b (inl e) ended = sym e
stays a b (inr m) ended = absurd (ended m.0)

pub IsFrontOf-mean_of : (program : Program) (settings : List Setting) (n m : ℕ) → n ≤ m
    → IsFrontOf (mean_of program settings n).bytes (mean_of program settings m).bytes
IsFrontOf-mean_of program settings n m h =
    front_of (outcome_of program settings n) (outcome_of program settings m)
    (Grows-outcome_of program settings n m h)

pub outcome_of-stays : (program : Program) (settings : List Setting) (n m : ℕ) → n ≤ m
    → (outcome_of program settings n).ending ≢ More
    → outcome_of program settings m ≡ outcome_of program settings n
outcome_of-stays program settings n m h =
    stays (outcome_of program settings n) (outcome_of program settings m)
    (Grows-outcome_of program settings n m h)
