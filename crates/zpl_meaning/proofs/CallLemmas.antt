-- A run makes no call but visited ones.
use Rattle.std.proofs.Common.{◌≡◌, ℕ, suc, ◌+◌, Bool, true, false, ◌&&◌, ℤ, pos, List, [], ◌∷◌}
use Rattle.std.proofs.Common.{length, Option, Some, None, refl, ap, ◌∙◌, subst, arith, inl, inr}
use Rattle.std.proofs.Math.Path.{fun_ext}
use Rattle.zpl_binding.specs.of_zpl_nums.declared.operators.Op.{Op}
use Rattle.zpl_binding.specs.of_zpl_nums.declared.ends.TrapKind.{TrapKind}
use Rattle.zpl_binding.specs.of_zpl_tree.Syntax.{Name, Expr, Number, Truth, Coord, Named, Shifted, Around, Remap}
use Rattle.zpl_binding.specs.of_zpl_tree.Syntax.{Call, Paren, Neg, Not, Abs, Pair, Reduce, Scan, Flood, Exprs}
use Rattle.zpl_binding.specs.of_zpl_tree.Syntax.{Prefix, Stmt, Prefixed, Stmts, NoStmt, ThenStmt, Form, Assign}
use Rattle.zpl_binding.specs.of_zpl_tree.Syntax.{Invoke, Block, If, While, Repeat, For, Border, Write, Return, Arm}
use Rattle.zpl_binding.specs.of_zpl_tree.Syntax.{Tested, Arms, NoArm, ThenArm, Otherwise, NoElse, Else}
use Rattle.zpl_binding.proofs.of_zpl_names.ListLemmas.{Among, Contains-from_among}
use Rattle.zpl_binding.proofs.of_zpl_names.FaultlessLemmas.{left-among, right-among}
use Rattle.zpl_meaning.specs.Computed.{Computed, Gives, Traps, computed_then, both_then, provided}
use Rattle.zpl_meaning.specs.Store.{Store, thing_of, scalar_at, cut_back}
use Rattle.zpl_meaning.specs.Context.{Setup, Place}
use Rattle.zpl_meaning.specs.Regions.{over_in, under_prefix}
use Rattle.zpl_meaning.specs.Term.{Terms, NoTerm, ThenTerm}
use Rattle.zpl_meaning.specs.Settled.{Placed, settled, settled_each}
use Rattle.zpl_meaning.specs.Checks.{conform, refer}
use Rattle.zpl_meaning.specs.Fields.{Field, field_of, fields_of}
use Rattle.zpl_meaning.specs.Phases.{scalar_values, scalars_in}
use Rattle.zpl_meaning.specs.Outcome.{Outcome, goes_on, counting, then_do, with_value, choose, tested}
use Rattle.zpl_meaning.specs.Outcome.{while_turns, repeat_turns}
use Rattle.zpl_meaning.specs.Points.{shattered}
use Rattle.zpl_meaning.specs.Variables.{with_new_scalar}
use Rattle.zpl_meaning.specs.Calls.{Handed, Called, value_exprs, handed_on, actuals_in}
use Rattle.zpl_meaning.specs.Statement.{Context, line_of, with_result, assign, invoke, under}
use Rattle.zpl_meaning.specs.Statement.{head_value, for_from, test_of, arms_at, is_split}
use Rattle.zpl_meaning.specs.Statement.{nodes_under, exec, exec_all, exec_form, exec_arms, exec_arm}
use Rattle.zpl_meaning.specs.Statement.{exec_otherwise}
use Rattle.zpl_meaning.specs.Visited.{IsUnder, Itself, Behind, list_of, arms_parts, else_parts}
use Rattle.zpl_meaning.specs.Visited.{parts_of, AsStatement, AsAnswer, formals_at, handed_at}
use Rattle.zpl_meaning.specs.Visited.{IsVisited, Holds, Calls, IsVisitedCall}
use Rattle.zpl_meaning.proofs.DepthLemmas.{same_with_value}
use Rattle.zpl_meaning.proofs.HandedLemmas.{Given, scalars_many}

same_handed : (place : Place) (store : Store) (name : Name) (actuals : Exprs) (line : ℕ)
    (f g : List Handed → Outcome)
    → ((values : List ℤ) → length values ≡ length (value_exprs place (formals_at place name) actuals)
    → f (handed_at place store name actuals values) ≡ g (handed_at place store name actuals values))
    → with_value (actuals_in place store name actuals) store line f
    ≡ with_value (actuals_in place store name actuals) store line g
same_handed place store name actuals line f g h =
    by (scalars_in place store (value_exprs place (formals_at place name) actuals))
    (scalars_many place store (value_exprs place (formals_at place name) actuals))
  where
    by : (computed : Computed (List ℤ))
        → Given (λ values. length values
        ≡ length (value_exprs place (formals_at place name) actuals)) computed
        → with_value (computed_then computed (λ values.
        Gives (handed_on place.environment store (formals_at place name) actuals values))) store
        line f
        ≡ with_value (computed_then computed (λ values.
        Gives (handed_on place.environment store (formals_at place name) actuals values))) store
        line g
    by (Gives values) many = h values many
    by (Traps kind) many = refl

-- ---- two contexts whose visited calls do the same

record Standing (setup : Setup) (place : Place) (form : Form) : Type 0 where
  outer : Place
  at : ℕ
  prefixes : List Prefix
  visited : IsVisited setup outer (Prefixed at prefixes form)
  under : IsUnder prefixes outer place

module _ (setup : Setup) (n : ℕ) (one other : Called → Store → Outcome)
    (agree : (called : Called) (store : Store) → IsVisitedCall setup called
    → one called store ≡ other called store) where
  abbrev here : Place → Context
  here place = record { place = place; call = one }

  abbrev there : Place → Context
  there place = record { place = place; call = other }

  same_under : (prefixes : List Prefix) (place : Place) (store : Store) (f g : Context → Outcome)
      → ((inner : Place) → IsUnder prefixes place inner → f (here inner) ≡ g (there inner))
      → under (here place) prefixes store f ≡ under (there place) prefixes store g
  same_under [] place store f g h = h place Itself
  same_under (prefix ∷ prefixes) place store f g h =
      same_with_value (over_in place store prefix) store (line_of place prefix.at) _ _ (λ over.
      same_under prefixes (under_prefix place prefix over) store f g
      (λ inner deeper. h inner (Behind over deeper)))

  same_invoke : (place : Place) (name : Name) (actuals : Exprs) (line : ℕ) (store : Store)
      → Standing setup place (Invoke name actuals)
      → invoke (here place) name actuals line store ≡ invoke (there place) name actuals line store
  same_invoke place name actuals line store h =
      same_handed place store name actuals line _ _ (λ values many.
      agree (record {
        name = name.text;
        actuals = handed_at place store name actuals values;
        currents = place.currents;
        result = 0;
      }) store (λ routine after named. Calls h.outer place h.at h.prefixes (Invoke name actuals) name
      actuals values store after 0 routine h.visited h.under AsStatement many named))

  same_assign_call : (place : Place) (target name : Name) (at : ℕ) (actuals : Exprs) (line : ℕ)
      (store : Store) → Standing setup place (Assign target None (Call at name actuals))
      → assign (here place) target None (Call at name actuals) line store
      ≡ assign (there place) target None (Call at name actuals) line store
  same_assign_call place target name at actuals line store h =
      same_handed place store name actuals line _ _ (λ values many.
      ap (λ outcome. then_do outcome (λ after.
      goes_on
      (with_result (thing_of place.environment target.text)
      (scalar_at after (length store.scalars)) (cut_back store after))))
      (agree (record {
        name = name.text;
        actuals = handed_at place store name actuals values;
        currents = place.currents;
        result = length store.scalars;
      }) (with_new_scalar store (pos 0)) (λ routine after named.
      Calls h.outer place h.at h.prefixes (Assign target None (Call at name actuals)) name actuals
      values store after (length store.scalars) routine h.visited h.under AsAnswer many named)))

  same_assign : (place : Place) (name : Name) (op : Option Op) (value : Expr) (line : ℕ)
      (store : Store) → Standing setup place (Assign name op value)
      → assign (here place) name op value line store ≡ assign (there place) name op value line store
  same_assign place name None (Call at callee actuals) line store h =
      same_assign_call place name callee at actuals line store h
  same_assign place name None (Number at value) line store h = refl
  same_assign place name None (Truth at value) line store h = refl
  same_assign place name None (Coord at k) line store h = refl
  same_assign place name None (Named at read) line store h = refl
  same_assign place name None (Shifted at read shift) line store h = refl
  same_assign place name None (Around at read shift) line store h = refl
  same_assign place name None (Remap at read indices) line store h = refl
  same_assign place name None (Paren at inside) line store h = refl
  same_assign place name None (Neg at operand) line store h = refl
  same_assign place name None (Not at operand) line store h = refl
  same_assign place name None (Abs at operand) line store h = refl
  same_assign place name None (Pair at op left right) line store h = refl
  same_assign place name None (Reduce at operator over operand) line store h = refl
  same_assign place name None (Scan at operator along operand) line store h = refl
  same_assign place name None (Flood at source operand) line store h = refl
  same_assign place name (Some op) value line store h = refl

  same_then : (a b : Outcome) (f g : Store → Outcome) → a ≡ b → f ≡ g
      → then_do a f ≡ then_do b g
  same_then a b f g first next =
      ap (λ outcome. then_do outcome f) first ∙ ap (λ rest. then_do b rest) next

  -- the statements in a visited one
  part : (place : Place) (form : Form) → Standing setup place form → (stmt : Stmt)
      → Among (parts_of form) stmt → IsVisited setup place stmt
  part place form h stmt member =
      Holds h.outer place h.at h.prefixes form stmt h.visited h.under
      (Contains-from_among (parts_of form) stmt member)

  later : (first : Arm) (rest : Arms) (place : Place)
      → ((stmt : Stmt) → Among (arms_parts (ThenArm first rest)) stmt → IsVisited setup place stmt)
      → (stmt : Stmt) → Among (arms_parts rest) stmt → IsVisited setup place stmt
  later (Tested own test body) rest place h stmt member =
      h stmt (right-among (list_of body) (arms_parts rest) stmt member)

  mutual
    same_exec : (stmt : Stmt) (place : Place) → IsVisited setup place stmt → (store : Store)
        → exec (here place) n stmt store ≡ exec (there place) n stmt store
    same_exec (Prefixed at prefixes form) place visited store =
        ap (counting (1 + nodes_under prefixes form))
        (same_under prefixes place store (λ inner. exec_form inner n at form store)
        (λ inner. exec_form inner n at form store)
        (λ inner deeper. same_form form inner (record {
          outer = place;
          at = at;
          prefixes = prefixes;
          visited = visited;
          under = deeper;
        }) at store))

    same_all : (stmts : Stmts) (place : Place)
        → ((stmt : Stmt) → Among (list_of stmts) stmt → IsVisited setup place stmt)
        → exec_all (here place) n stmts ≡ exec_all (there place) n stmts
    same_all NoStmt place h = refl
    same_all (ThenStmt first rest) place h =
        fun_ext (λ store.
        same_then _ _ _ _ (same_exec first place (h first (inl refl)) store)
        (same_all rest place (λ stmt member. h stmt (inr member))))

    same_form : (form : Form) (place : Place) → Standing setup place form → (at : ℕ)
        (store : Store)
        → exec_form (here place) n at form store ≡ exec_form (there place) n at form store
    same_form (Assign name op value) place h at store =
        same_assign place name op value (line_of place at) store h
    same_form (Invoke name actuals) place h at store =
        same_invoke place name actuals (line_of place at) store h
    same_form (Block body) place h at store =
        ap (λ f. f store) (same_all body place (part place (Block body) h))
    same_form (If arms otherwise) place h at store =
        ap (λ f. choose (is_split (here place) (If arms otherwise))
        (shattered place (line_of place at) n (If arms otherwise)) f store)
        (same_arms arms place
        (λ stmt member. part place (If arms otherwise) h stmt
        (left-among (arms_parts arms) (else_parts otherwise) stmt member)) at _ _
        (same_otherwise otherwise place
        (λ stmt member. part place (If arms otherwise) h stmt
        (right-among (arms_parts arms) (else_parts otherwise) stmt member))))
    same_form (While test body) place h at store =
        ap (λ f. choose (is_split (here place) (While test body))
        (shattered place (line_of place at) n (While test body))
        (while_turns n (test_of place test at) f) store)
        (same_all body place (part place (While test body) h))
    same_form (Repeat body until test) place h at store =
        ap (λ f. choose (is_split (here place) (Repeat body until test))
        (shattered place (line_of place at) n (Repeat body until test))
        (repeat_turns n (test_of place test until) f) store)
        (same_all body place (part place (Repeat body until test) h))
    same_form (For head body) place h at store =
        ap (λ f. with_value (head_value place store head) store (line_of place at) (λ start.
        for_from n (thing_of place.environment head.name.text) start f store))
        (same_all body place (part place (For head body) h))
    same_form (Write line items) place h at store = refl
    same_form (Border kind names) place h at store = refl
    same_form (Return value) place h at store = refl

    same_arms : (arms : Arms) (place : Place)
        → ((stmt : Stmt) → Among (arms_parts arms) stmt → IsVisited setup place stmt) → (at : ℕ)
        (f g : Store → Outcome) → f ≡ g
        → exec_arms (here place) n at arms f ≡ exec_arms (there place) n at arms g
    same_arms NoArm place h at f g same = same
    same_arms (ThenArm first rest) place h at f g same =
        same_arm first rest place h at _ _
        (same_arms rest place (later first rest place h) (arms_at rest) f g same)

    same_arm : (arm : Arm) (rest : Arms) (place : Place)
        → ((stmt : Stmt) → Among (arms_parts (ThenArm arm rest)) stmt → IsVisited setup place stmt)
        → (at : ℕ) (f g : Store → Outcome) → f ≡ g
        → exec_arm (here place) n at arm f ≡ exec_arm (there place) n at arm g
    same_arm (Tested own test body) rest place h at f g same =
        ap (λ b. tested (test_of place test at) b f)
        (same_all body place
        (λ stmt member. h stmt (left-among (list_of body) (arms_parts rest) stmt member)))
        ∙ ap (λ last. tested (test_of place test at) (exec_all (there place) n body) last) same

    same_otherwise : (otherwise : Otherwise) (place : Place)
        → ((stmt : Stmt) → Among (else_parts otherwise) stmt → IsVisited setup place stmt)
        → exec_otherwise (here place) n otherwise ≡ exec_otherwise (there place) n otherwise
    same_otherwise NoElse place h = refl
    same_otherwise (Else body) place h = same_all body place h

  pub visited_calls : (place : Place) (stmt : Stmt) → IsVisited setup place stmt → (store : Store)
      → exec (here place) n stmt store ≡ exec (there place) n stmt store
  visited_calls place stmt visited store = same_exec stmt place visited store
