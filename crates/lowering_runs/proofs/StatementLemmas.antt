-- The code of a statement of scalars goes as the statement does.
use Rattle.std.proofs.Common.{◌≡◌, ℕ, suc, ◌<◌, Bool, true, false, List, []}
use Rattle.std.proofs.Common.{append_assoc, inr}
use Rattle.std.proofs.Common.{◌∷◌, ◌++◌, length, Option, Some, None, refl, sym, ap, ◌∙◌, subst, arith}
use Rattle.std.specs.Option.{option_map}
use Rattle.std.specs.Prelude.{Contains, IsSome, slice_get, slice_index_or}
use Rattle.std.proofs.lemmas.List.Elements.{Contains-append_left, Contains-append_right}
use Rattle.zpl_nums.specs.declared.operators.Op.{Op}
use Rattle.zpl_tree.specs.Syntax.{Name, Prefix, Expr, Number, Truth, Coord, Named, Shifted, Around, Remap, Call, Paren, Neg, Not, Abs, Pair, Reduce, Scan, Flood, Exprs, NoExpr, ThenExpr, Item, Str, Value, Stmt, Prefixed, Stmts, NoStmt, ThenStmt, Form, Assign, Invoke, Block, If, While, Repeat, For, Border, Write, Return, Tested, Arms, NoArm, ThenArm, Otherwise, NoElse, Else}
use Rattle.zpl_names.specs.Kinds.{Rank, Formal, ScalarFormal, ArrayFormal}
use Rattle.zpl_names.specs.Scope.{kind_of}
use Rattle.zpl_names.specs.Sites.{Role, Limit, Actual, Assigned, Printed, Test as TestRole, is_shattered}
use Rattle.lowering_fits.specs.of_zpl_meaning.Store.{Store, Thing, Scalar, ArrayAt, Fixed, thing_of}
use Rattle.lowering_fits.specs.of_zpl_meaning.Context.{Setup, Place, Currents, reach_of, rank_in}
use Rattle.lowering_fits.specs.of_zpl_meaning.Scalars.{IsScalarName, IsScalar}
use Rattle.lowering_fits.specs.of_zpl_meaning.Points.{assigned_expr}
use Rattle.lowering_fits.specs.of_zpl_meaning.Calls.{formals_in, actual_thing}
use Rattle.lowering_fits.specs.of_zpl_meaning.Proper.{IsRead, IsProper, IsProperScalar, IsProperWhole, IsTarget, IsPlainAssign, IsProperAssign, AreProperActuals, IsVariable, IsArray, AreProperTests, IsProperTested, AreProperItems, IsProperForm, IsProperStmt}
use Rattle.lowering_fits.specs.of_zpl_meaning.Visited.{IsVisited, Holds, Calls, Itself, AsStatement, list_of, parts_of, arms_parts, else_parts}
use Rattle.lowering_fits.specs.of_zpl_meaning.Outcome.{Outcome}
use Rattle.lowering_fits.specs.of_zpl_meaning.Statement as mean
use Rattle.lowering_fits.specs.of_zpl_meaning.Statement.{Context, step_expr}
use Rattle.lowering_fits.specs.of_zpl_lowering.Where.{Where, Next, line_of}
use Rattle.lowering_fits.specs.of_zpl_lowering.Lowered.{Lowered}
use Rattle.lowering_fits.specs.of_zpl_lowering.Statement as low
use Rattle.lowering_fits.specs.of_zpl_lowering.Statement.{Lowering}
use Rattle.lowering_runs.specs.Seen.{numbered, place_of, seen_place, seen_thing}
use Rattle.lowering_runs.specs.Run.{does}
use Rattle.lowering_runs.specs.Agrees.{Agrees}
use Rattle.lowering_runs.specs.Scalars.{IsScalarExpr, IsScalarAt}
use Rattle.lowering_runs.specs.Stands.{IsLike}
use Rattle.lowering_runs.specs.Goes.{World, context, lowering, Goes}
use Rattle.lowering_runs.specs.Called.{CallsAgree}
use Rattle.lowering_runs.specs.ScalarText.{AreScalarActuals, AreScalarTexts, AreScalarStmts, AreScalarArms, IsScalarElse}
use Rattle.lowering_runs.specs.Served.{IsServed, AreServed, IsServedForm}
use Rattle.lowering_runs.specs.Leaves.{IsScalarAssigned, AreScalarItems, AreServedActuals, IsServedInvoke, ScalarLeaf}
use Rattle.lowering_runs.specs.Suits.{ScalarBound, ScalarTest, SuitsStmt, SuitAll, SuitsForm, SuitArms, SuitsElse}
use Rattle.lowering_runs.proofs.NumberLemmas.{get_some, number_below}
use Rattle.lowering_runs.proofs.ValueLemmas.{thing_seen, known_thing}
use Rattle.lowering_runs.proofs.ScalarLemmas.{assigned_agrees}
use Rattle.lowering_runs.proofs.FitLemmas.{room_here}
use Rattle.lowering_runs.proofs.ControlLemmas.{scalar_tests}
use Rattle.lowering_runs.proofs.HeadLemmas.{scalar_values}
use Rattle.lowering_runs.proofs.SuitLemmas.{goes_by, goes_more, leaf_goes, FormGoes, suited_goes}
use Rattle.lowering_runs.proofs.PrintLemmas.{write_goes}
use Rattle.lowering_runs.proofs.CallLemmas.{invoke_goes}

-- ---- proper expressions of rank 0 are scalars

read_scalar : (currents : Currents) (thing : Option Thing) → IsRead currents (Some 0) thing
    → IsScalarName thing
read_scalar currents (Some (Scalar place)) h = tt
read_scalar currents (Some (Fixed value)) h = tt
read_scalar currents (Some (ArrayAt place home)) h = h
read_scalar currents None h = tt

proper_scalar : (place : Place) (expr : Expr) → IsScalarExpr expr → IsProper place (Some 0) expr
    → IsScalar place.environment expr
proper_scalar place (Number at value) s h = tt
proper_scalar place (Truth at value) s h = tt
proper_scalar place (Named at name) s h =
    read_scalar place.currents (thing_of place.environment name.text) h
proper_scalar place (Paren at inside) s h = proper_scalar place inside s h
proper_scalar place (Neg at operand) s h = proper_scalar place operand s h
proper_scalar place (Not at operand) s h = proper_scalar place operand s h
proper_scalar place (Abs at operand) s h = proper_scalar place operand s h
proper_scalar place (Pair at op left right) s h =
    (proper_scalar place left s.0 h.0, proper_scalar place right s.1 h.1)
proper_scalar place (Coord at k) s h = absurd s
proper_scalar place (Shifted at name shift) s h = absurd s
proper_scalar place (Around at name shift) s h = absurd s
proper_scalar place (Remap at name indices) s h = absurd s
proper_scalar place (Call at name actuals) s h = absurd s
proper_scalar place (Reduce at operator over operand) s h = absurd s
proper_scalar place (Scan at operator along operand) s h = absurd s
proper_scalar place (Flood at source operand) s h = absurd s

pub scalar_at : (place : Place) (role : Role) (expr : Expr) → IsScalarExpr expr
    → rank_in place role expr ≡ Some 0 → IsProperWhole place role expr → IsScalarAt place expr
scalar_at place role expr s r h =
    (s, proper_scalar place expr s (subst (λ (rank : Rank). IsProper place rank expr) r h))

pub role_scalar : (place : Place) (role : Role) (expr : Expr) → IsScalarExpr expr
    → IsProperScalar place role expr → IsScalarAt place expr
role_scalar place role expr s h = scalar_at place role expr s h.0 h.1

pub items_scalar : (place : Place) (items : List Item) → AreScalarTexts (reach_of place) items
    → AreProperItems place items → AreScalarItems place items
items_scalar place [] s h = tt
items_scalar place (Str bytes ∷ items) s h = items_scalar place items s h
items_scalar place (Value expr ∷ items) s h =
    (s.0, scalar_at place Printed expr s.1 s.0 h.0.1, items_scalar place items s.2 h.1)

variable_some : (thing : Option Thing) → IsVariable thing → IsSome thing
variable_some (Some thing) h = refl
variable_some None h = absurd h

array_some : (thing : Option Thing) → IsArray thing → IsSome thing
array_some (Some thing) h = refl
array_some None h = absurd h

pub actuals_served : (place : Place) (formals : List Formal) (actuals : Exprs)
    → AreScalarActuals formals actuals → AreProperActuals place formals actuals
    → AreServedActuals place formals actuals
actuals_served place [] actuals s h = tt
actuals_served place (formal ∷ formals) NoExpr s h = tt
actuals_served place (ScalarFormal false base ∷ formals) (ThenExpr actual rest) s h =
    (role_scalar place Actual actual s.0 h.0, actuals_served place formals rest s.1 h.1)
actuals_served place (ScalarFormal true base ∷ formals) (ThenExpr actual rest) s h = (
  variable_some (actual_thing place.environment actual) h.0,
  actuals_served place formals rest s h.1,
)
actuals_served place (ArrayFormal true base shape ∷ formals) (ThenExpr actual rest) s h = (
  array_some (actual_thing place.environment actual) h.0,
  actuals_served place formals rest s h.1,
)
actuals_served place (ArrayFormal false base shape ∷ formals) (ThenExpr actual rest) s h = absurd s

-- ---- assignments

assign_plain : (context : Context) (name : Name) (op : Option Op) (value : Expr) (line : ℕ)
    (store : Store) → IsScalarExpr (assigned_expr name op value)
    → mean.assign context name op value line store
    ≡ mean.assign_to context.place (Assigned name op)
    (thing_of context.place.environment name.text) (assigned_expr name op value) line store
assign_plain context name (Some op) value line store h = refl
assign_plain context name None (Number at number) line store h = refl
assign_plain context name None (Truth at truth) line store h = refl
assign_plain context name None (Coord at k) line store h = refl
assign_plain context name None (Named at it) line store h = refl
assign_plain context name None (Shifted at it shift) line store h = refl
assign_plain context name None (Around at it shift) line store h = refl
assign_plain context name None (Remap at it indices) line store h = refl
assign_plain context name None (Paren at inside) line store h = refl
assign_plain context name None (Neg at operand) line store h = refl
assign_plain context name None (Not at operand) line store h = refl
assign_plain context name None (Abs at operand) line store h = refl
assign_plain context name None (Pair at o left right) line store h = refl
assign_plain context name None (Reduce at operator over operand) line store h = refl
assign_plain context name None (Scan at operator along operand) line store h = refl
assign_plain context name None (Flood at source operand) line store h = refl
assign_plain context name None (Call at it actuals) line store h = absurd h

pub lowered_plain : (l : Lowering) (next : Next) (name : Name) (op : Option Op) (value : Expr)
    (line : ℕ) → IsScalarExpr (assigned_expr name op value)
    → low.lowered_assign l next name op value line
    ≡ low.lowered_to l.place (Assigned name op) line next (assigned_expr name op value)
    (thing_of l.place.environment name.text)
lowered_plain l next name (Some op) value line h = refl
lowered_plain l next name None (Number at number) line h = refl
lowered_plain l next name None (Truth at truth) line h = refl
lowered_plain l next name None (Coord at k) line h = refl
lowered_plain l next name None (Named at it) line h = refl
lowered_plain l next name None (Shifted at it shift) line h = refl
lowered_plain l next name None (Around at it shift) line h = refl
lowered_plain l next name None (Remap at it indices) line h = refl
lowered_plain l next name None (Paren at inside) line h = refl
lowered_plain l next name None (Neg at operand) line h = refl
lowered_plain l next name None (Not at operand) line h = refl
lowered_plain l next name None (Abs at operand) line h = refl
lowered_plain l next name None (Pair at o left right) line h = refl
lowered_plain l next name None (Reduce at operator over operand) line h = refl
lowered_plain l next name None (Scan at operator along operand) line h = refl
lowered_plain l next name None (Flood at source operand) line h = refl
lowered_plain l next name None (Call at it actuals) line h = absurd h

pub proper_plain : (place : Place) (name : Name) (op : Option Op) (value : Expr)
    → IsScalarExpr (assigned_expr name op value) → IsProperAssign place name op value
    → IsPlainAssign place name op value
proper_plain place name (Some op) value h p = p
proper_plain place name None (Number at number) h p = p
proper_plain place name None (Truth at truth) h p = p
proper_plain place name None (Coord at k) h p = p
proper_plain place name None (Named at it) h p = p
proper_plain place name None (Shifted at it shift) h p = p
proper_plain place name None (Around at it shift) h p = p
proper_plain place name None (Remap at it indices) h p = p
proper_plain place name None (Paren at inside) h p = p
proper_plain place name None (Neg at operand) h p = p
proper_plain place name None (Not at operand) h p = p
proper_plain place name None (Abs at operand) h p = p
proper_plain place name None (Pair at o left right) h p = p
proper_plain place name None (Reduce at operator over operand) h p = p
proper_plain place name None (Scan at operator along operand) h p = p
proper_plain place name None (Flood at source operand) h p = p
proper_plain place name None (Call at it actuals) h p = absurd h

module _ (world : World) where
  pub assign_goes : (at : ℕ) (name : Name) (op : Option Op) (value : Expr)
      → Goes world (IsScalarAssigned name op value)
      (λ c store. mean.exec_form c world.turns at (Assign name op value) store)
      (λ l next. low.lowered_form l next at (Assign name op value)) 0
  assign_goes at name op value sight w next start stands served room store now like =
      let Like = IsLike world.tables sight.spots w next start in
      let p = seen_place sight w start in
      let line = line_of w at in
      let role = Assigned name op in
      let expr = assigned_expr name op value in
      subst (λ (o : Outcome). Agrees Like world.turns 0 o
      (does world.tables world.turns
      (low.lowered_assign (lowering world w) next name op value line).code now))
      (sym (assign_plain (context world sight w start) name op value line store served.scalar))
      (subst (λ (x : Lowered). Agrees Like world.turns 0
      (mean.assign_to p role (thing_of p.environment name.text) expr line store)
      (does world.tables world.turns x.code now))
      (sym (lowered_plain (lowering world w) next name op value line served.scalar))
      (subst (λ (t : Option Thing). Agrees Like world.turns 0
      (mean.assign_to p role t expr line store)
      (does world.tables world.turns
      (low.lowered_to w role line next expr (thing_of w.environment name.text)).code now))
      (sym (thing_seen sight.spots w.environment.names name.text))
      (by (thing_of w.environment name.text) refl
      (subst (λ (t : Option Thing). IsTarget p.currents (Some 0) t)
      (thing_seen sight.spots w.environment.names name.text) served.target))))
    where
      by : (thing : Option Thing) → thing_of w.environment name.text ≡ thing
          → IsTarget (seen_place sight w start).currents (Some 0)
          (option_map (seen_thing sight.spots) thing)
          → Agrees (IsLike world.tables sight.spots w next start) world.turns 0
          (mean.assign_to (seen_place sight w start) (Assigned name op)
          (option_map (seen_thing sight.spots) thing) (assigned_expr name op value)
          (line_of w at) store)
          (does world.tables world.turns
          (low.lowered_to w (Assigned name op) (line_of w at) next (assigned_expr name op value)
          thing).code now)
      by (Some (Scalar q)) e t =
          let k = slice_index_or (numbered sight.spots) q 0 in
          let below : q < length (numbered sight.spots) =
          known_thing (length (numbered sight.spots)) (length w.numbers.arrays)
          w.environment.names name.text (Scalar q) stands.known e in
          let found : slice_get (numbered sight.spots) q ≡ Some k =
          get_some (numbered sight.spots) q 0 below in
          let here = room_here world.tables next
          (low.lowered_form (lowering world w) next at (Assign name op value)) room in
          let lt : k < next.scalars =
          (number_below 0 (numbered sight.spots) next.scalars q k stands.rises found).1 in
          subst (λ (o : Option ℕ). Agrees (IsLike world.tables sight.spots w next start) world.turns
          0 (mean.assign_scalar (seen_place sight w start) (Assigned name op)
          (place_of sight.spots q) (assigned_expr name op value) (line_of w at) store)
          (does world.tables world.turns
          (low.lowered_scalar w (line_of w at) next
          (low.placed_in w (Assigned name op) (assigned_expr name op value)) o).code now))
          (sym (ap (λ (ks : List ℕ). slice_get ks q) (sym stands.numbers) ∙ found))
          (assigned_agrees world.tables world.turns sight w next start stands here
          (Assigned name op) (line_of w at) q k (assigned_expr name op value) served.value_is found
          (omega (arith, lt, here)) store now like)
      by (Some (ArrayAt q home)) e t = absurd t
      by (Some (Fixed value)) e t = absurd t
      by None e t = absurd t

-- ---- forms that have no statements in them

module _ (world : World) (setup : Setup) (IsCallable : List ℕ → Type 0)
    (calls : CallsAgree world setup IsCallable) where
  abbrev Leaf : ℕ → Form → Where → Place → Type 0
  Leaf = ScalarLeaf setup IsCallable

  no_leaf : (at : ℕ) (form : Form) → ((w : Where) (p : Place) → Leaf at form w p → ⊥)
      → FormGoes world Leaf at form
  no_leaf at form never sight w next start stands served room store now like =
      absurd (never w (seen_place sight w start) served)

  pub scalar_leaves : (at : ℕ) (form : Form) → FormGoes world Leaf at form
  scalar_leaves at (Assign name op value) =
      goes_more world (IsScalarAssigned name op value)
      (λ c store. mean.exec_form c world.turns at (Assign name op value) store)
      (λ l next. low.lowered_form l next at (Assign name op value))
      (assign_goes world at name op value)
  scalar_leaves at (Invoke name actuals) =
      goes_more world (IsServedInvoke setup IsCallable name actuals)
      (λ c store. mean.exec_form c world.turns at (Invoke name actuals) store)
      (λ l next. low.lowered_form l next at (Invoke name actuals))
      (invoke_goes world setup IsCallable calls at name actuals)
  scalar_leaves at (Write ends items) =
      goes_more world (λ w p. AreScalarItems p items)
      (λ c store. mean.exec_form c world.turns at (Write ends items) store)
      (λ l next. low.lowered_form l next at (Write ends items))
      (write_goes world at ends items)
  scalar_leaves at (Block body) = no_leaf at (Block body) (λ w p h. h)
  scalar_leaves at (If arms otherwise) = no_leaf at (If arms otherwise) (λ w p h. h)
  scalar_leaves at (While test body) = no_leaf at (While test body) (λ w p h. h)
  scalar_leaves at (Repeat body until test) = no_leaf at (Repeat body until test) (λ w p h. h)
  scalar_leaves at (For head body) = no_leaf at (For head body) (λ w p h. h)
  scalar_leaves at (Border kind names) = no_leaf at (Border kind names) (λ w p h. h)
  scalar_leaves at (Return value) = no_leaf at (Return value) (λ w p h. h)

-- ---- the statements in a statement

pub contains_first : (first : Stmt) (rest : List Stmt) → Contains (first ∷ rest) first
contains_first first rest = (0, omega arith, refl)

pub contains_later : (first : Stmt) (rest : List Stmt) (stmt : Stmt) → Contains rest stmt
    → Contains (first ∷ rest) stmt
contains_later first rest stmt c = (suc c.0, omega (arith, c.1), c.2)

pub false_choice : (b : Bool) (place : Place) (form : Form) → b ≡ false → IsProperTested b place form
    → IsProperTested false place form
false_choice b place form e h = subst (λ (c : Bool). IsProperTested c place form) e h

module _ (world : World) (setup : Setup) (IsCallable : List ℕ → Type 0)
    (calls : CallsAgree world setup IsCallable)
    (proper : (place : Place) (stmt : Stmt) → IsVisited setup place stmt → IsProperStmt place stmt)
  where
    -- one in a form
    part_visited : (at : ℕ) (form : Form) (place : Place) → IsServedForm setup IsCallable at form place
        → (stmt : Stmt) → Contains (parts_of form) stmt → IsVisited setup place stmt
    part_visited at form place h stmt c = Holds place place at [] form stmt h.visited Itself c

    proper_form : (at : ℕ) (form : Form) (place : Place) → IsServedForm setup IsCallable at form place
        → IsProperForm place form
    proper_form at form place h = proper place (Prefixed at [] form) h.visited

    -- what stands behind the arms, and the arms
    pub record IsElse (otherwise : Otherwise) (place : Place) : Type 0 where
      pub setup_is : place.setup ≡ setup
      pub visited : (stmt : Stmt) → Contains (else_parts otherwise) stmt → IsVisited setup place stmt
      pub scalar : IsScalarElse IsCallable (reach_of place) otherwise

    pub record AreArms (arms : Arms) (otherwise : Otherwise) (place : Place) : Type 0 where
      pub setup_is : place.setup ≡ setup
      pub visited : (stmt : Stmt) → Contains (arms_parts arms ++ else_parts otherwise) stmt
          → IsVisited setup place stmt
      pub tests : AreProperTests place arms
      pub scalar : AreScalarArms IsCallable (reach_of place) arms
      pub scalar_else : IsScalarElse IsCallable (reach_of place) otherwise

    assigned_of : (at : ℕ) (name : Name) (op : Option Op) (value : Expr) (w : Where) (place : Place)
        → IsServedForm setup IsCallable at (Assign name op value) place
        → IsScalarAssigned name op value w place
    assigned_of at name op value w place h =
        let s = h.scalar.2 in
        let p = proper_plain place name op value s (proper_form at (Assign name op value) place h) in
        record {
          scalar = s;
          target = subst (λ (r : Rank). IsTarget place.currents r
              (thing_of place.environment name.text)) h.scalar.0 p.0;
          value_is = scalar_at place (Assigned name op) (assigned_expr name op value) s h.scalar.1 p.1;
        }

    invoked_of : (at : ℕ) (name : Name) (actuals : Exprs) (w : Where) (place : Place)
        → IsServedForm setup IsCallable at (Invoke name actuals) place
        → IsServedInvoke setup IsCallable name actuals w place
    invoked_of at name actuals w place h =
        let c = proper_form at (Invoke name actuals) place h in
        record {
          setup_is = h.setup_is;
          callable = h.scalar.1;
          actuals_are = actuals_served place (formals_in (kind_of place.scope name)) actuals h.scalar.0
              (subst (λ (fs : List Formal). AreProperActuals place fs actuals)
              (sym (ap formals_in c.called)) c.taken);
          visited = λ values before many routine store named.
              Calls place place at [] (Invoke name actuals) name actuals values before store 0 routine
              h.visited Itself AsStatement many named;
        }

    first_of : (first : Stmt) (rest : Stmts) (place : Place)
        → AreServed setup IsCallable (ThenStmt first rest) place
        → IsServed setup IsCallable first place × AreServed setup IsCallable rest place
    first_of first rest place h = (
      record {
        setup_is = h.setup_is;
        visited = h.visited first (contains_first first (list_of rest));
        scalar = h.scalar.0;
      },
      record {
        setup_is = h.setup_is;
        visited = λ stmt c. h.visited stmt (contains_later first (list_of rest) stmt c);
        scalar = h.scalar.1;
      },
    )

    body_of : (at : ℕ) (form : Form) (body : Stmts) (place : Place)
        → IsServedForm setup IsCallable at form place → parts_of form ≡ list_of body
        → AreScalarStmts IsCallable (reach_of place) body → AreServed setup IsCallable body place
    body_of at form body place h e s = record {
      setup_is = h.setup_is;
      visited = λ stmt c. part_visited at form place h stmt
          (subst (λ (xs : List Stmt). Contains xs stmt) (sym e) c);
      scalar = s;
    }

    -- the body of the first arm, and what comes behind it
    arm_of : (own : ℕ) (test : Expr) (body : Stmts) (rest : Arms) (otherwise : Otherwise)
        (place : Place) → AreArms (ThenArm (Tested own test body) rest) otherwise place
        → IsScalarAt place test × AreServed setup IsCallable body place × AreArms rest otherwise place
    arm_of own test body rest otherwise place h =
        let all = arms_parts rest ++ else_parts otherwise in
        let front = list_of body ++ arms_parts rest in (
          role_scalar place TestRole test h.scalar.0.0 h.tests.0,
          record {
            setup_is = h.setup_is;
            visited = λ stmt c. h.visited stmt
                (Contains-append_left front (else_parts otherwise) stmt
                (Contains-append_left (list_of body) (arms_parts rest) stmt c));
            scalar = h.scalar.0.1;
          },
          record {
            setup_is = h.setup_is;
            visited = λ stmt c. h.visited stmt
                (subst (λ (xs : List Stmt). Contains xs stmt)
                (sym (append_assoc (list_of body) (arms_parts rest) (else_parts otherwise)))
                (Contains-append_right (list_of body) all stmt c));
            tests = h.tests.1;
            scalar = h.scalar.1;
            scalar_else = h.scalar_else;
          },
        )

    arms_of : (at : ℕ) (arms : Arms) (otherwise : Otherwise) (place : Place)
        → IsServedForm setup IsCallable at (If arms otherwise) place
        → (is_shattered (reach_of place) (If arms otherwise) ≡ false) × AreArms arms otherwise place
    arms_of at arms otherwise place h =
        let form = If arms otherwise in (
          h.scalar.0,
          record {
            setup_is = h.setup_is;
            visited = part_visited at form place h;
            tests = false_choice (is_shattered (reach_of place) form) place form h.scalar.0
                (proper_form at form place h);
            scalar = h.scalar.1;
            scalar_else = h.scalar.2;
          },
        )

    while_of : (at : ℕ) (test : Expr) (body : Stmts) (place : Place)
        → IsServedForm setup IsCallable at (While test body) place
        → (is_shattered (reach_of place) (While test body) ≡ false)
        × (IsScalarAt place test × AreServed setup IsCallable body place)
    while_of at test body place h =
        let form = While test body in
        let p = false_choice (is_shattered (reach_of place) form) place form h.scalar.0
        (proper_form at form place h) in (
          h.scalar.0,
          (
            role_scalar place TestRole test h.scalar.1 p,
            body_of at form body place h refl h.scalar.2,
          ),
        )

    repeat_of : (at : ℕ) (body : Stmts) (until : ℕ) (test : Expr) (place : Place)
        → IsServedForm setup IsCallable at (Repeat body until test) place
        → (is_shattered (reach_of place) (Repeat body until test) ≡ false)
        × (IsScalarAt place test × AreServed setup IsCallable body place)
    repeat_of at body until test place h =
        let form = Repeat body until test in
        let p = false_choice (is_shattered (reach_of place) form) place form h.scalar.0
        (proper_form at form place h) in (
          h.scalar.0,
          (
            role_scalar place TestRole test h.scalar.1 p,
            body_of at form body place h refl h.scalar.2,
          ),
        )

    -- ---- each form suits its place

    -- no prefix
    abbrev Bare : Bool → List Prefix → (Where → Place → Type 0) → Where → Place → Type 0
    Bare borders [] IsServed w p = IsServed w p
    Bare borders (prefix ∷ rest) IsServed w p = ⊥

    bare_goes : (borders : Bool) (prefixes : List Prefix) (IsServed : Where → Place → Type 0)
        (run : Context → Store → Outcome) (made : Lowering → Next → Lowered) (spare : ℕ)
        → Goes world IsServed run made spare → Goes world (Bare borders prefixes IsServed)
        (λ c store. mean.under c prefixes store (λ inner. run inner store))
        (λ l next. low.lowered_under borders l next prefixes made) spare
    bare_goes borders [] IsServed run made spare goes = goes
    bare_goes borders (prefix ∷ rest) IsServed run made spare goes = λ sight w next start stands served room
        store now like. absurd served

    mutual
      stmt_suits : (stmt : Stmt) (w : Where) (p : Place) → IsServed setup IsCallable stmt p
          → SuitsStmt Bare (ScalarLeaf setup IsCallable) stmt w p
      stmt_suits (Prefixed at [] form) w p h =
          form_suits form at w p (record {
            setup_is = h.setup_is;
            visited = h.visited;
            scalar = h.scalar.1;
          })
      stmt_suits (Prefixed at (prefix ∷ rest) form) w p h = absurd h.scalar.0

      all_suit : (stmts : Stmts) (w : Where) (p : Place) → AreServed setup IsCallable stmts p
          → SuitAll Bare (ScalarLeaf setup IsCallable) stmts w p
      all_suit NoStmt w p h = tt
      all_suit (ThenStmt first rest) w p h =
          let both = first_of first rest p h in
          (stmt_suits first w p both.0, all_suit rest w p both.1)

      form_suits : (form : Form) (at : ℕ) (w : Where) (p : Place)
          → IsServedForm setup IsCallable at form p
          → SuitsForm Bare (ScalarLeaf setup IsCallable) at form w p
      form_suits (Assign name op value) at w p h = assigned_of at name op value w p h
      form_suits (Invoke name actuals) at w p h = invoked_of at name actuals w p h
      form_suits (Block body) at w p h =
          all_suit body w p (body_of at (Block body) body p h refl h.scalar)
      form_suits (If arms otherwise) at w p h =
          let a = arms_of at arms otherwise p h in
          inr (
            a.0,
            (
              arms_suit arms otherwise w p a.1,
              else_suits otherwise w p (record {
                setup_is = h.setup_is;
                visited = λ stmt c. a.1.visited stmt
                    (Contains-append_right (arms_parts arms) (else_parts otherwise) stmt c);
                scalar = h.scalar.2;
              }),
            ),
          )
      form_suits (While test body) at w p h =
          let a = while_of at test body p h in
          inr (a.0, (a.1.0, all_suit body w p a.1.1))
      form_suits (Repeat body until test) at w p h =
          let a = repeat_of at body until test p h in
          inr (a.0, (a.1.0, all_suit body w p a.1.1))
      form_suits (For head body) at w p h =
          let f = proper_form at (For head body) p h in (
            (
              role_scalar p Limit head.first h.scalar.0 f.1,
              role_scalar p Limit head.last h.scalar.1 f.2,
              role_scalar p Limit (step_expr head.step) h.scalar.2 f.3,
              f.0,
            ),
            all_suit body w p (body_of at (For head body) body p h refl h.scalar.3),
          )
      form_suits (Border kind names) at w p h = absurd h.scalar
      form_suits (Write ends items) at w p h =
          items_scalar p items h.scalar (proper_form at (Write ends items) p h)
      form_suits (Return value) at w p h = absurd h.scalar

      arms_suit : (arms : Arms) (otherwise : Otherwise) (w : Where) (p : Place)
          → AreArms arms otherwise p → SuitArms Bare (ScalarLeaf setup IsCallable) arms w p
      arms_suit NoArm otherwise w p h = tt
      arms_suit (ThenArm (Tested own test body) rest) otherwise w p h =
          let a = arm_of own test body rest otherwise p h in
          ((a.0, all_suit body w p a.1), arms_suit rest otherwise w p a.2)

      else_suits : (otherwise : Otherwise) (w : Where) (p : Place) → IsElse otherwise p
          → SuitsElse Bare (ScalarLeaf setup IsCallable) otherwise w p
      else_suits NoElse w p h = tt
      else_suits (Else body) w p h =
          all_suit body w p
          (record { setup_is = h.setup_is; visited = h.visited; scalar = h.scalar })

    pub stmt_agrees : (stmt : Stmt)
        → Goes world (λ w p. IsServed setup IsCallable stmt p)
        (λ c store. mean.exec c world.turns stmt store) (λ l next. low.lowered l next stmt) 0
    stmt_agrees stmt =
        goes_by world (λ w p. IsServed setup IsCallable stmt p)
        (SuitsStmt Bare (ScalarLeaf setup IsCallable) stmt)
        (λ c store. mean.exec c world.turns stmt store) (λ l next. low.lowered l next stmt) 0
        (λ w p h. stmt_suits stmt w p h)
        (suited_goes world Bare ScalarTest ScalarBound (ScalarLeaf setup IsCallable) bare_goes
        (scalar_tests world) (scalar_values world)
        (λ at form. leaf_goes world (ScalarLeaf setup IsCallable) at form
        (scalar_leaves world setup IsCallable calls at form)) stmt)
