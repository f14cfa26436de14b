-- A call as a statement.
use Rattle.std.proofs.Common.{◌≡◌, ℕ, suc, ◌+◌, ◌≤◌, true, false, ℤ, List, [], ◌∷◌}
use Rattle.std.proofs.Common.{◌++◌, map, length, Option, Some, None, refl, sym, ap, ◌∙◌, subst, arith}
use Rattle.std.specs.Option.{option_map}
use Rattle.std.specs.Prelude.{IsSome}
use Rattle.zpl_tree.specs.Syntax.{Name, Expr, Number, Truth, Coord, Named, Shifted, Around, Remap, Call, Paren, Neg, Not, Abs, Pair, Reduce, Scan, Flood, Exprs, NoExpr, ThenExpr, Invoke}
use Rattle.zpl_names.specs.Kinds.{Formal, ScalarFormal, ArrayFormal}
use Rattle.zpl_names.specs.Scope.{kind_of}
use Rattle.zpl_names.specs.Sites.{Actual}
use Rattle.lowering_fits.specs.of_zpl_meaning.Store.{Store, Thing, Environment, thing_of}
use Rattle.lowering_fits.specs.of_zpl_meaning.Context.{Place, Setup}
use Rattle.lowering_fits.specs.of_zpl_meaning.Phases as mean_phases
use Rattle.lowering_fits.specs.of_zpl_meaning.Phases.{scalars_in}
use Rattle.lowering_fits.specs.of_zpl_meaning.Outcome as out
use Rattle.lowering_fits.specs.of_zpl_meaning.Outcome.{Outcome}
use Rattle.lowering_fits.specs.of_zpl_meaning.Calls as mean_calls
use Rattle.lowering_fits.specs.of_zpl_meaning.Calls.{Handed, Called, formals_in, actual_thing, handed_on}
use Rattle.lowering_fits.specs.of_zpl_meaning.Settled as mean_settled
use Rattle.lowering_fits.specs.of_zpl_meaning.Visited.{IsVisitedCall}
use Rattle.lowering_fits.specs.of_zpl_meaning.Statement as mean_statement
use Rattle.row_runs.specs.Structured as code
use Rattle.row_runs.specs.Structured.{Course}
use Rattle.lowering_fits.specs.of_flat_form.Whole.{Whole}
use Rattle.lowering_fits.specs.of_zpl_lowering.Where.{Where, Next, line_of}
use Rattle.lowering_fits.specs.of_zpl_lowering.Lowered.{behind, joined, phased}
use Rattle.lowering_fits.specs.of_zpl_lowering.Statement as low
use Rattle.lowering_fits.specs.of_zpl_lowering.Statement.{Given, Lowering}
use Rattle.lowering_runs.specs.Seen.{scalar_in, Spot, Sight, numbered, seen_place, seen_thing, seen_names}
use Rattle.lowering_runs.specs.Run.{does}
use Rattle.lowering_runs.specs.Agrees.{Agrees}
use Rattle.lowering_runs.specs.Stands.{IsKnown, Stands, HasRoom, IsLike}
use Rattle.lowering_runs.specs.Frames.{seen_given, AreGiven}
use Rattle.lowering_runs.specs.Goes.{World, Goes}
use Rattle.lowering_runs.specs.Leaves.{AreServedActuals, IsServedInvoke}
use Rattle.lowering_runs.specs.Called.{calling_at, CallsAgree}
use Rattle.lowering_runs.proofs.FitLemmas.{room_coded, room_first, room_rest}
use Rattle.lowering_runs.proofs.ValueLemmas.{thing_seen, known_thing}
use Rattle.lowering_runs.specs.Values.{AreSet, Hold, meant}
use Rattle.lowering_runs.proofs.ListLemmas.{AreScalarsAt, filled_agrees, meant_length}
use Rattle.lowering_runs.proofs.HeadLemmas.{phased_length, scalars_go, with_computed_value}

pub actual_seen : (spots : List Spot) (environment : Environment) (actual : Expr)
    → actual_thing (record { names = seen_names spots environment.names }) actual
    ≡ option_map (seen_thing spots) (actual_thing environment actual)
actual_seen spots environment (Named at name) = thing_seen spots environment.names name.text
actual_seen spots environment (Number at value) = refl
actual_seen spots environment (Truth at value) = refl
actual_seen spots environment (Coord at k) = refl
actual_seen spots environment (Shifted at name shift) = refl
actual_seen spots environment (Around at name shift) = refl
actual_seen spots environment (Remap at name indices) = refl
actual_seen spots environment (Call at name actuals) = refl
actual_seen spots environment (Paren at inside) = refl
actual_seen spots environment (Neg at operand) = refl
actual_seen spots environment (Not at operand) = refl
actual_seen spots environment (Abs at operand) = refl
actual_seen spots environment (Pair at op left right) = refl
actual_seen spots environment (Reduce at operator over operand) = refl
actual_seen spots environment (Scan at operator along operand) = refl
actual_seen spots environment (Flood at source operand) = refl

pub actual_known : (scalars arrays : ℕ) (environment : Environment) (actual : Expr) (thing : Thing)
    → ((text : List ℕ) → thing_of environment text ≡ Some thing → IsKnown scalars arrays thing)
    → actual_thing environment actual ≡ Some thing → IsKnown scalars arrays thing
actual_known scalars arrays environment (Named at name) thing h e = h name.text e
actual_known scalars arrays environment (Number at value) thing h e = cc
actual_known scalars arrays environment (Truth at value) thing h e = cc
actual_known scalars arrays environment (Coord at k) thing h e = cc
actual_known scalars arrays environment (Shifted at name shift) thing h e = cc
actual_known scalars arrays environment (Around at name shift) thing h e = cc
actual_known scalars arrays environment (Remap at name indices) thing h e = cc
actual_known scalars arrays environment (Call at name actuals) thing h e = cc
actual_known scalars arrays environment (Paren at inside) thing h e = cc
actual_known scalars arrays environment (Neg at operand) thing h e = cc
actual_known scalars arrays environment (Not at operand) thing h e = cc
actual_known scalars arrays environment (Abs at operand) thing h e = cc
actual_known scalars arrays environment (Pair at op left right) thing h e = cc
actual_known scalars arrays environment (Reduce at operator over operand) thing h e = cc
actual_known scalars arrays environment (Scan at operator along operand) thing h e = cc
actual_known scalars arrays environment (Flood at source operand) thing h e = cc

module _ (sight : Sight) (w : Where) (start : Whole) where
  abbrev place : Place
  place = seen_place sight w start

  pub value_scalars : (formals : List Formal) (actuals : Exprs) → AreServedActuals place formals actuals
      → AreScalarsAt place (low.value_exprs w formals actuals)
  value_scalars [] actuals h = tt
  value_scalars (formal ∷ formals) NoExpr h = tt
  value_scalars (ScalarFormal false base ∷ formals) (ThenExpr actual rest) h =
      (h.0, value_scalars formals rest h.1)
  value_scalars (ScalarFormal true base ∷ formals) (ThenExpr actual rest) h =
      value_scalars formals rest h.1
  value_scalars (ArrayFormal true base shape ∷ formals) (ThenExpr actual rest) h =
      value_scalars formals rest h.1
  value_scalars (ArrayFormal false base shape ∷ formals) (ThenExpr actual rest) h = absurd h

  pub value_meant : (formals : List Formal) (actuals : Exprs)
      → meant (low.value_exprs w formals actuals) ≡ mean_calls.value_exprs place formals actuals
  value_meant [] actuals = refl
  value_meant (formal ∷ formals) NoExpr = refl
  value_meant (ScalarFormal false base ∷ formals) (ThenExpr actual rest) =
      ap (λ es. mean_phases.placed_in place Actual actual ∷ es) (value_meant formals rest)
  value_meant (ScalarFormal true base ∷ formals) (ThenExpr actual rest) = value_meant formals rest
  value_meant (ArrayFormal true base shape ∷ formals) (ThenExpr actual rest) =
      value_meant formals rest
  value_meant (ArrayFormal false base shape ∷ formals) (ThenExpr actual rest) =
      value_meant formals rest

  pub referred_is : (actual : Expr) (after : Whole) (rest : List Handed) (more : List Given)
      → IsSome (actual_thing place.environment actual)
      → rest ≡ map (seen_given sight.spots after) more
      → mean_calls.referred (actual_thing place.environment actual) ∷ rest
      ≡ map (seen_given sight.spots after)
      (low.referring (actual_thing w.environment actual) ++ more)
  referred_is actual after rest more some e =
      by (actual_thing w.environment actual) (actual_seen sight.spots w.environment actual)
    where
      by : (thing : Option Thing)
          → actual_thing place.environment actual ≡ option_map (seen_thing sight.spots) thing
          → mean_calls.referred (actual_thing place.environment actual) ∷ rest
          ≡ map (seen_given sight.spots after) (low.referring thing ++ more)
      by (Some thing) q =
          ap (λ t. mean_calls.referred t ∷ rest) q
          ∙ ap (λ r. mean_calls.Referred (seen_thing sight.spots thing) ∷ r) e
      by None q = absurd (none_some (subst (λ (o : Option Thing). IsSome o) q some))
        where
          none_some : IsSome (let n : Option Thing = None in n) → ⊥
          none_some h = cc

  pub handed_is : (formals : List Formal) (actuals : Exprs) (k : ℕ) (values : List ℤ) (store : Store)
      (after : Whole) → AreServedActuals place formals actuals
      → length values ≡ length (low.value_exprs w formals actuals) → Hold after k values
      → handed_on place.environment store formals actuals values
      ≡ map (seen_given sight.spots after) (low.given_to w k formals actuals)
  handed_is [] actuals k values store after h many held = refl
  handed_is (formal ∷ formals) NoExpr k values store after h many held = refl
  handed_is (ScalarFormal false base ∷ formals) (ThenExpr actual rest) k [] store after h many held =
      absurd (omega (arith, many))
  handed_is (ScalarFormal false base ∷ formals) (ThenExpr actual rest) k (value ∷ values) store after
      h many held =
      ap (λ (v : ℤ). mean_calls.Copied v ∷ handed_on place.environment store formals rest values)
      (sym held.0)
      ∙ ap (λ hs. mean_calls.Copied (scalar_in after k) ∷ hs)
      (handed_is formals rest (suc k) values store after h.1 (omega (arith, many)) held.1)
  handed_is (ScalarFormal true base ∷ formals) (ThenExpr actual rest) k values store after h many
      held =
      referred_is actual after _ (low.given_to w k formals rest) h.0
      (handed_is formals rest k values store after h.1 many held)
  handed_is (ArrayFormal true base shape ∷ formals) (ThenExpr actual rest) k values store after h
      many held =
      referred_is actual after _ (low.given_to w k formals rest) h.0
      (handed_is formals rest k values store after h.1 many held)
  handed_is (ArrayFormal false base shape ∷ formals) (ThenExpr actual rest) k values store after h
      many held = absurd h

  module _ (next : Next) (stands : Stands sight.spots w next) where
    referring_given : (thing : Option Thing) (k to : ℕ) (more : List Given)
        → ((found : Thing) → thing ≡ Some found
        → IsKnown (length (numbered sight.spots)) (length w.numbers.arrays) found)
        → AreGiven (length (numbered sight.spots)) (length w.numbers.arrays) k more to
        → AreGiven (length (numbered sight.spots)) (length w.numbers.arrays) k
        (low.referring thing ++ more) to
    referring_given None k to more h g = g
    referring_given (Some thing) k to more h g = (h thing refl, g)

    known_actual : (actual : Expr) (found : Thing) → actual_thing w.environment actual ≡ Some found
        → IsKnown (length (numbered sight.spots)) (length w.numbers.arrays) found
    known_actual actual found e =
        actual_known (length (numbered sight.spots)) (length w.numbers.arrays) w.environment actual
        found
        (λ text q. known_thing (length (numbered sight.spots)) (length w.numbers.arrays)
        w.environment.names text found stands.known q) e

    pub given_is : (formals : List Formal) (actuals : Exprs) (k to : ℕ)
        → AreServedActuals place formals actuals
        → k + length (low.value_exprs w formals actuals) ≤ to
        → AreGiven (length (numbered sight.spots)) (length w.numbers.arrays) k
        (low.given_to w k formals actuals) to
    given_is [] actuals k to h le = omega (arith, le)
    given_is (formal ∷ formals) NoExpr k to h le = omega (arith, le)
    given_is (ScalarFormal false base ∷ formals) (ThenExpr actual rest) k to h le =
        (omega arith, given_is formals rest (suc k) to h.1 (omega (arith, le)))
    given_is (ScalarFormal true base ∷ formals) (ThenExpr actual rest) k to h le =
        referring_given (actual_thing w.environment actual) k to (low.given_to w k formals rest)
        (known_actual actual) (given_is formals rest k to h.1 le)
    given_is (ArrayFormal true base shape ∷ formals) (ThenExpr actual rest) k to h le =
        referring_given (actual_thing w.environment actual) k to (low.given_to w k formals rest)
        (known_actual actual) (given_is formals rest k to h.1 le)
    given_is (ArrayFormal false base shape ∷ formals) (ThenExpr actual rest) k to h le = absurd h

pub given_earlier : (scalars arrays from later : ℕ) (givens : List Given) (to : ℕ) → from ≤ later
    → AreGiven scalars arrays later givens to → AreGiven scalars arrays from givens to
given_earlier scalars arrays from later [] to le h = omega (arith, le, h)
given_earlier scalars arrays from later (low.Valued k ∷ givens) to le h = (omega (arith, le, h.0), h.1)
given_earlier scalars arrays from later (low.Referring thing ∷ givens) to le h =
    (h.0, given_earlier scalars arrays from later givens to le h.1)
given_earlier scalars arrays from later (low.Copied stored home ∷ givens) to le h = h

-- ---- the statement

module _ (world : World) (setup : Setup) (IsCallable : List ℕ → Type 0)
    (calls : CallsAgree world setup IsCallable) (at : ℕ) (name : Name) (actuals : Exprs) where
  pub invoke_goes : Goes world (IsServedInvoke setup IsCallable name actuals)
      (λ c store. mean_statement.exec_form c world.turns at (Invoke name actuals) store)
      (λ l next. low.lowered_form l next at (Invoke name actuals)) 0
  invoke_goes sight w next start stands served room store now like =
      let tables = world.tables in
      let n = world.turns in
      let Like = IsLike tables sight.spots w next start in
      let p = seen_place sight w start in
      let line = line_of w at in
      let formals = formals_in (kind_of w.scope name) in
      let exprs = low.value_exprs w formals actuals in
      let phases = phased w line next exprs in
      let first = next.scalars + phases.lowered.scalars in
      let own = low.with_values line first phases in
      let more = behind next own in
      let givens = low.given_to w first formals actuals in
      let calling = calling_at w name.text givens 0 line in
      let scalars = value_scalars sight w start formals actuals served.actuals_are in
      let rooms : HasRoom tables next (joined (code.Rows []) own (world.code calling more)) =
      room_coded tables next (code.Rows []) _ room in
      let many = phased_length w line next exprs in
      let handed : List ℤ → List Handed =
      λ values. handed_on p.environment store formals actuals values in
      let called : List Handed → Called = λ hs.
      record { name = name.text; actuals = hs; currents = p.currents; result = 0 } in
      subst (λ (o : Outcome). Agrees Like n 0 o
      (code.then_do (does tables n own.code now) (does tables n (world.code calling more).code)))
      (sym (with_computed_value (scalars_in p store (mean_calls.value_exprs p formals actuals)) handed
      store line (λ hs. world.call (called hs) store)))
      (subst (λ (es : List mean_settled.Placed). Agrees Like n 0
      (out.with_value (scalars_in p store es) store line (λ vs. world.call (called (handed vs)) store))
      (code.then_do (does tables n own.code now) (does tables n (world.code calling more).code)))
      (value_meant sight w start formals actuals)
      (filled_agrees Like (λ vs after. Like store after × AreSet first (length exprs) vs after) n 0
      line 0 0 store
      (λ vs. world.call (called (handed vs)) store) (does tables n (world.code calling more).code) _ _
      (omega arith)
      (λ vs after l.
      let same : handed vs ≡ map (seen_given sight.spots after) givens =
      handed_is sight w start formals actuals first vs store after served.actuals_are l.1.as_many
      l.1.held in
      subst (λ (hs : List Handed). Agrees Like n 0 (world.call (called hs) store)
      (does tables n (world.code calling more).code after)) (sym same)
      (calls.by sight.spots w next more start name.text givens line served.setup_is stands
      (record { scalars = omega arith; slots = omega arith; arrays = omega arith }) served.callable
      (given_earlier (length (numbered sight.spots)) (length w.numbers.arrays) next.scalars first
      givens more.scalars (omega arith)
      (given_is sight w start next stands formals actuals first more.scalars served.actuals_are
      (omega (arith, many))))
      (room_rest tables next (code.Rows []) own (world.code calling more) rooms) store after l.0
      (subst (λ (hs : List Handed). IsVisitedCall setup (called hs)) same
      (served.visited vs store (l.1.as_many
      ∙ sym (meant_length exprs)
      ∙ ap (λ es. length es) (value_meant sight w start formals actuals))))))
      (scalars_go world sight w next start line exprs stands scalars
      (room_first tables next (code.Rows []) own (world.code calling more) rooms) store now like)))
