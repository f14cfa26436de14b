-- Statements whose expressions are computed one after another into free scalars; `for`.
use Rattle.std.proofs.Common.{◌≡◌, ℕ, zero, suc, ◌+◌, ◌≤◌, ◌<◌, Bool, true, false, not, ◌&&◌, ℤ}
use Rattle.std.proofs.Common.{pos, List, [], ◌∷◌, length, Option, Some, None, refl, sym}
use Rattle.std.proofs.Common.{ap, ◌∙◌, subst, arith}
use Rattle.std.specs.Prelude.{slice_get, slice_index_or, int_lt}
use Rattle.std.specs.Option.{option_map}
use Rattle.zpl_tree.specs.Syntax.{Expr, ForHead, Stmts, For}
use Rattle.zpl_names.specs.Counts.{expr_nodes}
use Rattle.lowering_fits.specs.of_zpl_meaning.Computed as mean
use Rattle.lowering_fits.specs.of_zpl_meaning.Store.{Store, Thing, Scalar, ArrayAt, Fixed, Environment, thing_of}
use Rattle.lowering_fits.specs.of_zpl_meaning.Store as mean_store
use Rattle.lowering_fits.specs.of_zpl_meaning.Context.{Place}
use Rattle.lowering_fits.specs.of_zpl_meaning.Scalars.{AreScalars, values_of}
use Rattle.lowering_fits.specs.of_zpl_meaning.Phases.{scalars_in}
use Rattle.lowering_fits.specs.of_zpl_meaning.Proper.{IsVariable}
use Rattle.lowering_fits.specs.of_zpl_meaning.Outcome as out
use Rattle.lowering_fits.specs.of_zpl_meaning.Outcome.{Outcome, Count, is_past}
use Rattle.lowering_fits.specs.of_zpl_meaning.Statement as mean_statement
use Rattle.lowering_fits.specs.of_zpl_meaning.Statement.{Context, step_expr, start_of, Start}
use Rattle.lowering_fits.proofs.of_zpl_meaning.ScalarLemmas.{scalars_are_values}
use Rattle.node_form.specs.Expression.{Expression, Variable}
use Rattle.row_runs.specs.Straight.{Every}
use Rattle.row_runs.specs.Code.{Decision, Says}
use Rattle.row_runs.specs.Structured as code
use Rattle.row_runs.specs.Structured.{Course, rows_do}
use Rattle.lowering_fits.specs.of_flat_form.Whole.{Whole}
use Rattle.lowering_fits.specs.of_zpl_lowering.Where.{Where, Next, line_of}
use Rattle.lowering_fits.specs.of_zpl_lowering.Lowered.{Lowered, behind, followed, check_of, free_at, phased, rows_alone}
use Rattle.lowering_fits.specs.of_zpl_lowering.Slate as low_slate
use Rattle.lowering_fits.specs.of_zpl_lowering.Statement as low
use Rattle.lowering_fits.specs.of_zpl_lowering.Statement.{Lowering}
use Rattle.lowering_runs.specs.Seen.{Sight, numbered, place_of, seen_place, seen_thing}
use Rattle.lowering_runs.specs.Run.{step, decide, does}
use Rattle.lowering_runs.specs.Agrees.{Agrees}
use Rattle.lowering_runs.specs.Suits.{IsServedHeadBy, ScalarBound}
use Rattle.lowering_runs.specs.Values.{AreSet, Fills, meant, nodes_of}
use Rattle.lowering_runs.specs.Stands.{IsBefore, Stands, HasRoom, IsLike}
use Rattle.lowering_runs.specs.Goes.{World, context, lowering, Goes, ValuesGo}
use Rattle.lowering_runs.proofs.NumberLemmas.{get_some}
use Rattle.lowering_runs.proofs.FitLemmas.{room_coded, room_first, room_rest}
use Rattle.lowering_runs.proofs.AgreeLemmas.{goes_agrees, jumping_agrees}
use Rattle.lowering_runs.proofs.ValueLemmas.{thing_seen, known_thing, scalar_unseen}
use Rattle.lowering_runs.proofs.BareLemmas.{AreScalarsOf, all_passed}
use Rattle.lowering_runs.proofs.ListLemmas.{AreScalarsAt, alike_fills, filled_agrees, left_length, scalars_fill}
use Rattle.lowering_runs.proofs.StepLemmas.{le_not, not_below}
use Rattle.lowering_runs.proofs.ForLemmas.{AtTurn, enters_says, turns_agree, within, within_is}

-- ---- lists of expressions

scalars_meant : (place : Place) (exprs : List low_slate.Placed) → AreScalarsAt place exprs
    → AreScalars place.environment (meant exprs)
scalars_meant place [] h = tt
scalars_meant place (placed ∷ exprs) h = (h.0.1, scalars_meant place exprs h.1)

pub scalars_of : (sight : Sight) (w : Where) (start : Whole) (exprs : List low_slate.Placed)
    → AreScalarsAt (seen_place sight w start) exprs → AreScalarsOf w exprs
scalars_of sight w start [] h = tt
scalars_of sight w start (placed ∷ exprs) h =
    (scalar_unseen sight.spots w.environment placed.expr h.0.1, scalars_of sight w start exprs h.1)

-- as much is left of a statement's expressions as there are
pub phased_length : (w : Where) (line : ℕ) (next : Next) (exprs : List low_slate.Placed)
    → length (phased w line next exprs).left ≡ length exprs
phased_length w line next exprs = left_length w line exprs next (free_at next 0)

pub with_computed_value : {A B : Type 0} (c : mean.Computed A) (g : A → B) (store : Store)
    (line : ℕ) (rest : B → Outcome)
    → out.with_value (mean.computed_then c (λ x. mean.Gives (g x))) store line rest
    ≡ out.with_value c store line (λ x. rest (g x))
with_computed_value (mean.Gives x) g store line rest = refl
with_computed_value (mean.Traps kind) g store line rest = refl

-- values of scalars, without jumps
pub scalars_go : (world : World) (sight : Sight) (w : Where) (next : Next) (start : Whole)
    (line : ℕ) (exprs : List low_slate.Placed) → Stands sight.spots w next
    → AreScalarsAt (seen_place sight w start) exprs
    → (let phases = phased w line next exprs in
    let first = next.scalars + phases.lowered.scalars in
    let own = low.with_values line first phases in
    HasRoom world.tables next own → (store : Store) (now : Whole)
    → IsLike world.tables sight.spots w next start store now
    → Fills (λ values after.
    IsLike world.tables sight.spots w next start store after
    × AreSet first (length exprs) values after) line 0
    (scalars_in (seen_place sight w start) store (meant exprs))
    (does world.tables world.turns own.code now))
scalars_go world sight w next start line exprs stands s room store now like =
    let tables = world.tables in
    let n = world.turns in
    let phases = phased w line next exprs in
    let first = next.scalars + phases.lowered.scalars in
    let place = seen_place sight w start in
    let passed = all_passed w line next exprs (scalars_of sight w start exprs s) in
    let here : next.scalars ≤ tables.scalars = omega (arith, room.scalars) in
    let Filling : mean.Computed (List ℤ) → Course Whole → Type 0 =
    Fills (λ values after. IsLike tables sight.spots w next start store after
    × AreSet first (length exprs) values after) line 0 in
    let rows : List Expression → Whole → Course Whole = λ left now.
    rows_do (step tables n) (decide tables n) (low.value_rows line first left) now in
    subst (λ (c : mean.Computed (List ℤ)). Filling c
    (code.then_do (does tables n phases.lowered.code now) (rows phases.left)))
    (sym (scalars_are_values place store (meant exprs) (scalars_meant place exprs s)))
    (subst (λ (c : Course Whole). Filling (values_of place.environment store (meant exprs))
    (code.then_do c (rows phases.left))) (sym (passed.still tables n now))
    (subst (λ (left : List Expression). Filling (values_of place.environment store (meant exprs))
    (rows left now)) (sym passed.left_is)
    (scalars_fill tables n sight w next start stands here line store exprs first now s (omega arith)
    (omega (arith, room.scalars, phased_length w line next exprs)) like)))

pub scalar_values : (world : World) → ValuesGo world ScalarBound
scalar_values world sight w next start line exprs stands s room store now like =
    alike_fills _ _ line 0 (nodes_of exprs) _ _ (omega arith) (λ vs after h. h)
    (scalars_go world sight w next start line exprs stands s room store now like)

-- ---- `for`

past_turns : (count : Count) (set : ℤ → Store → Store) (body : Store → Outcome) (m : ℕ) (v : ℤ)
    (store : Store) → is_past count v ≡ true
    → out.for_turns m count set body v store ≡ out.goes_on store
past_turns count set body zero v store e =
    ap (λ b. out.choose b out.goes_on out.wants_more store) e
past_turns count set body (suc m) v store e =
    ap (λ b. out.choose b out.goes_on (λ store. out.counting 1 (out.then_do (body (set v store))
    (out.for_turns m count set body (out.next_value count v)))) store) e

-- the nodes of the bounds and the step
abbrev pub head_nodes : ForHead → ℕ
head_nodes head =
    expr_nodes head.first + (expr_nodes head.last + (expr_nodes (step_expr head.step) + 0))

module _ (world : World) (IsBound : Expr → Where → Place → Type 0)
    (bounds : ValuesGo world IsBound) (at : ℕ) (head : ForHead) (body : Stmts)
    (IsServed : Where → Place → Type 0)
    (goes : Goes world IsServed (λ c. mean_statement.exec_all c world.turns body)
    (λ l next. low.lowered_all l next body) 0) where
  abbrev pub IsServedFor : Where → Place → Type 0
  IsServedFor w p = IsServedHeadBy IsBound head w p × IsServed w p

  module _ (sight : Sight) (w : Where) (next : Next) (start : Whole)
      (stands : Stands sight.spots w next) (served : IsServedFor w (seen_place sight w start))
      (room : HasRoom world.tables next (low.lowered_form (lowering world w) next at (For head body)))
    where
      abbrev Like : Store → Whole → Type 0
      Like = IsLike world.tables sight.spots w next start

      abbrev line : ℕ
      line = line_of w at

      abbrev exprs : List low_slate.Placed
      exprs = low.head_exprs w head

      abbrev all_bounds : Every (λ placed. IsBound placed.expr w (seen_place sight w start)) exprs
      all_bounds = (served.0.0, (served.0.1, (served.0.2, tt)))

      abbrev c : ℕ
      c = next.scalars + (phased w line next exprs).lowered.scalars

      abbrev after : Next
      after = behind next (low.with_values line c (phased w line next exprs))

      abbrev inner : Next
      inner = behind after (rows_alone [])

      abbrev inside : Lowered
      inside = low.lowered_all (lowering world w) inner body

      abbrev turns : ℤ → ℤ → ℤ → Thing → Store → Outcome
      turns first by last thing store =
          mean_statement.for_from world.turns (Some thing)
          (record { first = first; count = record { down = head.down; by = by; last = last } })
          (mean_statement.exec_all (context world sight w start) world.turns body) store

      -- the code of the turns, where the variable has a number or none
      abbrev coded : Option ℕ → Lowered
      coded number =
          low.counted head.down (low.counter_from c) line number after
          (λ more. low.lowered_all (lowering world w) more body)

      free : next.scalars ≤ c
      free = omega arith

      fits : c + 3 ≤ world.tables.scalars
      fits = omega (arith, room.scalars, phased_length w line next exprs)

      before : IsBefore next inner
      before = record { scalars = omega arith; slots = omega arith; arrays = omega arith }

      taken : c + 3 ≤ inner.scalars
      taken = omega (arith, phased_length w line next exprs)

      inside_room : HasRoom world.tables inner inside
      inside_room =
          let first = low.with_values line c (phased w line next exprs) in
          let variable = low.scalar_of w.numbers (thing_of w.environment head.name.text) in
          let set_ = rows_alone (low.set_row line (Variable c) variable) in
          let rest = followed after set_ (λ more. low.lowered_all (lowering world w) more body) in
          let rows = room_rest world.tables next (code.Then first.code rest.code) first rest
          (room_coded world.tables next (code.Then first.code rest.code) _ room) in
          room_rest world.tables after (code.Then set_.code inside.code) set_ inside
          (room_coded world.tables after (code.Then set_.code inside.code) _ rows)

      abbrev turn : ℕ → Whole → Course Whole
      turn k now =
          code.then_do (code.then_do
          (rows_do (step world.tables world.turns) (decide world.tables world.turns)
          (low.set_row line (Variable c) (Some k)) now) (does world.tables world.turns inside.code))
          (rows_do (step world.tables world.turns) (decide world.tables world.turns)
          (low.step_row head.down (low.counter_from c) line ∷ []))

      abbrev enter : ℕ → Whole → Course Whole
      enter k i =
          code.jumping (code.repeat_turns (step world.tables world.turns)
          (decide world.tables world.turns) world.turns (turn k) (λ s. code.goes_on s)
          (check_of (low.is_done head.down (low.counter_from c)) line) i)

      either : (p k : ℕ) → slice_get (numbered sight.spots) p ≡ Some k → (first by last : ℤ)
          (store : Store) (begun : Whole)
          → AtTurn world sight w next start stands c free fits head.down by last line first store begun
          → (b : Bool) → int_lt by (pos 1) ≡ b → (past : Bool)
          → is_past (record { down = head.down; by = by; last = last }) first ≡ past
          → Agrees Like world.turns 1
          (out.choose b out.goes_on (out.for_turns world.turns
          (record { down = head.down; by = by; last = last })
          (λ value store. mean_store.with_scalar store (place_of sight.spots p) value)
          (mean_statement.exec_all (context world sight w start) world.turns body) first) store)
          (code.choose (Says (not b && not past)) (enter k) (λ i. code.jumping (code.goes_on i)) begun)
      either p k found first by last store begun h true e past f =
          jumping_agrees Like world.turns 0 _ _ (goes_agrees Like world.turns store begun h.like)
      either p k found first by last store begun h false e true f =
          let count : Count = record { down = head.down; by = by; last = last } in
          let set_to : ℤ → Store → Store =
          λ value store. mean_store.with_scalar store (place_of sight.spots p) value in
          let run = mean_statement.exec_all (context world sight w start) world.turns body in
          subst (λ (o : Outcome). Agrees Like world.turns 1 o (code.jumping (code.goes_on begun)))
          (sym (past_turns count set_to run world.turns first store f))
          (jumping_agrees Like world.turns 0 _ _ (goes_agrees Like world.turns store begun h.like))
      either p k found first by last store begun h false e false f =
          jumping_agrees Like world.turns 0 _ _
          (turns_agree world sight w next start stands c free fits head.down by last line
          (not_below by (pos 1) e) p k found inner before taken IsServed
          (λ c. mean_statement.exec_all c world.turns body) (λ l next. low.lowered_all l next body)
          goes served.1 inside_room world.turns (omega arith) first store begun h f)

      begins : (p k : ℕ) → slice_get (numbered sight.spots) p ≡ Some k → (first by last : ℤ)
          (store : Store) (begun : Whole)
          → AtTurn world sight w next start stands c free fits head.down by last line first store begun
          → Agrees Like world.turns 1 (turns first by last (Scalar (place_of sight.spots p)) store)
          (does world.tables world.turns (coded (Some k)).code begun)
      begins p k found first by last store begun turn =
          let count : Count = record { down = head.down; by = by; last = last } in
          subst (λ (d : Decision). Agrees Like world.turns 1
          (turns first by last (Scalar (place_of sight.spots p)) store)
          (code.choose d (enter k) (λ i. code.jumping (code.goes_on i)) begun))
          (sym (enters_says world sight w next start stands c free fits head.down by last line first
          store begun turn
          ∙ ap (λ b. Says (b && within head.down first last)) (le_not (pos 1) by)
          ∙ ap (λ b. Says (not (int_lt by (pos 1)) && b)) (within_is head.down first by last)))
          (either p k found first by last store begun turn (int_lt by (pos 1)) refl
          (is_past count first) refl)

      counted : (values : List ℤ) (store : Store) (begun : Whole) → Like store begun
          → AreSet c 3 values begun → (thing : Option Thing)
          → thing_of w.environment head.name.text ≡ thing
          → IsVariable (option_map (seen_thing sight.spots) thing)
          → Agrees Like world.turns 1
          (mean_statement.for_from world.turns (option_map (seen_thing sight.spots) thing)
          (start_of head.down values)
          (mean_statement.exec_all (context world sight w start) world.turns body) store)
          (does world.tables world.turns (coded (low.scalar_of w.numbers thing)).code begun)
      counted (first ∷ last ∷ by ∷ []) store begun like are (Some (Scalar p)) e v =
          let k = slice_index_or (numbered sight.spots) p 0 in
          let below : p < length (numbered sight.spots) =
          known_thing (length (numbered sight.spots)) (length w.numbers.arrays)
          w.environment.names head.name.text (Scalar p) stands.known e in
          let found : slice_get (numbered sight.spots) p ≡ Some k =
          get_some (numbered sight.spots) p 0 below in
          subst (λ (o : Option ℕ). Agrees Like world.turns 1
          (turns first by last (Scalar (place_of sight.spots p)) store)
          (does world.tables world.turns (coded o).code begun))
          (sym (ap (λ (ks : List ℕ). slice_get ks p) (sym stands.numbers) ∙ found))
          (begins p k found first by last store begun
          (record { like = like; at = are.held.0; to = are.held.1.0; step_by = are.held.1.1.0 }))
      counted [] store begun like are (Some (Scalar p)) e v = absurd (omega (arith, are.as_many))
      counted (a ∷ []) store begun like are (Some (Scalar p)) e v =
          absurd (omega (arith, are.as_many))
      counted (a ∷ b ∷ []) store begun like are (Some (Scalar p)) e v =
          absurd (omega (arith, are.as_many))
      counted (a ∷ b ∷ d ∷ f ∷ more) store begun like are (Some (Scalar p)) e v =
          absurd (omega (arith, are.as_many))
      counted values store begun like are (Some (ArrayAt p home)) e v = absurd v
      counted values store begun like are (Some (Fixed value)) e v = absurd v
      counted values store begun like are None e v = absurd v

      pub for_agrees : (store : Store) (now : Whole) → Like store now
          → Agrees Like world.turns (head_nodes head + 1)
          (mean_statement.exec_form (context world sight w start) world.turns at (For head body) store)
          (does world.tables world.turns
          (low.lowered_form (lowering world w) next at (For head body)).code now)
      for_agrees store now like =
          let place = seen_place sight w start in
          let thing = thing_of place.environment head.name.text in
          let run = mean_statement.exec_all (context world sight w start) world.turns body in
          let seen = thing_seen sight.spots w.environment.names head.name.text in
          subst (λ (o : Outcome). Agrees Like world.turns (head_nodes head + 1) o
          (does world.tables world.turns
          (low.lowered_form (lowering world w) next at (For head body)).code now))
          (sym (with_computed_value (scalars_in place store (meant exprs)) (start_of head.down) store
          line (λ begin. mean_statement.for_from world.turns thing begin run store)))
          (filled_agrees Like (λ vs begun. Like store begun × AreSet c 3 vs begun) world.turns 1 line
          (nodes_of exprs) (nodes_of exprs + 1) store
          (λ values. mean_statement.for_from world.turns thing (start_of head.down values) run store)
          (does world.tables world.turns
          (coded (low.scalar_of w.numbers (thing_of w.environment head.name.text))).code) _ _
          (omega arith)
          (λ values begun l.
          subst (λ (t : Option Thing). Agrees Like world.turns 1
          (mean_statement.for_from world.turns t (start_of head.down values) run store)
          (does world.tables world.turns
          (coded (low.scalar_of w.numbers (thing_of w.environment head.name.text))).code begun))
          (sym seen)
          (counted values store begun l.0 l.1 (thing_of w.environment head.name.text) refl
          (subst (λ (t : Option Thing). IsVariable t) seen served.0.3)))
          (bounds sight w next start line exprs stands all_bounds
          (room_first world.tables next (code.Rows [])
          (low.with_values line c (phased w line next exprs))
          (coded (low.scalar_of w.numbers (thing_of w.environment head.name.text)))
          (room_coded world.tables next (code.Rows []) _ room))
          store now like))

  pub for_goes : Goes world IsServedFor
      (λ c store. mean_statement.exec_form c world.turns at (For head body) store)
      (λ l next. low.lowered_form l next at (For head body)) (head_nodes head + 1)
  for_goes sight w next start stands served room store now like =
      for_agrees sight w next start stands served room store now like
