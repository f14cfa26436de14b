-- Tests and assignments of scalars, whose expressions have operators over regions.
use Rattle.operator_runs.proofs.PhaseLemmas.{room_phases}
use Rattle.std.proofs.Common.{◌≡◌, refl, sym, subst, arith, ℕ, ◌+◌, ◌≤◌, ◌<◌, true, List, [], ◌∷◌, ℤ, Some, None}
use Rattle.std.specs.Prelude.{slice_get}
use Rattle.zpl_nums.specs.Integer.{IsInteger}
use Rattle.zpl_tree.specs.Syntax.{Expr}
use Rattle.zpl_names.specs.Counts.{expr_nodes}
use Rattle.zpl_names.specs.Sites.{Role, Test as TestRole}
use Rattle.zpl_meaning.specs.Computed as mean
use Rattle.zpl_meaning.specs.Computed.{both_then, computed_then}
use Rattle.zpl_meaning.specs.Store.{Store}
use Rattle.zpl_meaning.specs.Store as mean_store
use Rattle.zpl_meaning.specs.Context.{Place}
use Rattle.zpl_meaning.specs.Fields.{Field}
use Rattle.zpl_meaning.specs.Phases.{fields_in, first_value, scalar_values}
use Rattle.zpl_meaning.specs.Phases as phase
use Rattle.zpl_meaning.specs.Outcome as out
use Rattle.zpl_meaning.specs.Outcome.{Outcome}
use Rattle.zpl_meaning.specs.Statement as mean_statement
use Rattle.node_form.specs.declared.tables.Tables.{Tables}
use Rattle.node_form.specs.Expression.{Expression, words_of}
use Rattle.node_form.specs.Value as flat
use Rattle.node_form.specs.Value.{scalar_operands, tree_value, value_of}
use Rattle.node_form.proofs.ValueLemmas.{value_of-words_of}
use Rattle.zpl_nums.specs.declared.ends.End.TheVariants.{Trap}
use Rattle.zpl_nums.specs.declared.ends.TrapKind.{TrapKind}
use Rattle.row_runs.specs.Run.{Ends, Step}
use Rattle.row_runs.specs.Structured as code
use Rattle.row_runs.specs.Structured.{Course, GoesOn, Over, by_step, rows_do}
use Rattle.flat_form.specs.Whole.{Whole}
use Rattle.print_runs.specs.of_zpl_lowering.Where.{Where, Next, line_of}
use Rattle.print_runs.specs.of_zpl_lowering.Lowered.{first_left, phased}
use Rattle.print_runs.specs.of_zpl_lowering.Slate.{settled}
use Rattle.print_runs.specs.of_zpl_lowering.Statement as low
use Rattle.print_runs.specs.of_lowering_runs.Seen.{Spot, Sight, seen_place, seen_store, numbered, place_of}
use Rattle.print_runs.specs.of_lowering_runs.Run.{decide, does, step}
use Rattle.print_runs.specs.of_lowering_runs.Agrees.{Agrees, Trapping}
use Rattle.print_runs.specs.of_lowering_runs.Heads.{Heads, Comes, Stumbles}
use Rattle.print_runs.specs.of_lowering_runs.Scalars.{IsSameValue, BothGive as BothGive_, BothDivide as BothDivide_}
use Rattle.print_runs.specs.of_lowering_runs.Stands.{HasRoom, IsLike, Stands}
use Rattle.print_runs.proofs.of_lowering_runs.AgreeLemmas.{goes_agrees, led_agrees, weaker_agrees}
use Rattle.print_runs.proofs.of_lowering_runs.RowLemmas.{set_step, check_says, like_variable}
use Rattle.print_runs.proofs.of_lowering_runs.ScalarLemmas.{set_agrees}
use Rattle.print_runs.specs.of_array_puts.Put.{IsSame, BothGive, BothDivide}
use Rattle.operator_runs.specs.Meant.{Alone}
use Rattle.operator_runs.specs.Hoists.{MoreValues, NoValues, Unused, tests_of}
use Rattle.operator_runs.specs.Phases.{Phases, PassTo, OneTraps}
use Rattle.operator_runs.specs.Operated.{IsOperated}
use Rattle.operator_runs.proofs.SettleLemmas.{MoreOperated, NoneOperated}
use Rattle.operator_runs.proofs.LikeLemmas.{like_taken}
use Rattle.operator_runs.proofs.MeantLemmas.{none_referred}
use Rattle.operator_runs.proofs.PhaseLemmas.{phases_come}
use Rattle.operator_runs.proofs.NodeLemmas.{tests_few}
use Rattle.operator_runs.proofs.ReadLemmas.{ReadsNone}
use Rattle.operator_runs.proofs.SpareLemmas.{spares_all}

-- ---- a value

pub same_value : (one : mean.Computed ℤ) (other : flat.Computed ℤ)
    → ((v : ℤ) → one ≡ mean.Gives v → IsInteger v) → IsSame one other → IsSameValue one other
same_value one other f (BothGive {value = v}) = BothGive_ (f v refl)
same_value one other f BothDivide = BothDivide_

-- the value of a statement's only expression
abbrev pub only_value : mean.Computed (List Field) → mean.Computed ℤ
only_value fields =
    computed_then (computed_then fields scalar_values) (λ values. mean.Gives (first_value values))

one_value : (field : Field) → only_value (mean.Gives (field ∷ [])) ≡ field []
one_value field = by (field [])
  where
    by : (c : mean.Computed ℤ)
        → computed_then (both_then c (mean.Gives []) (λ value values. mean.Gives (value ∷ values)))
        (λ values. mean.Gives (first_value values)) ≡ c
    by (mean.Gives v) = refl
    by (mean.Traps kind) = refl

module _ (tables : Tables) (n : ℕ) (sight : Sight) (w : Where) (next : Next) (now : Whole)
    (stands : Stands sight.spots w next) (room : next.scalars ≤ tables.scalars) where
  abbrev spots : List Spot
  spots = sight.spots

  abbrev place : Place
  place = seen_place sight w now

  abbrev store : Store
  store = seen_store spots w.numbers.arrays now

  abbrev Like : Store → Whole → Type 0
  Like = IsLike tables spots w next now

  -- ---- what the phases of one expression come to

  -- They come to a state in which what is left has the expression's value; or they end with the trap
  -- that it has.
  pub data Came (line most : ℕ) (left : Expression) : mean.Computed ℤ → Course Whole → Type 0 where
    CameTo : {after : Whole} {jumps : ℕ} {value : mean.Computed ℤ} → Like store after
        → IsSameValue value (value_of (scalar_operands after.scalars) (words_of left))
        → jumps ≤ most → Came line most left value
        (record { close = GoesOn; state = after; bytes = []; jumps = jumps })
    Fell : {after : Whole} {jumps : ℕ} {kind : TrapKind} → jumps ≤ most
        → Came line most left (mean.Traps kind)
        (record { close = Over (Ends (Trap kind line)); state = after; bytes = []; jumps = jumps })

  came : (behind : Unused) (line few most : ℕ) (left : Expression) → few ≤ most → Like store now
      → (c : mean.Computed (List Field)) (course : Course Whole)
      → Phases tables spots w.numbers.arrays (Alone ∷ []) next behind line few now (left ∷ []) c course
      → Came line most left (only_value c) course
  came behind line few most left le like c course (OneTraps less) = Fell (omega (arith, less, le))
  came behind line few most left le like c course
      (PassTo own {after = after} apart t (MoreValues {field = field} h NoValues) integers less) =
      let all = spares_all tables spots w.numbers.arrays own behind after t.sound in
      CameTo (like_taken tables spots w next now store now after stands like t)
      (subst (λ (v : mean.Computed ℤ). IsSameValue v
      (value_of (scalar_operands after.scalars) (words_of left))) (sym (one_value field))
      (subst (λ (v : flat.Computed ℤ). IsSameValue (field []) v)
      (sym (value_of-words_of (scalar_operands after.scalars) left))
      (same_value (field []) (tree_value (scalar_operands after.scalars) left)
      (integers.0 [] tt) (h.values after all [] [] refl))))
      (omega (arith, less, le))

  pub comes : (role : Role) (line most : ℕ) (expr : Expr)
      → (let placed = low.placed_in w role expr in
      let phases = phased w line next (placed ∷ []) in
      tests_of (settled w line next placed.rank expr).slate ≤ most → IsOperated w place None expr
      → Like store now → HasRoom tables next phases.lowered
      → Came line most (first_left phases.left) (phase.scalar_in place store role expr)
      (does tables n phases.lowered.code now))
  comes role line most expr few operated like space =
      let exprs = low.placed_in w role expr ∷ [] in
      let none = none_referred tables spots w line like.held.stored now like.sound in
      came _ line _ most _ (omega (arith, few)) like _ _
      (phases_come tables n sight w line next now stands room like.sound like.held (Alone ∷ []) (tt, tt)
      (tt, tt) [] true
      none tt [] true none tt exprs (MoreOperated ReadsNone operated NoneOperated) space)

  -- ---- tests

  pub test_comes : (at : ℕ) (expr : Expr) → IsOperated w place None expr → Like store now
      → (let test = low.test_of w next expr at in
      HasRoom tables next test.before
      → Heads (Like store) ((mean_statement.test_of place expr at).value store) (line_of w at)
      (expr_nodes expr) (decide tables n test.check) (does tables n test.before.code now))
  test_comes at expr operated like space =
      by _ _
      (comes TestRole (line_of w at) (expr_nodes expr) expr
      (tests_few expr w (line_of w at) next (low.placed_in w TestRole expr).rank) operated like space)
    where
      by : (value : mean.Computed ℤ) (course : Course Whole)
          → Came (line_of w at) (expr_nodes expr)
          (first_left (phased w (line_of w at) next (low.placed_in w TestRole expr ∷ [])).left) value
          course
          → Heads (Like store) value (line_of w at) (expr_nodes expr)
          (decide tables n (low.test_of w next expr at).check) course
      by value course (Fell less) = Stumbles refl less
      by value course (CameTo {after = after} like same less) =
          Comes like
          (check_says tables n after like.sound.settled (low.test_of w next expr at).check value same)
          less

  -- ---- assignments

  pub assigned : (role : Role) (line most p k : ℕ) (expr : Expr)
      → tests_of (settled w line next (low.placed_in w role expr).rank expr).slate ≤ most
      → IsOperated w place None expr → slice_get (numbered spots) p ≡ Some k → k < tables.scalars
      → Like store now
      → (let made = low.lowered_scalar w line next (low.placed_in w role expr) (Some k) in
      HasRoom tables next made
      → Agrees Like n most
      (mean_statement.assign_scalar place role (place_of spots p) expr line store)
      (does tables n made.code now))
  assigned role line most p k expr few operated e lt like space =
      by _ _ (comes role line most expr few operated like
      (room_phases tables next (phased w line next (low.placed_in w role expr ∷ [])).lowered _ space))
    where
      by : (value : mean.Computed ℤ) (course : Course Whole)
          → Came line most (first_left (phased w line next (low.placed_in w role expr ∷ [])).left)
          value course
          → Agrees Like n most
          (out.with_value value store line (λ new.
          out.goes_on (mean_store.with_scalar store (place_of spots p) new)))
          (code.then_do course (rows_do (step tables n) (decide tables n)
          (low.set_row line (first_left (phased w line next (low.placed_in w role expr ∷ [])).left)
          (Some k))))
      by value course (Fell less) = Trapping (omega (arith, less))
      by value course (CameTo {after = after} {jumps = jumps} like same less) =
          let left = first_left (phased w line next (low.placed_in w role expr ∷ [])).left in
          weaker_agrees Like n n (jumps + 0) most _ _ (omega arith) (omega (arith, less))
          (led_agrees Like n 0 jumps _ _
          (subst (λ (one : Step Whole). Agrees Like n 0
          (out.with_value value store line (λ new.
          out.goes_on (mean_store.with_scalar store (place_of spots p) new)))
          (by_step after one (λ end. code.goes_on end)))
          (sym (set_step tables n after like.sound.settled k line (words_of left)))
          (set_agrees tables n sight w next now stands room Like n 0 k line store after value
          (value_of (scalar_operands after.scalars) (words_of left))
          (λ new. out.goes_on (mean_store.with_scalar store (place_of spots p) new))
          (λ end. code.goes_on end) same
          (λ v f. goes_agrees Like n _ _
          (like_variable tables n spots w next now store after like stands.rises v f p k e lt)))))
