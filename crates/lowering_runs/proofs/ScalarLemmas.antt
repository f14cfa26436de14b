-- Tests and assignments of scalars.
use Rattle.std.proofs.Common.{◌≡◌, ℕ, ◌≤◌, ◌<◌, ℤ, List, []}
use Rattle.std.proofs.Common.{◌∷◌, Some, sym, ap, subst, arith}
use Rattle.std.specs.Prelude.{slice_get}
use Rattle.zpl_nums.specs.Integer.{IsInteger}
use Rattle.zpl_tree.specs.Syntax.{Expr}
use Rattle.zpl_names.specs.Sites.{Role, Test as TestRole}
use Rattle.lowering_fits.specs.of_zpl_meaning.Computed as mean
use Rattle.lowering_fits.specs.of_zpl_meaning.Store.{Store, Thing, Scalar, thing_of}
use Rattle.lowering_fits.specs.of_zpl_meaning.Store as mean_store
use Rattle.lowering_fits.specs.of_zpl_meaning.Context.{Place}
use Rattle.lowering_fits.specs.of_zpl_meaning.Value as mean_value
use Rattle.lowering_fits.specs.of_zpl_meaning.Phases.{scalar_in as value_in}
use Rattle.lowering_fits.specs.of_zpl_meaning.Outcome as out
use Rattle.lowering_fits.specs.of_zpl_meaning.Outcome.{Outcome}
use Rattle.lowering_fits.specs.of_zpl_meaning.Statement as mean_statement
use Rattle.lowering_fits.proofs.of_zpl_meaning.ScalarLemmas.{scalar_is_value}
use Rattle.node_form.specs.declared.tables.Tables.{Tables}
use Rattle.node_form.specs.Expression.{Expression, words_of}
use Rattle.node_form.specs.Value as flat
use Rattle.node_form.specs.Value.{scalar_operands, value_of}
use Rattle.node_form.proofs.ValueLemmas.{value_of-words_of}
use Rattle.row_runs.specs.Run.{Step}
use Rattle.row_runs.specs.Structured as code
use Rattle.row_runs.specs.Structured.{Course, rows_do, by_step}
use Rattle.lowering_fits.specs.of_flat_form.Whole.{Whole}
use Rattle.lowering_fits.specs.of_zpl_lowering.Where.{Where, Next, line_of}
use Rattle.lowering_fits.specs.of_zpl_lowering.Words.{scalar_code}
use Rattle.lowering_fits.specs.of_zpl_lowering.Lowered.{phased, first_left}
use Rattle.lowering_fits.specs.of_zpl_lowering.Statement as low
use Rattle.lowering_runs.specs.Seen.{Sight, seen_place, numbered, place_of}
use Rattle.lowering_runs.specs.Run.{step, decide, does}
use Rattle.lowering_runs.specs.Agrees.{Agrees, Trapping}
use Rattle.lowering_runs.specs.Heads.{Heads, Comes}
use Rattle.lowering_runs.specs.Scalars.{IsScalarAt, IsSameValue, BothGive, BothDivide}
use Rattle.lowering_runs.specs.Stands.{Stands, IsLike}
use Rattle.lowering_runs.proofs.AgreeLemmas.{goes_agrees}
use Rattle.lowering_runs.proofs.ValueLemmas.{value_same, scalar_unseen}
use Rattle.lowering_runs.proofs.BareLemmas.{all_passed}
use Rattle.lowering_runs.proofs.RowLemmas.{set, set_to, set_step, check_says, like_variable}

module _ (tables : Tables) (n : ℕ) (sight : Sight) (w : Where) (next : Next) (start : Whole)
    (stands : Stands sight.spots w next) (room : next.scalars ≤ tables.scalars) where
  abbrev place : Place
  place = seen_place sight w start

  abbrev Like : Store → Whole → Type 0
  Like = IsLike tables sight.spots w next start

  -- a scalar's value in the meaning, and its code's
  pub scalar_same : (role : Role) (expr : Expr) → IsScalarAt place expr → (store : Store)
      (now : Whole) → Like store now
      → IsSameValue (value_in place store role expr)
      (value_of (scalar_operands now.scalars) (words_of (scalar_code w expr)))
  scalar_same role expr s store now like =
      subst (λ (v : flat.Computed ℤ). IsSameValue (value_in place store role expr) v)
      (sym (value_of-words_of (scalar_operands now.scalars) (scalar_code w expr)))
      (subst (λ (v : mean.Computed ℤ). IsSameValue v
      (flat.tree_value (scalar_operands now.scalars) (scalar_code w expr)))
      (sym (scalar_is_value place store role expr s.1))
      (subst (λ (t : Store). IsSameValue (mean_value.value_of place.environment t expr)
      (flat.tree_value (scalar_operands now.scalars) (scalar_code w expr))) (sym like.seen)
      (value_same tables sight.spots w next now stands room like.sound expr s.0 s.1)))

  -- ---- tests

  pub heads : (from : Next) (at : ℕ) (expr : Expr) → IsScalarAt place expr → (store : Store)
      (now : Whole) → Like store now
      → (let test = low.test_of w from expr at in
      Heads (Like store) ((mean_statement.test_of place expr at).value store) (line_of w at) 0
      (decide tables n test.check) (does tables n test.before.code now))
  heads from at expr s store now like =
      let line = line_of w at in
      let placed = low.placed_in w TestRole expr in
      let passed = all_passed w line from (placed ∷ [])
      (scalar_unseen sight.spots w.environment expr s.1, tt) in
      let test = low.test_of w from expr at in
      let code_is : first_left (phased w line from (placed ∷ [])).left ≡ scalar_code w expr =
      ap first_left passed.left_is in
      subst (λ (c : Course Whole). Heads (Like store)
      ((mean_statement.test_of place expr at).value store) line 0 (decide tables n test.check) c)
      (sym (passed.still tables n now))
      (Comes like
      (check_says tables n now like.sound.settled test.check (value_in place store TestRole expr)
      (subst (λ (e : Expression). IsSameValue (value_in place store TestRole expr)
      (value_of (scalar_operands now.scalars) (words_of e))) (sym code_is)
      (scalar_same TestRole expr s store now like)))
      (omega arith))

  -- ---- a scalar is set, and then others

  pub set_agrees : (IsAlike : Store → Whole → Type 0) (turns spare k line : ℕ) (store : Store)
      (now : Whole) (value : mean.Computed ℤ) (one : flat.Computed ℤ) (rest : ℤ → Outcome)
      (others : Whole → Course Whole) → IsSameValue value one
      → ((v : ℤ) → IsInteger v
      → Agrees IsAlike turns spare (rest v) (others (set tables n now k v)))
      → Agrees IsAlike turns spare (out.with_value value store line rest)
      (by_step now (set_to tables n now k line one) others)
  set_agrees IsAlike turns spare k line store now value one rest others (BothGive {value = v} f) h =
      h v f
  set_agrees IsAlike turns spare k line store now value one rest others BothDivide h =
      Trapping (omega arith)

  -- ---- assignments

  pub assigned_agrees : (role : Role) (line p k : ℕ) (expr : Expr) → IsScalarAt place expr
      → slice_get (numbered sight.spots) p ≡ Some k → k < tables.scalars → (store : Store)
      (now : Whole) → Like store now
      → Agrees Like n 0
      (out.with_value (value_in place store role expr) store line (λ new.
      out.goes_on (mean_store.with_scalar store (place_of sight.spots p) new)))
      (does tables n
      (low.lowered_scalar w line next (low.placed_in w role expr) (Some k)).code now)
  assigned_agrees role line p k expr s e lt store now like =
      let placed = low.placed_in w role expr in
      let passed = all_passed w line next (placed ∷ [])
      (scalar_unseen sight.spots w.environment expr s.1, tt) in
      let phases = phased w line next (placed ∷ []) in
      let outcome : Outcome =
      out.with_value (value_in place store role expr) store line (λ new.
      out.goes_on (mean_store.with_scalar store (place_of sight.spots p) new)) in
      subst (λ (c : Course Whole). Agrees Like n 0 outcome
      (code.then_do c (rows_do (step tables n) (decide tables n)
      (low.set_row line (first_left phases.left) (Some k))))) (sym (passed.still tables n now))
      (subst (λ (left : List Expression). Agrees Like n 0 outcome
      (rows_do (step tables n) (decide tables n) (low.set_row line (first_left left) (Some k)) now))
      (sym passed.left_is)
      (subst (λ (one : Step Whole). Agrees Like n 0 outcome
      (by_step now one (λ after. code.goes_on after)))
      (sym (set_step tables n now like.sound.settled k line (words_of (scalar_code w expr))))
      (set_agrees Like n 0 k line store now (value_in place store role expr)
      (value_of (scalar_operands now.scalars) (words_of (scalar_code w expr)))
      (λ new. out.goes_on (mean_store.with_scalar store (place_of sight.spots p) new))
      (λ after. code.goes_on after) (scalar_same role expr s store now like)
      (λ v f. goes_agrees Like n _ _
      (like_variable tables n sight.spots w next start store now like stands.rises v f p k e lt)))))
