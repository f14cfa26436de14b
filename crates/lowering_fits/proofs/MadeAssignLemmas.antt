-- What the code of statements has of its own, where what they call has what its name tells.
use Rattle.std.proofs.Common.{◌≡◌, ℕ, ◌+◌, true, false, List, [], ◌∷◌, length, refl, sym, ap, subst, arith}
use Rattle.std.specs.Prelude.{Option, Some, None, slice_get}
use Rattle.zpl_nums.specs.declared.operators.Op.{Op}
use Rattle.zpl_region.specs.declared.regions.Region.{Region}
use Rattle.stored_shifts.specs.of_zpl_arrays.Around.{copy_storage}
use Rattle.meaning_ranks.specs.of_zpl_tree.Syntax.{Name, Expr, Number, Truth, Coord, Named, Shifted, Around, Remap, Call, Paren, Neg, Not, Abs, Pair, Reduce, Scan, Flood, Exprs, NoExpr, ThenExpr, Dir, Prefix, Prefixed, Form, Assign}
use Rattle.meaning_ranks.specs.of_zpl_names.Kinds.{Rank, Formal, ScalarFormal, ArrayFormal}
use Rattle.meaning_ranks.specs.of_zpl_names.Scope.{Scope, kind_of}
use Rattle.meaning_ranks.specs.of_zpl_names.Accepted.{HasNoFault}
use Rattle.meaning_ranks.specs.of_zpl_names.Sites.{Reach, Role, Actual, Assigned, CallRole, whole_rank, inside, Site, AtExpr, AtCall, actuals_sites, whole_sites, call_place, value_sites}
use Rattle.meaning_ranks.specs.of_zpl_meaning.Store.{Thing, Scalar, ArrayAt, Fixed, Environment, thing_of}
use Rattle.meaning_ranks.specs.of_zpl_meaning.Context.{Currents, Edge, Setup, Place}
use Rattle.meaning_ranks.specs.of_zpl_meaning.Regions.{vector_in}
use Rattle.meaning_ranks.specs.of_zpl_meaning.Calls.{formals_in}
use Rattle.meaning_ranks.specs.of_zpl_meaning.Points.{assigned_expr}
use Rattle.meaning_ranks.specs.of_zpl_meaning.Proper.{IsProper, IsTarget, IsPlainAssign, AreProperActuals, IsProperCall, IsProperForm}
use Rattle.meaning_ranks.specs.of_zpl_meaning.Visited.{IsUnder, IsCall, AsAnswer, IsVisited}
use Rattle.meaning_ranks.proofs.of_zpl_meaning.DepthLemmas.{Each, each_left, each_right}
use Rattle.meaning_ranks.specs.Ranked.{IsRankedCall, IsRankedForm}
use Rattle.lower_numbers.specs.of_row_runs.Structured as piece
use Rattle.lower_numbers.specs.of_zpl_lowering.Where.{Numbers, Where, Next, slotted_at, rank_for}
use Rattle.lower_numbers.specs.of_zpl_lowering.Slate.{Placed, settled, settled_each}
use Rattle.lower_numbers.specs.of_zpl_lowering.Slate as settle
use Rattle.lower_numbers.specs.of_zpl_lowering.Reference.{refer_to, over_reference}
use Rattle.lower_numbers.specs.of_zpl_lowering.Lowered.{Lowered, rows_alone, behind, Phased, phased, phased_with, first_left}
use Rattle.lower_numbers.specs.of_zpl_lowering.Statement.{Calling, placed_in, put_row, lowered_to, value_exprs, lowered_invoke, with_values, value_rows, target_of, lowered_assign, set_row, lowered}
use Rattle.lowering_fits.specs.Reach.{place_at}
use Rattle.lowering_fits.specs.Standing.{calling_of}
use Rattle.lowering_fits.proofs.PartLemmas.{AreRight}
use Rattle.lowering_fits.proofs.MadeLemmas.{IsTame, proper_tame, AllOf, IsSettled, settled_behind, IsAt, settled_made}
use Rattle.lowering_fits.proofs.MadeCodeLemmas.{IsMade, joined_made, before_made, phased_made, no_settled, first_settled, one_settled}
use Rattle.lowering_fits.proofs.PointSiteLemmas.{actual_sites, actuals_split, IsNamed, variable_named, array_named, named_silent}

-- ---- where statements stand

-- a place of a procedure, with its names and their numbers
pub record IsWithin (setup : Setup) (scope : Scope) (environment : Environment)
    (numbers : Numbers) (w : Where) : Type 0 where
  pub own : w.setup ≡ setup
  pub scope_is : w.scope ≡ scope
  pub names_are : w.environment ≡ environment
  pub numbers_are : w.numbers ≡ numbers

-- a call from a visited statement of the procedure
pub record IsCalling (setup : Setup) (scope : Scope) (environment : Environment)
    (numbers : Numbers) (Good : Site → Type 0) (w : Where) (name : Name) (actuals : Exprs) : Type
    0 where
  pub result : ℕ
  pub currents : Currents
  pub edge : Option Edge
  pub start : Place
  pub at : ℕ
  pub prefixes : List Prefix
  pub form : Form
  pub visited : IsVisited setup start (Prefixed at prefixes form)
  pub under : IsUnder prefixes start (place_at w result currents edge)
  pub is : IsCall form name actuals
  pub proper : IsProperCall (place_at w result currents edge) name actuals
  pub ranked : IsRankedCall (place_at w result currents edge) name actuals
  pub within : IsWithin setup scope environment numbers w
  pub reach : Reach
  pub role : CallRole
  pub site : Good (AtCall reach role name actuals)

-- what a call has of its own: no copies of the procedure that it stands in
pub record IsMadeCall (Fine : Region → Type 0) (arrays_of later_of : List ℕ → ℕ) (name : Name)
    (lowered : Lowered) : Type 0 where
  pub no_copies : lowered.copies ≡ []
  pub arrays : length lowered.arrays ≡ arrays_of name.text
  pub later : length lowered.later ≡ later_of name.text
  pub fine_arrays : AllOf Fine lowered.arrays
  pub fine_later : AllOf Fine lowered.later

module _ (Fine : Region → Type 0) (arrays_of later_of : List ℕ → ℕ) (setup : Setup)
    (scope : Scope) (environment : Environment) (numbers : Numbers) (Good : Site → Type 0)
    (clean : (site : Site) → Good site → HasNoFault site)
    (roomy : (reach : Reach) (rank : Rank) (at : ℕ) (name : Name) (shift : Dir) (place : ℕ)
    (home : Region) → Good (AtExpr reach rank (Around at name shift)) →
    thing_of environment name.text ≡ Some (ArrayAt place home) →
    Fine (copy_storage home (vector_in setup.known shift))) (right : AreRight setup)
    (call : Calling → Next → Lowered)
    (calls : (w : Where) (name : Name) (actuals : Exprs) (scalar target line : ℕ) (next : Next) →
    IsCalling setup scope environment numbers Good w name actuals →
    IsMadeCall Fine arrays_of later_of name
    (call (calling_of w name actuals scalar target line) next)) where
  abbrev pub Here : Where → Type 0
  Here w = IsWithin setup scope environment numbers w

  abbrev pub Have : List Site → Lowered → Type 0
  Have sites lowered = IsMade Fine arrays_of later_of sites lowered

  abbrev pub Settles : List Site → {A : Type 0} → settle.Settled A → Type 0
  Settles sites settled = IsSettled Fine sites settled

  at_place : (w : Where) → Here w → IsAt Fine setup.known environment Good clean roomy w
  at_place w here =
      record { known_here = ap (λ s. s.known) here.own; names_here = here.names_are }

  pub tame : (w : Where) → Here w → (result : ℕ) (currents : Currents) (edge : Option Edge)
      (rank : Rank) (one : Expr) → IsProper (place_at w result currents edge) rank one →
      IsTame environment one
  tame w here result currents edge rank one proper =
      subst (λ e. IsTame e one) here.names_are
      (proper_tame (place_at w result currents edge) rank one proper)

  -- ---- expressions that stand by themselves

  pub whole_made : (w : Where) → Here w → (line : ℕ) (next : Next) (rank : Rank) (reach : Reach)
      (role : Role) (one : Expr) → IsTame environment one →
      Each Good (whole_sites reach role one) →
      Settles (whole_sites reach role one) (settled w line next rank one)
  whole_made w here line next rank reach role one is good =
      let later = settled_made Fine setup.known environment Good clean roomy w (at_place w here)
      line next rank reach (whole_rank reach role one) one is good.1 in
      record { copies = later.copies; calls = later.calls; fine = later.fine }

  -- ---- assignments

  assigned_made : (w : Where) → Here w → (line : ℕ) (next : Next) (rank : Rank) (reach : Reach)
      (name : Name) (op : Option Op) (value : Expr) → IsTame environment (assigned_expr name op value) →
      Each Good (whole_sites reach (Assigned name op) value) →
      Settles (whole_sites reach (Assigned name op) value)
      (settled w line next rank (assigned_expr name op value))
  assigned_made w here line next rank reach name None value is good =
      whole_made w here line next rank reach (Assigned name None) value is good
  assigned_made w here line next rank reach name (Some op) value is good =
      let first = settled w line next rank (Named name.at name) in
      let later = whole_made w here line (settle.behind next first) rank reach
      (Assigned name (Some op)) value is.1 good in
      record { copies = later.copies; calls = later.calls; fine = later.fine }

  plain_made : (w : Where) → Here w → (result : ℕ) (currents : Currents) (edge : Option Edge)
      (line : ℕ) (next : Next) (reach : Reach) (name : Name) (op : Option Op) (value : Expr) →
      IsPlainAssign (place_at w result currents edge) name op value →
      Each Good (whole_sites reach (Assigned name op) value) →
      Have (whole_sites reach (Assigned name op) value)
      (lowered_to w (Assigned name op) line next (assigned_expr name op value)
      (thing_of w.environment name.text))
  plain_made w here result currents edge line next reach name op value proper good =
      by (thing_of w.environment name.text) proper.0
    where
      sites : List Site
      sites = whole_sites reach (Assigned name op) value

      one : Placed
      one = placed_in w (Assigned name op) (assigned_expr name op value)

      settles : Settles sites (settled_each w line next (one ∷ []))
      settles =
          one_settled Fine sites w line next one
          (assigned_made w here line next one.rank reach name op value
          (tame w here result currents edge one.rank one.expr proper.1) good)

      by : (thing : Option Thing) →
          IsTarget currents (rank_for w (Assigned name op)) thing →
          Have sites (lowered_to w (Assigned name op) line next (assigned_expr name op value) thing)
      by None is = absurd is
      by (Some (Fixed number)) is = absurd is
      by (Some (Scalar target)) is =
          let phases = phased w line next (one ∷ []) in
          before_made Fine arrays_of later_of
          (piece.Then phases.lowered.code
          (piece.Rows (set_row line (first_left phases.left)
          (slice_get w.numbers.scalars target)))) sites phases.lowered
          (rows_alone (set_row line (first_left phases.left)
          (slice_get w.numbers.scalars target))) refl refl refl
          (phased_made Fine arrays_of later_of sites w line next [] [] (one ∷ []) settles)
      by (Some (ArrayAt target home)) is =
          let over = slotted_at w.currents (rank_for w (Assigned name op)) in
          let stored = slice_get w.numbers.arrays target in
          let own = refer_to over.slot [] stored in
          let last = over_reference w.numbers over in
          let phases = phased_with w line next own last (one ∷ []) in
          let rows = put_row w line over (first_left phases.left) stored in
          before_made Fine arrays_of later_of
          (piece.Then phases.lowered.code (piece.Rows rows)) sites phases.lowered
          (rows_alone rows) refl refl refl
          (phased_made Fine arrays_of later_of sites w line next own last (one ∷ []) settles)

  -- ---- calls

  actual_made : (w : Where) → Here w → (line : ℕ) (next : Next) (rank : Rank) (reach : Reach)
      (one : Expr) → IsTame environment one → Each Good (actual_sites reach one) →
      Settles (actual_sites reach one) (settled w line next rank one)
  actual_made w here line next rank reach (Number at value) is good =
      whole_made w here line next rank reach Actual (Number at value) is good
  actual_made w here line next rank reach (Truth at value) is good =
      whole_made w here line next rank reach Actual (Truth at value) is good
  actual_made w here line next rank reach (Coord at k) is good =
      whole_made w here line next rank reach Actual (Coord at k) is good
  actual_made w here line next rank reach (Named at name) is good =
      record { copies = refl; calls = λ n. refl; fine = tt }
  actual_made w here line next rank reach (Shifted at name shift) is good =
      whole_made w here line next rank reach Actual (Shifted at name shift) is good
  actual_made w here line next rank reach (Around at name shift) is good =
      whole_made w here line next rank reach Actual (Around at name shift) is good
  actual_made w here line next rank reach (Remap at name indices) is good =
      whole_made w here line next rank reach Actual (Remap at name indices) is good
  actual_made w here line next rank reach (Call at callee actuals) is good =
      whole_made w here line next rank reach Actual (Call at callee actuals) is good
  actual_made w here line next rank reach (Paren at inside) is good =
      whole_made w here line next rank reach Actual (Paren at inside) is good
  actual_made w here line next rank reach (Neg at operand) is good =
      whole_made w here line next rank reach Actual (Neg at operand) is good
  actual_made w here line next rank reach (Not at operand) is good =
      whole_made w here line next rank reach Actual (Not at operand) is good
  actual_made w here line next rank reach (Abs at operand) is good =
      whole_made w here line next rank reach Actual (Abs at operand) is good
  actual_made w here line next rank reach (Pair at operator left right) is good =
      whole_made w here line next rank reach Actual (Pair at operator left right) is good
  actual_made w here line next rank reach (Reduce at operator over operand) is good =
      whole_made w here line next rank reach Actual (Reduce at operator over operand) is good
  actual_made w here line next rank reach (Scan at operator along operand) is good =
      whole_made w here line next rank reach Actual (Scan at operator along operand) is good
  actual_made w here line next rank reach (Flood at source operand) is good =
      whole_made w here line next rank reach Actual (Flood at source operand) is good

  named_first : (w : Where) → Here w → (result : ℕ) (currents : Currents) (edge : Option Edge)
      (line : ℕ) (reach : Reach) (formals : List Formal) (first : Expr) (rest : Exprs)
      (next : Next) → IsNamed first → Each Good (actuals_sites reach (ThenExpr first rest)) →
      (Each Good (actuals_sites reach rest) → Settles (actuals_sites reach rest)
      (settled_each w line next (value_exprs w formals rest))) →
      Settles (actuals_sites reach (ThenExpr first rest))
      (settled_each w line next (value_exprs w formals rest))
  named_first w here result currents edge line reach formals first rest next is good others =
      let xs = actual_sites reach first in
      let ys = actuals_sites reach rest in
      let split = subst (Each Good) (actuals_split reach first rest) good in
      subst (λ sites. Settles sites (settled_each w line next (value_exprs w formals rest)))
      (sym (actuals_split reach first rest))
      (settled_behind Fine xs ys (settled_each w line next (value_exprs w formals rest))
      (named_silent reach first is) (others (each_right Good xs ys split)))

  actuals_made : (w : Where) → Here w → (result : ℕ) (currents : Currents) (edge : Option Edge)
      (line : ℕ) (reach : Reach) (formals : List Formal) (actuals : Exprs) →
      AreProperActuals (place_at w result currents edge) formals actuals →
      Each Good (actuals_sites reach actuals) → (next : Next) →
      Settles (actuals_sites reach actuals) (settled_each w line next (value_exprs w formals actuals))
  actuals_made w here result currents edge line reach [] NoExpr are good next =
      no_settled Fine w line next
  actuals_made w here result currents edge line reach [] (ThenExpr first rest) are good next =
      absurd are
  actuals_made w here result currents edge line reach (formal ∷ formals) NoExpr are good next =
      absurd are
  actuals_made w here result currents edge line reach (ScalarFormal false base ∷ formals)
      (ThenExpr first rest) are good next =
      let xs = actual_sites reach first in
      let ys = actuals_sites reach rest in
      let split = subst (Each Good) (actuals_split reach first rest) good in
      let one = placed_in w Actual first in
      subst (λ sites. Settles sites
      (settled_each w line next (one ∷ value_exprs w formals rest)))
      (sym (actuals_split reach first rest))
      (first_settled Fine xs ys w line next one (value_exprs w formals rest)
      (actual_made w here line next one.rank reach first
      (tame w here result currents edge one.rank first are.0.1) (each_left Good xs ys split))
      (λ after. actuals_made w here result currents edge line reach formals rest are.1
      (each_right Good xs ys split) after))
  actuals_made w here result currents edge line reach (ScalarFormal true base ∷ formals)
      (ThenExpr first rest) are good next =
      named_first w here result currents edge line reach formals first rest next
      (variable_named w.environment first are.0) good
      (λ others. actuals_made w here result currents edge line reach formals rest are.1 others next)
  actuals_made w here result currents edge line reach (ArrayFormal true base shape ∷ formals)
      (ThenExpr first rest) are good next =
      named_first w here result currents edge line reach formals first rest next
      (array_named w.environment first are.0) good
      (λ others. actuals_made w here result currents edge line reach formals rest are.1 others next)
  actuals_made w here result currents edge line reach (ArrayFormal false base shape ∷ formals)
      (ThenExpr first rest) are good next =
      named_first w here result currents edge line reach formals first rest next
      (array_named w.environment first are.0) good
      (λ others. actuals_made w here result currents edge line reach formals rest are.1 others next)

  pub invoke_made : (w : Where) → Here w → (result : ℕ) (currents : Currents) (edge : Option Edge)
      (next : Next) (name : Name) (actuals : Exprs) (target line : ℕ) (start : Place) (at : ℕ)
      (prefixes : List Prefix) (form : Form) → IsVisited setup start (Prefixed at prefixes form) →
      IsUnder prefixes start (place_at w result currents edge) → IsCall form name actuals →
      IsProperCall (place_at w result currents edge) name actuals →
      IsRankedCall (place_at w result currents edge) name actuals → (reach : Reach)
      (role : CallRole) → Each Good (AtCall reach role name actuals ∷ actuals_sites reach actuals) →
      Have (AtCall reach role name actuals ∷ actuals_sites reach actuals)
      (lowered_invoke (record { place = w; call = call }) next name actuals target line)
  invoke_made w here result currents edge next name actuals target line start at prefixes form
      visited under is proper ranked reach role good =
      let formals : List Formal = formals_in (kind_of w.scope name) in
      let placed : List Placed = value_exprs w formals actuals in
      let phases : Phased = phased w line next placed in
      let scalar : ℕ = next.scalars + phases.lowered.scalars in
      let values : Lowered = with_values line scalar phases in
      let rows : Lowered =
      record (rows_alone (value_rows line scalar phases.left)) { scalars = length phases.left } in
      let after : Next = behind next values in
      let made : Lowered = call (calling_of w name actuals scalar target line) after in
      let taken : AreProperActuals (place_at w result currents edge) formals actuals =
      subst (λ kind. AreProperActuals (place_at w result currents edge) (formals_in kind)
      actuals) (sym proper.called) proper.taken in
      let sites = actuals_sites reach actuals in
      let first : Have sites values =
      before_made Fine arrays_of later_of values.code sites phases.lowered rows refl refl refl
      (phased_made Fine arrays_of later_of sites w line next [] [] placed
      (actuals_made w here result currents edge line reach formals actuals taken good.1 next)) in
      let came = calls w name actuals scalar target line after (record {
        result = result;
        currents = currents;
        edge = edge;
        start = start;
        at = at;
        prefixes = prefixes;
        form = form;
        visited = visited;
        under = under;
        is = is;
        proper = proper;
        ranked = ranked;
        within = here;
        reach = reach;
        role = role;
        site = good.0;
      }) in
      let second : Have (AtCall reach role name actuals ∷ []) made = record {
        copies = ap length came.no_copies;
        arrays = omega (arith, came.arrays);
        later = omega (arith, came.later);
        fine_copies = subst (AllOf Fine) (sym came.no_copies) tt;
        fine_arrays = came.fine_arrays;
        fine_later = came.fine_later;
      } in
      joined_made Fine arrays_of later_of (piece.Then values.code made.code)
      (AtCall reach role name actuals ∷ sites) sites (AtCall reach role name actuals ∷ []) values
      made (record { reads = omega arith; calls = λ n. omega arith }) first second

  pub assign_made : (w : Where) → Here w → (result : ℕ) (currents : Currents) (edge : Option Edge)
      (line : ℕ) (next : Next) (reach : Reach) (name : Name) (op : Option Op) (value : Expr)
      (start : Place) (at : ℕ) (prefixes : List Prefix) →
      IsVisited setup start (Prefixed at prefixes (Assign name op value)) →
      IsUnder prefixes start (place_at w result currents edge) →
      IsProperForm (place_at w result currents edge) (Assign name op value) →
      IsRankedForm (place_at w result currents edge) (Assign name op value) →
      Each Good (value_sites reach name op value) →
      Have (value_sites reach name op value)
      (lowered_assign (record { place = w; call = call }) next name op value line)
  assign_made w here result currents edge line next reach name (Some op) value start at prefixes
      visited under proper ranked good =
      plain_made w here result currents edge line next reach name (Some op) value proper good
  assign_made w here result currents edge line next reach name None (Number offset value) start at
      prefixes visited under proper ranked good =
      plain_made w here result currents edge line next reach name None (Number offset value) proper good
  assign_made w here result currents edge line next reach name None (Truth offset value) start at
      prefixes visited under proper ranked good =
      plain_made w here result currents edge line next reach name None (Truth offset value) proper good
  assign_made w here result currents edge line next reach name None (Coord offset k) start at
      prefixes visited under proper ranked good =
      plain_made w here result currents edge line next reach name None (Coord offset k) proper good
  assign_made w here result currents edge line next reach name None (Named offset read) start at
      prefixes visited under proper ranked good =
      plain_made w here result currents edge line next reach name None (Named offset read) proper good
  assign_made w here result currents edge line next reach name None (Shifted offset read shift) start at
      prefixes visited under proper ranked good =
      plain_made w here result currents edge line next reach name None (Shifted offset read shift) proper good
  assign_made w here result currents edge line next reach name None (Around offset read shift) start at
      prefixes visited under proper ranked good =
      plain_made w here result currents edge line next reach name None (Around offset read shift) proper good
  assign_made w here result currents edge line next reach name None (Remap offset read indices) start at
      prefixes visited under proper ranked good =
      plain_made w here result currents edge line next reach name None (Remap offset read indices) proper good
  assign_made w here result currents edge line next reach name None (Call offset callee actuals) start at
      prefixes visited under proper ranked good =
      let role = call_place (kind_of reach.scope name) in
      let made = invoke_made w here result currents edge next callee actuals (target_of w name) line
      start at prefixes (Assign name None (Call offset callee actuals)) visited under AsAnswer proper.1 ranked reach role
      good.1 in
      record {
        copies = made.copies;
        arrays = made.arrays;
        later = made.later;
        fine_copies = made.fine_copies;
        fine_arrays = made.fine_arrays;
        fine_later = made.fine_later;
      }
  assign_made w here result currents edge line next reach name None (Paren offset inside) start at
      prefixes visited under proper ranked good =
      plain_made w here result currents edge line next reach name None (Paren offset inside) proper good
  assign_made w here result currents edge line next reach name None (Neg offset operand) start at
      prefixes visited under proper ranked good =
      plain_made w here result currents edge line next reach name None (Neg offset operand) proper good
  assign_made w here result currents edge line next reach name None (Not offset operand) start at
      prefixes visited under proper ranked good =
      plain_made w here result currents edge line next reach name None (Not offset operand) proper good
  assign_made w here result currents edge line next reach name None (Abs offset operand) start at
      prefixes visited under proper ranked good =
      plain_made w here result currents edge line next reach name None (Abs offset operand) proper good
  assign_made w here result currents edge line next reach name None (Pair offset operator left right) start at
      prefixes visited under proper ranked good =
      plain_made w here result currents edge line next reach name None (Pair offset operator left right) proper good
  assign_made w here result currents edge line next reach name None (Reduce offset operator over operand) start at
      prefixes visited under proper ranked good =
      plain_made w here result currents edge line next reach name None (Reduce offset operator over operand) proper good
  assign_made w here result currents edge line next reach name None (Scan offset operator along operand) start at
      prefixes visited under proper ranked good =
      plain_made w here result currents edge line next reach name None (Scan offset operator along operand) proper good
  assign_made w here result currents edge line next reach name None (Flood offset source operand) start at
      prefixes visited under proper ranked good =
      plain_made w here result currents edge line next reach name None (Flood offset source operand) proper good
