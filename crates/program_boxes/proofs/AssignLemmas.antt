-- What the code of assignments and calls has of its own, where what they call has what its expanded
-- calls do.
use Rattle.std.proofs.Common.{◌≡◌, ℕ, ◌+◌, true, false, cond, List, [], ◌∷◌, ◌++◌, length, refl, sym, ap, ap₂, ◌∙◌, subst, arith, append-nil}
use Rattle.std.specs.Prelude.{Option, Some, None, flat_map, slice_get, sum_by}
use Rattle.std.specs.List.{cons_option}
use Rattle.zpl_nums.specs.declared.operators.Op.{Op}
use Rattle.zpl_region.specs.declared.regions.Region.{Region}
use Rattle.zpl_tree.specs.Syntax.{Name, Expr, Number, Truth, Coord, Named, Shifted, Around, Remap, Call, Paren, Neg, Not, Abs, Pair, Reduce, Scan, Flood, Exprs, NoExpr, ThenExpr, Prefix, Prefixed, Form, Assign}
use Rattle.zpl_names.specs.Kinds.{Rank, Formal, ScalarFormal, ArrayFormal}
use Rattle.zpl_names.specs.Scope.{Scope, kind_of, is_procedure}
use Rattle.zpl_names.specs.Accepted.{HasNoFault}
use Rattle.zpl_names.specs.Expansion.{ExpandedArray, Instance, array_named}
use Rattle.zpl_names.specs.Sites.{Reach, Role, Actual, Assigned, CallRole, whole_rank, CallSite, Site, AtCall, call_of, actuals_sites, expr_sites, whole_sites, call_place, value_sites}
use Rattle.zpl_meaning.specs.Store.{Thing, Scalar, ArrayAt, Fixed, Environment, thing_of}
use Rattle.zpl_meaning.specs.Context.{Currents, Edge, Setup, Place}
use Rattle.zpl_meaning.specs.Calls.{formals_in}
use Rattle.zpl_meaning.specs.Points.{assigned_expr}
use Rattle.zpl_meaning.specs.Proper.{IsProper, IsTarget, IsPlainAssign, AreProperActuals, IsProperCall, IsProperForm}
use Rattle.zpl_meaning.specs.Visited.{IsUnder, IsCall, AsAnswer, IsVisited}
use Rattle.zpl_meaning.proofs.DepthLemmas.{Each, each_left, each_right}
use Rattle.zpl_meaning.proofs.ProperLemmas.{taken}
use Rattle.meaning_ranks.specs.Ranked.{IsRankedCall, IsRankedForm}
use Rattle.row_runs.specs.Structured as piece
use Rattle.zpl_lowering.specs.Where.{Numbers, Where, Next, slotted_at, rank_for}
use Rattle.zpl_lowering.specs.Slate.{Placed, Slates, settled, settled_each}
use Rattle.zpl_lowering.specs.Slate as settle
use Rattle.zpl_lowering.specs.Hoist.{Free, Shifted as ShiftNoted, all_hoisted, hoisted}
use Rattle.zpl_lowering.specs.Hoist as hoist
use Rattle.zpl_lowering.specs.Reference.{Reference, refer_to, over_reference}
use Rattle.zpl_lowering.specs.Lowered.{Lowered, rows_alone, behind, Phased, phased, phased_with, first_left, free_at}
use Rattle.zpl_lowering.specs.Statement.{Calling, placed_in, put_row, lowered_to, value_exprs, lowered_invoke, with_values, value_rows, target_of, lowered_assign, set_row}
use Rattle.lowered_flat.specs.of_lowering_fits.Reach.{place_at}
use Rattle.lowered_flat.specs.of_lowering_fits.Standing.{calling_of}
use Rattle.lowered_flat.proofs.of_lowering_fits.PartLemmas.{AreRight}
use Rattle.lowered_flat.proofs.of_lowering_fits.MadeLemmas.{IsTame, proper_tame, settled_made}
use Rattle.lowered_flat.proofs.of_lowering_fits.MadeAssignLemmas.{IsWithin, IsCalling}
use Rattle.lowered_flat.proofs.of_lowering_fits.PointSiteLemmas.{actual_sites, actuals_split, IsNamed, variable_named, array_named as named_array}
use Rattle.stored_boxes.specs.Reads as told
use Rattle.stored_boxes.specs.Reads.{IsReadAs, copied, copy_shifts, own_shifts}
use Rattle.stored_boxes.proofs.ReadLemmas.{noted_behind, noted_both as both_noted, settled_noted}
use Rattle.program_boxes.specs.Own.{AreRightCalls, HasCalls, HaveRoom, arrays_of, called_in, copied_of, copies_of, noted_of, shifts_of, storages_of}
use Rattle.program_boxes.proofs.OwnLemmas.{HaveNothing, Owns, before_own, calls_both, joined_own}
use Rattle.program_boxes.proofs.QuietLemmas.{no_calls, proper_quiet}

-- a call, as the procedure's text makes it
abbrev pub call_at : Reach → Name → Exprs → CallSite
call_at reach name actuals = record { name = name; actuals = actuals; shapes = reach.shapes }

-- what each call has, wherever it is made from a visited statement
abbrev pub CallsHave : Setup → Scope → Environment → Numbers → (ExpandedArray → ℕ) →
    (CallSite → List Instance) → List ExpandedArray → ℕ → (Site → Type 0) →
    (Calling → Next → Lowered) → Type 0
CallsHave setup scope environment numbers number called all least Good call =
    (w : Where) (name : Name) (actuals : Exprs) (scalar target line : ℕ) (next : Next)
    (is : IsCalling setup scope environment numbers Good w name actuals) →
    HaveRoom all least next.arrays (called (call_at is.reach name actuals)) →
    HasCalls setup.program setup.known number all next.later
    (called (call_at is.reach name actuals))
    (call (calling_of w name actuals scalar target line) next)

module _ (setup : Setup) (scope : Scope) (environment : Environment) (numbers : Numbers)
    (number : ExpandedArray → ℕ) (instance : Instance) (called : CallSite → List Instance)
    (all : List ExpandedArray) (least : ℕ) (Good : Site → Type 0)
    (clean : (site : Site) → Good site → HasNoFault site)
    (reads : (name : Name) → IsReadAs setup.program setup.known number numbers
    (thing_of environment name.text) (array_named setup.program instance name))
    (right : AreRight setup) (call : Calling → Next → Lowered)
    (calls : CallsHave setup scope environment numbers number called all least Good call) where
  abbrev pub Here : Where → Type 0
  Here w = IsWithin setup scope environment numbers w

  abbrev Have : Next → List Site → Lowered → Type 0
  Have next sites lowered =
      Owns setup.program setup.known number instance called all least next sites lowered

  abbrev calls_of : List Site → List Instance
  calls_of sites = called_in setup.program setup.known number instance called sites

  -- what expressions have of their own is what their sites tell
  abbrev pub Settles : Next → List Site → List Region → (Free → List ShiftNoted) → Type 0
  Settles next sites storages shifts =
      told.IsNoted setup.program setup.known number instance next.copies sites storages shifts
      × (calls_of sites ≡ [])

  abbrev SettlesOne : Next → List Site → ℕ → settle.Settled settle.Slate → Type 0
  SettlesOne next sites line one =
      Settles next sites one.copies (λ free. (hoisted numbers line free one.slate).shifts)

  abbrev pub SettlesAll : Next → List Site → ℕ → settle.Settled Slates → Type 0
  SettlesAll next sites line placed =
      Settles next sites placed.copies
      (λ free. (all_hoisted numbers line free placed.slate).shifts)

  pub all_clean : (sites : List Site) → Each Good sites → Each HasNoFault sites
  all_clean [] are = tt
  all_clean (site ∷ sites) are = (clean site are.0, all_clean sites are.1)

  -- ---- lists of expressions

  pub phased_own : (sites : List Site) (w : Where) → Here w → (line : ℕ) (next : Next)
      (own last : List Reference) (placed : List Placed) →
      SettlesAll next sites line (settled_each w line next placed) →
      Have next sites (phased_with w line next own last placed).lowered
  phased_own sites w here line next own last placed is room =
      let slates = settled_each w line next placed in
      record {
        copies = is.0.copied_are;
        arrays = ap (λ cs. storages_of setup.program setup.known number (arrays_of cs)) (sym is.1);
        later_are = ap (λ cs. copied_of setup.program setup.known number
            (copies_of setup.program cs)) (sym is.1);
        shifts = λ f. omega (
          arith,
          ap (λ (n : Numbers). sum_by f (all_hoisted n line (free_at next 0) slates.slate).shifts)
              here.numbers_are,
          is.0.noted (free_at next 0) f,
          ap (λ cs. noted_of setup.program setup.known number f next.later
              (shifts_of setup.program cs) (copies_of setup.program cs)) is.1,
        );
        right = subst (AreRightCalls setup.program setup.known all) (sym is.1) tt;
      }

  pub no_settled : (w : Where) (line : ℕ) (next : Next) →
      SettlesAll next [] line (settled_each w line next [])
  no_settled w line next = (record { copied_are = refl; noted = λ free f. omega arith }, refl)

  pub first_settled : (xs ys : List Site) (w : Where) (line : ℕ) (next : Next) (one : Placed)
      (rest : List Placed) → SettlesOne next xs line (settled w line next one.rank one.expr) →
      ((after : Next) → SettlesAll after ys line (settled_each w line after rest)) →
      SettlesAll next (xs ++ ys) line (settled_each w line next (one ∷ rest))
  first_settled xs ys w line next one rest first others =
      let slate = settled w line next one.rank one.expr in
      let after = settle.behind next slate in
      let later = settled_each w line after rest in
      let is = others after in
      let noted = both_noted setup.program setup.known number instance numbers environment reads
      next.copies after.copies xs ys slate.copies later.copies
      (λ free. (hoisted numbers line free slate.slate).shifts)
      (λ free. (all_hoisted numbers line free later.slate).shifts)
      (λ free. hoist.behind free (hoisted numbers line free slate.slate)) refl first.0 is.0 in (
        record { copied_are = noted.copied_are; noted = noted.noted },
        calls_both setup.program setup.known number instance called xs ys
            ∙ ap₂ (λ a b. a ++ b) first.1 is.1,
      )

  pub one_settled : (sites : List Site) (w : Where) (line : ℕ) (next : Next) (one : Placed) →
      SettlesOne next sites line (settled w line next one.rank one.expr) →
      SettlesAll next sites line (settled_each w line next (one ∷ []))
  one_settled sites w line next one first =
      subst (λ s. SettlesAll next s line (settled_each w line next (one ∷ []))) (append-nil sites)
      (first_settled sites [] w line next one [] first (λ after. no_settled w line after))

  -- ---- expressions that stand by themselves

  at_place : (w : Where) → Here w → told.IsAt setup.known environment w
  at_place w here =
      record { known_here = ap (λ s. s.known) here.own; names_here = here.names_are }

  expr_calls : (w : Where) → Here w → (result : ℕ) (currents : Currents) (edge : Option Edge)
      (line : ℕ) (next : Next) (rank : Rank) (reach : Reach) (whole : Rank) (one : Expr) →
      IsProper (place_at w result currents edge) rank one →
      Each HasNoFault (expr_sites reach whole one) → calls_of (expr_sites reach whole one) ≡ []
  expr_calls w here result currents edge line next rank reach whole one proper good =
      let made = settled_made (λ storage. Unit {0}) setup.known environment HasNoFault
      (λ site none. none) (λ reach rank at name shift place home none is. tt) w
      (record { known_here = ap (λ s. s.known) here.own; names_here = here.names_are }) line next
      rank reach whole one
      (subst (λ e. IsTame e one) here.names_are
      (proper_tame (place_at w result currents edge) rank one proper)) good in
      ap (flat_map called) (no_calls (expr_sites reach whole one) (made.calls (λ text. 1)))

  -- an expression, at any sites that have what its own do
  pub expr_own : (w : Where) → Here w → (result : ℕ) (currents : Currents) (edge : Option Edge)
      (line : ℕ) (next : Next) (rank : Rank) (reach : Reach) (whole : Rank) (one : Expr) →
      IsProper (place_at w result currents edge) rank one →
      Each HasNoFault (expr_sites reach whole one) →
      SettlesOne next (expr_sites reach whole one) line (settled w line next rank one)
  expr_own w here result currents edge line next rank reach whole one proper good = (
    settled_noted setup.program setup.known number instance numbers environment reads w
        (at_place w here) line next rank reach whole one
        (subst (λ e. told.IsQuietWithin setup.program instance e reach whole one) here.names_are
        (proper_quiet setup.program setup.known number instance called
        (place_at w result currents edge) rank reach whole one proper good)),
    expr_calls w here result currents edge line next rank reach whole one proper good,
  )

  pub whole_own : (w : Where) → Here w → (result : ℕ) (currents : Currents) (edge : Option Edge)
      (line : ℕ) (next : Next) (rank : Rank) (reach : Reach) (role : Role) (one : Expr) →
      IsProper (place_at w result currents edge) rank one →
      Each Good (whole_sites reach role one) →
      SettlesOne next (whole_sites reach role one) line (settled w line next rank one)
  whole_own w here result currents edge line next rank reach role one proper good =
      let whole = whole_rank reach role one in
      let is = expr_own w here result currents edge line next rank reach whole one proper
      (all_clean (expr_sites reach whole one) good.1) in
      (record { copied_are = is.0.copied_are; noted = is.0.noted }, is.1)

  -- ---- assignments

  assigned_own : (w : Where) → Here w → (result : ℕ) (currents : Currents) (edge : Option Edge)
      (line : ℕ) (next : Next) (rank : Rank) (reach : Reach) (name : Name) (op : Option Op)
      (value : Expr) →
      IsProper (place_at w result currents edge) rank (assigned_expr name op value) →
      Each Good (whole_sites reach (Assigned name op) value) →
      SettlesOne next (whole_sites reach (Assigned name op) value) line
      (settled w line next rank (assigned_expr name op value))
  assigned_own w here result currents edge line next rank reach name None value proper good =
      whole_own w here result currents edge line next rank reach (Assigned name None) value proper
      good
  assigned_own w here result currents edge line next rank reach name (Some op) value proper good =
      let whole = whole_rank reach (Assigned name (Some op)) value in
      let clear = all_clean (expr_sites reach whole value) good.1 in
      let quiet = subst (λ e. told.IsQuietWithin setup.program instance e reach whole value)
      here.names_are
      (proper_quiet setup.program setup.known number instance called
      (place_at w result currents edge) rank reach whole value proper.1 clear) in
      let is = settled_noted setup.program setup.known number instance numbers environment reads w
      (at_place w here) line next rank reach whole (assigned_expr name (Some op) value)
      (tt, quiet) in (
        record { copied_are = is.copied_are; noted = is.noted },
        expr_calls w here result currents edge line next rank reach whole value proper.1 clear,
      )

  plain_own : (w : Where) → Here w → (result : ℕ) (currents : Currents) (edge : Option Edge)
      (line : ℕ) (next : Next) (reach : Reach) (name : Name) (op : Option Op) (value : Expr) →
      IsPlainAssign (place_at w result currents edge) name op value →
      Each Good (whole_sites reach (Assigned name op) value) →
      Have next (whole_sites reach (Assigned name op) value)
      (lowered_to w (Assigned name op) line next (assigned_expr name op value)
      (thing_of w.environment name.text))
  plain_own w here result currents edge line next reach name op value proper good =
      by (thing_of w.environment name.text) proper.0
    where
      sites : List Site
      sites = whole_sites reach (Assigned name op) value

      one : Placed
      one = placed_in w (Assigned name op) (assigned_expr name op value)

      settles : SettlesAll next sites line (settled_each w line next (one ∷ []))
      settles =
          one_settled sites w line next one
          (assigned_own w here result currents edge line next one.rank reach name op value proper.1
          good)

      by : (thing : Option Thing) →
          IsTarget currents (rank_for w (Assigned name op)) thing →
          Have next sites
          (lowered_to w (Assigned name op) line next (assigned_expr name op value) thing)
      by None is = absurd is
      by (Some (Fixed number)) is = absurd is
      by (Some (Scalar target)) is =
          let phases = phased w line next (one ∷ []) in
          let rows = set_row line (first_left phases.left) (slice_get w.numbers.scalars target) in
          before_own setup.program setup.known number instance called all least
          (piece.Then phases.lowered.code (piece.Rows rows)) next sites phases.lowered
          (rows_alone rows) refl refl refl refl
          (phased_own sites w here line next [] [] (one ∷ []) settles)
      by (Some (ArrayAt target home)) is =
          let over = slotted_at w.currents (rank_for w (Assigned name op)) in
          let stored = slice_get w.numbers.arrays target in
          let own = refer_to over.slot [] stored in
          let last = over_reference w.numbers over in
          let phases = phased_with w line next own last (one ∷ []) in
          let rows = put_row w line over (first_left phases.left) stored in
          before_own setup.program setup.known number instance called all least
          (piece.Then phases.lowered.code (piece.Rows rows)) next sites phases.lowered
          (rows_alone rows) refl refl refl refl
          (phased_own sites w here line next own last (one ∷ []) settles)

  -- ---- calls

  actual_own : (w : Where) → Here w → (result : ℕ) (currents : Currents) (edge : Option Edge)
      (line : ℕ) (next : Next) (rank : Rank) (reach : Reach) (one : Expr) →
      IsProper (place_at w result currents edge) rank one → Each Good (actual_sites reach one) →
      SettlesOne next (actual_sites reach one) line (settled w line next rank one)
  actual_own w here result currents edge line next rank reach (Named at name) is good =
      let own = settled_noted setup.program setup.known number instance numbers environment reads w
      (at_place w here) line next rank reach (Some 0) (Named at name) tt in
      (record { copied_are = own.copied_are; noted = own.noted }, refl)
  actual_own w here result currents edge line next rank reach (Number at value) is good =
      whole_own w here result currents edge line next rank reach Actual
      (Number at value) is good
  actual_own w here result currents edge line next rank reach (Truth at value) is good =
      whole_own w here result currents edge line next rank reach Actual
      (Truth at value) is good
  actual_own w here result currents edge line next rank reach (Coord at k) is good =
      whole_own w here result currents edge line next rank reach Actual
      (Coord at k) is good
  actual_own w here result currents edge line next rank reach (Shifted at name shift) is good =
      whole_own w here result currents edge line next rank reach Actual
      (Shifted at name shift) is good
  actual_own w here result currents edge line next rank reach (Around at name shift) is good =
      whole_own w here result currents edge line next rank reach Actual
      (Around at name shift) is good
  actual_own w here result currents edge line next rank reach (Remap at name indices) is good =
      whole_own w here result currents edge line next rank reach Actual
      (Remap at name indices) is good
  actual_own w here result currents edge line next rank reach (Call at callee actuals) is good =
      whole_own w here result currents edge line next rank reach Actual
      (Call at callee actuals) is good
  actual_own w here result currents edge line next rank reach (Paren at inside) is good =
      whole_own w here result currents edge line next rank reach Actual
      (Paren at inside) is good
  actual_own w here result currents edge line next rank reach (Neg at operand) is good =
      whole_own w here result currents edge line next rank reach Actual
      (Neg at operand) is good
  actual_own w here result currents edge line next rank reach (Not at operand) is good =
      whole_own w here result currents edge line next rank reach Actual
      (Not at operand) is good
  actual_own w here result currents edge line next rank reach (Abs at operand) is good =
      whole_own w here result currents edge line next rank reach Actual
      (Abs at operand) is good
  actual_own w here result currents edge line next rank reach (Pair at operator left right) is good
      =
      whole_own w here result currents edge line next rank reach Actual
      (Pair at operator left right) is good
  actual_own w here result currents edge line next rank reach (Reduce at operator over operand) is
      good =
      whole_own w here result currents edge line next rank reach Actual
      (Reduce at operator over operand) is good
  actual_own w here result currents edge line next rank reach (Scan at operator along operand) is
      good =
      whole_own w here result currents edge line next rank reach Actual
      (Scan at operator along operand) is good
  actual_own w here result currents edge line next rank reach (Flood at source operand) is good =
      whole_own w here result currents edge line next rank reach Actual
      (Flood at source operand) is good

  named_nothing : (reach : Reach) (actual : Expr) → IsNamed actual →
      HaveNothing setup.program setup.known number instance called (actual_sites reach actual)
  named_nothing reach (Named at name) is =
      record { no_shifts = refl; no_copies = refl; no_calls = refl }
  named_nothing reach (Number at value) is = absurd is
  named_nothing reach (Truth at value) is = absurd is
  named_nothing reach (Coord at k) is = absurd is
  named_nothing reach (Shifted at name shift) is = absurd is
  named_nothing reach (Around at name shift) is = absurd is
  named_nothing reach (Remap at name indices) is = absurd is
  named_nothing reach (Call at callee actuals) is = absurd is
  named_nothing reach (Paren at inside) is = absurd is
  named_nothing reach (Neg at operand) is = absurd is
  named_nothing reach (Not at operand) is = absurd is
  named_nothing reach (Abs at operand) is = absurd is
  named_nothing reach (Pair at operator left right) is = absurd is
  named_nothing reach (Reduce at operator over operand) is = absurd is
  named_nothing reach (Scan at operator along operand) is = absurd is
  named_nothing reach (Flood at source operand) is = absurd is

  named_first : (line : ℕ) (reach : Reach) (first : Expr) (rest : Exprs) (next : Next)
      (placed : settle.Settled Slates) → IsNamed first →
      Each Good (actuals_sites reach (ThenExpr first rest)) →
      (Each Good (actuals_sites reach rest) →
      SettlesAll next (actuals_sites reach rest) line placed) →
      SettlesAll next (actuals_sites reach (ThenExpr first rest)) line placed
  named_first line reach first rest next placed is good others =
      let xs = actual_sites reach first in
      let ys = actuals_sites reach rest in
      let split = subst (Each Good) (actuals_split reach first rest) good in
      let later = others (each_right Good xs ys split) in
      let none = named_nothing reach first is in
      subst (λ sites. SettlesAll next sites line placed) (sym (actuals_split reach first rest)) (
        noted_behind setup.program setup.known number instance numbers environment reads
            next.copies xs ys placed.copies
            (λ free. (all_hoisted numbers line free placed.slate).shifts)
            (record { shifts = none.no_shifts; copies = none.no_copies }) later.0,
        calls_both setup.program setup.known number instance called xs ys
            ∙ ap₂ (λ a b. a ++ b) none.no_calls later.1,
      )

  actuals_own : (w : Where) → Here w → (result : ℕ) (currents : Currents) (edge : Option Edge)
      (line : ℕ) (reach : Reach) (formals : List Formal) (actuals : Exprs) →
      AreProperActuals (place_at w result currents edge) formals actuals →
      Each Good (actuals_sites reach actuals) → (next : Next) →
      SettlesAll next (actuals_sites reach actuals) line
      (settled_each w line next (value_exprs w formals actuals))
  actuals_own w here result currents edge line reach [] NoExpr are good next =
      no_settled w line next
  actuals_own w here result currents edge line reach [] (ThenExpr first rest) are good next =
      absurd are
  actuals_own w here result currents edge line reach (formal ∷ formals) NoExpr are good next =
      absurd are
  actuals_own w here result currents edge line reach (ScalarFormal false base ∷ formals)
      (ThenExpr first rest) are good next =
      let xs = actual_sites reach first in
      let ys = actuals_sites reach rest in
      let split = subst (Each Good) (actuals_split reach first rest) good in
      let one = placed_in w Actual first in
      subst (λ sites. SettlesAll next sites line
      (settled_each w line next (one ∷ value_exprs w formals rest)))
      (sym (actuals_split reach first rest))
      (first_settled xs ys w line next one (value_exprs w formals rest)
      (actual_own w here result currents edge line next one.rank reach first are.0.1
      (each_left Good xs ys split))
      (λ after. actuals_own w here result currents edge line reach formals rest are.1
      (each_right Good xs ys split) after))
  actuals_own w here result currents edge line reach (ScalarFormal true base ∷ formals)
      (ThenExpr first rest) are good next =
      named_first line reach first rest next (settled_each w line next (value_exprs w formals rest))
      (variable_named w.environment first are.0) good
      (λ others. actuals_own w here result currents edge line reach formals rest are.1 others next)
  actuals_own w here result currents edge line reach (ArrayFormal true base shape ∷ formals)
      (ThenExpr first rest) are good next =
      named_first line reach first rest next (settled_each w line next (value_exprs w formals rest))
      (named_array w.environment first are.0) good
      (λ others. actuals_own w here result currents edge line reach formals rest are.1 others next)
  actuals_own w here result currents edge line reach (ArrayFormal false base shape ∷ formals)
      (ThenExpr first rest) are good next =
      named_first line reach first rest next (settled_each w line next (value_exprs w formals rest))
      (named_array w.environment first are.0) good
      (λ others. actuals_own w here result currents edge line reach formals rest are.1 others next)

  -- a call that is made is the procedure's
  pub call_there : (reach : Reach) (role : CallRole) (name : Name) (actuals : Exprs) →
      HasNoFault (AtCall reach role name actuals) →
      calls_of (AtCall reach role name actuals ∷ []) ≡ called (call_at reach name actuals)
  call_there reach role name actuals none =
      let is : call_of (AtCall reach role name actuals) ≡ Some (call_at reach name actuals) =
      ap (λ b. cond b (Some (call_at reach name actuals)) None)
      (taken reach is_procedure name none.known) in
      ap (λ found. flat_map called (cons_option found [])) is
      ∙ append-nil (called (call_at reach name actuals))

  pub invoke_own : (w : Where) → Here w → (result : ℕ) (currents : Currents) (edge : Option Edge)
      (next : Next) (name : Name) (actuals : Exprs) (target line : ℕ) (start : Place) (at : ℕ)
      (prefixes : List Prefix) (form : Form) → IsVisited setup start (Prefixed at prefixes form) →
      IsUnder prefixes start (place_at w result currents edge) → IsCall form name actuals →
      IsProperCall (place_at w result currents edge) name actuals →
      IsRankedCall (place_at w result currents edge) name actuals → (reach : Reach)
      (role : CallRole) → Each Good (AtCall reach role name actuals ∷ actuals_sites reach actuals) →
      Have next (AtCall reach role name actuals ∷ actuals_sites reach actuals)
      (lowered_invoke (record { place = w; call = call }) next name actuals target line)
  invoke_own w here result currents edge next name actuals target line start at prefixes form
      visited under is proper ranked reach role good =
      let formals : List Formal = formals_in (kind_of w.scope name) in
      let placed : List Placed = value_exprs w formals actuals in
      let phases : Phased = phased w line next placed in
      let scalar : ℕ = next.scalars + phases.lowered.scalars in
      let values : Lowered = with_values line scalar phases in
      let rows : Lowered =
      record (rows_alone (value_rows line scalar phases.left)) { scalars = length phases.left } in
      let after : Next = behind next values in
      let made : Lowered = call (calling_of w name actuals scalar target line) after in
      let taken : AreProperActuals (place_at w result currents edge) formals actuals =
      subst (λ kind. AreProperActuals (place_at w result currents edge) (formals_in kind)
      actuals) (sym proper.called) proper.taken in
      let sites = actuals_sites reach actuals in
      let site = AtCall reach role name actuals in
      let settles = actuals_own w here result currents edge line reach formals actuals taken good.1
      next in
      let first : Have next sites values =
      before_own setup.program setup.known number instance called all least values.code next sites
      phases.lowered rows refl refl refl refl
      (phased_own sites w here line next [] [] placed settles) in
      let there : calls_of (site ∷ []) ≡ called (call_at reach name actuals) =
      call_there reach role name actuals (clean site good.0) in
      let second : Have after (site ∷ []) made =
      λ room.
      let came = calls w name actuals scalar target line after
      (record {
        result = result;
        currents = currents;
        edge = edge;
        start = start;
        at = at;
        prefixes = prefixes;
        form = form;
        visited = visited;
        under = under;
        is = is;
        proper = proper;
        ranked = ranked;
        within = here;
        reach = reach;
        role = role;
        site = good.0;
      })
      (subst (λ cs. HaveRoom all least after.arrays cs) there room) in
      record {
        copies = came.copies;
        arrays = came.arrays
            ∙ ap (λ cs. storages_of setup.program setup.known number (arrays_of cs)) (sym there);
        later_are = came.later_are
            ∙ ap (λ cs. copied_of setup.program setup.known number (copies_of setup.program cs))
            (sym there);
        shifts = λ f. came.shifts f
            ∙ ap (λ cs. noted_of setup.program setup.known number f after.later
            (shifts_of setup.program cs) (copies_of setup.program cs)) (sym there)
            ∙ omega arith;
        right = subst (AreRightCalls setup.program setup.known all) (sym there) came.right;
      } in
      joined_own setup.program setup.known number instance called all least
      (piece.Then values.code made.code) next (site ∷ sites) sites (site ∷ []) values made
      (record {
        shifts_are = sym (append-nil (told.shifts_in setup.program instance sites));
        copies_are = sym (append-nil (told.copies_in setup.program instance sites));
        calls_are = calls_both setup.program setup.known number instance called (site ∷ []) sites
            ∙ ap (λ back. calls_of (site ∷ []) ++ back) settles.1
            ∙ append-nil (calls_of (site ∷ []))
            ∙ ap (λ front. front ++ calls_of (site ∷ [])) (sym settles.1);
      }) first second

  pub assign_own : (w : Where) → Here w → (result : ℕ) (currents : Currents) (edge : Option Edge)
      (line : ℕ) (next : Next) (reach : Reach) (name : Name) (op : Option Op) (value : Expr)
      (start : Place) (at : ℕ) (prefixes : List Prefix) →
      IsVisited setup start (Prefixed at prefixes (Assign name op value)) →
      IsUnder prefixes start (place_at w result currents edge) →
      IsProperForm (place_at w result currents edge) (Assign name op value) →
      IsRankedForm (place_at w result currents edge) (Assign name op value) →
      Each Good (value_sites reach name op value) →
      Have next (value_sites reach name op value)
      (lowered_assign (record { place = w; call = call }) next name op value line)
  assign_own w here result currents edge line next reach name (Some op) value start at prefixes
      visited under proper ranked good =
      plain_own w here result currents edge line next reach name (Some op) value proper good
  assign_own w here result currents edge line next reach name None (Number offset value) start at
      prefixes visited under proper ranked good =
      plain_own w here result currents edge line next reach name None (Number offset value) proper
      good
  assign_own w here result currents edge line next reach name None (Truth offset value) start at
      prefixes visited under proper ranked good =
      plain_own w here result currents edge line next reach name None (Truth offset value) proper
      good
  assign_own w here result currents edge line next reach name None (Coord offset k) start at
      prefixes visited under proper ranked good =
      plain_own w here result currents edge line next reach name None (Coord offset k) proper good
  assign_own w here result currents edge line next reach name None (Named offset read) start at
      prefixes visited under proper ranked good =
      plain_own w here result currents edge line next reach name None (Named offset read) proper
      good
  assign_own w here result currents edge line next reach name None (Shifted offset read shift)
      start at
      prefixes visited under proper ranked good =
      plain_own w here result currents edge line next reach name None (Shifted offset read shift)
      proper good
  assign_own w here result currents edge line next reach name None (Around offset read shift) start
      at
      prefixes visited under proper ranked good =
      plain_own w here result currents edge line next reach name None (Around offset read shift)
      proper good
  assign_own w here result currents edge line next reach name None (Remap offset read indices)
      start at
      prefixes visited under proper ranked good =
      plain_own w here result currents edge line next reach name None (Remap offset read indices)
      proper good
  assign_own w here result currents edge line next reach name None (Call offset callee actuals)
      start at
      prefixes visited under proper ranked good =
      let role = call_place (kind_of reach.scope name) in
      λ room.
      let own = invoke_own w here result currents edge next callee actuals (target_of w name) line
      start at prefixes (Assign name None (Call offset callee actuals)) visited under AsAnswer
      proper.1 ranked reach role good.1 in
      let is = own (record { more = room.more; stand = room.stand }) in
      record {
        copies = is.copies;
        arrays = is.arrays;
        later_are = is.later_are;
        shifts = is.shifts;
        right = is.right;
      }
  assign_own w here result currents edge line next reach name None (Paren offset inside) start at
      prefixes visited under proper ranked good =
      plain_own w here result currents edge line next reach name None (Paren offset inside) proper
      good
  assign_own w here result currents edge line next reach name None (Neg offset operand) start at
      prefixes visited under proper ranked good =
      plain_own w here result currents edge line next reach name None (Neg offset operand) proper
      good
  assign_own w here result currents edge line next reach name None (Not offset operand) start at
      prefixes visited under proper ranked good =
      plain_own w here result currents edge line next reach name None (Not offset operand) proper
      good
  assign_own w here result currents edge line next reach name None (Abs offset operand) start at
      prefixes visited under proper ranked good =
      plain_own w here result currents edge line next reach name None (Abs offset operand) proper
      good
  assign_own w here result currents edge line next reach name None (Pair offset operator left
      right) start at
      prefixes visited under proper ranked good =
      plain_own w here result currents edge line next reach name None (Pair offset operator left
      right) proper good
  assign_own w here result currents edge line next reach name None (Reduce offset operator over
      operand) start at
      prefixes visited under proper ranked good =
      plain_own w here result currents edge line next reach name None (Reduce offset operator over
      operand) proper good
  assign_own w here result currents edge line next reach name None (Scan offset operator along
      operand) start at
      prefixes visited under proper ranked good =
      plain_own w here result currents edge line next reach name None (Scan offset operator along
      operand) proper good
  assign_own w here result currents edge line next reach name None (Flood offset source operand)
      start at
      prefixes visited under proper ranked good =
      plain_own w here result currents edge line next reach name None (Flood offset source operand)
      proper good
