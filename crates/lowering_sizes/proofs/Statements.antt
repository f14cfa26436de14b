-- Statements weigh no more than their words pay for, and what their calls weigh.
use Rattle.std.proofs.Common.{◌≡◌, ℕ, suc, ◌+◌, ◌≤◌, true, false, List, [], ◌∷◌, ◌++◌, length, Option, Some, None, refl, arith}
use Rattle.std.specs.Prelude.{slice_get}
use Rattle.zpl_nums.specs.declared.operators.Op.{Op}
use Rattle.zpl_tokens.specs.declared.symbols.Sym.TheVariants as sym
use Rattle.zpl_tree.specs.Syntax.{Name, Expr, Number, Truth, Coord, Named, Shifted, Around, Remap, Call, Paren, Neg, Not, Abs, Pair, Reduce, Scan, Flood, Exprs, NoExpr, ThenExpr, Assign}
use Rattle.zpl_tree.specs.Spelling.{symbol, name_words, expr_words, exprs_words, more_exprs, assign_words, form_words}
use Rattle.zpl_names.specs.Kinds.{Formal, ScalarFormal, ArrayFormal}
use Rattle.zpl_names.specs.Scope.{kind_of}
use Rattle.zpl_names.specs.Sites.{Role, Actual, Test, Assigned, Reach, Site, AtWhole, AtExpr, AtCall, AtNamed, AtDir, AtRegion, AtMask, AtStmt, AtBase, AtPosts, AtProcedure, value_sites}
use Rattle.zpl_meaning.specs.Store.{Thing, Scalar, ArrayAt, Fixed, thing_of}
use Rattle.zpl_meaning.specs.Calls.{formals_in, actual_thing}
use Rattle.zpl_meaning.specs.Points.{assigned_expr}
use Rattle.node_form.specs.Expression.{Expression, words_of}
use Rattle.zpl_lowering.specs.Where.{Stored, Numbers, Slotted, slotted_at, Where, Next, rank_for, line_of}
use Rattle.zpl_lowering.specs.Slate.{Placed}
use Rattle.zpl_lowering.specs.Reference.{refer_to, over_reference}
use Rattle.zpl_lowering.specs.Lowered.{rows_alone, behind, Phased, phased_with, phased, first_left}
use Rattle.zpl_lowering.specs.Statement.{Given, Valued, Copied, Referring, Calling, Lowering, placed_in, test_of, set_row, put_row, lowered_scalar, lowered_array, lowered_to, value_exprs, value_rows, referring, copying, given_to, with_values, lowered_invoke, target_of, lowered_assign}
use Rattle.lowering_sizes.proofs.Costs.{cost, cost_both}
use Rattle.lowering_sizes.proofs.Weights.{rows_weight}
use Rattle.lowering_sizes.proofs.LaidOut.{weight}
use Rattle.lowering_sizes.proofs.Slates.{lefts_weight, AreNarrow, IsNarrow, narrow_at, mask_two, refers_once, over_once}
use Rattle.lowering_sizes.proofs.Known.{HasThree}
use Rattle.lowering_sizes.proofs.BracketLemmas.{round_cost}
use Rattle.lowering_sizes.proofs.Phases.{both_weight, IsWithin, AreWithin, words_within, assigned_within, more_within, one_within, phases_weight, first_words}

-- ---- calls

abbrev pub call_weight : (List ℕ → ℕ) → Site → ℕ
call_weight most (AtCall reach place name actuals) = most name.text
call_weight most (AtWhole reach role expr) = 0
call_weight most (AtExpr reach rank expr) = 0
call_weight most (AtNamed reach name) = 0
call_weight most (AtDir reach dir) = 0
call_weight most (AtRegion reach hint region) = 0
call_weight most (AtMask reach prefix mask) = 0
call_weight most (AtStmt reach at prefixes form) = 0
call_weight most (AtBase base) = 0
call_weight most (AtPosts reach region posts) = 0
call_weight most (AtProcedure procedure) = 0

abbrev pub calls_weight : (List ℕ → ℕ) → List Site → ℕ
calls_weight most [] = 0
calls_weight most (site ∷ rest) = call_weight most site + calls_weight most rest

pub calls_both : (most : List ℕ → ℕ) (xs ys : List Site) →
    calls_weight most (xs ++ ys) ≡ calls_weight most xs + calls_weight most ys
calls_both most [] ys = omega arith
calls_both most (x ∷ xs) ys = omega (arith, calls_both most xs ys)

-- what parameters take is narrow too
abbrev pub GivenNarrow : Given → Type 0
GivenNarrow (Valued scalar) = Unit {0}
GivenNarrow (Copied stored home) = length stored.storage.dims ≤ 3
GivenNarrow (Referring thing) = Unit {0}

abbrev pub GivensNarrow : List Given → Type 0
GivensNarrow [] = Unit {0}
GivensNarrow (given ∷ rest) = GivenNarrow given × GivensNarrow rest

-- Where a statement is lowered: vectors and storages are narrow, and a call of a name weighs at
-- most so much.
pub record Fits (text : List ℕ → ℕ) (most : List ℕ → ℕ) (context : Lowering) : Type 0 where
  pub three : HasThree context.place.setup.known
  pub narrow : AreNarrow context.place.numbers.arrays
  pub call : (calling : Calling) (next : Next) → AreNarrow calling.numbers.arrays →
      GivensNarrow calling.actuals → weight text (context.call calling next) ≤ most calling.name

-- ---- tests and assignments

pub test_weight : (text : List ℕ → ℕ) (w : Where) (next : Next) (test : Expr) (at : ℕ) →
    HasThree w.setup.known → AreNarrow w.numbers.arrays →
    weight text (test_of w next test at).before + length (test_of w next test at).check.expr
    ≤ cost text (expr_words test) + 1
test_weight text w next test at three narrow =
    let placed = placed_in w Test test in
    let line = line_of w at in
    omega (
      arith,
      phases_weight text w line next [] [] (placed ∷ []) (cost text (expr_words test)) narrow
          (one_within text w placed (cost text (expr_words test)) (words_within text w test three)),
      first_words (phased w line next (placed ∷ [])).left,
    )

pub set_weight : (text : List ℕ → ℕ) (line : ℕ) (expr : Expression) (target : Option ℕ) →
    rows_weight text (set_row line expr target) ≤ length (words_of expr) + 1
set_weight text line expr None = omega arith
set_weight text line expr (Some scalar) = omega arith

put_weight : (text : List ℕ → ℕ) (w : Where) (line : ℕ) (over : Slotted) (expr : Expression)
    (target : Option Stored) →
    rows_weight text (put_row w line over expr target) ≤ length (words_of expr) + 4
put_weight text w line over expr None = omega arith
put_weight text w line over expr (Some stored) = omega (arith, mask_two w.numbers over.mask)

pub scalar_weight : (text : List ℕ → ℕ) (w : Where) (line : ℕ) (next : Next) (value : Placed)
    (target : Option ℕ) (n : ℕ) → AreNarrow w.numbers.arrays → IsWithin text w value.expr n →
    weight text (lowered_scalar w line next value target) ≤ n + 2
scalar_weight text w line next value target n narrow within =
    let phases = phased w line next (value ∷ []) in
    let last = set_row line (first_left phases.left) target in
    omega (
      arith,
      phases_weight text w line next [] [] (value ∷ []) n narrow (one_within text w value n within),
      first_words phases.left,
      set_weight text line (first_left phases.left) target,
      both_weight text phases.lowered (rows_alone last),
    )

array_weight : (text : List ℕ → ℕ) (w : Where) (line : ℕ) (next : Next) (over : Slotted)
    (value : Placed) (target : Option Stored) (n : ℕ) → AreNarrow w.numbers.arrays →
    IsWithin text w value.expr n →
    weight text (lowered_array w line next over value target) ≤ n + 7
array_weight text w line next over value target n narrow within =
    let own = refer_to over.slot [] target in
    let behind = over_reference w.numbers over in
    let phases = phased_with w line next own behind (value ∷ []) in
    let last = put_row w line over (first_left phases.left) target in
    omega (
      arith,
      phases_weight text w line next own behind (value ∷ []) n narrow
          (one_within text w value n within),
      first_words phases.left,
      put_weight text w line over (first_left phases.left) target,
      refers_once over.slot [] target,
      over_once w.numbers over,
      both_weight text phases.lowered (rows_alone last),
    )

to_weight : (text : List ℕ → ℕ) (w : Where) (role : Role) (line : ℕ) (next : Next)
    (value : Expr) (thing : Option Thing) (n : ℕ) → AreNarrow w.numbers.arrays →
    IsWithin text w value n →
    weight text (lowered_to w role line next value thing) ≤ n + 7
to_weight text w role line next value (Some (Scalar target)) n narrow within =
    omega (
      arith,
      scalar_weight text w line next (placed_in w role value) (slice_get w.numbers.scalars target) n
          narrow within,
    )
to_weight text w role line next value (Some (ArrayAt target home)) n narrow within =
    array_weight text w line next (slotted_at w.currents (rank_for w role)) (placed_in w role value)
    (slice_get w.numbers.arrays target) n narrow within
to_weight text w role line next value (Some (Fixed constant)) n narrow within = omega arith
to_weight text w role line next value None n narrow within = omega arith

-- ---- calls

pub values_within : (text : List ℕ → ℕ) (w : Where) (formals : List Formal) (actuals : Exprs) →
    HasThree w.setup.known →
    AreWithin text w (value_exprs w formals actuals) (cost text (more_exprs actuals))
values_within text w [] actuals three = λ line next. omega arith
values_within text w (formal ∷ formals) NoExpr three = λ line next. omega arith
values_within text w (ScalarFormal false base ∷ formals) (ThenExpr actual rest) three =
    λ line next.
    omega (
      arith,
      more_within text w (placed_in w Actual actual) (value_exprs w formals rest)
          (cost text (expr_words actual)) (cost text (more_exprs rest))
          (words_within text w actual three) (values_within text w formals rest three) line next,
      cost_both text (expr_words actual) (more_exprs rest),
    )
values_within text w (ScalarFormal true base ∷ formals) (ThenExpr actual rest) three =
    λ line next.
    omega (
      arith,
      values_within text w formals rest three line next,
      cost_both text (expr_words actual) (more_exprs rest),
    )
values_within text w (ArrayFormal by_ref base shape ∷ formals) (ThenExpr actual rest) three =
    λ line next.
    omega (
      arith,
      values_within text w formals rest three line next,
      cost_both text (expr_words actual) (more_exprs rest),
    )

pub more_exprs_cost : (text : List ℕ → ℕ) (exprs : Exprs) →
    cost text (more_exprs exprs) ≤ cost text (exprs_words exprs) + 32
more_exprs_cost text NoExpr = omega arith
more_exprs_cost text (ThenExpr first rest) =
    omega (arith, cost_both text (expr_words first) (more_exprs rest))

pub values_weight : (text : List ℕ → ℕ) (line scalar : ℕ) (exprs : List Expression) →
    rows_weight text (value_rows line scalar exprs) + length exprs ≤ lefts_weight exprs
values_weight text line scalar [] = omega arith
values_weight text line scalar (expr ∷ exprs) =
    omega (arith, values_weight text line (suc scalar) exprs)

pub with_values_weight : (text : List ℕ → ℕ) (line scalar : ℕ) (phases : Phased) →
    weight text (with_values line scalar phases)
    ≤ weight text phases.lowered + lefts_weight phases.left
with_values_weight text line scalar phases =
    omega (
      arith,
      values_weight text line scalar phases.left,
      both_weight text phases.lowered
          (record (rows_alone (value_rows line scalar phases.left)) { scalars = length phases.left }),
    )

more_givens : (one other : List Given) → GivensNarrow one → GivensNarrow other →
    GivensNarrow (one ++ other)
more_givens [] other first second = second
more_givens (given ∷ one) other first second =
    (first.0, more_givens one other first.1 second)

referring_narrow : (thing : Option Thing) → GivensNarrow (referring thing)
referring_narrow None = tt
referring_narrow (Some thing) = (tt, tt)

copying_narrow : (numbers : Numbers) (thing : Option Thing) → AreNarrow numbers.arrays →
    GivensNarrow (copying numbers thing)
copying_narrow numbers (Some (ArrayAt place home)) narrow =
    by (slice_get numbers.arrays place) refl (narrow_at numbers.arrays place narrow)
  where
    by : (stored : Option Stored) → slice_get numbers.arrays place ≡ stored →
        IsNarrow (slice_get numbers.arrays place) →
        GivensNarrow (copying numbers (Some (ArrayAt place home)))
    by None e is = rw e tt
    by (Some stored) e is = let three = rw e at is in rw e (three, tt)
copying_narrow numbers (Some (Scalar place)) narrow = tt
copying_narrow numbers (Some (Fixed value)) narrow = tt
copying_narrow numbers None narrow = tt

pub given_narrow : (w : Where) (scalar : ℕ) (formals : List Formal) (actuals : Exprs) →
    AreNarrow w.numbers.arrays → GivensNarrow (given_to w scalar formals actuals)
given_narrow w scalar [] actuals narrow = tt
given_narrow w scalar (formal ∷ formals) NoExpr narrow = tt
given_narrow w scalar (ScalarFormal false base ∷ formals) (ThenExpr actual rest) narrow =
    (tt, given_narrow w (suc scalar) formals rest narrow)
given_narrow w scalar (ScalarFormal true base ∷ formals) (ThenExpr actual rest) narrow =
    more_givens (referring (actual_thing w.environment actual)) (given_to w scalar formals rest)
    (referring_narrow (actual_thing w.environment actual))
    (given_narrow w scalar formals rest narrow)
given_narrow w scalar (ArrayFormal true base shape ∷ formals) (ThenExpr actual rest) narrow =
    more_givens (referring (actual_thing w.environment actual)) (given_to w scalar formals rest)
    (referring_narrow (actual_thing w.environment actual))
    (given_narrow w scalar formals rest narrow)
given_narrow w scalar (ArrayFormal false base shape ∷ formals) (ThenExpr actual rest) narrow =
    more_givens (copying w.numbers (actual_thing w.environment actual))
    (given_to w scalar formals rest)
    (copying_narrow w.numbers (actual_thing w.environment actual) narrow)
    (given_narrow w scalar formals rest narrow)

pub invoke_weight : (text : List ℕ → ℕ) (most : List ℕ → ℕ) (context : Lowering) (next : Next)
    (name : Name) (actuals : Exprs) (result line : ℕ) → Fits text most context →
    weight text (lowered_invoke context next name actuals result line)
    ≤ cost text (exprs_words actuals) + 32 + most name.text
invoke_weight text most context next name actuals result line fits =
    let w = context.place in
    let formals = formals_in (kind_of w.scope name) in
    let exprs = value_exprs w formals actuals in
    let phases = phased w line next exprs in
    let scalar = next.scalars + phases.lowered.scalars in
    let first = with_values line scalar phases in
    let calling : Calling = record {
      name = name.text;
      actuals = given_to w scalar formals actuals;
      currents = w.currents;
      result = result;
      numbers = w.numbers;
      line = line;
    } in
    omega (
      arith,
      phases_weight text w line next [] [] exprs (cost text (more_exprs actuals)) fits.narrow
          (values_within text w formals actuals fits.three),
      more_exprs_cost text actuals,
      with_values_weight text line scalar phases,
      fits.call calling (behind next first) fits.narrow
          (given_narrow w scalar formals actuals fits.narrow),
      both_weight text first (context.call calling (behind next first)),
    )

pub assign_words_cost : (text : List ℕ → ℕ) (name : Name) (op : Option Op) (value : Expr) →
    cost text (expr_words value) + 64 ≤ cost text (form_words (Assign name op value))
assign_words_cost text name op value =
    omega (
      arith,
      cost_both text (name_words name ++ assign_words op ++ expr_words value) (symbol sym.Semicolon),
      cost_both text (name_words name ++ assign_words op) (expr_words value),
    )

pub plain_assign : (text : List ℕ → ℕ) (context : Lowering) (next : Next) (name : Name)
    (op : Option Op) (value : Expr) (line : ℕ) (n : ℕ) → HasThree context.place.setup.known →
    AreNarrow context.place.numbers.arrays →
    weight text
    (lowered_to context.place (Assigned name op) line next (assigned_expr name op value)
    (thing_of context.place.environment name.text))
    ≤ cost text (form_words (Assign name op value)) + n
plain_assign text context next name op value line n three narrow =
    omega (
      arith,
      assign_words_cost text name op value,
      to_weight text context.place (Assigned name op) line next (assigned_expr name op value)
          (thing_of context.place.environment name.text) (cost text (expr_words value) + 32) narrow
          (assigned_within text context.place name op value three),
    )

pub assign_weight : (text : List ℕ → ℕ) (most : List ℕ → ℕ) (context : Lowering) (next : Next)
    (name : Name) (op : Option Op) (value : Expr) (line : ℕ) (reach : Reach) →
    Fits text most context →
    weight text (lowered_assign context next name op value line)
    ≤ cost text (form_words (Assign name op value))
    + calls_weight most (value_sites reach name op value)
assign_weight text most context next name (Some op) value line reach fits =
    plain_assign text context next name (Some op) value line
    (calls_weight most (value_sites reach name (Some op) value)) fits.three fits.narrow
assign_weight text most context next name None (Call at callee actuals) line reach fits =
    omega (
      arith,
      invoke_weight text most context next callee actuals (target_of context.place name) line fits,
      assign_words_cost text name None (Call at callee actuals),
      round_cost text (exprs_words actuals),
    )
assign_weight text most context next name None (Number at value) line reach fits =
    plain_assign text context next name None (Number at value) line
    (calls_weight most (value_sites reach name None (Number at value))) fits.three fits.narrow
assign_weight text most context next name None (Truth at value) line reach fits =
    plain_assign text context next name None (Truth at value) line
    (calls_weight most (value_sites reach name None (Truth at value))) fits.three fits.narrow
assign_weight text most context next name None (Coord at k) line reach fits =
    plain_assign text context next name None (Coord at k) line
    (calls_weight most (value_sites reach name None (Coord at k))) fits.three fits.narrow
assign_weight text most context next name None (Named at other) line reach fits =
    plain_assign text context next name None (Named at other) line
    (calls_weight most (value_sites reach name None (Named at other))) fits.three fits.narrow
assign_weight text most context next name None (Shifted at other shift) line reach fits =
    plain_assign text context next name None (Shifted at other shift) line
    (calls_weight most (value_sites reach name None (Shifted at other shift))) fits.three fits.narrow
assign_weight text most context next name None (Around at other shift) line reach fits =
    plain_assign text context next name None (Around at other shift) line
    (calls_weight most (value_sites reach name None (Around at other shift))) fits.three fits.narrow
assign_weight text most context next name None (Remap at other indices) line reach fits =
    plain_assign text context next name None (Remap at other indices) line
    (calls_weight most (value_sites reach name None (Remap at other indices))) fits.three fits.narrow
assign_weight text most context next name None (Paren at operand) line reach fits =
    plain_assign text context next name None (Paren at operand) line
    (calls_weight most (value_sites reach name None (Paren at operand))) fits.three fits.narrow
assign_weight text most context next name None (Neg at operand) line reach fits =
    plain_assign text context next name None (Neg at operand) line
    (calls_weight most (value_sites reach name None (Neg at operand))) fits.three fits.narrow
assign_weight text most context next name None (Not at operand) line reach fits =
    plain_assign text context next name None (Not at operand) line
    (calls_weight most (value_sites reach name None (Not at operand))) fits.three fits.narrow
assign_weight text most context next name None (Abs at operand) line reach fits =
    plain_assign text context next name None (Abs at operand) line
    (calls_weight most (value_sites reach name None (Abs at operand))) fits.three fits.narrow
assign_weight text most context next name None (Pair at op left right) line reach fits =
    plain_assign text context next name None (Pair at op left right) line
    (calls_weight most (value_sites reach name None (Pair at op left right))) fits.three fits.narrow
assign_weight text most context next name None (Reduce at op over operand) line reach fits =
    plain_assign text context next name None (Reduce at op over operand) line
    (calls_weight most (value_sites reach name None (Reduce at op over operand))) fits.three
    fits.narrow
assign_weight text most context next name None (Scan at op along operand) line reach fits =
    plain_assign text context next name None (Scan at op along operand) line
    (calls_weight most (value_sites reach name None (Scan at op along operand))) fits.three
    fits.narrow
assign_weight text most context next name None (Flood at source operand) line reach fits =
    plain_assign text context next name None (Flood at source operand) line
    (calls_weight most (value_sites reach name None (Flood at source operand))) fits.three
    fits.narrow
