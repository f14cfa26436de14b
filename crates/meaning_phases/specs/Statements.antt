-- The phases of each kind of statement that has no other in it, and of what is evaluated around
-- others: tests, the three values of a `for`, the actuals of a call.
use Rattle.std.specs.Prelude.{ℕ, Bool, true, ◌&&◌, ℤ, List, [], ◌∷◌, ◌++◌, if◌then◌else◌, None}
use Rattle.zpl_nums.specs.declared.ends.Border.{Border as BorderKind}
use Rattle.zpl_region.specs.Region.{outside_of}
use Rattle.zpl_arrays.specs.Array.{Array, element}
use Rattle.zpl_arrays.specs.Reference.{lies_in}
use Rattle.zpl_arrays.specs.Border.{border_conforms, border_source, border_sources}
use Rattle.zpl_tree.specs.Syntax.{Expr, Exprs, Form, ForHead, Item, Name}
use Rattle.zpl_names.specs.Kinds.{Rank}
use Rattle.zpl_names.specs.Scope.{kind_of}
use Rattle.zpl_names.specs.Sites.{Role, Limit, Result, Test, handed}
use Rattle.zpl_meaning.specs.Computed.{Computed, Gives, computed_then}
use Rattle.zpl_meaning.specs.Store.{Store, array_at, with_array, with_scalar}
use Rattle.zpl_meaning.specs.Context.{Edge, Over, Place, over_at, reach_of}
use Rattle.zpl_meaning.specs.Term.{NoTerm}
use Rattle.zpl_meaning.specs.Settled.{Placed, settled_each}
use Rattle.zpl_meaning.specs.Checks.{conform, is_within, has_mask_within, refer}
use Rattle.zpl_meaning.specs.Fields.{Field, everywhere, is_kept_in, array_over, fields_of}
use Rattle.zpl_meaning.specs.Phases.{placed_in, scalar_values, first_value, first_field}
use Rattle.zpl_meaning.specs.Points.{form_parts, are_targets_within, exprs_read, all_runs, runs_of}
use Rattle.zpl_meaning.specs.Points.{run_at, kept_tuples}
use Rattle.zpl_meaning.specs.Text.{printed_exprs, items_text}
use Rattle.zpl_meaning.specs.Outcome.{Outcome, goes_on, prints}
use Rattle.zpl_meaning.specs.Calls.{Handed, formals_in, value_exprs, handed_on}
use Rattle.zpl_meaning.specs.Statement.{written, Start, start_of, step_expr}
use Rattle.meaning_phases.specs.Phased.{Phases}

-- Those of a statement with these expressions, whose own references are within or not. Of its
-- values, operators over regions come first, and then what is left, at each tuple by itself.
abbrev pub phases_of : {Values Effect : Type 0} → Place → Store → Bool → List Placed →
    (List Field → Computed Values) → (Values → Effect) → Phases Values Effect
phases_of place store own exprs rest effect = record {
  regions = settled_each place store exprs;
  conformity = conform;
  references = λ terms. own && refer store terms;
  values = λ terms. computed_then (fields_of store terms) rest;
  effect = effect;
}

-- with expressions of rank 0
abbrev pub scalar_phases : {Effect : Type 0} → Place → Store → List Placed → (List ℤ → Effect) →
    Phases (List ℤ) Effect
scalar_phases place store exprs effect = phases_of place store true exprs scalar_values effect

-- ---- assignments

abbrev pub scalar_assignment : Place → Role → ℕ → Expr → Store → Phases (List ℤ) Outcome
scalar_assignment place role target value store =
    scalar_phases place store (placed_in place role value ∷ []) (λ values.
    goes_on (with_scalar store target (first_value values)))

-- the array and the mask of its current region are references too
abbrev pub array_assignment : Place → Role → ℕ → Expr → Store → Phases Array Outcome
array_assignment place role target value store =
    let over = over_at place.currents (handed (reach_of place) role) in
    phases_of place store (is_within store over.region target && has_mask_within store over)
    (placed_in place role value ∷ [])
    (λ fields. array_over over.region (is_kept_in store over) (first_field fields)) (λ values.
    goes_on (with_array store target
    (written (array_at store target) over.region (is_kept_in store over) (element values))))

-- what a procedure answers goes into the scalar that takes it
abbrev pub answer : Place → Expr → Store → Phases (List ℤ) Outcome
answer place value store =
    scalar_phases place store (placed_in place (Result None) value ∷ []) (λ values.
    goes_on (with_scalar store place.result (first_value values)))

-- ---- prints

-- the values are printed as they come, and the bytes are put when all are there
abbrev pub print : Place → Bool → List Item → Store → Phases (List ℕ) Outcome
print place line items store =
    phases_of place store true (printed_exprs place items) (items_text place items) (λ text.
    prints store (text ++ (if line then 10 ∷ [] else [])))

-- ---- borders

-- its regions are those of its prefix, so that none are left to be computed; and no value fails
abbrev pub border : BorderKind → Edge → ℕ → Store → Phases Array Outcome
border kind edge target store =
    let array = array_at store target in
    let outside = outside_of edge.shift edge.region in
    let sources = border_sources kind edge.region edge.shift in record {
      regions = Gives NoTerm;
      conformity = λ terms. border_conforms edge.shift edge.region;
      references = λ terms. lies_in outside array.storage && lies_in sources array.storage;
      values = λ terms. Gives (written array outside everywhere (λ t.
          element array (border_source kind edge.region edge.shift t)));
      effect = λ new. goes_on (with_array store target new);
    }

-- ---- shattered statements

-- The arrays that it writes and its mask are references too. Behind its phases all tuples that
-- aren't masked out run: what they do is its effect, and may be a trap, or more.
abbrev pub split : Place → Rank → Over → ℕ → ℕ → Form → Store → Phases (List Field) Outcome
split place rank over line n form store =
    let parts = form_parts form in
    phases_of place store
    (are_targets_within place store over.region parts && has_mask_within store over)
    (exprs_read rank parts) (λ fields. Gives fields) (λ fields.
    all_runs store (runs_of (run_at place rank line n form store) (kept_tuples store over)))

-- ---- what is evaluated around other statements

-- a test of rank 0 gives its value
abbrev pub test : Place → Expr → Store → Phases (List ℤ) ℤ
test place expr store =
    scalar_phases place store (placed_in place Test expr ∷ []) first_value

-- first, last and step of a `for`
abbrev pub head : Place → ForHead → Store → Phases (List ℤ) Start
head place for store =
    scalar_phases place store
    (placed_in place Limit for.first ∷ placed_in place Limit for.last
    ∷ placed_in place Limit (step_expr for.step) ∷ []) (start_of for.down)

-- the actuals that are values; what is handed on besides takes no phase
abbrev pub actuals : Place → Name → Exprs → Store → Phases (List ℤ) (List Handed)
actuals place name exprs store =
    let formals = formals_in (kind_of place.scope name) in
    scalar_phases place store (value_exprs place formals exprs)
    (handed_on place.environment store formals exprs)
