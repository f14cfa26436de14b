-- Each kind of statement is its phases.
use Rattle.std.proofs.Common.{◌≡◌, ℕ, Bool, true, ◌&&◌, ℤ, List, [], ◌∷◌, ◌++◌, Some, None, refl, sym}
use Rattle.std.proofs.Common.{ap, ◌∙◌, if◌then◌else◌}
use Rattle.zpl_nums.specs.declared.ends.Border.{Border as BorderKind}
use Rattle.zpl_region.specs.declared.regions.Region.{Region}
use Rattle.zpl_tree.specs.Syntax.{Expr, Exprs, Form, ForHead, Item, Name, Return, Write}
use Rattle.zpl_names.specs.Counts.{form_nodes}
use Rattle.zpl_names.specs.Kinds.{Rank}
use Rattle.zpl_meaning.specs.Points.{form_parts, are_targets_within, exprs_read, shattered_at}
use Rattle.zpl_names.specs.Scope.{kind_of}
use Rattle.zpl_names.specs.Sites.{Role, Limit, Result, Test, handed}
use Rattle.zpl_meaning.specs.Computed.{Computed, Gives, Traps, computed_then}
use Rattle.zpl_meaning.specs.Store.{ArrayAt, Scalar, Store, with_scalar}
use Rattle.zpl_meaning.specs.Context.{Edge, Over, Place, over_at, reach_of}
use Rattle.zpl_meaning.specs.Settled.{Placed}
use Rattle.zpl_meaning.specs.Checks.{is_within, has_mask_within}
use Rattle.zpl_meaning.specs.Fields.{is_kept_in, array_over}
use Rattle.zpl_meaning.specs.Phases.{placed_in, fields_in, scalar_values, scalars_in, first_value}
use Rattle.zpl_meaning.specs.Phases.{first_field}
use Rattle.zpl_meaning.specs.Text.{printed_exprs, items_text}
use Rattle.zpl_meaning.specs.Outcome.{Outcome, counting, goes_on, prints, with_value}
use Rattle.zpl_meaning.specs.Calls.{formals_in, value_exprs, handed_on, actuals_in}
use Rattle.zpl_meaning.specs.Statement.{assign_to, border_thing, Context, exec_form}
use Rattle.zpl_meaning.specs.Statement.{head_value, line_of, start_of, step_expr, test_of}
use Rattle.meaning_phases.specs.Phased.{IsComputedIn, IsRunIn}
use Rattle.meaning_phases.specs.Statements.{split}
use Rattle.meaning_phases.specs.Statements.{actuals, answer, array_assignment, border, head, print}
use Rattle.meaning_phases.specs.Statements.{scalar_assignment, scalar_phases, test}
use Rattle.meaning_phases.proofs.PhaseLemmas.{computed_in, run_in, then_then, with_then, fields_then}

-- a statement that takes one scalar
scalar_run : (place : Place) (exprs : List Placed) (store : Store) (line : ℕ)
    (last : ℤ → Outcome)
    → IsRunIn (scalar_phases place store exprs (λ values. last (first_value values))) store line
    (with_value (computed_then (scalars_in place store exprs) (λ values.
    Gives (first_value values))) store line last)
scalar_run place exprs store line last =
    let effect : List ℤ → Outcome = λ values. last (first_value values) in
    run_in (scalar_phases place store exprs effect) store line _
    (with_then (scalars_in place store exprs) first_value store line last
    ∙ ap (λ computed. with_value computed store line effect)
    (fields_then place store true exprs scalar_values effect))

pub scalar_assigned : (place : Place) (role : Role) (target : ℕ) (value : Expr) (line : ℕ)
    (store : Store)
    → IsRunIn (scalar_assignment place role target value store) store line
    (assign_to place role (Some (Scalar target)) value line store)
scalar_assigned place role target value line store =
    scalar_run place (placed_in place role value ∷ []) store line (λ new.
    goes_on (with_scalar store target new))

pub answered : (context : Context) (n at : ℕ) (value : Expr) (store : Store)
    → IsRunIn (answer context.place value store) store (line_of context.place at)
    (exec_form context n at (Return value) store)
answered context n at value store =
    scalar_run context.place (placed_in context.place (Result None) value ∷ []) store
    (line_of context.place at) (λ new. goes_on (with_scalar store context.place.result new))

pub array_assigned : (place : Place) (role : Role) (target : ℕ) (home : Region) (value : Expr)
    (line : ℕ) (store : Store)
    → IsRunIn (array_assignment place role target value store) store line
    (assign_to place role (Some (ArrayAt target home)) value line store)
array_assigned place role target home value line store =
    let over = over_at place.currents (handed (reach_of place) role) in
    let phases = array_assignment place role target value store in
    run_in phases store line _
    (ap (λ computed. with_value computed store line phases.effect)
    (fields_then place store (is_within store over.region target && has_mask_within store over)
    (placed_in place role value ∷ [])
    (λ fields. array_over over.region (is_kept_in store over) (first_field fields))
    phases.effect))

pub printed : (context : Context) (n at : ℕ) (ends : Bool) (items : List Item) (store : Store)
    → IsRunIn (print context.place ends items store) store (line_of context.place at)
    (exec_form context n at (Write ends items) store)
printed context n at ends items store =
    let place = context.place in
    let line = line_of place at in
    let phases = print place ends items store in
    let whole : List ℕ → List ℕ = λ text. text ++ (if ends then 10 ∷ [] else []) in
    let fields = fields_in place store true (printed_exprs place items) in
    run_in phases store line _
    (ap (λ computed. with_value computed store line (prints store))
    (sym (then_then fields (items_text place items) (λ text. Gives (whole text))))
    ∙ (with_then (computed_then fields (items_text place items)) whole store line (prints store)
    ∙ ap (λ computed. with_value computed store line phases.effect)
    (fields_then place store true (printed_exprs place items) (items_text place items)
    phases.effect)))

pub bordered : (kind : BorderKind) (edge : Edge) (target : ℕ) (home : Region) (line : ℕ)
    (store : Store)
    → IsRunIn (border kind edge target store) store line
    (border_thing kind (Some edge) (Some (ArrayAt target home)) line store)
bordered kind edge target home line store =
    run_in (border kind edge target store) store line _ refl

-- ---- shattered statements

gives_itself : {A : Type 0} (computed : Computed A)
    → computed_then computed (λ a. Gives a) ≡ computed
gives_itself (Gives a) = refl
gives_itself (Traps kind) = refl

pub split_run : (place : Place) (rank : Rank) (over : Over) (line n : ℕ) (form : Form)
    (store : Store)
    → (outcome : Outcome) × IsRunIn (split place rank over line n form store) store line outcome
    × (shattered_at place rank over line n form store ≡ counting (form_nodes form) outcome)
split_run place rank over line n form store =
    let phases = split place rank over line n form store in
    let parts = form_parts form in
    let own = are_targets_within place store over.region parts && has_mask_within store over in
    let fields = fields_in place store own (exprs_read rank parts) in
    let outcome = with_value fields store line phases.effect in (
      outcome,
      run_in phases store line outcome
          (ap (λ computed. with_value computed store line phases.effect)
          (sym (gives_itself fields)
          ∙ fields_then place store own (exprs_read rank parts) (λ fields. Gives fields)
          phases.effect)),
      refl,
    )

-- ---- evaluations

pub tested : (place : Place) (expr : Expr) (at : ℕ) (store : Store)
    → IsComputedIn (test place expr store) ((test_of place expr at).value store)
tested place expr at store =
    computed_in (test place expr store) _
    (ap (λ computed. computed_then computed (λ values. Gives (first_value values)))
    (fields_then place store true (placed_in place Test expr ∷ []) scalar_values first_value))

pub headed : (place : Place) (for : ForHead) (store : Store)
    → IsComputedIn (head place for store) (head_value place store for)
headed place for store =
    computed_in (head place for store) _
    (ap (λ computed. computed_then computed (λ values. Gives (start_of for.down values)))
    (fields_then place store true
    (placed_in place Limit for.first ∷ placed_in place Limit for.last
    ∷ placed_in place Limit (step_expr for.step) ∷ []) scalar_values (start_of for.down)))

pub called : (place : Place) (name : Name) (exprs : Exprs) (store : Store)
    → IsComputedIn (actuals place name exprs store) (actuals_in place store name exprs)
called place name exprs store =
    let formals = formals_in (kind_of place.scope name) in
    let given = handed_on place.environment store formals exprs in
    computed_in (actuals place name exprs store) _
    (ap (λ computed. computed_then computed (λ values. Gives (given values)))
    (fields_then place store true (value_exprs place formals exprs) scalar_values given))
