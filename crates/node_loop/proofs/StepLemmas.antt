-- What a member comes to, from what the code for its parts answers.
use Rattle.std.proofs.Common.{◌≡◌, ℕ, ◌+◌, ◌≤◌, Bool, true, List, length, set, refl, sym, ap, ◌∙◌, subst, ℤ, arith}
use Rattle.std.specs.Prelude.{Result, Ok, Err}
use Rattle.zpl_arrays.specs.Array.{Array}
use Rattle.node_form.specs.Group as group
use Rattle.node_form.specs.Group.{Point, Step, GoesOn, with_value}
use Rattle.node_form.specs.Value.{Computed, Gives}
use Rattle.grid_meaning.specs.Loop.{point_of, with_point}
use Rattle.node_local.specs.Computing.{computed_by}
use Rattle.node_local.specs.Undo.{undone}
use Rattle.node_local.specs.Workplace.{Workplace}
use Rattle.node_local.specs.declared.changes.Change.{Change}
use Rattle.node_local.specs.declared.values.NoValue.{NoValue}
use Rattle.node_local.specs.declared.values.NoValue.TheVariants.{Divides, Lacks}
use Rattle.node_loop.specs.declared.members.Next.{Next}
use Rattle.node_loop.specs.declared.members.Next.TheVariants.{On}
use Rattle.node_loop.specs.declared.modes.Mode.TheVariants.{Runs}
use Rattle.node_loop.specs.Step.{Changes, IsStep, StaysWhereStopped, by_mask, depth_after, step_of}

-- ---- where nothing changes
unchanged : (w : Workplace) → Changes 1 w w
unchanged w = record { same = refl; back = refl; long = omega arith }

stays : (result : Result Next NoValue) (w : Workplace) → StaysWhereStopped result w w
stays (Ok next) w = tt
stays (Err none) w = refl

pub still : (step : Step (List Array)) (deepest : ℕ) (before after : Workplace) (result : Result Next NoValue)
    → after ≡ before → step ≡ step_of result (point_of before.local) → depth_after result ≤ deepest
    → IsStep step deepest before after result
still step deepest before after result same comes deep =
    subst (λ w. IsStep step deepest before w result) (sym same)
    (record { comes_to = comes; changes = unchanged before; stays = stays result before; deep = deep })

-- ---- where there is no value
pub stops : (none : NoValue) (step : Step (List Array)) (before after : Workplace) → after ≡ before
    → step ≡ step_of (Err none) (point_of before.local) → IsStep step 0 before after (Err none)
stops none step before after same comes = still step 0 before after (Err none) same comes (omega arith)

pub value_stops : (none : NoValue) (next : ℤ → Step (List Array)) (point : Point (List Array))
    → with_value (computed_by (Err none)) next ≡ step_of (Err none) point
value_stops Divides next point = refl
value_stops Lacks next point = refl

-- ---- where something changes
pub changed : (step : Step (List Array)) (before after : Workplace) → step ≡ GoesOn group.Runs (point_of after.local)
    → Changes 1 before after → IsStep step 0 before after (Ok (On Runs))
changed step before after comes changes =
    record { comes_to = comes; changes = changes; stays = tt; deep = omega arith }

pub stores_change : (before after : Workplace) (stores : List Array) (log : List Change)
    → after ≡ record before { local = record before.local { stores = stores }; log = log }
    → undone after.log (point_of after.local) ≡ undone before.log (point_of before.local)
    → length after.log ≤ length before.log + 1 → Changes 1 before after
stores_change before after stores log is back long = record {
  same = subst (λ (w : Workplace). w ≡ record before { local = with_point before.local (point_of w.local); log = w.log })
      (sym is) refl;
  back = back;
  long = long;
}

pub scalars_change : (before after : Workplace) (scalars : List ℤ) (log : List Change)
    → after ≡ record before { local = record before.local { scalars = scalars }; log = log }
    → undone after.log (point_of after.local) ≡ undone before.log (point_of before.local)
    → length after.log ≤ length before.log + 1 → Changes 1 before after
scalars_change before after scalars log is back long = record {
  same = subst (λ (w : Workplace). w ≡ record before { local = with_point before.local (point_of w.local); log = w.log })
      (sym is) refl;
  back = back;
  long = long;
}

pub cells_change : (before after : Workplace) (cells : List ℤ) (log : List Change)
    → after ≡ record before { local = record before.local { cells = cells }; log = log }
    → undone after.log (point_of after.local) ≡ undone before.log (point_of before.local)
    → length after.log ≤ length before.log + 1 → Changes 1 before after
cells_change before after cells log is back long = record {
  same = subst (λ (w : Workplace). w ≡ record before { local = with_point before.local (point_of w.local); log = w.log })
      (sym is) refl;
  back = back;
  long = long;
}

-- ---- behind a mask
-- what is computed has no value
pub none_of_value : (passes : Bool) (none : NoValue) (skip step : Step (List Array)) (next : ℤ → Step (List Array))
    (value : Computed ℤ) (before after : Workplace) (result : Result Next NoValue)
    → step ≡ by_mask (Ok passes) skip (with_value value next) → passes ≡ true → value ≡ computed_by (Err none)
    → after ≡ before → result ≡ Err none → IsStep step 0 before after result
none_of_value passes none skip step next value before after result is open_mask computed same ends =
    subst (IsStep step 0 before after) (sym ends)
    (stops none step before after same
    (is
    ∙ (ap (λ b. by_mask (Ok b) skip (with_value value next)) open_mask
    ∙ (ap (λ v. with_value v next) computed ∙ value_stops none next (point_of before.local)))))

-- and has one
pub of_value : (passes : Bool) (v : ℤ) (skip step : Step (List Array)) (next : ℤ → Step (List Array)) (value : Computed ℤ)
    → step ≡ by_mask (Ok passes) skip (with_value value next) → passes ≡ true → value ≡ Gives v → step ≡ next v
of_value passes v skip step next value is open_mask computed =
    is
    ∙ (ap (λ b. by_mask (Ok b) skip (with_value value next)) open_mask ∙ ap (λ c. with_value c next) computed)

pub cell_kept : (before mid after : Workplace) (cell : ℕ) (v : ℤ) (step : Step (List Array)) → mid ≡ before
    → after ≡ record mid { local = record mid.local { cells = set mid.local.cells cell v }; log = after.log }
    → undone after.log (point_of after.local) ≡ undone mid.log (point_of mid.local)
    → length after.log ≤ length mid.log + 1
    → step ≡ GoesOn group.Runs (record (point_of before.local) { cells = set before.local.cells cell v })
    → IsStep step 0 before after (Ok (On Runs))
cell_kept before mid after cell v step same is back long comes =
    let here : after ≡ record before { local = record before.local { cells = set before.local.cells cell v }; log = after.log } =
    is ∙ ap (λ (w : Workplace). record w { local = record w.local { cells = set w.local.cells cell v }; log = after.log }) same in
    changed step before after (comes ∙ ap (λ (w : Workplace). GoesOn group.Runs (point_of w.local)) (sym here))
    (cells_change before after (set before.local.cells cell v) after.log here
    (back ∙ ap (λ (w : Workplace). undone w.log (point_of w.local)) same)
    (subst (λ (w : Workplace). length after.log ≤ length w.log + 1) same long))

pub scalar_joined : (before mid after : Workplace) (scalar : ℕ) (v : ℤ) (step : Step (List Array)) → mid ≡ before
    → after ≡ record mid { local = record mid.local { scalars = set mid.local.scalars scalar v }; log = after.log }
    → undone after.log (point_of after.local) ≡ undone mid.log (point_of mid.local)
    → length after.log ≤ length mid.log + 1
    → step ≡ GoesOn group.Runs (record (point_of before.local) { scalars = set before.local.scalars scalar v })
    → IsStep step 0 before after (Ok (On Runs))
scalar_joined before mid after scalar v step same is back long comes =
    let here : after ≡ record before { local = record before.local { scalars = set before.local.scalars scalar v }; log = after.log } =
    is ∙ ap (λ (w : Workplace). record w { local = record w.local { scalars = set w.local.scalars scalar v }; log = after.log }) same in
    changed step before after (comes ∙ ap (λ (w : Workplace). GoesOn group.Runs (point_of w.local)) (sym here))
    (scalars_change before after (set before.local.scalars scalar v) after.log here
    (back ∙ ap (λ (w : Workplace). undone w.log (point_of w.local)) same)
    (subst (λ (w : Workplace). length after.log ≤ length w.log + 1) same long))

pub value_put : (before mid after : Workplace) (stores : List Array) (step : Step (List Array)) → mid ≡ before
    → after ≡ record mid { local = record mid.local { stores = stores }; log = after.log }
    → undone after.log (point_of after.local) ≡ undone mid.log (point_of mid.local)
    → length after.log ≤ length mid.log + 1
    → step ≡ GoesOn group.Runs (record (point_of before.local) { store = stores })
    → IsStep step 0 before after (Ok (On Runs))
value_put before mid after stores step same is back long comes =
    let here : after ≡ record before { local = record before.local { stores = stores }; log = after.log } =
    is ∙ ap (λ (w : Workplace). record w { local = record w.local { stores = stores }; log = after.log }) same in
    changed step before after (comes ∙ ap (λ (w : Workplace). GoesOn group.Runs (point_of w.local)) (sym here))
    (stores_change before after stores after.log here
    (back ∙ ap (λ (w : Workplace). undone w.log (point_of w.local)) same)
    (subst (λ (w : Workplace). length after.log ≤ length w.log + 1) same long))
