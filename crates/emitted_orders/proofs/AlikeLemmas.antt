-- Rows along the tree do what they do by the first processor, and rows don't look at the others of
-- their code.
use Rattle.std.proofs.Common.{◌≡◌, refl, sym, ap, ◌∙◌, ℕ, zero, suc, ◌+◌, Bool, true, false}
use Rattle.std.proofs.Common.{List, [], ◌∷◌, ◌++◌, drop, map, Option, Some, None, option_map, slice_get, subst}
use Rattle.std.proofs.Math.Path.{fun_ext}
use Rattle.std.proofs.lemmas.List.{drop-map, map-append}
use Rattle.zpl_nums.specs.declared.ends.End.TheVariants.{Done}
use Rattle.node_form.specs.Fits.{recoded}
use Rattle.node_form.specs.declared.instructions.Instr.{Instr}
use Rattle.node_form.specs.declared.instructions.Instr.TheVariants as instr
use Rattle.node_form.specs.declared.tables.Tables.{Tables}
use Rattle.row_runs.specs.Run.{Does, Effect, Ends, Result, runs, stopped, walked, went}
use Rattle.row_runs.specs.Growth.{effect_stops, rows_stop, stops_itself}
use Rattle.plan_orders.specs.of_plan_meaning.Abreast.{Abreast, start_abreast}
use Rattle.plan_orders.specs.of_plan_meaning.Act.{Followed, all_followed, found, is_vote_of, plan_act}
use Rattle.plan_orders.specs.of_plan_meaning.Act.{plan_rows, plan_run, row_does}
use Rattle.plan_orders.specs.of_plan_meaning.Loops.{looped}
use Rattle.node_emit.specs.Emit.{along_tree, emitted}
use Rattle.plan_orders.specs.InStep.{stops_within}

-- ---- a run of rows that are told by other rows
module _ {S Old New : Type 0} (act : Old → S → Effect S) (act' : New → S → Effect S)
    (new : Old → New) (same : (row : Old) (s : S) → act' (new row) s ≡ act row s) where
  walks_alike : (leap leap' : ℕ → S → Result) (rest : S → Result)
      → ((goal : ℕ) (s : S) → leap' goal s ≡ leap goal s) → (at : ℕ) (rows : List Old) (s : S)
      → walked act' leap' rest at (map new rows) s ≡ walked act leap rest at rows s
  walks_alike leap leap' rest leaps at [] s = refl
  walks_alike leap leap' rest leaps at (row ∷ rows) s =
      ap (λ effect. went leap' at s effect (λ next. walked act' leap' rest (at + 1) (map new rows)
      next)) (same row s)
      ∙ (ap (λ more. went leap' at s (act row s) more)
      (fun_ext (λ next. walks_alike leap leap' rest leaps (at + 1) rows next))
      ∙ ap (λ jump. went jump at s (act row s) (λ next. walked act leap rest (at + 1) rows next))
      (fun_ext (λ goal. fun_ext (λ s. leaps goal s))))

  pub runs_alike : (rows : List Old) (left at : ℕ) (s : S)
      → runs act' (map new rows) left at s ≡ runs act rows left at s
  runs_alike rows zero at s = refl
  runs_alike rows (suc left) at s =
      ap (λ rest. walked act' (runs act' (map new rows) left) (λ _. stopped (Ends Done)) at rest s)
      (drop-map new at rows)
      ∙ walks_alike (runs act rows left) (runs act' (map new rows) left)
      (λ _. stopped (Ends Done)) (λ goal s. runs_alike rows left goal s) at (drop at rows) s

-- ---- rows, each with the one behind it
abbrev pub followed_along : Followed → Followed
followed_along one =
    record { row = along_tree one.row; next = option_map along_tree one.next }

all_along : (rows : List Instr)
    → all_followed (map along_tree rows) ≡ map followed_along (all_followed rows)
all_along [] = refl
all_along (row ∷ []) = refl
all_along (row ∷ (next ∷ rows)) =
    ap (λ rest. record { row = along_tree row; next = Some (along_tree next) } ∷ rest)
    (all_along (next ∷ rows))

rows_along : (plan : Tables) (rows : List Instr)
    → plan_rows (recoded plan (map along_tree rows))
    ≡ map followed_along (plan_rows (recoded plan rows))
rows_along plan rows =
    ap all_followed (sym (map-append along_tree rows (instr.End ∷ [])))
    ∙ all_along (rows ++ instr.End ∷ [])

vote_along : (group : ℕ) (next : Option Instr)
    → is_vote_of group (option_map along_tree next) ≡ is_vote_of group next
vote_along group None = refl
vote_along group (Some row) = by row
  where
    by : (row : Instr) → is_vote_of group (Some (along_tree row)) ≡ is_vote_of group (Some row)
    by (instr.Set scalar expr line) = refl
    by (instr.Fix slot region) = refl
    by (instr.Dims slot parts line) = refl
    by (instr.Formed form slot from shift line) = refl
    by (instr.Need slot array shift line) = refl
    by (instr.Same target source kind line) = refl
    by (instr.Fits slot shift line) = refl
    by (instr.Room array slot) = refl
    by (instr.Clear array) = refl
    by (instr.Loop slot other) = refl
    by (instr.Start exchange) = refl
    by (instr.Finish exchange) = refl
    by (instr.Edge kind array slot shift) = refl
    by (instr.Flood array target from source) = refl
    by (instr.Part array target fold from source) = refl
    by (instr.Scan array slot fold along from mask) = refl
    by (instr.Vote other) = refl
    by (instr.Fold scalar fold) = refl
    by (instr.TreeVote other) = refl
    by (instr.TreeFold scalar fold) = refl
    by (instr.Print text) = refl
    by (instr.Number expr) = refl
    by (instr.Truth expr) = refl
    by (instr.Gather truth array slot) = refl
    by (instr.Jump goal) = refl
    by (instr.Unless expr goal line) = refl
    by (instr.Trap kind line) = refl
    by instr.End = refl
    by (instr.Remap array slot from parts) = refl

-- ---- what a row does in a plan, with any rows beside it
module _ (plan : Tables) (rows : List Instr) (links : Option ℕ) (n : ℕ) where
  abbrev code : Tables
  code = recoded plan rows

  row_along : (row : Instr) (next : Option Instr) (all : Abreast)
      → row_does code links n (along_tree row) (option_map along_tree next) all
      ≡ row_does plan links n row next all
  row_along (instr.Set scalar expr line) next all = refl
  row_along (instr.Fix slot region) next all = refl
  row_along (instr.Dims slot parts line) next all = refl
  row_along (instr.Formed form slot from shift line) next all = refl
  row_along (instr.Need slot array shift line) next all = refl
  row_along (instr.Same target source kind line) next all = refl
  row_along (instr.Fits slot shift line) next all = refl
  row_along (instr.Room array slot) next all = refl
  row_along (instr.Clear array) next all = refl
  row_along (instr.Loop slot group) next all =
      ap (λ vote. Does (found (slice_get plan.groups group) (λ members.
      looped plan n vote slot members all))) (vote_along group next)
  row_along (instr.Start exchange) next all = refl
  row_along (instr.Finish exchange) next all = refl
  row_along (instr.Edge kind array slot shift) next all = refl
  row_along (instr.Flood array target from source) next all = refl
  row_along (instr.Part array target fold from source) next all = refl
  row_along (instr.Scan array slot fold along from mask) next all = refl
  row_along (instr.Vote other) next all = refl
  row_along (instr.Fold scalar fold) next all = refl
  row_along (instr.TreeVote other) next all = refl
  row_along (instr.TreeFold scalar fold) next all = refl
  row_along (instr.Print text) next all = refl
  row_along (instr.Number expr) next all = refl
  row_along (instr.Truth expr) next all = refl
  row_along (instr.Gather truth array slot) next all = refl
  row_along (instr.Jump goal) next all = refl
  row_along (instr.Unless expr goal line) next all = refl
  row_along (instr.Trap kind line) next all = refl
  row_along instr.End next all = refl
  row_along (instr.Remap array slot from parts) next all = refl

  act_along : (one : Followed) (all : Abreast)
      → plan_act code links n (followed_along one) all ≡ plan_act plan links n one all
  act_along one all = row_along one.row one.next all

-- ---- runs
run_along : (plan : Tables) (links : Option ℕ) (a n : ℕ)
    → plan_run (recoded plan (map along_tree plan.code)) links a n ≡ plan_run plan links a n
run_along plan links a n =
    ap (λ rows. runs (plan_act plan_along links n) rows a 0 (start_abreast plan))
    (rows_along plan plan.code)
    ∙ runs_alike (plan_act plan links n) (plan_act plan_along links n) followed_along
    (act_along plan (map along_tree plan.code) links n) (plan_rows plan) a 0 (start_abreast plan)
  where
    plan_along : Tables
    plan_along = recoded plan (map along_tree plan.code)

pub emitted_runs : (tree : Bool) (grid : List ℕ) (plan : Tables) → plan.grid ≡ grid
    → (links : Option ℕ) (a n : ℕ)
    → plan_run (emitted tree grid plan) links a n ≡ plan_run plan links a n
emitted_runs true grid plan same links a n =
    subst (λ grid. plan_run (emitted true grid plan) links a n ≡ plan_run plan links a n) same
    (run_along plan links a n)
emitted_runs false grid plan same links a n =
    ap (λ grid. plan_run (record plan { grid = grid }) links a n) (sym same)

-- ---- whether runs stop by themselves
module _ {S Old New : Type 0} (act : Old → S → Effect S) (act' : New → S → Effect S)
    (new : Old → New) (same : (row : Old) (s : S) → act' (new row) s ≡ act row s) where
  steps_alike : (leap leap' : ℕ → S → Bool) → ((goal : ℕ) (s : S) → leap' goal s ≡ leap goal s)
      → (at : ℕ) (rows : List Old) (s : S)
      → rows_stop act' leap' at (map new rows) s ≡ rows_stop act leap at rows s
  steps_alike leap leap' leaps at [] s = refl
  steps_alike leap leap' leaps at (row ∷ rows) s =
      ap (λ effect. effect_stops act' leap' at s effect
      (λ next. rows_stop act' leap' (at + 1) (map new rows) next)) (same row s)
      ∙ (ap (λ more. effect_stops act' leap' at s (act row s) more)
      (fun_ext (λ next. steps_alike leap leap' leaps (at + 1) rows next))
      ∙ ap (λ jump. effect_stops act jump at s (act row s)
      (λ next. rows_stop act leap (at + 1) rows next))
      (fun_ext (λ goal. fun_ext (λ s. leaps goal s))))

  stops_alike : (rows : List Old) (left at : ℕ) (s : S)
      → stops_itself act' (map new rows) left at s ≡ stops_itself act rows left at s
  stops_alike rows zero at s = refl
  stops_alike rows (suc left) at s =
      ap (λ rest. rows_stop act' (stops_itself act' (map new rows) left) at rest s)
      (drop-map new at rows)
      ∙ steps_alike (stops_itself act rows left) (stops_itself act' (map new rows) left)
      (λ goal s. stops_alike rows left goal s) at (drop at rows) s

stops_along : (plan : Tables) (links : Option ℕ) (a n : ℕ)
    → stops_within (recoded plan (map along_tree plan.code)) links a n
    ≡ stops_within plan links a n
stops_along plan links a n =
    ap (λ rows. stops_itself (plan_act plan_along links n) rows a 0 (start_abreast plan))
    (rows_along plan plan.code)
    ∙ stops_alike (plan_act plan links n) (plan_act plan_along links n) followed_along
    (act_along plan (map along_tree plan.code) links n) (plan_rows plan) a 0 (start_abreast plan)
  where
    plan_along : Tables
    plan_along = recoded plan (map along_tree plan.code)

pub emitted_stops : (tree : Bool) (grid : List ℕ) (plan : Tables) → plan.grid ≡ grid
    → (links : Option ℕ) (a n : ℕ)
    → stops_within (emitted tree grid plan) links a n ≡ stops_within plan links a n
emitted_stops true grid plan same links a n =
    subst (λ grid. stops_within (emitted true grid plan) links a n ≡ stops_within plan links a n)
    same (stops_along plan links a n)
emitted_stops false grid plan same links a n =
    ap (λ grid. stops_within (record plan { grid = grid }) links a n) (sym same)
