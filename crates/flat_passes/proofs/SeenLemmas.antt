-- A run of rows that are seen by a function is the run of what is seen.
use Rattle.std.proofs.Common.{◌≡◌, refl, ap, ◌∙◌, ℕ, zero, suc, ◌+◌, List, [], ◌∷◌, map}
use Rattle.std.specs.Prelude.{drop}
use Rattle.flat_form.specs.of_zpl_nums.declared.ends.End.TheVariants.{Done}
use Rattle.flat_form.specs.of_row_runs.Run.{Effect, Ends, Result, Does, Goes, Leaps, Passes, Stops, printed}
use Rattle.flat_form.specs.of_row_runs.Run.{runs, stopped, walked, went}

module _ {Row Other S : Type 0} (act : Other → S → Effect S) (f : Row → Other) where
  abbrev seen : Row → S → Effect S
  seen row s = act (f row) s

  walked_seen : (leap other : ℕ → S → Result) → ((g : ℕ) (s : S) → leap g s ≡ other g s)
      → (rest : S → Result) (at : ℕ) (rows : List Row) (s : S)
      → walked act leap rest at (map f rows) s ≡ walked seen other rest at rows s
  walked_seen leap other same rest at [] s = refl
  walked_seen leap other same rest at (row ∷ rows) s =
      by (act (f row) s) (λ next. walked_seen leap other same rest (at + 1) rows next)
    where
      by : (effect : Effect S)
          → ((next : S) → walked act leap rest (at + 1) (map f rows) next
          ≡ walked seen other rest (at + 1) rows next)
          → went leap at s effect (walked act leap rest (at + 1) (map f rows))
          ≡ went other at s effect (walked seen other rest (at + 1) rows)
      by (Does (Goes bytes next)) more = ap (printed bytes) (more next)
      by (Does (Stops stop)) more = refl
      by (Leaps goal) more = same goal s
      by Passes more = same (at + 1) s

  drop_seen : (k : ℕ) (rows : List Row) → drop k (map f rows) ≡ map f (drop k rows)
  drop_seen zero rows = refl
  drop_seen (suc k) [] = refl
  drop_seen (suc k) (row ∷ rows) = drop_seen k rows

  pub runs_seen : (code : List Row) (left at : ℕ) (s : S)
      → runs act (map f code) left at s ≡ runs seen code left at s
  runs_seen code zero at s = refl
  runs_seen code (suc left) at s =
      ap (λ rows. walked act (runs act (map f code) left) (λ _. stopped (Ends Done)) at rows s)
      (drop_seen at code)
      ∙ walked_seen (runs act (map f code) left) (runs seen code left)
      (λ g s. runs_seen code left g s) (λ _. stopped (Ends Done)) at (drop at code) s
