-- A run that was cut in two is one.
use Rattle.std.proofs.Common.{◌≡◌, ℕ, List, [], ◌∷◌, ◌++◌, Option, None, refl, sym, ◌∙◌, ap, subst, append_assoc, append-nil}
use Rattle.std.proofs.lemmas.List.Sums.{fold-append}
use Rattle.node_form.specs.declared.tables.Tables.{Tables}
use Rattle.grid_meaning.specs.Grid.{Grid, after_from, given_turn, next_turn, printed_by, processors, shown_in}
use Rattle.grid_meaning.specs.Order.{given}
use Rattle.grid_runs.specs.Run.{Run, grid_at}
use Rattle.saved_runs.specs.of_grid_save.Saved.{IsSaved}
use Rattle.resume_claims.specs.Onward.{GoesOnFrom, after_both, in_front}
use Rattle.resume_claims.specs.Saving.{saved_at}

module _ (code : Tables) (links : Option ℕ) (bytes : List ℕ) where
  turn_in_front : (grid : Grid) (p : ℕ)
      → given_turn code links (in_front bytes grid) p ≡ in_front bytes (given_turn code links grid p)
  turn_in_front grid p =
      ap (λ (printed : List ℕ). record (given_turn code links grid p) { printed = printed })
      (append_assoc bytes grid.printed (printed_by p (shown_in (next_turn code links grid p))))

  -- what was printed before stays in front
  turns_in_front : (grid : Grid) (order : List ℕ)
      → after_from code links (in_front bytes grid) order ≡ in_front bytes (after_from code links grid order)
  turns_in_front grid [] = refl
  turns_in_front grid (p ∷ order) =
      ap (λ (g : Grid). after_from code links g order) (turn_in_front grid p)
      ∙ turns_in_front (given_turn code links grid p) order

pub grid_on : (run : Run) (k : ℕ) (onward : Run) (j : ℕ) → GoesOnFrom run k onward
    → after_both run k onward j ≡ in_front (grid_at run k).printed (grid_at onward j)
grid_on run k onward j from =
    let printed = (grid_at run k).printed in
    let turns = given onward.order (processors run.code) j in
    let cut : grid_at run k ≡ in_front printed (saved_at run k) =
    ap (λ (p : List ℕ). record (grid_at run k) { printed = p }) (sym (append-nil printed)) in
    let goes : after_from run.code run.capacity (saved_at run k) turns ≡ grid_at onward j =
    ap (λ (g : Grid). after_from run.code run.capacity g turns) (sym from.start)
    ∙ (ap (λ (c : Option ℕ). after_from run.code c onward.start turns) (sym from.capacity)
    ∙ ap (λ (t : Tables). after_from t onward.capacity onward.start (given onward.order (processors t) j)) (sym from.code)) in
    fold-append (given_turn run.code run.capacity) run.start (given run.order (processors run.code) k) turns
    ∙ (ap (λ (g : Grid). after_from run.code run.capacity g turns) cut
    ∙ (turns_in_front run.code run.capacity printed (saved_at run k) turns
    ∙ ap (in_front printed) goes))

abbrev pub IsOneGrid : Type 0
IsOneGrid = (bytes : List ℕ) (code other : Tables) (grid next : Grid)
    → IsSaved bytes code grid → IsSaved bytes other next → (code ≡ other) × (grid ≡ next)
