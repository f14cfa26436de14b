-- What a grid has printed is what processor 0 has shown.
use Rattle.std.proofs.Common.{◌≡◌, ℕ, zero, suc, ◌==◌, List, [], ◌∷◌, ◌++◌, Option, refl, sym, ◌∙◌}
use Rattle.std.proofs.Common.{ap, append_assoc, append-nil}
use Rattle.std.proofs.lemmas.Bool.{ne_eqb}
use Rattle.std.proofs.lemmas.Grind.{flat_map-append}
use Rattle.grid_links.specs.Machine.{Moves, Over, Stuck, Waiting}
use Rattle.grid_links.specs.Run.{move_in, moves_from, moves_of, shown_by}
use Rattle.node_form.specs.declared.tables.Tables.{Tables}
use Rattle.grid_meaning.specs.Grid.{Grid, after, after_from, given_turn, next_turn, printed_by}
use Rattle.grid_meaning.specs.Grid.{shown_in, start_grid, system_over}
use Rattle.grid_meaning.specs.Turn.{Turn}

shown_first : (p : ℕ) (turn : Turn)
    → printed_by p (shown_in turn) ≡ shown_by (move_in (p == 0) turn)
shown_first zero (Moves move) = sym (append-nil move.shown)
shown_first zero Waiting = refl
shown_first zero Over = refl
shown_first zero (Stuck kind) = refl
shown_first (suc p) turn =
    sym (ap (λ b. shown_by (move_in b turn)) (ne_eqb (suc p) 0 (λ same. cc)))

printed_from : (code : Tables) (links : Option ℕ) (grid : Grid) (order : List ℕ)
    → (after_from code links grid order).printed
    ≡ grid.printed ++ shown_by (moves_from (system_over code links) grid.world order 0)
printed_from code links grid [] = sym (append-nil grid.printed)
printed_from code links grid (p ∷ order) =
    let system = system_over code links in
    let next = given_turn code links grid p in
    let turn = next_turn code links grid p in
    let rest = shown_by (moves_from system next.world order 0) in
    printed_from code links next order
    ∙ (append_assoc grid.printed (printed_by p (shown_in turn)) rest
    ∙ ap (λ l. grid.printed ++ l)
    (ap (λ l. l ++ rest) (shown_first p turn)
    ∙ sym (flat_map-append (λ m. m.shown) (move_in (p == 0) turn)
    (moves_from system next.world order 0))))

pub printed_is : (code : Tables) (links : Option ℕ) (order : List ℕ)
    → (after code links order).printed ≡ shown_by (moves_of (system_over code links) order 0)
printed_is code links order = printed_from code links (start_grid code) order
