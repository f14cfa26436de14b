-- Each processor goes along by itself.
use Rattle.std.proofs.Common.{◌≡◌, ℕ, ◌<◌, ◌≤◌, List, [], ◌∷◌, ◌++◌, length, map, Option, None, refl, sym, ◌∙◌, ap, subst, arith, append-nil}
use Rattle.std.proofs.lemmas.List.{length-map}
use Rattle.grid_meaning.specs.of_grid_links.Links.{IsWithin}
use Rattle.grid_meaning.specs.of_grid_links.declared.messages.Message.{Message}
use Rattle.grid_meaning.specs.of_grid_links.Machine.{Goes}
use Rattle.grid_meaning.specs.of_grid_links.Run.{count_of}
use Rattle.grid_meaning.specs.of_node_form.declared.tables.Tables.{Tables}
use Rattle.grid_meaning.specs.Grid.{system_over}
use Rattle.grid_meaning.specs.Local.{Local}
use Rattle.grid_meaning.specs.Turn.{act}
use Rattle.grid_paths.specs.Path.{Event, Quiet}
use Rattle.grid_paths.specs.Scene.{Leads}
use Rattle.grid_paths.proofs.HaltLemmas.{quiets_send_none, quiets_take_none, quiets_show, quiets_named}
use Rattle.grid_paths.proofs.RoundLemmas.{leads_agreed, runs_in_turn}
use Rattle.row_orders.specs.Rows.{scene_of, GoAlone}
use Rattle.row_orders.proofs.DeliveryLemmas.{in_order}

pub go_alone : (code : Tables) (links : Option ℕ) → GoAlone code links
go_alone code links bytes one other on paths within =
    leads_agreed (system_over code links) (scene_of one on) (scene_of other on) (scene_of one on)
    (scene_of other on) _ _ _ _ (record { local = λ p below. refl; link = λ p q a b. refl })
    (record { local = λ p below. refl; link = λ p q a b. refl })
    (λ p below. length-map (bytes p) quiet) (λ p below. quiets_show Message (bytes p))
    (runs_in_turn (system_over code links) (λ k. k) (λ p. p) (λ p. map Quiet (bytes p))
    (scene_of one on) (scene_of other on) (in_order (count_of (system_over code links))) (record {
      path = paths;
      named = λ p below. quiets_named Message (count_of (system_over code links)) p (bytes p);
      balance = λ p q a b.
          ap (λ l. on p q ++ l) (quiets_send_none q (bytes p))
          ∙ (append-nil (on p q) ∙ sym (ap (λ l. l ++ on p q) (quiets_take_none p (bytes q))));
      early = λ p q a b sooner.
          subst (λ l. length l ≤ length (on p q)) (sym (quiets_take_none p (bytes q)))
          (omega arith);
      rooms = λ p q a b.
          subst (IsWithin links)
          (sym (ap (λ l. on p q ++ l) (quiets_send_none q (bytes p)) ∙ append-nil (on p q)))
          (within p q a b);
    }))
  where
    quiet : List ℕ → Event Message
    quiet shown = Quiet shown

-- one turn on each
pub goes_once : (code : Tables) (links : Option ℕ) (one other : ℕ → Local) (shown : ℕ → List ℕ)
    (on : ℕ → ℕ → List Message)
    → ((p : ℕ) → p < count_of (system_over code links)
    → act code p (one p) ≡ Goes (other p) None (shown p))
    → ((p q : ℕ) → p < count_of (system_over code links) → q < count_of (system_over code links)
    → IsWithin links (on p q))
    → Leads (system_over code links) (scene_of one on) (scene_of other on) (λ p. 1) shown
goes_once code links one other shown on acts within =
    leads_agreed (system_over code links) (scene_of one on) (scene_of other on) (scene_of one on)
    (scene_of other on) _ _ _ _ (record { local = λ p below. refl; link = λ p q a b. refl })
    (record { local = λ p below. refl; link = λ p q a b. refl }) (λ p below. refl)
    (λ p below. append-nil (shown p))
    (go_alone code links (λ p. shown p ∷ []) one other on (λ p below. (other p, acts p below, refl))
    within)
