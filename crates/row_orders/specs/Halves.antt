-- Half rounds: all send, or all take; and a remap read, which is some of them.
--
--   Sending, Taking   one after another, from one state to another
--   Remapping         a remap read on all processors
--   Remap             then some order leads all through
use Rattle.std.specs.Prelude.{◌≡◌, ℕ, ◌+◌, ◌<◌, ℤ, List, [], ◌∷◌, length, Option, Some, None}
use Rattle.grid_meaning.specs.of_grid_links.Machine.{Goes}
use Rattle.grid_meaning.specs.of_grid_links.Run.{count_of}
use Rattle.grid_meaning.specs.of_node_form.declared.tables.Tables.{Tables}
use Rattle.grid_meaning.specs.Collective.{Collective, Sends, TakesFrom, stage_of}
use Rattle.grid_meaning.specs.Grid.{system_over}
use Rattle.grid_meaning.specs.Local.{Local}
use Rattle.grid_meaning.specs.Turn.{act}
use Rattle.grid_paths.specs.Scene.{Leads}
use Rattle.grid_paths.specs.Path.{AreOthers}
use Rattle.row_orders.specs.Rows.{IsAtRow, taken_where, ArePartners, quiet_scene}

abbrev pub more : Local → Local
more local = record local { made = local.made + 1 }

-- one after another, from one state to another
abbrev pub Sending : Tables → ℕ → Collective → ℕ → (ℕ → List ℤ) → Local → List ℕ → Local → Type 0
Sending code p row tag words one [] other = one ≡ other
Sending code p row tag words one (q ∷ to) other =
    IsAtRow code p row one × (row.tag one ≡ tag) × (stage_of row one ≡ Some (Sends q))
    × (row.words_to one q ≡ Some (words q)) × Sending code p row tag words (more one) to other

abbrev pub Taking : Tables → ℕ → Collective → ℕ → (ℕ → List ℤ) → Local → List ℕ → Local → Type 0
Taking code p row tag words one [] other = one ≡ other
Taking code p row tag words one (q ∷ from) other =
    (next : Local) × IsAtRow code p row one × (row.tag one ≡ tag)
    × (stage_of row one ≡ Some (TakesFrom q))
    × (taken_where (row.awaits one q (length (words q))) (row.taken one q (words q)) ≡ Some next)
    × Taking code p row tag words (more next) from other

-- each by itself; requests to and from all others; answers to those who asked, and from those who
-- were asked; and the last turn
pub record Remapping (code : Tables) (links : Option ℕ) (row : ℕ → Collective)
    (one other : ℕ → Local) : Type 0 where
  pub tag : ℕ
  pub to : ℕ → List ℕ
  pub from : ℕ → List ℕ
  pub back_to : ℕ → List ℕ
  pub back_from : ℕ → List ℕ
  pub to_others : (p : ℕ) → p < count_of (system_over code links)
      → AreOthers (count_of (system_over code links)) p (to p)
  pub from_others : (p : ℕ) → p < count_of (system_over code links)
      → AreOthers (count_of (system_over code links)) p (from p)
  pub back_to_others : (p : ℕ) → p < count_of (system_over code links)
      → AreOthers (count_of (system_over code links)) p (back_to p)
  pub back_from_others : (p : ℕ) → p < count_of (system_over code links)
      → AreOthers (count_of (system_over code links)) p (back_from p)
  pub partners : ArePartners (count_of (system_over code links)) to from
  pub back_partners : ArePartners (count_of (system_over code links)) back_to back_from
  pub requests : ℕ → ℕ → List ℤ
  pub answers : ℕ → ℕ → List ℤ
  pub begun : ℕ → Local
  pub asked : ℕ → Local
  pub heard : ℕ → Local
  pub answered : ℕ → Local
  pub final : ℕ → Local
  pub begins : (p : ℕ) → p < count_of (system_over code links)
      → act code p (one p) ≡ Goes (begun p) None []
  pub asks : (p : ℕ) → p < count_of (system_over code links)
      → Sending code p (row p) tag (requests p) (begun p) (to p) (asked p)
  pub hears : (p : ℕ) → p < count_of (system_over code links)
      → Taking code p (row p) tag (λ q. requests q p) (asked p) (from p) (heard p)
  pub replies : (p : ℕ) → p < count_of (system_over code links)
      → Sending code p (row p) tag (answers p) (heard p) (back_to p) (answered p)
  pub gets : (p : ℕ) → p < count_of (system_over code links)
      → Taking code p (row p) tag (λ q. answers q p) (answered p) (back_from p) (final p)
  pub ends : (p : ℕ) → p < count_of (system_over code links)
      → act code p (final p) ≡ Goes (other p) None []

abbrev pub Remap : Tables → Option ℕ → Type 0
Remap code links =
    (row : ℕ → Collective) (one other : ℕ → Local) (is : Remapping code links row one other)
    → Leads (system_over code links) (quiet_scene one) (quiet_scene other)
    (λ p. 1 + length (is.to p) + length (is.from p) + length (is.back_to p)
    + length (is.back_from p) + 1) (λ p. [])
