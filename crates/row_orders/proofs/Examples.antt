-- Stages, messages on links, and joined values.
use Rattle.std.proofs.Common.{◌≡◌, ℕ, zero, suc, true, false, ℤ, List, [], ◌∷◌, refl}
use Rattle.std.specs.Prelude.{pos}
use Rattle.grid_meaning.specs.Collective.{Alone, Sends, TakesFrom, Last}
use Rattle.grid_meaning.specs.Local.{Local}
use Rattle.row_orders.specs.Rows.{delivery_stages, Flight, flying}
use Rattle.row_orders.specs.Agreement.{gathered}

acts_alone : delivery_stages true (1 ∷ []) (2 ∷ []) ≡ Alone ∷ Sends 1 ∷ TakesFrom 2 ∷ Last ∷ []
acts_alone = refl

only_takes : delivery_stages false [] (0 ∷ 2 ∷ []) ≡ TakesFrom 0 ∷ TakesFrom 2 ∷ Last ∷ []
only_takes = refl

-- processor 0 has sent to processor 1 in two exchanges that are open: in number 3, and then in 5
abbrev to_next : ℕ → List ℕ
to_next zero = 1 ∷ []
to_next (suc p) = []

abbrev flight : ℕ → ℤ → Flight
flight exchange word = record { exchange = exchange; to = to_next; words = λ p q. word ∷ [] }

on_the_way : (locals : ℕ → Local)
    → (flying locals (flight 3 (pos 7) ∷ flight 5 (pos 8) ∷ [])).links 0 1
    ≡ record { tag = 6; words = pos 7 ∷ [] } ∷ record { tag = 10; words = pos 8 ∷ [] } ∷ []
on_the_way locals = refl

none_back : (locals : ℕ → Local)
    → (flying locals (flight 3 (pos 7) ∷ flight 5 (pos 8) ∷ [])).links 1 0 ≡ []
none_back locals = refl

-- in ascending order of their senders
kept_in_order : (local : Local) → local.kept ≡ []
    → (gathered (λ q. pos q) (record local { kept = [] }) (2 ∷ 1 ∷ [])).kept
    ≡ (1, pos 1 ∷ []) ∷ (2, pos 2 ∷ []) ∷ []
kept_in_order local none = refl
